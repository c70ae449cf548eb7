-- The graph of a register is sound.
use Rattle.std.proofs.Common.{◌≡◌, ℕ, zero, suc, ◌+◌, ◌<◌, ◌≤◌, true, false, cond, ◌&&◌, eqb, ◌⊎◌, List, [], ◌∷◌, length, sym, refl, ap, ◌∙◌, subst, inl, inr, ⊎_elim, arith}
use mathlib.Core.List.Memᴰ
use mathlib.Core.List.{Memᴰ}
use Rattle.std.specs.List.{AllByRecursion}
use Rattle.std.proofs.lemmas.Bool.{cases_Bool, cond-true, cond-false, and_parts, and_from}
use Rattle.std.proofs.lemmas.Bool.Decides.{nat_tests}
use Rattle.network.specs.Graph.{Graph, Sound, At, back}
use Rattle.network.specs.Links.{Absent, Apart}
use Rattle.network.specs.Registers.{Given, Ended, Meaning, Valid, graph, links_from, told, touches}
use Rattle.network.specs.Rulings.{Ruling, Lawful}
use Rattle.network.specs.declared.link.Link.{Link}

-- ---- sites that do not exist

pub nowhere_told : {V : Type 0} (sites u i : ℕ) (xs : List (Given V)) → sites ≤ u → AllByRecursion (Ended sites) xs → links_from u i xs ≡ []
nowhere_told sites u i [] out h = refl
nowhere_told sites u i (x ∷ xs) out h =
    let more = nowhere_told sites u (suc i) xs out h.1 in grind (arith, nat_tests, h.0)

-- ---- the link at a place

-- x stands at place n of the list
abbrev pub Placed : {X : Type 0} → List X → ℕ → X → Type 0
Placed [] n x = ⊥
Placed (y ∷ ys) zero x = y ≡ x
Placed (y ∷ ys) (suc n) x = Placed ys n x

placed_same : {X : Type 0} (xs : List X) (n : ℕ) (x y : X) → Placed xs n x → Placed xs n y → x ≡ y
placed_same [] n x y p q = absurd p
placed_same (z ∷ zs) zero x y p q = cc
placed_same (z ∷ zs) (suc n) x y p q = placed_same zs n x y p q

placed_below : {X : Type 0} (xs : List X) (n : ℕ) (x : X) → Placed xs n x → n < length xs
placed_below [] n x p = absurd p
placed_below (z ∷ zs) zero x p = omega arith
placed_below (z ∷ zs) (suc n) x p = let more = placed_below zs n x p in omega arith

placed_all : {X : Type 0} (P : X → Type 0) (xs : List X) (n : ℕ) (x : X) → Placed xs n x → AllByRecursion P xs → P x
placed_all P [] n x p a = absurd p
placed_all P (z ∷ zs) zero x p a = subst P p a.0
placed_all P (z ∷ zs) (suc n) x p a = placed_all P zs n x p a.1

-- ---- a link that is told, and the place that it stands at

-- l is the standing link x of the list, at its place, told at the site u: its number is i more than the place
pub record Told {V : Type 0} (u : ℕ) (l : Link V) (i : ℕ) (xs : List (Given V)) : Type 0 where
  pub place : ℕ
  pub item : Given V
  pub placed : Placed xs place item
  pub is : l ≡ told u (i + place) item
  pub standing : item.standing ≡ true
  pub touching : touches u item ≡ true

-- one link more in front
told_later : {V : Type 0} (u i : ℕ) (l : Link V) (x : Given V) (xs : List (Given V)) → Told u l (suc i) xs → Told u l i (x ∷ xs)
told_later u i l x xs r =
    let number : suc i + r.place ≡ i + suc r.place = omega arith in
    record {
      place = suc r.place;
      item = r.item;
      placed = r.placed;
      is = r.is ∙ ap (λ n. told u n r.item) number;
      standing = r.standing;
      touching = r.touching;
    }

pub told_at : {V : Type 0} (u i : ℕ) (l : Link V) (xs : List (Given V)) → Memᴰ l (links_from u i xs) → Told u l i xs
told_at u i l [] m = absurd (Memᴰ.not-nil m)
told_at u i l (x ∷ xs) m =
    ⊎_elim
    (λ t.
    let parts = and_parts x.standing (touches u x) t in
    let number : i ≡ i + 0 = omega arith in
    ⊎_elim
    (λ e. record { place = 0; item = x; placed = refl; is = e ∙ ap (λ n. told u n x) number; standing = parts.0; touching = parts.1 })
    (λ more. told_later u i l x xs (told_at u (suc i) l xs more))
    (Memᴰ.cases_cons (subst (λ ls. Memᴰ l ls) (cond-true (x.standing && touches u x) _ _ t) m)))
    (λ f. told_later u i l x xs (told_at u (suc i) l xs (subst (λ ls. Memᴰ l ls) (cond-false (x.standing && touches u x) _ _ f) m)))
    (cases_Bool (x.standing && touches u x))

pub at_told : {V : Type 0} (u i n : ℕ) (x : Given V) (xs : List (Given V)) → Placed xs n x → x.standing ≡ true → touches u x ≡ true → Memᴰ (told u (i + n) x) (links_from u i xs)
at_told u i n x [] p s t = absurd p
at_told u i zero x (y ∷ ys) p s t =
    let here : (y.standing && touches u y) ≡ true = and_from _ _ (ap (λ z. z.standing) p ∙ s) (ap (touches u) p ∙ t) in
    let number : i + 0 ≡ i = omega arith in
    subst (λ ls. Memᴰ (told u (i + 0) x) ls) (sym (cond-true (y.standing && touches u y) (told u i y ∷ links_from u (suc i) ys) (links_from u (suc i) ys) here))
    (Memᴰ.head (ap (λ n. told u n x) number ∙ ap (told u i) (sym p)))
at_told u i (suc n) x (y ∷ ys) p s t =
    let number : i + suc n ≡ suc i + n = omega arith in
    let more = Memᴰ.cast (ap (λ k. told u k x) number) (at_told u (suc i) n x ys p s t) in
    elim (y.standing && touches u y) as (λ b. Memᴰ (told u (i + suc n) x) (cond b (told u i y ∷ links_from u (suc i) ys) (links_from u (suc i) ys)))
    [ true ↦ Memᴰ.tail more | false ↦ more ]

-- ---- marks

-- no mark is below the first number
absent_below : {V : Type 0} (u i n : ℕ) (xs : List (Given V)) → n < i → Absent n (links_from u i xs)
absent_below u i n [] h = tt
absent_below u i n (x ∷ xs) h =
    let more = absent_below u (suc i) n xs (omega arith) in
    elim (x.standing && touches u x) as (λ b. Absent n (cond b (told u i x ∷ links_from u (suc i) xs) (links_from u (suc i) xs)))
    [ true ↦ (λ e. omega arith, more) | false ↦ more ]

marks_apart : {V : Type 0} (u i : ℕ) (xs : List (Given V)) → Apart (links_from u i xs)
marks_apart u i [] = tt
marks_apart u i (x ∷ xs) =
    elim (x.standing && touches u x) as (λ b. Apart (cond b (told u i x ∷ links_from u (suc i) xs) (links_from u (suc i) xs)))
    [ true ↦ (absent_below u (suc i) i xs (omega arith), marks_apart u (suc i) xs) | false ↦ marks_apart u (suc i) xs ]

-- ---- the two ends of a link

abbrev far : {V : Type 0} → ℕ → Given V → ℕ
far u x = cond (eqb x.one u) x.other x.one

far_exists : {V : Type 0} (sites u : ℕ) (x : Given V) → Ended sites x → far u x < sites
far_exists sites u x e = grind (arith, nat_tests, e.0, e.1)

far_touches : {V : Type 0} (u : ℕ) (x : Given V) → touches u x ≡ true → touches (far u x) x ≡ true
far_touches u x t = grind (arith, nat_tests)

-- from the far site, u is far
far_far : {V : Type 0} (u : ℕ) (x : Given V) → touches u x ≡ true → far (far u x) x ≡ u
far_far u x t = grind (arith, nat_tests)

-- a site that the link touches is u or the far one, from where u is far
ends : {V : Type 0} (u v : ℕ) (x : Given V) → touches u x ≡ true → touches v x ≡ true → (v ≡ u) ⊎ ((v ≡ far u x) × (far v x ≡ u))
ends u v x t s = grind (arith, nat_tests)

-- ---- all together

module _ {V : Type 0} (m : Meaning V) (valid : Valid m) where
  told_back : (u : ℕ) (l : Link V) → At (graph m) u l → At (graph m) l.far (back u l)
  told_back u l at =
      let r = told_at u 0 l m.given at in
      let x = r.item in
      let f : l.far ≡ far u x = ap (λ k. k.far) r.is in
      let same : back u l ≡ told (far u x) (0 + r.place) x = cc (far_far u x r.touching) in
      subst (λ v. Memᴰ (back u l) (links_from v 0 m.given)) (sym f)
      (Memᴰ.cast same (at_told (far u x) 0 r.place x m.given r.placed r.standing (far_touches u x r.touching)))

  far_inside : (u : ℕ) (l : Link V) → At (graph m) u l → l.far < m.sites
  far_inside u l at =
      let r = told_at u 0 l m.given at in
      omega (arith, ap (λ k. k.far) r.is, far_exists m.sites u r.item (placed_all (Ended m.sites) m.given r.place r.item r.placed valid.ends))

  mark_low : (u : ℕ) (l : Link V) → At (graph m) u l → l.mark < 65536
  mark_low u l at =
      let r = told_at u 0 l m.given at in
      omega (arith, ap (λ k. k.mark) r.is, placed_below m.given r.place r.item r.placed, valid.few, valid.few_places)

  one : (u v : ℕ) (l k : Link V) → At (graph m) u l → At (graph m) v k → l.mark ≡ k.mark → ((v ≡ u) × (k ≡ l)) ⊎ ((v ≡ l.far) × (k ≡ back u l))
  one u v l k at_u at_v e =
      let r = told_at u 0 l m.given at_u in
      let s = told_at v 0 k m.given at_v in
      let place : s.place ≡ r.place = omega (arith, ap (λ z. z.mark) r.is, ap (λ z. z.mark) s.is) in
      let item : s.item ≡ r.item = placed_same m.given r.place s.item r.item (subst (λ i. Placed m.given i s.item) place s.placed) r.placed in
      ⊎_elim (λ same. inl (same, cc)) (λ h. inr (cc, cc)) (ends u v r.item r.touching (ap (touches v) (sym item) ∙ s.touching))

  pub sound : Sound (graph m)
  sound = record {
    far_exists = far_inside;
    nowhere_else = λ u out. nowhere_told m.sites u 0 m.given out valid.ends;
    both_ends = told_back;
    low_marks = mark_low;
    one_link = one;
    once = λ u. marks_apart u 0 m.given;
  }

-- what the graph of every network shows
pub shown : {S M C V : Type 0} {means : S → M} {graph : M → Graph V} {Valid : M → Type 0} {rule : M → C → Ruling M} → Lawful means graph Valid rule → (net : S) → Sound (graph (means net))
shown {means = means} lawful net = lawful.sound (means net) (lawful.valid net)
