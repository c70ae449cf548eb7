-- How many entries balls have is settled by the network and its hubs alone.
use Rattle.std.proofs.Common.{◌≡◌, ℕ, zero, suc, ◌<◌, ◌≤◌, ◌⊎◌, List, length, get_or, Option, sym, ◌∙◌, subst, inl, inr, ⊎_elim, arith}
use Rattle.std.proofs.lemmas.Bool.{cases_lt, cases_order}
use Rattle.weight.specs.Algebra.{Algebra}
use Rattle.network.specs.Graph.{Graph}
use Rattle.network.specs.Walks.{Below}
use Rattle.oracle.specs.Radius.{radius_of}
use Rattle.oracle.proofs.Unique.{one_radius}
use Rattle.shortest.specs.Finding.{Found, source_label}
use Rattle.shortest.specs.declared.waiting.Label.{Label}
use Rattle.shortest.proofs.Pigeons.{crowded}
use Rattle.shortest.proofs.Searching.{at_place}
use Rattle.shortest.proofs.Settled.{mem_place}
use Rattle.filling.specs.Standing.{Balls}

module _ {V : Type 0} (k : Algebra V) (g : Graph V) (v : ℕ) (cut : Option V) where
  abbrev source : Label V
  source = source_label k v

  -- two searches from one source below one limit: each site that the one finds has a place in what the other finds
  module _ (xs ys : List (Label V)) (f : Found k g v cut xs) (h : Found k g v cut ys) where
    abbrev AtPlace : ℕ → Type 0
    AtPlace j = (i : ℕ) × (i < length xs) × ((get_or xs i source).site ≡ (get_or ys j source).site)

    same_site : (j : ℕ) → j < length ys → AtPlace j
    same_site j lt =
        let y = get_or ys j source in
        let there = h.distances y (at_place ys j source lt) in
        let x = f.whole y.site there.0.walk there.0.joins (subst (λ (d : V). Below k d cut) (sym there.0.totals) there.1) in
        let at = mem_place x.0 xs x.1 in
        (at.0, at.1, cc (at.2 source, x.2))

    -- the place of the j-th site, where there is a j-th site
    abbrev Spot : ℕ → Type 0
    Spot j = AtPlace j ⊎ (length ys ≤ j)

    spot : (j : ℕ) → Spot j
    spot j = ⊎_elim (λ (lt : j < length ys). inl (same_site j lt)) (λ (ge : length ys ≤ j). inr ge) (cases_lt j (length ys))

    abbrev number : (j : ℕ) → Spot j → ℕ
    number j (inl a) = a.0
    number j (inr b) = 0

    placed_by : (j : ℕ) → j < length ys → (at : Spot j) → (number j at < length xs) × ((get_or xs (number j at) source).site ≡ (get_or ys j source).site)
    placed_by j lt (inl a) = (a.1, a.2)
    placed_by j lt (inr b) = absurd (omega arith)

    no_clash : (i j : ℕ) → i < j → j < length ys → number i (spot i) ≡ number j (spot j) → ⊥
    no_clash i j less lt e =
        h.once i j source less lt (cc ((placed_by i (omega arith) (spot i)).1, (placed_by j lt (spot j)).1))

    no_two : (i j : ℕ) → i < length ys → j < length ys → number i (spot i) ≡ number j (spot j) → i ≡ j
    no_two i j li lj e =
        ⊎_elim (λ (same : i ≡ j). same)
        (λ o. ⊎_elim (λ (less : i < j). absurd (no_clash i j less lj e)) (λ (less : j < i). absurd (no_clash j i less li (sym e))) o)
        (cases_order i j)

    pub no_more : length ys ≤ length xs
    no_more =
        ⊎_elim
        (λ (few : length xs < length ys).
        absurd (crowded (length xs) (λ j. number j (spot j)) (λ j le. (placed_by j (omega arith) (spot j)).0) (λ i j li lj e. no_two i j (omega arith) (omega arith) e)))
        (λ (le : length ys ≤ length xs). le)
        (cases_lt (length xs) (length ys))

  pub as_many : (xs ys : List (Label V)) → Found k g v cut xs → Found k g v cut ys → length xs ≡ length ys
  as_many xs ys f h = let le = no_more xs ys f h in let ge = no_more ys xs h f in omega arith

module _ {V : Type 0} (k : Algebra V) (g : Graph V) (hubs : List ℕ) where
  pub one_count : (v m n : ℕ) → Balls k g hubs v m → Balls k g hubs v n → m ≡ n
  one_count zero m n p q = p ∙ sym q
  one_count (suc v) m n p q =
      let near : p.1 ≡ q.1 = one_radius k g hubs v p.1 q.1 p.4.radius q.4.radius in
      let few : length p.2 ≡ length q.2 = as_many k g v (radius_of q.1) p.2 q.2 (subst (λ (o : Option (ℕ × V)). Found k g v (radius_of o) p.2) near p.4.sites) q.4.sites in
      omega (arith, p.5, q.5, one_count v p.0 q.0 p.3 q.3)

  -- more sites have no fewer entries
  pub more_entries : (w v m n : ℕ) → Balls k g hubs v m → Balls k g hubs w n → v ≤ w → m ≤ n
  more_entries zero v m n p q le =
      let none : v ≡ 0 = omega arith in
      let same : m ≡ n = one_count v m n p (subst (λ (x : ℕ). Balls k g hubs x n) (sym none) q) in
      omega arith
  more_entries (suc w) v m n p q le =
      ⊎_elim
      (λ (lt : v < suc w). let low : m ≤ q.0 = more_entries w v m q.0 p q.3 (omega arith) in omega (arith, low, q.5))
      (λ (ge : suc w ≤ v).
      let all : v ≡ suc w = omega arith in
      let same : m ≡ n = one_count v m n p (subst (λ (x : ℕ). Balls k g hubs x n) (sym all) q) in
      omega arith)
      (cases_lt v (suc w))

  -- where the balls of some first sites exceed the entry places, so do all together
  pub all_exceed : (v places after : ℕ) → v < g.sites → Balls k g hubs (suc v) after → places < after → (n : ℕ) → Balls k g hubs g.sites n → places < n
  all_exceed v places after there with_it exceeds n all = let low : after ≤ n = more_entries g.sites (suc v) after n with_it all there in omega arith
