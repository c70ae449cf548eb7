-- Hub lists: ascending hubs, then blanks, and what naming and unnaming make of them.
use Rattle.std.proofs.Common.{◌≡◌, ℕ, zero, suc, ◌-◌, ◌<◌, ◌≤◌, true, false, ◌&&◌, ltb, leb, List, [], ◌∷◌, ◌++◌, map, length, take, drop, replicate, Some, None, Option, sym, refl, ap, ◌∙◌, arith}
use Rattle.std.proofs.lemmas.List.{append_assoc, length-append, length-drop, take-append-le, drop-append-le, take_at, drop_at}
use Rattle.std.proofs.lemmas.Grind.{common_steps}
use Rattle.std.proofs.lemmas.Bool.{and_parts, both_ways}
use Rattle.filling.specs.Places.{listed}
use Rattle.index.specs.Hubs.{listing, has, insert, without, rank, blanks, ordered, moved_up, moved_down}

-- ---- ascending hubs

-- the hubs ascend from `low` on and are sites
abbrev pub Climbs : ℕ → ℕ → List ℕ → Type 0
Climbs low sites [] = Unit {0}
Climbs low sites (h ∷ hs) = (low ≤ h) × (h < sites) × Climbs (suc h) sites hs

abbrev pub somes : List ℕ → List (Option ℕ)
somes hs = map (λ h. Some h) hs

pub blanks_nones : (n : ℕ) → blanks (replicate n None) ≡ true
blanks_nones zero = refl
blanks_nones (suc n) = blanks_nones n

nones_from_blanks : (xs : List (Option ℕ)) → blanks xs ≡ true → xs ≡ replicate (length xs) None
nones_from_blanks [] h = refl
nones_from_blanks (None ∷ xs) h = ap (λ r. None ∷ r) (nones_from_blanks xs h)
nones_from_blanks (Some x ∷ xs) h = absurd (both_ways false refl h)

pub climbs_from_ordered : (low sites : ℕ) (xs : List (Option ℕ)) → ordered low sites xs ≡ true → Climbs low sites (listed xs)
climbs_from_ordered low sites [] h = tt
climbs_from_ordered low sites (None ∷ xs) h = tt
climbs_from_ordered low sites (Some x ∷ xs) h = grind (arith, common_steps, climbs_from_ordered (suc x) sites xs)

pub ordered_from_climbs : (low sites n : ℕ) (hs : List ℕ) → Climbs low sites hs → ordered low sites (somes hs ++ replicate n None) ≡ true
ordered_from_climbs low sites zero [] c = refl
ordered_from_climbs low sites (suc n) [] c = blanks_nones n
ordered_from_climbs low sites n (h ∷ hs) c = grind (arith, common_steps, c, ordered_from_climbs (suc h) sites n hs c.2)

-- an ordered list is the listing of its hubs
pub listing_from_ordered : (low sites : ℕ) (xs : List (Option ℕ)) → ordered low sites xs ≡ true → xs ≡ listing (length xs) (listed xs)
listing_from_ordered low sites [] h = refl
listing_from_ordered low sites (None ∷ xs) h =
    let n : suc (length xs) ≡ suc (length xs) - 0 = omega arith in
    ap (λ r. None ∷ r) (nones_from_blanks xs h) ∙ ap (λ m. replicate m None) n
listing_from_ordered low sites (Some x ∷ xs) h =
    let rest = (and_parts (leb low x && ltb x sites) (ordered (suc x) sites xs) h).1 in
    let n : length xs - length (listed xs) ≡ suc (length xs) - suc (length (listed xs)) = omega arith in
    ap (λ r. Some x ∷ r) (listing_from_ordered (suc x) sites xs rest ∙ ap (λ m. somes (listed xs) ++ replicate m None) n)

pub listed_nones : (n : ℕ) → listed (replicate n None) ≡ []
listed_nones zero = refl
listed_nones (suc n) = refl

pub listed_listing : (n : ℕ) (hs : List ℕ) → listed (somes hs ++ replicate n None) ≡ hs
listed_listing n [] = listed_nones n
listed_listing n (h ∷ hs) = ap (λ r. h ∷ r) (listed_listing n hs)

climbs_lower : (low low' sites : ℕ) (hs : List ℕ) → low' ≤ low → Climbs low sites hs → Climbs low' sites hs
climbs_lower low low' sites [] le c = tt
climbs_lower low low' sites (h ∷ hs) le c = let a : low ≤ h = c.0 in (omega arith, c.1, c.2)

-- a hub is not below the lowest
has_least : (s low sites : ℕ) (hs : List ℕ) → Climbs low sites hs → has s hs ≡ true → low ≤ s
has_least s low sites [] c h = absurd (both_ways false refl h)
has_least s low sites (x ∷ hs) c h = grind (arith, common_steps, c.0, has_least s (suc x) sites hs c.2)

-- ---- one hub more

pub length-insert : (s : ℕ) (hs : List ℕ) → length (insert s hs) ≡ suc (length hs)
length-insert s [] = refl
length-insert s (h ∷ hs) = grind (arith, common_steps, length-insert s hs)

pub climbs_insert : (s low sites : ℕ) (hs : List ℕ) → Climbs low sites hs → low ≤ s → s < sites → has s hs ≡ false → Climbs low sites (insert s hs)
climbs_insert s low sites [] c le lt no' = (le, lt, tt)
climbs_insert s low sites (h ∷ hs) c le lt no' = grind (arith, common_steps, c, climbs_insert s (suc h) sites hs c.2)

pub rank_most : (s : ℕ) (hs : List ℕ) → rank s hs ≤ length hs
rank_most s [] = omega arith
rank_most s (h ∷ hs) = grind (arith, common_steps, rank_most s hs)

pub insert_is : (s low sites : ℕ) (hs : List ℕ) → Climbs low sites hs → has s hs ≡ false → insert s hs ≡ take (rank s hs) hs ++ s ∷ drop (rank s hs) hs
insert_is s low sites [] c no' = refl
insert_is s low sites (h ∷ hs) c no' = grind (arith, common_steps, insert_is s (suc h) sites hs c.2)

-- ---- one hub less

without_none : (s : ℕ) (hs : List ℕ) → has s hs ≡ false → without s hs ≡ hs
without_none s [] no' = refl
without_none s (h ∷ hs) no' = grind (arith, common_steps, without_none s hs)

has_not_below : (s low sites : ℕ) (hs : List ℕ) → Climbs low sites hs → s < low → has s hs ≡ false
has_not_below s low sites hs c lt = grind (arith, common_steps, has_least s low sites hs c)

pub without_is : (s low sites : ℕ) (hs : List ℕ) → Climbs low sites hs → has s hs ≡ true → without s hs ≡ take (rank s hs) hs ++ drop (suc (rank s hs)) hs
without_is s low sites [] c h = absurd (both_ways false refl h)
without_is s low sites (x ∷ hs) c h = grind (arith, common_steps, without_is s (suc x) sites hs c.2, without_none s hs, has_not_below s (suc x) sites hs c.2)

pub rank_below : (s low sites : ℕ) (hs : List ℕ) → Climbs low sites hs → has s hs ≡ true → rank s hs < length hs
rank_below s low sites [] c h = absurd (both_ways false refl h)
rank_below s low sites (x ∷ hs) c h = grind (arith, common_steps, rank_below s (suc x) sites hs c.2)

pub climbs_without : (s low sites : ℕ) (hs : List ℕ) → Climbs low sites hs → Climbs low sites (without s hs)
climbs_without s low sites [] c = tt
climbs_without s low sites (h ∷ hs) c = grind (arith, common_steps, c, climbs_without s (suc h) sites hs c.2, climbs_lower (suc h) low sites (without s hs))

-- ---- lists of places

-- what stands from r on moves up, over the place that follows
pub up_in : {X : Type 0} (ys : List X) (n r : ℕ) (y x : X) (zs : List X) → length ys ≡ n → r ≤ n → moved_up n r y (ys ++ x ∷ zs) ≡ take r ys ++ (y ∷ (drop r ys ++ zs))
up_in ys n r y x zs long le =
    let front : take r (ys ++ x ∷ zs) ≡ take r ys = take-append-le r ys (x ∷ zs) (omega arith) in
    let behind : drop r (ys ++ x ∷ zs) ≡ drop r ys ++ x ∷ zs = drop-append-le r ys (x ∷ zs) (omega arith) in
    let middle : take (n - r) (drop r (ys ++ x ∷ zs)) ≡ drop r ys = ap (take (n - r)) behind ∙ take_at (drop r ys) (x ∷ zs) (n - r) (omega (arith, length-drop r ys)) in
    let past : drop (suc n) (ys ++ x ∷ zs) ≡ zs =
    ap (λ l. drop (suc n) l) (sym (append_assoc ys (x ∷ []) zs)) ∙ drop_at (ys ++ x ∷ []) zs (suc n) (omega (arith, length-append ys (x ∷ []))) in
    cc (front, middle, past)

-- what stands after r moves down, and leaves the place before zs
pub down_in : {X : Type 0} (ys : List X) (n r : ℕ) (y : X) (zs : List X) → length ys ≡ n → r < n → moved_down n r y (ys ++ zs) ≡ take r ys ++ (drop (suc r) ys ++ (y ∷ zs))
down_in ys n r y zs long lt =
    let front : take r (ys ++ zs) ≡ take r ys = take-append-le r ys zs (omega arith) in
    let behind : drop (suc r) (ys ++ zs) ≡ drop (suc r) ys ++ zs = drop-append-le (suc r) ys zs (omega arith) in
    let middle : take (n - suc r) (drop (suc r) (ys ++ zs)) ≡ drop (suc r) ys = ap (take (n - suc r)) behind ∙ take_at (drop (suc r) ys) zs (n - suc r) (omega (arith, length-drop (suc r) ys)) in
    let past : drop n (ys ++ zs) ≡ zs = drop_at ys zs n long in
    cc (front, middle, past)
