-- The memory of a hub list before and after a naming or an unnaming.
use Rattle.std.proofs.Common.{◌≡◌, ℕ, suc, ◌+◌, ◌-◌, ◌<◌, ◌≤◌, true, false, List, ◌∷◌, ◌++◌, length, take, drop, replicate, Some, None, Option, sym, ap, ◌∙◌, arith}
use lib.ListN.{length-replicate}
use Rattle.std.proofs.lemmas.List.{append_assoc, map-append, length-map, length-append, length-drop, length-take-le, take-append-drop, take_at, take-map, drop-map}
use Rattle.filling.specs.Places.{listed}
use Rattle.index.specs.Hubs.{listing, has, insert, without, rank, ordered, moved_up, moved_down}
use Rattle.index.proofs.Listing.{Climbs, somes, climbs_from_ordered, ordered_from_climbs, listing_from_ordered, listed_listing, length-insert, rank_most, insert_is, without_is, rank_below, up_in, down_in}

abbrev none : Option ℕ
none = None

pub length-listing : (p : ℕ) (hs : List ℕ) → length hs ≤ p → length (listing p hs) ≡ p
length-listing p hs le =
    length-append (somes hs) (replicate (p - length hs) None) ∙ omega (arith, length-map hs (λ h. Some h), length-replicate (p - length hs) none)

-- ---- memory that lists these hubs, and past them holds what it held

module _ (sites p : ℕ) (hs : List ℕ) (past xs : List (Option ℕ)) (few : length hs ≤ p) (is : xs ≡ listing p hs ++ past) where
  front_is : take p xs ≡ listing p hs
  front_is = ap (take p) is ∙ take_at (listing p hs) past p (length-listing p hs few)

  pub hubs_kept : listed (take p xs) ≡ hs
  hubs_kept = ap listed front_is ∙ listed_listing (p - length hs) hs

  pub order_kept : Climbs 0 sites hs → ordered 0 sites (take p xs) ≡ true
  order_kept c = ap (ordered 0 sites) front_is ∙ ordered_from_climbs 0 sites (p - length hs) hs c

-- ---- an ordered hub list

module _ (sites p : ℕ) (xs : List (Option ℕ)) (inside : p ≤ length xs) (order : ordered 0 sites (take p xs) ≡ true) where
  abbrev hubs : List ℕ
  hubs = listed (take p xs)

  pub climbs : Climbs 0 sites hubs
  climbs = climbs_from_ordered 0 sites (take p xs) order

  long : length (take p xs) ≡ p
  long = length-take-le p xs inside

  listing_is : take p xs ≡ listing p hubs
  listing_is = listing_from_ordered 0 sites (take p xs) order ∙ ap (λ n. listing n hubs) long

  whole_is : xs ≡ somes hubs ++ (replicate (p - length hubs) None ++ drop p xs)
  whole_is = sym (take-append-drop p xs) ∙ ap (λ r. r ++ drop p xs) listing_is ∙ append_assoc (somes hubs) (replicate (p - length hubs) None) (drop p xs)

  pub hubs_few : length hubs ≤ p
  hubs_few =
      let a : length (take p xs) ≡ length (somes hubs) + length (replicate (p - length hubs) none) = ap length listing_is ∙ length-append (somes hubs) (replicate (p - length hubs) None) in
      omega (arith, long, length-map hubs (λ h. Some h))

  -- the places before the blanks are the hubs
  pub hubs_front : (n : ℕ) → n ≡ length hubs → take n xs ≡ somes hubs
  hubs_front n count = ap (take n) whole_is ∙ take_at (somes hubs) (replicate (p - length hubs) None ++ drop p xs) n (length-map hubs (λ h. Some h) ∙ sym count)

  module _ (s n : ℕ) (count : n ≡ length hubs) where
    pub length_without : has s hubs ≡ true → suc (length (without s hubs)) ≡ length hubs
    length_without h =
        let r = rank s hubs in
        let lt : r < length hubs = rank_below s 0 sites hubs climbs h in
        let a : length (without s hubs) ≡ length (take r hubs) + length (drop (suc r) hubs) = ap length (without_is s 0 sites hubs climbs h) ∙ length-append (take r hubs) (drop (suc r) hubs) in
        omega (arith, length-take-le r hubs (omega arith), length-drop (suc r) hubs)

    pub named_is : has s hubs ≡ false → n < p → moved_up n (rank s hubs) (Some s) xs ≡ listing p (insert s hubs) ++ drop p xs
    named_is no' lt =
        let r = rank s hubs in
        let m = p - suc (length hubs) in
        let zs = replicate m None ++ drop p xs in
        let more : replicate (p - length hubs) none ≡ None ∷ replicate m None = ap (λ k. replicate k None) (more_is lt) in
        let start : xs ≡ somes hubs ++ None ∷ zs = whole_is ∙ ap (λ l. somes hubs ++ (l ++ drop p xs)) more in
        let moved : moved_up n r (Some s) (somes hubs ++ None ∷ zs) ≡ take r (somes hubs) ++ (Some s ∷ (drop r (somes hubs) ++ zs)) =
        up_in (somes hubs) n r (Some s) None zs (length-map hubs (λ h. Some h) ∙ sym count) (omega (arith, rank_most s hubs)) in
        let mapped : somes (insert s hubs) ≡ take r (somes hubs) ++ (Some s ∷ drop r (somes hubs)) =
        ap somes (insert_is s 0 sites hubs climbs no') ∙ map-append (λ h. Some h) (take r hubs) (s ∷ drop r hubs)
        ∙ ap (λ l. l ++ (Some s ∷ somes (drop r hubs))) (sym (take-map (λ h. Some h) r hubs)) ∙ ap (λ l. take r (somes hubs) ++ (Some s ∷ l)) (sym (drop-map (λ h. Some h) r hubs)) in
        let blank : p - length (insert s hubs) ≡ m = omega (arith, length-insert s hubs) in
        ap (moved_up n r (Some s)) start ∙ moved
        ∙ sym (append_assoc (take r (somes hubs)) (Some s ∷ drop r (somes hubs)) zs)
        ∙ ap (λ l. l ++ zs) (sym mapped)
        ∙ sym (append_assoc (somes (insert s hubs)) (replicate m None) (drop p xs))
        ∙ ap (λ k. (somes (insert s hubs) ++ replicate k None) ++ drop p xs) (sym blank)
      where
        more_is : n < p → p - length hubs ≡ suc (p - suc (length hubs))
        more_is l = omega arith

    pub unnamed_is : has s hubs ≡ true → moved_down n (rank s hubs) None xs ≡ listing p (without s hubs) ++ drop p xs
    unnamed_is yes' =
        let r = rank s hubs in
        let rest = replicate (p - length hubs) None ++ drop p xs in
        let lt : r < length hubs = rank_below s 0 sites hubs climbs yes' in
        let moved : moved_down n r None (somes hubs ++ rest) ≡ take r (somes hubs) ++ (drop (suc r) (somes hubs) ++ (None ∷ rest)) =
        down_in (somes hubs) n r None rest (length-map hubs (λ h. Some h) ∙ sym count) (omega arith) in
        let mapped : somes (without s hubs) ≡ take r (somes hubs) ++ drop (suc r) (somes hubs) =
        ap somes (without_is s 0 sites hubs climbs yes') ∙ map-append (λ h. Some h) (take r hubs) (drop (suc r) hubs)
        ∙ ap (λ l. l ++ somes (drop (suc r) hubs)) (sym (take-map (λ h. Some h) r hubs)) ∙ ap (λ l. take r (somes hubs) ++ l) (sym (drop-map (λ h. Some h) (suc r) hubs)) in
        let blank : replicate (p - length (without s hubs)) none ≡ None ∷ replicate (p - length hubs) None = ap (λ k. replicate k None) (less_is yes') in
        ap (moved_down n r None) whole_is ∙ moved
        ∙ sym (append_assoc (take r (somes hubs)) (drop (suc r) (somes hubs)) (None ∷ rest))
        ∙ ap (λ l. l ++ (None ∷ rest)) (sym mapped)
        ∙ sym (append_assoc (somes (without s hubs)) (None ∷ replicate (p - length hubs) None) (drop p xs))
        ∙ ap (λ l. (somes (without s hubs) ++ l) ++ drop p xs) (sym blank)
      where
        less_is : has s hubs ≡ true → p - length (without s hubs) ≡ suc (p - length hubs)
        less_is h = omega (arith, length_without h, hubs_few, rank_below s 0 sites hubs climbs h)
