-- Each way out of a naming and an unnaming, by the rules.
use Rattle.std.proofs.Common.{◌≡◌, ℕ, suc, ◌+◌, ◌-◌, ◌<◌, ◌≤◌, true, false, List, ◌++◌, length, take, drop, Some, None, Ok, Err, Option, Result, ap, ◌∙◌, subst, arith}
use Rattle.std.proofs.lemmas.Grind.{common_steps}
use Rattle.std.specs.List.Sorted.{IsBinarySearchResult}
use Rattle.std.specs.Option.{option_cmp}
use Rattle.std.specs.Ordering.{nat_cmp}
use Rattle.weight.specs.Algebra.{Algebra}
use Rattle.filling.specs.Places.{listed}
use Rattle.index.specs.Books.{BookState, state, hubs_of, unbuilt}
use Rattle.index.specs.Calls.{Follows, at_site, naming, unnaming}
use Rattle.index.specs.Hubs.{listing, has, insert, without, rank, sought, ordered, moved_up, moved_down}
use Rattle.index.specs.declared.book.Book.{Book}
use Rattle.index.proofs.Listing.{Climbs, length-insert, climbs_insert, rank_most, rank_below, climbs_without}
use Rattle.index.proofs.Naming.{hubs_kept, order_kept, climbs, hubs_few, hubs_front, named_is, unnamed_is, length_without}
use Rattle.index.proofs.Seeking.{search_is, sought_there, sought_not_there}

-- the book with another hub list in its memory
abbrev with_list : {V : Type 0} → BookState V → List (Option ℕ) → BookState V
with_list b ys = record b { hub_list = ys }

module _ {V : Type 0} (b : Book V) where
  abbrev places : ℕ
  places = b.sizes.hub_places

  abbrev hubs : List ℕ
  hubs = hubs_of (state b)

  -- the book's hubs ascend
  pub ascending : Climbs 0 b.sizes.sites hubs
  ascending = climbs b.sizes.sites places b.hub_list.now b.held.1 b.ordered

  pub hubs_within : length hubs ≤ places
  hubs_within = hubs_few b.sizes.sites places b.hub_list.now b.held.1 b.ordered

  -- what a binary search of the places before the blanks answers
  pub hub_sought : (s n : ℕ) (r : Result ℕ ℕ) → n ≡ length hubs → IsBinarySearchResult (λ y. option_cmp nat_cmp y (Some s)) (take n b.hub_list.now) r → r ≡ sought s hubs
  hub_sought s n r count h =
      search_is s 0 b.sizes.sites hubs r ascending
      (subst (λ xs. IsBinarySearchResult (λ y. option_cmp nat_cmp y (Some s)) xs r) (hubs_front b.sizes.sites places b.hub_list.now b.held.1 b.ordered n count) h)

  -- What holds of memory that lists other hubs.
  pub record Listed (hs : List ℕ) (ys : List (Option ℕ)) : Type 0 where
    pub counted : length (listed (take places ys)) ≡ length hs
    pub order : ordered 0 b.sizes.sites (take places ys) ≡ true
    pub is : ys ≡ listing places hs ++ drop places b.hub_list.now

  lists : (hs : List ℕ) (ys : List (Option ℕ)) → length hs ≤ places → Climbs 0 b.sizes.sites hs → ys ≡ listing places hs ++ drop places b.hub_list.now → Listed hs ys
  lists hs ys few c is = record { counted = ap length (hubs_kept b.sizes.sites places hs (drop places b.hub_list.now) ys few is); order = order_kept b.sizes.sites places hs (drop places b.hub_list.now) ys few is c; is = is }

  module _ (s n i : ℕ) (count : n ≡ length hubs) where
    -- ---- the site is no hub: it is named

    module _ (place : Err i ≡ sought s hubs) where
      absent : (has s hubs ≡ false) × (i ≡ rank s hubs)
      absent = sought_not_there s hubs i place

      pub place_within : i ≤ n
      place_within = omega (arith, absent.1, rank_most s hubs)

      pub named_lists : s < b.sizes.sites → n < places → (ys : List (Option ℕ)) → ys ≡ moved_up n i (Some s) b.hub_list.now → Listed (insert s hubs) ys
      named_lists there free ys e =
          lists (insert s hubs) ys (omega (arith, length-insert s hubs)) (climbs_insert s 0 b.sizes.sites hubs ascending (omega arith) there absent.0)
          (e ∙ ap (λ r. moved_up n r (Some s) b.hub_list.now) absent.1 ∙ named_is b.sizes.sites places b.hub_list.now b.held.1 b.ordered s n count absent.0 free)

      pub named : (k : Algebra V) → s < b.sizes.sites → n < places → (ys : List (Option ℕ)) (after : BookState V) → Listed (insert s hubs) ys → after ≡ unbuilt k (with_list (state b) ys)
          → Follows (at_site (state b) s (naming k (state b) s)) (state b) (Ok (n + 1)) after
      named k there free ys after l e =
          let no' = absent.0 in
          let is = l.is in
          grind (arith, common_steps)

    -- ---- the site is a hub: it is unnamed

    module _ (place : Ok i ≡ sought s hubs) where
      there : (has s hubs ≡ true) × (i ≡ rank s hubs)
      there = sought_there s hubs i place

      pub place_below : i < n
      place_below = omega (arith, there.1, rank_below s 0 b.sizes.sites hubs ascending there.0)

      pub less : suc (length (without s hubs)) ≡ length hubs
      less = length_without b.sizes.sites places b.hub_list.now b.held.1 b.ordered s n count there.0

      pub unnamed_lists : (ys : List (Option ℕ)) → ys ≡ moved_down n i None b.hub_list.now → Listed (without s hubs) ys
      unnamed_lists ys e =
          lists (without s hubs) ys (omega (arith, less, hubs_within)) (climbs_without s 0 b.sizes.sites hubs ascending)
          (e ∙ ap (λ r. moved_down n r None b.hub_list.now) there.1 ∙ unnamed_is b.sizes.sites places b.hub_list.now b.held.1 b.ordered s n count there.0)

      pub unnamed : (k : Algebra V) → s < b.sizes.sites → (ys : List (Option ℕ)) (after : BookState V) → Listed (without s hubs) ys → after ≡ unbuilt k (with_list (state b) ys)
          → Follows (at_site (state b) s (unnaming k (state b) s)) (state b) (Ok (n - 1)) after
      unnamed k exists ys after l e =
          let yes' = there.0 in
          let one_less = less in
          let is = l.is in
          grind (arith, common_steps)
