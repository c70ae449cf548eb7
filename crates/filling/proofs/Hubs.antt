-- One hub: its row was filled and each site told of it.
use Rattle.std.proofs.Common.{◌≡◌, ℕ, ◌+◌, ◌<◌, ◌≤◌, List, [], ◌∷◌, ◌++◌, length, get_or, drop, replicate, None, Option, sym, ap, ◌∙◌, subst, ⊎_elim, arith}
use mathlib.Core.List.Memᴰ
use mathlib.Core.List.{Memᴰ}
use Rattle.std.proofs.lemmas.Bool.{cases_lt}
use Rattle.weight.specs.Algebra.{Algebra}
use Rattle.network.specs.Graph.{Graph, Sound}
use Rattle.network.specs.Walks.{Unjoined}
use Rattle.network.proofs.Closing.{end_exists}
use Rattle.shortest.specs.Finding.{Found}
use Rattle.shortest.specs.Searches.{SearchedIn}
use Rattle.shortest.specs.Queues.{settled_labels}
use Rattle.shortest.specs.declared.waiting.Label.{Label}
use Rattle.shortest.specs.declared.waiting.Waiting.{Waiting}
use Rattle.shortest.proofs.Edits.{some_inside}
use Rattle.shortest.proofs.Searching.{at_place}
use Rattle.filling.specs.Places.{blank_row}
use Rattle.filling.specs.Rows.{Spared, rowed, Within, Noted, RowFilled}
use Rattle.filling.specs.Standing.{Told, HubStands, RowStands}
use Rattle.filling.specs.declared.places.RowPlace.{RowPlace}
use Rattle.filling.specs.declared.places.SitePlace.{SitePlace}
use Rattle.filling.proofs.Noting.{told_more}
use Rattle.filling.proofs.Rowed.{length-rowed, row_of_hub}

not_below : (m n : ℕ) → (m < n → ⊥) → n ≤ m
not_below m n not = ⊎_elim (λ (lt : m < n). absurd (not lt)) (λ (le : n ≤ m). le) (cases_lt m n)

-- no walk leads away from a site that does not exist
nowhere : {V : Type 0} {g : Graph V} → Sound g → (h : ℕ) → g.sites ≤ h → (v : ℕ) → Unjoined g h v
nowhere sound h past v [] w = omega (arith, w.1)
nowhere sound h past v (l ∷ ls) w = Memᴰ.not-nil (subst (Memᴰ l) (sound.nowhere_else h past) w.0)

module _ {V : Type 0} {k : Algebra V} {g : Graph V} where
  -- the labels that a search settled are of sites of the graph
  pub labels_within : {source n sites m : ℕ} {cut : Option V} {before after : List (Waiting V)} → SearchedIn k g source cut before n after → sites ≡ g.sites → m ≡ g.sites → Within after sites n m
  labels_within {source = source} {n = n} {m = m} {after = after} done e same =
      subst (λ (s : ℕ). Within after s n m) (sym e) (
        done.few,
        (λ i x lt is.
            let xs = settled_labels after g.sites n in
            let there : x ≡ get_or xs i x = some_inside _ _ (sym is ∙ done.labels i lt x) in
            let inside : i < length xs = omega (arith, lt, done.count) in
            let at = (done.found.distances (get_or xs i x) (at_place xs i x inside)).0 in
            let exists : (get_or xs i x).site < g.sites = end_exists k g source (get_or xs i x).site at.walk at.joins in
            subst (λ (y : Label V). y.site < m) (sym there) (omega (arith, exists, same))),
      )

  module _ (sound : Sound g) where
    found_nothing : (h : ℕ) → g.sites ≤ h → Found k g h None []
    found_nothing h past = record {
      distances = λ x m. absurd (Memᴰ.not-nil m);
      whole = λ v ls w _. absurd (nowhere sound h past v ls w);
      once = λ i j d lt inside _. absurd (omega arith);
      rising = λ i j d lt inside. absurd (omega arith);
      first = λ d inside. absurd (omega arith);
      others = λ j d lt inside. absurd (omega arith);
    }

    module _ {h : ℕ} {row row' : List (RowPlace V)} {places places' : List (SitePlace V)} (blank : row ≡ replicate g.sites blank_row) (size : length places ≡ g.sites) (noted : Noted k h row' places places') where
      row_filled : {ws ws' : List (Waiting V)} → Spared g.sites ws ws' → {xs : List (Label V)} → Found k g h None xs → row' ≡ rowed xs row → RowFilled k g h row row' places places' ws ws'
      row_filled spared {xs = xs} found is =
          let stands : HubStands k g row' 0 h = row_of_hub k g h xs row' found (is ∙ ap (rowed xs) blank) in
          record {
            row_size = ap length is ∙ length-rowed xs row;
            place_size = noted.size;
            spared = spared;
            stands = stands;
            told = λ hs v d lt told.
                let same : 0 + v ≡ v = omega arith in
                subst (Told k g (hs ++ h ∷ []) v) (sym (noted.each v d blank_row (omega (arith, lt, size))))
                (told_more k g hs v h (get_or places v d) sound told stands.labels stands.found (get_or row' v blank_row)
                (subst (λ (n : ℕ). RowStands g h stands.labels v (get_or row' n blank_row)) same (stands.row v blank_row lt)));
          }

      -- the search from the hub found the labels that were written
      pub row_searched : {ws ws' : List (Waiting V)} {n sites : ℕ} {written : List (RowPlace V)} → SearchedIn k g h None ws n ws' → sites ≡ g.sites → row' ≡ written → written ≡ rowed (settled_labels ws' sites n) row → RowFilled k g h row row' places places' ws ws'
      row_searched {ws' = ws'} {n = n} done same is wrote =
          row_filled (record { size = done.size; beyond = done.beyond }) done.found (is ∙ wrote ∙ ap (λ m. rowed (settled_labels ws' m n) row) same)

      -- there was no search, since the hub does not exist
      pub row_left : {ws ws' : List (Waiting V)} → g.sites ≤ length ws → (h < g.sites → g.sites ≤ length ws → ⊥) × (ws' ≡ ws) → row' ≡ row → RowFilled k g h row row' places places' ws ws'
      row_left room not is =
          row_filled (record { size = ap length not.1; beyond = ap (drop g.sites) not.1 }) (found_nothing h (not_below h g.sites (λ lt. not.0 lt room))) is
