-- Waiting places: what stands at them, and the steps that change them.
use Rattle.std.specs.Prelude.{◌≡◌, ℕ, ◌<◌, List, length, get_or, Some, None, Option, slice_index_or, slice_set}
use Rattle.shortest.specs.declared.waiting.Label.{Label}
use Rattle.shortest.specs.declared.waiting.Waiting.{Waiting}

-- a place before any search
abbrev pub blank_place : {V : Type 0} → Waiting V
blank_place = record { label = None; at = None }

-- the label at a place
abbrev pub label_at : {V : Type 0} → List (Waiting V) → ℕ → Option (Label V)
label_at ws k = (get_or ws k blank_place).label

-- where the label of a site is
abbrev pub place_of : {V : Type 0} → List (Waiting V) → ℕ → Option ℕ
place_of ws s = (get_or ws s blank_place).at

abbrev pub relabelled : {V : Type 0} → Option (Label V) → Waiting V → Waiting V
relabelled o w = record { label = o; at = w.at }

abbrev pub repointed : {V : Type 0} → Option ℕ → Waiting V → Waiting V
repointed o w = record { label = w.label; at = o }

-- the places with another label at k
abbrev pub put_label : {V : Type 0} → List (Waiting V) → ℕ → Option (Label V) → List (Waiting V)
put_label ws k o = slice_set ws k (relabelled o (slice_index_or ws k blank_place))

-- the places with another word on where the label of the site s is
abbrev pub put_at : {V : Type 0} → List (Waiting V) → ℕ → Option ℕ → List (Waiting V)
put_at ws s o = slice_set ws s (repointed o (slice_index_or ws s blank_place))

-- the same for the site of a label, if there is one
abbrev pub pointed : {V : Type 0} → Option (Label V) → Option ℕ → List (Waiting V) → List (Waiting V)
pointed None o ws = ws
pointed (Some x) o ws = put_at ws x.site o

-- two places have traded their labels
abbrev pub swapped : {V : Type 0} → List (Waiting V) → ℕ → ℕ → List (Waiting V)
swapped ws i j =
    pointed (label_at ws i) (Some j) (pointed (label_at ws j) (Some i) (put_label (put_label ws i (label_at ws j)) j (label_at ws i)))

-- the labels below n are of sites that have a place
abbrev pub Inside : {V : Type 0} → List (Waiting V) → ℕ → Type 0
Inside {V} ws n = (k : ℕ) (x : Label V) → k < n → label_at ws k ≡ Some x → x.site < length ws

-- labels below n have traded places, some times
pub data Moves {V : Type 0} (n : ℕ) (ws : List (Waiting V)) : List (Waiting V) → Type 0 where
  stay : Moves n ws ws
  trade : (vs us : List (Waiting V)) (i j : ℕ) → i < n → j < n → us ≡ swapped vs i j → Moves n ws vs → Moves n ws us
