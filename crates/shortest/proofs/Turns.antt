-- One turn of sifting up and of sifting down.
use Rattle.std.proofs.Common.{◌≡◌, ℕ, ◌+◌, ◌<◌, ◌≤◌, true, List, length, sym, subst, arith}
use Rattle.weight.specs.Algebra.{Algebra}
use Rattle.shortest.specs.declared.waiting.Waiting.{Waiting}
use Rattle.shortest.specs.Places.{label_at, swapped, Inside, Moves, trade}
use Rattle.shortest.specs.Order.{earlier, parent, OrderedBut, OrderedUnder, LeastChild}
use Rattle.shortest.proofs.Heaps.{up_step, down_step}
use Rattle.shortest.proofs.Edits.{swapped_traded, swapped_inside}

module _ {V : Type 0} (a : Algebra V) where
  abbrev Risen : List (Waiting V) → ℕ → ℕ → List (Waiting V) → Type 0
  Risen vs at i ws = Inside ws (at + 1) × ((n : ℕ) → at < n → OrderedBut a vs n at → OrderedBut a ws n i) × Moves (at + 1) vs ws

  pub up_turn : (vs ws us : List (Waiting V)) (at i : ℕ) → 0 < i → i ≤ at → at < length ws → Inside ws (at + 1)
      → ((n : ℕ) → at < n → OrderedBut a vs n at → OrderedBut a ws n i) → Moves (at + 1) vs ws
      → true ≡ earlier a (label_at ws i) (label_at ws (parent i)) → us ≡ swapped ws i (parent i) → Risen vs at (parent i) us
  up_turn vs ws us at i pos le lt inside but moves under e =
      let li : i < length ws = omega arith in
      let lp : parent i < length ws = omega arith in (
        subst (λ (z : List (Waiting V)). Inside z (at + 1)) (sym e) (swapped_inside ws i (parent i) li lp (at + 1) (omega arith) (omega arith) inside),
        (λ n ln b. subst (λ (z : List (Waiting V)). OrderedBut a z n (parent i)) (sym e)
            (up_step a ws (swapped ws i (parent i)) n i pos (omega arith) (swapped_traded ws i (parent i) li lp) (sym under) (but n ln b))),
        trade ws us i (parent i) (omega arith) (omega arith) e moves,
      )

  abbrev Fallen : List (Waiting V) → ℕ → ℕ → List (Waiting V) → Type 0
  Fallen vs n i ws = Inside ws n × OrderedUnder a ws n i × Moves n vs ws

  pub down_turn : (vs ws us : List (Waiting V)) (n i c : ℕ) → n ≤ length ws → Fallen vs n i ws → LeastChild a ws n i c
      → true ≡ earlier a (label_at ws c) (label_at ws i) → us ≡ swapped ws i c → Fallen vs n c us
  down_turn vs ws us n i c le fallen child lower e =
      let ln : c < n = child.inside in
      let ic : i < c = child.after in
      let li : i < length ws = omega arith in
      let lc : c < length ws = omega arith in (
        subst (λ (z : List (Waiting V)). Inside z n) (sym e) (swapped_inside ws i c li lc n (omega arith) ln fallen.0),
        subst (λ (z : List (Waiting V)). OrderedUnder a z n c) (sym e) (down_step a ws (swapped ws i c) n i c (swapped_traded ws i c li lc) (sym lower) child fallen.1),
        trade ws us i c (omega arith) ln e fallen.2,
      )
