-- A register without links.
use Rattle.std.proofs.Common.{◌≡◌, ℕ, ◌≤◌, map, length, take, drop, replicate, None, ap, ◌∙◌, subst, arith, length-append, length-drop}
use lib.ListN.{length-replicate}
use Rattle.network.specs.Registers.{renewed}
use Rattle.register.specs.Memories.{Memory, given_of, meaning, size_fault, fault_in, no_chain, MadeBy, Made}
use Rattle.std.proofs.lemmas.Grind.{common_steps}

-- ---- sizes without a fault

pub held_sites : (sites site_memory places link_memory : ℕ) → size_fault sites site_memory places link_memory ≡ None → sites ≤ site_memory
held_sites s sm p pm e = grind (arith, common_steps)

-- ---- the meaning of a register that was made over the memory of another, where its sizes have no fault

pub made_means : {V : Type 0} (sites places : ℕ) (before after : Memory V) → fault_in before sites places ≡ None → Made sites places before after → meaning after ≡ renewed (meaning before) sites places
made_means sites places before after none made =
    let cs = before.chains in
    let new : MadeBy None sites places before after = subst (λ o. MadeBy o sites places before after) none made in
    let held = held_sites sites (length cs) places (length before.records) none in
    let room : length after.chains ≡ length cs =
    ap length new.3 ∙ length-append (replicate sites no_chain) (drop sites cs) ∙ omega (arith, length-replicate sites no_chain, length-drop sites cs, held) in
    λ i. record { sites = new.0 i; places = new.1 i; site_room = room i; link_room = length (new.4 i); given = map given_of (take (new.2 i) after.records) }
