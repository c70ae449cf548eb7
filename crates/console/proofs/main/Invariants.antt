use Rattle.std.proofs.Common.{◌≡◌, length}
use Rattle.console.proofs.main.Given as goal

abbrev pub invariant-loop-number : goal.invariant-loop-number
invariant-loop-number l = length l.record ≡ 16
