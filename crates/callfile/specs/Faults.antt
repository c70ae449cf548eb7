-- What each refusal of a record says: its number, its detail and its layer.
-- An index's fault passes through whole.
use Rattle.std.specs.Prelude.{ℕ}
use Rattle.index.specs.Faults as index
use Rattle.callfile.specs.declared.fault.ReaderFault.{ReaderFault}
use Rattle.callfile.specs.declared.fault.ReaderFault.TheVariants.{Index, Partial, UnknownCall, NotZero}

abbrev pub number : ReaderFault → ℕ
number (Index fault) = index.number fault
number (Partial bytes) = 14
number (UnknownCall byte) = 15
number (NotZero place) = 16

abbrev pub detail : ReaderFault → ℕ
detail (Index fault) = index.detail fault
detail (Partial bytes) = bytes
detail (UnknownCall byte) = byte
detail (NotZero place) = place

abbrev pub layer : ReaderFault → ℕ
layer (Index fault) = index.layer fault
layer (Partial bytes) = 3
layer (UnknownCall byte) = 3
layer (NotZero place) = 3
