-- Kinds of calls, and the bytes that stand for them.
use Rattle.std.specs.Prelude.{◌≡◌, ℕ, ◌<◌, Ok, Err, Result}
use Rattle.callfile.specs.declared.call.Kind.{Kind}
use Rattle.callfile.specs.declared.call.Kind.TheVariants.{New, Link, Strike, Reweigh, Name, Unname}
use Rattle.callfile.specs.declared.fault.ReaderFault.{ReaderFault}
use Rattle.callfile.specs.declared.fault.ReaderFault.TheVariants.{UnknownCall}

-- the byte that stands for a kind of calls
abbrev pub byte_of : Kind → ℕ
byte_of New = 0
byte_of Link = 1
byte_of Strike = 2
byte_of Reweigh = 3
byte_of Name = 4
byte_of Unname = 5

-- A byte is that of the kind that is read of it; there is no kind of the bytes over 5.
abbrev pub KindRead : ℕ → Result Kind ReaderFault → Type 0
KindRead byte (Ok kind) = byte_of kind ≡ byte
KindRead byte (Err fault) = (5 < byte) × (fault ≡ UnknownCall byte)
