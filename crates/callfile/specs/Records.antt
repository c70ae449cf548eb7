-- A record of 16 bytes, and the call that it is.
use Rattle.std.specs.Prelude.{ℕ, suc, ◌+◌, ◌*◌, Bool, cond, not, ◌&&◌, ◌||◌, List, [], ◌∷◌, Some, None, Ok, Err, Option, Result, ◌==◌, nat_le, nat_lt, slice_index}
use Rattle.callfile.specs.declared.fault.ReaderFault.{ReaderFault}
use Rattle.callfile.specs.declared.fault.ReaderFault.TheVariants.{UnknownCall, NotZero}
use Rattle.callfile.specs.declared.call.Call.{Call}
use Rattle.callfile.specs.declared.call.Call.TheVariants.{New, Link, Strike, Reweigh, Name, Unname}

-- the 32-bit number at a place, low byte first
abbrev pub word_at : List ℕ → ℕ → ℕ
word_at bytes at = slice_index bytes at + 256 * slice_index bytes (at + 1) + 65536 * slice_index bytes (at + 2) + 16777216 * slice_index bytes (at + 3)

-- how many numbers the call with this byte takes: new index, link, strike, reweigh, name, unname
abbrev pub numbers : ℕ → ℕ
numbers byte = slice_index (1 ∷ 3 ∷ 1 ∷ 2 ∷ 1 ∷ 1 ∷ []) byte

-- bytes 1 to 3 are spare; a call that takes n numbers leaves those after them unused
abbrev pub unused : ℕ → ℕ → Bool
unused n place = (nat_lt 0 place && nat_lt place 4) || nat_le (4 + 4 * n) place

-- the lowest place from `place` on of a byte that should be zero and is not
abbrev pub offending : ℕ → ℕ → List ℕ → Option ℕ
offending n place [] = None
offending n place (byte ∷ bytes) = cond (unused n place && not (byte == 0)) (Some place) (offending n (suc place) bytes)

-- the call with this byte and these numbers
abbrev pub call_of : ℕ → ℕ → ℕ → ℕ → Call
call_of byte a b c =
    cond (byte == 0) (New a)
    (cond (byte == 1) (Link a b c)
    (cond (byte == 2) (Strike a)
    (cond (byte == 3) (Reweigh a b)
    (cond (byte == 4) (Name a) (Unname a)))))

abbrev pub unless_offending : Option ℕ → Call → Result Call ReaderFault
unless_offending None call = Ok call
unless_offending (Some place) call = Err (NotZero place)

-- what a record is read as: an unknown call byte is looked for first, then a byte that should be zero
abbrev pub reading : List ℕ → Result Call ReaderFault
reading bytes =
    cond (nat_lt 5 (slice_index bytes 0)) (Err (UnknownCall (slice_index bytes 0)))
    (unless_offending (offending (numbers (slice_index bytes 0)) 0 bytes) (call_of (slice_index bytes 0) (word_at bytes 4) (word_at bytes 8) (word_at bytes 12)))
