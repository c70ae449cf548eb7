-- What a record does to an index of a register in the delay kind and its book.
use Rattle.std.specs.Prelude.{◌≡◌, ℕ, List, Some, None, Ok, Err, Option, Result}
use Rattle.weight.specs.Numbers.{delay}
use Rattle.weight.specs.declared.delay.Delay.{Delay}
use Rattle.network.specs.Registers.{Meaning, graph, rule, renewed}
use Rattle.network.specs.Sizes.{or_then, over}
use Rattle.network.specs.declared.fault.NetworkFault.{NetworkFault}
use Rattle.network.specs.declared.fault.NetworkFault.TheVariants.{TooLarge}
use Rattle.register.specs.Memories.{size_fault}
use Rattle.network.specs.declared.changes.RegisterChange.TheVariants as change
use Rattle.index.specs.Books.{BookState, fault_in, fresh}
use Rattle.index.specs.Calls.{Ruling, refuse, grant, Follows, Changed, Named, Unnamed}
use Rattle.index.specs.declared.fault.IndexFault.{IndexFault}
use Rattle.index.specs.declared.fault.IndexFault.TheVariants.{Network}
use Rattle.callfile.specs.Lines.{answer_of, line_of}
use Rattle.callfile.specs.Records.{reading}
use Rattle.callfile.specs.declared.call.Call.{Call}
use Rattle.callfile.specs.declared.call.Call.TheVariants.{New, Link, Strike, Reweigh, Name, Unname}
use Rattle.callfile.specs.declared.fault.ReaderFault.{ReaderFault}
use Rattle.callfile.specs.declared.fault.ReaderFault.TheVariants.{Index}
use Rattle.callfile.specs.declared.line.Answer.{Answer}
use Rattle.callfile.specs.declared.line.Line.{Line}

-- ---- the calls

-- why a new index cannot be made: it would have over 256 sites, or the memory of the register or of the book is too short
abbrev pub within_network : Option NetworkFault → Option IndexFault
within_network None = None
within_network (Some fault) = Some (Network fault)

abbrev pub start_fault : ℕ → Meaning Delay → BookState Delay → Option IndexFault
start_fault sites m b =
    or_then (within_network (over TooLarge 256 sites))
    (or_then (within_network (size_fault sites m.site_room 1024 m.link_room)) (fault_in b sites 8 2048))

-- a new index has so many sites, 1,024 link places, 8 hub places and 2,048 entry places, no links, no hubs and no build
abbrev pub starting : Option IndexFault → ℕ → Meaning Delay → BookState Delay → Ruling (Meaning Delay × BookState Delay)
starting None sites m b = grant sites (renewed m sites 1024, fresh delay b sites 8 2048)
starting (Some fault) sites m b = refuse fault

-- what a call that answers one number gives: the second value is 0
abbrev pub answered : Result ℕ IndexFault → Result Answer IndexFault
answered (Ok n) = Ok (answer_of n)
answered (Err fault) = Err fault

-- the result comes of a result of one number that the relation allows
abbrev pub By : (Result ℕ IndexFault → Type 0) → Result Answer IndexFault → Type 0
By Allowed r = (n : Result ℕ IndexFault) × Allowed n × (r ≡ answered n)

-- what each call may answer, and what it leaves
abbrev pub Ran : Call → Meaning Delay → BookState Delay → Result Answer IndexFault → Meaning Delay → BookState Delay → Type 0
Ran (New sites) m b r m' b' = By (λ n. Follows (starting (start_fault sites m b) sites m b) (m, b) n (m', b')) r
Ran (Link one other weight) m b r m' b' = By (λ n. Changed delay graph (rule delay) (change.Link one other weight) m b n m' b') r
Ran (Strike number) m b r m' b' = By (λ n. Changed delay graph (rule delay) (change.Strike number) m b n m' b') r
Ran (Reweigh number weight) m b r m' b' = By (λ n. Changed delay graph (rule delay) (change.Reweigh number weight) m b n m' b') r
Ran (Name site) m b r m' b' = By (λ n. Named delay m.sites site b n b') r × (m' ≡ m)
Ran (Unname site) m b r m' b' = By (λ n. Unnamed delay m.sites site b n b') r × (m' ≡ m)

-- ---- a record

-- an index's fault, passed on whole
abbrev pub raised : Result Answer IndexFault → Result Answer ReaderFault
raised (Ok answer) = Ok answer
raised (Err fault) = Err (Index fault)

-- A record that is no call is refused and leaves the index; any other is run.
abbrev pub ReadAs : Result Call ReaderFault → Meaning Delay → BookState Delay → Result Answer ReaderFault → Meaning Delay → BookState Delay → Type 0
ReadAs (Err fault) m b r m' b' = (r ≡ Err fault) × (m' ≡ m) × (b' ≡ b)
ReadAs (Ok call) m b r m' b' = (a : Result Answer IndexFault) × Ran call m b a m' b' × (r ≡ raised a)

abbrev pub Read : List ℕ → Meaning Delay → BookState Delay → Result Answer ReaderFault → Meaning Delay → BookState Delay → Type 0
Read bytes m b r m' b' = ReadAs (reading bytes) m b r m' b'

-- Its line tells the answer or the refusal.
abbrev pub Told : ℕ → List ℕ → Meaning Delay → BookState Delay → Line → Meaning Delay → BookState Delay → Type 0
Told n bytes m b line m' b' = (r : Result Answer ReaderFault) × Read bytes m b r m' b' × (line ≡ line_of n r)
