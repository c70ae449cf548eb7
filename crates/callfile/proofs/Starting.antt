-- A new index in the place of the running one.
use Rattle.std.proofs.Common.{◌≡◌, ℕ, None, Ok, refl}
use Rattle.weight.specs.Numbers.{delay}
use Rattle.weight.specs.declared.delay.Delay.{Delay}
use Rattle.network.specs.Sizes.{over, checked}
use Rattle.register.specs.Memories as register
use Rattle.register.specs.Memories.{Memory, meaning}
use Rattle.register.proofs.Starts.{made_means}
use Rattle.index.specs.Books as books
use Rattle.index.specs.Books.{BookState, by_fault, fresh, fault_in}
use Rattle.index.specs.Calls.{Follows}
use Rattle.network.specs.declared.fault.NetworkFault.TheVariants.{TooLarge}
use Rattle.network.proofs.Faultless.{fault_none}
use Rattle.callfile.specs.Running.{start_fault, starting}

pub started : (n : ℕ) (before after : Memory Delay) (b b' : BookState Delay) → Ok tt ≡ checked (over TooLarge 256 n) → Ok tt ≡ checked (register.fault_in before n 1024)
    → books.Renewed delay n 8 2048 b (Ok tt) b' → register.Made n 1024 before after
    → Follows (starting (start_fault n (meaning before) b) n (meaning before) b) (meaning before, b) (Ok n) (meaning after, b')
started n before after b b' few fits book made =
    let light : over TooLarge 256 n ≡ None = fault_none (over TooLarge 256 n) few in
    let none : register.fault_in before n 1024 ≡ None = fault_none (register.fault_in before n 1024) fits in
    let unfaulted : fault_in b n 8 2048 ≡ None = fault_none (fault_in b n 8 2048) book.0 in
    let p : b' ≡ fresh delay b n 8 2048 = rw unfaulted at book.1 in
    let q = made_means n 1024 before after none made in
    rw (light, none, unfaulted) (refl, (λ i. (q i, p i)))
