use Rattle.std.proofs.Common.{suc, ◌∙◌}
use Rattle.register.specs.Memories.{memory_of, records_of}
use Rattle.register.proofs.Afters.{after_past, after_struck, after_apart, goes_on, after_told}
use Rattle.register.proofs.calls.RegisterNetwork.next_link.Goals as goal
use Rattle.register.proofs.calls.RegisterNetwork.next_link.Goals.{then-not-link-via-then-not-link, then-not-link-via-else-not-link+then-link-site-2}

pub returns-in_err-link : goal.returns-in_err-link
returns-in_err-link g c =
    c.from_residual.ensures ∙ after_past (records_of (memory_of c.args.self.now)) c.args.site c.args.mark c.in_err-link.ensures.lookup.3

pub returns-then-not-link : goal.returns-then-not-link
returns-then-not-link g c =
    let given = records_of (memory_of c.args.self.now) in
    let read = c.in_ok-link.ensures.lookup in
    elim c.then-not-link.branch [
      | then-not-link-via-then-not-link w ↦ after_struck given c.args.site c.args.mark _ read.3.0 read.1 w.if-not-link.true
      | then-not-link-via-else-not-link+then-link-site-2 w ↦ after_apart given c.args.site c.args.mark _ read.3.0 read.1 w.if-link-site-2.true
    ]

pub returns : goal.returns
returns g c =
    let x = c.args.self.now in
    let given = records_of (memory_of x) in
    let read = c.in_ok-link.ensures.lookup in
    let either = c.if-link-site-2.either in
    after_told given c.args.site c.args.mark _ read.3.0 read.1 either _ c.if-not-link.false
    (c.standing_from.ensures (suc c.args.mark) (goes_on given c.args.site c.args.mark _ read.3.0 read.1 either x.ones x.others _ c.next_at.ensures))
