use Rattle.std.proofs.Common.{sym, ap}
use Rattle.network.specs.Links.{first}
use Rattle.register.specs.Memories.{no_chain}
use Rattle.register.proofs.Afters.{told_nowhere}
use Rattle.register.proofs.calls.RegisterNetwork.first_link.Goals as goal

pub returns-then-site-self : goal.returns-then-site-self
returns-then-site-self g c = sym (ap first (told_nowhere c.args.self.now c.args.site c.if-site-self.true))

pub returns : goal.returns
returns g c = c.standing_from.ensures 0 (c.args.self.now.firsts c.args.site c.if-site-self.false no_chain)
