use Rattle.std.proofs.Common.{sym, ◌∙◌}
use Rattle.query.proofs.hubs.HubRows.total.Goals as goal

pub returns-then-no_wider : goal.returns-then-no_wider
returns-then-no_wider g c = rw (sym c.no_wider.ensures ∙ c.if-no_wider.true) c.through.ensures

pub returns-else-no_wider : goal.returns-else-no_wider
returns-else-no_wider g c = rw (sym c.no_wider.ensures ∙ c.if-no_wider.false) c.through-else-no_wider.ensures
