use Rattle.std.proofs.Common.{◌≡◌, rules, tests}
use Rattle.std.proofs.lemmas.Iterator.{IsFirst-from_position}
use Rattle.query.proofs.Placing.{yields_listed, placed}
use Rattle.query.proofs.hubs.HubRows.place_of.Goals as goal

pub returns : goal.returns
returns g c =
    placed c.args.self.now.hub_list.now c.args.hub c.position.result
    (IsFirst-from_position _ _ _ (λ h. h ≡ c.args.hub) (λ h. h ≡ c.args.hub → ⊥) c.position.ensures.ran (yields_listed _ (λ f x r q k. search rules) c.args.self.now.hub_list.now cc) (λ x q k. search (rules, tests)) (λ x q k. search (rules, tests)))
