use Rattle.std.proofs.Common.{◌≡◌, ◌-◌, ◌<◌, length, get_or, Some, sym, subst, arith, rules}
use Rattle.query.specs.Lookup.{FoundIn}
use Rattle.query.proofs.Tabulating.{not_there, there_at}
use Rattle.query.proofs.lookup.BallTable.distance.Goals as goal

pub returns-in_err-place : goal.returns-in_err-place
returns-in_err-place g c =
    let there = c.args.self.now in
    let zero : get_or there.places.now c.args.site 0 ≡ 0 = omega (arith, c.in_err-place.ensures, c.in_ok-get.ensures.lookup.3.1 0) in
    subst (FoundIn there.ball.now c.args.site) (sym c.from_residual-in_err-place.ensures) (not_there there.ball.now there.places.now there.tabled c.args.site zero)

pub bounds-self-place : goal.bounds-self-place
bounds-self-place g c =
    let there = c.args.self.now in
    let pos : 0 < get_or there.places.now c.args.site 0 = omega (arith, c.in_ok-place.ensures, c.in_ok-get.ensures.lookup.3.1 0) in
    omega (arith, there.tabled.inside c.args.site pos, c.in_ok-place.ensures, c.in_ok-get.ensures.lookup.3.1 0)

pub offset_bounds-self-place : goal.offset_bounds-self-place
offset_bounds-self-place g c = let lt : c.in_ok-place.place < length c.args.self.now.ball.now = bounds-self-place g c in search rules

pub returns : goal.returns
returns g c =
    let there = c.args.self.now in
    let pos : 0 < get_or there.places.now c.args.site 0 = omega (arith, c.in_ok-place.ensures, c.in_ok-get.ensures.lookup.3.1 0) in
    let is : get_or there.places.now c.args.site 0 - 1 ≡ c.in_ok-place.place = omega (arith, c.in_ok-place.ensures, c.in_ok-get.ensures.lookup.3.1 0) in
    subst (λ i. FoundIn there.ball.now c.args.site (Some (get_or there.ball.now i c.index-self-place.result).distance)) is
    (there_at there.ball.now there.places.now there.tabled c.args.site pos c.index-self-place.result)
