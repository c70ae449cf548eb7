use Rattle.std.proofs.Common.{sym, subst}
use Rattle.register.specs.Memories.{memory_of}
use Rattle.register.proofs.Adding.{Added, one_more, added, last_inside, second_last_inside, one_joined, two_joined}
use Rattle.register.proofs.Sites.{Appended}
use Rattle.register.proofs.Register.add.Given.{Over}
use Rattle.register.proofs.Register.add.Goals as goal
use Rattle.register.proofs.Register.add.Goals.{Joined-other-one, then-other-one, else-other-one}

pub append-requires-clause-last : goal.append-requires-clause-last
append-requires-clause-last g c =
    last_inside c.args.self.now c.requires.room c.args.one c.args.other c.args.weight c.requires.ends.0 c.requires.ends.1

pub append-requires-then-other-one-clause-last : goal.append-requires-then-other-one-clause-last
append-requires-then-other-one-clause-last g c =
    second_last_inside c.args.self.now c.requires.room c.args.one c.args.other c.args.weight c.requires.ends.0 c.requires.ends.1
    c.append.new.chains c.append.new.records (record { chains = c.append.ensures.chains; records = c.append.ensures.records }) c.if-other-one.true

-- the number is in the chains of both ends, which may be one site: `self` has its chains and its records after three numbers
all_added : (g : Over) (c : Joined-other-one g) → Added (memory_of c.args.self.now) c.args.one c.args.other c.args.weight (one_more c.args.self.now c.if-other-one.self.1.1.1.1.0.now c.if-other-one.self.1.1.1.1.1.0.now)
all_added g c =
    let x = c.args.self.now in
    let a = c.args.one in
    let b = c.args.other in
    let v = c.args.weight in
    let cs = c.append.new.chains in
    let rs = c.append.new.records in
    let put : Appended a x.used x.chains.now cs _ rs = record { chains = c.append.ensures.chains; records = c.append.ensures.records } in
    elim c.if-other-one.branch [
      | then-other-one w ↦
          let cs' = w.append-then-other-one.new.chains in
          let rs' = w.append-then-other-one.new.records in
          let put' : Appended b x.used cs cs' rs rs' = record { chains = w.append-then-other-one.ensures.chains; records = w.append-then-other-one.ensures.records } in
          subst (λ z. Added (memory_of x) a b v (one_more x z.1.1.1.1.0.now z.1.1.1.1.1.0.now)) (sym w.self-is)
          (added x c.requires.room a b v c.requires.ends.0 c.requires.ends.1 cs' rs'
          (two_joined x c.requires.room a b v c.requires.ends.0 c.requires.ends.1 cs rs put w.if-other-one.true cs' rs' put'))
      | else-other-one w ↦
          subst (λ z. Added (memory_of x) a b v (one_more x z.1.1.1.1.0.now z.1.1.1.1.1.0.now)) (sym w.self-is)
          (added x c.requires.room a b v c.requires.ends.0 c.requires.ends.1 cs rs
          (one_joined x c.requires.room a b v c.requires.ends.0 c.requires.ends.1 cs rs put w.if-other-one.false))
    ]

pub invariant_of-self : goal.invariant_of-self
invariant_of-self g c = let k = (all_added g c).kept in record { sized = k.sized; inside = k.inside; firsts = k.firsts; lasts = k.lasts; ones = k.ones; others = k.others }

pub returns-clause-means : goal.returns-clause-means
returns-clause-means g c = (all_added g (goal.at.returns-clause-means g c).Joined-other-one).means

pub returns-clause-spared : goal.returns-clause-spared
returns-clause-spared g c = (all_added g (goal.at.returns-clause-spared g c).Joined-other-one).spared
