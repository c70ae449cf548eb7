use Rattle.index.specs.Books.{state}
use Rattle.register.specs.Memories.{memory_of}
use Rattle.callfile.proofs.Starting.{started}
use Rattle.callfile.proofs.running.start.Goals as goal

pub returns : goal.returns
returns c =
    started c.args.sites (memory_of c.args.register.now) (memory_of c.renew-2.new.self) (state c.args.book.now) (state c.renew.new.self)
    c.in_ok-check_size.ensures c.in_ok-check.ensures c.in_ok-renew.ensures c.renew-2.ensures.renewed.1
