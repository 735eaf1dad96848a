use Rattle.std.proofs.Common.{◌+◌, arith}
use Rattle.ua_session.proofs.HeldLemmas.{held_with}
use Rattle.ua_session.proofs.sessions.Sessions.add.Goals as goal

pub insert-requires : goal.insert-requires
insert-requires c = c.self.invariant.fresh (c.self.inside.made + 1) (omega arith)

pub invariant_of-self-2 : goal.invariant_of-self-2
invariant_of-self-2 c =
    let old = c.self.inside in
    held_with c.earlier-self-inside.result old.earliest old.made (old.made + 1) old.table c.insert.new.self (old.made + 1) c.args.session c.in_ok-insert.ensures.ok
    c.earlier-self-inside.ensures.first c.earlier-self-inside.ensures.second (omega arith) (omega arith) c.self.invariant
