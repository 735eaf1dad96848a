use Rattle.std.proofs.Common.{arith}
use Rattle.std.proofs.lemmas.Bool.{false≢true}
use Rattle.ua_space.proofs.Emptying.{emptied, none_emptied}
use Rattle.ua_space.proofs.node_table.put_in.Goals as goal

pub returns-in-None : goal.returns-in-None
returns-in-None c =
    none_emptied c.args.values c.args.entries.now.items c.args.place (λ lt. false≢true (c.in-None.ensures.variant.1 (omega (arith, lt, c.args.entries.now.ok.0))))

pub returns-in-Some : goal.returns-in-Some
returns-in-Some c = rw c.replace.ensures.after (emptied c.args.values c.args.entries.now.items c.args.place c.in-Some.entry.now c.in-Some.ensures.value)
