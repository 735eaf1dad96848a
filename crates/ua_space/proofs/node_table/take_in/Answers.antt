use Rattle.std.proofs.Common.{[], refl, ◌∙◌, arith}
use Rattle.std.proofs.lemmas.Bool.{false≢true}
use Rattle.ua_space.proofs.Emptying.{emptied, none_emptied, taken_out}
use Rattle.ua_space.proofs.node_table.take_in.Goals as goal

pub returns-in-None-clause-left : goal.returns-in-None-clause-left
returns-in-None-clause-left c =
    none_emptied [] c.args.entries.now.items c.args.place (λ lt. false≢true (c.in-None.ensures.variant.1 (omega (arith, lt, c.args.entries.now.ok.0))))

pub returns-in-Some-clause-taken : goal.returns-in-Some-clause-taken
returns-in-Some-clause-taken c =
    c.replace.ensures.value
    ∙ taken_out c.args.entries.now.items c.args.place c.in-Some.entry.now c.in-Some.ensures.value (omega (arith, c.in-Some.ensures.variant.0 refl, c.args.entries.now.ok.0))

pub returns-in-Some-clause-left : goal.returns-in-Some-clause-left
returns-in-Some-clause-left c = rw (c.replace.ensures.after, c.new-in-Some.ensures) (emptied [] c.args.entries.now.items c.args.place c.in-Some.entry.now c.in-Some.ensures.value)
