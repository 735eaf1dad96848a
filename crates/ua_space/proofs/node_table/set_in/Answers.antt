use Rattle.std.proofs.Common.{sym, ap, ◌∙◌}
use Rattle.ua_space.specs.Values.{holding}
use Rattle.ua_space.specs.declared.node.NodeDetails.TheVariants as details
use Rattle.ua_space.proofs.Searching.{stored, no_variable}
use Rattle.ua_space.proofs.node_table.set_in.Goals as goal

pub returns-in-Variable : goal.returns-in-Variable
returns-in-Variable c =
    stored c.args.entries.now.items c.args.place c.args.value c.in-Some.entry.now (details.Variable c.set.new.self) c.in-Some.ensures.value (ap details.Variable c.set.ensures ∙ sym (ap (holding c.args.value) c.in-Variable.is))

pub returns-in_default : goal.returns-in_default
returns-in_default c =
    stored c.args.entries.now.items c.args.place c.args.value c.in-Some.entry.now c.in-Some.entry.now.1.details c.in-Some.ensures.value (no_variable c.args.value c.in-Some.entry.now.1.details c.in_default.not-Variable)
