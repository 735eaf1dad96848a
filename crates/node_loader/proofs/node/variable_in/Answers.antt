use Rattle.std.proofs.Common.{refl}
use Rattle.std.proofs.lemmas.Result.{err_from_is_err_and}
use Rattle.toml.specs.View.{table_view}
use Rattle.node_loader.specs.Node.{variable_of}
use Rattle.node_loader.proofs.Typed.{ranked_typed}
use Rattle.node_loader.proofs.node.variable_in.Goals as goal

pub variable_with-requires-clause-typed : goal.variable_with-requires-clause-typed
variable_with-requires-clause-typed c =
    ranked_typed c.args.form.value_type c.args.form.rank c.args.setting.now.highest (table_view c.args.table.now) c.in_ok-value.value c.in_ok-value.ensures

pub returns-in_err-historizing : goal.returns-in_err-historizing
unfolding variable_of
returns-in_err-historizing c =
    let p = err_from_is_err_and c.from_residual-in_err-historizing.result c.from_residual-in_err-historizing.ensures.1 in
    rw (p.1, p.2) (λ other. rw (c.in_ok-value.ensures, ← c.in_ok-access.ensures.given, ← c.in_err-historizing.ensures) refl)

pub returns : goal.returns
unfolding variable_of
returns c = rw (c.in_ok-value.ensures, ← c.in_ok-access.ensures.given, ← c.in_ok-historizing.ensures, c.variable_with.ensures) refl
