use Rattle.std.proofs.Common.{◌≡◌, ◌∙◌, ap, rules, codes, true}
use Rattle.std.proofs.lemmas.Result.{IfOk-weaker}
use Rattle.clap.specs.Words.{Rule, new_app, rule_of}
use Rattle.clap.specs.declared.builder.arg.Arg.{Arg}
use Rattle.command_line.specs.Words.{option_rule}
use Rattle.command_line.proofs.Adding.{Is, adds}
use Rattle.command_line.proofs.program.serve_place.Goals as goal

abbrev required : Rule → Rule
required rule = record rule { required = true }

pub returns : goal.returns
returns c =
    let is_global = λ (a : Arg). a.global in
    let bare : Is (new_app (codes "serve")) c.about.result = search rules in
    let nodes = adds _ _ bare (ap is_global c.required.ensures ∙ c.nodes.ensures.local) (ap rule_of c.required.ensures ∙ ap required c.nodes.ensures.rule) c.in_ok-arg.ensures in
    let port = adds _ (required (option_rule (codes "port"))) nodes (ap is_global c.required-2.ensures ∙ c.option.ensures.local) (ap rule_of c.required-2.ensures ∙ ap required c.option.ensures.rule) c.in_ok-arg-2.ensures in
    IfOk-weaker c.arg-3.result _ _ (λ r added. adds _ (option_rule (codes "address")) port c.option-2.ensures.local c.option-2.ensures.rule added) c.arg-3.ensures
