-- What arguments add to a command.
use Rattle.std.proofs.Common.{◌≡◌, ◌∙◌, Bool, false, ◌||◌, ap₂}
use Rattle.clap.specs.Words.{AddsArg, App, Rule, app_of, rule_of, with_rule}
use Rattle.clap.specs.declared.builder.arg.Arg.{Arg}
use Rattle.clap.specs.declared.builder.command.Command.{Command}
use Rattle.clap.specs.declared.builder.command.Command.TheViews.{out-Command as fields_of}

-- a command of this shape, none of whose arguments is global
abbrev pub Is : App → Command → Type 0
Is app c = (app_of c ≡ app) × ((fields_of c).has_globals ≡ false)

-- an argument that isn't global adds its rule
pub adds : (app : App) (rule : Rule) {old new : Command} {a : Arg} → Is app old → a.global ≡ false → rule_of a ≡ rule → AddsArg old a new → Is (with_rule app rule) new
adds app rule is local has added = (added.shape local ∙ ap₂ with_rule is.0 has, added.globals ∙ ap₂ (λ (x y : Bool). x || y) is.1 local)
