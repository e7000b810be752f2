-- Commands with one more argument.
use Rattle.std.proofs.Common.{◌≡◌, false, Ok, Err, Result, ◌∙◌, ap₂}
use Rattle.std.specs.Prelude.{IfOk}
use Rattle.clap.specs.Words.{AddsArg, App, Rule, app_of, rule_of, with_rule}
use Rattle.clap.specs.declared.builder.arg.Arg.{Arg}
use Rattle.clap.specs.declared.builder.command.Command.{Command}

pub app-with_rule : {E : Type 0} (old : Command) (a : Arg) (app : App) (rule : Rule) (new : Result Command E) → IfOk new (AddsArg old a) → a.global ≡ false →
    app_of old ≡ app → rule_of a ≡ rule → IfOk new (λ command. app_of command ≡ with_rule app rule)
app-with_rule old a app rule (Ok command) added local is_app is_rule = added.shape local ∙ ap₂ with_rule is_app is_rule
app-with_rule old a app rule (Err e) added local is_app is_rule = tt
