use Rattle.std.proofs.Common.{rules, ap, ap₂, true, false, codes, ◌≡◌, ◌∙◌}
use Rattle.std.proofs.lemmas.Result.{IfOk-weaker}
use Rattle.clap.specs.Words.{App, app_of, rule_of, with_rule}
use Rattle.clap.specs.declared.builder.command.Command.{Command}
use Rattle.clap.specs.declared.builder.command.Command.TheOpen.{Command-F}
use Rattle.clap.specs.Simple.{app_of_fields}
use Rattle.quilt_top.specs.CommandLine.{bare, placed_argument, pool_option}
use Rattle.quilt_top.proofs.command_line.reader.Goals as goal

pub returns : goal.returns
returns c =
    let mode : rule_of c.required.result ≡ placed_argument (codes "mode") true = search rules in
    let file : rule_of c.required-2.result ≡ placed_argument (codes "file") true = search rules in
    let first : rule_of c.new-4.result ≡ placed_argument (codes "first") false = search rules in
    let second : rule_of c.new-5.result ≡ placed_argument (codes "second") false = search rules in
    let pool : rule_of c.long.result ≡ pool_option = search rules in
    let start : app_of c.disable_help_flag.result ≡ bare =
    ap app_of_fields c.disable_help_flag.ensures
    ∙ ap (λ (f : Command-F Command). app_of_fields (record f { disable_help_flag = true })) c.no_binary_name.ensures
    ∙ ap (λ (app : App). record app { top = record app.top { no_binary_name = true; disable_help_flag = true } }) c.new.ensures.app in
    let one = c.in_ok-arg.ensures.shape (search rules) ∙ ap₂ with_rule start mode in
    let two = c.in_ok-arg-2.ensures.shape (search rules) ∙ ap₂ with_rule one file in
    let three = c.in_ok-arg-3.ensures.shape (search rules) ∙ ap₂ with_rule two first in
    let four = c.in_ok-arg-4.ensures.shape (search rules) ∙ ap₂ with_rule three second in
    IfOk-weaker c.arg-5.result _ _ (λ r h. h.shape (search rules) ∙ ap₂ with_rule four pool) c.arg-5.ensures
