use Rattle.command_words.proofs.Prelude.{App, [], app_of, ap₂, bare_shape, model_rule, rule_of, rules, scheduler_rule, trace_rule, with_rule, ◌∙◌, ◌≡◌}
use Rattle.command_words.proofs.option_words.options_command.Goals as goal

pub returns : goal.returns
returns c =
    let model_is : rule_of c.long-model.result ≡ model_rule = search rules in
    let scheduler_is : rule_of c.long-scheduler.result ≡ scheduler_rule = search rules in
    let trace_is : rule_of c.action-trace.result ≡ trace_rule = search rules in
    let bare : App = record { top = bare_shape; subs = [] } in
    let bare_is : app_of c.disable_version_flag.result ≡ bare = search rules in
    let one = c.in_ok-arg.ensures.shape (search rules) ∙ ap₂ with_rule bare_is model_is in
    let two = c.in_ok-arg-2.ensures.shape (search rules) ∙ ap₂ with_rule one scheduler_is in
    c.in_ok-command.ensures.shape (search rules) ∙ ap₂ with_rule two trace_is
