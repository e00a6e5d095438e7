use Rattle.command_words.proofs.CommandLineLemmas.{keep_means, replay_means, run_means, watch_means}
use Rattle.command_words.proofs.readers.read_words.Goals as goal
use Rattle.command_words.specs.declared.command_lines.WordFault.TheVariants.{Words}
use Rattle.command_words.proofs.Prelude.{Err, None, Some, rules, string_bytes, ◌≡◌}

pub returns-in_err-read_options-in-run-clause-refused :
    goal.returns-in_err-read_options-in-run-clause-refused
returns-in_err-read_options-in-run-clause-refused c = λ is.
    let refused : c.read_options.result ≡ Err Words = search rules in
    run_means string_bytes c.args.words.now c.command-item.result c.as_str.result.now c.in-len1-up.len_at_least c.command-item.is c.as_str.ensures.value None (c.read_options.ensures.refused refused) c.in-run.is

pub returns-in_ok-read_options-in-run-clause-meaning :
    goal.returns-in_ok-read_options-in-run-clause-meaning
returns-in_ok-read_options-in-run-clause-meaning c =
    run_means string_bytes c.args.words.now c.command-item.result c.as_str.result.now c.in-len1-up.len_at_least c.command-item.is c.as_str.ensures.value (Some c.in_ok-read_options-in-run.field-0) c.in_ok-read_options-in-run.ensures.meaning c.in-run.is

pub returns-in_ok-read_options-in-replay-clause-meaning :
    goal.returns-in_ok-read_options-in-replay-clause-meaning
returns-in_ok-read_options-in-replay-clause-meaning c =
    replay_means string_bytes c.args.words.now c.command-item.result c.as_str.result.now c.in-len1-up.len_at_least c.command-item.is c.as_str.ensures.value (Some c.in_ok-read_options-in-replay.field-0) c.in_ok-read_options-in-replay.ensures.meaning c.in-replay.is

pub returns-in_ok-read_options-in-watch-clause-meaning :
    goal.returns-in_ok-read_options-in-watch-clause-meaning
returns-in_ok-read_options-in-watch-clause-meaning c =
    watch_means string_bytes c.args.words.now c.command-item.result c.as_str.result.now c.in-len1-up.len_at_least c.command-item.is c.as_str.ensures.value (Some c.in_ok-read_options-in-watch.field-0) c.in_ok-read_options-in-watch.ensures.meaning c.in-watch.is

pub returns-in_ok-read_options-in-keep-clause-meaning :
    goal.returns-in_ok-read_options-in-keep-clause-meaning
returns-in_ok-read_options-in-keep-clause-meaning c =
    keep_means string_bytes c.args.words.now c.command-item.result c.as_str.result.now c.in-len1-up.len_at_least c.command-item.is c.as_str.ensures.value (Some c.in_ok-read_options-in-keep.field-0) c.in_ok-read_options-in-keep.ensures.meaning c.in-keep.is
