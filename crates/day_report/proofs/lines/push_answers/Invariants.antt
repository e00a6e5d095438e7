use Rattle.day_report.proofs.lines.push_answers.Given as goal
use Rattle.day_report.proofs.Prelude.{answer_words, string_bytes, take, ◌++◌, ◌≡◌}

-- the text has grown by the entries so far
abbrev pub invariant-entries : goal.invariant-entries
invariant-entries l = string_bytes l.text ≡ string_bytes l.initial.text ++ answer_words l.script l.window l.run (take l.kept-index l.history)
