use Rattle.day_report.proofs.lines.push_trace.Given as goal
use Rattle.day_report.proofs.Prelude.{string_bytes, take, trace_lines, ◌++◌, ◌≡◌}

-- the text has grown by the entries so far
abbrev pub invariant-entries : goal.invariant-entries
invariant-entries l = string_bytes l.text ≡ string_bytes l.initial.text ++ trace_lines l.script l.window (take l.kept-index l.history)
