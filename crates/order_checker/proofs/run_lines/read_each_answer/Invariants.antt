use Rattle.order_checker.proofs.run_lines.read_each_answer.Given as goal
use Rattle.order_checker.proofs.Prelude.{[], drop, length, next_answer, texts, walk, ◌≡◌}

-- the answers so far
abbrev pub invariant-commands : goal.invariant-commands
invariant-commands l =
    record {
      walk :
          walk (next_answer l.devices (texts l.words) l.place) [] l.commands
          ≡ walk (next_answer l.devices (texts l.words) l.place) l.answers.items (drop l.i l.commands);
      count : length l.answers.items ≡ l.i;
    }
