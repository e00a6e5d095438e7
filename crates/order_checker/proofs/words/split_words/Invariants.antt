use Rattle.order_checker.proofs.words.split_words.Given as goal
use Rattle.order_checker.proofs.Prelude.{length, texts, words_of, ◌++◌, ◌≡◌, ◌≤◌}

-- the words so far, and those of what is left
abbrev pub invariant-words : goal.invariant-words
invariant-words l =
    record {
      words : words_of l.line ≡ texts l.words.items ++ words_of l.rest;
      within : length l.rest ≤ length l.line;
    }

abbrev pub decreases-words : goal.decreases-words
decreases-words l = length l.rest
