-- A run that has just answered its next command, and whether it is done with the device of that command.
use Rattle.hub_core.proofs.Prelude.{Answer, Did, HistoryState, IsTrue, OfRun, Reading, [], ap, command_at, commands_of, entries_of, entries_on, is_run, length, next_of, put_same, read_in, reading, reading_more, run_no, subst, sym, true, with_entry, ℕ, ◌+◌, ◌<◌, ◌∙◌, ◌∷◌, ◌≡◌}
use Rattle.std.proofs.lemmas.List.{length-append}

-- the answer is counted
next_behind : (s : HistoryState) (maker r k : ℕ) (a : Answer) → next_of (read_in (with_entry s maker (Did (run_no r) k a))) r ≡ next_of (read_in s) r + 1
next_behind s maker r k a =
    let read = ap (reading s.setting) (entries_on s.history maker (Did (run_no r) k a ∷ [])) ∙ reading_more s.setting (entries_of s.history) (Did (run_no r) k a) in
    ap (λ (n : Reading). next_of n r) read
    ∙ ap (λ (o : OfRun). length o.answers) (put_same (read_in s).run r _)
    ∙ length-append ((read_in s).run r).answers (a ∷ [])

-- the run has just answered its command k, which is on the device
pub record HasJustAnswered (s : HistoryState) (r k d : ℕ) : Type 0 where
  pub run : IsTrue (is_run s.setting.runs r)
  pub there : k < length (commands_of s.setting.runs r)
  pub device : (command_at s.setting.runs r k).device.0 ≡ d
  pub answered : next_of (read_in s) r ≡ k + 1

-- .. once the answer to its next command is appended
pub just_answered : (s t : HistoryState) (maker r k d : ℕ) (a : Answer) → is_run s.setting.runs maker ≡ true → k ≡ next_of (read_in s) maker → k < length (commands_of s.setting.runs maker) → (command_at s.setting.runs maker k).device.0 ≡ d
    → r ≡ maker → t ≡ with_entry s r (Did (run_no r) k a) → HasJustAnswered t r k d
just_answered s t maker r k d a run next within on same new =
    subst (λ (u : HistoryState). HasJustAnswered u r k d) (sym new)
    (subst (λ q. HasJustAnswered (with_entry s q (Did (run_no q) k a)) q k d) (sym same) (record {
      run = run;
      there = within;
      device = on;
      answered = next_behind s maker maker k a ∙ ap (λ n. n + 1) (sym next);
    }))
