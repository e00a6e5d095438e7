-- A step that is no wait and hands nothing out makes entries.
use Rattle.run_replay.proofs.Prelude.{Absent, Choice, Commands, Configuration, Died, HandsOut, Moves, None, Over, Probes, Purpose, Reading, Sensed, Setting, Some, Told, Undoes, Waits, Worked, arith, choice_of, decide_is, give_entries, is_command, is_undo, length, read_of, sym, true, ℕ, ⊤, ◌<◌, ◌||◌, ◌∙◌, ◌≡◌}

-- where entries are made there is one
abbrev pub Makes : Choice → Type 0
Makes Absent = ⊤
Makes (Over e entries) = 0 < length entries
Makes (Moves entries) = 0 < length entries
Makes (Waits why) = ⊤
Makes (HandsOut d purpose) = ⊤

-- the step of a run that has not ended
pub choice_makes : (s : Configuration) (r m : ℕ) → ((read_of s).run r).ended ≡ None → Makes (choice_of s r m)
choice_makes s r m going = decide_is Makes s.setting (read_of s) s.grips r _ (record {
  absent = λ e. tt;
  over = λ e at. absurd (let both : None ≡ Some e = sym going ∙ at in cc);
  waits = λ why. tt;
  arrives = λ run e. omega arith;
  enters = λ split known. omega arith;
  aborted = λ cause act doomed over. omega arith;
  drops = λ cause d undoing down. omega arith;
  undoes = λ cause d undoing up. tt;
  revokes = λ c x run strong at. omega arith;
  downs = λ c run next home down. omega arith;
  goes = λ c run next home up. tt;
  skips = λ c run. omega arith;
  fails_at_end = λ d all at. omega arith;
  commits = λ all up. omega arith;
})

-- the step back of a command or an undo
pub give_makes : (w : Setting) (n : Reading) (d r : ℕ) (purpose : Purpose) (told : Told) → (is_command purpose || is_undo purpose) ≡ true → 0 < length (give_entries w n d (record { maker = r; purpose = purpose }) told)
give_makes w n d r (Commands k) Worked e = omega arith
give_makes w n d r (Commands k) (Sensed x) e = omega arith
give_makes w n d r (Commands k) Died e = omega arith
give_makes w n d r (Undoes v) Worked e = omega arith
give_makes w n d r (Undoes v) (Sensed x) e = omega arith
give_makes w n d r (Undoes v) Died e = omega arith
give_makes w n d r (Probes v) told e = absurd (cc)
