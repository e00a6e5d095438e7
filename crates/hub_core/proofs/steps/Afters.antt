-- The reading after a step.
use Rattle.hub_core.proofs.Prelude.{Absent, Bool, Choice, Configuration, Entry, HandsOut, IsTrue, List, Moves, Over, Reading, Waits, after_choice, along, ap, append-nil, at_moment, each_entry, each_on, entries_of, entries_on, entry, fold, read_of, reading, reading_on, refl, sym, with_entries, ℕ, ◌∙◌, ◌≡◌}
use Rattle.hub_core.proofs.steps.Takes.{made_by}

-- the entries of a step are read after what was read before
pub read_with : (s : Configuration) (maker : ℕ) (entries : List Entry) → read_of (with_entries s maker entries) ≡ fold (entry s.setting) (read_of s) entries
read_with s maker entries = ap (reading s.setting) (entries_on s.history maker entries) ∙ reading_on s.setting (entries_of s.history) entries

-- what a test says along a history with the entries of a step more
pub each_with : (s : Configuration) (test : Reading → Entry → Bool) (maker : ℕ) (entries : List Entry) → IsTrue (each_entry s.setting test (entries_of s.history)) → IsTrue (along s.setting test (read_of s) entries)
    → IsTrue (each_entry s.setting test (entries_of (with_entries s maker entries).history))
each_with s test maker entries old new = rw (entries_on s.history maker entries) (each_on s.setting test (entries_of s.history) entries old new)

-- a run's step adds the entries that its choice makes
pub take_history : (s : Configuration) (r m : ℕ) (c : Choice) → (after_choice (at_moment s m) r c).history ≡ (with_entries s r (made_by c)).history
take_history s r m Absent = sym (append-nil s.history)
take_history s r m (Over e entries) = refl
take_history s r m (Moves entries) = refl
take_history s r m (Waits why) = sym (append-nil s.history)
take_history s r m (HandsOut d purpose) = sym (append-nil s.history)
