-- A hub whose player was opened, played on until every actor had ended, and closed: its window was replayed.
use Rattle.run_replay.proofs.Prelude.{ArePicked, Course, HavePlans, HubStands, IsFinished, IsReplay, List, None, OpenHub, Option, PlayerIsKept, PlayerIsOpened, PlayerState, SameWindow, Shown, WindowIsClosed, Worked, ap, configuration_of, inl, inr, not_quiet, plan_in, play_of, progress_at, refl, slice_get, subst, sym, window_worked, ℕ, ◌-◌, ◌∙◌, ◌≡◌}
use Rattle.history_book.specs.declared.records.WindowRecord.{WindowRecord}
use Rattle.hub_core.specs.Homes.{HomeState}
use Rattle.run_replay.proofs.Ending.{quiet_at_end}
use Rattle.run_replay.proofs.Living.{actors_are}
use Rattle.run_replay.proofs.Tellings.{replays}
use Rattle.run_replay.proofs.Trying.{same_window}
use Rattle.run_replay.specs.ReplayedWindows.{IsReplayBy, IsReplayed}

-- from the opening over the picks to the end, what the player's calls answer
pub record Went {D : Type 0} (hub : OpenHub D) (picks : List ℕ) (seed rounds : ℕ) (first played last : PlayerState D) : Type 0 where
  pub opens : PlayerIsOpened hub rounds first
  pub plays : (acts : ℕ) → (later : ℕ) × ArePicked first.rounds picks (play_of first acts) (play_of played later)
  pub finishes : (acts : ℕ) → (later : ℕ) × IsFinished played.rounds seed (play_of played acts) (play_of last later)
  pub window : SameWindow first.hub played.hub
  pub still : SameWindow played.hub last.hub
  pub rounds_played : played.rounds ≡ first.rounds
  pub rounds_last : last.rounds ≡ played.rounds

window_of : {D : Type 0} (hub : OpenHub D) (picks : List ℕ) (seed rounds : ℕ) (first played last : PlayerState D) → Went hub picks seed rounds first played last → SameWindow hub last.hub
window_of hub picks seed rounds first played last went = subst (λ h. SameWindow h last.hub) went.opens.own (same_window first.hub played.hub last.hub went.window went.still)

-- how many acts were told when every actor had ended
abbrev acts_of : {D : Type 0} (hub : OpenHub D) (picks : List ℕ) (seed rounds : ℕ) (first played last : PlayerState D) → Went hub picks seed rounds first played last → ℕ
acts_of hub picks seed rounds first played last went = (went.finishes (went.plays 0).0).0

is_replay : {D : Type 0} (hub : OpenHub D) (picks : List ℕ) (seed rounds : ℕ) (first played last : PlayerState D) (went : Went hub picks seed rounds first played last) → IsReplay hub.setting hub.rounds rounds picks seed (play_of last (acts_of hub picks seed rounds first played last went))
is_replay hub picks seed rounds first played last went =
    replays hub.setting hub.rounds rounds seed picks (play_of played between) (play_of last (went.finishes between).0)
    (subst (λ p. ArePicked rounds picks p (play_of played between)) went.opens.start (subst (λ n. ArePicked n picks (play_of first 0) (play_of played between)) went.opens.detector (went.plays 0).1))
    (subst (λ n. IsFinished n seed (play_of played between) (play_of last (went.finishes between).0)) (went.rounds_played ∙ went.opens.detector) (went.finishes between).1)
  where
    between : ℕ
    between = (went.plays 0).0

-- the hub is quiet then
pub quiet_then : {D : Type 0} (shows : D → Shown) (hub : OpenHub D) (picks : List ℕ) (seed rounds : ℕ) (first played last : PlayerState D)
    → Went hub picks seed rounds first played last → PlayerIsKept last → HubStands shows last.hub
    → not_quiet (configuration_of last.hub) ≡ None
quiet_then shows hub picks seed rounds first played last went kept stand =
    quiet_at_end last kept stand.grips (sym (actors_are course last later kept stand.size (sym went.rounds_last)) ∙ (went.finishes between).1.over course refl)
  where
    between : ℕ
    between = (went.plays 0).0

    later : ℕ
    later = (went.finishes between).0

    course : Course
    course = record { rounds = played.rounds; told = λ k. Worked }

-- the plan of the device that is home in the place of this number
abbrev pub plans_of : {D : Type 0} (shows : D → Shown) → OpenHub D → ℕ → Option (List (ℕ × ℕ))
plans_of shows hub d = plan_in shows (slice_get hub.places d)

pub plans_then : {D : Type 0} (shows : D → Shown) (hub : OpenHub D) (rounds : ℕ) (first : PlayerState D) → PlayerIsOpened hub rounds first → HavePlans shows (plans_of shows hub) first
plans_then shows hub rounds first opens d device (inl home) = sym (ap (plan_in shows) (ap (λ h. slice_get h.places d) (sym opens.own) ∙ home))
plans_then shows hub rounds first opens d device (inr hand) = absurd (opens.hands hand.0 hand.1 hand.2)

pub replayed_so : {D : Type 0} (shows : D → Shown) (hub : OpenHub D) (picks : List ℕ) (seed rounds : ℕ) (first played last : PlayerState D) (home : HomeState D) (closed : WindowRecord)
    → Went hub picks seed rounds first played last → HubStands shows hub → HubStands shows last.hub → HavePlans shows (plans_of shows hub) last → WindowIsClosed shows last.hub home closed
    → IsReplayed shows hub picks seed rounds home closed
replayed_so shows hub picks seed rounds first played last home closed went before after plans closes =
    window_worked (IsReplayBy hub.rounds rounds picks seed) shows hub last.hub home closed (λ d. hub.rounds - (progress_at last.hub.devices d).probes_left)
    before after window (λ d device at. plans d device (inl at)) closes (λ d inside. ap (λ n. n - (progress_at last.hub.devices d).probes_left) window.rounds) (record {
      play = play_of last (acts_of hub picks seed rounds first played last went);
      replay = is_replay hub picks seed rounds first played last went;
      history = closes.history;
      took = λ d. refl;
    })
  where
    window : SameWindow hub last.hub
    window = window_of hub picks seed rounds first played last went
