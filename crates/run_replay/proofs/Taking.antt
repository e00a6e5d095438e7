-- A run takes its step: what its player is after it.
use Rattle.run_replay.proofs.Prelude.{Absent, Answers, Bool, Choice, Configuration, DeviceGoesOut, Gripped, HandsOut, HavePlans, IsPicked, IsStepped, Moves, None, OpenHub, Over, Passed, Plan, PlayerIsKept, PlayerStands, PlayerState, Ready, SameWindow, Shown, Slip, Some, Took, Waits, Why, after_choice, after_take, ap, arith, at_moment, choice_of, configuration_of, decide_is, false, hub_state_of, is_ended, is_full, is_run, is_some, length, length_with, most_made, none_there, picked_by, play_of, read_of, slice_get, slice_set, steps_left, subst, suc, sym, took_after, took_choice, true, zero, ℕ, ◌*◌, ◌<◌, ◌^◌, ◌∙◌, ◌≡◌, ◌≢◌, ◌≤◌}
use Rattle.hub_core.specs.HubSteps.{IsSlipOf, SlipFits}
use Rattle.run_replay.proofs.Holding.{Moves as MovesOn, Takes, moves_keeps, moves_plans, takes_keeps, takes_plans}
use Rattle.run_replay.proofs.Making.{Makes, choice_makes}
use Rattle.run_replay.proofs.Gripping.{empty_hand}
use Rattle.run_replay.proofs.Picking.{IsGoing, empty_is, passed_is_picked, same_moment, taken_is_stepped}
use Rattle.run_replay.proofs.Settings.{both_are, within}
use Rattle.run_replay.proofs.Stepping.{StaysBy, made_fewer, still_left, took_fewer}

-- What is known before

-- a run that goes on, with an empty hand
pub record IsFree {D : Type 0} (s : PlayerState D) (r : ℕ) : Type 0 where
  pub kept : PlayerIsKept s
  pub run : 0 < r
  pub going : is_ended s r ≡ false
  pub empty : is_full s r ≡ false

goes : {D : Type 0} (s : PlayerState D) (r : ℕ) → 0 < r → is_ended s r ≡ false → IsGoing (configuration_of s.hub) r
goes s zero some on = absurd (omega (arith, some))
goes s (suc r) some on = let two = both_are (is_run s.hub.setting.runs (suc r)) (is_some ((read_of (configuration_of s.hub)).run (suc r)).ended) on in (two.0, none_there ((read_of (configuration_of s.hub)).run (suc r)).ended two.1)

run_low : {D : Type 0} (s : PlayerState D) (r : ℕ) → PlayerIsKept s → IsGoing (configuration_of s.hub) r → r < length s.grips
run_low s zero kept going = absurd (let no : false ≡ true = going.0 in cc)
run_low s (suc r) kept going = let low = within s.hub.setting.runs r going.0 in let actors = kept.actors in omega (arith, low, actors)

-- the hand of a free run is empty
pub hand_is_empty : {D : Type 0} (s : PlayerState D) (r : ℕ) → IsFree s r → slice_get s.grips r ≡ Some None
hand_is_empty s r free = empty_is s r free.empty (run_low s r free.kept (goes s r free.run free.going))

pub going_of : {D : Type 0} (s : PlayerState D) (r : ℕ) → IsFree s r → IsGoing (configuration_of s.hub) r
going_of s r free = goes s r free.run free.going

-- Histories grow

history_by : (s : Configuration) (r : ℕ) (c : Choice) → length s.history ≤ length (after_choice s r c).history
history_by s r Absent = omega arith
history_by s r (Over e entries) = let h = length_with s.history r entries in omega (arith, h)
history_by s r (Moves entries) = let h = length_with s.history r entries in omega (arith, h)
history_by s r (Waits why) = omega arith
history_by s r (HandsOut d purpose) = omega arith

-- entries are made where the choice says so
abbrev pub makes : Choice → Bool
makes Absent = false
makes (Over e entries) = true
makes (Moves entries) = true
makes (Waits why) = false
makes (HandsOut d purpose) = false

more_by : (s : Configuration) (r : ℕ) (c : Choice) → makes c ≡ true → Makes c → length s.history < length (after_choice s r c).history
more_by s r Absent yes' some = absurd (cc)
more_by s r (Over e entries) yes' some = let h = length_with s.history r entries in omega (arith, h, some)
more_by s r (Moves entries) yes' some = let h = length_with s.history r entries in omega (arith, h, some)
more_by s r (Waits why) yes' some = absurd (cc)
more_by s r (HandsOut d purpose) yes' some = absurd (cc)

-- The step

-- the run's step was answered so, and no device went out
pub record IsAnswered {D : Type 0} (s t : PlayerState D) (r : ℕ) (choice : Choice) : Type 0 where
  pub free : IsFree s r
  pub answers : Answers s.hub r s.hub.moment choice t.hub
  pub window : SameWindow s.hub t.hub
  pub grips : t.grips ≡ s.grips
  pub rounds : t.rounds ≡ s.rounds
  pub place : t.place ≡ s.place
  pub moves : t.moves ≡ s.moves

pub some_slip : Slip
some_slip = record { ticket = 0; device = record { 0 = 0 }; maker = 0; stood = 0; turns = 0; drives = 0; probes = 0; faults = 0 }

pub chosen : {D : Type 0} (s t : PlayerState D) (r : ℕ) (choice : Choice) → Answers s.hub r s.hub.moment choice t.hub → choice ≡ choice_of (configuration_of s.hub) r s.hub.moment
chosen s t r choice answers = took_choice (hub_state_of s.hub) (hub_state_of t.hub) r s.hub.moment some_slip choice (answers.step some_slip)

pub after : {D : Type 0} (s t : PlayerState D) (r : ℕ) (choice : Choice) → Answers s.hub r s.hub.moment choice t.hub → configuration_of t.hub ≡ after_take (configuration_of s.hub) r s.hub.moment
after s t r choice answers = took_after (hub_state_of s.hub) (hub_state_of t.hub) r s.hub.moment some_slip choice (answers.step some_slip)

longer : {D : Type 0} (s t : PlayerState D) (r : ℕ) → configuration_of t.hub ≡ after_take (configuration_of s.hub) r s.hub.moment → length s.hub.history ≤ length t.hub.history
longer s t r is = subst (λ (c : Configuration). length s.hub.history ≤ length c.history) (sym is) (history_by (at_moment (configuration_of s.hub) s.hub.moment) r (choice_of (configuration_of s.hub) r s.hub.moment))

-- a take leaves the moment
still : {D : Type 0} (s t : PlayerState D) (r : ℕ) → configuration_of t.hub ≡ after_take (configuration_of s.hub) r s.hub.moment → t.hub.moment ≡ s.hub.moment
still s t r is = ap (λ (c : Configuration). c.moment) is ∙ same_moment (configuration_of s.hub) r

pub stays_by : {D : Type 0} (s t : PlayerState D) → SameWindow s.hub t.hub → t.rounds ≡ s.rounds → StaysBy s t
stays_by s t window rounds = record { runs = ap (λ w. length w.runs) window.setting; devices = ap (λ w. length w.first) window.setting; rounds = rounds; probes = window.rounds }

moved : {D : Type 0} (s t : PlayerState D) (r : ℕ) (choice : Choice) → IsAnswered s t r choice → MovesOn s t
moved s t r choice is = record {
  places = is.answers.places;
  grips = is.grips;
  setting = is.window.setting;
  rounds = is.rounds;
  early = (let more = longer s t r (after s t r choice is.answers) in let early = is.free.kept.early in let same = still s t r (after s t r choice is.answers) in omega (arith, more, early, same));
  place = subst (λ n. n ≤ t.rounds * length t.hub.setting.first) (sym is.place) (subst (λ n. s.place ≤ n * length t.hub.setting.first) (sym is.rounds) (subst (λ w. s.place ≤ s.rounds * length w.first) (sym is.window.setting) is.free.kept.place));
}

pub answered_keeps : {D : Type 0} (s t : PlayerState D) (r : ℕ) (choice : Choice) → IsAnswered s t r choice → PlayerIsKept t
answered_keeps s t r choice is = moves_keeps s t (moved s t r choice is) is.free.kept

pub answered_plans : {D : Type 0} (shows : D → Shown) (plans : ℕ → Plan) (s t : PlayerState D) (r : ℕ) (choice : Choice) → IsAnswered s t r choice → HavePlans shows plans s → HavePlans shows plans t
answered_plans shows plans s t r choice is = moves_plans shows plans s t (moved s t r choice is)

pub answered_stepped : {D : Type 0} (s t : PlayerState D) (r acts : ℕ) (choice : Choice) → IsAnswered s t r choice → IsStepped s.rounds r (play_of s acts) (picked_by choice) (play_of t acts)
answered_stepped s t r acts choice is = taken_is_stepped s t s.rounds r acts choice (going_of s r is.free) (empty_hand s r acts is.free.kept (hand_is_empty s r is.free)) (chosen s t r choice is.answers) (after s t r choice is.answers) is.place is.moves

made_entries : {D : Type 0} (s : PlayerState D) (r : ℕ) (choice : Choice) → IsFree s r → choice ≡ choice_of (configuration_of s.hub) r s.hub.moment → Makes choice
made_entries s r choice free is = subst Makes (sym is) (choice_makes (configuration_of s.hub) r s.hub.moment (going_of s r free).1)

there_is : {D : Type 0} (s : PlayerState D) (r : ℕ) → IsFree s r → choice_of (configuration_of s.hub) r s.hub.moment ≢ Absent
there_is s r free = decide_is (λ c. c ≢ Absent) s.hub.setting (read_of (configuration_of s.hub)) (configuration_of s.hub).grips r _ (record {
  absent = λ none e. absurd (let run = (going_of s r free).0 in let no : true ≡ false = sym run ∙ none in cc);
  over = λ e at no. absurd (cc);
  waits = λ why no. absurd (cc);
  arrives = λ run none no. absurd (cc);
  enters = λ split known no. absurd (cc);
  aborted = λ cause act doomed over no. absurd (cc);
  drops = λ cause d undoing down no. absurd (cc);
  undoes = λ cause d undoing up no. absurd (cc);
  revokes = λ c x run strong at no. absurd (cc);
  downs = λ c run next home down no. absurd (cc);
  goes = λ c run next home up no. absurd (cc);
  skips = λ c run no. absurd (cc);
  fails_at_end = λ d all at no. absurd (cc);
  commits = λ all up no. absurd (cc);
})

-- what is no wait and hands nothing out leaves fewer steps
pub answered_fewer : {D : Type 0} (s t : PlayerState D) (r : ℕ) (choice : Choice) → makes choice ≡ true → IsAnswered s t r choice → length t.hub.history ≤ most_made t → steps_left t < steps_left s
answered_fewer s t r choice yes' is bound =
    let same = chosen s t r choice is.answers in
    let more : length s.hub.history < length t.hub.history = subst (λ (c : Configuration). length s.hub.history < length c.history) (sym (after s t r choice is.answers))
    (subst (λ c. length s.hub.history < length (after_choice (at_moment (configuration_of s.hub) s.hub.moment) r c).history) same (more_by (at_moment (configuration_of s.hub) s.hub.moment) r choice yes' (made_entries s r choice is.free same))) in
    made_fewer s t (stays_by s t is.window is.rounds) is.grips is.place more bound

-- one that waits leaves as many
pub waited_left : {D : Type 0} (s t : PlayerState D) (r : ℕ) (why : Why) → IsAnswered s t r (Waits why) → steps_left t ≡ steps_left s
waited_left s t r why is = still_left s t (stays_by s t is.window is.rounds) is.grips is.place
    (ap (λ (c : Configuration). c.history) (after s t r (Waits why) is.answers) ∙ ap (λ c. (after_choice (at_moment (configuration_of s.hub) s.hub.moment) r c).history) (sym (chosen s t r (Waits why) is.answers)))

-- a run of the window is not absent
pub never_absent : {D : Type 0} (s t : PlayerState D) (r : ℕ) → IsAnswered s t r Absent → ⊥
never_absent s t r is = there_is s r is.free (sym (chosen s t r Absent is.answers))

-- the take was made at the hub's moment
pub answers_now : {D : Type 0} (s t : OpenHub D) (r m : ℕ) (choice : Choice) → m ≡ s.moment → Answers s r m choice t → Answers s r s.moment choice t
answers_now s t r m choice own = subst (λ n. Answers s r n choice t) own

-- A device goes out

pub record GoesToHand {D : Type 0} (s t : PlayerState D) (r : ℕ) (grip : Gripped D Ready) : Type 0 where
  pub free : IsFree s r
  pub out : DeviceGoesOut s.hub r s.hub.moment grip t.hub
  pub window : SameWindow s.hub t.hub
  pub grips : t.grips ≡ slice_set s.grips r (Some grip)
  pub rounds : t.rounds ≡ s.rounds
  pub place : t.place ≡ s.place
  pub moves : t.moves ≡ s.moves

pub goes_now : {D : Type 0} (s t : OpenHub D) (r m : ℕ) (grip : Gripped D Ready) → m ≡ s.moment → DeviceGoesOut s r m grip t → DeviceGoesOut s r s.moment grip t
goes_now s t r m grip own = subst (λ n. DeviceGoesOut s r n grip t) own

pub went : {D : Type 0} (s t : PlayerState D) (r : ℕ) (grip : Gripped D Ready) → (is : GoesToHand s t r grip) → HandsOut grip.slip.device.0 is.out.purpose ≡ choice_of (configuration_of s.hub) r s.hub.moment
went s t r grip is = took_choice (hub_state_of s.hub) (hub_state_of t.hub) r s.hub.moment grip.slip (HandsOut grip.slip.device.0 is.out.purpose) is.out.step

pub went_after : {D : Type 0} (s t : PlayerState D) (r : ℕ) (grip : Gripped D Ready) → (is : GoesToHand s t r grip) → configuration_of t.hub ≡ after_take (configuration_of s.hub) r s.hub.moment
went_after s t r grip is = took_after (hub_state_of s.hub) (hub_state_of t.hub) r s.hub.moment grip.slip (HandsOut grip.slip.device.0 is.out.purpose) is.out.step

its_slip : {D : Type 0} (s t : PlayerState D) (r : ℕ) (grip : Gripped D Ready) → (is : GoesToHand s t r grip) → IsSlipOf r grip.slip.device.0 grip.slip
its_slip s t r grip is = subst (λ c. SlipFits r c grip.slip) (sym (went s t r grip is)) is.out.step.2

same_history : {D : Type 0} (s t : PlayerState D) (r : ℕ) (grip : Gripped D Ready) → (is : GoesToHand s t r grip) → t.hub.history ≡ s.hub.history
same_history s t r grip is = ap (λ (c : Configuration). c.history) (went_after s t r grip is) ∙ ap (λ c. (after_choice (at_moment (configuration_of s.hub) s.hub.moment) r c).history) (sym (went s t r grip is))

takes_of : {D : Type 0} (s t : PlayerState D) (r : ℕ) (grip : Gripped D Ready) → (is : GoesToHand s t r grip) → Takes s t r grip
takes_of s t r grip is = record {
  free = hand_is_empty s r is.free;
  home = is.out.home;
  maker = (its_slip s t r grip is).maker;
  places = is.out.places;
  grips = is.grips;
  setting = is.window.setting;
  rounds = is.rounds;
  early = subst (λ h. t.hub.moment ≤ 2 ^ 32 * length h) (sym (same_history s t r grip is)) (subst (λ m. m ≤ 2 ^ 32 * length s.hub.history) (sym (still s t r (went_after s t r grip is))) is.free.kept.early);
  place = subst (λ n. n ≤ t.rounds * length t.hub.setting.first) (sym is.place) (subst (λ n. s.place ≤ n * length t.hub.setting.first) (sym is.rounds) (subst (λ w. s.place ≤ s.rounds * length w.first) (sym is.window.setting) is.free.kept.place));
}

pub went_keeps : {D : Type 0} (s t : PlayerState D) (r : ℕ) (grip : Gripped D Ready) → GoesToHand s t r grip → PlayerIsKept t
went_keeps s t r grip is = takes_keeps s t r grip (takes_of s t r grip is) is.free.kept

pub went_plans : {D : Type 0} (shows : D → Shown) (plans : ℕ → Plan) (s t : PlayerState D) (r : ℕ) (grip : Gripped D Ready) → GoesToHand s t r grip → HavePlans shows plans s → HavePlans shows plans t
went_plans shows plans s t r grip is = takes_plans shows plans s t r grip (takes_of s t r grip is)

pub went_stepped : {D : Type 0} (s t : PlayerState D) (r acts : ℕ) (grip : Gripped D Ready) → GoesToHand s t r grip → IsStepped s.rounds r (play_of s acts) (Took grip.slip.device) (play_of t acts)
went_stepped s t r acts grip is = taken_is_stepped s t s.rounds r acts (HandsOut grip.slip.device.0 is.out.purpose) (going_of s r is.free) (empty_hand s r acts is.free.kept (hand_is_empty s r is.free)) (went s t r grip is) (went_after s t r grip is) is.place is.moves

pub went_fewer : {D : Type 0} (s t : PlayerState D) (r : ℕ) (grip : Gripped D Ready) → GoesToHand s t r grip → steps_left t < steps_left s
went_fewer s t zero grip is = absurd (let run = is.free.run in omega (arith, run))
went_fewer s t (suc r) grip is = took_fewer s t r grip (stays_by s t is.window is.rounds) (hand_is_empty s (suc r) is.free) is.grips is.place (same_history s t (suc r) grip is)

-- an actor that has ended passes
pub passed_now : {D : Type 0} (now : PlayerState D) (a acts : ℕ) → PlayerStands now → is_ended now a ≡ true → (later : ℕ) × IsPicked now.rounds a (play_of now acts) Passed (play_of now later)
passed_now now a acts stands ended = (acts, passed_is_picked now a acts stands.kept stands.size ended)
