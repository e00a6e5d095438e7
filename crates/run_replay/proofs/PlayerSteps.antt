-- What a step of an actor leaves of its player, and a pick.
use Rattle.run_replay.proofs.Prelude.{Choice, Done, Entry, Gripped, IsStepped, List, Made, None, Passed, Picked, PlayerPicks, PlayerStands, PlayerState, PlayerStays, PlayerSteps, Ready, Shown, Some, Took, Waits, Why, ap, device_no, false, is_ended, length, most_made, moves_after, picked_by, play_of, refl, subst, suc, sym, true, with_moves, zero, ℕ, ◌+◌, ◌∙◌, ◌≡◌, ◌≤◌}
use Rattle.home_types.specs.declared.numbers.DeviceNo.{DeviceNo}
use Rattle.run_replay.proofs.Acting.{IsGivenBack, given_fewer, given_plans, given_stepped}
use Rattle.run_replay.proofs.Counted.{counted_now}
use Rattle.run_replay.proofs.Leaving.{answered_others, given_ends, waited_ends, went_others}
use Rattle.run_replay.proofs.Settings.{put_length}
use Rattle.run_replay.proofs.Taking.{GoesToHand, IsAnswered, answered_fewer, answered_plans, answered_stepped, makes, passed_now, waited_left, went_fewer, went_plans, went_stepped}
use Rattle.run_replay.proofs.Trying.{same_window, window_stays}
use Rattle.run_replay.specs.declared.picked.Picked.TheVariants.{Waits as Waited}

pub stays_here : {D : Type 0} (shows : D → Shown) (s : PlayerState D) → PlayerStays shows s s
stays_here shows s = record { window = window_stays s.hub; rounds = refl; plans = λ plans have. have }

pub stays_on : {D : Type 0} (shows : D → Shown) (s t u : PlayerState D) → PlayerStays shows s t → PlayerStays shows t u → PlayerStays shows s u
stays_on shows s t u first next = record { window = same_window s.hub t.hub u.hub first.window next.window; rounds = next.rounds ∙ first.rounds; plans = λ plans have. next.plans plans (first.plans plans have) }

-- the player as callers see it
pub steps_now : {D : Type 0} (shows : D → Shown) (now s t : PlayerState D) (a : ℕ) (picked : Picked) → s ≡ now → PlayerSteps shows s a picked t → PlayerSteps shows now a picked t
steps_now {D = D} shows now s t a picked same = subst (λ (x : PlayerState D). PlayerSteps shows x a picked t) same

pub picks_now : {D : Type 0} (shows : D → Shown) (now s t : PlayerState D) (a : ℕ) (picked : Picked) → s ≡ now → PlayerPicks shows s a picked t → PlayerPicks shows now a picked t
picks_now {D = D} shows now s t a picked same = subst (λ (x : PlayerState D). PlayerPicks shows x a picked t) same

-- A run takes

-- it made entries
pub made_steps : {D : Type 0} (shows : D → Shown) (s t : PlayerState D) (r : ℕ) (choice : Choice) (made : List Entry) → makes choice ≡ true → picked_by choice ≡ Made made → IsAnswered s t r choice
    → length t.hub.history ≤ most_made t → PlayerSteps shows s r (Made made) t
made_steps shows s t r choice made some told is bound = record {
  stepped = λ acts. (acts, subst (λ p. IsStepped s.rounds r (play_of s acts) p (play_of t acts)) told (answered_stepped s t r acts choice is));
  stays = record { window = is.window; rounds = is.rounds; plans = λ plans. answered_plans shows plans s t r choice is };
  moves = is.moves;
  hands = ap length is.grips;
  others = answered_others s t r choice is;
  fewer = λ goes. answered_fewer s t r choice some is bound;
  left = λ waits. absurd (cc);
  waiting = λ waits. absurd (cc);
}

-- it waits
pub waited_steps : {D : Type 0} (shows : D → Shown) (s t : PlayerState D) (r : ℕ) (why : Why) → IsAnswered s t r (Waits why) → PlayerSteps shows s r (Waited why) t
waited_steps shows s t r why is = record {
  stepped = λ acts. (acts, answered_stepped s t r acts (Waits why) is);
  stays = record { window = is.window; rounds = is.rounds; plans = λ plans. answered_plans shows plans s t r (Waits why) is };
  moves = is.moves;
  hands = ap length is.grips;
  others = answered_others s t r (Waits why) is;
  fewer = λ goes. absurd (cc);
  left = λ waits. waited_left s t r why is;
  waiting = λ waits. waited_ends s t r why is;
}

-- it took a device
pub went_steps : {D : Type 0} (shows : D → Shown) (s t : PlayerState D) (r : ℕ) (d : DeviceNo) (grip : Gripped D Ready) → d.0 ≡ grip.slip.device.0 → GoesToHand s t r grip → PlayerSteps shows s r (Took d) t
went_steps shows s t r d grip number is = record {
  stepped = λ acts. (acts, subst (λ e. IsStepped s.rounds r (play_of s acts) (Took (device_no e)) (play_of t acts)) (sym number) (went_stepped s t r acts grip is));
  stays = record { window = is.window; rounds = is.rounds; plans = λ plans. went_plans shows plans s t r grip is };
  moves = is.moves;
  hands = ap length is.grips ∙ put_length s.grips r (Some grip);
  others = went_others s t r grip is;
  fewer = λ goes. went_fewer s t r grip is;
  left = λ waits. absurd (cc);
  waiting = λ waits. absurd (cc);
}

-- its grip was done, and given back
pub given_steps : {D : Type 0} (shows : D → Shown) (s t : PlayerState D) (a : ℕ) (grip : Gripped D Ready) (done : Gripped D Done) (made : List Entry) → IsGivenBack s t a grip done made → (shows done.device).plan ≡ (shows grip.device).plan
    → length t.hub.history ≤ most_made t → PlayerSteps shows s a (Made made) t
given_steps shows s t a grip done made by own bound = record {
  stepped = λ acts. (acts + 1, given_stepped s t a acts grip done made by);
  stays = record { window = by.window; rounds = by.rounds; plans = λ plans. given_plans shows plans s t a grip done made by own };
  moves = by.moves;
  hands = ap length by.grips ∙ put_length s.grips a None;
  others = λ q other. given_ends s t a grip done made by q;
  fewer = λ goes. given_fewer s t a grip done made by bound;
  left = λ waits. absurd (cc);
  waiting = λ waits. absurd (cc);
}

-- A pick

-- an actor that has ended passes
pub passed_picks : {D : Type 0} (shows : D → Shown) (s : PlayerState D) (a : ℕ) → PlayerStands s → is_ended s a ≡ true → PlayerPicks shows s a Passed s
passed_picks shows s a stands ended = record {
  picks = λ acts. passed_now s a acts stands ended;
  stays = stays_here shows s;
  moves = refl;
  fewer = λ goes going. absurd (let both : true ≡ false = sym ended ∙ going in cc);
  hands = refl;
  others = λ q other. refl;
  over = λ e. e;
  waiting = λ waits. refl;
}

same_end : {D : Type 0} (moves : ℕ) (s : PlayerState D) (a : ℕ) → is_ended (with_moves moves s) a ≡ is_ended s a
same_end moves s zero = refl
same_end moves s (suc r) = refl

-- a step that was counted is a pick
pub counted_picks : {D : Type 0} (shows : D → Shown) (s t u : PlayerState D) (a : ℕ) (picked : Picked) → PlayerStands s → is_ended s a ≡ false → PlayerSteps shows s a picked t → u ≡ with_moves (moves_after picked t.moves) t → PlayerPicks shows s a picked u
counted_picks {D = D} shows s t u a picked stands going steps is = subst (λ (x : PlayerState D). PlayerPicks shows s a picked x) (sym is) (record {
  picks = counted_now s t counted a picked stands going steps.stepped refl;
  stays = record { window = steps.stays.window; rounds = steps.stays.rounds; plans = λ plans have. steps.stays.plans plans have };
  moves = ap (moves_after picked) steps.moves;
  fewer = λ goes before. steps.fewer goes;
  hands = steps.hands;
  others = λ q other. same_end (moves_after picked t.moves) t q ∙ steps.others q other;
  over = λ ended. absurd (let both : true ≡ false = sym ended ∙ going in cc);
  waiting = λ waits. same_end (moves_after picked t.moves) t a ∙ steps.waiting waits;
})
  where
    counted : PlayerState D
    counted = with_moves (moves_after picked t.moves) t
