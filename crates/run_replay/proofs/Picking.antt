-- A pick of an actor is a step of its hub.
use Rattle.run_replay.proofs.Prelude.{Absent, Bool, Choice, Configuration, Course, Entry, Grip, Gripped, HandsOut, IsPicked, IsStepped, List, Made, Moves, None, Option, Over, Passed, Picked, Play, PlayerIsKept, PlayerState, Purpose, Ready, Some, Tells, Told, Took, Waits, [], act_on, after_choice, after_give, after_take, after_take_probe, ap, arith, at_moment, choice_of, configuration_of, counted_pick, detector_takes, device_no, false, give_entries, gripped, if◌then◌else◌, is_actor_done, is_ended, is_full, is_run, is_some, length, max, may_probe, nat_le, option_map, passes, pick, pick_live, picked_by, play_of, probe_grip, put, read_of, refl, run_takes, slice_get, suc, sym, takes_of, true, unwrap_or, zero, ℕ, ◌%◌, ◌*◌, ◌+◌, ◌-◌, ◌<◌, ◌==◌, ◌∙◌, ◌∷◌, ◌≡◌}
use Rattle.run_replay.proofs.Gripping.{empty_hand, full_hand}
use Rattle.run_replay.proofs.Settings.{there}

-- Which actors have ended

hand_of : {A : Type 0} (o : Option (Option A)) → unwrap_or (option_map is_some o) false ≡ true → (x : A) × (o ≡ Some (Some x))
hand_of None e = absurd (cc)
hand_of (Some None) e = absurd (cc)
hand_of (Some (Some x)) e = (x, refl)

no_hand : {A : Type 0} (o : Option (Option A)) → unwrap_or (option_map is_some o) false ≡ false → is_some o ≡ true → o ≡ Some None
no_hand None e some = absurd (cc)
no_hand (Some None) e some = refl
no_hand (Some (Some x)) e some = absurd (cc)

-- the grip in the hand of an actor
pub full_is : {D : Type 0} (s : PlayerState D) (a : ℕ) → is_full s a ≡ true → (grip : Gripped D Ready) × (slice_get s.grips a ≡ Some (Some grip))
full_is s a e = hand_of (slice_get s.grips a) e

-- .. and an empty hand
pub empty_is : {D : Type 0} (s : PlayerState D) (a : ℕ) → is_full s a ≡ false → a < length s.grips → slice_get s.grips a ≡ Some None
empty_is s a e low = no_hand (slice_get s.grips a) e (there s.grips a low)

-- what the actors' hands tell
pub ended_is : {D : Type 0} (course : Course) (s : PlayerState D) (acts a : ℕ) → PlayerIsKept s → length s.hub.places ≡ length s.hub.setting.first → course.rounds ≡ s.rounds → is_actor_done course (play_of s acts) a ≡ is_ended s a
ended_is course s acts (suc r) kept size same = refl
ended_is {D = D} course s acts zero kept size same = by_hand (is_full s 0) refl
  where
    by_hand : (b : Bool) → is_full s 0 ≡ b → is_actor_done course (play_of s acts) zero ≡ is_ended s zero
    by_hand true full = let grip = full_is s 0 full in rw (full_hand s 0 acts grip.0 kept size grip.1, full) refl
    by_hand false none = rw (empty_hand s 0 acts kept (empty_is s 0 none (let actors = kept.actors in omega (arith, actors))), none) (ap (λ n. nat_le (n * length s.hub.setting.first) s.place) same)

-- An actor that has ended, or is none

ended_pick : (course : Course) (p : Play) (a : ℕ) → is_actor_done course p a ≡ true → pick course p a ≡ passes p
ended_pick course p a e = rw e refl

pub passed_is_picked : {D : Type 0} (s : PlayerState D) (a acts : ℕ) → PlayerIsKept s → length s.hub.places ≡ length s.hub.setting.first → is_ended s a ≡ true → IsPicked s.rounds a (play_of s acts) Passed (play_of s acts)
passed_is_picked s a acts kept size ended = record { told = []; acts = omega arith; leads = λ course same tells. ended_pick course (play_of s acts) a (ended_is course s acts a kept size same ∙ ended) }

-- A step that is counted

live_pick : (course : Course) (p : Play) (a : ℕ) → is_actor_done course p a ≡ false → pick course p a ≡ counted_pick (pick_live course p a)
live_pick course p a e = rw e refl

-- the step of an actor that has not ended is its pick, once it is counted
pub stepped_is_picked : (rounds a : ℕ) (p q : Play) (picked : Picked) → ((course : Course) → course.rounds ≡ rounds → is_actor_done course p a ≡ false) → IsStepped rounds a p picked q → IsPicked rounds a p picked (counted_pick (record { picked = picked; next = q })).next
stepped_is_picked rounds a p q picked going is = record {
  told = is.told;
  acts = is.acts;
  leads = λ course same tells. live_pick course p a (going course same) ∙ ap counted_pick (is.leads course same tells);
}

-- The moment: of the steps of a replay those alone move it that give the grip of a command back

max_same : (m : ℕ) → max m m ≡ m
max_same m = omega arith

choice_moment : (c : Configuration) (r : ℕ) (choice : Choice) → (after_choice c r choice).moment ≡ c.moment
choice_moment c r Absent = refl
choice_moment c r (Over e entries) = refl
choice_moment c r (Moves entries) = refl
choice_moment c r (Waits why) = refl
choice_moment c r (HandsOut d purpose) = refl

-- a configuration at its own moment is as it is
pub at_own_moment : (c : Configuration) → at_moment c c.moment ≡ c
at_own_moment c = λ i. record c { moment = max_same c.moment i }

-- a take at the last moment does not move it
pub same_moment : (c : Configuration) (r : ℕ) → (after_take c r c.moment).moment ≡ c.moment
same_moment c r = choice_moment (at_moment c c.moment) r (choice_of c r c.moment) ∙ max_same c.moment

probe_moment : (c : Configuration) (d : ℕ) → (after_take_probe c d).moment ≡ c.moment
probe_moment c d = by_may (may_probe c d)
  where
    by_may : (b : Bool) → (if b then record c { probes = put c.probes d (c.probes d - 1); grips = put c.grips d (Some (probe_grip c d)) } else c).moment ≡ c.moment
    by_may true = refl
    by_may false = refl

-- A run that takes

-- a run of the window that has not ended
abbrev pub IsGoing : Configuration → ℕ → Type 0
IsGoing c r = (is_run c.setting.runs r ≡ true) × (((read_of c).run r).ended ≡ None)

pub going_not_ended : (course : Course) (p : Play) (r : ℕ) → IsGoing p.configuration r → is_actor_done course p r ≡ false
going_not_ended course p zero going = absurd (let no : false ≡ true = going.0 in cc)
going_not_ended course p (suc r) going = rw (going.0, going.1) refl

take_live : (course : Course) (p : Play) (r : ℕ) → IsGoing p.configuration r → gripped p r ≡ None → pick_live course p r ≡ run_takes p r
take_live course p zero going none = absurd (let no : false ≡ true = going.0 in cc)
take_live course p (suc r) going none = rw none refl

pub take_pick : (course : Course) (p : Play) (r : ℕ) → IsGoing p.configuration r → gripped p r ≡ None → pick course p r ≡ counted_pick (run_takes p r)
take_pick course p r going none = live_pick course p r (going_not_ended course p r going) ∙ ap counted_pick (take_live course p r going none)

pub taken_is_stepped : {D : Type 0} (s t : PlayerState D) (rounds r acts : ℕ) (choice : Choice) → IsGoing (configuration_of s.hub) r → gripped (play_of s acts) r ≡ None
    → choice ≡ choice_of (configuration_of s.hub) r s.hub.moment → configuration_of t.hub ≡ after_take (configuration_of s.hub) r s.hub.moment → t.place ≡ s.place → t.moves ≡ s.moves → IsStepped rounds r (play_of s acts) (picked_by choice) (play_of t acts)
taken_is_stepped s t rounds r acts choice going free chosen after place moves = record {
  told = [];
  acts = omega arith;
  leads = λ course same tells. take_live course (play_of s acts) r going free ∙ λ i. record {
    picked = picked_by (sym chosen i);
    next = record { configuration = sym after i; moment = sym moment i; place = sym place i; acts = acts; moves = sym moves i };
  };
}
  where
    moment : t.hub.moment ≡ s.hub.moment
    moment = ap (λ (c : Configuration). c.moment) after ∙ same_moment (configuration_of s.hub) r

-- An actor that acts, and gives back

one_told : (course : Course) (acts : ℕ) (told : Told) → Tells course acts (told ∷ []) → course.told acts ≡ told
one_told course acts told tells = let same : acts + 0 ≡ acts = omega arith in sym (ap course.told same) ∙ tells 0 told refl

act_live : (course : Course) (p : Play) (a d : ℕ) (grip : Grip) → gripped p a ≡ Some d → p.configuration.grips d ≡ Some grip → pick_live course p a ≡ act_on course p d grip
act_live course p a d grip holds out = rw holds (rw out refl)

-- where a grip comes back to: the hub at the new moment, or as it is where the grip is the detector's
abbrev pub met : Configuration → ℕ → ℕ → Configuration
met c a m = if a == 0 then c else at_moment c m

-- an actor with a grip acts and gives it back
pub acted_is_stepped : {D : Type 0} (s t : PlayerState D) (a acts : ℕ) (grip : Gripped D Ready) (purpose : Purpose) (told : Told) (entries : List Entry) → PlayerIsKept s → length s.hub.places ≡ length s.hub.setting.first
    → slice_get s.grips a ≡ Some (Some grip)
    → (configuration_of s.hub).grips grip.slip.device.0 ≡ Some (record { maker = a; purpose = purpose })
    → t.hub.moment ≡ s.hub.moment + takes_of (play_of s acts) (record { maker = a; purpose = purpose })
    → entries ≡ give_entries s.hub.setting (read_of (configuration_of s.hub)) grip.slip.device.0 (record { maker = a; purpose = purpose }) told
    → configuration_of t.hub ≡ after_give (met (configuration_of s.hub) a t.hub.moment) grip.slip.device.0 (record { maker = a; purpose = purpose }) told → t.place ≡ s.place → t.moves ≡ s.moves
    → IsStepped s.rounds a (play_of s acts) (Made entries) (play_of t (acts + 1))
acted_is_stepped {D = D} s t a acts grip purpose told entries kept size hand out moment made after place moves = record {
  told = told ∷ [];
  acts = omega arith;
  leads = λ course same tells. act_live course (play_of s acts) a grip.slip.device.0 (record { maker = a; purpose = purpose }) (full_hand s a acts grip kept size hand) out ∙ acts_so course (one_told course acts told tells);
}
  where
    acts_so : (course : Course) → course.told acts ≡ told → act_on course (play_of s acts) grip.slip.device.0 (record { maker = a; purpose = purpose }) ≡ record { picked = Made entries; next = play_of t (acts + 1) }
    acts_so course is = λ i. record {
      picked = Made ((ap (λ x. give_entries s.hub.setting (read_of (configuration_of s.hub)) grip.slip.device.0 out_so x) is ∙ sym made) i);
      next = record { configuration = given i; moment = sym moment i; place = sym place i; acts = acts + 1; moves = sym moves i };
    }
      where
        out_so : Grip
        out_so = record { maker = a; purpose = purpose }

        later : ℕ
        later = s.hub.moment + takes_of (play_of s acts) (record { maker = a; purpose = purpose })

        given : after_give (met (configuration_of s.hub) a later) grip.slip.device.0 out_so (course.told acts) ≡ configuration_of t.hub
        given = ap (λ x. after_give (met (configuration_of s.hub) a later) grip.slip.device.0 out_so x) is
            ∙ ap (λ m. after_give (met (configuration_of s.hub) a m) grip.slip.device.0 out_so told) (sym moment)
            ∙ sym after

-- The detector

rest_live : (course : Course) (p : Play) → gripped p 0 ≡ None → pick_live course p 0 ≡ detector_takes p
rest_live course p none = rw none refl

-- the device that the detector comes to
abbrev pub next_device : {D : Type 0} → PlayerState D → ℕ
next_device s = s.place % length s.hub.setting.first

by_probe : (p : Play) (b : Bool) → may_probe p.configuration (p.place % length p.configuration.setting.first) ≡ b → detector_takes p ≡ (if b then record {
  picked = Took (device_no (p.place % length p.configuration.setting.first));
  next = record p { configuration = after_take_probe p.configuration (p.place % length p.configuration.setting.first); place = p.place + 1 };
} else passes (record p { place = p.place + 1 }))
by_probe p b is =
    ap (λ (x : Bool). if x then record {
      picked = Took (device_no (p.place % length p.configuration.setting.first));
      next = record p { configuration = after_take_probe p.configuration (p.place % length p.configuration.setting.first); place = p.place + 1 };
    } else passes (record p { place = p.place + 1 })) is

pub detector_passed : {D : Type 0} (s t : PlayerState D) (acts : ℕ) → PlayerIsKept s → slice_get s.grips 0 ≡ Some None
    → may_probe (configuration_of s.hub) (next_device s) ≡ false → configuration_of t.hub ≡ configuration_of s.hub → t.place ≡ s.place + 1 → t.moves ≡ s.moves → IsStepped s.rounds 0 (play_of s acts) Passed (play_of t acts)
detector_passed s t acts kept free may after place moves = record {
  told = [];
  acts = omega arith;
  leads = λ course same tells. rest_live course (play_of s acts) (empty_hand s 0 acts kept free) ∙ by_probe (play_of s acts) false may ∙ λ i. record {
    picked = Passed;
    next = record { configuration = sym after i; moment = (sym after i).moment; place = sym place i; acts = acts; moves = sym moves i };
  };
}

pub detector_took : {D : Type 0} (s t : PlayerState D) (acts : ℕ) → PlayerIsKept s → slice_get s.grips 0 ≡ Some None
    → may_probe (configuration_of s.hub) (next_device s) ≡ true → configuration_of t.hub ≡ after_take_probe (configuration_of s.hub) (next_device s) → t.place ≡ s.place + 1 → t.moves ≡ s.moves → IsStepped s.rounds 0 (play_of s acts) (Took (device_no (next_device s))) (play_of t acts)
detector_took s t acts kept free may after place moves = record {
  told = [];
  acts = omega arith;
  leads = λ course same tells. rest_live course (play_of s acts) (empty_hand s 0 acts kept free) ∙ by_probe (play_of s acts) true may ∙ λ i. record {
    picked = Took (device_no (next_device s));
    next = record { configuration = sym after i; moment = sym moment i; place = sym place i; acts = acts; moves = sym moves i };
  };
}
  where
    moment : t.hub.moment ≡ s.hub.moment
    moment = ap (λ (c : Configuration). c.moment) after ∙ probe_moment (configuration_of s.hub) (next_device s)
