-- How many calls a window hands out at most.
use Rattle.device_gate.proofs.Cited.{none_out}
use Rattle.home_states.proofs.Prelude.{Absent, Answers, Bool, CallAnswer, CallsAreFew, Carried, Choice, Configuration, Done, Entry, Gave, Go, Grip, Gripped, HandedDevice, HandsOut, Home, HomeState, HubState, IsBack, IsGiven, IsOpened, IsProbeGiven, IsProbed, IsTurn, List, MayOpen, Moved, Moves, None, Ok, OpenHub, Option, Out, Over, Place, Purpose, Ready, Returned, Setting, Shown, Slip, Some, Told, Turn, Wait, Waits, WindowTickets, after_choice, after_give, after_take_probe, ap, arith, at_moment, carried_in, choice_of, common_steps, configuration_of, decide_is, device_no, false, gave_back, gave_probe_back, give_entries, give_if, hub_state_of, if◌then◌else◌, inl, inr, is_device, is_kept, is_out, is_some, least_entries, length, length-map, length_with, max, may_probe, nat_lt, not, opened, option_map, probe_grip, read_of, refl, rules, same_carried, slice_get, slice_get_within, subst, suc, sum_below, sym, took_after, took_choice, took_probe, true, unwrap_or, with_entries, with_grip, zero, ℕ, ⊤, ◌&&◌, ◌*◌, ◌+◌, ◌-◌, ◌<◌, ◌==◌, ◌∙◌, ◌≡◌, ◌≢◌, ◌≤◌}
use Rattle.device_gate.specs.declared.slips.Told.TheVariants.{Died, Sensed, Worked}
use Rattle.history_book.proofs.Cited.{put_other, put_same}
use Rattle.history_book.specs.Readings.{Reading, put}
use Rattle.hub_core.specs.Steps.{Absent as IsAbsent, Over as IsOver}
use Rattle.lock_leasing.specs.declared.purposes.Purpose.TheVariants.{Commands, Probes, Undoes}
use Rattle.window_devices.specs.KnownDevices.{progress_at}

-- Sums

sum_same : (n : ℕ) (f g : ℕ → ℕ) → ((d : ℕ) → d < n → f d ≡ g d) → sum_below n f ≡ sum_below n g
unfolding sum_below
sum_same zero f g same = refl
sum_same (suc n) f g same = let rest = sum_same n f g (λ d low. same d (omega (arith, low))) in let last = same n (omega arith) in omega (arith, rest, last)

-- one value is another
sum_put : {A : Type 0} (w : A → ℕ) (f : ℕ → A) (d : ℕ) (x : A) (n : ℕ) → d < n → sum_below n (λ e. w (put f d x e)) + w (f d) ≡ sum_below n (λ e. w (f e)) + w x
unfolding sum_below
sum_put w f d x zero low = absurd (omega (arith, low))
sum_put w f d x (suc n) low = by_test (n == d) refl (λ below. sum_put w f d x n below)
  where
    by_test : (b : Bool) → (n == d) ≡ b → (d < n → sum_below n (λ e. w (put f d x e)) + w (f d) ≡ sum_below n (λ e. w (f e)) + w x)
        → sum_below n (λ e. w (put f d x e)) + w (put f d x n) + w (f d) ≡ sum_below n (λ e. w (f e)) + w (f n) + w x
    by_test true is step =
        let at : n ≡ d = grind (arith, common_steps, is) in
        let rest = sum_same n (λ e. w (put f d x e)) (λ e. w (f e)) (λ e below. ap w (put_other f d x e (λ same. omega (arith, same, at, below)))) in
        let new : w (put f d x n) ≡ w x = ap (λ e. w (put f d x e)) at ∙ ap w (put_same f d x) in
        let old : w (f n) ≡ w (f d) = ap (λ e. w (f e)) at in
        omega (arith, rest, new, old)
    by_test false is step =
        let other : n ≢ d = λ same. grind (arith, common_steps, is, same) in
        let rest = step (omega (arith, low, other)) in
        let last : w (put f d x n) ≡ w (f n) = ap w (put_other f d x n other) in
        omega (arith, rest, last)

sum_most : (n : ℕ) (f : ℕ → ℕ) → ((d : ℕ) → f d ≤ 100) → sum_below n f ≤ n * 100
unfolding sum_below
sum_most zero f low = omega arith
sum_most (suc n) f low = let rest = sum_most n f low in let last = low n in omega (arith, rest, last)

sum_ones : (n : ℕ) (f : ℕ → ℕ) → ((d : ℕ) → f d ≤ 1) → sum_below n f ≤ n
unfolding sum_below
sum_ones zero f low = omega arith
sum_ones (suc n) f low = let rest = sum_ones n f low in let last = low n in omega (arith, rest, last)

least_most : (o : Option Grip) → least_entries o ≤ 1
least_most None = omega arith
least_most (Some grip) = by_purpose grip.maker grip.purpose
  where
    by_purpose : (maker : ℕ) (purpose : Purpose) → least_entries (Some (record { maker = maker; purpose = purpose })) ≤ 1
    by_purpose maker (Commands k) = omega arith
    by_purpose maker (Undoes v) = omega arith
    by_purpose maker (Probes v) = omega arith

-- so few they are, where the history is as long as it may be
pub few_tickets : (s : Configuration) (tickets : ℕ) → CallsAreFew s tickets → length s.history ≤ 59904 → length s.setting.first ≤ 256 → tickets ≤ 131072
few_tickets s tickets few history devices =
    let out = sum_ones (length s.setting.first) (λ d. least_entries (s.grips d)) (λ d. least_most (s.grips d)) in
    let calls : tickets + sum_below (length s.setting.first) s.probes ≤ length s.history + sum_below (length s.setting.first) (λ d. least_entries (s.grips d)) + 25600 = few in
    omega (arith, out, calls, history, devices)

-- Steps of a configuration

entries_made : (s : Configuration) (m r : ℕ) (made : List Entry) (tickets : ℕ) → CallsAreFew s tickets → CallsAreFew (with_entries (at_moment s m) r made) tickets
entries_made s m r made tickets few =
    let calls : tickets + sum_below (length s.setting.first) s.probes ≤ length s.history + sum_below (length s.setting.first) (λ d. least_entries (s.grips d)) + 25600 = few in
    let more = length_with s.history r made in
    omega (arith, calls, more)

goes_out : (s : Configuration) (m d : ℕ) (grip : Grip) (tickets : ℕ) → least_entries (s.grips d) ≡ 0 → d < length s.setting.first → least_entries (Some grip) ≡ 1 → CallsAreFew s tickets
    → CallsAreFew (with_grip (at_moment s m) d (Some grip)) (tickets + 1)
goes_out s m d grip tickets home within owes few =
    let calls : tickets + sum_below (length s.setting.first) s.probes ≤ length s.history + sum_below (length s.setting.first) (λ d. least_entries (s.grips d)) + 25600 = few in
    let sum = sum_put least_entries s.grips d (Some grip) (length s.setting.first) within in
    omega (arith, calls, sum, home, owes)

probe_goes : (s : Configuration) (d : ℕ) (grip : Grip) (tickets : ℕ) → least_entries (s.grips d) ≡ 0 → d < length s.setting.first → least_entries (Some grip) ≡ 0 → 0 < s.probes d → CallsAreFew s tickets
    → CallsAreFew (record s { probes = put s.probes d (s.probes d - 1); grips = put s.grips d (Some grip) }) (tickets + 1)
probe_goes s d grip tickets home within owes left few =
    let calls : tickets + sum_below (length s.setting.first) s.probes ≤ length s.history + sum_below (length s.setting.first) (λ d. least_entries (s.grips d)) + 25600 = few in
    let sum = sum_put least_entries s.grips d (Some grip) (length s.setting.first) within in
    let probes = sum_put (λ n. n) s.probes d (s.probes d - 1) (length s.setting.first) within in
    omega (arith, calls, sum, probes, home, owes, left)

comes_back : (s : Configuration) (m d : ℕ) (grip : Grip) (told : Told) (tickets : ℕ) → s.grips d ≡ Some grip → d < length s.setting.first → CallsAreFew s tickets → CallsAreFew (after_give (at_moment s m) d grip told) tickets
comes_back s m d grip told tickets out within few =
    let calls : tickets + sum_below (length s.setting.first) s.probes ≤ length s.history + sum_below (length s.setting.first) (λ d. least_entries (s.grips d)) + 25600 = few in
    let sum = sum_put least_entries s.grips d None (length s.setting.first) within in
    let was : least_entries (s.grips d) ≡ least_entries (Some grip) = ap (λ o. least_entries o) out in
    let most = made_at_least s.setting (read_of s) d grip.maker grip.purpose told in
    let more = length_with s.history grip.maker (give_entries s.setting (read_of s) d grip told) in
    omega (arith, calls, sum, was, most, more)
  where
    made_at_least : (w : Setting) (n : Reading) (d maker : ℕ) (purpose : Purpose) (told : Told) → least_entries (Some (record { maker = maker; purpose = purpose })) ≤ length (give_entries w n d (record { maker = maker; purpose = purpose }) told)
    made_at_least w n d maker (Commands k) Worked = omega arith
    made_at_least w n d maker (Commands k) (Sensed x) = omega arith
    made_at_least w n d maker (Commands k) Died = omega arith
    made_at_least w n d maker (Undoes v) Worked = omega arith
    made_at_least w n d maker (Undoes v) (Sensed x) = omega arith
    made_at_least w n d maker (Undoes v) Died = omega arith
    made_at_least w n d maker (Probes v) told = omega arith

-- what a run's step hands out makes an entry
abbrev IsOfRun : Choice → Type 0
IsOfRun IsAbsent = ⊤
IsOfRun (IsOver e entries) = ⊤
IsOfRun (Moves entries) = ⊤
IsOfRun (Waits why) = ⊤
IsOfRun (HandsOut d purpose) = (r : ℕ) → least_entries (Some (record { maker = r; purpose = purpose })) ≡ 1

of_run : (s : Configuration) (r m : ℕ) → IsOfRun (choice_of s r m)
of_run s r m = decide_is IsOfRun s.setting (read_of s) s.grips r (max s.moment m) (record {
  absent = λ none. tt;
  over = λ e at. tt;
  waits = λ why. tt;
  arrives = λ run none. tt;
  enters = λ split enters. tt;
  aborted = λ cause act doomed over. tt;
  drops = λ cause d undoing down. tt;
  undoes = λ cause d undoing up r. refl;
  revokes = λ c x run strong at. tt;
  downs = λ c run next home down. tt;
  goes = λ c run next home up r. refl;
  skips = λ c skip. tt;
  fails_at_end = λ d all at. tt;
  commits = λ all up. tt;
})

-- Steps of a hub

-- a device that is home
at_home : (s : OpenHub HandedDevice) (d : ℕ) (device : HandedDevice) → slice_get s.places d ≡ Some (Home device) → least_entries ((configuration_of s).grips d) ≡ 0
at_home s d device home = rw home refl

any_slip : Slip
any_slip = record { ticket = 0; device = device_no 0; maker = 0; stood = 0; turns = 0; drives = 0; probes = 0; faults = 0 }

-- a step that hands nothing out
answered : (s t : OpenHub HandedDevice) (r m : ℕ) (made : List Entry) (choice : Choice) → Answers s r m choice t → after_choice (at_moment (configuration_of s) m) r choice ≡ with_entries (at_moment (configuration_of s) m) r made
    → CallsAreFew (configuration_of s) s.tickets → CallsAreFew (configuration_of t) t.tickets
answered s t r m made choice step makes few =
    let chosen : choice ≡ choice_of (configuration_of s) r m = took_choice (hub_state_of s) (hub_state_of t) r m any_slip choice (step.step any_slip) in
    let after : configuration_of t ≡ with_entries (at_moment (configuration_of s) m) r made =
    took_after (hub_state_of s) (hub_state_of t) r m any_slip choice (step.step any_slip) ∙ ap (λ c. after_choice (at_moment (configuration_of s) m) r c) (sym chosen) ∙ makes in
    subst (λ (c : Configuration). CallsAreFew c t.tickets) (sym after) (subst (λ n. CallsAreFew (with_entries (at_moment (configuration_of s) m) r made) n) (sym step.tickets) (entries_made (configuration_of s) m r made s.tickets few))

pub turn_counted : (s t : OpenHub HandedDevice) (r m : ℕ) (turn : Turn HandedDevice) → length s.places ≡ length s.setting.first → IsTurn s r m turn t → CallsAreFew (configuration_of s) s.tickets → CallsAreFew (configuration_of t) t.tickets
turn_counted s t r m (Go grip) size step few =
    let d : ℕ = grip.slip.device.0 in
    let here = configuration_of s in
    let out : Grip = record { maker = r; purpose = step.purpose } in
    let chosen : HandsOut d step.purpose ≡ choice_of here r m = took_choice (hub_state_of s) (hub_state_of t) r m grip.slip (HandsOut d step.purpose) step.step in
    let owes : IsOfRun (HandsOut d step.purpose) = subst IsOfRun (sym chosen) (of_run here r m) in
    let after : configuration_of t ≡ with_grip (at_moment here m) d (Some out) =
    took_after (hub_state_of s) (hub_state_of t) r m grip.slip (HandsOut d step.purpose) step.step ∙ ap (λ c. after_choice (at_moment here m) r c) (sym chosen) in
    let within : d < length s.setting.first = omega (arith, size, slice_get_within s.places d (Home grip.device) step.home) in
    subst (λ (c : Configuration). CallsAreFew c t.tickets) (sym after)
    (subst (λ n. CallsAreFew (with_grip (at_moment here m) d (Some out)) n) (sym step.next.tickets) (goes_out here m d out s.tickets (at_home s d grip.device step.home) within (owes r) few))
turn_counted s t r m (Moved made) size step few = answered s t r m made (Moves made) step refl few
turn_counted s t r m (Wait why) size step few = subst (λ (x : OpenHub HandedDevice). CallsAreFew (configuration_of x) x.tickets) (sym step.1) few
turn_counted s t r m (Over end made) size step few = answered s t r m made (IsOver end made) step refl few
turn_counted s t r m Absent size step few = subst (λ (x : OpenHub HandedDevice). CallsAreFew (configuration_of x) x.tickets) (sym step.1) few

-- a probe goes out, or none may

both_true : (a b : Bool) → (a && b) ≡ true → (a ≡ true) × (b ≡ true)
both_true true b is = (refl, is)
both_true false b is = absurd (cc)

none_is_out : (o : Option Grip) → not (is_some o) ≡ true → least_entries o ≡ 0
none_is_out None is = refl
none_is_out (Some grip) is = absurd (cc)

probe_sent : (s : Configuration) (d : ℕ) → may_probe s d ≡ true → after_take_probe s d ≡ record s { probes = put s.probes d (s.probes d - 1); grips = put s.grips d (Some (probe_grip s d)) }
probe_sent s d may = rw may refl

pub probe_counted : (s t : OpenHub HandedDevice) (d : ℕ) (grip : Option (Gripped HandedDevice Ready)) → IsProbed s d grip t → CallsAreFew (configuration_of s) s.tickets → CallsAreFew (configuration_of t) t.tickets
probe_counted s t d (Some grip) step few =
    let here = configuration_of s in
    let took = took_probe (hub_state_of s) (hub_state_of t) d grip.slip grip.task step.0 in
    let sent = probe_sent here d took.0 in
    let tests = both_true (is_device here.setting d && not (is_out here.grips d)) (nat_lt 0 (here.probes d)) took.0 in
    let place = both_true (is_device here.setting d) (not (is_out here.grips d)) tests.0 in
    let within : d < length s.setting.first = below d (length s.setting.first) place.0 in
    let left : 0 < here.probes d = below 0 (here.probes d) tests.1 in
    subst (λ (c : Configuration). CallsAreFew c t.tickets) (sym (took.1 ∙ sent))
    (subst (λ n. CallsAreFew (record here { probes = put here.probes d (here.probes d - 1); grips = put here.grips d (Some (probe_grip here d)) }) n) (sym step.3.tickets)
    (probe_goes here d (probe_grip here d) s.tickets (none_is_out (here.grips d) place.1) within refl left few))
  where
    below : (a b : ℕ) → nat_lt a b ≡ true → a < b
    below a b is = search rules
probe_counted s t d None step few = subst (λ (x : OpenHub HandedDevice). CallsAreFew (configuration_of x) x.tickets) (sym step.1) few

-- a device comes home

pub record WasOut (s : OpenHub HandedDevice) (d : ℕ) : Type 0 where
  pub grip : Grip
  pub out : (configuration_of s).grips d ≡ Some grip
  pub within : d < length s.places

was_out : (s : OpenHub HandedDevice) (told : Carried) → is_kept (hub_state_of s) told ≡ true → WasOut s told.slip.device.0
was_out s told kept = by_place (slice_get s.places told.slip.device.0) refl
  where
    by_place : (p : Option (Place HandedDevice)) → slice_get s.places told.slip.device.0 ≡ p → WasOut s told.slip.device.0
    by_place None at = absurd (let none : unwrap_or (option_map (same_carried told) None) false ≡ true = subst (λ p. unwrap_or (option_map (same_carried told) (carried_in p)) false ≡ true) at kept in cc)
    by_place (Some (Home device)) at = absurd (let none : unwrap_or (option_map (same_carried told) None) false ≡ true = subst (λ p. unwrap_or (option_map (same_carried told) (carried_in p)) false ≡ true) at kept in cc)
    by_place (Some (Out slip task)) at = record {
      grip = record { maker = slip.maker; purpose = (progress_at s.devices told.slip.device.0).purpose };
      out = rw at refl;
      within = slice_get_within s.places told.slip.device.0 (Out slip task) at;
    }

gave_if : (b : Bool) (s : HubState) (c : Configuration) (told : Carried) (result : Told) (made : List Entry) → ◌≡◌ {A = CallAnswer} (Returned (Gave made)) (Returned (give_if b s c told result).answer) → b ≡ true
gave_if true s c told result made is = refl
gave_if false s c told result made is = absurd (cc)

given_counted : (s t : OpenHub HandedDevice) (done : Gripped HandedDevice Done) (m : ℕ) (made : List Entry) → length s.places ≡ length s.setting.first → IsGiven s done m (Ok made) t → CallsAreFew (configuration_of s) s.tickets → CallsAreFew (configuration_of t) t.tickets
given_counted s t done m made size back few =
    let here = configuration_of s in
    let told : Carried = record { slip = done.slip; task = done.task } in
    let kept = both_true (is_kept (hub_state_of s) told) (nat_lt 0 done.slip.maker) (gave_if (is_kept (hub_state_of s) told && nat_lt 0 done.slip.maker) (hub_state_of s) (at_moment here m) told done.stage.told made back.0.0) in
    let was = was_out s told kept.0 in
    let gave = gave_back (hub_state_of s) (hub_state_of t) told done.stage.told m was.grip made was.out back.0 in
    subst (λ (c : Configuration). CallsAreFew c t.tickets) (sym gave.1)
    (subst (λ n. CallsAreFew (after_give (at_moment here m) done.slip.device.0 was.grip done.stage.told) n) (sym back.2)
    (comes_back here m done.slip.device.0 was.grip done.stage.told s.tickets was.out (omega (arith, was.within, size)) few))

probe_given_counted : (s t : OpenHub HandedDevice) (done : Gripped HandedDevice Done) (made : List Entry) → length s.places ≡ length s.setting.first → IsProbeGiven s done (Ok made) t → CallsAreFew (configuration_of s) s.tickets → CallsAreFew (configuration_of t) t.tickets
probe_given_counted s t done made size back few =
    let here = configuration_of s in
    let told : Carried = record { slip = done.slip; task = done.task } in
    let kept = both_true (is_kept (hub_state_of s) told) (done.slip.maker == 0) (gave_if (is_kept (hub_state_of s) told && (done.slip.maker == 0)) (hub_state_of s) here told done.stage.told made back.0.0) in
    let was = was_out s told kept.0 in
    let gave = gave_probe_back (hub_state_of s) (hub_state_of t) told done.stage.told was.grip made was.out back.0 in
    subst (λ (c : Configuration). CallsAreFew c t.tickets) (sym gave.1)
    (subst (λ n. CallsAreFew (after_give here done.slip.device.0 was.grip done.stage.told) n) (sym back.2)
    (comes_back here 0 done.slip.device.0 was.grip done.stage.told s.tickets was.out (omega (arith, was.within, size)) few))

pub back_counted : (s t : OpenHub HandedDevice) (done : Gripped HandedDevice Done) (m : ℕ) (made : List Entry) → length s.places ≡ length s.setting.first → IsBack s done m made t → CallsAreFew (configuration_of s) s.tickets → CallsAreFew (configuration_of t) t.tickets
back_counted s t done m made size back few = elim back [
  | inl given ↦ given_counted s t done m made size given few
  | inr given ↦ probe_given_counted s t done made size given few
]

-- a window that opens

pub opened_counted : (s : OpenHub HandedDevice) (w : Setting) (rounds : ℕ) → configuration_of s ≡ opened w rounds → s.tickets ≡ 0 → rounds ≤ 100 → length w.first ≤ 256 → CallsAreFew (configuration_of s) s.tickets
opened_counted s w rounds is none few devices =
    subst (λ (c : Configuration). CallsAreFew c s.tickets) (sym is) (subst (λ n. CallsAreFew (opened w rounds) n) (sym none) few_opened)
  where
    left : (b : Bool) → (if b then rounds else 0) ≤ 100
    left true = few
    left false = omega arith

    few_opened : CallsAreFew (opened w rounds) 0
    few_opened =
        let most = sum_most (length w.first) (opened w rounds).probes (λ d. left (is_device w d)) in
        let all : sum_below (length w.first) (opened w rounds).probes ≤ 25600 = omega (arith, most, devices) in
        omega (arith, all)

pub opened_numbers : (shows : HandedDevice → Shown) (w : Setting) (rounds : ℕ) (home : HomeState HandedDevice) (hub : OpenHub HandedDevice) → MayOpen w rounds home.opened → IsOpened shows w rounds home hub → length home.devices ≡ length w.first
    → (before : ℕ) → before ≤ home.opened * 131072 → WindowTickets before hub
opened_numbers shows w rounds home hub may opened_so devices before low =
    let places : length hub.places ≡ length home.devices = ap (λ l. length l) opened_so.places ∙ length-map home.devices (λ device. Home device) in
    let first : length hub.setting.first ≡ length w.first = ap (λ (c : Configuration). length c.setting.first) opened_so.configuration in
    record {
      before_low = omega (arith, low, opened_so.windows);
      few_windows = omega (arith, may.few_windows, opened_so.windows);
      size = omega (arith, places, first, devices);
      few_calls = opened_counted hub w rounds opened_so.configuration opened_so.tickets may.few_rounds may.few_devices;
      given = λ d slip task at. absurd (none_out home.devices d slip task (ap (λ l. slice_get l d) (sym opened_so.places) ∙ at));
    }
