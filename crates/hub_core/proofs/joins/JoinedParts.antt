-- What the type of a hub keeps of its parts is kept where a run joins its window: under the weak model too, of the devices home and out, of the hands, of the runs that the line keeps, and of the table.
use Rattle.hub_core.proofs.Prelude.{Aborted, Arrived, Bool, Command, Commands, Committed, Configuration, DeviceNo, Did, Doomed, Down, DownAtEnd, EachOut, Ended, Entry, Fell, Fine, Found, Grip, Grips, GripsFit, HeldTokensAre, HubIsKept, IsKeptByModel, IsTrue, IsWellFormed, List, Lost, MustDown, None, OpenHub, Option, Placed, Probes, Purpose, Reading, ReadsOwn, Refuted, Revoked, Rose, Run, Setting, Shown, Skipped, Some, Task, Undid, Undoes, [], along_joined, ap, arith, command_at, command_task, commands_of, common_steps, configuration_of, device_numbers, driven, entries_of, events_in, false, find, first_holds, formed_joined, grip_in, grip_wait, has_grip, if◌then◌else◌, inl, inr, is_live, is_probed, is_run, joined_grips, joined_justified, kind_at, length, length-append, live_own, may_follow, no_command, none_fails, not, nothing_read, option_map, own_commands, own_start, point, point_of, progress_at, read_of, reads, refl, run_place, same_reading, same_told, shown, slice_get, slice_index_or, stranger_idle, subst, suc, sym, task_of, told_calls, true, unwrap_or, weakly_allowed, zero, ℕ, ◌++◌, ◌+◌, ◌==◌, ◌∙◌, ◌∷◌, ◌≡◌, ◌≤◌, ◌⊎◌}
use Rattle.device_gate.specs.declared.slips.Task.TheVariants.{Drive, Sense}
use Rattle.history_book.specs.Joined.{with_joined}
use Rattle.hub_core.proofs.joins.JoinedHubs.{joined_configuration, may_open_joined, reads_own}
use Rattle.hub_core.specs.Joins.{MayJoin, joined, joined_to}
use Rattle.hub_core.specs.WeakKept.{NoneHasFailed, WeakIsKept, goes_weakly}

-- Under the weak model

allowed_entry : (w : Setting) (q : Run) (n : Reading) (e : Entry) → ReadsOwn w n → IsTrue (may_follow w n e) → IsTrue (weakly_allowed w n e) → IsTrue (weakly_allowed (with_joined w q) n e)
allowed_entry w q n (Arrived r m) reads ok is = refl
allowed_entry w q n (Placed r at m) reads ok is = refl
allowed_entry w q n (Did r c Fine) reads ok is = refl
allowed_entry w q n (Did r c Skipped) reads ok is = refl
allowed_entry w q n (Did r c Down) reads ok is = (λ k. not (n.up (slice_index_or (own_commands w.runs q r.0 mine k) c no_command).device.0)) ∙ is
  where
    mine : is_run w.runs r.0 ≡ true
    mine = grind (arith, common_steps)
allowed_entry w q n (Did r c (Found x)) reads ok is = (λ k. x == n.last (slice_index_or (own_commands w.runs q r.0 mine k) c no_command).device.0) ∙ is
  where
    mine : is_run w.runs r.0 ≡ true
    mine = grind (arith, common_steps)
allowed_entry w q n (Undid r d drove) reads ok is = refl
allowed_entry w q n (Fell d) reads ok is = refl
allowed_entry w q n (Rose d) reads ok is = refl
allowed_entry w q n (Doomed r (MustDown c)) reads ok is = shown w q n r.0 (MustDown c) reads (grind (arith, common_steps)) is
allowed_entry w q n (Doomed r (Refuted c x)) reads ok is = shown w q n r.0 (Refuted c x) reads (grind (arith, common_steps)) is
allowed_entry w q n (Doomed r (Lost d)) reads ok is = is
allowed_entry w q n (Doomed r (Revoked l d t m)) reads ok is = is
allowed_entry w q n (Doomed r (DownAtEnd d)) reads ok is = is
allowed_entry w q n (Ended r Committed) reads ok is = (λ k. none_fails (own_commands w.runs q r.0 mine k) (n.run r.0).answers) ∙ is
  where
    mine : is_run w.runs r.0 ≡ true
    mine = grind (arith, common_steps)
allowed_entry w q n (Ended r (Aborted cause)) reads ok is = refl

passes : (w : Setting) (q : Run) (n : Reading) → ReadsOwn w n → NoneHasFailed w n → NoneHasFailed (with_joined w q) n
passes w q n reads kept r sound = by (is_run w.runs r) refl
  where
    no_answer : (cs : List Command) → none_fails cs [] ≡ true
    no_answer [] = refl
    no_answer (c ∷ cs) = refl

    by : (b : Bool) → is_run w.runs r ≡ b → none_fails (commands_of (with_joined w q).runs r) (n.run r).answers ≡ true
    by true own = ap (λ cs. none_fails cs (n.run r).answers) (own_commands w.runs q r own) ∙ kept r sound
    by false none = ap (none_fails (commands_of (with_joined w q).runs r)) (stranger_idle w n r reads.shaped none).answers ∙ no_answer (commands_of (with_joined w q).runs r)

pub joined_weakly : (s : Configuration) (q : Run) (rounds opened : ℕ) (held : ℕ → ℕ) → MayJoin s.setting q → WeakIsKept s rounds opened held → WeakIsKept (joined_to s q) rounds opened held
joined_weakly s q rounds opened held may kept = record {
  opens = may_open_joined s.setting q rounds opened may kept.opens;
  weak = kept.weak;
  kinds = kept.kinds;
  probes = λ d. subst (λ n. n.rose d + (if is_probed s.grips d then 1 else 0) + s.probes d ≤ rounds) same (kept.probes d);
  values = kept.values;
  well_formed = formed_joined s.setting q h kept.well_formed;
  moment = subst (λ n. n.moment ≤ s.moment) same kept.moment;
  allowed = along_joined s.setting q (weakly_allowed s.setting) (weakly_allowed (with_joined s.setting q)) (allowed_entry s.setting q) (nothing_read s.setting) h (own_start s.setting) kept.well_formed kept.allowed;
  grips = subst (λ n. GripsFit (point (with_joined s.setting q) n s.grips)) same (joined_grips s.setting q (read_of s) s.grips reads.shaped kept.grips);
  out = subst (λ n. EachOut s.grips (goes_weakly n)) same kept.out;
  passes = subst (NoneHasFailed (with_joined s.setting q)) same (passes s.setting q (read_of s) reads kept.passes);
  held_is = λ d lt. kept.held_is d lt ∙ ap (λ n. n.last d) same;
}
  where
    h : List Entry
    h = entries_of s.history

    reads : ReadsOwn s.setting (read_of s)
    reads = reads_own s.setting h kept.well_formed

    same : read_of s ≡ read_of (joined_to s q)
    same = sym (same_reading s.setting q h kept.well_formed)

-- In every model

pub joined_by_model : (s : Configuration) (q : Run) (rounds opened : ℕ) (held : ℕ → ℕ) → MayJoin s.setting q → IsKeptByModel s rounds opened held → IsKeptByModel (joined_to s q) rounds opened held
joined_by_model s q rounds opened held may kept = record {
  opens = may_open_joined s.setting q rounds opened may kept.opens;
  kinds = kept.kinds;
  probes = λ d. subst (λ n. n.rose d + (if is_probed s.grips d then 1 else 0) + s.probes d ≤ rounds) same (kept.probes d);
  values = kept.values;
  history = record {
    well_formed = formed_joined s.setting q h kept.history.well_formed;
    moment = subst (λ n. n.moment ≤ s.moment) same kept.history.moment;
    justified = joined_justified s.setting q h kept.history.well_formed kept.history.justified;
  };
  grips = subst (λ n. GripsFit (point (with_joined s.setting q) n s.grips)) same (joined_grips s.setting q (read_of s) s.grips reads.shaped kept.grips);
  ordered = λ strong. joined_configuration s q rounds opened held may (kept.ordered strong);
  weakly = λ weak. joined_weakly s q rounds opened held may (kept.weakly weak);
}
  where
    h : List Entry
    h = entries_of s.history

    reads : ReadsOwn s.setting (read_of s)
    reads = reads_own s.setting h kept.history.well_formed

    same : read_of s ≡ read_of (joined_to s q)
    same = sym (same_reading s.setting q h kept.history.well_formed)

-- The devices, home and out

-- what a device is out for is the same task
same_task : (s : Configuration) (q : Run) → IsWellFormed s.setting (entries_of s.history) → GripsFit (point_of s) → (d maker : ℕ) (x : Purpose) → s.grips d ≡ Some (record { maker = maker; purpose = x })
    → task_of (joined_to s q) maker x ≡ task_of s maker x
same_task s q ok fit d maker (Commands c) out =
    let mine : is_run s.setting.runs maker ≡ true = live_own s.setting (read_of s) maker (reads_own s.setting (entries_of s.history) ok).shaped (first_holds _ _ (first_holds _ _ (fit.runs.commands d maker c out))) in
    (λ k. command_task (joined_to s q) maker (slice_index_or (own_commands s.setting.runs q maker mine k) c no_command))
    ∙ (λ k. by (command_at s.setting.runs maker c) (same_reading s.setting q (entries_of s.history) ok k))
  where
    by : Command → Reading → Task
    by c n = if reads c.job then Sense else Drive (driven (kind_at s.setting.kinds c.device.0) c.job (n.run maker).register)
same_task s q ok fit d maker (Undoes v) out = refl
same_task s q ok fit d maker (Probes v) out = refl

pub joined_hub : {D : Type 0} (shows : D → Shown) (s : OpenHub D) (q : Run) → MayJoin s.setting q → HubIsKept shows s → HubIsKept shows (joined s q)
joined_hub shows s q may kept = record {
  configuration = joined_by_model (configuration_of s) q s.rounds s.opened _ may kept.configuration;
  devices_size = kept.devices_size;
  places_size = kept.places_size;
  home = λ d device at. let was = kept.home d device at in record {
    stand = λ up. was.stand (ap (λ n. n.up d) (sym same) ∙ up);
    turns_are = was.turns_are ∙ ap (λ k. (progress_at s.devices d).at_opening.turns + k) (sym (told d));
    probes_are = was.probes_are;
    falls_told = was.falls_told;
    few_faults = was.few_faults;
  };
  out = λ d slip task at. let was = kept.out d slip task at in record {
    device = was.device;
    stand = was.stand;
    turns_are = was.turns_are ∙ ap (λ k. (progress_at s.devices d).at_opening.turns + k) (sym (told d));
    probes_are = was.probes_are;
    falls_told = was.falls_told;
    few_faults = was.few_faults;
    does = was.does ∙ sym (same_task (configuration_of s) q ok kept.configuration.grips d slip.maker (progress_at s.devices d).purpose (ap (λ place. grip_in place (progress_at s.devices d).purpose) at));
  };
  low = kept.low;
  values = kept.values;
  events = λ d lt. kept.events d lt ∙ ap (λ n. events_in n d) (sym same);
  few_tickets = kept.few_tickets;
}
  where
    ok : IsWellFormed s.setting (entries_of s.history)
    ok = kept.configuration.history.well_formed

    same : read_of (configuration_of (joined s q)) ≡ read_of (configuration_of s)
    same = same_reading s.setting q (entries_of s.history) ok

    told : (d : ℕ) → told_calls (with_joined s.setting q).runs (entries_of s.history) d ≡ told_calls s.setting.runs (entries_of s.history) d
    told d = same_told s.setting q (entries_of s.history) d ok

-- The held tokens

-- no grip is that of a run that is none of the window, but for the detector's
pub new_hand : (w : Setting) (n : Reading) (g : Grips) → ReadsOwn w n → GripsFit (point w n g) → grip_wait w g (suc (length w.runs)) ≡ None
new_hand w n g reads fit = none_found (has_grip g (suc (length w.runs))) (device_numbers w) (λ d. free d (g d) refl)
  where
    none_found : (f : ℕ → Bool) (ds : List ℕ) → ((d : ℕ) → f d ≡ false) → find f ds ≡ None
    none_found f [] none = refl
    none_found f (d ∷ ds) none = (λ k. if none d k then Some d else none_found f ds none k)

    other : (maker : ℕ) → is_live n maker ≡ true → (maker == suc (length w.runs)) ≡ false
    other maker live = let place = run_place w.runs maker (live_own w n maker reads.shaped live) in let low = place.1 in let is = place.0 in grind (arith, common_steps)

    of_purpose : (d maker : ℕ) (x : Purpose) → g d ≡ Some (record { maker = maker; purpose = x }) → (maker == suc (length w.runs)) ≡ false
    of_purpose d maker (Commands c) out = other maker (first_holds _ _ (first_holds _ _ (fit.runs.commands d maker c out)))
    of_purpose d maker (Undoes v) out = other maker (first_holds _ _ (first_holds _ _ (first_holds _ _ (fit.runs.undos d maker v out))))
    of_purpose d maker (Probes v) out = let detector : maker ≡ 0 = fit.probes d maker v out in grind (arith, common_steps)

    free : (d : ℕ) (o : Option Grip) → g d ≡ o → has_grip g (suc (length w.runs)) d ≡ false
    free d None out = ap (λ o. unwrap_or (option_map (λ p. p.maker == suc (length w.runs)) o) false) out
    free d (Some grip) out = ap (λ o. unwrap_or (option_map (λ p. p.maker == suc (length w.runs)) o) false) out ∙ of_purpose d grip.maker grip.purpose out

pub joined_hands : (w : Setting) (q : Run) (n : Reading) (g : Grips) (held_tokens : List (Option DeviceNo)) → ReadsOwn w n → GripsFit (point w n g) → HeldTokensAre w g held_tokens → HeldTokensAre (with_joined w q) g (held_tokens ++ None ∷ [])
joined_hands w q n g held_tokens reads fit kept = record {
  size = length-append held_tokens (None ∷ []) ∙ (λ k. kept.size k + 1) ∙ sym (length-append w.runs (q ∷ []));
  each = λ i hand at. by i hand (more_at held_tokens i hand at);
}
  where
    data_at : List (Option DeviceNo) → ℕ → Option DeviceNo → Type 0
    data_at xs i hand = (slice_get xs i ≡ Some hand) ⊎ ((i ≡ length xs) × (hand ≡ None))

    more_at : (xs : List (Option DeviceNo)) (i : ℕ) (hand : Option DeviceNo) → slice_get (xs ++ None ∷ []) i ≡ Some hand → data_at xs i hand
    more_at [] zero hand at = inr (refl, (let is : Some None ≡ Some hand = at in cc))
    more_at [] (suc i) hand at = absurd (cc)
    more_at (x ∷ xs) zero hand at = inl at
    more_at (x ∷ xs) (suc i) hand at = behind_first xs i hand (more_at xs i hand at)
      where
        behind_first : (xs : List (Option DeviceNo)) (i : ℕ) (hand : Option DeviceNo) → data_at xs i hand → (slice_get xs i ≡ Some hand) ⊎ ((suc i ≡ suc (length xs)) × (hand ≡ None))
        behind_first xs i hand (inl was) = inl was
        behind_first xs i hand (inr last) = inr (ap suc last.0, last.1)

    by : (i : ℕ) (hand : Option DeviceNo) → data_at held_tokens i hand → option_map (λ d. d.0) hand ≡ grip_wait (with_joined w q) g (suc i)
    by i hand (inl at) = kept.each i hand at
    by i hand (inr last) = ap (option_map (λ d. d.0)) last.1 ∙ sym (new_hand w n g reads fit) ∙ ap (λ k. grip_wait w g (suc k)) (sym (last.0 ∙ kept.size))
