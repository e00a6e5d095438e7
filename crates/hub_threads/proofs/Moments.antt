-- The moments that a hub's history tells, after each of its steps.
use Rattle.command_rules.specs.Rosters.{device_no, run_no}
use Rattle.hub_threads.proofs.Prelude.{Absent, AreWithin, Bool, Choice, Chose, Configuration, Done, Entry, Go, Grip, Gripped, HubStep, IfSome, IsGiven, IsProbeGiven, IsTurn, List, Moved, Moves, None, Ok, OpenHub, Option, Over, Purpose, Slip, Some, Take, TellsWithin, Told, Turn, Wait, [], arith, choice_of, command_entries, configuration_of, decide_is, entries_told, false, give_entries, hub_state_of, if◌then◌else◌, kept_by, length, max, moment_told, not, option_map, option_to_list, probe_entries, read_of, refl, subst, sym, took_choice, true, undo_entries, ℕ, ◌&&◌, ◌++◌, ◌∷◌, ◌≡◌, ◌≤◌}
use Rattle.device_gate.specs.declared.slips.Told.TheVariants.{Died, Sensed, Worked}
use Rattle.history_book.specs.Readings.{Reading, did, is_doomed, next_of}
use Rattle.history_book.specs.Settings.{Setting, is_weak}
use Rattle.history_book.specs.declared.entries.Cause.TheVariants.{DownAtEnd, Lost, MustDown, Refuted, Revoked}
use Rattle.history_book.specs.declared.entries.Entry.TheVariants.{Arrived, Did, Doomed, Fell, Placed, Rose, Undid}
use Rattle.home_types.specs.Commands.{fails}
use Rattle.home_types.specs.declared.commands.Answer.TheVariants.{Down, Fine, Found, Skipped}
use Rattle.home_types.specs.declared.commands.Command.{Command}
use Rattle.command_rules.specs.Rosters.{command_at}
use Rattle.hub_core.specs.Steps.{Over as IsOver}
use Rattle.hub_threads.proofs.Added.{chosen_entries, given_entries_are, probe_given_entries_are, some_slip}
use Rattle.lock_leasing.specs.declared.purposes.Purpose.TheVariants.{Commands, Probes, Undoes}
use Rattle.lock_leasing.specs.Waits.{lost_by}
use Rattle.lock_leasing.specs.Words.{lease_deadline}
use Rattle.std.proofs.lemmas.List.Elements.{All-append, All-cons, All-nil}

-- an entry before others
before : (earliest latest maker : ℕ) (entry : Entry) (entries : List Entry) → IfSome (moment_told entry) (λ m. (earliest ≤ m) × (m ≤ latest)) → AreWithin earliest latest (kept_by maker entries) → AreWithin earliest latest (kept_by maker (entry ∷ entries))
before earliest latest maker entry entries tells others = All-cons (TellsWithin earliest latest) (record { maker = maker; entry = entry }) (kept_by maker entries) tells others

none : (earliest latest maker : ℕ) → AreWithin earliest latest (kept_by maker [])
none earliest latest maker = All-nil (TellsWithin earliest latest)

one : (earliest latest maker : ℕ) (entry : Entry) → IfSome (moment_told entry) (λ m. (earliest ≤ m) × (m ≤ latest)) → AreWithin earliest latest (kept_by maker (entry ∷ []))
one earliest latest maker entry tells = before earliest latest maker entry [] tells (none earliest latest maker)

either_of : (earliest latest maker : ℕ) (b : Bool) (xs ys : List Entry) → AreWithin earliest latest (kept_by maker xs) → AreWithin earliest latest (kept_by maker ys) → AreWithin earliest latest (kept_by maker (if b then xs else ys))
either_of earliest latest maker true xs ys first second = first
either_of earliest latest maker false xs ys first second = second

-- a history with more entries
pub within_more : {D : Type 0} (earliest latest : ℕ) (s t : OpenHub D) (maker : ℕ) (entries : List Entry) → t.history ≡ s.history ++ kept_by maker entries
    → AreWithin earliest latest s.history → AreWithin earliest latest (kept_by maker entries) → AreWithin earliest latest t.history
within_more earliest latest s t maker entries more were are = subst (AreWithin earliest latest) (sym more) (All-append (TellsWithin earliest latest) s.history (kept_by maker entries) were are)

-- Steps of a run: a moment that they tell is that of the step

choice_within : (earliest latest : ℕ) (s : Configuration) (r m : ℕ) → earliest ≤ m → max s.moment m ≤ latest → AreWithin earliest latest (kept_by r (chosen_entries (choice_of s r m)))
choice_within earliest latest s r m since until = decide_is (λ choice. AreWithin earliest latest (kept_by r (chosen_entries choice))) s.setting n s.grips r now (record {
  absent = λ no. nothing;
  over = λ e at. nothing;
  waits = λ why. nothing;
  arrives = λ is unarrived. one earliest latest r (Arrived (run_no r) now) timed;
  enters = λ split is. one earliest latest r (Placed (run_no r) (length split.front) now) timed;
  aborted = λ cause act doomed last. one earliest latest r _ tt;
  drops = λ cause d is down. one earliest latest r (Undid (run_no r) (device_no d) false) tt;
  undoes = λ cause d is up. nothing;
  revokes = λ c x is strong overdue. one earliest latest r (Doomed (run_no x) (Revoked (run_no r) c.device (lease_deadline s.setting n x c.device.0) now)) timed;
  downs = λ c is next home down. before earliest latest r (Did (run_no r) (next_of n r) Down) _ tt (either_of earliest latest r c.must (Doomed (run_no r) (MustDown (next_of n r)) ∷ []) [] (one earliest latest r _ tt) nothing);
  goes = λ c is next home up. nothing;
  skips = λ c is. one earliest latest r (Did (run_no r) (next_of n r) Skipped) tt;
  fails_at_end = λ d is at. one earliest latest r (Doomed (run_no r) (DownAtEnd (device_no d))) tt;
  commits = λ is none_down. one earliest latest r _ tt;
})
  where
    n : Reading
    n = read_of s

    now : ℕ
    now = max s.moment m

    nothing : AreWithin earliest latest (kept_by r [])
    nothing = none earliest latest r

    timed : (earliest ≤ now) × (now ≤ latest)
    timed = (omega (arith, since), until)

took_within : {D : Type 0} (earliest latest : ℕ) (s t : OpenHub D) (r m : ℕ) (slip : Slip) (choice : Choice) → earliest ≤ m → max s.moment m ≤ latest
    → HubStep (hub_state_of s) (Take r m slip) (Chose choice) (hub_state_of t) → AreWithin earliest latest (kept_by r (chosen_entries choice))
took_within earliest latest s t r m slip choice since until step =
    subst (λ x. AreWithin earliest latest (kept_by r (chosen_entries x))) (sym (took_choice (hub_state_of s) (hub_state_of t) r m slip choice step)) (choice_within earliest latest (configuration_of s) r m since until)

pub turn_within : {D : Type 0} (earliest latest : ℕ) (s t : OpenHub D) (r m : ℕ) (turn : Turn D) → earliest ≤ m → max s.moment m ≤ latest → IsTurn s r m turn t → AreWithin earliest latest (kept_by r (entries_told turn))
turn_within earliest latest s t r m (Go grip) since until is = none earliest latest r
turn_within earliest latest s t r m (Moved made) since until is = took_within earliest latest s t r m some_slip (Moves made) since until (is.step some_slip)
turn_within earliest latest s t r m (Wait why) since until is = none earliest latest r
turn_within earliest latest s t r m (Over end made) since until is = took_within earliest latest s t r m some_slip (IsOver end made) since until (is.step some_slip)
turn_within earliest latest s t r m Absent since until is = none earliest latest r

-- Steps back tell no moment

tells_none : (earliest latest maker : ℕ) (entry : Entry) → moment_told entry ≡ None → AreWithin earliest latest (kept_by maker (entry ∷ []))
tells_none earliest latest maker entry e = one earliest latest maker entry (rw e tt)

command_within : (earliest latest maker : ℕ) (w : Setting) (n : Reading) (r k : ℕ) (told : Told) → AreWithin earliest latest (kept_by maker (command_entries w n r k told))
command_within earliest latest maker w n r k Worked = tells_none earliest latest maker (Did (run_no r) k Fine) refl
command_within earliest latest maker w n r k (Sensed x) =
    let doom : Entry = Doomed (run_no r) (Refuted k x) in
    let fails_now : Bool = fails (command_at w.runs r k) (Found x) && not (is_doomed n r) in
    before earliest latest maker (Did (run_no r) k (Found x)) (if fails_now then doom ∷ [] else []) tt
    (either_of earliest latest maker fails_now (doom ∷ []) [] (tells_none earliest latest maker doom refl) (none earliest latest maker))
command_within earliest latest maker w n r k Died =
    let c : Command = command_at w.runs r k in
    let lost : Entry = Doomed (run_no r) (Lost c.device) in
    let failed : Entry = Doomed (run_no r) (MustDown k) in
    let had : Bool = did n r c.device.0 && not (is_weak w.mode) in
    let missed : List Entry = if c.must then failed ∷ [] else [] in
    let dooms : List Entry = if had then lost ∷ [] else missed in
    let rest : List Entry = if is_doomed n r then [] else dooms in
    before earliest latest maker (Fell c.device) (Did (run_no r) k Down ∷ rest) tt (before earliest latest maker (Did (run_no r) k Down) rest tt
    (either_of earliest latest maker (is_doomed n r) [] dooms (none earliest latest maker)
    (either_of earliest latest maker had (lost ∷ []) missed (tells_none earliest latest maker lost refl)
    (either_of earliest latest maker c.must (failed ∷ []) [] (tells_none earliest latest maker failed refl) (none earliest latest maker)))))

undo_within : (earliest latest maker r d : ℕ) (told : Told) → AreWithin earliest latest (kept_by maker (undo_entries r d told))
undo_within earliest latest maker r d Worked = tells_none earliest latest maker (Undid (run_no r) (device_no d) true) refl
undo_within earliest latest maker r d (Sensed x) = tells_none earliest latest maker (Undid (run_no r) (device_no d) true) refl
undo_within earliest latest maker r d Died =
    let undid : Entry = Undid (run_no r) (device_no d) false in
    before earliest latest maker (Fell (device_no d)) (undid ∷ []) tt (tells_none earliest latest maker undid refl)

lost_within : (earliest latest maker d : ℕ) (lost : Option ℕ) → AreWithin earliest latest (kept_by maker (option_to_list (option_map (λ x. Doomed (run_no x) (Lost (device_no d))) lost)))
lost_within earliest latest maker d None = none earliest latest maker
lost_within earliest latest maker d (Some x) = tells_none earliest latest maker (Doomed (run_no x) (Lost (device_no d))) refl

probe_within : (earliest latest maker : ℕ) (w : Setting) (n : Reading) (d : ℕ) (told : Told) → AreWithin earliest latest (kept_by maker (probe_entries w n d told))
probe_within earliest latest maker w n d Worked = either_of earliest latest maker (n.up d) [] (Rose (device_no d) ∷ []) (none earliest latest maker) (tells_none earliest latest maker (Rose (device_no d)) refl)
probe_within earliest latest maker w n d (Sensed x) = either_of earliest latest maker (n.up d) [] (Rose (device_no d) ∷ []) (none earliest latest maker) (tells_none earliest latest maker (Rose (device_no d)) refl)
probe_within earliest latest maker w n d Died =
    let dooms : List Entry = option_to_list (option_map (λ x. Doomed (run_no x) (Lost (device_no d))) (lost_by w n d)) in
    either_of earliest latest maker (n.up d) (Fell (device_no d) ∷ dooms) [] (before earliest latest maker (Fell (device_no d)) dooms tt (lost_within earliest latest maker d (lost_by w n d))) (none earliest latest maker)

back_within : (earliest latest maker : ℕ) (w : Setting) (n : Reading) (d : ℕ) (grip : Grip) (told : Told) → AreWithin earliest latest (kept_by maker (give_entries w n d grip told))
back_within earliest latest maker w n d grip told = by_purpose grip.purpose
  where
    by_purpose : (p : Purpose) → AreWithin earliest latest (kept_by maker (give_entries w n d (record { maker = grip.maker; purpose = p }) told))
    by_purpose (Commands k) = command_within earliest latest maker w n grip.maker k told
    by_purpose (Undoes v) = undo_within earliest latest maker grip.maker d told
    by_purpose (Probes v) = probe_within earliest latest maker w n d told

pub given_within : {D : Type 0} (earliest latest : ℕ) (s t : OpenHub D) (grip : Gripped D Done) (m : ℕ) (made : List Entry) → IsGiven s grip m (Ok made) t → AreWithin earliest latest (kept_by grip.slip.maker made)
given_within earliest latest s t grip m made is =
    let by = given_entries_are s t grip m made is in
    subst (λ es. AreWithin earliest latest (kept_by grip.slip.maker es)) (sym by.1) (back_within earliest latest grip.slip.maker s.setting (read_of (configuration_of s)) grip.slip.device.0 by.0 grip.stage.told)

pub probe_given_within : {D : Type 0} (earliest latest : ℕ) (s t : OpenHub D) (grip : Gripped D Done) (made : List Entry) → IsProbeGiven s grip (Ok made) t → AreWithin earliest latest (kept_by 0 made)
probe_given_within earliest latest s t grip made is =
    let by = probe_given_entries_are s t grip made is in
    subst (λ es. AreWithin earliest latest (kept_by 0 es)) (sym by.1) (back_within earliest latest 0 s.setting (read_of (configuration_of s)) grip.slip.device.0 by.0 grip.stage.told)
