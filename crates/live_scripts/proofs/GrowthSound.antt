-- A sound script that grows is sound.
use Rattle.day_clock.specs.Times.{IsCivilTime}
use Rattle.day_clock.specs.declared.times.When.{When}
use Rattle.home_types.proofs.Cited.{snoc_get}
use Rattle.live_scripts.proofs.Prelude.{All, Bool, Err, HasBegun, IfErr, IfOk, IfSome, IsNewWindow, List, Listed, None, Ok, Option, Result, RunNo, RunText, Script, Some, WindowText, [], ap, arith, false, if◌then◌else◌, inl, inr, is_earlier, is_later_after, length, length-append, length-map, map, map-append, nat_le, nat_lt, new_run, refl, rules, slice_get, subst, suc, sym, true, windows_before, zero, ℕ, ◌&&◌, ◌++◌, ◌+◌, ◌-◌, ◌<◌, ◌∙◌, ◌∷◌, ◌≡◌, ◌≤◌}
use Rattle.live_scripts.specs.declared.refusals.NotAdded.{NotAdded}
use Rattle.live_scripts.specs.declared.refusals.NotBegun.{NotBegun}
use Rattle.routine_reader.specs.Scripts.{PlainWindow, plain_routine, plain_script, plain_window}
use Rattle.routine_reader.specs.Sound.{AreInOrder, IsBefore, IsSound, IsSoundRun, IsSoundWindow}
use Rattle.std.proofs.lemmas.List.Elements.{All-append, All-nil}

-- Lists with an item more

all_one : {X : Type 0} (P : X → Type 0) (x : X) → P x → All P (x ∷ [])
all_one P x is zero d low = is
all_one P x is (suc k) d low = absurd (omega (arith, low))

pub all_more : {X : Type 0} (P : X → Type 0) (xs : List X) (x : X) → All P xs → P x → All P (xs ++ x ∷ [])
all_more P xs x all is = All-append P xs (x ∷ []) all (all_one P x is)

all_front : {X : Type 0} (P : X → Type 0) (xs : List X) (x : X) → All P (xs ++ x ∷ []) → All P xs
all_front P [] x all k d low = absurd (omega (arith, low))
all_front P (y ∷ xs) x all zero d low = all zero d (omega arith)
all_front P (y ∷ xs) x all (suc k) d low = all_front P xs x (λ j e below. all (suc j) e (omega (arith, below))) k d (omega (arith, low))

all_last : {X : Type 0} (P : X → Type 0) (xs : List X) (x : X) → All P (xs ++ x ∷ []) → P x
all_last P [] x all = all zero x (omega arith)
all_last P (y ∷ xs) x all = all_last P xs x (λ j e below. all (suc j) e (omega (arith, below)))

all_weaker : {X : Type 0} (P Q : X → Type 0) (xs : List X) → ((x : X) → P x → Q x) → All P xs → All Q xs
all_weaker P Q xs weaker all k d low = weaker _ (all k d low)

-- Windows in order

-- the window comes after the last one
unfoldable pub ComesAfter : List PlainWindow → When → Type 0
ComesAfter [] at = Unit {0}
ComesAfter (a ∷ []) at = IsBefore a.at at
ComesAfter (a ∷ b ∷ windows) at = ComesAfter (b ∷ windows) at

-- each window is later than the one before
abbrev Ordered : List PlainWindow → Type 0
Ordered windows = (k : ℕ) (a b : PlainWindow) → slice_get windows k ≡ Some a → slice_get windows (suc k) ≡ Some b → IsBefore a.at b.at

ordered_of : (windows : List PlainWindow) → AreInOrder windows → Ordered windows
ordered_of windows are k a b at next = let e : suc k ≡ k + 1 = omega arith in are k a b at (ap (λ i. slice_get windows i) (sym e) ∙ next)

of_ordered : (windows : List PlainWindow) → Ordered windows → AreInOrder windows
of_ordered windows are k a b at next = let e : suc k ≡ k + 1 = omega arith in are k a b at (ap (λ i. slice_get windows i) e ∙ next)

ordered_more : (windows : List PlainWindow) (w : PlainWindow) → Ordered windows → ComesAfter windows w.at → Ordered (windows ++ w ∷ [])
unfolding ComesAfter
ordered_more [] w are later zero a b at next = absurd (cc)
ordered_more [] w are later (suc k) a b at next = absurd (cc)
ordered_more (x ∷ []) w are later zero a b at next =
    let first : x ≡ a = cc in let second : w ≡ b = cc in
    subst (λ (p : PlainWindow × PlainWindow). IsBefore p.0.at p.1.at) (λ i. (first i, second i)) later
ordered_more (x ∷ []) w are later (suc zero) a b at next = absurd (cc)
ordered_more (x ∷ []) w are later (suc (suc k)) a b at next = absurd (cc)
ordered_more (x ∷ y ∷ windows) w are later zero a b at next = are zero a b at next
ordered_more (x ∷ y ∷ windows) w are later (suc k) a b at next =
    ordered_more (y ∷ windows) w (λ j. are (suc j)) later k a b at next

-- the last window may become another of the same time
ordered_last : (windows : List PlainWindow) (was now : PlainWindow) → was.at ≡ now.at → Ordered (windows ++ was ∷ []) → Ordered (windows ++ now ∷ [])
ordered_last [] was now same are zero a b at next = absurd (cc)
ordered_last [] was now same are (suc k) a b at next = absurd (cc)
ordered_last (x ∷ []) was now same are zero a b at next =
    let first : x ≡ a = cc in let second : now ≡ b = cc in
    subst (λ (p : PlainWindow × When). IsBefore p.0.at p.1) (λ i. (first i, (same ∙ ap (λ (y : PlainWindow). y.at) second) i)) (are zero x was refl refl)
ordered_last (x ∷ []) was now same are (suc zero) a b at next = absurd (cc)
ordered_last (x ∷ []) was now same are (suc (suc k)) a b at next = absurd (cc)
ordered_last (x ∷ y ∷ windows) was now same are zero a b at next = are zero a b at next
ordered_last (x ∷ y ∷ windows) was now same are (suc k) a b at next =
    ordered_last (y ∷ windows) was now same (λ j. are (suc j)) k a b at next

order_more : (windows : List PlainWindow) (w : PlainWindow) → AreInOrder windows → ComesAfter windows w.at → AreInOrder (windows ++ w ∷ [])
order_more windows w are later = of_ordered (windows ++ w ∷ []) (ordered_more windows w (ordered_of windows are) later)

order_last : (windows : List PlainWindow) (was now : PlainWindow) → was.at ≡ now.at → AreInOrder (windows ++ was ∷ []) → AreInOrder (windows ++ now ∷ [])
order_last windows was now same are = of_ordered (windows ++ now ∷ []) (ordered_last windows was now same (ordered_of (windows ++ was ∷ []) are))

later_by : (windows : List WindowText) (at : When) → is_later_after (slice_get windows (length windows - 1)) at ≡ true → ComesAfter (map plain_window windows) at
unfolding ComesAfter
later_by [] at later = tt
later_by (a ∷ []) at later = later
later_by (a ∷ b ∷ windows) at later =
    let e : length (a ∷ b ∷ windows) - 1 ≡ suc (length (b ∷ windows) - 1) = omega arith in
    later_by (b ∷ windows) at (sym (ap (λ i. is_later_after (slice_get (a ∷ b ∷ windows) i) at) e) ∙ later)

-- A window that is begun

new_is_sound : (routines : ℕ) (at : When) (probes : ℕ) (window : WindowText) → IsCivilTime at → probes ≤ 100 → IsNewWindow at probes window → IsSoundWindow routines (plain_window window)
new_is_sound routines at probes window civil few new = record {
  at = subst IsCivilTime (sym new.time) civil;
  seed = omega (arith, new.seed);
  probes = omega (arith, new.rounds, few);
  few_turns = let none = ap (λ (l : List ℕ). length l) new.turns in omega (arith, none);
  turns = subst (λ (l : List ℕ). All (λ turn. turn ≤ length window.runs.items) l) (sym new.turns) (All-nil (λ turn. turn ≤ length window.runs.items));
  few_runs = let none = ap (λ (l : List RunText). length l) new.runs in omega (arith, none);
  runs = λ k run there. absurd (let none : slice_get [] k ≡ Some run = sym (ap (λ (l : List RunText). slice_get l k) new.runs) ∙ there in no_item k run none);
}
  where
    no_item : (k : ℕ) (run : RunText) → slice_get [] k ≡ Some run → ⊥
    no_item zero run is = absurd (cc)
    no_item (suc k) run is = absurd (cc)

-- a sound script with one window more
pub grows : (script : Script) (windows : Listed WindowText) (at : When) (probes : ℕ) (window : WindowText) → IsSound (plain_script script) → IsCivilTime at → probes ≤ 100
    → IsNewWindow at probes window → is_later_after (slice_get script.windows.items (length script.windows.items - 1)) at ≡ true → length script.windows.items < 288
    → windows.items ≡ script.windows.items ++ window ∷ [] → IsSound (plain_script (record script { windows = windows }))
grows script windows at probes window sound civil few new later room is =
    let plain : map plain_window windows.items ≡ map plain_window script.windows.items ++ plain_window window ∷ [] =
    ap (λ l. map plain_window l) is ∙ map-append plain_window script.windows.items (window ∷ []) in
    record {
      few_devices = sound.few_devices;
      devices = sound.devices;
      device_names = sound.device_names;
      few_routines = sound.few_routines;
      routines = sound.routines;
      routine_names = sound.routine_names;
      few_windows = let n = length-map windows.items plain_window in let m = ap (λ l. length l) is in let sum = length-append script.windows.items (window ∷ []) in omega (arith, n, m, sum, room);
      windows = subst (λ l. All (IsSoundWindow (length (map plain_routine script.routines.items))) l) (sym plain)
          (all_more (IsSoundWindow (length (map plain_routine script.routines.items))) (map plain_window script.windows.items) (plain_window window) sound.windows (new_is_sound (length (map plain_routine script.routines.items)) at probes window civil few new));
      in_order = subst AreInOrder (sym plain)
          (order_more (map plain_window script.windows.items) (plain_window window) sound.in_order (subst (λ t. ComesAfter (map plain_window script.windows.items) t) (sym new.time) (later_by script.windows.items at later)));
    }

-- .. and with that window alone
pub begins_anew : (script : Script) (windows : Listed WindowText) (at : When) (probes : ℕ) (window : WindowText) → IsSound (plain_script script) → IsCivilTime at → probes ≤ 100
    → IsNewWindow at probes window → windows.items ≡ window ∷ [] → IsSound (plain_script (record script { windows = windows }))
begins_anew script windows at probes window sound civil few new is =
    let plain : map plain_window windows.items ≡ plain_window window ∷ [] = ap (λ l. map plain_window l) is in
    record {
      few_devices = sound.few_devices;
      devices = sound.devices;
      device_names = sound.device_names;
      few_routines = sound.few_routines;
      routines = sound.routines;
      routine_names = sound.routine_names;
      few_windows = let n = length-map windows.items plain_window in let m = ap (λ l. length l) is in omega (arith, n, m);
      windows = subst (λ l. All (IsSoundWindow (length (map plain_routine script.routines.items))) l) (sym plain)
          (all_one (IsSoundWindow (length (map plain_routine script.routines.items))) (plain_window window) (new_is_sound (length (map plain_routine script.routines.items)) at probes window civil few new));
      in_order = subst AreInOrder (sym plain) one_in_order;
    }
  where
    one_in_order : AreInOrder (plain_window window ∷ [])
    one_in_order zero a b at next = absurd (cc)
    one_in_order (suc k) a b at next = absurd (cc)

-- A run that is added

both_true : (a b : Bool) → (a && b) ≡ true → (a ≡ true) × (b ≡ true)
both_true true b is = (refl, is)
both_true false b is = absurd (cc)

pub earlier_is : (follows : Option RunNo) (n : ℕ) → is_earlier follows n ≡ true → IfSome follows (λ followed. (1 ≤ followed.0) × (followed.0 ≤ n))
earlier_is None n is = tt
earlier_is (Some run) n is = let both = both_true (nat_le 1 run.0) (nat_le run.0 n) is in (at_most 1 run.0 both.0, at_most run.0 n both.1)
  where
    at_most : (a b : ℕ) → nat_le a b ≡ true → a ≤ b
    at_most a b is = search rules

run_more : (routines : ℕ) (was now : WindowText) (run : RunText) → IsSoundWindow routines (plain_window was) → now ≡ record was { runs = now.runs } → now.runs.items ≡ was.runs.items ++ run ∷ []
    → length was.runs.items < 64 → run.routine < routines → is_earlier run.follows (length was.runs.items) ≡ true → IsSoundWindow routines (plain_window now)
run_more routines was now run sound rest is room known follows =
    let size : length now.runs.items ≡ length was.runs.items + 1 = ap (λ l. length l) is ∙ length-append was.runs.items (run ∷ []) in
    record {
      at = subst IsCivilTime (sym (ap (λ (w : WindowText). w.at) rest)) sound.at;
      seed = let same = ap (λ (w : WindowText). w.seed) rest in omega (arith, same, sound.seed);
      probes = let same = ap (λ (w : WindowText). w.probes) rest in omega (arith, same, sound.probes);
      few_turns = let same = ap (λ (w : WindowText). length w.turns.items) rest in omega (arith, same, sound.few_turns);
      turns = subst (λ (l : List ℕ). All (λ turn. turn ≤ length now.runs.items) l) (sym (ap (λ (w : WindowText). w.turns.items) rest))
          (all_weaker (λ turn. turn ≤ length was.runs.items) (λ turn. turn ≤ length now.runs.items) was.turns.items (λ turn low. omega (arith, low, size)) sound.turns);
      few_runs = omega (arith, size, room);
      runs = λ k text there. (elim (snoc_get was.runs.items run text k (sym (ap (λ l. slice_get l k) is) ∙ there)) [
        | inl old ↦ sound.runs k text old
        | inr new ↦ subst (λ (p : ℕ × RunText). IsSoundRun routines p.0 p.1) (λ i. (sym new.0 i, new.1 i)) (record { routine = known; follows = earlier_is run.follows (length was.runs.items) follows })
      ]);
    }

pub run_grows : (script : Script) (windows : Listed WindowText) (earlier : List WindowText) (was now : WindowText) (run : RunText) → IsSound (plain_script script)
    → script.windows.items ≡ earlier ++ was ∷ [] → windows.items ≡ earlier ++ now ∷ [] → now ≡ record was { runs = now.runs } → now.runs.items ≡ was.runs.items ++ run ∷ []
    → length was.runs.items < 64 → run.routine < length script.routines.items → is_earlier run.follows (length was.runs.items) ≡ true → IsSound (plain_script (record script { windows = windows }))
run_grows script windows earlier was now run sound before after rest is room known follows =
    let P : PlainWindow → Type 0 = IsSoundWindow (length (map plain_routine script.routines.items)) in
    let old : map plain_window script.windows.items ≡ map plain_window earlier ++ plain_window was ∷ [] = ap (λ l. map plain_window l) before ∙ map-append plain_window earlier (was ∷ []) in
    let new : map plain_window windows.items ≡ map plain_window earlier ++ plain_window now ∷ [] = ap (λ l. map plain_window l) after ∙ map-append plain_window earlier (now ∷ []) in
    let all : All P (map plain_window earlier ++ plain_window was ∷ []) = subst (λ l. All P l) old sound.windows in
    let routines = length-map script.routines.items plain_routine in
    record {
      few_devices = sound.few_devices;
      devices = sound.devices;
      device_names = sound.device_names;
      few_routines = sound.few_routines;
      routines = sound.routines;
      routine_names = sound.routine_names;
      few_windows = let n = ap (λ l. length l) old in let m = ap (λ l. length l) new in let a = length-append (map plain_window earlier) (plain_window was ∷ []) in let b = length-append (map plain_window earlier) (plain_window now ∷ []) in omega (arith, n, m, a, b, sound.few_windows);
      windows = subst (λ l. All P l) (sym new)
          (all_more P (map plain_window earlier) (plain_window now) (all_front P (map plain_window earlier) (plain_window was) all)
          (run_more (length (map plain_routine script.routines.items)) was now run (all_last P (map plain_window earlier) (plain_window was) all) rest is room (omega (arith, known, routines)) follows));
      in_order = subst AreInOrder (sym new)
          (order_last (map plain_window earlier) (plain_window was) (plain_window now) (sym (ap (λ (w : WindowText). w.at) rest)) (subst AreInOrder old sound.in_order));
    }

-- What the calls answer

-- a window was appended, or nothing was
pub more_or_same : (script : Script) (windows : Listed WindowText) (at : When) (probes : ℕ) (window : WindowText) (result : Result ℕ NotBegun) → IsSound (plain_script script) → IsCivilTime at → probes ≤ 100
    → IsNewWindow at probes window → is_later_after (slice_get script.windows.items (length script.windows.items - 1)) at ≡ true → length script.windows.items < 288
    → IfOk result (λ k. windows.items ≡ script.windows.items ++ window ∷ []) → IfErr result (λ why. windows ≡ script.windows) → IsSound (plain_script (record script { windows = windows }))
more_or_same script windows at probes window (Ok k) sound civil few new later room appended same = grows script windows at probes window sound civil few new later room appended
more_or_same script windows at probes window (Err why) sound civil few new later room appended same = subst (λ w. IsSound (plain_script (record script { windows = w }))) (sym same) sound

not_full : (windows : List WindowText) → length windows < 288 → windows_before windows ≡ windows
not_full windows room = by_test (nat_lt (length windows) 288) (search rules)
  where
    by_test : (b : Bool) → b ≡ true → (if b then windows else []) ≡ windows
    by_test true is = refl
    by_test false is = absurd (cc)

full : (windows : List WindowText) → 288 ≤ length windows → windows_before windows ≡ []
full windows many = by_test (nat_lt (length windows) 288) (search rules)
  where
    by_test : (b : Bool) → b ≡ false → (if b then windows else []) ≡ []
    by_test true is = absurd (cc)
    by_test false is = refl

pub begun_if : (before after : Script) (at : When) (probes : ℕ) (window : WindowText) (result : Result ℕ NotBegun)
    → IsNewWindow at probes window → is_later_after (slice_get before.windows.items (length before.windows.items - 1)) at ≡ true → length before.windows.items < 288
    → IfOk result (λ k. k ≡ length before.windows.items) → IfOk result (λ k. after.windows.items ≡ before.windows.items ++ window ∷ []) → after.devices ≡ before.devices → after.routines ≡ before.routines
    → IfOk result (λ k. HasBegun before at probes k after)
begun_if before after at probes window (Ok k) new later room number appended devices routines =
    let all = not_full before.windows.items room in
    record { window = window; new = new; later = later; number = number ∙ ap (λ l. length l) (sym all); windows = appended ∙ ap (λ l. l ++ window ∷ []) (sym all); devices = devices; routines = routines }
begun_if before after at probes window (Err why) new later room number appended devices routines = tt

pub begun_anew : (before after : Script) (at : When) (probes : ℕ) (window : WindowText) (k : ℕ)
    → IsNewWindow at probes window → is_later_after (slice_get before.windows.items (length before.windows.items - 1)) at ≡ true → 288 ≤ length before.windows.items
    → k ≡ 0 → after.windows.items ≡ window ∷ [] → after.devices ≡ before.devices → after.routines ≡ before.routines → HasBegun before at probes k after
begun_anew before after at probes window k new later many number appended devices routines =
    let none = full before.windows.items many in
    record { window = window; new = new; later = later; number = number ∙ ap (λ l. length l) (sym none); windows = appended ∙ ap (λ l. l ++ window ∷ []) (sym none); devices = devices; routines = routines }

-- .. of the script as it is shown
pub begun_if_shown : (before shown after : Script) (at : When) (probes : ℕ) (window : WindowText) (result : Result ℕ NotBegun) → before ≡ shown
    → IsNewWindow at probes window → is_later_after (slice_get before.windows.items (length before.windows.items - 1)) at ≡ true → length before.windows.items < 288
    → IfOk result (λ k. k ≡ length before.windows.items) → IfOk result (λ k. after.windows.items ≡ before.windows.items ++ window ∷ []) → after.devices ≡ before.devices → after.routines ≡ before.routines
    → IfOk result (λ k. HasBegun shown at probes k after)
begun_if_shown before shown after at probes window result same new later room number appended devices routines =
    subst (λ s. IfOk result (λ k. HasBegun s at probes k after)) same (begun_if before after at probes window result new later room number appended devices routines)

pub begun_anew_shown : (before shown after : Script) (at : When) (probes : ℕ) (window : WindowText) (k : ℕ) → before ≡ shown
    → IsNewWindow at probes window → is_later_after (slice_get before.windows.items (length before.windows.items - 1)) at ≡ true → 288 ≤ length before.windows.items
    → k ≡ 0 → after.windows.items ≡ window ∷ [] → after.devices ≡ before.devices → after.routines ≡ before.routines → HasBegun shown at probes k after
begun_anew_shown before shown after at probes window k same new later many number appended devices routines =
    subst (λ s. HasBegun s at probes k after) same (begun_anew before after at probes window k new later many number appended devices routines)

same_windows : (script : Script) (windows : Listed WindowText) → windows.items ≡ script.windows.items → IsSound (plain_script script) → IsSound (plain_script (record script { windows = windows }))
same_windows script windows items sound = record {
  few_devices = sound.few_devices;
  devices = sound.devices;
  device_names = sound.device_names;
  few_routines = sound.few_routines;
  routines = sound.routines;
  routine_names = sound.routine_names;
  few_windows = subst (λ l. length (map plain_window l) ≤ 288) (sym items) sound.few_windows;
  windows = subst (λ l. All (IsSoundWindow (length (map plain_routine script.routines.items))) (map plain_window l)) (sym items) sound.windows;
  in_order = subst (λ l. AreInOrder (map plain_window l)) (sym items) sound.in_order;
}

-- a run was added to the last window, or none was
pub run_or_same : (script : Script) (windows popped : Listed WindowText) (was now : WindowText) (routine : ℕ) (follows : Option RunNo) (result : Result RunNo NotAdded) → IsSound (plain_script script)
    → routine < length script.routines.items → script.windows.items ≡ popped.items ++ was ∷ [] → windows.items ≡ popped.items ++ now ∷ []
    → IfOk result (λ r. now.runs.items ≡ was.runs.items ++ new_run routine follows ∷ []) → (length was.runs.items < 64) × (is_earlier follows (length was.runs.items) ≡ true)
    → IfOk result (λ r. now ≡ record was { runs = now.runs }) → IfErr result (λ why. now ≡ was)
    → IsSound (plain_script (record script { windows = windows }))
run_or_same script windows popped was now routine follows (Ok r) sound known before after appended may rest same =
    run_grows script windows popped.items was now (new_run routine follows) sound before after rest appended may.0 known may.1
run_or_same script windows popped was now routine follows (Err why) sound known before after appended may rest same =
    let items : windows.items ≡ script.windows.items = after ∙ ap (λ w. popped.items ++ w ∷ []) same ∙ sym before in
    same_windows script windows items sound
