-- The call of a run died: what the code writes of it, and that what is kept stays so.
use Rattle.hub_core.proofs.Prelude.{Bool, Cause, ChangesEach, Command, Commands, DeviceNo, Did, Died, Done, Doomed, Down, Entry, Failed, Fell, Gripped, Grips, GripsFit, HasFallen, HistoryState, Inside, IsSome, IsTrue, IsWaiting, IsWellFormed, IsWhole, LineageState, List, Lost, Marked, MayNote, MayTake, MayTurn, MustDown, None, Option, OrderIsBeside, Reading, RunNo, Sensed, Setting, Shown, Slip, Some, Told, Undid, Undoes, Worked, [], ap, append_assoc, ap₂, arith, command_at, commands_of, configuration_of, counted_up, did, doomed_lineage, entries_made, entries_of, entry, false, fold, grips_command, has_died, held_in, home_fits, if◌then◌else◌, is_doomed, is_first, is_run, is_some, is_weak, kept_by, length, length_set, lineage_at, lineage_set, may_follow, next_of, not, noted_first, open_of, option_map, option_to_list, or-true, pends, point, put, put_other, read_in, refl, run_no, subst, suc, sym, takes_first, takes_rest, true, with_doom, with_entry, with_lineage, with_more, ℕ, ◌&&◌, ◌+◌, ◌-◌, ◌<◌, ◌||◌, ◌∙◌, ◌∷◌, ◌≡◌, ◌≤◌}
use Rattle.home_types.specs.declared.commands.View.TheVariants.{Down as ViewedDown}
use Rattle.home_types.specs.declared.commands.View.{View}
use Rattle.hub_core.proofs.calls.Homecomings.{CameHome, IsHome, IsReturned, came_whole, returned_entries, returned_for, returned_places, takes_back}
use Rattle.hub_core.proofs.calls.HubChanges.{answer_entries, answered_more}
use Rattle.hub_core.proofs.calls.HubOrders.{read_whole}
use Rattle.hub_core.proofs.calls.OutFor.{IsForCommand, for_command}
use Rattle.hub_core.proofs.calls.Turning.{Falls, TellsTurn, fallen_number, may_fall}
use Rattle.hub_core.proofs.kept.FallenOrders.{order_died, order_died_weakly, order_undo_died}
use Rattle.hub_core.proofs.kept.KeptByModel.{undo_ordered}
use Rattle.hub_core.proofs.kept.OrderSteps.{done_after, may_note, none_out, order_doomed_if, read_more}
use Rattle.hub_core.proofs.kept.TableFits.{either_model}
use Rattle.history_book.specs.Causes.{died_by}
use Rattle.window_order.specs.declared.order_states.OrderState.{OrderState}
use Rattle.window_devices.specs.declared.known.Events.{Events}
use Rattle.std.specs.Bool.{then_some}

died_told : (told : Told) → has_died told ≡ true → told ≡ Died
died_told Worked died = absurd (cc)
died_told (Sensed x) died = absurd (cc)
died_told Died died = refl

-- a run is the one whose access died first, where it did
pub found_first : {A : Type 0} (first : Bool) (x : A) → then_some first x ≡ (if first then Some x else None)
found_first true x = refl
found_first false x = refl

-- an entry, and then more
pub more_after : (h : HistoryState) (maker : ℕ) (e : Entry) (es : List Entry) → with_more (with_entry h maker e) maker es ≡ with_more h maker (e ∷ es)
more_after h maker e es =
    let history = append_assoc h.history (kept_by maker (e ∷ [])) (kept_by maker es) in
    let left : h.spare - 1 - length es ≡ h.spare - suc (length es) = omega arith in
    λ i. record h { history = history i; spare = left i }

-- A command

-- the run's access to the device, and for what it is doomed
abbrev pub dead_first : {D : Type 0} → Inside D → Slip → Bool
dead_first h slip = is_first slip.maker (lineage_at h.order.table slip.device.0)

abbrev pub death_of : {D : Type 0} → Inside D → Slip → ℕ → Option Cause
death_of h slip k = died_by h.history.setting (read_in h.history) slip.maker k (dead_first h slip || is_weak h.history.setting.mode)

abbrev pub death_entries : Slip → ℕ → Option Cause → List Entry
death_entries slip k cause = Fell slip.device ∷ answer_entries slip.maker k Down cause

-- its answer comes in turn: it is the run's first one on the device, or a later one
dead_turn : {D : Type 0} {shows : D → Shown} (h : Inside D) (k : ℕ) (grip : Gripped D Done) → IsReturned shows h (Commands k) grip → is_weak h.history.setting.mode ≡ false → IsWhole shows h
    → (dead_first h grip.slip ≡ not (did (read_in h.history) grip.slip.maker (command_at h.history.setting.runs grip.slip.maker k).device.0)) × MayNote grip.slip.maker (lineage_at h.order.table grip.slip.device.0)
dead_turn h k grip returned strong whole =
    let for = for_command _ (open_of h) grip.slip grip.task k whole.shown returned.there returned.purpose in
    let turn = may_note h.history.setting (read_in h.history) (configuration_of (open_of h)).grips
    (held_in (open_of h)) grip.slip.device.0 grip.slip.maker k h.order.table (read_whole h whole) (whole.shown.configuration.ordered strong).order for.grip
    (returned_for h (Commands k) grip returned whole).below (whole.order.table_is.ordered strong) in
    (turn.0 ∙ ap (λ x. not (did (read_in h.history) grip.slip.maker x)) (sym for.on), turn.1)

-- the doom, by whether the run was doomed before, has had an answer there, and must not fail; under the weak model no access is lost
dooms_are : (w : Setting) (n : Reading) (r k : ℕ) (d : DeviceNo) (doomed had weak must first : Bool) → (weak ≡ false → first ≡ not had)
    → (if doomed then [] else (if had && not weak then Doomed (run_no r) (Lost d) ∷ [] else (if must then Doomed (run_no r) (MustDown k) ∷ [] else [])))
    ≡ option_to_list
    (option_map (λ c. Doomed (run_no r) c) (if doomed then None else (if first || weak then (if must then Some (MustDown k) else None) else Some (Lost d))))
dooms_are w n r k d true had weak must first told = refl
dooms_are w n r k d false had true must first told =
    ap (λ b. if b then Doomed (run_no r) (Lost d) ∷ [] else (if must then Doomed (run_no r) (MustDown k) ∷ [] else [])) (never had) ∙ by_must must
    ∙ ap (λ b. option_to_list (option_map (λ c. Doomed (run_no r) c) (if b then (if must then Some (MustDown k) else None) else Some (Lost d))))
    (sym (or-true first))
  where
    never : (b : Bool) → (b && not true) ≡ false
    never true = refl
    never false = refl

    by_must : (b : Bool) → (if b then Doomed (run_no r) (MustDown k) ∷ [] else []) ≡ option_to_list (option_map (λ c. Doomed (run_no r) c) (if b then Some (MustDown k) else None))
    by_must true = refl
    by_must false = refl
dooms_are w n r k d false true false must first told = ap (λ b. option_to_list (option_map (λ c. Doomed (run_no r) c) (if b || false then (if must then Some (MustDown k) else None) else Some (Lost d)))) (sym (told refl))
dooms_are w n r k d false false false must first told = by_must must ∙ ap (λ b. option_to_list (option_map (λ c. Doomed (run_no r) c) (if b || false then (if must then Some (MustDown k) else None) else Some (Lost d)))) (sym (told refl))
  where
    by_must : (b : Bool) → (if b then Doomed (run_no r) (MustDown k) ∷ [] else []) ≡ option_to_list (option_map (λ c. Doomed (run_no r) c) (if b then Some (MustDown k) else None))
    by_must true = refl
    by_must false = refl

-- its entries
death_gives : {D : Type 0} {shows : D → Shown} (h : Inside D) (k : ℕ) (grip : Gripped D Done) → IsReturned shows h (Commands k) grip → has_died grip.stage.told ≡ true → IsWhole shows h
    → returned_entries (open_of h) grip (Commands k) ≡ death_entries grip.slip k (death_of h grip.slip k)
death_gives h k grip returned died whole =
    ap (λ x. returned_by x) (died_told grip.stage.told died)
    ∙ (λ i. Fell (device_is i) ∷ Did (run_no r) k Down ∷ dooms i)
  where
    w : Setting
    w = h.history.setting

    n : Reading
    n = read_in h.history

    r : ℕ
    r = grip.slip.maker

    c : Command
    c = command_at w.runs r k

    returned_by : Told → List Entry
    returned_by told = returned_entries (open_of h) (record grip { stage = record { told = told } }) (Commands k)

    for : IsForCommand (open_of h) grip.slip grip.task k
    for = for_command _ (open_of h) grip.slip grip.task k whole.shown returned.there returned.purpose

    device_is : c.device ≡ grip.slip.device
    device_is = λ i. record { 0 = for.on i }

    dooms : (if is_doomed n r then [] else (if did n r c.device.0 && not (is_weak w.mode) then Doomed (run_no r) (Lost c.device) ∷ [] else (if c.must then Doomed (run_no r) (MustDown k) ∷ [] else []))) ≡ option_to_list (option_map (λ x. Doomed (run_no r) x) (death_of h grip.slip k))
    dooms = dooms_are w n r k c.device (is_doomed n r) (did n r c.device.0) (is_weak w.mode) c.must (dead_first h grip.slip) (λ strong. (dead_turn h k grip returned strong whole).0)

-- it tells the failure of the device, and then of the run alone
death_tells : {D : Type 0} {shows : D → Shown} (h : Inside D) (k : ℕ) (grip : Gripped D Done) → IsReturned shows h (Commands k) grip → has_died grip.stage.told ≡ true → IsWhole shows h
    → TellsTurn shows h (Commands k) grip (Fell grip.slip.device) (answer_entries grip.slip.maker k Down (death_of h grip.slip k))
death_tells h k grip returned died whole = record { returned = returned; gives = death_gives h k grip returned died whole; leave = by_cause (death_of h grip.slip k) }
  where
    fell : Reading
    fell = entry h.history.setting (read_in h.history) (Fell grip.slip.device)

    by_cause : (c : Option Cause) → (fold (entry h.history.setting) fell (answer_entries grip.slip.maker k Down c)).line ≡ fell.line
    by_cause None = refl
    by_cause (Some c) = refl

-- they may be appended
death_takes : {D : Type 0} {shows : D → Shown} (h : Inside D) (k : ℕ) (grip : Gripped D Done) → IsReturned shows h (Commands k) grip → has_died grip.stage.told ≡ true → IsWhole shows h
    → MayTake h.history grip.slip.maker (death_entries grip.slip k (death_of h grip.slip k))
death_takes h k grip returned died whole = subst (MayTake h.history grip.slip.maker) (death_gives h k grip returned died whole) (takes_back h (Commands k) grip returned whole)

-- .. the failure first
pub death_follows : {D : Type 0} {shows : D → Shown} (h : Inside D) (k : ℕ) (grip : Gripped D Done) (slip : Slip) → IsReturned shows h (Commands k) grip → slip ≡ grip.slip → has_died grip.stage.told ≡ true → IsWhole shows h
    → IsTrue (may_follow h.history.setting (read_in h.history) (Fell slip.device))
death_follows h k grip slip returned same died whole =
    subst (λ (z : Slip). IsTrue (may_follow h.history.setting (read_in h.history) (Fell z.device))) (sym same) (takes_first h.history grip.slip.maker (Fell grip.slip.device) (answer_entries grip.slip.maker k Down (death_of h grip.slip k)) (death_takes h k grip returned died whole))

-- the device may fail
pub death_may : {D : Type 0} {shows : D → Shown} (h : Inside D) (k : ℕ) (grip : Gripped D Done) (slip : Slip) (events : Events) → IsReturned shows h (Commands k) grip → Falls h (Commands k) grip slip events → IsWhole shows h
    → MayTurn true (Failed slip.device events.fell) h.history.spare slip.device h.order.line h.order.table
death_may h k grip slip events returned falls whole = may_fall h (Commands k) grip (answer_entries grip.slip.maker k Down (death_of h grip.slip k)) slip events (death_tells h k grip returned falls.died whole) falls whole

-- what is known when its failure is noted, so that its run may be answered and doomed
pub record AfterDeath (k : ℕ) (slip : Slip) (cause : Option Cause) (fell : HistoryState) (table : List LineageState) : Type 0 where
  pub run : is_run fell.setting.runs slip.maker ≡ true
  pub there : k < length (commands_of fell.setting.runs slip.maker)
  pub room : 0 < fell.spare
  pub next : k ≡ next_of (read_in fell) slip.maker
  pub on : (command_at fell.setting.runs slip.maker k).device.0 ≡ slip.device.0
  pub device : slip.device.0 < length table
  pub turn : is_weak fell.setting.mode ≡ false → MayNote slip.maker (lineage_at table slip.device.0)
  pub takes : MayTake fell slip.maker (answer_entries slip.maker k Down cause)
  pub doom_room : IsSome cause → 1 < fell.spare

pub after_death : {D : Type 0} {shows : D → Shown} (h : Inside D) (k : ℕ) (grip : Gripped D Done) (slip : Slip) (first : Bool)
    (cause : Option Cause) (fell : HistoryState) (table : List LineageState) → IsReturned shows h (Commands k) grip
    → slip ≡ grip.slip → has_died grip.stage.told ≡ true
    → first ≡ dead_first h slip → cause ≡ died_by h.history.setting (read_in h.history) slip.maker k (first || is_weak h.history.setting.mode)
    → fell ≡ with_entry h.history slip.maker (Fell slip.device) → table ≡ with_lineage h.order.table slip.device.0 (counted_up false)
    → IsWhole shows h → AfterDeath k slip cause fell table
after_death h k grip slip first cause fell table returned same died first_is because told counted whole =
    subst (λ (z : Slip). AfterDeath k z cause fell table) (sym same)
    (subst (λ c. AfterDeath k grip.slip c fell table) (sym cause_is)
    (subst (λ (x : HistoryState). AfterDeath k grip.slip (death_of h grip.slip k) x table) (sym told_is)
    (subst (λ (x : List LineageState). AfterDeath k grip.slip (death_of h grip.slip k) (with_entry h.history r (Fell grip.slip.device)) x) (sym counted_is) (record {
      run = for.run;
      there = for.within;
      room = let some : 2 ≤ h.history.spare = omega (arith, places, long (death_of h grip.slip k)) in omega (arith, some);
      next = next_is;
      on = for.on;
      device = let size = length_set h.order.table grip.slip.device.0 (counted_up false) in let devices : length h.order.table ≡ length h.history.setting.first = whole.order.table_is.devices in omega (arith, below, size, devices);
      turn =
          λ strong. subst (λ (s : LineageState). MayNote r s) (sym (lineage_set h.order.table grip.slip.device.0 (counted_up false)
          (let devices : length h.order.table ≡ length h.history.setting.first = whole.order.table_is.devices in omega (arith, below, devices))))
          (counted_turn (dead_turn h k grip returned strong whole).1);
      takes = takes_rest h.history r (Fell grip.slip.device) (answer_entries r k Down (death_of h grip.slip k)) (death_takes h k grip returned died whole);
      doom_room = λ some. doomed_room (death_of h grip.slip k) some places;
    }))))
  where
    r : ℕ
    r = grip.slip.maker

    for : IsForCommand (open_of h) grip.slip grip.task k
    for = for_command _ (open_of h) grip.slip grip.task k whole.shown returned.there returned.purpose

    below : grip.slip.device.0 < length h.history.setting.first
    below = (returned_for h (Commands k) grip returned whole).below

    told_is : fell ≡ with_entry h.history r (Fell grip.slip.device)
    told_is = told ∙ ap (λ (z : Slip). with_entry h.history z.maker (Fell z.device)) same

    cause_is : cause ≡ death_of h grip.slip k
    cause_is = because ∙ ap (λ b. died_by h.history.setting (read_in h.history) slip.maker k (b || is_weak h.history.setting.mode)) first_is ∙ ap (λ (z : Slip). death_of h z k) same

    counted_is : table ≡ with_lineage h.order.table grip.slip.device.0 (counted_up false)
    counted_is = counted ∙ ap (λ (z : Slip). with_lineage h.order.table z.device.0 (counted_up false)) same

    places : length (death_entries grip.slip k (death_of h grip.slip k)) ≤ h.history.spare
    places = subst (λ es. length es ≤ h.history.spare) (death_gives h k grip returned died whole) (returned_places h (Commands k) grip returned whole)

    long : (c : Option Cause) → 2 ≤ length (death_entries grip.slip k c)
    long None = omega arith
    long (Some c) = omega arith

    doomed_room : (c : Option Cause) → IsSome c → length (death_entries grip.slip k c) ≤ h.history.spare → 1 < h.history.spare - 1
    doomed_room None none fits = absurd (cc none)
    doomed_room (Some c) some fits = let three : 3 ≤ h.history.spare = fits in omega (arith, three)

    next_is : k ≡ next_of (read_in (with_entry h.history r (Fell grip.slip.device))) r
    next_is = for.next ∙ sym (ap (λ x. next_of x r) (read_more h.history.setting h.history.history r (Fell grip.slip.device)))

    counted_turn : {s : LineageState} → MayNote r s → MayNote r (counted_up false s)
    counted_turn {s = s} may = record { status = may.status; first = λ e. let waiting : IsWaiting r s = may.first e in record { scheduled = waiting.scheduled; none_acquired = waiting.none_acquired } }

-- what the code wrote of it
pub record IsDead {D : Type 0} (h : Inside D) (grip : Gripped D Done) (k : ℕ) (slip : Slip) (events : Events) (first : Bool) (cause : Option Cause) (fell mid after : HistoryState) : Type 0 where
  pub falls : Falls h (Commands k) grip slip events
  pub first_is : first ≡ dead_first h slip
  pub because : cause ≡ died_by h.history.setting (read_in h.history) slip.maker k (first || is_weak h.history.setting.mode)
  pub told : fell ≡ with_entry h.history slip.maker (Fell slip.device)
  pub answered : mid ≡ with_entry fell slip.maker (Did (run_no slip.maker) k Down)
  pub doomed : after ≡ with_doom mid slip.maker cause

pub died_back : {D : Type 0} {shows : D → Shown} (h t : Inside D) (k : ℕ) (grip : Gripped D Done) (slip : Slip) (events : Events)
    (first : Bool) (cause : Option Cause) (fell mid : HistoryState) → IsReturned shows h (Commands k) grip → IsHome h t grip
    → IsDead h grip k slip events first cause fell mid t.history → IsWhole shows h
    → CameHome shows h t (Commands k) grip (death_entries slip k cause)
died_back h t k grip slip events first cause fell mid returned parts dead whole =
    record {
      returned = returned;
      parts = parts;
      gives = death_gives h k grip returned dead.falls.died whole
          ∙ ap (λ (z : Slip). death_entries z k (death_of h z k)) (sym dead.falls.same)
          ∙ ap (λ b. death_entries slip k (died_by h.history.setting (read_in h.history) slip.maker k (b || is_weak h.history.setting.mode))) (sym dead.first_is)
          ∙ ap (death_entries slip k) (sym dead.because);
      history_is = dead.doomed ∙ ap (λ (y : HistoryState). with_doom y slip.maker cause) (dead.answered ∙ ap (λ (y : HistoryState). with_entry y slip.maker (Did (run_no slip.maker) k Down)) dead.told)
          ∙ answered_more (with_entry h.history slip.maker (Fell slip.device)) slip.maker k Down cause
          ∙ more_after h.history slip.maker (Fell slip.device) (answer_entries slip.maker k Down cause)
          ∙ ap (λ (y : Slip). with_more h.history y.maker (death_entries slip k cause)) dead.falls.same;
    }

-- the entries that the code made are these
pub death_made : (slip : Slip) (k : ℕ) (cause : Option Cause) (e f : Entry) (o : Option Entry) → e ≡ Fell slip.device → f ≡ Did (run_no slip.maker) k Down → o ≡ option_map (λ c. Doomed (run_no slip.maker) c) cause → entries_made (record { a = Some e; b = Some f; c = o }) ≡ death_entries slip k cause
death_made slip k cause e f o fell_is answer_is made = (λ i. entries_made (record { a = Some (fell_is i); b = Some (answer_is i); c = made i })) ∙ by_cause cause
  where
    by_cause : (c : Option Cause) → entries_made (record { a = Some (Fell slip.device); b = Some (Did (run_no slip.maker) k Down); c = option_map (λ z. Doomed (run_no slip.maker) z) c }) ≡ death_entries slip k c
    by_cause None = refl
    by_cause (Some c) = refl

-- Line and table

-- a command was answered Down whose device died, and its run is then doomed where there is a cause
order_dies : {rounds : ℕ} (h h₁ h₂ h₃ : HistoryState) (g f : Grips) (d : DeviceNo) (r k : ℕ) (cause : Option Cause) (mid after : Marked) (noted later : List LineageState)
    → GripsFit (point h.setting (read_in h) g) → is_run h.setting.runs r ≡ true → g d.0 ≡ Some (record { maker = r; purpose = Commands k })
    → h₁ ≡ with_entry h r (Fell d) → h₂ ≡ with_entry h₁ r (Did (run_no r) k Down) → h₃ ≡ with_doom h₂ r cause → IsWellFormed h₃.setting (entries_of h₃.history) → f ≡ put g d.0 None
    → after ≡ mid → (cause ≡ None → later ≡ noted) → (IsSome cause → ChangesEach (λ e. doomed_lineage r) noted later)
    → OrderIsBeside rounds h₂ f mid noted → OrderIsBeside rounds h₃ f after later
order_dies {rounds = rounds} h h₁ h₂ h₃ g f d r k cause mid after noted later fits run at one two three formed_after home kept unchanged changed beside =
    order_doomed_if h₂ h₃ f r cause mid after noted later fit none three formed_after kept unchanged changed beside
  where
    w : Setting
    w = h.setting

    n : Reading
    n = read_in h

    m : Reading
    m = entry w (entry w n (Fell d)) (Did (run_no r) k Down)

    reads : (h₂.setting ≡ w) × (read_in h₂ ≡ m)
    reads = (
      ap (λ (x : HistoryState). x.setting) two ∙ ap (λ (x : HistoryState). x.setting) one,
      ap read_in two ∙ ap (λ (x : HistoryState). read_in (with_entry x r (Did (run_no r) k Down))) one ∙ read_more w (with_entry h r (Fell d)).history r (Did (run_no r) k Down) ∙ ap (λ x. entry w x (Did (run_no r) k Down)) (read_more w h.history r (Fell d)),
    )

    fit : GripsFit (point h₂.setting (read_in h₂) f)
    fit = subst (λ x. GripsFit (point x (read_in h₂) f)) (sym reads.0) (subst (λ x. GripsFit (point w x f)) (sym reads.1) (subst (λ x. GripsFit (point w m x)) (sym home)
        (home_fits w n m g d.0 r (Commands k) (λ q ne. put_other n.run r _ q ne) run at fits)))

    none : (e : ℕ) → grips_command f r e ≡ false
    none e = ap (λ x. grips_command x r e) home ∙ none_out (point w n g) d.0 r (Commands k) run at fits e

-- what line and table note of it
pub record DeathNoted {D : Type 0} (h t : Inside D) (slip : Slip) (events : Events) (first : Bool) (died : Option RunNo) (cause : Option Cause) (mid : HistoryState) (view : View) (wrote : Option ℕ) (last : Bool) (fallen noted : OrderState) : Type 0 where
  pub died_is : died ≡ (if first then Some (run_no slip.maker) else None)
  pub fell : HasFallen h.history slip.device died events.fell h.order.line fallen.line h.order.table fallen.table
  pub view_is : view ≡ ViewedDown
  pub wrote_is : wrote ≡ None
  pub last_is : last ≡ (is_doomed (read_in mid) slip.maker || not (pends mid.setting (read_in mid) slip.maker slip.device.0))
  pub line : noted.line ≡ fallen.line
  pub table : is_weak h.history.setting.mode ≡ false → noted.table ≡ with_lineage fallen.table slip.device.0 (noted_first slip.maker (is_first slip.maker (lineage_at fallen.table slip.device.0)) view wrote last)
  pub same_table : is_weak h.history.setting.mode ≡ true → noted.table ≡ fallen.table
  pub line_after : t.order.line ≡ noted.line
  pub unchanged : cause ≡ None → t.order.table ≡ noted.table
  pub changed : IsSome cause → ChangesEach (λ d. doomed_lineage slip.maker) noted.table t.order.table

-- .. as its own slip says
order_dead : {D : Type 0} {shows : D → Shown} (h t : Inside D) (k : ℕ) (grip : Gripped D Done) (events : Events) (first : Bool) (died : Option RunNo) (cause : Option Cause) (fell mid : HistoryState) (view : View) (wrote : Option ℕ) (last : Bool) (fallen noted : OrderState)
    → IsReturned shows h (Commands k) grip → IsHome h t grip → IsDead h grip k grip.slip events first cause fell mid t.history → DeathNoted h t grip.slip events first died cause mid view wrote last fallen noted
    → IsWellFormed t.history.setting (entries_of t.history.history)
    → (configuration_of (open_of t)).grips ≡ put (configuration_of (open_of h)).grips grip.slip.device.0 None → IsWhole shows h
    → OrderIsBeside h.rounds t.history (configuration_of (open_of t)).grips t.order.line t.order.table
order_dead {D = D} h t k grip events first died cause fell mid view wrote last fallen noted returned home dead notes formed gripped whole =
    order_dies h.history fell mid t.history g f grip.slip.device r k cause noted.line t.order.line noted.table t.order.table
    whole.shown.configuration.grips for.run for.grip dead.told dead.answered dead.doomed formed gripped notes.line_after notes.unchanged notes.changed
    (either_model (OrderIsBeside h.rounds mid f noted.line noted.table) w
    (λ weak. order_died_weakly h.history fell mid g f grip.slip.device r k events.fell first h.order.line fallen.line noted.line h.order.table fallen.table noted.table weak whole.shown.configuration.grips for.grip below
    dead.told dead.answered gripped numbered dead.first_is falls notes.line (notes.same_table weak) whole.order)
    (λ strong. order_died h.history fell mid g f (held_in (open_of h)) grip.slip.device r k events.fell first last h.order.line fallen.line noted.line h.order.table fallen.table noted.table
    (read_whole h whole) strong (whole.shown.configuration.ordered strong).order whole.shown.configuration.history.well_formed (whole.shown.configuration.grips.homed d (ap is_some for.grip)) for.grip below
    dead.told dead.answered gripped numbered dead.first_is falls
    (notes.last_is ∙ (λ i. is_doomed (reads.1 i) r || not (pends (reads.0 i) (reads.1 i) r d)) ∙ done_after w (entry w n (Fell grip.slip.device)) r k Down d for.next for.on)
    notes.line (notes.table strong ∙ ap₂ (λ v x. with_lineage fallen.table d (noted_first r (is_first r (lineage_at fallen.table d)) v x last)) notes.view_is notes.wrote_is) whole.order))
  where
    w : Setting
    w = h.history.setting

    n : Reading
    n = read_in h.history

    d : ℕ
    d = grip.slip.device.0

    r : ℕ
    r = grip.slip.maker

    for : IsForCommand (open_of h) grip.slip grip.task k
    for = for_command _ (open_of h) grip.slip grip.task k whole.shown returned.there returned.purpose

    below : d < length w.first
    below = (returned_for h (Commands k) grip returned whole).below

    g : Grips
    g = (configuration_of (open_of h)).grips

    f : Grips
    f = (configuration_of (open_of t)).grips

    numbered : events.fell ≡ n.fell d + 1
    numbered = fallen_number h (Commands k) grip grip.slip events returned dead.falls whole

    falls : HasFallen h.history grip.slip.device (if first then Some (run_no r) else None) events.fell h.order.line fallen.line h.order.table fallen.table
    falls = subst (λ o. HasFallen h.history grip.slip.device o events.fell h.order.line fallen.line h.order.table fallen.table) notes.died_is notes.fell

    reads : (mid.setting ≡ w) × (read_in mid ≡ entry w (entry w n (Fell grip.slip.device)) (Did (run_no r) k Down))
    reads = (
      ap (λ (x : HistoryState). x.setting) dead.answered ∙ ap (λ (x : HistoryState). x.setting) dead.told,
      ap read_in dead.answered ∙ ap (λ (x : HistoryState). read_in (with_entry x r (Did (run_no r) k Down))) dead.told
          ∙ read_more w (with_entry h.history r (Fell grip.slip.device)).history r (Did (run_no r) k Down)
          ∙ ap (λ x. entry w x (Did (run_no r) k Down)) (read_more w h.history.history r (Fell grip.slip.device)),
    )

-- a command died: what is kept is kept
pub died_whole : {D : Type 0} {shows : D → Shown} (h t : Inside D) (k : ℕ) (grip : Gripped D Done) (slip : Slip) (events : Events)
    (first : Bool) (died : Option RunNo) (cause : Option Cause) (fell mid : HistoryState) (view : View) (wrote : Option ℕ) (last : Bool)
    (fallen noted : OrderState)
    → IsReturned shows h (Commands k) grip → IsHome h t grip → IsDead h grip k slip events first cause fell mid t.history
    → DeathNoted h t slip events first died cause mid view wrote last fallen noted → IsWhole shows h → IsWhole shows t
died_whole h t k grip slip events first died cause fell mid view wrote last fallen noted returned home dead notes whole =
    came_whole h t (Commands k) grip (death_entries slip k cause) (died_back h t k grip slip events first cause fell mid returned home dead whole)
    (λ formed gripped. order_dead h t k grip events first died cause fell mid view wrote last fallen noted returned home
    (subst (λ (z : Slip). IsDead h grip k z events first cause fell mid t.history) dead.falls.same dead) (subst (λ (z : Slip). DeathNoted h t z events first died cause mid view wrote last fallen noted) dead.falls.same notes) formed gripped whole) whole

-- An undo

abbrev pub dropped_entries : Slip → List Entry
dropped_entries slip = Fell slip.device ∷ Undid (run_no slip.maker) slip.device false ∷ []

drop_gives : {D : Type 0} (h : Inside D) (v : ℕ) (grip : Gripped D Done) → has_died grip.stage.told ≡ true → returned_entries (open_of h) grip (Undoes v) ≡ dropped_entries grip.slip
drop_gives {D = D} h v grip died = ap (λ x. returned_by x) (died_told grip.stage.told died)
  where
    returned_by : Told → List Entry
    returned_by told = returned_entries (open_of h) (record grip { stage = record { told = told } }) (Undoes v)

-- the device may fail
pub drop_may : {D : Type 0} {shows : D → Shown} (h : Inside D) (v : ℕ) (grip : Gripped D Done) (slip : Slip) (events : Events) → IsReturned shows h (Undoes v) grip → Falls h (Undoes v) grip slip events → IsWhole shows h
    → MayTurn true (Failed slip.device events.fell) h.history.spare slip.device h.order.line h.order.table
drop_may h v grip slip events returned falls whole =
    may_fall h (Undoes v) grip (Undid (run_no grip.slip.maker) grip.slip.device false ∷ []) slip events (record { returned = returned; gives = drop_gives h v grip falls.died; leave = refl }) falls whole

-- its entries may be appended, ..
drop_takes : {D : Type 0} {shows : D → Shown} (h : Inside D) (v : ℕ) (grip : Gripped D Done) (slip : Slip) → IsReturned shows h (Undoes v) grip → slip ≡ grip.slip → has_died grip.stage.told ≡ true → IsWhole shows h
    → MayTake h.history slip.maker (dropped_entries slip)
drop_takes h v grip slip returned same died whole = subst (λ (z : Slip). MayTake h.history z.maker (dropped_entries z)) (sym same) (subst (MayTake h.history grip.slip.maker) (drop_gives h v grip died) (takes_back h (Undoes v) grip returned whole))

-- .. the failure first
pub drop_follows : {D : Type 0} {shows : D → Shown} (h : Inside D) (v : ℕ) (grip : Gripped D Done) (slip : Slip) → IsReturned shows h (Undoes v) grip → slip ≡ grip.slip → has_died grip.stage.told ≡ true → IsWhole shows h
    → IsTrue (may_follow h.history.setting (read_in h.history) (Fell slip.device))
drop_follows h v grip slip returned same died whole = takes_first h.history slip.maker (Fell slip.device) (Undid (run_no slip.maker) slip.device false ∷ []) (drop_takes h v grip slip returned same died whole)

-- .. and then the undo
pub undo_follows : {D : Type 0} {shows : D → Shown} (h : Inside D) (v : ℕ) (grip : Gripped D Done) (slip : Slip) (fell : HistoryState)
    → IsReturned shows h (Undoes v) grip → slip ≡ grip.slip → has_died grip.stage.told ≡ true
    → fell ≡ with_entry h.history slip.maker (Fell slip.device) → IsWhole shows h
    → IsTrue (may_follow fell.setting (read_in fell) (Undid (run_no slip.maker) slip.device false))
undo_follows h v grip slip fell returned same died told whole =
    subst (λ (x : HistoryState). IsTrue (may_follow x.setting (read_in x) (Undid (run_no slip.maker) slip.device false))) (sym told)
    (takes_first (with_entry h.history slip.maker (Fell slip.device)) slip.maker (Undid (run_no slip.maker) slip.device false) [] (takes_rest h.history
    slip.maker (Fell slip.device) (Undid (run_no slip.maker) slip.device false ∷ []) (drop_takes h v grip slip returned same died whole)))

-- behind the failure there is a place for the undo
pub drop_place : {D : Type 0} {shows : D → Shown} (h : Inside D) (v : ℕ) (grip : Gripped D Done) (slip : Slip) (fell : HistoryState)
    → IsReturned shows h (Undoes v) grip → has_died grip.stage.told ≡ true → fell ≡ with_entry h.history slip.maker (Fell slip.device)
    → IsWhole shows h → 0 < fell.spare
drop_place h v grip slip fell returned died told whole =
    let places : length (dropped_entries grip.slip) ≤ h.history.spare = subst (λ es. length es ≤ h.history.spare) (drop_gives h v grip died) (returned_places h (Undoes v) grip returned whole) in
    let two : 2 ≤ h.history.spare = places in
    let left : fell.spare ≡ h.history.spare - 1 = ap (λ (y : HistoryState). y.spare) told in
    omega (arith, two, left)

-- what the code wrote of it
pub record IsDropped {D : Type 0} (h t : Inside D) (v : ℕ) (grip : Gripped D Done) (slip : Slip) (events : Events) (fell : HistoryState) : Type 0 where
  pub falls : Falls h (Undoes v) grip slip events
  pub told : fell ≡ with_entry h.history slip.maker (Fell slip.device)
  pub undone : t.history ≡ with_entry fell slip.maker (Undid (run_no slip.maker) slip.device false)
  pub order : HasFallen h.history slip.device None events.fell h.order.line t.order.line h.order.table t.order.table

pub dropped_back : {D : Type 0} {shows : D → Shown} (h t : Inside D) (v : ℕ) (grip : Gripped D Done) (slip : Slip) (events : Events) (fell : HistoryState) → IsReturned shows h (Undoes v) grip → IsHome h t grip → IsDropped h t v grip slip events fell
    → CameHome shows h t (Undoes v) grip (dropped_entries slip)
dropped_back h t v grip slip events fell returned parts drops =
    record {
      returned = returned;
      parts = parts;
      gives = drop_gives h v grip drops.falls.died ∙ ap dropped_entries (sym drops.falls.same);
      history_is = drops.undone ∙ ap (λ (y : HistoryState). with_entry y slip.maker (Undid (run_no slip.maker) slip.device false)) drops.told
          ∙ more_after h.history slip.maker (Fell slip.device) (Undid (run_no slip.maker) slip.device false ∷ [])
          ∙ ap (λ (y : Slip). with_more h.history y.maker (dropped_entries slip)) drops.falls.same;
    }

pub dropped_whole : {D : Type 0} {shows : D → Shown} (h t : Inside D) (v : ℕ) (grip : Gripped D Done) (slip : Slip) (events : Events)
    (fell : HistoryState) → IsReturned shows h (Undoes v) grip → IsHome h t grip → IsDropped h t v grip slip events fell
    → IsWhole shows h → IsWhole shows t
dropped_whole h t v grip slip events fell returned parts drops whole =
    came_whole h t (Undoes v) grip (dropped_entries slip) (dropped_back h t v grip slip events fell returned parts drops)
    (λ formed gripped. order_dropped_dead (subst (λ (z : Slip). IsDropped h t v grip z events fell) drops.falls.same drops) gripped) whole
  where
    order_dropped_dead : IsDropped h t v grip grip.slip events fell → (configuration_of (open_of t)).grips ≡ put (configuration_of (open_of h)).grips grip.slip.device.0 None → OrderIsBeside h.rounds t.history (configuration_of (open_of t)).grips t.order.line t.order.table
    order_dropped_dead own gripped =
        let for = returned_for h (Undoes v) grip returned whole in
        let strong : is_weak h.history.setting.mode ≡ false = undo_ordered (configuration_of (open_of h)) h.rounds h.opened (held_in (open_of h)) grip.slip.device.0 grip.slip.maker v for.grip whole.shown.configuration in
        order_undo_died h.history fell t.history (configuration_of (open_of h)).grips (configuration_of (open_of t)).grips (held_in (open_of h)) grip.slip.device grip.slip.maker v events.fell h.order.line t.order.line h.order.table t.order.table
        (read_whole h whole) strong (whole.shown.configuration.ordered strong).order whole.shown.configuration.history.well_formed (whole.shown.configuration.grips.homed grip.slip.device.0 (ap is_some for.grip)) for.grip for.below
        own.told own.undone gripped (fallen_number h (Undoes v) grip grip.slip events returned own.falls whole) own.order whole.order
