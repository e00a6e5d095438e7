-- A run joins the window in which a live home is.
use Rattle.home_states.proofs.Prelude.{All, Configuration, Err, FitsScript, HandedDevice, HasJoinedBoth, HasRun, HomeState, IfErr, IfOk, IfSome, InWindow, IsCounted, IsLive, IsOpened, IsWindowOf, List, LiveState, Mode, None, Ok, OpenHub, Option, Result, Run, RunNo, Script, Setting, Shown, Some, TicketsAreLow, WindowTickets, [], and_from, ap, arith, false, get_or_from_slice_get, kinds_of, length, length-map, lt-ltb, map, names_values_of, nat_lt, new_run, option_map, plain_device, plain_routine, plain_script, refl, routine_commands, run_of_text, script_runs, slice_get, slice_get-map, slice_get_within, subst, sym, tickets_in, true, unwrap_or, ℕ, ◌++◌, ◌+◌, ◌<◌, ◌∙◌, ◌∷◌, ◌≡◌, ◌≤◌}
use Rattle.home_states.specs.declared.refusals.NotBegun.{NotBegun}
use Rattle.home_types.specs.Kinds.{kind_at}
use Rattle.home_types.specs.declared.commands.Command.{Command}
use Rattle.home_types.specs.declared.commands.Job.TheVariants.{Check, Load, Set, Store}
use Rattle.home_types.specs.declared.commands.Job.{Job}
use Rattle.home_types.specs.declared.kinds.Kind.{Kind}
use Rattle.hub_core.specs.Joins.{MayJoin, joined}
use Rattle.live_scripts.proofs.Cited.{MayTake, kinds_grown, number_grown, runs_grown, windows_grown}
use Rattle.routine_reader.specs.Sound.{IsSound, IsSoundCommand, IsSoundRoutine, device_kinds, suits_device}
use Rattle.routine_reader.specs.declared.scripts.DeviceText.{DeviceText}
use Rattle.routine_reader.specs.declared.scripts.RoutineText.{RoutineText}
use Rattle.std.proofs.lemmas.List.Elements.{All-get_or}
use Rattle.std.specs.Result.{is_err}

-- The window that is open is the script's

pub own_window : (s : LiveState) (k : ℕ) (hub : OpenHub HandedDevice) → IsLive s → s.phase ≡ InWindow k hub → IsWindowOf s.script s.mode k hub.setting
own_window s k hub live is = subst (λ p. FitsScript s.script s.mode p) is live.fits

-- .. in its own mode
pub own_in_mode : (s : LiveState) (k : ℕ) (hub : OpenHub HandedDevice) → IsLive s → s.phase ≡ InWindow k hub → IsWindowOf s.script hub.setting.mode k hub.setting
own_in_mode s k hub live is = let own = own_window s k hub live is in record { runs = own.runs; mode_is = refl; kinds = own.kinds; size = own.size }

-- .. as it opens
pub own_opened : (script : Script) (k : ℕ) (w : Setting) (rounds : ℕ) (home : HomeState HandedDevice) (hub : OpenHub HandedDevice) {shows : HandedDevice → Shown} → IsOpened shows w rounds home hub
    → w.runs ≡ script_runs script k → w.kinds ≡ kinds_of script → length w.kinds ≡ length w.first → IsWindowOf script w.mode k hub.setting
own_opened script k w rounds home hub opened runs kinds size =
    subst (λ (x : Setting). IsWindowOf script w.mode k x) (sym (ap (λ (c : Configuration). c.setting) opened.configuration))
    (record { runs = runs; mode_is = refl; kinds = kinds; size = sym size })

-- A run that may join

-- what holds of all items, as they are seen, holds of the one at a place
at_place : {X : Type 0} (P : X → Type 0) (xs : List X) (k : ℕ) (x : X) → All P xs → slice_get xs k ≡ Some x → P x
at_place P xs k x all at = subst P (get_or_from_slice_get xs k x x at) (All-get_or P xs k x (slice_get_within xs k x at) all)

seen_at : {X Y : Type 0} (view : X → Y) (P : Y → Type 0) (xs : List X) (k : ℕ) (x : X) → All P (map view xs) → slice_get xs k ≡ Some x → P (view x)
seen_at view P xs k x all at = at_place P (map view xs) k (view x) all (slice_get-map view xs k ∙ ap (option_map view) at)

-- few commands, each of them sound
record AreSound (script : Script) (commands : List Command) : Type 0 where
  few : length commands ≤ 64
  each : (k : ℕ) (c : Command) → slice_get commands k ≡ Some c → IsSoundCommand (map plain_device script.devices.items) c

routine_is_sound : (script : Script) (i : ℕ) → IsSound (plain_script script) → AreSound script (routine_commands script i)
routine_is_sound script i sound = by_text (slice_get script.routines.items i) refl
  where
    by_text : (o : Option RoutineText) → slice_get script.routines.items i ≡ o → AreSound script (unwrap_or (option_map (λ t. t.routine.commands.items) o) [])
    by_text None at = record { few = omega arith; each = λ k c at. absurd (cc) }
    by_text (Some text) at =
        let routine = seen_at plain_routine (IsSoundRoutine (map plain_device script.devices.items)) script.routines.items i text sound.routines at in
        record { few = routine.few_commands; each = λ k c there. at_place (IsSoundCommand (map plain_device script.devices.items)) text.routine.commands.items k c routine.commands there }

same_kinds : (devices : List DeviceText) → device_kinds (map plain_device devices) ≡ map (λ d. d.kind) devices
same_kinds [] = refl
same_kinds (d ∷ devices) = ap (λ ks. d.kind ∷ ks) (same_kinds devices)

names_as : (kind : Kind) (job : Job) → suits_device kind job ≡ true → names_values_of kind job ≡ true
names_as kind (Set v) is = is
names_as kind (Check v) is = is
names_as kind Load is = is
names_as kind Store is = is

-- the run that the script may take may join the window
pub may_join : (script : Script) (mode : Mode) (k : ℕ) (w : Setting) (routine : ℕ) (follows : Option RunNo) (q : Run) → IsSound (plain_script script) → IsWindowOf script mode k w
    → MayTake script k routine follows → q ≡ run_of_text script (new_run routine follows) → MayJoin w q
may_join script mode k w routine follows q sound own may is =
    subst (λ (x : Run). MayJoin w x) (sym is)
    (record {
      number = omega (arith, may.few, sizes);
      few_commands = commands.few;
      homed = λ j c at. let command = commands.each j c at in
          and_from (nat_lt c.device.0 (length w.first)) _ (within c.device.0 command.device)
          (names_as (kind_at w.kinds c.device.0) c.job (ap (λ ks. suits_device (kind_at ks c.device.0) c.job) (own.kinds ∙ sym (same_kinds script.devices.items)) ∙ command.value));
      follows = λ f at. let earlier = subst (λ o. IfSome o (λ (x : RunNo). (1 ≤ x.0) × (x.0 ≤ length (script_runs script k)))) at may.earlier in (omega (arith, earlier.0), omega (arith, earlier.1, sizes));
    })
  where
    commands : AreSound script (routine_commands script routine)
    commands = routine_is_sound script routine sound

    sizes : length w.runs ≡ length (script_runs script k)
    sizes = ap (λ l. length l) own.runs

    within : (d : ℕ) → d < length (map plain_device script.devices.items) → nat_lt d (length w.first) ≡ true
    within d inside =
        let a = length-map script.devices.items plain_device in
        let b = ap (λ ks. length ks) own.kinds in
        let e = length-map script.devices.items (λ d. d.kind) in
        lt-ltb d (length w.first) (omega (arith, inside, a, b, e, own.size))

-- .. and has joined both, with the same number
pub both_joined : (script grown : Script) (mode : Mode) (k : ℕ) (hub next : OpenHub HandedDevice) (routine : ℕ) (follows : Option RunNo) (r : ℕ) (q : Run) → IsWindowOf script mode k hub.setting
    → length script.windows.items ≡ k + 1 → HasRun script routine follows r grown → q ≡ run_of_text script (new_run routine follows) → next ≡ joined hub q
    → HasJoinedBoth script k hub routine follows r grown next
both_joined script grown mode k hub next routine follows r q own last added is joins = record {
  last = last;
  added = added;
  number = number_grown script grown routine follows r k added last ∙ ap (λ l. length l + 1) (sym own.runs);
  is = joins ∙ ap (λ (x : Run). joined hub x) is;
}

-- where it is none of refusals, what is so of the answer is so
pub if_not_err : {X E : Type 0} (P : Type 0) (result : Result X E) → false ≡ is_err result → IfOk result (λ x. P) → P
if_not_err P (Ok x) other so = so
if_not_err P (Err e) other so = absurd (cc)

-- What is kept after it

own_joined : (script grown : Script) (mode : Mode) (k : ℕ) (hub next : OpenHub HandedDevice) (routine : ℕ) (follows : Option RunNo) (r : ℕ) → IsWindowOf script mode k hub.setting
    → HasJoinedBoth script k hub routine follows r grown next → IsWindowOf grown mode k next.setting
own_joined script grown mode k hub next routine follows r own both =
    subst (λ (x : OpenHub HandedDevice). IsWindowOf grown mode k x.setting) (sym both.is)
    (record {
      runs = ap (λ l. l ++ run_of_text script (new_run routine follows) ∷ []) own.runs ∙ sym (runs_grown script grown routine follows r k both.added both.last);
      mode_is = own.mode_is;
      kinds = own.kinds ∙ sym (kinds_grown script grown routine follows r both.added);
      size = own.size;
    })

tickets_joined : (before : ℕ) (hub : OpenHub HandedDevice) (q : Run) → WindowTickets before hub → WindowTickets before (joined hub q)
tickets_joined before hub q was = record {
  before_low = was.before_low;
  few_windows = was.few_windows;
  size = was.size;
  few_calls = was.few_calls;
  given = was.given;
}

joined_counted_on : (s : LiveState) (tickets k : ℕ) (hub next : OpenHub HandedDevice) (routine : ℕ) (follows : Option RunNo) (r : ℕ) (grown : Script) → IsCounted s tickets → s.phase ≡ InWindow k hub
    → HasJoinedBoth s.script k hub routine follows r grown next → IsSound (plain_script grown) → IsCounted (record s { script = grown; phase = InWindow k next }) tickets
joined_counted_on s tickets k hub next routine follows r grown counted is both sound =
    let q : Run = run_of_text s.script (new_run routine follows) in
    record {
      live = record {
        sound = sound;
        goes = counted.live.goes;
        fits = own_joined s.script grown s.mode k hub next routine follows r (own_window s k hub counted.live is) both;
        told = let there : k < length s.script.windows.items = omega (arith, both.last) in let same = windows_grown s.script grown routine follows r both.added in omega (arith, there, same);
        tickets = subst (λ (x : OpenHub HandedDevice). WindowTickets s.tickets_before x) (sym both.is)
            (tickets_joined s.tickets_before hub q (subst (λ p. TicketsAreLow s.tickets_before p) is counted.live.tickets));
      };
      count = counted.count ∙ ap (λ p. s.tickets_before + tickets_in p) is ∙ sym (ap (λ (x : OpenHub HandedDevice). s.tickets_before + x.tickets) both.is);
    }

-- a run has joined, or nothing has changed
pub joined_or_same : (s : LiveState) (tickets k : ℕ) (hub next : OpenHub HandedDevice) (routine : ℕ) (follows : Option RunNo) (grown : Script) (result : Result RunNo NotBegun) → IsCounted s tickets → s.phase ≡ InWindow k hub
    → IfOk result (λ r. HasJoinedBoth s.script k hub routine follows r.0 grown next) → IfOk result (λ r. IsSound (plain_script grown)) → IfErr result (λ why. grown ≡ s.script) → IfErr result (λ why. next ≡ hub)
    → IsCounted (record s { script = grown; phase = InWindow k next }) tickets
joined_or_same s tickets k hub next routine follows grown (Ok run) counted is both sound script window = joined_counted_on s tickets k hub next routine follows run.0 grown counted is both sound
joined_or_same s tickets k hub next routine follows grown (Err why) counted is both sound script window =
    subst (λ (x : Script × OpenHub HandedDevice). IsCounted (record s { script = x.0; phase = InWindow k x.1 }) tickets) (λ i. (sym script i, sym window i))
    (subst (λ p. IsCounted (record s { phase = p }) tickets) is counted)
