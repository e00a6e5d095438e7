-- A day of two windows that is legal, put together whole: in the first the light fails when its run is done with it, in the second
-- it comes back and is turned off.
use Rattle.worked_windows.proofs.Prelude.{Always, Item, List, MayBeOut, None, Some, [], arith, codes, drop, kept_by, point, reading, refl, slice_get, subst, suc, take, true, zero, ℕ, ⊤, ◌++◌, ◌∷◌, ◌≡◌}
use Rattle.worked_windows.proofs.LegalWindow as first_window
use Rattle.device_states.specs.Devices.{Shown}
use Rattle.history_book.specs.declared.records.WindowRecord.{WindowRecord}
use Rattle.home_types.specs.HomeStates.{stand_at}
use Rattle.home_types.specs.declared.modes.Mode.{Mode}
use Rattle.legal_days.specs.AccountedCalls.{CallsAreAccounted}
use Rattle.legal_days.specs.Agreement.{AgreesWithSerial}
use Rattle.legal_days.specs.LegalDays.{DevicesAreLeft, IsDeviceOf, IsLegalDay, RecordsAreLegal, setting_of, total}
use Rattle.legal_days.specs.LegalWindows.{IsLegalWindow}
use Rattle.legal_days.specs.Orders.{IsOrderFor}
use Rattle.routine_reader.specs.declared.scripts.DeviceText.{DeviceText}
use Rattle.routine_reader.specs.declared.scripts.Script.{Script}
use Rattle.routine_reader.specs.declared.scripts.WindowText.{WindowText}
use Rattle.std.proofs.lemmas.Grind.{common_steps}
use Rattle.worked_windows.proofs.Words.{Arrived, Back, Committed, Did, Ended, Entry, Eventual, Fcfs, Fine, Placed, Ran, Range, Rose, Set, Setting, States, device_no, no_grips, run_no, split_of}

-- The script

abbrev pub light : DeviceText
light = record { name = codes "light"; kind = States 2; states = record { items = codes "off" ∷ codes "on" ∷ []; spare = 0 }; start = 0; downs = record { items = (2, 3) ∷ []; spare = 0 } }

abbrev pub fan : DeviceText
fan = record { name = codes "fan"; kind = States 2; states = record { items = codes "off" ∷ codes "on" ∷ []; spare = 0 }; start = 0; downs = record { items = []; spare = 0 } }

abbrev pub lamp : DeviceText
lamp = record { name = codes "lamp"; kind = States 2; states = record { items = codes "off" ∷ codes "on" ∷ []; spare = 0 }; start = 0; downs = record { items = []; spare = 0 } }

abbrev pub heat : DeviceText
heat = record { name = codes "heat"; kind = Range 10 30; states = record { items = []; spare = 0 }; start = 18; downs = record { items = []; spare = 0 } }

-- a window in which this routine runs alone
abbrev pub window_with : ℕ → ℕ → WindowText
window_with hour routine = record {
  at = record { year = 2021; month = 4; day = 26; hour = hour; minute = 0; second = 0 };
  seed = 1;
  probes = 1;
  turns = record { items = []; spare = 0 };
  runs = record { items = record { routine = routine; follows = None } ∷ []; spare = 0 };
}

abbrev pub script : Script
script = record {
  devices = record { items = light ∷ fan ∷ lamp ∷ heat ∷ []; spare = 0 };
  routines = record {
    items =
        record {
          name = codes "come in";
          routine = record {
            commands = record {
              items =
                  record { device = device_no 0; job = Set 1; when = Always; must = true; ms = 100; takes = 100 }
                  ∷ record { device = device_no 1; job = Set 1; when = Always; must = true; ms = 100; takes = 100 } ∷ [];
              spare = 0;
            };
          };
        }
        ∷ record { name = codes "light off"; routine = record { commands = record { items = record { device = device_no 0; job = Set 0; when = Always; must = true; ms = 100; takes = 100 } ∷ []; spare = 0 } } }
        ∷ [];
    spare = 0;
  };
  windows = record { items = window_with 7 0 ∷ window_with 8 1 ∷ []; spare = 0 };
}

abbrev pub mode : Mode
mode = record { model = Eventual; scheduler = Fcfs }

-- The second window: the light is down at its start, and comes back before the run's first access

abbrev pub window : Setting
window = setting_of script mode (first_window.closed ∷ []) 1

abbrev pub history : List Entry
history =
    Arrived (run_no 1) 0
    ∷ Placed (run_no 1) 0 0
    ∷ Rose (device_no 0)
    ∷ Did (run_no 1) 0 Fine
    ∷ Ended (run_no 1) Committed ∷ []

abbrev pub order : List Item
order = Back (device_no 0) 1 ∷ Ran (run_no 1) ∷ []

-- the restart is the detector's, all else the run's
abbrev pub closed : WindowRecord
closed = record {
  mode = mode;
  first = record { devices = record { items = window.first; spare = 0 } };
  history = record { items = kept_by 1 (take 2 history) ++ kept_by 0 (take 1 (drop 2 history)) ++ kept_by 1 (drop 3 history); spare = 0 };
  order = record { items = order; spare = 0 };
  last = record { devices = record { items = (record { value = 0; up = true } ∷ record { value = 1; up = true } ∷ record { value = 0; up = true } ∷ record { value = 18; up = true } ∷ []); spare = 0 } };
  turns = record { items = 2 ∷ 0 ∷ 0 ∷ 0 ∷ []; spare = 0 };
  faults = record { items = 0 ∷ 0 ∷ 0 ∷ 0 ∷ []; spare = 0 };
}

-- nothing is out when the run is placed
nothing_out : MayBeOut (point window (reading window (take 1 history)) no_grips)
unfolding split_of
nothing_out = record { commands = λ d r k out. absurd (cc); undos = λ d r v out. absurd (cc); one = λ d e r p q out too. absurd (cc) }

order_is : IsOrderFor window history order
unfolding split_of
order_is = record { runs = λ r. grind (arith, common_steps); events = λ d. grind (arith, common_steps); following = λ r f both. grind (arith, common_steps) }

calls_are : CallsAreAccounted window history (2 ∷ 0 ∷ 0 ∷ 0 ∷ []) (0 ∷ 0 ∷ 0 ∷ 0 ∷ [])
unfolding split_of
calls_are = record { turns_size = refl; faults_size = refl; turns_of = λ d within. grind (arith, common_steps); faults_of = λ d within. grind (arith, common_steps) }

agrees_is : AgreesWithSerial window history order closed.last.devices.items
unfolding split_of
agrees_is = record { applies = refl; answers = refl; home = refl; counted = λ d within. grind (arith, common_steps) }

second_window_is_legal : IsLegalWindow window closed
unfolding split_of
second_window_is_legal = record {
  mode = refl;
  first = refl;
  well_formed = refl;
  ended = refl;
  line = refl;
  places = (tt, ((no_grips, nothing_out, refl, refl), (tt, (tt, (tt, tt)))));
  is_order = order_is;
  agrees = agrees_is;
  clean = refl;
  justified = refl;
  accounted = calls_are;
  isolated = λ strict. absurd (cc);
}

-- The day

abbrev pub records : List WindowRecord
records = first_window.closed ∷ closed ∷ []

-- what each device shows as the day leaves it
abbrev pub light_left : Shown
light_left = record { tag = 0; plan = Some ((2, 3) ∷ []); stands = 0; turns = 3; drives = 3; probes = 0; faults = 1 }

abbrev pub devices : List Shown
devices =
    light_left
    ∷ record { tag = 1; plan = Some []; stands = 1; turns = 1; drives = 1; probes = 0; faults = 0 }
    ∷ record { tag = 2; plan = Some []; stands = 0; turns = 0; drives = 0; probes = 0; faults = 0 }
    ∷ record { tag = 3; plan = None; stands = 18; turns = 0; drives = 0; probes = 0; faults = 0 } ∷ []

-- each item of the list, with its place
abbrev pub Each : {X : Type 0} → (ℕ → X → Type 0) → List X → Type 0
Each P [] = ⊤
Each P (x ∷ xs) = P 0 x × Each (λ k. P (suc k)) xs

each : {X : Type 0} (P : ℕ → X → Type 0) (xs : List X) → Each P xs → (k : ℕ) (x : X) → slice_get xs k ≡ Some x → P k x
each P [] all k x at = absurd (cc)
each P (x ∷ xs) all zero y at = let same : x ≡ y = cc in subst (λ z. P 0 z) same all.0
each P (x ∷ xs) all (suc k) y at = each (λ i. P (suc i)) xs all.1 k y at

-- the second window's first state is the first one's last, and no later record matters to it
records_are_legal : RecordsAreLegal script mode records
unfolding split_of
records_are_legal = each (λ k x. IsLegalWindow (setting_of script mode records k) x) records (first_window.one_window_is_legal, (second_window_is_legal, tt))

-- each two items in the same place, with that place
abbrev pub EachPair : {X Y : Type 0} → (ℕ → X → Y → Type 0) → List X → List Y → Type 0
EachPair P [] ys = ⊤
EachPair P (x ∷ xs) [] = ⊤
EachPair P (x ∷ xs) (y ∷ ys) = P 0 x y × EachPair (λ k. P (suc k)) xs ys

each_pair : {X Y : Type 0} (P : ℕ → X → Y → Type 0) (xs : List X) (ys : List Y) → EachPair P xs ys
    → (k : ℕ) (x : X) (y : Y) → slice_get xs k ≡ Some x → slice_get ys k ≡ Some y → P k x y
each_pair P [] ys all k x y at y_at = absurd (cc)
each_pair P (x ∷ xs) [] all k z y at y_at = absurd (cc)
each_pair P (x ∷ xs) (y ∷ ys) all zero v z at z_at =
    let same : x ≡ v = cc in
    let same_y : y ≡ z = cc in subst (λ i. P 0 i z) same (subst (λ i. P 0 x i) same_y all.0)
each_pair P (x ∷ xs) (y ∷ ys) all (suc k) v z at z_at = each_pair (λ i. P (suc i)) xs ys all.1 k v z at z_at

-- the devices that are left: the script's, with the turns and the faults of both windows
devices_are_left : DevicesAreLeft (λ (x : Shown). x) script records devices
unfolding split_of
devices_are_left = record {
  size = refl;
  own = each_pair (λ d device text. IsDeviceOf (λ (x : Shown). x) text d device) devices script.devices.items (
    record { tag_is = refl; plan_is = λ p told. cc },
    (
      record { tag_is = refl; plan_is = λ p told. cc },
      (record { tag_is = refl; plan_is = λ p told. cc }, (record { tag_is = refl; plan_is = λ p told. absurd (cc) }, tt)),
    ),
  );
  stand = each (λ d device. (stand_at closed.last.devices.items d).up ≡ true → device.stands ≡ (stand_at closed.last.devices.items d).value) devices
      ((λ up. refl), ((λ up. refl), ((λ up. refl), ((λ up. refl), tt))));
  turns_are = each (λ d device. device.turns ≡ total (λ x. x.turns.items) records d) devices (refl, (refl, (refl, (refl, tt))));
  faults_are = each (λ d device. device.faults ≡ total (λ x. x.faults.items) records d) devices (refl, (refl, (refl, (refl, tt))));
}

-- both windows, and the devices after them
day_is_legal : IsLegalDay (λ (x : Shown). x) script mode records devices
unfolding split_of
day_is_legal = record { count = refl; legal = records_are_legal; left = devices_are_left }
