-- The reading of a window, its turns and its runs.
use Rattle.day_clock.specs.Times.{is_before, time_of}
use Rattle.day_clock.specs.declared.times.When.{When}
use Rattle.home_types.specs.declared.numbers.RunNo.{RunNo}
use Rattle.routine_reader.specs.Forms.{has_form, if_there, items_in, long_number_of, needed, number_of, or_default}
use Rattle.routine_reader.specs.Limits.{default_seed}
use Rattle.routine_reader.specs.Names.{place_of}
use Rattle.routine_reader.specs.Scripts.{PlainWindow}
use Rattle.routine_reader.specs.Spots.{at, inside}
use Rattle.routine_reader.specs.Walks.{read_each, within_limit, ◌>>=◌}
use Rattle.routine_reader.specs.declared.faults.Count.TheVariants as count
use Rattle.routine_reader.specs.declared.faults.Part.TheVariants as part
use Rattle.routine_reader.specs.declared.faults.ReadFault.TheVariants.{BadFollow, BadTime, BadTurn, Shape, UnknownName}
use Rattle.routine_reader.specs.declared.faults.ReadFault.{ReadFault}
use Rattle.routine_reader.specs.declared.faults.Spot.{Spot}
use Rattle.routine_reader.specs.declared.forms.Form.TheVariants as form
use Rattle.routine_reader.specs.declared.scripts.RunText.{RunText}
use Rattle.serde_json.specs.Data.{Data}
use Rattle.serde_json.specs.Find.{as_str}
use Rattle.std.specs.Prelude.{Bool, Err, List, None, Ok, Option, Result, Some, [], codes, if◌then◌else◌, length, nat_le, ok_or, option_map, slice_get, true, ℕ, ◌&&◌, ◌+◌, ◌-◌}

-- ---- its members

-- the members of a window, each of its type
pub record WindowMembers : Type 0 where
  pub at : List ℕ
  pub seed : ℕ
  pub probes : ℕ
  pub turns : List Data
  pub runs : List Data

abbrev pub window_with : Option (List ℕ) → Option ℕ → Option ℕ → Option (List Data)
    → Option (List Data) → Option WindowMembers
window_with (Some time) (Some seed) (Some probes) (Some turns) (Some runs) =
    Some (record { at = time; seed = seed; probes = probes; turns = turns; runs = runs })
window_with time seed probes turns runs = None

abbrev pub window_members : Data → Option WindowMembers
window_members value =
    if has_form form.Window value then
    (window_with
    (needed as_str (codes "at") value)
    (or_default long_number_of default_seed (codes "seed") value)
    (or_default number_of 0 (codes "probes") value)
    (or_default items_in [] (codes "turns") value)
    (needed items_in (codes "runs") value))
    else None

-- ---- its time

-- later than that of the window before, if there is one
abbrev pub is_later : Option When → When → Bool
is_later None time = true
is_later (Some before) time = is_before before time

abbrev pub time_reading : Spot → Option When → List ℕ → Result When ReadFault
time_reading spot before text = do
  time ← ok_or (time_of text) (BadTime spot)
  if is_later before time then Ok time else Err (BadTime spot)

-- ---- its turns

-- a turn of a window with so many runs: one of them, or 0 for the detector
abbrev pub turn_reading : ℕ → ℕ → ℕ → Data → Result ℕ ReadFault
turn_reading window runs number value = do
  turn ← ok_or (number_of value) (Shape (at part.Window window))
  if nat_le turn runs then Ok turn else Err (BadTurn (inside part.Turn window number))

abbrev pub next_turn : ℕ → ℕ → List ℕ → Data → Result ℕ ReadFault
next_turn window runs earlier value = turn_reading window runs (length earlier + 1) value

-- ---- its runs

pub record RunMembers : Type 0 where
  pub routine : List ℕ
  pub follows : Option ℕ

abbrev pub run_from_members : Option (List ℕ) → Option (Option ℕ) → Option RunMembers
run_from_members (Some routine) (Some follows) =
    Some (record { routine = routine; follows = follows })
run_from_members routine follows = None

abbrev pub run_members : Data → Option RunMembers
run_members value =
    if has_form form.Run value then
    (run_from_members (needed as_str (codes "routine") value)
    (if_there number_of (codes "follows") value))
    else None

-- the run that the run with this number follows, if any: an earlier one
abbrev pub follows_reading : Spot → ℕ → Option ℕ → Result (Option RunNo) ReadFault
follows_reading spot number None = Ok None
follows_reading spot number (Some followed) =
    if nat_le 1 followed && nat_le (followed + 1) number then Ok (Some (record { 0 = followed }))
    else Err (BadFollow spot)

-- the run at this place, of routines with these names
unfoldable pub run_reading : List (List ℕ) → ℕ → ℕ → Data → Result RunText ReadFault
run_reading routines window number value =
    let spot = inside part.Run window number in do
      members ← ok_or (run_members value) (Shape spot)
      routine ← ok_or (place_of routines members.routine) (UnknownName spot)
      follows ← follows_reading spot number members.follows
      Ok (record { routine = routine; follows = follows })

abbrev pub next_run_read : List (List ℕ) → ℕ → List RunText → Data → Result RunText ReadFault
next_run_read routines window earlier value = run_reading routines window (length earlier + 1) value

-- ---- the window

-- the window with this number, after one at this time, of routines with these names
unfoldable pub window_reading : List (List ℕ) → ℕ → Option When → Data
    → Result PlainWindow ReadFault
window_reading routines number before value =
    let spot = at part.Window number in do
      members ← ok_or (window_members value) (Shape spot)
      time ← time_reading spot before members.at
      probes ← within_limit count.Probes members.probes
      few_turns ← within_limit count.Turns (length members.turns)
      few_runs ← within_limit count.Runs (length members.runs)
      turns ← read_each (next_turn number (length members.runs)) [] members.turns
      runs ← read_each (next_run_read routines number) [] members.runs
      Ok (record { at = time; seed = members.seed; probes = probes; turns = turns; runs = runs })

-- the time of the last of these windows
abbrev pub last_time : List PlainWindow → Option When
last_time windows = option_map (λ window. window.at) (slice_get windows (length windows - 1))

abbrev pub next_window_read : List (List ℕ) → List PlainWindow → Data → Result PlainWindow ReadFault
next_window_read routines earlier value =
    window_reading routines (length earlier + 1) (last_time earlier) value
