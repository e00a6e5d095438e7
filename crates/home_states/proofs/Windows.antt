-- Windows that are opened on a home however many it had.
use Rattle.home_states.proofs.Prelude.{HomeIsKept, HomeState, IsTrue, MayOpen, Mode, Script, Shown, Some, WindowText, arith, is_mode, kinds_of, may_open, plain_script, runs_of, script_runs, setting_for, slice_get, ℕ, ◌<◌, ◌^◌, ◌≡◌}
use Rattle.command_rules.specs.declared.rosters.Roster.{Roster}
use Rattle.routine_reader.specs.Sound.{IsSound}

-- what a device would show that was never called
abbrev uncalled : {D : Type 0} → (D → Shown) → D → Shown
uncalled shows device = record (shows device) { turns = 0; drives = 0; probes = 0; faults = 0 }

-- the same home as if no window had been opened on it, whose devices were never called
young_kept : {D : Type 0} (shows : D → Shown) (home : HomeState D) → HomeIsKept shows home
    → HomeIsKept (uncalled shows) (record home { opened = 0 })
young_kept shows home kept = record {
  numbered = kept.numbered;
  kinds = kept.kinds;
  size = kept.size;
  few = kept.few;
  opened = omega arith;
  values = kept.values;
  stand = kept.stand;
  counts = λ d device at. record { few_turns = omega arith; few_probes = omega arith; few_faults = omega arith };
}

-- a window of a sound script may be opened on a home that is not at the end of its windows
pub may_open_ever : {D : Type 0} (shows : D → Shown) (script : Script) (mode : Mode) (k : ℕ) (window : WindowText) (home : HomeState D) (roster : Roster)
    → IsSound (plain_script script) → IsTrue (is_mode mode) → slice_get script.windows.items k ≡ Some window → runs_of roster ≡ script_runs script k
    → HomeIsKept shows home → home.kinds ≡ kinds_of script → home.opened < 2 ^ 31 → MayOpen (setting_for home roster mode) window.probes home.opened
may_open_ever {D} shows script mode k window home roster sound goes at runs kept kinds low =
    let young : HomeState D = record home { opened = 0 } in
    let may : MayOpen (setting_for young roster mode) window.probes young.opened =
    may_open (uncalled shows) script mode k window young roster
    (record { sound = sound; goes = goes; at = at; runs = runs; kept = young_kept shows home kept; kinds = kinds; opened = omega arith }) in
    record {
      few_devices = may.few_devices;
      few_runs = may.few_runs;
      few_commands = may.few_commands;
      homed = may.homed;
      follows = may.follows;
      mode = may.mode;
      few_rounds = may.few_rounds;
      few_windows = low;
    }
