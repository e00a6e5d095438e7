-- How a C program is told what happened.
use Rattle.device_gate.specs.declared.slips.Slip.{Slip}
use Rattle.device_gate.specs.declared.slips.Task.TheVariants.{Drive, Probe, Sense}
use Rattle.device_gate.specs.declared.slips.Task.{Task}
use Rattle.history_book.specs.declared.entries.Cause.TheVariants.{DownAtEnd, Lost, MustDown, Refuted, Revoked}
use Rattle.history_book.specs.declared.entries.Cause.{Cause}
use Rattle.history_book.specs.declared.entries.End.TheVariants.{Aborted, Committed}
use Rattle.history_book.specs.declared.entries.End.{End}
use Rattle.history_book.specs.declared.entries.Entry.TheVariants.{Arrived, Did, Doomed, Ended, Fell, Placed, Rose, Undid}
use Rattle.history_book.specs.declared.entries.Entry.{Entry}
use Rattle.home_types.specs.declared.commands.Answer.TheVariants.{Down, Fine, Found, Skipped}
use Rattle.home_types.specs.declared.commands.Answer.{Answer}
use Rattle.home_types.specs.declared.items.Item.TheVariants.{Back, Failed, Ran}
use Rattle.home_types.specs.declared.items.Item.{Item}
use Rattle.home_types.specs.declared.worlds.Stand.{Stand}
use Rattle.hub_core.specs.declared.refusals.NotQuiet.TheVariants.{StillLive, StillOut}
use Rattle.hub_core.specs.declared.refusals.NotQuiet.{NotQuiet}
use Rattle.hub_core.specs.declared.waits.Why.TheVariants.{Behind, Busy, Denied, Dirty, Follow, Strict}
use Rattle.hub_core.specs.declared.waits.Why.{Why}
use Rattle.hub_table.specs.declared.told.Taken.TheVariants.{Absent, Moved, Out, Over, Waits}
use Rattle.hub_table.specs.declared.told.Taken.{Taken}
use Rattle.lazbendix_c.specs.declared.told_entries.ToldEntry.{ToldEntry}
use Rattle.lazbendix_c.specs.declared.told_entries.ToldMade.{ToldMade}
use Rattle.lazbendix_c.specs.declared.told_turns.ToldItem.{ToldItem}
use Rattle.lazbendix_c.specs.declared.told_turns.ToldLeft.{ToldLeft}
use Rattle.lazbendix_c.specs.declared.told_turns.ToldStand.{ToldStand}
use Rattle.lazbendix_c.specs.declared.told_turns.ToldTurn.{ToldTurn}
use Rattle.std.specs.Prelude.{List, None, Option, Some, if◌then◌else◌, length, slice_get, ℕ}

abbrev pub no_entry : ToldEntry
no_entry = record {
  moment = 0;
  deadline = 0;
  kind = 0;
  run = 0;
  command = 0;
  device = 0;
  place = 0;
  answer = 0;
  value = 0;
  drove = 0;
  cause = 0;
  lender = 0;
}

-- an entry of this kind about the run
abbrev pub about : ℕ → ℕ → ToldEntry
about kind run = record no_entry { kind = kind; run = run }

-- .. with its cause
abbrev pub caused : ToldEntry → Cause → ToldEntry
caused told (MustDown c) = record told { cause = 1; command = c }
caused told (Refuted c v) = record told { cause = 2; command = c; value = v }
caused told (Lost d) = record told { cause = 3; device = d.0 }
caused told (Revoked lender d deadline moment) =
    record told { cause = 4; lender = lender.0; device = d.0; deadline = deadline; moment = moment }
caused told (DownAtEnd d) = record told { cause = 5; device = d.0 }

abbrev pub did_entry : ℕ → ℕ → Answer → ToldEntry
did_entry run c Fine = record no_entry { kind = 3; run = run; command = c; answer = 1 }
did_entry run c (Found v) =
    record no_entry { kind = 3; run = run; command = c; answer = 2; value = v }
did_entry run c Down = record no_entry { kind = 3; run = run; command = c; answer = 3 }
did_entry run c Skipped = record no_entry { kind = 3; run = run; command = c; answer = 4 }

-- how the run ended
abbrev pub entry_of_end : ℕ → End → ToldEntry
entry_of_end run Committed = about 8 run
entry_of_end run (Aborted cause) = caused (about 9 run) cause

abbrev pub entry_as_told : Entry → ToldEntry
entry_as_told (Arrived r moment) = record no_entry { kind = 1; run = r.0; moment = moment }
entry_as_told (Placed r at moment) =
    record no_entry { kind = 2; run = r.0; place = at; moment = moment }
entry_as_told (Did r c answer) = did_entry r.0 c answer
entry_as_told (Undid r d drove) =
    record no_entry { kind = 4; run = r.0; device = d.0; drove = (if drove then 1 else 0) }
entry_as_told (Fell d) = record no_entry { kind = 5; device = d.0 }
entry_as_told (Rose d) = record no_entry { kind = 6; device = d.0 }
entry_as_told (Doomed r cause) = caused (about 7 r.0) cause
entry_as_told (Ended r end) = entry_of_end r.0 end

abbrev pub entry_or_none : Option Entry → ToldEntry
entry_or_none None = no_entry
entry_or_none (Some entry) = entry_as_told entry

abbrev pub one_if : Option Entry → ℕ
one_if None = 0
one_if (Some entry) = 1

-- the entries of a step
abbrev pub made_of : List Entry → ToldMade
made_of made = record {
  a = entry_or_none (slice_get made 0);
  b = entry_or_none (slice_get made 1);
  c = entry_or_none (slice_get made 2);
  count = length made;
}

abbrev pub none_made : ToldMade
none_made = record { a = no_entry; b = no_entry; c = no_entry; count = 0 }

-- a turn of this kind, of which nothing else is told
abbrev pub of_kind : ℕ → ToldTurn
of_kind kind = record {
  ticket = 0;
  made = none_made;
  end = no_entry;
  kind = kind;
  why = 0;
  device = 0;
  run = 0;
  task = 0;
  value = 0;
  stood = 0;
  zero = 0;
}

-- a device is out with this slip, for this task
abbrev pub out_turn : Slip → Task → ToldTurn
out_turn slip (Drive v) =
    record (of_kind 3) {
      ticket = slip.ticket;
      device = slip.device.0;
      run = slip.maker;
      stood = slip.stood;
      task = 1;
      value = v;
    }
out_turn slip Sense =
    record (of_kind 3) {
      ticket = slip.ticket;
      device = slip.device.0;
      run = slip.maker;
      stood = slip.stood;
      task = 2;
    }
out_turn slip (Probe None) =
    record (of_kind 3) {
      ticket = slip.ticket;
      device = slip.device.0;
      run = slip.maker;
      stood = slip.stood;
      task = 3;
    }
out_turn slip (Probe (Some v)) =
    record (of_kind 3) {
      ticket = slip.ticket;
      device = slip.device.0;
      run = slip.maker;
      stood = slip.stood;
      task = 4;
      value = v;
    }

-- the run waits for this
abbrev pub waiting_turn : Why → ToldTurn
waiting_turn (Follow r) = record (of_kind 2) { why = 1; run = r.0 }
waiting_turn (Denied d r) = record (of_kind 2) { why = 2; device = d.0; run = r.0 }
waiting_turn (Behind d r) = record (of_kind 2) { why = 3; device = d.0; run = r.0 }
waiting_turn (Dirty d r) = record (of_kind 2) { why = 4; device = d.0; run = r.0 }
waiting_turn (Strict r) = record (of_kind 2) { why = 5; run = r.0 }
waiting_turn (Busy d) = record (of_kind 2) { why = 6; device = d.0 }

-- what the step of the run did
abbrev pub turn_of : ℕ → Taken → ToldTurn
turn_of run (Out slip task) = out_turn slip task
turn_of run (Moved made) = record (of_kind 1) { made = made_of made }
turn_of run (Waits why) = waiting_turn why
turn_of run (Over end made) = record (of_kind 4) { made = made_of made; end = entry_of_end run end }
turn_of run Absent = of_kind 5

-- what is left to do in a window
abbrev pub left_of : Option NotQuiet → ToldLeft
left_of None = record { kind = 0; number = 0 }
left_of (Some (StillLive r)) = record { kind = 1; number = r.0 }
left_of (Some (StillOut d)) = record { kind = 2; number = d.0 }

-- how a device stands
abbrev pub stand_of : Stand → ToldStand
stand_of stand = record { value = stand.value; up = (if stand.up then 1 else 0) }

-- an item of an order
abbrev pub item_of : Item → ToldItem
item_of (Ran r) = record { kind = 1; run = r.0; device = 0; number = 0 }
item_of (Failed d number) = record { kind = 2; run = 0; device = d.0; number = number }
item_of (Back d number) = record { kind = 3; run = 0; device = d.0; number = number }
