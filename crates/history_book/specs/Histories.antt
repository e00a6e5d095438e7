-- The reading of a history: one fold over its entries.
use Rattle.command_rules.specs.Items.{of_run}
use Rattle.command_rules.specs.Rosters.{command_at, touches_from}
use Rattle.command_rules.specs.Serial.{SerialRun, Served, serial_execution}
use Rattle.history_book.specs.Gaps.{front_for, split_of}
use Rattle.history_book.specs.Lines.{Split, put_before, with_run_in, without}
use Rattle.history_book.specs.Plans.{planned_times}
use Rattle.history_book.specs.Readings.{Event, First, Last, OfRun, OnDevice, Planned, Reading, did, is_access, is_fine, is_open, nothing_read, put, view_by}
use Rattle.history_book.specs.Settings.{Setting, is_weak}
use Rattle.history_book.specs.declared.entries.Cause.TheVariants.{DownAtEnd, Lost, MustDown, Refuted, Revoked}
use Rattle.history_book.specs.declared.entries.Cause.{Cause}
use Rattle.history_book.specs.declared.entries.End.TheVariants.{Aborted, Committed}
use Rattle.history_book.specs.declared.entries.End.{End}
use Rattle.history_book.specs.declared.entries.Entry.TheVariants.{Arrived, Did, Doomed, Ended, Fell, Placed, Rose, Undid}
use Rattle.history_book.specs.declared.entries.Entry.{Entry}
use Rattle.history_book.specs.declared.entries.Kept.{Kept}
use Rattle.home_types.specs.Commands.{driven, register_after}
use Rattle.home_types.specs.Kinds.{kind_at}
use Rattle.home_types.specs.Numbers.{ActorId, CommandIndex, DeviceId, LinePlace, Moment, RunId}
use Rattle.home_types.specs.declared.commands.Answer.TheVariants.{Down, Fine, Found, Skipped}
use Rattle.home_types.specs.declared.commands.Answer.{Answer}
use Rattle.home_types.specs.declared.commands.Command.{Command}
use Rattle.home_types.specs.declared.items.Item.TheVariants.{Back, Failed, Ran}
use Rattle.home_types.specs.declared.items.Item.{Item}
use Rattle.home_types.specs.declared.kinds.Kind.{Kind}
use Rattle.home_types.specs.declared.numbers.DeviceNo.{DeviceNo}
use Rattle.home_types.specs.declared.numbers.RunNo.{RunNo}
use Rattle.std.specs.Option.{option_or}
use Rattle.std.specs.Prelude.{Bool, List, None, Option, Some, [], false, filter_map, fold, if◌then◌else◌, is_none, is_some, map, max, not, true, ℕ, ◌&&◌, ◌++◌, ◌+◌, ◌==◌, ◌||◌, ◌∷◌}

-- the device's next event stands before the first open run that has no access there, under the weak
-- model at the end
abbrev pub with_event : Setting → Reading → DeviceNo → Item → List Item
with_event w n d x =
    put_before (of_run (λ r. not (is_weak w.mode) && is_open w n r d.0 && not (did n r d.0))) x
    n.line

-- what the answer says of the run on the command's device
abbrev pub answered : Kind → Command → Bool → ℕ → Answer → OnDevice → OnDevice
answered kind c doomed register a o =
    record o {
      view = option_or o.view (view_by a);
      found = found_by a;
      wrote = wrote_by a;
      late = o.late || (doomed && is_access a && is_none o.view);
    }
  where
    found_by : Answer → Option ℕ
    found_by Fine = o.found
    found_by (Found x) = if is_some o.wrote then o.found else option_or o.found (Some x)
    found_by Down = o.found
    found_by Skipped = o.found

    wrote_by : Answer → Option ℕ
    wrote_by Fine = Some (driven kind c.job register)
    wrote_by (Found x) = o.wrote
    wrote_by Down = o.wrote
    wrote_by Skipped = o.wrote

abbrev pub more_if : {A : Type 0} → Bool → A → List A → List A
more_if b x xs = if b then xs ++ x ∷ [] else xs

-- the line when the run has ended: a run that is aborted leaves it
abbrev pub line_after : RunId → End → List Item → List Item
line_after r Committed line = line
line_after r (Aborted cause) line = without r line

-- the moment when the cause came up
abbrev pub moment_of : Cause → Moment → Moment
moment_of (MustDown c) moment = moment
moment_of (Refuted c x) moment = moment
moment_of (Lost d) moment = moment
moment_of (Revoked lender d deadline m) moment = max moment m
moment_of (DownAtEnd d) moment = moment

-- one entry more, that says this of its run
abbrev pub with_run_told : Reading → RunId → OfRun → Reading
with_run_told n r q = record n { run = put n.run r q; size = n.size + 1 }

abbrev pub with_placed : Reading → RunNo → LinePlace → Moment → List Planned → Split → Reading
with_placed n r at m planned s =
    record (with_run_told n r.0 (record (n.run r.0) {
      placed = Some (record { place = at; moment = m; stamp = n.size });
      planned = planned;
    })) {
      moment = max n.moment m;
      line = with_run_in s r;
    }

-- the run's command c, of the number k, is answered
abbrev pub with_answer : Setting → Reading → RunId → Command → CommandIndex → Answer → Reading
with_answer w n r c k a =
    record (with_run_told n r (record q {
      answers = q.answers ++ a ∷ [];
      register = register_after c.job a q.register;
      answered_doomed = q.answered_doomed || is_some q.doomed;
      on =
          put q.on c.device.0 (answered (kind_at w.kinds c.device.0) c
          (is_some q.doomed) q.register a (q.on c.device.0));
    })) {
      last =
          (if is_fine a then put n.last c.device.0
          (driven (kind_at w.kinds c.device.0) c.job q.register) else n.last);
      log =
          put n.log c.device.0 (more_if (not (touches_from w.runs r c.device.0 (k + 1))) (Last r)
          (more_if (is_access a && is_none (q.on c.device.0).view) (First r) (n.log c.device.0)));
    }
  where
    q : OfRun
    q = n.run r

abbrev pub with_undo : Reading → RunNo → DeviceNo → Reading
with_undo n r d =
    with_run_told n r.0 (record (n.run r.0) {
      on = put (n.run r.0).on d.0 (record ((n.run r.0).on d.0) { undid = true });
    })

-- the device's event: it is counted up or down from then on
abbrev pub with_turn : Setting → Reading → DeviceNo → Item → Bool → Reading
with_turn w n d x up = record n {
  up = put n.up d.0 up;
  line = with_event w n d x;
  log = put n.log d.0 (n.log d.0 ++ Event x ∷ []);
  size = n.size + 1;
}

-- the reading with one entry more
abbrev pub entry : Setting → Reading → Entry → Reading
entry w n (Arrived r m) =
    record (with_run_told n r.0 (record (n.run r.0) { arrived = Some m })) {
      moment = max n.moment m;
    }
entry w n (Placed r at m) =
    with_placed n r at m (planned_times w n r.0 (front_for w n r.0 at m) m) (split_of w n r.0 at m)
entry w n (Did r c a) = with_answer w n r.0 (command_at w.runs r.0 c) c a
entry w n (Undid r d drove) = with_undo n r d
entry w n (Fell d) =
    record (with_turn w n d (Failed d (n.fell d.0 + 1)) false) {
      fell = put n.fell d.0 (n.fell d.0 + 1);
    }
entry w n (Rose d) =
    record (with_turn w n d (Back d (n.rose d.0 + 1)) true) {
      rose = put n.rose d.0 (n.rose d.0 + 1);
    }
entry w n (Doomed r cause) =
    record (with_run_told n r.0 (record (n.run r.0) { doomed = Some cause })) {
      moment = moment_of cause n.moment;
    }
entry w n (Ended r e) =
    record (with_run_told n r.0 (record (n.run r.0) { ended = Some e })) {
      line = line_after r.0 e n.line;
    }

-- what a history says
abbrev pub reading : Setting → List Entry → Reading
reading w history = fold (entry w) (nothing_read w) history

-- the serialization line
abbrev pub line_of : Setting → List Entry → List Item
line_of w history = (reading w history).line

-- Entries

-- the entries without their makers
abbrev pub entries_of : List Kept → List Entry
entries_of history = map (λ k. k.entry) history

abbrev pub kept_by : ActorId → List Entry → List Kept
kept_by maker entries = map (λ e. record { maker = maker; entry = e }) entries

abbrev pub is_fall_of : DeviceId → Entry → Bool
is_fall_of d (Fell e) = e.0 == d
is_fall_of d (Arrived r m) = false
is_fall_of d (Placed r at m) = false
is_fall_of d (Did r c a) = false
is_fall_of d (Undid r e drove) = false
is_fall_of d (Rose e) = false
is_fall_of d (Doomed r cause) = false
is_fall_of d (Ended r e) = false

-- The serial execution of an order, beside a history

-- the order executed from the window's first state
abbrev pub executed : Setting → List Item → SerialRun
executed w order = serial_execution w.runs w.kinds w.first order

-- what the runs of the order answered in the history, in its order
abbrev pub answers_in : Reading → List Item → List Served
answers_in n order = filter_map answers_of order
  where
    answers_of : Item → Option Served
    answers_of (Ran r) = Some (record { run = r; answers = (n.run r.0).answers })
    answers_of (Failed d k) = None
    answers_of (Back d k) = None
