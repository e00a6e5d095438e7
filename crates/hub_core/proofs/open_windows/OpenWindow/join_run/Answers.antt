use Rattle.hub_core.proofs.Prelude.{List, None, Run, Setting, [], ap, ap₂, arith, length, most_items, open_of, option_copied, plain_run, slice_get, slice_get-get_or, subst, sym, ◌++◌, ◌+◌, ◌∙◌, ◌∷◌, ◌≡◌, ◌≤◌}
use Rattle.hub_core.proofs.joins.JoinedRooms.{last_is}
use Rattle.hub_core.proofs.joins.JoinedWindows.{in_home, in_table, joined_whole, may_here, roomier_whole}
use Rattle.hub_core.proofs.open_windows.OpenWindow.join_run.Goals as goal
use Rattle.serial_line.proofs.Cited.{kept_size}
use Rattle.serial_line.specs.KeptRuns.{AreKeptOf}
use Rattle.window_order.specs.Joins.{HasRoomFor}

pub make_room-requires : goal.make_room-requires
make_room-requires g c =
    let may = may_here (open_of c.self.inside) c.args.self.now (plain_run c.args.run) c.self.view_is c.requires.may in
    record { homed = λ k d lt. in_table c.self.inside (plain_run c.args.run) may c.self.invariant k _ (slice_get-get_or c.args.run.routine.commands.items k d lt) }

pub join-requires-clause-low : goal.join-requires-clause-low
join-requires-clause-low g c = in_home c.self.inside (plain_run c.args.run) (may_here (open_of c.self.inside) c.args.self.now (plain_run c.args.run) c.self.view_is c.requires.may) c.self.invariant

pub invariant_of-self-in_err-join : goal.invariant_of-self-in_err-join
invariant_of-self-in_err-join g c = roomier_whole g.D.Device.shows c.self.inside _ _ _ _ (record {
  setting = c.in_err-join.ensures.refused;
  history = c.in_err-join.ensures.history;
  entries = c.in_err-join.ensures.kept;
  line = record { marks = c.make_room.ensures.marks; sealed = c.make_room.ensures.sealed; spare = c.make_room.ensures.spare; runs = c.make_room.ensures.runs };
  table = c.make_room.ensures.table;
  items_are = c.make_room.ensures.items_are;
  items_room = c.make_room.ensures.items_kept;
  hands_are = c.make_room.ensures.hands_are;
}) c.self.invariant

pub join_run-requires-clause-few : goal.join_run-requires-clause-few
join_run-requires-clause-few g c =
    let may = may_here (open_of c.self.inside) c.args.self.now (plain_run c.args.run) c.self.view_is c.requires.may in
    let number = may.number in
    let kept = kept_size c.self.inside.history.setting.runs c.self.inside.order.line.runs c.self.invariant.order.runs in
    let same = ap (λ (runs : List Run). length runs) c.make_room.ensures.runs in
    omega (arith, number, kept, same)

pub join_run-requires-clause-low : goal.join_run-requires-clause-low
join_run-requires-clause-low g c =
    let may = may_here (open_of c.self.inside) c.args.self.now (plain_run c.args.run) c.self.view_is c.requires.may in
    let is : plain_run c.unwrap-last.result.now ≡ plain_run c.args.run = last_is c.roster.result.now.runs.items c.self.inside.history.setting.runs (plain_run c.args.run) c.unwrap-last.result.now (c.roster.ensures ∙ ap (λ (w : Setting). w.runs) c.in_ok-join.ensures.joined) (ap (slice_get c.roster.result.now.runs.items) (sym c.run_count-earlier.ensures.count) ∙ sym c.get.ensures ∙ ap option_copied c.unwrap-last.ensures) in
    λ k d at. in_home c.self.inside (plain_run c.args.run) may c.self.invariant k d (ap (λ (x : Run). slice_get x.commands k) (sym is) ∙ at)

pub invariant_of-self-2 : goal.invariant_of-self-2
invariant_of-self-2 g c =
    let may = may_here (open_of c.self.inside) c.args.self.now (plain_run c.args.run) c.self.view_is c.requires.may in
    let is : plain_run c.unwrap-last.result.now ≡ plain_run c.args.run = last_is c.roster.result.now.runs.items c.self.inside.history.setting.runs (plain_run c.args.run) c.unwrap-last.result.now (c.roster.ensures ∙ ap (λ (w : Setting). w.runs) c.in_ok-join.ensures.joined) (ap (slice_get c.roster.result.now.runs.items) (sym c.run_count-earlier.ensures.count) ∙ sym c.get.ensures ∙ ap option_copied c.unwrap-last.ensures) in
    joined_whole g.D.Device.shows c.self.inside (plain_run c.args.run) _ _ _ _ may (record {
      setting = c.in_ok-join.ensures.joined;
      history = c.in_ok-join.ensures.history;
      entries = let more = c.in_ok-join.ensures.room in omega (arith, more);
      marks = c.join_run.ensures.marks ∙ c.make_room.ensures.marks;
      sealed = c.join_run.ensures.sealed ∙ c.make_room.ensures.sealed;
      spare = let same = c.join_run.ensures.spare in let more = c.in-Ok.ensures.place in omega (arith, same, more);
      runs = λ runs are. subst (λ q. AreKeptOf (runs ++ q ∷ []) c.join_run.new.self.line.runs) is (c.join_run.ensures.runs runs (subst (AreKeptOf runs) (sym c.make_room.ensures.runs) are));
      table = subst (HasRoomFor (plain_run c.args.run) c.self.inside.order.table) (sym c.join_run.ensures.table) c.in-Ok.ensures.accesses;
      items_are = c.make_room.ensures.items_are;
      items_room = subst (λ n. n ≤ c.make_room.new.items.spare) (c.bounds_of-bounds.ensures.items ∙ ap₂ (λ a b. most_items (a + 1) b c.self.inside.rounds) c.run_count-earlier.ensures.count c.device_count.ensures) c.in-Ok.ensures.items_room;
      hands_are = c.in-Ok-push.ensures.ok ∙ ap (λ xs. xs ++ None ∷ []) c.make_room.ensures.hands_are;
    }) c.self.invariant
