use Rattle.hub_commands.proofs.room_days.stop.Goals as goal
use Rattle.hub_commands.proofs.Prelude.{AreAllPlaced, ChunkFault, List, RoomStopEnds, Some, Write, ap, length, refl, subst, sym, ℕ, ◌∙◌}

pub returns-in-Sink-clause-ends : goal.returns-in-Sink-clause-ends
returns-in-Sink-clause-ends g c =
    subst (λ (fault : ChunkFault). RoomStopEnds c.args.rooms.now.room_of.items c.args.day.homes.items fault (Some c.in_script_order.result) (Some Write)) (sym c.in-Sink.is) (
      c.in_script_order.result,
      refl,
      c.in_script_order.ensures.size ∙ ap (λ l. length l) c.as_slice.ensures,
      subst (λ (l : List ℕ). AreAllPlaced l c.args.day.homes.items c.in_script_order.result.items) c.as_slice.ensures c.in_script_order.ensures.placed,
      refl,
    )
