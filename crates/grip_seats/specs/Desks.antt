-- What a desk and a pass show, and what their types keep.
use Rattle.atomic_table.specs.Seated.{TableId}
use Rattle.atomic_table.specs.Table.{Me}
use Rattle.grip_seats.specs.Views.{keeper}
use Rattle.grip_seats.specs.declared.views.SeatView.{SeatView}
use Rattle.std.specs.Prelude.{List, Option, [], ℕ, ◌<◌, ◌≡◌}

-- which desk it is
abbrev pub DeskName : Type 0
DeskName = TableId

-- the name of no desk
abbrev pub no_desk : DeskName
no_desk = record {
  words = 0;
  slots = 0;
  views_name = 0;
  atom = 0;
  block = 0;
  offset = 0;
  slot_names = [];
}

-- the name of the desk, and what is out of each place
pub record DeskState (T : Type 0) : Type 0 where
  pub name : DeskName
  pub out : List (Option T)

-- the name of the desk, and what the pass claims is out, of which place
pub record PassState (T : Type 0) : Type 0 where
  pub name : DeskName
  pub claim : Option (ℕ × T)

-- the seat is the desk's
pub record IsDesk {T : Type 0} (table seat : TableId) (me : Me (ℕ × T) (SeatView T)) : Type 0 where
  pub same : seat ≡ table
  pub words : 0 < table.words
  pub keeps : me ≡ (keeper me.0.out, [])

-- the seat holds no slot
abbrev pub IsPass : {T : Type 0} → Me (ℕ × T) (SeatView T) → Type 0
IsPass me = me.1 ≡ []
