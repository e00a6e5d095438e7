-- Line and table stand beside a history still where there is more room, and where a run joins for which there is room.
use Rattle.hub_core.proofs.Prelude.{Grips, IsOrderOf, LineageIsKept, LineageState, List, Marked, MarksAreKept, Point, Reading, ReadsOwn, Run, Setting, ap, arith, front_of, joined_lineage, length, lineage_at, point, roomier_table, subst, sym, ℕ, ◌+◌, ◌<◌, ◌∙◌, ◌≡◌, ◌≤◌}
use Rattle.history_book.specs.Joined.{with_joined}
use Rattle.hub_core.proofs.joins.JoinedRooms.{joined_items}
use Rattle.serial_line.specs.KeptRuns.{AreKeptOf}
use Rattle.window_order.specs.Joins.{HasMoreRoom, HasRoomFor}

-- More room

-- the line has as much room or more, and is the same else
pub record IsRoomierLine (line after : Marked) : Type 0 where
  pub marks : after.marks ≡ line.marks
  pub sealed : after.sealed ≡ line.sealed
  pub spare : line.spare ≤ after.spare
  pub runs : after.runs ≡ line.runs

pub roomier_beside : (p : Point) (rounds : ℕ) (line after : Marked) (table later : List LineageState) → IsRoomierLine line after → HasMoreRoom table later → IsOrderOf rounds p line table → IsOrderOf rounds p after later
roomier_beside p rounds line after table later roomier more kept = record {
  table_is = record {
    devices = more.size ∙ kept.table_is.devices;
    ordered = λ strong. roomier_table p table later more (kept.table_is.ordered strong);
    weakly = λ weak d lt. record {
      accesses = ap (λ s. s.accesses) (more.rest d (here d lt)) ∙ (kept.table_is.weakly weak d lt).accesses;
      up = ap (λ s. s.up) (more.rest d (here d lt)) ∙ (kept.table_is.weakly weak d lt).up;
    };
  };
  line_is = subst (MarksAreKept p.reading p.grips) (sym roomier.marks) kept.line_is;
  sealed = roomier.sealed ∙ kept.sealed ∙ ap front_of (sym roomier.marks);
  runs = subst (AreKeptOf p.setting.runs) (sym roomier.runs) kept.runs;
  room = let old = kept.room in let spare = roomier.spare in let same = ap length roomier.marks in omega (arith, old, spare, same);
}
  where
    here : (d : ℕ) → d < length p.setting.first → d < length table
    here d lt = let size = kept.table_is.devices in omega (arith, lt, size)

-- A run more

-- the line keeps the run, has room for one item more, and is the same else
pub record HasJoined (w : Setting) (q : Run) (line after : Marked) : Type 0 where
  pub marks : after.marks ≡ line.marks
  pub sealed : after.sealed ≡ line.sealed
  pub spare : line.spare + 1 ≤ after.spare
  pub runs : AreKeptOf (with_joined w q).runs after.runs

pub joined_beside : (w : Setting) (q : Run) (n : Reading) (g : Grips) (rounds : ℕ) (line after : Marked) (table later : List LineageState) → ReadsOwn w n
    → IsOrderOf rounds (point w n g) line table → HasJoined w q line after → HasRoomFor q table later → IsOrderOf rounds (point (with_joined w q) n g) after later
joined_beside w q n g rounds line after table later own kept joins roomy = record {
  table_is = record {
    devices = roomy.size ∙ kept.table_is.devices;
    ordered = λ strong. record {
      devices = roomy.size ∙ kept.table_is.devices;
      each = λ d lt. subst (LineageIsKept (point (with_joined w q) n g) d) (sym (roomy.rest d (here d lt)))
          (joined_lineage w q n g d (lineage_at table d) (roomy.room d) own.shaped (roomy.enough d (here d lt)) ((kept.table_is.ordered strong).each d lt));
    };
    weakly = λ weak d lt. record {
      accesses = ap (λ s. s.accesses) (roomy.rest d (here d lt)) ∙ (kept.table_is.weakly weak d lt).accesses;
      up = ap (λ s. s.up) (roomy.rest d (here d lt)) ∙ (kept.table_is.weakly weak d lt).up;
    };
  };
  line_is = subst (MarksAreKept n g) (sym joins.marks) kept.line_is;
  sealed = joins.sealed ∙ kept.sealed ∙ ap front_of (sym joins.marks);
  runs = joins.runs;
  room = let more = joined_items w.runs q (length w.first) rounds line.spare (length line.marks) kept.room in let spare = joins.spare in let same = ap length joins.marks in omega (arith, more, spare, same);
}
  where
    here : (d : ℕ) → d < length w.first → d < length table
    here d lt = let size = kept.table_is.devices in omega (arith, lt, size)
