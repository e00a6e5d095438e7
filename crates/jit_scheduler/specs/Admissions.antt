-- What just-in-time admission answers, for parts that belong to one window.
use Rattle.command_rules.specs.Rosters.{device_no, run_no}
use Rattle.history_book.specs.Lines.{split_at}
use Rattle.history_book.specs.Readings.{Reading}
use Rattle.home_types.specs.Numbers.{LinePlace, Moment, RunId}
use Rattle.home_types.specs.declared.items.Item.{Item}
use Rattle.jit_scheduler.specs.declared.answers.Admit.TheVariants.{At, Denied, Patience}
use Rattle.jit_scheduler.specs.declared.answers.Admit.{Admit}
use Rattle.jit_scheduler.specs.declared.denials.Denial.{Denial as FoundDenial}
use Rattle.lock_leasing.specs.Configurations.{Configuration, Point, point_of, read_of}
use Rattle.lock_leasing.specs.Places.{At as PlacedAt, Denial, DeniedBy, Placing, denial_of, first_place, just_in_time, patience}
use Rattle.lock_leasing.specs.Standings.{IsStandingOf, WindowParts}
use Rattle.serial_line.specs.Marks.{Mark}
use Rattle.std.specs.Prelude.{List, None, Option, Some, if◌then◌else◌, is_none, length, nat_le, true, unwrap_or, ⊤, ◌+◌, ◌≡◌, ◌≤◌}

-- the run arrived at this moment, and is not placed
pub record IsToBePlaced (n : Reading) (r : RunId) (came : Moment) : Type 0 where
  pub arrived : (n.run r).arrived ≡ Some came
  pub unplaced : is_none (n.run r).placed ≡ true

-- the parts belong to one window, which is not of the weak model, and the run is to be placed in it
pub data MayAdmit (parts : WindowParts) (r : RunId) (came : Moment) : Type 0 where
  Admitting : (s : Configuration) (stands : IsStandingOf s parts)
      (turn : IsToBePlaced (read_of s) r came) → MayAdmit parts r came

-- what the scheduler says where this is the answer
abbrev pub admitted_placing : List Item → Admit → Placing
admitted_placing line (At place) = PlacedAt (split_at line place)
admitted_placing line (Denied d x) = DeniedBy d.0 x.0
admitted_placing line Patience = PlacedAt (split_at line (length line))

-- the answer: the first place, where no device is denied; else that the run has waited long enough,
-- where it has; else the first denial
abbrev pub admission : Point → RunId → Moment → Admit
admission p r m = by_denial (denial_of p r)
  where
    by_denial : Option Denial → Admit
    by_denial None = At (first_place p r)
    by_denial (Some x) =
        if nat_le (unwrap_or (p.reading.run r).arrived 0 + patience) m then Patience
        else Denied (device_no x.device) (run_no x.run)

-- the answer where this is the first place and this the first denial
abbrev pub answer_by : LinePlace → Option FoundDenial → Moment → Moment → Admit
answer_by place None came m = At place
answer_by place (Some x) came m =
    if nat_le (came + patience) m then Patience else Denied x.device x.run

-- the answer says what just-in-time admission says, in each configuration to which the parts belong
-- and in which the run is to be placed
abbrev pub IsPlacingOf : WindowParts → RunId → Moment → Moment → Admit → Type 0
IsPlacingOf parts r came m answer =
    (s : Configuration) → IsStandingOf s parts → IsToBePlaced (read_of s) r came
    → admitted_placing (read_of s).line answer ≡ just_in_time (point_of s) r m

-- .. and tells a first place from the end after a wait
abbrev pub IsAdmissionOf : WindowParts → RunId → Moment → Moment → Admit → Type 0
IsAdmissionOf parts r came m answer =
    (s : Configuration) → IsStandingOf s parts → IsToBePlaced (read_of s) r came
    → answer ≡ admission (point_of s) r m

-- a place is one of the line, or its end
abbrev pub IsPlaceOfLine : List Mark → Admit → Type 0
IsPlaceOfLine line (At place) = place ≤ length line
IsPlaceOfLine line (Denied d x) = ⊤
IsPlaceOfLine line Patience = ⊤
