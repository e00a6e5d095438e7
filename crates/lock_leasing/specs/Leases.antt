-- What the accesses to a device, and the history's dooms and placings, tell of leases.
use Rattle.command_rules.specs.Rosters.{Run, commands_of, estimate_to_last, run_no}
use Rattle.history_book.specs.Books.{doom_of, placing_of}
use Rattle.history_book.specs.Plans.{greatest}
use Rattle.history_book.specs.declared.entries.Kept.{Kept}
use Rattle.home_types.specs.Numbers.{DeviceId, Moment, RunId}
use Rattle.home_types.specs.declared.numbers.RunNo.{RunNo}
use Rattle.lineage_table.specs.Accesses.{is_released}
use Rattle.lineage_table.specs.declared.accesses.Access.{Access}
use Rattle.lock_leasing.specs.Configurations.{Configuration, Point, point_of, read_of}
use Rattle.lock_leasing.specs.Standings.{IsAsking, IsStandingOf, WindowParts}
use Rattle.lock_leasing.specs.Words.{borrower_from, lease_deadline, overdue_for, tenth_up}
use Rattle.std.specs.Prelude.{Bool, List, None, Option, is_none, is_some, min, nat_lt, not, option_map, unwrap_or, ℕ, ◌&&◌, ◌+◌, ◌≡◌}

-- By the parts

-- when the run was placed: the number of entries before
abbrev pub placed_at : List Kept → RunId → ℕ
placed_at history r = unwrap_or (placing_of history r) 0

-- the run of the access has the device on a lease from one that was placed then: it is not done
-- with the device, was placed later, and is not doomed
abbrev pub access_borrows : List Kept → ℕ → Access → Bool
access_borrows history placed x =
    not (is_released x.status) && nat_lt placed (placed_at history x.run.0)
    && is_none (doom_of history x.run.0)

-- the deadline of this lease
abbrev pub access_deadline : List Run → DeviceId → Access → Moment
access_deadline runs d x =
    min (x.to + tenth_up (estimate_to_last d (commands_of runs x.run.0))) greatest

-- .. which the moment is past
abbrev pub access_is_overdue : List Run → List Kept → ℕ → DeviceId → Moment → Access → Bool
access_is_overdue runs history placed d m x =
    access_borrows history placed x && nat_lt (access_deadline runs d x) m

-- By the configuration

-- the run whose lease is overdue, with the deadline
abbrev pub overdue_lease : Point → RunId → DeviceId → Moment
    → Option (RunNo × Moment)
overdue_lease p r d m =
    option_map (λ x. (run_no x, lease_deadline p.setting p.reading x d)) (overdue_for p r d m)

-- this is the run, with the deadline, in each configuration to which the parts belong and in which
-- r asks for the device
abbrev pub IsOverdueOf : WindowParts → RunId → DeviceId → Moment → Option (RunNo × Moment) → Type 0
IsOverdueOf parts r d m found =
    (s : Configuration) → IsStandingOf s parts → IsAsking s r d
    → found ≡ overdue_lease (point_of s) r d m

-- the answer is whether some run has the device on a lease from r, in each such configuration
abbrev pub IsBorrowedFrom : WindowParts → RunId → DeviceId → Bool → Type 0
IsBorrowedFrom parts r d some =
    (s : Configuration) → IsStandingOf s parts → IsAsking s r d
    → some ≡ is_some (borrower_from (point_of s) r d)

-- no lease on the device is overdue for r, at any moment
abbrev pub NeverOverdue : Point → RunId → DeviceId → Type 0
NeverOverdue p r d = (m : Moment) → overdue_for p r d m ≡ None

-- .. in each such configuration
abbrev pub IsNeverOverdue : WindowParts → RunId → DeviceId → Type 0
IsNeverOverdue parts r d =
    (s : Configuration) → IsStandingOf s parts → IsAsking s r d → NeverOverdue (point_of s) r d

-- this is the deadline of the run's lease in each configuration to which the parts belong
abbrev pub IsDeadlineOf : WindowParts → RunId → DeviceId → Moment → Type 0
IsDeadlineOf parts r d deadline =
    (s : Configuration) → IsStandingOf s parts → deadline ≡ lease_deadline s.setting (read_of s) r d
