-- The time of a window.
use Rattle.day_clock.specs.declared.times.Unread.{Unread}
use Rattle.day_clock.specs.declared.times.When.{When}
use Rattle.jiff.specs.Words.{parse_datetime}
use Rattle.jiff_core.specs.declared.error.Error.{Error}
use Rattle.jiff_fmt.specs.Temporal.{DateParts, TimeParts}
use Rattle.std.specs.Cmp.Lexicographic.{slice_cmp}
use Rattle.std.specs.Ordering.{is_lt, nat_cmp}
use Rattle.std.specs.Prelude.{Bool, Err, List, None, Ok, Option, Result, Some, [], negsuc, pos, ℕ, ℤ, ◌∷◌, ◌≤◌}

-- the time of this date and time of day, where the year is not below 0
abbrev pub when_in : ℤ → DateParts → TimeParts → Option When
when_in (pos year) date time =
    Some (record {
      year = year;
      month = date.month;
      day = date.day;
      hour = time.hour;
      minute = time.minute;
      second = time.second;
    })
when_in (negsuc n) date time = None

-- the time that was read
abbrev pub when_of : Result (DateParts × TimeParts) Error → Option When
when_of (Ok parts) = when_in parts.0.year parts.0 parts.1
when_of (Err error) = None

-- the time that a text is, if it is one
abbrev pub time_of : List ℕ → Option When
time_of text = when_of (parse_datetime text)

-- the answer as an option
abbrev pub read_as_option : Result When Unread → Option When
read_as_option (Ok time) = Some time
read_as_option (Err unread) = None

-- the fields of a time, from the year on
abbrev pub fields_of : When → List ℕ
fields_of time = time.year ∷ time.month ∷ time.day ∷ time.hour ∷ time.minute ∷ time.second ∷ []

-- by the first field in which the times differ
abbrev pub is_before : When → When → Bool
is_before a b = is_lt (slice_cmp nat_cmp (fields_of a) (fields_of b))

-- each field is in its range
pub record IsCivilTime (time : When) : Type 0 where
  pub year : time.year ≤ 9999
  pub month : (1 ≤ time.month) × (time.month ≤ 12)
  pub day : (1 ≤ time.day) × (time.day ≤ 31)
  pub hour : time.hour ≤ 23
  pub minute : time.minute ≤ 59
  pub second : time.second ≤ 59
