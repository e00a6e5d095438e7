-- The time of a window as one number.
use Rattle.day_clock.specs.declared.times.When.{When}
use Rattle.std.specs.Prelude.{Bool, None, Option, Some, if◌then◌else◌, nat_le, ℕ, ◌%◌, ◌&&◌, ◌*◌, ◌+◌, ◌/◌}

-- the number whose digits are those of the time, from the year on, two for each field after it
abbrev pub time_number : When → ℕ
time_number t =
    (t.year * 10000 + t.month * 100 + t.day) * 1000000
    + (t.hour * 10000 + t.minute * 100 + t.second)

-- the time with the digits of this number
abbrev pub digits_time : ℕ → When
digits_time n = record {
  year = n / 10000000000;
  month = n / 100000000 % 100;
  day = n / 1000000 % 100;
  hour = n / 10000 % 100;
  minute = n / 100 % 100;
  second = n % 100;
}

-- whether each field is in its range
abbrev pub is_civil : When → Bool
is_civil t =
    nat_le t.year 9999
    && ((nat_le 1 t.month && nat_le t.month 12)
    && ((nat_le 1 t.day && nat_le t.day 31)
    && (nat_le t.hour 23 && (nat_le t.minute 59 && nat_le t.second 59))))

-- the time whose digits the number has, where they are those of one
abbrev pub number_time : ℕ → Option When
number_time n = if is_civil (digits_time n) then Some (digits_time n) else None
