-- Why a call is refused, by what the text, the script or the home says.
use Rattle.day_clock.specs.Times.{time_of}
use Rattle.home_states.proofs.Prelude.{Bool, HandedDevice, HomeState, IsUtf8, List, None, Option, Script, Some, When, WindowText, ap, false, first_against_home, if◌then◌else◌, length, nat_le, refl, rules, slice_get, slice_get_within, sym, time_told, true, ℕ, ◌<◌, ◌^◌, ◌∙◌, ◌≡◌}
use Rattle.home_states.specs.declared.refusals.NotOpened.TheVariants.{Absent, TooMany}
use Rattle.home_states.specs.declared.refusals.NotOpened.{NotOpened}
use Rattle.std.proofs.lemmas.Str.{IsUtf8-from_is_utf8, is_utf8-from_IsUtf8}
use Rattle.std.specs.Str.{is_utf8}

-- Times

when_text : (b : Bool) (time : Option When) → b ≡ true → (if b then time else None) ≡ time
when_text true time is = refl
when_text false time is = absurd (cc)

pub time_in_text : (bytes text : List ℕ) → text ≡ bytes → IsUtf8 bytes → time_told bytes ≡ time_of text
time_in_text bytes text same utf8 = when_text (is_utf8 bytes) (time_of bytes) (is_utf8-from_IsUtf8 bytes utf8) ∙ ap time_of (sym same)

pub no_time_in_bytes : (bytes : List ℕ) → (IsUtf8 bytes → ⊥) → None ≡ time_told bytes
no_time_in_bytes bytes other = by_test (is_utf8 bytes) refl
  where
    by_test : (b : Bool) → is_utf8 bytes ≡ b → None ≡ (if b then time_of bytes else None)
    by_test true is = absurd (other (IsUtf8-from_is_utf8 bytes is))
    by_test false is = refl

-- Windows of the script

-- it has the window, and the home may have more
pub free_opened : (script : Script) (k : ℕ) (window : WindowText) (home : HomeState HandedDevice) → slice_get script.windows.items k ≡ Some window → home.opened < 2 ^ 31 → first_against_home script k home ≡ None
free_opened script k window home at few =
    let within : k < length script.windows.items = slice_get_within script.windows.items k window at in
    by_tests (nat_le (length script.windows.items) k) (nat_le (2 ^ 31) home.opened) (search rules) (search rules)
  where
    by_tests : (absent many : Bool) → absent ≡ false → many ≡ false → ◌≡◌ {A = Option NotOpened} (if absent then Some Absent else (if many then Some TooMany else None)) None
    by_tests true many a b = absurd (cc)
    by_tests false true a b = absurd (cc)
    by_tests false false a b = refl
