-- What `serde_json` answers at any bytes.
use Rattle.routine_reader.proofs.Prelude.{Bool, Data, IsUtf8, List, None, Option, Some, false, if◌then◌else◌, is_utf8, json_value_of, refl, true, ℕ, ◌≡◌}
use Rattle.serde_json.specs.Read.{read}
use Rattle.std.proofs.lemmas.Str.{IsUtf8-from_is_utf8, is_utf8-from_IsUtf8}

none_if : (b : Bool) (o : Option Data) → (b ≡ true → o ≡ None) → (if b then o else None) ≡ None
none_if true o h = h refl
none_if false o h = refl

some_if : (b : Bool) (o : Option Data) (d : Data) → b ≡ true → o ≡ Some d → (if b then o else None) ≡ Some d
some_if b o d e p = rw e p

pub value-none : (bs : List ℕ) → (IsUtf8 bs → read bs ≡ None) → json_value_of bs ≡ None
value-none bs h = none_if (is_utf8 bs) (read bs) (λ e. h (IsUtf8-from_is_utf8 bs e))

pub value-some : (bs : List ℕ) (d : Data) → IsUtf8 bs → read bs ≡ Some d → json_value_of bs ≡ Some d
value-some bs d u p = some_if (is_utf8 bs) (read bs) d (is_utf8-from_IsUtf8 bs u) p
