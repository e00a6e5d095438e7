-- Members and items of a value, as lists.
use Rattle.routine_reader.proofs.Prelude.{Data, List, String, [], ap, items_of, knows, list_all, list_of, map, members_view, names_of, refl, string_bytes, ◌&&◌, ◌∷◌, ◌≡◌}
use Rattle.routine_reader.specs.declared.forms.Form.{Form}
use Rattle.serde_json.specs.declared.value.Value.{Value}
use Rattle.std.specs.declared.alloc.Global.{Global}

pub items-list : (values : List Data) → list_of (items_of values) ≡ values
items-list [] = refl
items-list (value ∷ values) = ap (λ vs. value ∷ vs) (items-list values)

pub names-all : (form : Form) (members : List (String Global × Value))
    → list_all (λ name. knows form (string_bytes name)) (map (λ m. m.0) members) ≡ list_all (knows form) (names_of (members_view members))
names-all form [] = refl
names-all form (m ∷ ms) = ap (λ b. knows form (string_bytes m.0) && b) (names-all form ms)
