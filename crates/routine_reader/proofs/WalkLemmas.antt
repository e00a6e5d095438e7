-- A walk over the values of a list, step by step.
use Rattle.routine_reader.proofs.Prelude.{Data, Err, IsReading, List, Ok, ReadFault, Result, [], ap, drop, drop_all, drop_more, false, get_or, is_memory, length, map, read_each, subst, sym, view, ℕ, ◌++◌, ◌+◌, ◌<◌, ◌>>=◌, ◌∙◌, ◌∷◌, ◌≡◌, ◌≤◌}
use Rattle.serde_json.specs.declared.value.Value.{Value}
use Rattle.std.specs.Result.{IsErrAnd}

-- the value at i stands first among what is left
view-next : (values : List Value) (i : ℕ) (value : Value) → i < length values → value ≡ get_or values i value
    → map view (drop i values) ≡ view value ∷ map view (drop (i + 1) values)
view-next values i value within is =
    ap (map view) (drop_more values i value within) ∙ ap (λ v. view v ∷ map view (drop (i + 1) values)) (sym is)

each-next : {T : Type 0} (reading : List T → Data → Result T ReadFault) (earlier : List T) (values : List Value) (i : ℕ) (value : Value)
    → i < length values → value ≡ get_or values i value
    → read_each reading earlier (map view (drop i values))
    ≡ (reading earlier (view value) >>= (λ item. read_each reading (earlier ++ item ∷ []) (map view (drop (i + 1) values))))
unfolding read_each
each-next reading earlier values i value within is = ap (read_each reading earlier) (view-next values i value within is)

-- a value that is refused, one that is read, and the end
pub each-refused : {T : Type 0} (reading : List T → Data → Result T ReadFault) (earlier : List T) (values : List Value) (i : ℕ) (value : Value)
    → i < length values → value ≡ get_or values i value → (fault : ReadFault) → reading earlier (view value) ≡ Err fault
    → read_each reading earlier (map view (drop i values)) ≡ Err fault
each-refused reading earlier values i value within is fault refused =
    each-next reading earlier values i value within is
    ∙ ap (λ read. read >>= (λ item. read_each reading (earlier ++ item ∷ []) (map view (drop (i + 1) values)))) refused

pub each-read : {T : Type 0} (reading : List T → Data → Result T ReadFault) (earlier : List T) (values : List Value) (i : ℕ) (value : Value)
    → i < length values → value ≡ get_or values i value → (item : T) → reading earlier (view value) ≡ Ok item
    → read_each reading earlier (map view (drop i values)) ≡ read_each reading (earlier ++ item ∷ []) (map view (drop (i + 1) values))
each-read reading earlier values i value within is item read =
    each-next reading earlier values i value within is
    ∙ ap (λ read. read >>= (λ item. read_each reading (earlier ++ item ∷ []) (map view (drop (i + 1) values)))) read

pub each-end : {T : Type 0} (reading : List T → Data → Result T ReadFault) (earlier : List T) (values : List Value) (i : ℕ)
    → length values ≤ i → read_each reading earlier (map view (drop i values)) ≡ Ok earlier
unfolding read_each
each-end reading earlier values i all = ap (λ vs. read_each reading earlier (map view vs)) (drop_all i values all)

-- a reader that answers a refusal, of a walk that is refused so
pub walk-refused : {T U : Type 0} (plain : T → U) (answer : Result T ReadFault) (fault : ReadFault) (walk : Result U ReadFault)
    → IsErrAnd answer (λ given. given ≡ fault) → (is_memory fault ≡ false → walk ≡ Err fault) → IsReading plain answer walk
walk-refused plain (Ok t) fault walk given refused = absurd given
walk-refused plain (Err other) fault walk given refused = subst (λ f. is_memory f ≡ false → walk ≡ Err f) (sym given) refused
