-- What a walk that is not refused has read.
use Rattle.routine_reader.proofs.PrefixLemmas.{EachAfter, each-more}
use Rattle.routine_reader.proofs.Prelude.{All, All-append, All-cons, All-nil, Bool, Data, Err, List, None, Ok, Option, ReadFault, Result, Some, [], arith, false, if◌then◌else◌, length, length-append, limit_of, nat_le, ok_or, read_each, refl, rules, subst, true, within_limit, ℕ, ◌++◌, ◌+◌, ◌>>=◌, ◌∷◌, ◌≡◌, ◌≤◌}
use Rattle.routine_reader.specs.declared.faults.Count.{Count}

-- ---- one step

pub ok-same : {T : Type 0} (a b : T) → ◌≡◌ {A = Result T ReadFault} (Ok a) (Ok b) → a ≡ b
ok-same a b h = cc

pub ok-then : {A B : Type 0} (first : Result A ReadFault) (next : A → Result B ReadFault) (b : B) → (first >>= next) ≡ Ok b
    → (a : A) × (first ≡ Ok a) × (next a ≡ Ok b)
ok-then (Ok a) next b h = (a, refl, h)
ok-then (Err fault) next b h = absurd (cc)

pub ok-found : {A : Type 0} (o : Option A) (fault : ReadFault) (a : A) → ok_or o fault ≡ Ok a → o ≡ Some a
ok-found None fault a h = absurd (cc)
ok-found (Some x) fault a h = cc

pub ok-if : {A : Type 0} (b : Bool) (r : Result A ReadFault) (fault : ReadFault) (a : A) → (if b then r else Err fault) ≡ Ok a
    → (b ≡ true) × (r ≡ Ok a)
ok-if true r fault a h = (refl, h)
ok-if false r fault a h = absurd (cc)

pub ok-unless : {A : Type 0} (b : Bool) (r : Result A ReadFault) (fault : ReadFault) (a : A) → (if b then Err fault else r) ≡ Ok a
    → (b ≡ false) × (r ≡ Ok a)
ok-unless true r fault a h = absurd (cc)
ok-unless false r fault a h = (refl, h)

le-true : (a b : ℕ) → nat_le a b ≡ true → a ≤ b
le-true a b h = search rules

pub ok-within : (kind : Count) (count n : ℕ) → within_limit kind count ≡ Ok n → (count ≤ limit_of kind) × (count ≡ n)
ok-within kind count n h =
    let fits = ok-if (nat_le count (limit_of kind)) (Ok count) _ n h in
    (le-true count (limit_of kind) fits.0, ok-same count n fits.1)

-- ---- a list

-- P of each item and those before it, where each reading makes one of which P holds
pub each-after : {T : Type 0} (P : List T → T → Type 0) (reading : List T → Data → Result T ReadFault)
    → ((earlier : List T) (value : Data) (item : T) → reading earlier value ≡ Ok item → P earlier item)
    → (earlier : List T) (values : List Data) (items : List T) → EachAfter P earlier → read_each reading earlier values ≡ Ok items
    → EachAfter P items
unfolding read_each
each-after P reading made earlier [] items each h = subst (EachAfter P) (ok-same earlier items h) each
each-after P reading made earlier (value ∷ values) items each h =
    let step = ok-then (reading earlier value) (λ item. read_each reading (earlier ++ item ∷ []) values) items h in
    each-after P reading made (earlier ++ step.0 ∷ []) values items (each-more P earlier step.0 each (made earlier value step.0 step.1)) step.2

-- Q of each item, where each reading makes one of which Q holds
pub each-all : {T : Type 0} (Q : T → Type 0) (reading : List T → Data → Result T ReadFault)
    → ((earlier : List T) (value : Data) (item : T) → reading earlier value ≡ Ok item → Q item)
    → (earlier : List T) (values : List Data) (items : List T) → All Q earlier → read_each reading earlier values ≡ Ok items → All Q items
unfolding read_each
each-all Q reading made earlier [] items all h = subst (All Q) (ok-same earlier items h) all
each-all Q reading made earlier (value ∷ values) items all h =
    let step = ok-then (reading earlier value) (λ item. read_each reading (earlier ++ item ∷ []) values) items h in
    each-all Q reading made (earlier ++ step.0 ∷ []) values items
    (All-append Q earlier (step.0 ∷ []) all (All-cons Q step.0 [] (made earlier value step.0 step.1) (All-nil Q))) step.2

-- as many items as values
pub each-length : {T : Type 0} (reading : List T → Data → Result T ReadFault) (earlier : List T) (values : List Data) (items : List T)
    → read_each reading earlier values ≡ Ok items → length items ≡ length earlier + length values
unfolding read_each
each-length reading earlier [] items h = subst (λ l. length l ≡ length earlier + 0) (ok-same earlier items h) (omega arith)
each-length reading earlier (value ∷ values) items h =
    let step = ok-then (reading earlier value) (λ item. read_each reading (earlier ++ item ∷ []) values) items h in
    let rest = each-length reading (earlier ++ step.0 ∷ []) values items step.2 in
    let longer : length (earlier ++ step.0 ∷ []) ≡ length earlier + 1 = rw length-append (omega arith) in
    omega (arith, rest, longer)
