-- The closure is the least closed set that holds the seeds, and the set that grows is the least one
-- that fits.
use Rattle.command_rules.proofs.ClosedParts.{closure_closed}
use Rattle.command_rules.proofs.Prelude.{BarsRise, Bool, IsClosed, IsFitting, IsLeast, IsPart, List, [], ap, arith, chosen, closure, common_steps, cond, count_by, either_of, false, fold, grown, if◌then◌else◌, inl, inr, length, length-map, list_any, map, nat_le, others, rearranged, refl, subst, suc, sym, true, widened, wider, ℕ, ◌++◌, ◌+◌, ◌||◌, ◌∙◌, ◌∷◌, ◌≡◌, ◌≤◌, ◌⊎◌}
use Rattle.std.proofs.lemmas.List.Folds.{list_any-append}
use Rattle.std.proofs.lemmas.List.Sums.{sum_by-cons}

-- Parts of a set

pub part_itself : (bs : List Bool) → IsPart bs bs
unfolding IsPart
part_itself [] = tt
part_itself (b ∷ bs) = (λ e. e, part_itself bs)

pub part_of_part : (bs cs ds : List Bool) → IsPart bs cs → IsPart cs ds → IsPart bs ds
unfolding IsPart
part_of_part [] [] [] p q = tt
part_of_part [] [] (d ∷ ds) p q = elim q [ ]
part_of_part [] (c ∷ cs) ds p q = elim p [ ]
part_of_part (b ∷ bs) [] ds p q = elim p [ ]
part_of_part (b ∷ bs) (c ∷ cs) [] p q = elim q [ ]
part_of_part (b ∷ bs) (c ∷ cs) (d ∷ ds) p q = (λ e. q.0 (p.0 e), part_of_part bs cs ds p.1 q.1)

-- what some item of the one meets some item of the other meets
more_met : {A : Type 0} (test : A → Bool) (bs cs : List Bool) (is : List A) → IsPart bs cs → list_any test (chosen bs is) ≡ true → list_any test (chosen cs is) ≡ true
unfolding chosen IsPart
more_met test [] [] [] p met = met
more_met test [] [] (i ∷ is) p met = met
more_met test (b ∷ bs) (c ∷ cs) [] p met = met
more_met test [] (c ∷ cs) is p met = elim p [ ]
more_met test (b ∷ bs) [] is p met = elim p [ ]
more_met test (true ∷ bs) (true ∷ cs) (i ∷ is) p met = either (test i) met (more_met test bs cs is p.1)
  where
    either : (t : Bool) → (t || list_any test (chosen bs is)) ≡ true → (list_any test (chosen bs is) ≡ true → list_any test (chosen cs is) ≡ true) → (t || list_any test (chosen cs is)) ≡ true
    either true h rest = refl
    either false h rest = rest h
more_met test (true ∷ bs) (false ∷ cs) (i ∷ is) p met = absurd (clash (p.0 refl))
  where
    clash : false ≡ true → ⊥
    clash h = grind (arith, common_steps)
more_met test (false ∷ bs) (true ∷ cs) (i ∷ is) p met = ap (λ b. test i || b) (more_met test bs cs is p.1 met) ∙ either (test i)
  where
    either : (t : Bool) → (t || true) ≡ true
    either true = refl
    either false = refl
more_met test (false ∷ bs) (false ∷ cs) (i ∷ is) p met = more_met test bs cs is p.1 met

-- The closure is part of each closed set that holds the seeds

pub closure_least : {A : Type 0} (meets : A → A → Bool) (seeds : List Bool) (line : List A) (cs : List Bool) → length seeds ≡ length line → IsClosed meets cs line → IsPart seeds cs → IsPart (closure meets seeds line) cs
unfolding closure IsClosed IsPart
closure_least meets [] [] [] size closed holds = tt
closure_least meets [] [] (c ∷ cs) size closed holds = elim holds [ ]
closure_least meets (s ∷ seeds) [] cs size closed holds = absurd (none (length seeds) size)
  where
    none : (k : ℕ) → suc k ≡ 0 → ⊥
    none k h = omega (arith, h)
closure_least meets [] (i ∷ is) cs size closed holds = absurd (none (length is) size)
  where
    none : (k : ℕ) → 0 ≡ suc k → ⊥
    none k h = omega (arith, h)
closure_least meets (s ∷ seeds) (i ∷ is) [] size closed holds = elim holds [ ]
closure_least meets (s ∷ seeds) (i ∷ is) (c ∷ cs) size closed holds =
    let rest : IsPart (closure meets seeds is) cs = closure_least meets seeds is cs (let total = size in omega (arith, total)) closed.1 holds.1 in
    ((λ e. by_flag rest c refl e), rest)
  where
    clash : (b : Bool) → b ≡ false → b ≡ true → ⊥
    clash b h k = grind (arith, common_steps)

    by_flag : IsPart (closure meets seeds is) cs → (b : Bool) → c ≡ b → (s || list_any (meets i) (chosen (closure meets seeds is) is)) ≡ true → c ≡ true
    by_flag rest true e h = e
    by_flag rest false e h = by_seed s refl h
      where
        by_seed : (t : Bool) → s ≡ t → (t || list_any (meets i) (chosen (closure meets seeds is) is)) ≡ true → c ≡ true
        by_seed true f h = holds.0 f
        by_seed false f h = absurd (clash (list_any (meets i) (chosen cs is)) (closed.0 e) (more_met (meets i) (closure meets seeds is) cs is rest h))

pub closure_size : {A : Type 0} (meets : A → A → Bool) (seeds : List Bool) (line : List A) → length (closure meets seeds line) ≡ length line
unfolding closure
closure_size meets seeds [] = refl
closure_size meets [] (i ∷ is) = ap suc (closure_size meets [] is)
closure_size meets (s ∷ seeds) (i ∷ is) = ap suc (closure_size meets seeds is)

-- it holds them
pub closure_holds : {A : Type 0} (meets : A → A → Bool) (seeds : List Bool) (line : List A) → length seeds ≡ length line → IsPart seeds (closure meets seeds line)
unfolding closure IsPart
closure_holds meets [] [] size = tt
closure_holds meets (s ∷ seeds) [] size = absurd (none (length seeds) size)
  where
    none : (k : ℕ) → suc k ≡ 0 → ⊥
    none k h = omega (arith, h)
closure_holds meets [] (i ∷ is) size = absurd (none (length is) size)
  where
    none : (k : ℕ) → 0 ≡ suc k → ⊥
    none k h = omega (arith, h)
closure_holds meets (s ∷ seeds) (i ∷ is) size = (λ e. first s (list_any (meets i) (chosen (closure meets seeds is) is)) e, closure_holds meets seeds is (let total = size in omega (arith, total)))
  where
    first : (a b : Bool) → a ≡ true → (a || b) ≡ true
    first a b h = grind (arith, common_steps)

-- with more seeds it is no smaller
pub closure_more : {A : Type 0} (meets : A → A → Bool) (seeds more : List Bool) (line : List A) → length seeds ≡ length line → length more ≡ length line → IsPart seeds more → IsPart (closure meets seeds line) (closure meets more line)
closure_more meets seeds more line size longer p = closure_least meets seeds line (closure meets more line) size (closure_closed meets more line) (part_of_part seeds more (closure meets more line) p (closure_holds meets more line longer))

-- Two sets together

pub either_size : (bs cs : List Bool) → length bs ≡ length cs → length (either_of bs cs) ≡ length bs
unfolding either_of
either_size [] [] size = refl
either_size [] (c ∷ cs) size = absurd (none (length cs) size)
  where
    none : (k : ℕ) → 0 ≡ suc k → ⊥
    none k h = omega (arith, h)
either_size (b ∷ bs) [] size = refl
either_size (b ∷ bs) (c ∷ cs) size = ap suc (either_size bs cs (let total = size in omega (arith, total)))

pub either_first : (bs cs : List Bool) → length bs ≡ length cs → IsPart bs (either_of bs cs)
unfolding either_of IsPart
either_first [] [] size = tt
either_first [] (c ∷ cs) size = absurd (none (length cs) size)
  where
    none : (k : ℕ) → 0 ≡ suc k → ⊥
    none k h = omega (arith, h)
either_first (b ∷ bs) [] size = part_itself (b ∷ bs)
either_first (b ∷ bs) (c ∷ cs) size = (λ e. ap (λ x. x || c) e, either_first bs cs (let total = size in omega (arith, total)))

pub either_second : (bs cs : List Bool) → length bs ≡ length cs → IsPart cs (either_of bs cs)
unfolding either_of IsPart
either_second [] cs size = part_itself cs
either_second (b ∷ bs) [] size = absurd (none (length bs) size)
  where
    none : (k : ℕ) → suc k ≡ 0 → ⊥
    none k h = omega (arith, h)
either_second (b ∷ bs) (c ∷ cs) size = (λ e. second b c e, either_second bs cs (let total = size in omega (arith, total)))
  where
    second : (a b : Bool) → b ≡ true → (a || b) ≡ true
    second a b h = grind (arith, common_steps)

pub either_in : (bs cs ds : List Bool) → IsPart bs ds → IsPart cs ds → IsPart (either_of bs cs) ds
unfolding either_of IsPart
either_in [] cs ds p q = q
either_in (b ∷ bs) [] ds p q = p
either_in (b ∷ bs) (c ∷ cs) [] p q = elim p [ ]
either_in (b ∷ bs) (c ∷ cs) (d ∷ ds) p q = (λ e. both b c d p.0 q.0 e, either_in bs cs ds p.1 q.1)
  where
    both : (a b c : Bool) → (a ≡ true → c ≡ true) → (b ≡ true → c ≡ true) → (a || b) ≡ true → c ≡ true
    both true b c h k e = h refl
    both false b c h k e = k e

pub map_part : {A : Type 0} (p q : A → Bool) (is : List A) → ((i : A) → p i ≡ true → q i ≡ true) → IsPart (map p is) (map q is)
unfolding IsPart
map_part p q [] each = tt
map_part p q (i ∷ is) each = (each i, map_part p q is each)

-- How many items a set has

unfoldable count : List Bool → ℕ
count [] = 0
count (b ∷ bs) = if b then count bs + 1 else count bs

count_most : (bs : List Bool) → count bs ≤ length bs
unfolding count
count_most [] = omega arith
count_most (true ∷ bs) = let rest = count_most bs in omega (arith, rest)
count_most (false ∷ bs) = let rest = count_most bs in omega (arith, rest)

-- a part has no more, and is the same where it has as many
count_part : (bs cs : List Bool) → IsPart bs cs → count bs ≤ count cs
unfolding count IsPart
count_part [] [] p = omega arith
count_part [] (c ∷ cs) p = elim p [ ]
count_part (false ∷ bs) [] p = elim p [ ]
count_part (true ∷ bs) [] p = elim p [ ]
count_part (true ∷ bs) (true ∷ cs) p = let rest = count_part bs cs p.1 in omega (arith, rest)
count_part (true ∷ bs) (false ∷ cs) p = absurd (clash (p.0 refl))
  where
    clash : false ≡ true → ⊥
    clash h = grind (arith, common_steps)
count_part (false ∷ bs) (true ∷ cs) p = let rest = count_part bs cs p.1 in omega (arith, rest)
count_part (false ∷ bs) (false ∷ cs) p = count_part bs cs p.1

same_count : (bs cs : List Bool) → IsPart bs cs → count cs ≤ count bs → cs ≡ bs
unfolding count IsPart
same_count [] [] p less = refl
same_count [] (c ∷ cs) p less = elim p [ ]
same_count (false ∷ bs) [] p less = elim p [ ]
same_count (true ∷ bs) [] p less = elim p [ ]
same_count (true ∷ bs) (true ∷ cs) p less = ap (λ l. true ∷ l) (same_count bs cs p.1 (omega (arith, less)))
same_count (true ∷ bs) (false ∷ cs) p less = absurd (clash (p.0 refl))
  where
    clash : false ≡ true → ⊥
    clash h = grind (arith, common_steps)
same_count (false ∷ bs) (true ∷ cs) p less = let rest = count_part bs cs p.1 in absurd (omega (arith, less, rest))
same_count (false ∷ bs) (false ∷ cs) p less = ap (λ l. false ∷ l) (same_count bs cs p.1 less)

-- Growing

told_size : {A : Type 0} (base : List Bool) (bars : List Bool → A → Bool) (line : List A) (bs : List Bool) → length base ≡ length line → length (either_of base (map (bars bs) line)) ≡ length line
told_size base bars line bs size = either_size base (map (bars bs) line) (size ∙ sym (length-map line (bars bs))) ∙ size

wider_more : {A : Type 0} (meets : A → A → Bool) (base : List Bool) (bars : List Bool → A → Bool) (line : List A) (bs cs : List Bool) → length base ≡ length line → BarsRise bars → IsPart bs cs → IsPart (wider meets base bars line bs) (wider meets base bars line cs)
wider_more meets base bars line bs cs size rises p =
    closure_more meets (either_of base (map (bars bs) line)) (either_of base (map (bars cs) line)) line (told_size base bars line bs size) (told_size base bars line cs size)
    (either_in base (map (bars bs) line) (either_of base (map (bars cs) line)) (either_first base (map (bars cs) line) (size ∙ sym (length-map line (bars cs))))
    (part_of_part (map (bars bs) line) (map (bars cs) line) (either_of base (map (bars cs) line)) (map_part (bars bs) (bars cs) line (λ i. rises bs cs i p)) (either_second base (map (bars cs) line) (size ∙ sym (length-map line (bars cs))))))

-- as many turns as these items: each turn's set is part of the next one
turned : {A : Type 0} (meets : A → A → Bool) (base : List Bool) (bars : List Bool → A → Bool) (line turns : List A) (bs : List Bool) → length base ≡ length line → BarsRise bars → IsPart bs (wider meets base bars line bs)
    → IsPart (widened meets base bars line bs turns) (wider meets base bars line (widened meets base bars line bs turns))
turned meets base bars line [] bs size rises p = p
turned meets base bars line (t ∷ ts) bs size rises p = turned meets base bars line ts (wider meets base bars line bs) size rises (wider_more meets base bars line bs (wider meets base bars line bs) size rises p)

-- a set that stays as it is stays so
steady : {A : Type 0} (meets : A → A → Bool) (base : List Bool) (bars : List Bool → A → Bool) (line turns : List A) (bs : List Bool) → wider meets base bars line bs ≡ bs
    → wider meets base bars line (widened meets base bars line bs turns) ≡ widened meets base bars line bs turns
steady meets base bars line [] bs same = same
steady meets base bars line (t ∷ ts) bs same = steady meets base bars line ts (wider meets base bars line bs) (ap (wider meets base bars line) same)

-- .. and stays as it is, or has as many items as there were turns more
steady_or_more : {A : Type 0} (meets : A → A → Bool) (base : List Bool) (bars : List Bool → A → Bool) (line turns : List A) (bs : List Bool) (k : ℕ) → length base ≡ length line → BarsRise bars → IsPart bs (wider meets base bars line bs) → k ≤ count bs
    → (wider meets base bars line (widened meets base bars line bs turns) ≡ widened meets base bars line bs turns) ⊎ (k + length turns ≤ count (widened meets base bars line bs turns))
steady_or_more meets base bars line [] bs k size rises p low = inr (omega (arith, low))
steady_or_more {A = A} meets base bars line (t ∷ ts) bs k size rises p low = by_size (nat_le (count (next bs)) (count bs)) refl (λ low'. steady_or_more meets base bars line ts (next bs) (k + 1) size rises (wider_more meets base bars line bs (next bs) size rises p) low')
  where
    next : List Bool → List Bool
    next cs = wider meets base bars line cs

    less : (a b : ℕ) → nat_le a b ≡ true → a ≤ b
    less a b h = grind (arith, common_steps)

    more : (a b : ℕ) → nat_le a b ≡ false → b + 1 ≤ a
    more a b h = grind (arith, common_steps)

    by_size : (b : Bool) → nat_le (count (next bs)) (count bs) ≡ b
        → (k + 1 ≤ count (next bs) → (next (fold (λ cs i. next cs) (next bs) ts) ≡ fold (λ cs i. next cs) (next bs) ts) ⊎ (k + 1 + length ts ≤ count (fold (λ cs i. next cs) (next bs) ts)))
        → (next (fold (λ cs i. next cs) (next bs) ts) ≡ fold (λ cs i. next cs) (next bs) ts) ⊎ (k + suc (length ts) ≤ count (fold (λ cs i. next cs) (next bs) ts))
    by_size true e rest = inl (steady meets base bars line ts (next bs) (ap next (same_count bs (next bs) p (less (count (next bs)) (count bs) e))))
    by_size false e rest = elim (rest (let one = more (count (next bs)) (count bs) e in omega (arith, one, low))) [
      | inl same ↦ inl same
      | inr high ↦ inr (omega (arith, high))
    ]

-- a set has each item where it has as many as the line
all_count : (bs cs : List Bool) → length cs ≡ length bs → IsPart bs cs → length bs ≤ count bs → cs ≡ bs
all_count bs cs size p all = same_count bs cs p (let most = count_most cs in omega (arith, most, size, all))

-- the base alone is part of the first turn's set
begins : {A : Type 0} (meets : A → A → Bool) (base : List Bool) (bars : List Bool → A → Bool) (line : List A) → length base ≡ length line → IsPart (closure meets base line) (wider meets base bars line (closure meets base line))
begins meets base bars line size =
    closure_more meets base (either_of base (map (bars (closure meets base line)) line)) line size (told_size base bars line (closure meets base line) size)
    (either_first base (map (bars (closure meets base line)) line) (size ∙ sym (length-map line (bars (closure meets base line)))))

-- after as many turns as the line has items one more changes nothing
pub grown_steady : {A : Type 0} (meets : A → A → Bool) (base : List Bool) (bars : List Bool → A → Bool) (line : List A) → length base ≡ length line → BarsRise bars → wider meets base bars line (grown meets base bars line) ≡ grown meets base bars line
grown_steady {A = A} meets base bars line sized rises = elim (steady_or_more meets base bars line line start 0 sized rises (begins meets base bars line sized) (omega arith)) [
  | inl same ↦ same
  | inr high ↦ all_count last (wider meets base bars line last) (size ∙ sym length_last) (turned meets base bars line line start sized rises (begins meets base bars line sized)) (let long = length_last in omega (arith, high, long))
]
  where
    start : List Bool
    start = closure meets base line

    last : List Bool
    last = grown meets base bars line

    size : length (wider meets base bars line last) ≡ length line
    size = closure_size meets (either_of base (map (bars last) line)) line

    length_turns : (turns : List A) (bs : List Bool) → length bs ≡ length line → length (widened meets base bars line bs turns) ≡ length line
    length_turns [] bs e = e
    length_turns (t ∷ ts) bs e = length_turns ts (wider meets base bars line bs) (closure_size meets (either_of base (map (bars bs) line)) line)

    length_last : length last ≡ length line
    length_last = length_turns line start (closure_size meets base line)

-- each turn's set is part of each closed one that holds the base and fits
within : {A : Type 0} (meets : A → A → Bool) (base : List Bool) (bars : List Bool → A → Bool) (line turns : List A) (bs cs : List Bool) → length base ≡ length line → BarsRise bars → IsFitting meets base bars line cs → IsPart bs cs → IsPart (widened meets base bars line bs turns) cs
within meets base bars line [] bs cs size rises fit p = p
within meets base bars line (t ∷ ts) bs cs size rises fit p =
    within meets base bars line ts (wider meets base bars line bs) cs size rises fit
    (part_of_part (wider meets base bars line bs) (wider meets base bars line cs) cs (wider_more meets base bars line bs cs size rises p)
    (closure_least meets (either_of base (map (bars cs) line)) line cs (told_size base bars line cs size) fit.closed (either_in base (map (bars cs) line) cs fit.holds fit.fits)))

-- the set that grows is the least one that fits
pub grown_least : {A : Type 0} (meets : A → A → Bool) (base : List Bool) (bars : List Bool → A → Bool) (line : List A) → length base ≡ length line → BarsRise bars → IsLeast meets base bars line (grown meets base bars line)
grown_least meets base bars line size rises =
    record {
      fitting = record {
        closed = subst (λ bs. IsClosed meets bs line) same (closure_closed meets seeds line);
        holds = subst (IsPart base) same (part_of_part base seeds (wider meets base bars line last) (either_first base (map (bars last) line) mapped) all);
        fits = subst (IsPart (map (bars last) line)) same (part_of_part (map (bars last) line) seeds (wider meets base bars line last) (either_second base (map (bars last) line) mapped) all);
      };
      least = λ cs fit. within meets base bars line line (closure meets base line) cs size rises fit (closure_least meets base line cs size fit.closed fit.holds);
    }
  where
    last : List Bool
    last = grown meets base bars line

    seeds : List Bool
    seeds = either_of base (map (bars last) line)

    mapped : length base ≡ length (map (bars last) line)
    mapped = size ∙ sym (length-map line (bars last))

    same : wider meets base bars line last ≡ last
    same = grown_steady meets base bars line size rises

    all : IsPart seeds (wider meets base bars line last)
    all = closure_holds meets seeds line (told_size base bars line last size)

-- two sets that are each the least one are one
pub same_least : {A : Type 0} (meets : A → A → Bool) (base : List Bool) (bars : List Bool → A → Bool) (line : List A) (bs cs : List Bool) → IsLeast meets base bars line bs → IsLeast meets base bars line cs → bs ≡ cs
same_least meets base bars line bs cs one other = same_count cs bs (other.least bs one.fitting) (count_part bs cs (one.least cs other.fitting))

-- the set that grows is closed
pub grown_closed : {A : Type 0} (meets : A → A → Bool) (base : List Bool) (bars : List Bool → A → Bool) (line : List A) → IsClosed meets (grown meets base bars line) line
grown_closed {A = A} meets base bars line = along line (closure meets base line) (closure_closed meets base line)
  where
    along : (turns : List A) (bs : List Bool) → IsClosed meets bs line → IsClosed meets (widened meets base bars line bs turns) line
    along [] bs closed = closed
    along (t ∷ ts) bs closed = along ts (wider meets base bars line bs) (closure_closed meets (either_of base (map (bars bs) line)) line)

-- Tests and counts of a line that is parted stay

pub rearranged_any : {A : Type 0} (p : A → Bool) (bs : List Bool) (line : List A) → list_any p (rearranged bs line) ≡ list_any p line
unfolding chosen others
rearranged_any p bs [] = refl
rearranged_any p [] (i ∷ is) = refl
rearranged_any p (true ∷ bs) (i ∷ is) = ap (λ b. p i || b) (rearranged_any p bs is)
rearranged_any p (false ∷ bs) (i ∷ is) = list_any-append p (chosen bs is) (i ∷ others bs is) ∙ turn (list_any p (chosen bs is)) (p i) (list_any p (others bs is)) ∙ ap (λ b. p i || b) (sym (list_any-append p (chosen bs is) (others bs is)) ∙ rearranged_any p bs is)
  where
    turn : (a b c : Bool) → (a || (b || c)) ≡ (b || (a || c))
    turn a b c = grind (arith, common_steps)

pub rearranged_count : {A : Type 0} (p : A → Bool) (bs : List Bool) (line : List A) → count_by p (rearranged bs line) ≡ count_by p line
unfolding chosen others
rearranged_count p bs [] = refl
rearranged_count p [] (i ∷ is) = refl
rearranged_count p (true ∷ bs) (i ∷ is) = sum_by-cons (λ y. cond (p y) 1 0) i (rearranged bs is) ∙ ap (λ k. cond (p i) 1 0 + k) (rearranged_count p bs is) ∙ sym (sum_by-cons (λ y. cond (p y) 1 0) i is)
rearranged_count {A = A} p (false ∷ bs) (i ∷ is) = middle (chosen bs is) (others bs is) ∙ ap (λ k. cond (p i) 1 0 + k) (rearranged_count p bs is) ∙ sym (sum_by-cons (λ y. cond (p y) 1 0) i is)
  where
    middle : (a b : List A) → count_by p (a ++ i ∷ b) ≡ cond (p i) 1 0 + count_by p (a ++ b)
    middle [] b = sum_by-cons (λ y. cond (p y) 1 0) i b
    middle (x ∷ a) b = let one = sum_by-cons (λ y. cond (p y) 1 0) x (a ++ i ∷ b) in let two = sum_by-cons (λ y. cond (p y) 1 0) x (a ++ b) in let rest = middle a b in omega (arith, one, two, rest)

-- the set that grows holds the base
pub grown_holds : {A : Type 0} (meets : A → A → Bool) (base : List Bool) (bars : List Bool → A → Bool) (line : List A) → length base ≡ length line → IsPart base (grown meets base bars line)
grown_holds {A = A} meets base bars line size = along line (closure meets base line) (closure_holds meets base line size)
  where
    along : (turns : List A) (bs : List Bool) → IsPart base bs → IsPart base (widened meets base bars line bs turns)
    along [] bs p = p
    along (t ∷ ts) bs p =
        along ts (wider meets base bars line bs) (part_of_part base (either_of base (map (bars bs) line)) (wider meets base bars line bs)
        (either_first base (map (bars bs) line) (size ∙ sym (length-map line (bars bs))))
        (closure_holds meets (either_of base (map (bars bs) line)) line (told_size base bars line bs size)))
