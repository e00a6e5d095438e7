-- A group of slots is written, and what a crash leaves of it.
use Rattle.slot_disks.proofs.OpenSlots.{fewer_slots, kept_shut, kept_slots, slots-length, slots_append}
use Rattle.slot_disks.proofs.Prelude.{All, All-append, AreSlots, Err, Holds, IsGroup, IsOldOrAll, IsSettled, LeavesThis, List, Ok, OnOk, Result, Torn, [], ap, append-nil, append_assoc, arith, drop, drop_at, drop_more, get_or, inl, inr, length, length-append, length-take-le, open_slots, slots_of, subst, sym, take, take-append-drop, take_at, take_more, with_group, ℕ, ◌*◌, ◌++◌, ◌+◌, ◌-◌, ◌<◌, ◌∙◌, ◌∷◌, ◌≡◌, ◌≢◌, ◌≤◌, ◌⊎◌}
use Rattle.std.proofs.lemmas.Bool.{cases_eq}

module _ (size most count : ℕ) (bodies : List (List ℕ)) (sizes : All (λ w. length w ≡ size) bodies) (counts : count ≡ length bodies) (room : count < most) where
  at_is : length (slots_of bodies) ≡ count * (size + 1)
  at_is = slots-length size bodies sizes ∙ ap (λ n. n * (size + 1)) (sym counts)

  kept_here : (gate : ℕ) (rest : List ℕ) → gate ≢ 1 → open_slots size most (slots_of bodies ++ gate ∷ rest) ≡ bodies
  kept_here gate rest shut = kept_slots size most (most - count) bodies gate rest sizes (omega (arith, counts, room)) ∙ ap (λ l. bodies ++ l) (kept_shut size (most - count) gate rest shut) ∙ append-nil bodies

  -- the bytes up to the gate
  front : (gate : ℕ) (rest : List ℕ) → take (count * (size + 1) + 1) (slots_of bodies ++ gate ∷ rest) ≡ slots_of bodies ++ gate ∷ []
  front gate rest =
      ap (λ l. take (count * (size + 1) + 1) l) (sym (append_assoc (slots_of bodies) (gate ∷ []) rest))
      ∙ take_at (slots_of bodies ++ gate ∷ []) rest (count * (size + 1) + 1) (omega (arith, at_is, length-append (slots_of bodies) (gate ∷ [])))

  back : (gate : ℕ) (rest : List ℕ) → drop (count * (size + 1) + 1) (slots_of bodies ++ gate ∷ rest) ≡ rest
  back gate rest =
      ap (λ l. drop (count * (size + 1) + 1) l) (sym (append_assoc (slots_of bodies) (gate ∷ []) rest))
      ∙ drop_at (slots_of bodies ++ gate ∷ []) rest (count * (size + 1) + 1) (omega (arith, at_is, length-append (slots_of bodies) (gate ∷ [])))

  -- the shut gate stands in each outcome of the first write
  torn_behind : (n : ℕ) (seen c : List ℕ) → AreSlots size bodies seen → Torn (count * (size + 1) + 1) n seen c → open_slots size most c ≡ bodies
  torn_behind n seen c slots torn =
      let until = count * (size + 1) + 1 in
      let begins : take until c ≡ slots_of bodies ++ slots.gate ∷ [] = torn.before ∙ ap (λ l. take until l) slots.is ∙ front slots.gate slots.rest in
      let whole : c ≡ slots_of bodies ++ slots.gate ∷ drop until c = sym (take-append-drop until c) ∙ ap (λ l. l ++ drop until c) begins ∙ append_assoc (slots_of bodies) (slots.gate ∷ []) (drop until c) in
      ap (λ l. open_slots size most l) whole ∙ kept_here slots.gate (drop until c) slots.shut

  -- the group is there, after its shut gate
  pub IsStaged : List ℕ → List ℕ → Type 0
  IsStaged written c = (gate : ℕ) × (tail : List ℕ) × (c ≡ slots_of bodies ++ gate ∷ (written ++ tail))

  written_behind : (written seen c : List ℕ) → AreSlots size bodies seen → Holds seen (count * (size + 1) + 1) written c → IsStaged written c
  unfolding IsStaged
  written_behind written seen c slots holds =
      let until = count * (size + 1) + 1 in
      let tail = drop (until + length written) seen in
      let begins : take until seen ≡ slots_of bodies ++ slots.gate ∷ [] = ap (λ l. take until l) slots.is ∙ front slots.gate slots.rest in (
        slots.gate,
        tail,
        holds
            ∙ ap (λ l. l ++ written ++ tail) begins
            ∙ append_assoc (slots_of bodies ++ slots.gate ∷ []) written tail
            ∙ append_assoc (slots_of bodies) (slots.gate ∷ []) (written ++ tail),
      )

  -- both writes begin in the file
  pub at_gate : (seen : List ℕ) → AreSlots size bodies seen → count * (size + 1) + 1 ≤ length seen
  at_gate seen slots = omega (arith, ap length slots.is, length-append (slots_of bodies) (slots.gate ∷ slots.rest), at_is)

  pub at_staged : (written seen : List ℕ) → IsStaged written seen → count * (size + 1) ≤ length seen
  unfolding IsStaged
  at_staged written seen staged = omega (arith, ap length staged.2, length-append (slots_of bodies) (staged.0 ∷ (written ++ staged.1)), at_is)

  pub first_run : (new : List (List ℕ)) (seen c : List ℕ) (gate n : ℕ) → AreSlots size bodies seen → gate ≡ count * (size + 1) → Torn (gate + 1) n seen c → IsOldOrAll size most bodies new c
  first_run new seen c gate n slots is torn = inl (torn_behind n seen c slots (subst (λ k. Torn (k + 1) n seen c) is torn))

  pub staged_by : (written seen c : List ℕ) (gate : ℕ) → AreSlots size bodies seen → gate ≡ count * (size + 1) → Holds seen (gate + 1) written c → IsStaged written c
  staged_by written seen c gate slots is holds = written_behind written seen c slots (subst (λ k. Holds seen (k + 1) written c) is holds)

  module _ (new : List (List ℕ)) (after : List ℕ) (is_group : IsGroup size after new) (fits : count * (size + 1) + length after ≤ most * (size + 1)) where
    all : All (λ w. length w ≡ size) (bodies ++ new)
    all = All-append (λ w. length w ≡ size) bodies new sizes is_group.sizes

    sum : length (bodies ++ new) ≡ count + length new
    sum = omega (arith, counts, length-append bodies new)

    -- all of them fit
    fewer : count + length new ≤ most
    fewer =
        let bytes : length after ≡ length (slots_of new) = omega (arith, ap length is_group.is, length-append (slots_of new) (0 ∷ [])) in
        let both : length (slots_of (bodies ++ new)) ≡ count * (size + 1) + length after = ap length (slots_append bodies new) ∙ omega (arith, length-append (slots_of bodies) (slots_of new), at_is, bytes) in
        let slots : length (slots_of (bodies ++ new)) ≡ (count + length new) * (size + 1) = slots-length size (bodies ++ new) all ∙ ap (λ n. n * (size + 1)) sum in
        fewer_slots (count + length new) most size (omega (arith, fits, both, slots))

    few : most ≡ length (bodies ++ new) + (most - (count + length new))
    few = omega (arith, sum, fewer)

    whole_is : (tail : List ℕ) → slots_of bodies ++ 1 ∷ (after ++ tail) ≡ slots_of (bodies ++ new) ++ 0 ∷ tail
    whole_is tail =
        ap (λ l. slots_of bodies ++ (l ++ tail)) is_group.is
        ∙ ap (λ l. slots_of bodies ++ l) (append_assoc (slots_of new) (0 ∷ []) tail)
        ∙ sym (append_assoc (slots_of bodies) (slots_of new) (0 ∷ tail))
        ∙ ap (λ l. l ++ 0 ∷ tail) (sym (slots_append bodies new))

    kept_all : (tail : List ℕ) → open_slots size most (slots_of (bodies ++ new) ++ 0 ∷ tail) ≡ bodies ++ new
    kept_all tail =
        kept_slots size most (most - (count + length new)) (bodies ++ new) 0 tail all few
        ∙ ap (λ l. (bodies ++ new) ++ l) (kept_shut size (most - (count + length new)) 0 tail (λ e. omega (arith, e)))
        ∙ append-nil (bodies ++ new)

    either : (gate : ℕ) (tail : List ℕ) → (gate ≡ 1) ⊎ (gate ≢ 1) → IsOldOrAll size most bodies new (slots_of bodies ++ gate ∷ (after ++ tail))
    either gate tail (inl is_one) = inr (ap (λ g. open_slots size most (slots_of bodies ++ g ∷ (after ++ tail))) is_one ∙ ap (open_slots size most) (whole_is tail) ∙ kept_all tail)
    either gate tail (inr shut) = inl (kept_here gate (after ++ tail) shut)

    -- the group stands whole in each outcome of the second write
    torn_gate : (seen c : List ℕ) → IsStaged after seen → Torn (count * (size + 1)) 1 seen c → IsOldOrAll size most bodies new c
    unfolding IsStaged
    torn_gate seen c staged torn =
        let here = count * (size + 1) in
        let old = staged.0 in
        let rest = after ++ staged.1 in
        let is = staged.2 in
        let gate = get_or c here 0 in
        let begins : take here c ≡ slots_of bodies = torn.before ∙ ap (λ l. take here l) is ∙ take_at (slots_of bodies) (old ∷ rest) here at_is in
        let long : here < length c = omega (arith, torn.no_shorter, ap length is, length-append (slots_of bodies) (old ∷ rest), at_is) in
        let ends : drop here c ≡ gate ∷ rest = drop_more c here 0 long ∙ ap (λ l. gate ∷ l) (torn.after ∙ ap (λ l. drop (here + 1) l) is ∙ back old rest) in
        let whole : c ≡ slots_of bodies ++ gate ∷ rest = sym (take-append-drop here c) ∙ ap (λ l. l ++ drop here c) begins ∙ ap (λ l. slots_of bodies ++ l) ends in
        subst (IsOldOrAll size most bodies new) (sym whole) (either gate staged.1 (cases_eq gate 1))

    pub second_run : (seen c : List ℕ) (gate : ℕ) → IsStaged after seen → gate ≡ count * (size + 1) → Torn gate 1 seen c → IsOldOrAll size most bodies new c
    second_run seen c gate staged is torn = torn_gate seen c staged (subst (λ k. Torn k 1 seen c) is torn)

    -- and then the gate is open
    written_gate : (seen c : List ℕ) → IsStaged after seen → Holds seen (count * (size + 1)) (1 ∷ []) c → (tail : List ℕ) × (c ≡ slots_of (bodies ++ new) ++ 0 ∷ tail)
    unfolding IsStaged
    written_gate seen c staged holds =
        let here = count * (size + 1) in
        let old = staged.0 in
        let rest = after ++ staged.1 in
        let begins : take here seen ≡ slots_of bodies = ap (λ l. take here l) staged.2 ∙ take_at (slots_of bodies) (old ∷ rest) here at_is in
        let ends : drop (here + 1) seen ≡ rest = ap (λ l. drop (here + 1) l) staged.2 ∙ back old rest in (
          staged.1,
          holds
              ∙ ap (λ l. l ++ (1 ∷ []) ++ drop (here + 1) seen) begins
              ∙ ap (λ l. slots_of bodies ++ (1 ∷ []) ++ l) ends
              ∙ append_assoc (slots_of bodies) (1 ∷ []) rest
              ∙ whole_is staged.1,
        )

    -- the file is settled again, with all of the group
    pub ends_settled : (old seen : List ℕ) (gate n : ℕ) (images : List ℕ → Type 0) → IsStaged after old → gate ≡ count * (size + 1) → n ≡ count + length new → Holds old gate (1 ∷ []) seen → LeavesThis seen images
        → (open_slots size most seen ≡ bodies ++ new) × IsSettled size most n seen images
    ends_settled old seen gate n images staged is sum holds only =
        let w = written_gate old seen staged (subst (λ k. Holds old k (1 ∷ []) seen) is holds) in
        let opened : open_slots size most seen ≡ bodies ++ new = ap (open_slots size most) w.1 ∙ kept_all w.0 in (
          opened,
          record {
            slots = λ more. subst (λ ws. AreSlots size ws seen) (sym opened) (record { gate = 0; rest = w.0; is = w.1; shut = λ e. omega (arith, e); sizes = all });
            counts = omega (arith, sum, counts, ap length opened, length-append bodies new);
            durable = only;
          },
        )

-- what both writes make of the file
pub two_writes : (here : ℕ) (after old mid new : List ℕ) → here < length old → Holds old (here + 1) after mid → Holds mid here (1 ∷ []) new → new ≡ with_group here after old
two_writes here after old mid new within first second =
    let gate = get_or old here 0 in
    let rest = after ++ drop (here + 1 + length after) old in
    let long : length (take here old) ≡ here = length-take-le here old (omega (arith, within)) in
    let left = drop (here + 1 + length after) old in
    let is : mid ≡ take here old ++ gate ∷ rest =
    first
    ∙ ap (λ l. l ++ after ++ left) (take_more old here 0 within)
    ∙ append_assoc (take here old ++ gate ∷ []) after left
    ∙ append_assoc (take here old) (gate ∷ []) rest in
    let begins : take here mid ≡ take here old = ap (λ l. take here l) is ∙ take_at (take here old) (gate ∷ rest) here long in
    let ends : drop (here + 1) mid ≡ rest =
    ap (λ l. drop (here + 1) l) (is ∙ sym (append_assoc (take here old) (gate ∷ []) rest))
    ∙ drop_at (take here old ++ gate ∷ []) rest (here + 1) (omega (arith, long, length-append (take here old) (gate ∷ []))) in
    second
    ∙ ap (λ l. l ++ (1 ∷ []) ++ drop (here + 1) mid) begins
    ∙ ap (λ l. take here old ++ (1 ∷ []) ++ l) ends
    ∙ append_assoc (take here old) (1 ∷ []) rest

-- the same, of a gate that is known by an equation
pub group_written : (here gate : ℕ) (after old mid new : List ℕ) → here < length old → gate ≡ here → Holds old (gate + 1) after mid → Holds mid gate (1 ∷ []) new → new ≡ with_group here after old
group_written here gate after old mid new within is first second =
    two_writes here after old mid new within (subst (λ k. Holds old (k + 1) after mid) is first) (subst (λ k. Holds mid k (1 ∷ []) new) is second)

-- what is known of a call that succeeded
pub on_ok : {U E : Type 0} (r : Result U E) (A B : Type 0) → OnOk r A → (A → B) → OnOk r B
on_ok (Ok u) A B a f = f a
on_ok (Err e) A B a f = tt

pub both_ok : {U E : Type 0} (r : Result U E) (A B C : Type 0) → OnOk r A → OnOk r B → (A → B → C) → OnOk r C
both_ok (Ok u) A B C a b f = f a b
both_ok (Err e) A B C a b f = tt
