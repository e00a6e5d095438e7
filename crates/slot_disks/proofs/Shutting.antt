-- What a crash leaves while the gate after the open slots is shut, and what stands then.
use Rattle.slot_disks.proofs.Choices.{if_both, if_not_first, if_not_second}
use Rattle.slot_disks.proofs.OpenSlots.{get_after, kept_shut, kept_slots, open_before, open_short, slots-length}
use Rattle.slot_disks.proofs.Prelude.{AreSlots, Found, Holds, IsFound, IsSettled, LeavesThis, List, Some, Torn, [], ap, append-nil, append_assoc, arith, drop, false, inl, inr, is_to_shut, length, length-append, length-drop, nat_lt, nat_tests, open_slots, slice_get, slots_of, subst, sym, take, take-append-drop, take_at, true, with_shut_gate, ℕ, ◌*◌, ◌++◌, ◌+◌, ◌-◌, ◌<◌, ◌==◌, ◌∙◌, ◌∷◌, ◌≡◌, ◌≢◌, ◌≤◌, ◌⊎◌}

not_one : (gate : ℕ) → gate ≢ 1 → (gate == 1) ≡ false
not_one gate shut = grind (arith, nat_tests, shut)

-- where the gate is not to be shut nothing changes
pub stays_shut : (size most : ℕ) (seen : List ℕ) (found : Found) → IsFound size most seen found → (found.is_shut ≡ true) ⊎ (most ≤ found.count) → seen ≡ with_shut_gate size most seen
stays_shut size most seen found is (inl e) =
    let s = is.shut e in
    let bodies = open_slots size most seen in
    let gate : slice_get seen (length bodies * (size + 1)) ≡ Some s.gate =
    (λ i. slice_get (s.is i) (sym (slots-length size bodies s.sizes) i)) ∙ get_after (slots_of bodies) (s.gate ∷ s.rest) in
    let shut : is_to_shut (slice_get seen (length bodies * (size + 1))) ≡ false = ap is_to_shut gate ∙ not_one s.gate s.shut in
    sym (if_not_second (nat_lt (length bodies) most) _ _ _ shut)
stays_shut size most seen found is (inr le) =
    let full : nat_lt (length (open_slots size most seen)) most ≡ false = grind (arith, nat_tests, le, is.counts) in
    sym (if_not_first _ _ _ _ full)

module _ (size most : ℕ) (seen : List ℕ) (found : Found) (is : IsFound size most seen found) (not_shut : found.is_shut ≡ false) (room : found.count < most) where
  at : ℕ
  at = found.count * (size + 1)

  until : length (slots_of (open_slots size most seen)) ≡ found.count * (size + 1)
  until = slots-length size (open_slots size most seen) is.sizes ∙ ap (λ n. n * (size + 1)) (sym is.counts)

  sum : length seen ≡ found.count * (size + 1) + length is.rest
  sum = omega (arith, ap length is.is, length-append (slots_of (open_slots size most seen)) is.rest, until)

  pub shuts_at : found.count * (size + 1) ≤ length seen
  shuts_at = omega (arith, sum)

  front : take (found.count * (size + 1)) seen ≡ slots_of (open_slots size most seen)
  front = ap (λ l. take (found.count * (size + 1)) l) is.is ∙ take_at (slots_of (open_slots size most seen)) is.rest (found.count * (size + 1)) until

  pub torn_shut : (c : List ℕ) → Torn (found.count * (size + 1)) 1 seen c → open_slots size most c ≡ open_slots size most seen
  torn_shut c torn =
      let at = found.count * (size + 1) in
      let whole : c ≡ slots_of (open_slots size most seen) ++ drop at c = sym (take-append-drop at c) ∙ ap (λ l. l ++ drop at c) (torn.before ∙ front) in
      let left : length (drop at c) ≤ size + 1 = omega (arith, length-drop at c, torn.no_longer, sum, is.short not_shut room) in
      ap (λ l. open_slots size most l) whole
      ∙ open_before size most (most - found.count) (open_slots size most seen) (drop at c) is.sizes (omega (arith, is.few, is.counts)) (λ h. omega (arith, is.some (omega (arith, h, is.counts)), length-drop at c, torn.no_shorter, sum)) (open_short size (most - found.count) (drop at c) left)

  pub settles_shut : (c : List ℕ) (images : List ℕ → Type 0) → Holds seen (found.count * (size + 1)) (0 ∷ []) c → LeavesThis c images → (open_slots size most c ≡ open_slots size most seen) × IsSettled size most found.count c images
  settles_shut c images holds only =
      let at = found.count * (size + 1) in
      let bodies = open_slots size most seen in
      let rest = drop (at + 1) seen in
      let whole : c ≡ slots_of bodies ++ 0 ∷ rest = holds ∙ ap (λ l. l ++ (0 ∷ []) ++ rest) front ∙ append_assoc (slots_of bodies) (0 ∷ []) rest in
      let same : open_slots size most c ≡ bodies =
      ap (λ l. open_slots size most l) whole ∙ kept_slots size most (most - found.count) bodies 0 rest is.sizes (omega (arith, is.few, is.counts)) ∙ ap (λ l. bodies ++ l) (kept_shut size (most - found.count) 0 rest (λ e. omega (arith, e))) ∙ append-nil bodies in (
        same,
        record {
          slots = λ _. subst (λ l. AreSlots size l c) (sym same) (record { gate = 0; rest = rest; is = whole; shut = λ e. omega (arith, e); sizes = is.sizes });
          counts = omega (arith, is.counts, ap length same);
          durable = only;
        },
      )

  pub shuts : (c : List ℕ) → Holds seen (found.count * (size + 1)) (0 ∷ []) c → c ≡ with_shut_gate size most seen
  shuts c holds =
      let bodies = open_slots size most seen in
      let more : nat_lt (length bodies) most ≡ true = grind (arith, nat_tests, room, is.counts) in
      let to_shut : is_to_shut (slice_get seen (length bodies * (size + 1))) ≡ true = ap (λ n. is_to_shut (slice_get seen (n * (size + 1)))) (sym is.counts) ∙ is.to_shut not_shut room in
      let wrote : c ≡ take (found.count * (size + 1)) seen ++ 0 ∷ drop (found.count * (size + 1) + 1) seen = holds ∙ append_assoc (take (found.count * (size + 1)) seen) (0 ∷ []) (drop (found.count * (size + 1) + 1) seen) in
      let here = λ (n : ℕ). take (n * (size + 1)) seen ++ 0 ∷ drop (n * (size + 1) + 1) seen in
      wrote
      ∙ ap here is.counts
      ∙ sym (if_both (nat_lt (length bodies) most) (is_to_shut (slice_get seen (length bodies * (size + 1)))) (here (length bodies)) seen more to_shut)
