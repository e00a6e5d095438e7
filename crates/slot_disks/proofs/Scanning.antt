-- What a scan of the slots knows.
use Rattle.slot_disks.proofs.OpenSlots.{get_after, kept_shut, kept_slots, one_size, open_before, open_front, open_short, slots-length, slots_push}
use Rattle.slot_disks.proofs.Prelude.{All, All-append, AreSlots, Found, IsFound, List, [], ap, append_assoc, arith, common_steps, drop, false, get_or, is_to_shut, length, length-append, length-drop, length-take, length-take-le, min, mul-le, nat_tests, open_slots, refl, slice_get, slots_of, subst, suc, suc-mul, sym, take, take-append-drop, take_all, true, true≢false, ℕ, ◌*◌, ◌++◌, ◌+◌, ◌-◌, ◌<◌, ◌∙◌, ◌∷◌, ◌≡◌, ◌≢◌, ◌≤◌}

-- slots with these bytes were read up to this place, and these bytes are left
pub record IsScannedTo (size place : ℕ) (bodies : List (List ℕ)) (bytes rest : List ℕ) : Type 0 where
  pub is : bytes ≡ slots_of bodies ++ rest
  pub sizes : All (λ body. length body ≡ size) bodies
  pub counts : length bodies ≡ place
  pub some : 0 < place → 0 < length rest

pub scan_first : (size : ℕ) (bytes : List ℕ) → IsScannedTo size 0 [] bytes bytes
scan_first size bytes = record {
  is = refl;
  sizes = λ k d within. absurd (omega (arith, within));
  counts = refl;
  some = λ more. absurd (omega (arith, more));
}

-- the first byte, and those behind it
parted : (rest behind : List ℕ) (gate : ℕ) → 0 < length rest → gate ≡ get_or rest 0 0 → behind ≡ take (length rest - 1) (drop 1 rest) → rest ≡ gate ∷ behind
parted [] behind gate some is left = absurd (omega (arith, some))
parted (x ∷ xs) behind gate some is left =
    let fits : length (x ∷ xs) - 1 ≡ length xs = omega arith in
    (λ i. sym is i ∷ (sym (take_all (length (x ∷ xs) - 1) xs (omega (arith, fits))) ∙ sym left) i)

module _ (size place : ℕ) (bodies : List (List ℕ)) (bytes rest behind : List ℕ) (so_far : IsScannedTo size place bodies bytes rest) (some : 0 < length rest) (is_open : get_or rest 0 0 ≡ 1) (parts_are : behind ≡ take (length rest - 1) (drop 1 rest)) (long : size < length behind) where
  parts : rest ≡ 1 ∷ behind
  parts = parted rest behind 1 some (sym is_open) parts_are

  -- one slot further
  pub scan_next : (left : List ℕ) → left ≡ take (length behind - size) (drop size behind) → IsScannedTo size (place + 1) (bodies ++ take size behind ∷ []) bytes left
  scan_next left is =
      let body = take size behind in
      let fits : length body ≡ size = length-take-le size behind (omega (arith, long)) in
      let all : drop size behind ≡ left = sym (take_all (length behind - size) (drop size behind) (omega (arith, length-drop size behind))) ∙ sym is in
      subst (IsScannedTo size (place + 1) (bodies ++ body ∷ []) bytes) all
      (record {
        is =
            so_far.is
            ∙ ap (λ l. slots_of bodies ++ l) (parts ∙ (λ i. 1 ∷ sym (take-append-drop size behind) i))
            ∙ sym (slots_push bodies body (drop size behind));
        sizes = All-append (λ body. length body ≡ size) bodies (body ∷ []) so_far.sizes (one_size size body fits);
        counts = omega (arith, so_far.counts, length-append bodies (body ∷ []));
        some = λ more. omega (arith, long, length-drop size behind);
      })

  -- the slot that is read next is open
  pub scan_sees : (most : ℕ) → place < most → open_slots size most bytes ≡ bodies ++ take size behind ∷ open_slots size (most - (place + 1)) (drop size behind)
  scan_sees most more =
      let m = most - (place + 1) in
      let opens : open_slots size (suc m) (1 ∷ behind) ≡ take size behind ∷ open_slots size m (drop size behind) = grind (arith, nat_tests, long) in
      ap (open_slots size most) (so_far.is ∙ ap (λ l. slots_of bodies ++ l) parts)
      ∙ kept_slots size most (suc m) bodies 1 behind so_far.sizes (omega (arith, so_far.counts, more))
      ∙ ap (λ l. bodies ++ l) opens

module _ (size most place : ℕ) (bodies : List (List ℕ)) (bytes rest : List ℕ) (so_far : IsScannedTo size place bodies bytes rest) (few : place ≤ most) (none : open_slots size (most - place) rest ≡ []) where
  opens : open_slots size most bytes ≡ bodies
  opens =
      ap (open_slots size most) so_far.is
      ∙ open_before size most (most - place) bodies rest so_far.sizes (omega (arith, so_far.counts, few)) (λ more. so_far.some (omega (arith, more, so_far.counts))) none

  is_all : bytes ≡ slots_of (open_slots size most bytes) ++ rest
  is_all = so_far.is ∙ ap (λ l. slots_of l ++ rest) (sym opens)

  all_sizes : All (λ body. length body ≡ size) (open_slots size most bytes)
  all_sizes = subst (All (λ body. length body ≡ size)) (sym opens) so_far.sizes

  gate_is : slice_get bytes (place * (size + 1)) ≡ slice_get rest 0
  gate_is =
      let until : length (slots_of bodies) ≡ place * (size + 1) = slots-length size bodies so_far.sizes ∙ ap (λ n. n * (size + 1)) so_far.counts in
      (λ i. slice_get (so_far.is i) (sym until i)) ∙ get_after (slots_of bodies) rest

  found_short : (place < most → length rest ≤ size + 1) → (place < most → is_to_shut (slice_get rest 0) ≡ true) → IsFound size most bytes (record { count = place; is_shut = false })
  found_short short to_shut = record {
    rest = rest;
    is = is_all;
    sizes = all_sizes;
    counts = omega (arith, ap length opens, so_far.counts);
    few = few;
    some = so_far.some;
    shut = λ e. absurd (true≢false (sym e));
    short = λ _ more. short more;
    to_shut = λ _ more. ap is_to_shut gate_is ∙ to_shut more;
  }

  found_shut : (gate : ℕ) (behind : List ℕ) → rest ≡ gate ∷ behind → gate ≢ 1 → IsFound size most bytes (record { count = place; is_shut = true })
  found_shut gate behind parts shut = record {
    rest = rest;
    is = is_all;
    sizes = all_sizes;
    counts = omega (arith, ap length opens, so_far.counts);
    few = few;
    some = so_far.some;
    shut = λ _. record { gate = gate; rest = behind; is = is_all ∙ ap (λ l. slots_of (open_slots size most bytes) ++ l) parts; shut = shut; sizes = all_sizes };
    short = λ e. absurd (true≢false e);
    to_shut = λ e. absurd (true≢false e);
  }

pub to_shut_missing : (rest : List ℕ) → length rest < 1 → is_to_shut (slice_get rest 0) ≡ true
to_shut_missing [] none = refl
to_shut_missing (x ∷ rest) none = absurd (omega (arith, none))

pub to_shut_open : (rest : List ℕ) → 0 < length rest → get_or rest 0 0 ≡ 1 → is_to_shut (slice_get rest 0) ≡ true
to_shut_open [] some is_open = absurd (omega (arith, some))
to_shut_open (x ∷ rest) some is_open = grind (arith, common_steps)

-- how a scan ends: at too little for a slot, at a gate that is not open, and after the last slot
pub ends_short : (size most place : ℕ) (bodies : List (List ℕ)) (bytes rest : List ℕ) → IsScannedTo size place bodies bytes rest → place ≤ most → length rest ≤ size + 1 → is_to_shut (slice_get rest 0) ≡ true
    → IsFound size most bytes (record { count = place; is_shut = false }) × (open_slots size most bytes ≡ bodies)
ends_short size most place bodies bytes rest so_far few short to_shut =
    let none = open_short size (most - place) rest short in
    (found_short size most place bodies bytes rest so_far few none (λ _. short) (λ _. to_shut), opens size most place bodies bytes rest so_far few none)

pub ends_shut : (size most place : ℕ) (bodies : List (List ℕ)) (bytes rest : List ℕ) → IsScannedTo size place bodies bytes rest → place ≤ most → 0 < length rest → get_or rest 0 0 ≢ 1
    → IsFound size most bytes (record { count = place; is_shut = true }) × (open_slots size most bytes ≡ bodies)
ends_shut size most place bodies bytes rest so_far few some shut =
    let behind = take (length rest - 1) (drop 1 rest) in
    let parts = parted rest behind (get_or rest 0 0) some refl refl in
    let none = ap (open_slots size (most - place)) parts ∙ kept_shut size (most - place) (get_or rest 0 0) behind shut in
    (found_shut size most place bodies bytes rest so_far few none (get_or rest 0 0) behind parts shut, opens size most place bodies bytes rest so_far few none)

pub ends_all : (size most place : ℕ) (bodies : List (List ℕ)) (bytes rest : List ℕ) → IsScannedTo size place bodies bytes rest → place ≡ most
    → IsFound size most bytes (record { count = most; is_shut = false }) × (open_slots size most bytes ≡ bodies)
ends_all size most place bodies bytes rest so_far all =
    let few : place ≤ most = omega (arith, all) in
    let left : most - place ≡ 0 = omega (arith, all) in
    let none : open_slots size (most - place) rest ≡ [] = ap (λ n. open_slots size n rest) left in
    (subst (λ n. IsFound size most bytes (record { count = n; is_shut = false })) all (found_short size most place bodies bytes rest so_far few none (λ more. absurd (omega (arith, all, more))) (λ more. absurd (omega (arith, all, more)))), opens size most place bodies bytes rest so_far few none)

-- what was found in the front of a file is found in the whole of it
pub found_whole : (size most n : ℕ) (front bytes : List ℕ) (found : Found) → n ≡ most * (size + 1) + 1 → front ≡ take n bytes → IsFound size most front found → IsFound size most bytes found
found_whole size most n front bytes found is cut f =
    let O = open_slots size most front in
    let left = drop n bytes in
    let same : O ≡ open_slots size most bytes = ap (open_slots size most) cut ∙ open_front size most n bytes is in
    let whole : bytes ≡ front ++ left = sym (take-append-drop n bytes) ∙ ap (λ l. l ++ left) (sym cut) in
    let until : length (slots_of O) ≡ found.count * (size + 1) = slots-length size O f.sizes ∙ ap (λ k. k * (size + 1)) (sym f.counts) in
    let fewer : length front ≡ min n (length bytes) = ap length cut ∙ length-take n bytes in
    let sum : length front ≡ found.count * (size + 1) + length f.rest = omega (arith, ap length f.is, length-append (slots_of O) f.rest, until) in
    let more_left : length (f.rest ++ left) ≡ length f.rest + (length bytes - n) = omega (arith, length-append f.rest left, length-drop n bytes) in
    record {
      rest = f.rest ++ left;
      is = whole ∙ ap (λ l. l ++ left) f.is ∙ append_assoc (slots_of O) f.rest left ∙ ap (λ l. slots_of l ++ (f.rest ++ left)) same;
      sizes = subst (All (λ body. length body ≡ size)) same f.sizes;
      counts = omega (arith, f.counts, ap length same);
      few = f.few;
      some = λ more. omega (arith, f.some more, more_left);
      shut = λ e. subst (λ l. AreSlots size l bytes) same (longer (f.shut e) whole);
      short = λ e more. omega (arith, f.short e more, more_left, fewer, sum, is, within (suc found.count) more, suc-mul found.count (size + 1));
      to_shut = λ e more.
          let all : length bytes ≤ n = omega (arith, f.short e more, fewer, sum, is, within (suc found.count) more, suc-mul found.count (size + 1)) in
          ap (λ l. is_to_shut (slice_get l (found.count * (size + 1)))) (sym (cut ∙ take_all n bytes all)) ∙ f.to_shut e more;
    }
  where
    longer : AreSlots size (open_slots size most front) front → bytes ≡ front ++ drop n bytes → AreSlots size (open_slots size most front) bytes
    longer s whole = record {
      gate = s.gate;
      rest = s.rest ++ drop n bytes;
      is = whole ∙ ap (λ l. l ++ drop n bytes) s.is ∙ append_assoc (slots_of (open_slots size most front)) (s.gate ∷ s.rest) (drop n bytes);
      shut = s.shut;
      sizes = s.sizes;
    }

    within : (k : ℕ) → k ≤ most → k * (size + 1) ≤ most * (size + 1)
    within k le = mul-le k (size + 1) most (size + 1) le (omega arith)
