-- What the file keeps once a group of calls, or the head, is written.
use Rattle.call_log.proofs.Reading.{calls_before, calls_length, good_head, of_append}
use Rattle.call_log.specs.CallLogs.{AddsCalls, BeginsWith, FindsAll, IsSameOrNew, KeepsCalls, KnowsCalls, LeavesCalls, LeavesNone, LeavesOldOrSame, call_slots}
use Rattle.call_log.specs.Heads.{head_bytes, head_difference, head_fault, head_in, head_sum, is_head}
use Rattle.call_log.specs.KeptCalls.{calls_in, calls_of, kept_calls, unless_fault, with_call}
use Rattle.call_log.specs.LogFiles.{IsRead}
use Rattle.call_log.specs.declared.faults.LogFault.TheVariants.{NotALog}
use Rattle.call_log.specs.declared.faults.LogFault.{LogFault}
use Rattle.call_log.specs.declared.heads.Head.{Head}
use Rattle.slot_disks.proofs.Cited.{kept_shut, one_size, slots-length, slots_append, then_on, weaker}
use Rattle.slot_disks.specs.Disks.{Holds, LeavesThis, Torn}
use Rattle.slot_disks.specs.SlotFiles.{AreSlots, IsGroup, IsOldOrAll, IsOldOrSame, IsSettled, slots_of}
use Rattle.slot_disks.specs.Slots.{open_slots}
use Rattle.logged_calls.specs.CallBytes.{call_bytes, calls_bytes, calls_from, front_call, with_first}
use Rattle.logged_calls.specs.Calls.{IsLoggable}
use Rattle.logged_calls.specs.declared.calls.Logged.{Logged}
use Rattle.std.proofs.Common.{All, List, None, Option, Some, [], ap, append_assoc, arith, drop, inl, inr, length, length-append, length-drop, map, refl, subst, suc, sym, take, true, w16, w32, w64, zero, ℕ, ◌*◌, ◌++◌, ◌+◌, ◌-◌, ◌<◌, ◌^◌, ◌≡◌, ◌≢◌, ◌∙◌, ◌∷◌, ◌⊎◌}
use Rattle.std.proofs.lemmas.Bool.{cases_eq}
use Rattle.std.proofs.lemmas.Grind.{common_steps}
use Rattle.std.proofs.lemmas.List.Elements.{All-tail}
use Rattle.std.proofs.lemmas.List.{append-nil, length-map, take_all}
use Rattle.std.proofs.lemmas.Nat.{from_le_bytes-to_le_bytes_2, from_le_bytes-to_le_bytes_4, from_le_bytes-to_le_bytes_8}
use Rattle.std.specs.Int.{from_le_bytes, to_le_bytes}
use Rattle.std.specs.Prelude.{Err, IfOk, Ok, Result, if◌then◌else◌, ◌==◌}

-- the law of the bytes of calls
abbrev pub ReadsAll : Type 0
ReadsAll = (calls : List Logged) → All IsLoggable calls → calls_from (calls_bytes calls) ≡ calls

first_is : (o : Option Logged) (call : Logged) → with_first o [] ≡ call ∷ [] → o ≡ Some call
first_is None call is = absurd (cc)
first_is (Some c) call is = let same : c ≡ call = cc in ap Some same

-- a call's slot is read as it
call_is : ReadsAll → (call : Logged) → IsLoggable call → front_call (call_bytes call) ≡ Some call
call_is law call loggable =
    let all = law (call ∷ []) one in
    let read : calls_from (call_bytes call) ≡ call ∷ [] = ap calls_from (sym (append-nil (call_bytes call))) ∙ all in
    first_is (front_call (call_bytes call)) call read
  where
    one : All IsLoggable (call ∷ [])
    one zero d within = loggable
    one (suc k) d within = absurd (omega (arith, within))

all_in : ReadsAll → (k : ℕ) (calls : List Logged) → All IsLoggable calls → calls_in k (map call_bytes calls) ≡ Ok calls
all_in law k [] all = refl
all_in law k (call ∷ calls) all =
    ap (λ o. with_call k o (calls_in (k + 1) (map call_bytes calls))) (call_is law call (all 0 call (omega arith)))
    ∙ ap (with_call k (Some call)) (all_in law (k + 1) calls (All-tail IsLoggable call calls all))

adds : ReadsAll → (head : Head) (bodies : List (List ℕ)) (calls added : List Logged) → 0 < length bodies → All IsLoggable added → calls_of head bodies ≡ Ok calls → calls_of head (bodies ++ map call_bytes added) ≡ Ok (calls ++ added)
adds law head [] calls added some all is = absurd (omega (arith, some))
adds law head (first ∷ bodies) calls added some all is =
    of_append head first bodies (map call_bytes added) calls is
    ∙ ap (calls_before calls) (all_in law (length bodies) added all)

call_sizes : (calls : List Logged) → All (λ body. length body ≡ 24) (map call_bytes calls)
call_sizes [] k d within = absurd (omega (arith, within))
call_sizes (call ∷ calls) zero d within = refl
call_sizes (call ∷ calls) (suc k) d within = call_sizes calls k d (omega (arith, within))

pub slots_size : (calls : List Logged) → length (call_slots calls) ≡ length calls * 25
slots_size calls = slots-length 24 (map call_bytes calls) (call_sizes calls) ∙ ap (λ n. n * 25) (length-map calls call_bytes)

-- one call more is pending
pub slots_more : (calls : List Logged) (call : Logged) (old a b new : List ℕ) (more : List Logged) → old ≡ call_slots calls → a ≡ old ++ 1 ∷ [] → b ≡ a ++ call_bytes call → new ≡ b → more ≡ calls ++ call ∷ [] → new ≡ call_slots more
slots_more calls call old a b new more was gate body is all =
    is
    ∙ body
    ∙ ap (λ l. l ++ call_bytes call) (gate ∙ ap (λ l. l ++ 1 ∷ []) was)
    ∙ append_assoc (call_slots calls) (1 ∷ []) (call_bytes call)
    ∙ ap (λ l. call_slots calls ++ 1 ∷ l) (sym (append-nil (call_bytes call)))
    ∙ sym (slots_append (map call_bytes calls) (call_bytes call ∷ []))
    ∙ ap slots_of (sym (maps calls))
    ∙ ap call_slots (sym all)
  where
    maps : (cs : List Logged) → map call_bytes (cs ++ call ∷ []) ≡ map call_bytes cs ++ call_bytes call ∷ []
    maps [] = refl
    maps (c ∷ cs) = ap (λ l. call_bytes c ∷ l) (maps cs)

-- what is written first
pub after_gate : (group : List ℕ) → take (length group - 1) (drop 1 group) ≡ drop 1 group
after_gate group = take_all (length group - 1) (drop 1 group) (omega (arith, length-drop 1 group))

-- the group that is written
pub calls_group : (pending : List Logged) (old group : List ℕ) → 0 < length pending → old ≡ call_slots pending → group ≡ old ++ 0 ∷ [] → IsGroup 24 (drop 1 group) (map call_bytes pending)
calls_group [] old group some was is = absurd (omega (arith, some))
calls_group (call ∷ calls) old group some was is = record { is = ap (λ l. 1 ∷ drop 1 l) (is ∙ ap (λ l. l ++ 0 ∷ []) was); sizes = call_sizes (call ∷ calls) }

pub group_size : (pending : List Logged) (old group : List ℕ) → old ≡ call_slots pending → group ≡ old ++ 0 ∷ [] → length group ≡ length pending * 25 + 1
group_size pending old group was is = ap length is ∙ length-append old (0 ∷ []) ∙ ap (λ l. length l + 1) was ∙ ap (λ n. n + 1) (slots_size pending)

module _ (law : ReadsAll) (head : Head) (most kept : ℕ) (pending : List Logged) (seen : List ℕ) (counts : kept + 1 ≡ length (open_slots 24 (most + 1) seen)) (loggable : All IsLoggable pending) where
  pub adds_calls : (c : List ℕ) → open_slots 24 (most + 1) c ≡ open_slots 24 (most + 1) seen ++ map call_bytes pending → AddsCalls (kept_calls head most seen) (kept_calls head most c) pending
  adds_calls c opened calls was = ap (calls_of head) opened ∙ adds law head (open_slots 24 (most + 1) seen) calls pending (omega (arith, counts)) loggable was

  pub keeps_calls : (calls : List Logged) (c : List ℕ) → kept_calls head most seen ≡ Ok calls → IsOldOrAll 24 (most + 1) (open_slots 24 (most + 1) seen) (map call_bytes pending) c → KeepsCalls head most calls pending c
  keeps_calls calls c was (inl same) = inl (ap (calls_of head) same ∙ was)
  keeps_calls calls c was (inr all) = inr (adds_calls c all calls was)

-- where nothing is pending, nothing is written
pub adds_none : (head : Head) (most : ℕ) (seen : List ℕ) (pending : List Logged) → length pending ≡ 0 → AddsCalls (kept_calls head most seen) (kept_calls head most seen) pending
adds_none head most seen [] none calls was = was ∙ ap Ok (sym (append-nil calls))
adds_none head most seen (c ∷ pending) none calls was = absurd (omega (arith, none))

-- the head
equal : (a b : ℕ) → a ≡ b → (a == b) ≡ true
equal a b e = grind (arith, common_steps)

same_head : (h : Head) → head_difference h h ≡ None
same_head h =
    let v = equal h.version h.version refl in
    let m = equal h.mode h.mode refl in
    let s = equal h.script h.script refl in
    grind (arith, common_steps, v, m, s)

pub head_round : (h : Head) → h.mode < 2 ^ 16 → h.version < 2 ^ 32 → h.script < 2 ^ 64 → head_sum h < 2 ^ 64 → head_fault h (head_bytes h) ≡ None
head_round h mode_fits version_fits script_fits sum_fits =
    let m : from_le_bytes w16 (to_le_bytes w16 h.mode) ≡ h.mode = from_le_bytes-to_le_bytes_2 h.mode mode_fits in
    let v : from_le_bytes w32 (to_le_bytes w32 h.version) ≡ h.version = from_le_bytes-to_le_bytes_4 h.version version_fits in
    let s : from_le_bytes w64 (to_le_bytes w64 h.script) ≡ h.script = from_le_bytes-to_le_bytes_8 h.script script_fits in
    let c : from_le_bytes w64 (to_le_bytes w64 (head_sum h)) ≡ head_sum h = from_le_bytes-to_le_bytes_8 (head_sum h) sum_fits in
    let found : head_in (head_bytes h) ≡ h = (λ i. record { version = v i; mode = m i; script = s i }) in
    let is : is_head (head_bytes h) ≡ true = equal _ _ (c ∙ ap head_sum (sym found)) in
    ap (λ b. if b then head_difference h (head_in (head_bytes h)) else Some NotALog) is
    ∙ ap (head_difference h) found
    ∙ same_head h

no_slots : (bodies : List (List ℕ)) → 0 ≡ length bodies → bodies ≡ []
no_slots [] none = refl
no_slots (b ∷ bodies) none = absurd (omega (arith, none))

-- the head's slot
pub head_group : (head : Head) (old a b group : List ℕ) → old ≡ [] → a ≡ old ++ 1 ∷ [] → b ≡ a ++ head_bytes head → group ≡ b ++ 0 ∷ [] → IsGroup 24 (drop 1 group) (head_bytes head ∷ [])
head_group head old a b group empty gate body is = record {
  is = ap (λ l. 1 ∷ drop 1 l) (is ∙ ap (λ l. l ++ 0 ∷ []) (body ∙ ap (λ l. l ++ head_bytes head) (gate ∙ ap (λ l. l ++ 1 ∷ []) empty)));
  sizes = one_size 24 (head_bytes head) refl;
}

pub head_size : (head : Head) (old a b group : List ℕ) → old ≡ [] → a ≡ old ++ 1 ∷ [] → b ≡ a ++ head_bytes head → group ≡ b ++ 0 ∷ [] → length group ≡ 26
head_size head old a b group empty gate body is = ap length (is ∙ ap (λ l. l ++ 0 ∷ []) (body ∙ ap (λ l. l ++ head_bytes head) (gate ∙ ap (λ l. l ++ 1 ∷ []) empty)))

module _ (head : Head) (most : ℕ) (seen : List ℕ) (good : head_fault head (head_bytes head) ≡ None) (counts : 0 ≡ length (open_slots 24 (most + 1) seen)) where
  pub begun : (c : List ℕ) → open_slots 24 (most + 1) c ≡ open_slots 24 (most + 1) seen ++ head_bytes head ∷ [] → LeavesNone head most c
  begun c opened =
      ap (calls_of head) (opened ∙ ap (λ bs. bs ++ head_bytes head ∷ []) (no_slots (open_slots 24 (most + 1) seen) counts))
      ∙ ap (λ o. unless_fault o (Ok [])) good

  pub none_kept : (c : List ℕ) → open_slots 24 (most + 1) c ≡ open_slots 24 (most + 1) seen → LeavesNone head most c
  none_kept c same = ap (calls_of head) (same ∙ no_slots (open_slots 24 (most + 1) seen) counts)

  pub begins : (c : List ℕ) → IsOldOrAll 24 (most + 1) (open_slots 24 (most + 1) seen) (head_bytes head ∷ []) c → LeavesNone head most c
  begins c (inl same) = none_kept c same
  begins c (inr all) = begun c all

-- the calls that were found
pub found_calls : ReadsAll → (head : Head) (bodies : List (List ℕ)) (bytes : List ℕ) → IsRead head bodies bytes → calls_of head bodies ≡ Ok (calls_from bytes)
found_calls law head bodies bytes read = read.are ∙ ap Ok (sym (ap calls_from read.is ∙ law read.calls read.loggable))

pub old_or_same : (images : List ℕ → Type 0) (head : Head) (most : ℕ) (seen c : List ℕ) → IsOldOrSame images 24 (most + 1) (open_slots 24 (most + 1) seen) c → LeavesOldOrSame images head most seen c
old_or_same images head most seen c (inl old) = inl old
old_or_same images head most seen c (inr same) = inr (ap (calls_of head) same)

-- the first gate is shut
gate_first : (most : ℕ) (seen : List ℕ) → 0 < length (open_slots 24 most seen) → (rest : List ℕ) × (seen ≡ 1 ∷ rest)
gate_first zero seen some = absurd (omega (arith, some))
gate_first (suc most) [] some = absurd (omega (arith, some))
gate_first (suc most) (gate ∷ rest) some = by (cases_eq gate 1)
  where
    by : (gate ≡ 1) ⊎ (gate ≢ 1) → (r : List ℕ) × (gate ∷ rest ≡ 1 ∷ r)
    by (inl is) = (rest, ap (λ g. g ∷ rest) is)
    by (inr shut) =
        let none : length (open_slots 24 (suc most) (gate ∷ rest)) ≡ 0 = ap length (kept_shut 24 (suc most) gate rest shut) in
        absurd (omega (arith, some, none))

pub torn_first : (most : ℕ) (seen c : List ℕ) → 0 < length (open_slots 24 most seen) → Torn 0 1 seen c → IsOldOrSame (λ d. d ≡ seen) 24 most [] c
torn_first most seen [] some torn = absurd (let was = gate_first most seen some in omega (arith, torn.no_shorter, ap length was.1))
torn_first most seen (gate ∷ rest) some torn = by (cases_eq gate 1)
  where
    by : (gate ≡ 1) ⊎ (gate ≢ 1) → IsOldOrSame (λ d. d ≡ seen) 24 most [] (gate ∷ rest)
    by (inl is) =
        let was = gate_first most seen some in
        inl (ap (λ g. g ∷ rest) is ∙ ap (λ l. 1 ∷ l) (torn.after ∙ ap (λ l. drop 1 l) was.1) ∙ sym was.1)
    by (inr shut) = inr (kept_shut 24 most gate rest shut)

pub shuts_first : (most : ℕ) (seen c : List ℕ) (images : List ℕ → Type 0) → Holds seen 0 (0 ∷ []) c → LeavesThis c images → IsSettled 24 most 0 c images
shuts_first most seen c images holds only =
    let is : c ≡ 0 ∷ drop 1 seen = holds in
    let none : open_slots 24 most c ≡ [] = ap (open_slots 24 most) is ∙ kept_shut 24 most 0 (drop 1 seen) (λ e. omega (arith, e)) in
    record {
      slots = λ _. subst (λ l. AreSlots 24 l c) (sym none) (record { gate = 0; rest = drop 1 seen; is = is; shut = λ e. omega (arith, e); sizes = λ k d within. absurd (omega (arith, within)) });
      counts = sym (ap length none);
      durable = only;
    }

pub of_ok : {U E : Type 0} (r : Result U E) (u : U) (P : U → Type 0) → r ≡ Ok u → IfOk r P → P u
of_ok (Ok v) u P is p = let same : v ≡ u = cc in subst P same p
of_ok (Err e) u P is p = absurd (cc)

pub same_or_new : (before head : Head) (most : ℕ) (seen c : List ℕ) → IsOldOrSame (λ d. d ≡ seen) 24 (most + 1) [] c → IsSameOrNew before head most seen c
same_or_new before head most seen c (inl same) = inl (ap (kept_calls before most) same)
same_or_new before head most seen c (inr none) = inr (ap (calls_of head) none)

-- how many calls there are
calls_count : (head : Head) (bodies : List (List ℕ)) (calls : List Logged) (kept : ℕ) → kept + 1 ≡ length bodies → calls_of head bodies ≡ Ok calls → kept ≡ length calls
calls_count head [] calls kept counts is = absurd (omega (arith, counts))
calls_count head (first ∷ bodies) calls kept counts is =
    let g = good_head (head_fault head first) (calls_in 0 bodies) calls is in
    omega (arith, counts, calls_length 0 bodies calls g.1)

pub knows_found : (head : Head) (most kept : ℕ) (seen : List ℕ) (images : List ℕ → Type 0) (calls : List Logged) → IsSettled 24 (most + 1) (kept + 1) seen images → kept_calls head most seen ≡ Ok calls → KnowsCalls head most kept seen
knows_found head most kept seen images calls settled is = record {
  calls = calls;
  are = is;
  counts = calls_count head (open_slots 24 (most + 1) seen) calls kept settled.counts is;
}

pub knows_more : (head : Head) (most kept : ℕ) (seen new : List ℕ) (pending : List Logged) → KnowsCalls head most kept seen → AddsCalls (kept_calls head most seen) (kept_calls head most new) pending → KnowsCalls head most (kept + length pending) new
knows_more head most kept seen new pending knows adds = record {
  calls = knows.calls ++ pending;
  are = adds knows.calls knows.are;
  counts = omega (arith, knows.counts, length-append knows.calls pending);
}

begins_same : (head : Head) (most : ℕ) (old c : List ℕ) → c ≡ old → BeginsWith head most old c
begins_same head most old c is calls was = ([], ap (kept_calls head most) is ∙ was ∙ ap Ok (sym (append-nil calls)))

-- nothing happened since
pub finds_now : {D : Type 0} (seen : D → List ℕ) (moment : D → ℕ) (since : D → ℕ → List ℕ → Type 0) (images : List ℕ → Type 0) (head : Head) (most : ℕ) (disk : D) → ((c : List ℕ) → since disk (moment disk) c → images c) → LeavesThis (seen disk) images → FindsAll seen moment since head most disk disk
finds_now seen moment since images head most disk only durable = record {
  run = record {
    later = omega arith;
    each = λ c left. begins_same head most (seen disk) c (durable c (only c left));
    before = λ t c le left. inl left;
  };
  now = begins_same head most (seen disk) (seen disk) refl;
}

is_ok : (r : Result (List Logged) LogFault) (calls more : List Logged) → r ≡ Ok calls → r ≡ Ok more → calls ≡ more
is_ok (Ok kept) calls more is are =
    let one : kept ≡ calls = cc in
    let other : kept ≡ more = cc in
    sym one ∙ other
is_ok (Err fault) calls more is are = absurd (cc)

module _ (head : Head) (most kept : ℕ) (old mid : List ℕ) (pending : List Logged) (before : BeginsWith head most old mid) (knows : KnowsCalls head most kept mid) where
  pub begins_more : (c : List ℕ) → KeepsCalls head most knows.calls pending c → BeginsWith head most old c
  begins_more c (inl same) calls was =
      let b = before calls was in
      (b.0, same ∙ sym knows.are ∙ b.1)
  begins_more c (inr all) calls was =
      let b = before calls was in
      let known : knows.calls ≡ calls ++ b.0 = is_ok (kept_calls head most mid) knows.calls (calls ++ b.0) knows.are b.1 in
      (b.0 ++ pending, all ∙ ap Ok (ap (λ l. l ++ pending) known ∙ append_assoc calls b.0 pending))

-- more calls were kept since
pub finds_more : {D : Type 0} (seen : D → List ℕ) (moment : D → ℕ) (since : D → ℕ → List ℕ → Type 0) (head : Head) (most kept : ℕ) (old mid new : D) (pending : List Logged) → FindsAll seen moment since head most old mid → KnowsCalls head most kept (seen mid) → LeavesCalls seen moment since head most mid new pending
    → AddsCalls (kept_calls head most (seen mid)) (kept_calls head most (seen new)) pending → FindsAll seen moment since head most old new
finds_more seen moment since head most kept old mid new pending finds knows leaves adds =
    let step = begins_more head most kept (seen old) (seen mid) pending finds.now knows in
    record {
      run = then_on moment since old mid new (BeginsWith head most (seen old)) finds.run (weaker moment since mid new _ (BeginsWith head most (seen old)) step (leaves knows.calls knows.are));
      now = step (seen new) (inr (adds knows.calls knows.are));
    }
