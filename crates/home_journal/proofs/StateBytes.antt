-- The states that slots tell: the bytes of a state are read as it, and so are one more and the first that is not good.
use Rattle.slot_disks.proofs.Cited.{if_both, if_not_first, if_not_second, one_size}
use Rattle.home_journal.proofs.Prelude.{All, All-more, Bool, Err, IsStateOf, Kind, List, None, Ok, Option, Result, Some, Stand, States, [], ap, append-nil, append_assoc, arith, body_size, common_steps, drop, drop_all, drop_more, false, flat_map, flat_map_more, from_le_bytes, from_le_bytes-to_le_bytes_2, from_le_bytes-to_le_bytes_4, get_or, has_value, if◌then◌else◌, inl, inr, is_ok, kind_at, last_kept_home, length, length-append, nat_le, nat_tests, option_map, refl, set, slice_get, slot_state, stand_at, stand_bytes, stands_of, state_bytes, states_from, suc, sym, take, take_all, take_more, take_more_set, to_le_bytes, true, true≢false, w16, w32, with_first, ℕ, ◌*◌, ◌++◌, ◌+◌, ◌-◌, ◌<◌, ◌==◌, ◌^◌, ◌∙◌, ◌∷◌, ◌≡◌, ◌≤◌, ◌⊎◌, IsGroup, with_group, with_slot, mul-le, suc-mul}

-- what a byte says of a device, and back
up_byte : (up : Bool) → ((if up then 1 else 0) == 1) ≡ up
up_byte true = refl
up_byte false = refl

up_small : (up : Bool) → nat_le (if up then 1 else 0) 1 ≡ true
up_small true = refl
up_small false = refl

one_stand : (kind : Kind) (kinds : List Kind) (s : Stand) (rest : List ℕ) → s.value < 2 ^ 32 → has_value kind s.value ≡ true
    → stands_of (kind ∷ kinds) (stand_bytes s ++ rest) ≡ option_map (λ home. s ∷ home) (stands_of kinds rest)
one_stand kind kinds s rest small has =
    let read = from_le_bytes w32 (to_le_bytes w32 s.value) in
    let value : read ≡ s.value = from_le_bytes-to_le_bytes_4 s.value small in
    if_both (has_value kind read) (nat_le (if s.up then 1 else 0) 1) _ _ (ap (has_value kind) value ∙ has) (up_small s.up)
    ∙ (λ i. option_map (λ home. (record { value = value i; up = up_byte s.up i }) ∷ home) (stands_of kinds rest))

all_stands : (kinds : List Kind) (home : List Stand) → length home ≡ length kinds → ((d : ℕ) → d < length kinds → has_value (kind_at kinds d) (stand_at home d).value ≡ true)
    → All (λ s. s.value < 2 ^ 32) home → stands_of kinds (flat_map stand_bytes home) ≡ Some home
all_stands [] [] long values small = refl
all_stands [] (s ∷ home) long values small = absurd (omega (arith, long))
all_stands (kind ∷ kinds) [] long values small = absurd (omega (arith, long))
all_stands (kind ∷ kinds) (s ∷ home) long values small =
    one_stand kind kinds s (flat_map stand_bytes home) (small 0 s (omega arith)) (values 0 (omega arith))
    ∙ ap (option_map (λ home. s ∷ home)) (all_stands kinds home (omega (arith, long)) (λ d within. values (suc d) (omega (arith, within))) (λ k d within. small (suc k) d (omega (arith, within))))

equal : (a b : ℕ) → a ≡ b → (a == b) ≡ true
equal a b e = grind (arith, common_steps)

stands_size : (home : List Stand) → length (flat_map stand_bytes home) ≡ 5 * length home
stands_size [] = refl
stands_size (s ∷ home) = omega (arith, stands_size home, length-append (stand_bytes s) (flat_map stand_bytes home))

-- one more device is written
pub bytes_more : (front old new : List ℕ) (home : List Stand) (i : ℕ) (d : Stand) → i < length home → old ≡ front ++ flat_map stand_bytes (take i home) → new ≡ old ++ stand_bytes (get_or home i d)
    → new ≡ front ++ flat_map stand_bytes (take (i + 1) home)
bytes_more front old new home i d within was is =
    is
    ∙ ap (λ l. l ++ stand_bytes (get_or home i d)) was
    ∙ flat_map_more stand_bytes front (take i home) (get_or home i d)
    ∙ ap (λ l. front ++ flat_map stand_bytes l) (sym (take_more home i d within))

-- and its value is below 2^32
pub small_more : (home : List Stand) (i : ℕ) (d : Stand) → i < length home → (get_or home i d).value < 2 ^ 32 → All (λ s. s.value < 2 ^ 32) (take i home) → All (λ s. s.value < 2 ^ 32) (take (i + 1) home)
small_more home i d within small all = All-more (λ s. s.value < 2 ^ 32) home i d within all small

-- how many bytes tell a state
pub state_size : (number : ℕ) (home : List Stand) → length (state_bytes number home) ≡ body_size (length home)
state_size number home = omega (arith, stands_size home)

-- the slot of a state, as a group of one
pub state_group : (number : ℕ) (home : List Stand) (size : ℕ) (slot : List ℕ) → size ≡ body_size (length home) → slot ≡ state_bytes number home ++ 0 ∷ [] → IsGroup size slot (state_bytes number home ∷ [])
state_group number home size slot sized is = record {
  is = ap (λ l. 1 ∷ l) (is ∙ ap (λ l. l ++ 0 ∷ []) (sym (append-nil (state_bytes number home))));
  sizes = one_size size (state_bytes number home) (state_size number home ∙ sym sized);
}

-- the file that a group of one slot makes
pub slot_written : (at : ℕ) (body slot old : List ℕ) → slot ≡ body ++ 0 ∷ [] → with_group at slot old ≡ with_slot at body old
slot_written at body slot old is =
    ap (λ l. with_group at l old) is
    ∙ ap (λ n. take at old ++ 1 ∷ ((body ++ 0 ∷ []) ++ drop n old)) (omega (arith, length-append body (0 ∷ [])))
    ∙ ap (λ l. take at old ++ 1 ∷ l) (append_assoc body (0 ∷ []) (drop (at + length body + 2) old))

-- one slot more has room
pub slot_fits : (count most size : ℕ) → count < most → count * (size + 1) + (size + 1) ≤ most * (size + 1)
slot_fits count most size next =
    let fits = mul-le (suc count) (size + 1) most (size + 1) (omega (arith, next)) (omega arith) in
    omega (arith, fits, suc-mul count (size + 1))

-- what is read of a state's bytes is the state
pub round_trip : (kinds : List Kind) (number : ℕ) (home : List Stand) → number < 2 ^ 32 → length kinds < 2 ^ 16 → IsStateOf kinds home → All (λ s. s.value < 2 ^ 32) home
    → slot_state kinds number (state_bytes number home) ≡ Some home
round_trip kinds number home small few is values =
    if_both (from_le_bytes w32 (to_le_bytes w32 number) == number) (from_le_bytes w16 (to_le_bytes w16 (length home)) == length kinds) (stands_of kinds (flat_map stand_bytes home)) _
    (equal _ number (from_le_bytes-to_le_bytes_4 number small))
    (equal _ (length kinds) (from_le_bytes-to_le_bytes_2 (length home) (omega (arith, few, is.devices)) ∙ is.devices))
    ∙ all_stands kinds home is.devices is.values values

-- one stand further
pub along : (items : List Stand) (s : Stand) (known : Option (List Stand)) → option_map (λ more. items ++ more) (option_map (λ home. s ∷ home) known) ≡ option_map (λ more. (items ++ s ∷ []) ++ more) known
along items s None = refl
along items s (Some stands) = ap Some (sym (append_assoc items (s ∷ []) stands))

pub none_in_front : (known : Option (List Stand)) → known ≡ option_map (λ more. [] ++ more) known
none_in_front None = refl
none_in_front (Some stands) = refl

-- the value of the device at the front of these bytes
abbrev pub front_value : List ℕ → ℕ
front_value rest = from_le_bytes w32 (get_or rest 0 0 ∷ get_or rest 1 0 ∷ get_or rest 2 0 ∷ get_or rest 3 0 ∷ [])

-- what these bytes tell where a device's stand is good
pub good_stand : (kind : Kind) (kinds : List Kind) (rest : List ℕ) (value : ℕ) → 5 ≤ length rest → value ≡ front_value rest → has_value kind value ≡ true → get_or rest 4 0 ≤ 1
    → stands_of (kind ∷ kinds) rest ≡ option_map (λ home. (record { value = value; up = get_or rest 4 0 == 1 }) ∷ home) (stands_of kinds (take (length rest - 5) (drop 5 rest)))
good_stand kind kinds [] value long is has small = absurd (omega (arith, long))
good_stand kind kinds (a ∷ []) value long is has small = absurd (omega (arith, long))
good_stand kind kinds (a ∷ b ∷ []) value long is has small = absurd (omega (arith, long))
good_stand kind kinds (a ∷ b ∷ c ∷ []) value long is has small = absurd (omega (arith, long))
good_stand kind kinds (a ∷ b ∷ c ∷ d ∷ []) value long is has small = absurd (omega (arith, long))
good_stand kind kinds (a ∷ b ∷ c ∷ d ∷ up ∷ after) value long is has small =
    let tests : nat_le up 1 ≡ true = grind (arith, nat_tests, small) in
    let fits : length (a ∷ b ∷ c ∷ d ∷ up ∷ after) - 5 ≡ length after = omega arith in
    let left : take (length (a ∷ b ∷ c ∷ d ∷ up ∷ after) - 5) after ≡ after = take_all _ after (omega (arith, fits)) in
    if_both (has_value kind (from_le_bytes w32 (a ∷ b ∷ c ∷ d ∷ []))) (nat_le up 1) _ _ (ap (has_value kind) (sym is) ∙ has) tests
    ∙ (λ i. option_map (λ home. (record { value = sym is i; up = up == 1 }) ∷ home) (stands_of kinds (sym left i)))

pub bad_stand : (kind : Kind) (kinds : List Kind) (rest : List ℕ) (value : ℕ) → 5 ≤ length rest → value ≡ front_value rest → (has_value kind value ≡ false) ⊎ (1 < get_or rest 4 0) → stands_of (kind ∷ kinds) rest ≡ None
bad_stand kind kinds [] value long is bad = absurd (omega (arith, long))
bad_stand kind kinds (a ∷ []) value long is bad = absurd (omega (arith, long))
bad_stand kind kinds (a ∷ b ∷ []) value long is bad = absurd (omega (arith, long))
bad_stand kind kinds (a ∷ b ∷ c ∷ []) value long is bad = absurd (omega (arith, long))
bad_stand kind kinds (a ∷ b ∷ c ∷ d ∷ []) value long is bad = absurd (omega (arith, long))
bad_stand kind kinds (a ∷ b ∷ c ∷ d ∷ up ∷ after) value long is (inl bad) =
    if_not_first (has_value kind (from_le_bytes w32 (a ∷ b ∷ c ∷ d ∷ []))) (nat_le up 1) _ _ (ap (has_value kind) (sym is) ∙ bad)
bad_stand kind kinds (a ∷ b ∷ c ∷ d ∷ up ∷ after) value long is (inr bad) =
    let tests : nat_le up 1 ≡ false = grind (arith, nat_tests, bad) in
    if_not_second (has_value kind (from_le_bytes w32 (a ∷ b ∷ c ∷ d ∷ []))) (nat_le up 1) _ _ tests

pub short_stand : (kind : Kind) (kinds : List Kind) (rest : List ℕ) → length rest < 5 → stands_of (kind ∷ kinds) rest ≡ None
short_stand kind kinds [] short = refl
short_stand kind kinds (a ∷ []) short = refl
short_stand kind kinds (a ∷ b ∷ []) short = refl
short_stand kind kinds (a ∷ b ∷ c ∷ []) short = refl
short_stand kind kinds (a ∷ b ∷ c ∷ d ∷ []) short = refl
short_stand kind kinds (a ∷ b ∷ c ∷ d ∷ up ∷ after) short = absurd (omega (arith, short))

-- so many devices are read, into the front of the home
pub IsReadTo : List Kind → List ℕ → ℕ → List ℕ → List Stand → Type 0
IsReadTo kinds bytes at rest home = stands_of kinds bytes ≡ option_map (λ more. take at home ++ more) (stands_of (drop at kinds) rest)

pub read_first : (kinds : List Kind) (bytes : List ℕ) (home : List Stand) → IsReadTo kinds bytes 0 bytes home
unfolding IsReadTo
read_first kinds bytes home = none_in_front (stands_of kinds bytes)

pub read_next : (kinds : List Kind) (bytes rest : List ℕ) (at : ℕ) (home : List Stand) (d : Kind) (value : ℕ) → IsReadTo kinds bytes at rest home → at < length kinds → length home ≡ length kinds
    → 5 ≤ length rest → value ≡ front_value rest → has_value (get_or kinds at d) value ≡ true → get_or rest 4 0 ≤ 1
    → IsReadTo kinds bytes (at + 1) (take (length rest - 5) (drop 5 rest)) (set home at (record { value = value; up = get_or rest 4 0 == 1 }))
unfolding IsReadTo
read_next kinds bytes rest at home d value was within long some told has small =
    let kind = get_or kinds at d in
    let s : Stand = record { value = value; up = get_or rest 4 0 == 1 } in
    let behind = stands_of (drop (at + 1) kinds) (take (length rest - 5) (drop 5 rest)) in
    was
    ∙ ap (λ ks. option_map (λ more. take at home ++ more) (stands_of ks rest)) (drop_more kinds at d within)
    ∙ ap (option_map (λ more. take at home ++ more)) (good_stand kind (drop (at + 1) kinds) rest value some told has small)
    ∙ along (take at home) s behind
    ∙ ap (λ items. option_map (λ more. items ++ more) behind) (sym (take_more_set home at s (omega (arith, within, long))))

none_behind : (kinds : List Kind) (bytes rest : List ℕ) (at : ℕ) (home : List Stand) (d : Kind) → IsReadTo kinds bytes at rest home → at < length kinds
    → stands_of (get_or kinds at d ∷ drop (at + 1) kinds) rest ≡ None → stands_of kinds bytes ≡ None
unfolding IsReadTo
none_behind kinds bytes rest at home d was within none =
    was
    ∙ ap (λ ks. option_map (λ more. take at home ++ more) (stands_of ks rest)) (drop_more kinds at d within)
    ∙ ap (option_map (λ more. take at home ++ more)) none

pub read_short : (kinds : List Kind) (bytes rest : List ℕ) (at : ℕ) (home : List Stand) → IsReadTo kinds bytes at rest home → at < length kinds → length rest < 5 → stands_of kinds bytes ≡ None
read_short kinds bytes rest at home was within short =
    none_behind kinds bytes rest at home (States 0) was within (short_stand (get_or kinds at (States 0)) (drop (at + 1) kinds) rest short)

pub read_bad : (kinds : List Kind) (bytes rest : List ℕ) (at : ℕ) (home : List Stand) (d : Kind) (value : ℕ) → IsReadTo kinds bytes at rest home → at < length kinds
    → 5 ≤ length rest → value ≡ front_value rest → (has_value (get_or kinds at d) value ≡ false) ⊎ (1 < get_or rest 4 0) → stands_of kinds bytes ≡ None
read_bad kinds bytes rest at home d value was within some told bad = none_behind kinds bytes rest at home d was within (bad_stand (get_or kinds at d) (drop (at + 1) kinds) rest value some told bad)

pub read_all : (kinds : List Kind) (bytes rest : List ℕ) (at : ℕ) (home : List Stand) → IsReadTo kinds bytes at rest home → at ≡ length kinds → length home ≡ length kinds → stands_of kinds bytes ≡ Some home
unfolding IsReadTo
read_all kinds bytes rest at home was all long =
    was
    ∙ ap (λ ks. option_map (λ more. take at home ++ more) (stands_of ks rest)) (drop_all at kinds (omega (arith, all)))
    ∙ ap Some (append-nil (take at home) ∙ take_all at home (omega (arith, all, long)))

-- one list of states in front of what further slots tell
abbrev pub prepended : List (List Stand) → Result (List (List Stand)) ℕ → Result (List (List Stand)) ℕ
prepended homes (Ok more) = Ok (homes ++ more)
prepended homes (Err bad) = Err bad

abbrev known : Result (List (List Stand)) ℕ → List (List Stand)
known (Ok homes) = homes
known (Err bad) = []

first_known : (k : ℕ) (o : Option (List Stand)) (r r' x : Result (List (List Stand)) ℕ) (homes : List (List Stand)) → with_first k o r ≡ Ok homes → ((hs : List (List Stand)) → r ≡ Ok hs → r' ≡ prepended hs x)
    → with_first k o r' ≡ prepended homes x
first_known k None r r' x homes e f = absurd (true≢false (sym (ap is_ok e)))
first_known k (Some home) (Err bad) r' x homes e f = absurd (true≢false (sym (ap is_ok e)))
first_known k (Some home) (Ok hs) r' x homes e f = ap (with_first k (Some home)) (f hs refl) ∙ push x ∙ ap (λ l. prepended l x) (ap known e)
  where
    push : (x : Result (List (List Stand)) ℕ) → with_first k (Some home) (prepended hs x) ≡ prepended (home ∷ hs) x
    push (Ok more) = refl
    push (Err bad) = refl

pub states_append : (kinds : List Kind) (k : ℕ) (bodies more : List (List ℕ)) (homes : List (List Stand)) → states_from kinds k bodies ≡ Ok homes
    → states_from kinds k (bodies ++ more) ≡ prepended homes (states_from kinds (k + length bodies) more)
states_append kinds k [] more homes e = ap (λ n. states_from kinds n more) (omega arith) ∙ none (states_from kinds (k + 0) more) ∙ ap (λ l. prepended l (states_from kinds (k + 0) more)) (ap known e)
  where
    none : (x : Result (List (List Stand)) ℕ) → x ≡ prepended [] x
    none (Ok more) = refl
    none (Err bad) = refl
states_append kinds k (body ∷ bodies) more homes e =
    let on : k + 1 + length bodies ≡ k + suc (length bodies) = omega arith in
    first_known k (slot_state kinds (k + 1) body) (states_from kinds (k + 1) bodies) (states_from kinds (k + 1) (bodies ++ more)) (states_from kinds (k + suc (length bodies)) more) homes e
    (λ hs is. states_append kinds (k + 1) bodies more hs is ∙ ap (λ n. prepended hs (states_from kinds n more)) on)

pub states_length : (kinds : List Kind) (k : ℕ) (bodies : List (List ℕ)) (homes : List (List Stand)) → states_from kinds k bodies ≡ Ok homes → length homes ≡ length bodies
states_length kinds k [] homes e = ap length (sym (ap known e))
states_length kinds k (body ∷ bodies) homes e = by (slot_state kinds (k + 1) body) (states_from kinds (k + 1) bodies) (states_length kinds (k + 1) bodies) e
  where
    by : (o : Option (List Stand)) (r : Result (List (List Stand)) ℕ) → ((hs : List (List Stand)) → r ≡ Ok hs → length hs ≡ length bodies) → with_first k o r ≡ Ok homes → length homes ≡ suc (length bodies)
    by None r f e = absurd (true≢false (sym (ap is_ok e)))
    by (Some home) (Err bad) f e = absurd (true≢false (sym (ap is_ok e)))
    by (Some home) (Ok hs) f e = ap length (sym (ap known e)) ∙ ap suc (f hs refl)

-- one more slot that is good
pub states_push : (kinds : List Kind) (bodies : List (List ℕ)) (body : List ℕ) (homes : List (List Stand)) (home : List Stand) → states_from kinds 0 bodies ≡ Ok homes → slot_state kinds (length bodies + 1) body ≡ Some home
    → states_from kinds 0 (bodies ++ body ∷ []) ≡ Ok (homes ++ home ∷ [])
states_push kinds bodies body homes home e good =
    let on : 0 + length bodies ≡ length bodies = omega arith in
    states_append kinds 0 bodies (body ∷ []) homes e
    ∙ ap (λ n. prepended homes (with_first n (slot_state kinds (n + 1) body) (Ok []))) on
    ∙ ap (λ o. prepended homes (with_first (length bodies) o (Ok []))) good

-- the first slot that is not good
pub states_bad : (kinds : List Kind) (bodies more : List (List ℕ)) (body : List ℕ) (homes : List (List Stand)) → states_from kinds 0 bodies ≡ Ok homes → slot_state kinds (length bodies + 1) body ≡ None
    → states_from kinds 0 (bodies ++ body ∷ more) ≡ Err (length bodies)
states_bad kinds bodies more body homes e bad =
    let on : 0 + length bodies ≡ length bodies = omega arith in
    states_append kinds 0 bodies (body ∷ more) homes e
    ∙ ap (λ n. prepended homes (with_first n (slot_state kinds (n + 1) body) (states_from kinds (n + 1) more))) on
    ∙ ap (λ o. prepended homes (with_first (length bodies) o (states_from kinds (length bodies + 1) more))) bad

at_end : (homes : List (List Stand)) (home : List Stand) → slice_get (homes ++ home ∷ []) (length homes) ≡ Some home
at_end [] home = refl
at_end (h ∷ homes) home = at_end homes home

pub last_pushed : (homes : List (List Stand)) (home : List Stand) → last_kept_home (homes ++ home ∷ []) ≡ Some home
last_pushed homes home = ap (slice_get (homes ++ home ∷ [])) (omega (arith, length-append homes (home ∷ []))) ∙ at_end homes home
