-- The numbers of a record and its bytes.
use Rattle.logged_calls.proofs.Prelude.{Added, All, Began, Bool, Closed, Died, Gave, IsLoggable, List, Logged, Lost, None, Opened, Probed, Record, Restood, Sensed, Some, Took, Worked, [], ap, arith, call_bytes, call_of, drop, drop_more, false, front_call, front_record, get_or, if◌then◌else◌, is_some, length, length-append, nat_lt, nat_tests, record_bytes, record_of, refl, suc, sym, take, true, true≢false, w16, w32, w64, zero, ℕ, ◌++◌, ◌+◌, ◌<◌, ◌^◌, ◌∙◌, ◌∷◌, ◌≡◌, ◌≤◌}
use Rattle.logged_calls.proofs.CallRecords.{call_round, read_is}
use Rattle.std.proofs.lemmas.Nat.{from_le_bytes-to_le_bytes_2, from_le_bytes-to_le_bytes_4, from_le_bytes-to_le_bytes_8, le_bytes_2, le_bytes_4, le_bytes_8}
use Rattle.std.specs.Int.{from_le_bytes, to_le_bytes}

-- each number of the record has the bits of its field
record HasRoom (r : Record) : Type 0 where
  device : r.device < 2 ^ 16
  value : r.value < 2 ^ 32
  first : r.first < 2 ^ 64
  second : r.second < 2 ^ 64

has_room : (call : Logged) → IsLoggable call → HasRoom (record_of call)
has_room (Began at rounds) is = record {
  device = omega arith;
  value = is.1;
  first = omega (arith, is.0.year, is.0.month, is.0.day, is.0.hour, is.0.minute, is.0.second);
  second = omega arith;
}
has_room (Added routine None) is = record { device = omega arith; value = is.1.0; first = omega arith; second = omega arith }
has_room (Added routine (Some run)) is = record { device = omega arith; value = is.1.0; first = omega (arith, is.1.1); second = omega arith }
has_room (Opened number) is = record { device = omega arith; value = is.1; first = omega arith; second = omega arith }
has_room (Took run moment) is = record { device = omega arith; value = is.1.0; first = omega arith; second = is.1.1 }
has_room (Gave device ticket Worked moment) is = record { device = is.1.0; value = omega arith; first = is.1.1; second = is.1.3 }
has_room (Gave device ticket (Sensed value) moment) is = record { device = is.1.0; value = is.1.2; first = is.1.1; second = is.1.3 }
has_room (Gave device ticket Died moment) is = record { device = is.1.0; value = omega arith; first = is.1.1; second = is.1.3 }
has_room (Probed device) is = record { device = is.1; value = omega arith; first = omega arith; second = omega arith }
has_room Closed is = record { device = omega arith; value = omega arith; first = omega arith; second = omega arith }
has_room (Restood device value) is = record { device = is.1.0; value = is.1.1; first = omega arith; second = omega arith }
has_room (Lost device) is = record { device = is.1; value = omega arith; first = omega arith; second = omega arith }

record_round : (r : Record) (rest : List ℕ) → HasRoom r → front_record (record_bytes r ++ rest) ≡ r
record_round r rest room =
    let device : from_le_bytes w16 (to_le_bytes w16 r.device) ≡ r.device = from_le_bytes-to_le_bytes_2 r.device room.device in
    let value : from_le_bytes w32 (to_le_bytes w32 r.value) ≡ r.value = from_le_bytes-to_le_bytes_4 r.value room.value in
    let first : from_le_bytes w64 (to_le_bytes w64 r.first) ≡ r.first = from_le_bytes-to_le_bytes_8 r.first room.first in
    let second : from_le_bytes w64 (to_le_bytes w64 r.second) ≡ r.second = from_le_bytes-to_le_bytes_8 r.second room.second in
    λ i. record {
      kind = r.kind;
      sort = r.sort;
      device = device i;
      value = value i;
      first = first i;
      second = second i;
    }

pub length-record : (r : Record) → length (record_bytes r) ≡ 24
length-record r = refl

pub front_is : (bytes : List ℕ) → 24 ≤ length bytes → front_call bytes ≡ call_of (front_record bytes)
front_is bytes long =
    let test : nat_lt (length bytes) 24 ≡ false = grind (arith, nat_tests, long) in
    ap (λ b. if b then None else call_of (front_record bytes)) test

pub front_short : (bytes : List ℕ) → length bytes < 24 → front_call bytes ≡ None
front_short bytes short =
    let test : nat_lt (length bytes) 24 ≡ true = grind (arith, nat_tests, short) in
    ap (λ b. if b then None else call_of (front_record bytes)) test

-- the call in front of the bytes of a call is that call
pub front_round : (call : Logged) (rest : List ℕ) → IsLoggable call → front_call (call_bytes call ++ rest) ≡ Some call
front_round call rest is =
    front_is (call_bytes call ++ rest) (omega (arith, length-append (call_bytes call) rest, length-record (record_of call)))
    ∙ ap call_of (record_round (record_of call) rest (has_room call is))
    ∙ call_round call is

-- where there is a call in front, its bytes are all there
pub front_within : (bytes : List ℕ) (call : Logged) → front_call bytes ≡ Some call → (24 ≤ length bytes) × (call_of (front_record bytes) ≡ Some call)
front_within bytes call e = by (nat_lt (length bytes) 24) refl e
  where
    by : (b : Bool) → nat_lt (length bytes) 24 ≡ b → (if b then None else call_of (front_record bytes)) ≡ Some call → (24 ≤ length bytes) × (call_of (front_record bytes) ≡ Some call)
    by true q e = absurd (true≢false (sym (ap is_some e)))
    by false q e = (grind (arith, nat_tests, q), e)

-- so many bytes from this place on
reads : ℕ → ℕ → List ℕ → List ℕ
reads k zero bytes = []
reads k (suc n) bytes = get_or bytes k 0 ∷ reads (k + 1) n bytes

take_reads : (k n : ℕ) (bytes : List ℕ) → k + n ≤ length bytes → take n (drop k bytes) ≡ reads k n bytes
unfolding reads
take_reads k zero bytes long = refl
take_reads k (suc n) bytes long =
    ap (take (suc n)) (drop_more bytes k 0 (omega (arith, long)))
    ∙ ap (λ l. get_or bytes k 0 ∷ l) (take_reads (k + 1) n bytes (omega (arith, long)))

small_at : (bytes : List ℕ) → All (λ b. b < 256) bytes → (k : ℕ) → get_or bytes k 0 < 256
small_at [] small k = omega arith
small_at (b ∷ bytes) small zero = small 0 0 (omega arith)
small_at (b ∷ bytes) small (suc k) = small_at bytes (λ j d within. small (suc j) d (omega (arith, within))) k

one_small : (b : ℕ) (bytes : List ℕ) → b < 256 → ((k : ℕ) → get_or bytes k 0 < 256) → (k : ℕ) → get_or (b ∷ bytes) k 0 < 256
one_small b bytes small rest zero = small
one_small b bytes small rest (suc k) = rest k

reads_small : (k n : ℕ) (bytes : List ℕ) → ((k : ℕ) → get_or bytes k 0 < 256) → (j : ℕ) → get_or (reads k n bytes) j 0 < 256
unfolding reads
reads_small k zero bytes small j = omega arith
reads_small k (suc n) bytes small j = one_small (get_or bytes k 0) (reads (k + 1) n bytes) (small k) (reads_small (k + 1) n bytes small) j

-- the bytes of the record in front are the bytes in front
front_bytes : (bytes : List ℕ) → 24 ≤ length bytes → All (λ b. b < 256) bytes → record_bytes (front_record bytes) ≡ take 24 bytes
unfolding reads
front_bytes bytes long all =
    let r = front_record bytes in
    let small = small_at bytes all in
    let device : to_le_bytes w16 r.device ≡ reads 2 2 bytes = le_bytes_2 (reads 2 2 bytes) r.device refl (reads_small 2 2 bytes small) refl in
    let value : to_le_bytes w32 r.value ≡ reads 4 4 bytes = le_bytes_4 (reads 4 4 bytes) r.value refl (reads_small 4 4 bytes small) refl in
    let first : to_le_bytes w64 r.first ≡ reads 8 8 bytes = le_bytes_8 (reads 8 8 bytes) r.first refl (reads_small 8 8 bytes small) refl in
    let second : to_le_bytes w64 r.second ≡ reads 16 8 bytes = le_bytes_8 (reads 16 8 bytes) r.second refl (reads_small 16 8 bytes small) refl in
    (λ i. r.kind ∷ r.sort ∷ (device i ++ (value i ++ (first i ++ second i))))
    ∙ sym (take_reads 0 24 bytes (omega (arith, long)))

-- a call that stands in front has its bytes there
pub call_in_front : (bytes : List ℕ) (call : Logged) → All (λ b. b < 256) bytes → front_call bytes ≡ Some call → call_bytes call ≡ take 24 bytes
call_in_front bytes call small e =
    let within = front_within bytes call e in
    ap record_bytes (read_is (front_record bytes) call within.1) ∙ front_bytes bytes within.0 small
