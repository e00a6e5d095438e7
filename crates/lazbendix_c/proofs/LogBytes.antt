-- The bytes of one call, and the call read from them.
use Rattle.logged_calls.specs.CallBytes.{call_bytes, calls_bytes, calls_from, good_bytes}
use Rattle.logged_calls.specs.Calls.{IsLoggable}
use Rattle.logged_calls.specs.declared.calls.Logged.{Logged}
use Rattle.std.proofs.Common.{All, List, [], ap, arith, drop, get_or, length, suc, sym, take, take_all, zero, ℕ, ◌*◌, ◌<◌, ◌∙◌, ◌∷◌, ◌≡◌, ◌≢◌}
use Rattle.std.proofs.lemmas.List.{append-nil, drop_all}
use Rattle.std.specs.Prelude.{IfNone, IfSome, None, Option, Some}

all_small : (bytes : List ℕ) → ((i : ℕ) → get_or bytes i 0 < 256) → All (λ b. b < 256) bytes
all_small [] small k d within = absurd (omega (arith, within))
all_small (b ∷ bytes) small zero d within = small 0
all_small (b ∷ bytes) small (suc k) d within = all_small bytes (λ i. small (suc i)) k d (omega (arith, within))

-- from the bytes of one call, and no more, this call alone is read
one_read : (bytes : List ℕ) (call : Logged) → length bytes ≡ 24 → calls_from bytes ≡ call ∷ calls_from (drop 24 bytes) → calls_from bytes ≡ call ∷ []
one_read bytes call long next = next ∙ ap (λ rest. call ∷ calls_from rest) (drop_all 24 bytes (omega (arith, long)))

its_bytes : (bytes : List ℕ) (call : Logged) → length bytes ≡ 24 → All (λ b. b < 256) bytes
    → ((bytes : List ℕ) → All (λ b. b < 256) bytes → calls_bytes (calls_from bytes) ≡ take (good_bytes bytes) bytes)
    → calls_from bytes ≡ call ∷ [] → call_bytes call ≡ bytes
its_bytes bytes call long small good one =
    sym (append-nil (call_bytes call))
    ∙ ap calls_bytes (sym one)
    ∙ good bytes small
    ∙ ap (λ calls. take (24 * length calls) bytes) one
    ∙ take_all 24 bytes (omega (arith, long))

pub some_read : (bytes : List ℕ) (read : Option Logged) → length bytes ≡ 24 → ((i : ℕ) → get_or bytes i 0 < 256)
    → ((bytes : List ℕ) → All (λ b. b < 256) bytes → calls_bytes (calls_from bytes) ≡ take (good_bytes bytes) bytes)
    → IfSome read (λ call. calls_from bytes ≡ call ∷ calls_from (drop 24 bytes))
    → IfSome read IsLoggable
    → IfSome read (λ call. IsLoggable call × (call_bytes call ≡ bytes))
some_read bytes None long small good next is = tt
some_read bytes (Some call) long small good next is = (is, its_bytes bytes call long (all_small bytes small) good (one_read bytes call long next))

no_less : (call : Logged) → [] ≢ call ∷ []
no_less call e = absurd (omega (arith, ap length e))

pub none_read : (bytes : List ℕ) (read : Option Logged)
    → ((calls : List Logged) → All IsLoggable calls → calls_from (calls_bytes calls) ≡ calls)
    → IfNone read (calls_from bytes ≡ [])
    → IfNone read ((call : Logged) → IsLoggable call → call_bytes call ≢ bytes)
none_read bytes (Some call) all end = tt
none_read bytes None all end = λ call is e. no_less call (sym end ∙ ap calls_from (sym e ∙ sym (append-nil (call_bytes call))) ∙ all (call ∷ []) (alone call is))
  where
    alone : (call : Logged) → IsLoggable call → All IsLoggable (call ∷ [])
    alone call is zero d within = is
    alone call is (suc k) d within = absurd (omega (arith, within))
