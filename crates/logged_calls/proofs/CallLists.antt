-- The calls read from bytes, one after another.
use Rattle.logged_calls.proofs.RecordBytes.{call_in_front, front_round, front_short, front_within, length-record}
use Rattle.logged_calls.proofs.Prelude.{All, IfNone, IfSome, IsLoggable, List, Logged, None, Option, Some, [], ap, append-nil, append_assoc, arith, call_bytes, calls_bytes, calls_from, drop, drop-drop, front_call, front_calls, good_bytes, inl, inr, length, length-append, length-drop, length-take-le, record_of, refl, suc, sym, take, take-add, take_all, with_first, zero, ℕ, ◌*◌, ◌++◌, ◌+◌, ◌-◌, ◌/◌, ◌<◌, ◌∙◌, ◌∷◌, ◌≡◌}
use Rattle.std.proofs.Math.Seq.{take-append-add, take-nil}
use Rattle.std.proofs.lemmas.Bool.{cases_lt}
use Rattle.std.proofs.lemmas.List.Elements.{All-drop, All-push, All-same, All-tail}

-- one call more, where one stands in front
pub calls_next : (bytes : List ℕ) (call : Logged) → front_call bytes ≡ Some call → calls_from bytes ≡ call ∷ calls_from (drop 24 bytes)
calls_next bytes call e =
    let long = (front_within bytes call e).0 in
    let left = length-drop 24 bytes in
    let more : length bytes / 24 ≡ suc (length (drop 24 bytes) / 24) = omega (arith, long, left) in
    ap (λ n. front_calls n bytes) more ∙ ap (λ o. with_first o (calls_from (drop 24 bytes))) e

-- none, where none does
pub calls_end : (bytes : List ℕ) → front_call bytes ≡ None → calls_from bytes ≡ []
calls_end bytes e = by (length bytes / 24)
  where
    by : (n : ℕ) → front_calls n bytes ≡ []
    by zero = refl
    by (suc n) = ap (λ o. with_first o (front_calls n (drop 24 bytes))) e

pub calls_more : (calls : List Logged) (bytes : List ℕ) → All IsLoggable calls → calls_from (calls_bytes calls ++ bytes) ≡ calls ++ calls_from bytes
calls_more [] bytes all = refl
calls_more (call ∷ calls) bytes all =
    let rest = calls_bytes calls ++ bytes in
    ap calls_from (append_assoc (call_bytes call) (calls_bytes calls) bytes)
    ∙ calls_next (call_bytes call ++ rest) call (front_round call rest (all 0 call (omega arith)))
    ∙ ap (λ l. call ∷ l) (calls_more calls bytes (All-tail IsLoggable call calls all))

pub calls_all : (calls : List Logged) → All IsLoggable calls → calls_from (calls_bytes calls) ≡ calls
calls_all calls all = ap calls_from (sym (append-nil (calls_bytes calls))) ∙ calls_more calls [] all ∙ append-nil calls

-- a call's bytes with something cut off after them
cut_short : (call : Logged) (rest : List ℕ) (n : ℕ) → n < 24 → length (take n (call_bytes call ++ rest)) ≡ n
cut_short call rest n few = length-take-le n (call_bytes call ++ rest) (omega (arith, few, length-append (call_bytes call) rest, length-record (record_of call)))

cut_call : (call : Logged) (calls : List Logged) (n : ℕ) → IsLoggable call → ((m : ℕ) → calls_from (take m (calls_bytes calls)) ≡ take (m / 24) calls)
    → calls_from (take n (calls_bytes (call ∷ calls))) ≡ take (n / 24) (call ∷ calls)
cut_call call calls n is below = elim (cases_lt n 24) [ inl few ↦ short few | inr long ↦ whole (n - 24) (omega (arith, long)) ]
  where
    bytes : List ℕ
    bytes = call_bytes call ++ calls_bytes calls

    short : n < 24 → calls_from (take n bytes) ≡ take (n / 24) (call ∷ calls)
    short few =
        let none : n / 24 ≡ 0 = omega (arith, few) in
        let cut = cut_short call (calls_bytes calls) n few in
        calls_end (take n bytes) (front_short (take n bytes) (omega (arith, cut, few))) ∙ ap (λ k. take k (call ∷ calls)) (sym none)

    whole : (m : ℕ) → n ≡ 24 + m → calls_from (take n bytes) ≡ take (n / 24) (call ∷ calls)
    whole m split =
        let rest = take m (calls_bytes calls) in
        let count : n / 24 ≡ suc (m / 24) = omega (arith, split) in
        ap (λ k. calls_from (take k bytes)) split
        ∙ ap calls_from (take-append-add (call_bytes call) (calls_bytes calls) m)
        ∙ calls_next (call_bytes call ++ rest) call (front_round call rest is)
        ∙ ap (λ l. call ∷ l) (below m)
        ∙ ap (λ k. take k (call ∷ calls)) (sym count)

pub calls_cut : (calls : List Logged) (n : ℕ) → All IsLoggable calls → calls_from (take n (calls_bytes calls)) ≡ take (n / 24) calls
calls_cut [] n all = ap calls_from (take-nil n) ∙ sym (take-nil (n / 24))
calls_cut (call ∷ calls) n all =
    let rest = All-tail IsLoggable call calls all in
    cut_call call calls n (all 0 call (omega arith)) (λ m. calls_cut calls m rest)

-- what is good of bytes are the bytes of their calls
good_call : (bytes : List ℕ) (rest : List Logged) → All (λ b. b < 256) bytes → calls_bytes rest ≡ take (24 * length rest) (drop 24 bytes) → (o : Option Logged) → front_call bytes ≡ o
    → calls_bytes (with_first o rest) ≡ take (24 * length (with_first o rest)) bytes
good_call bytes rest small after None e = refl
good_call bytes rest small after (Some call) e =
    let count : 24 * suc (length rest) ≡ 24 + 24 * length rest = omega arith in
    ap (λ l. l ++ calls_bytes rest) (call_in_front bytes call small e)
    ∙ ap (λ l. take 24 bytes ++ l) after
    ∙ sym (take-add 24 (24 * length rest) bytes)
    ∙ ap (λ k. take k bytes) (sym count)

good : (n : ℕ) (bytes : List ℕ) → All (λ b. b < 256) bytes → calls_bytes (front_calls n bytes) ≡ take (24 * length (front_calls n bytes)) bytes
good zero bytes small = refl
good (suc n) bytes small = good_call bytes (front_calls n (drop 24 bytes)) small (good n (drop 24 bytes) (All-drop (λ b. b < 256) 24 bytes small)) (front_call bytes) refl

pub good_are : (bytes : List ℕ) → All (λ b. b < 256) bytes → calls_bytes (calls_from bytes) ≡ take (good_bytes bytes) bytes
good_are bytes small = good (length bytes / 24) bytes small

-- the next call from a place on, and the end there
pub next_at : (bytes : List ℕ) (at : ℕ) (o : Option Logged) → o ≡ front_call (drop at bytes) → IfSome o (λ call. calls_from (drop at bytes) ≡ call ∷ calls_from (drop (at + 24) bytes))
next_at bytes at None is = tt
next_at bytes at (Some call) is = calls_next (drop at bytes) call (sym is) ∙ ap (λ l. call ∷ calls_from l) (drop-drop 24 at bytes)

pub end_at : (bytes : List ℕ) (at : ℕ) (o : Option Logged) → o ≡ front_call (drop at bytes) → IfNone o (calls_from (drop at bytes) ≡ [])
end_at bytes at None is = calls_end (drop at bytes) (sym is)
end_at bytes at (Some call) is = tt

-- the bytes from a place on, as a slice has them
pub rest_at : (bytes : List ℕ) (at : ℕ) → take (length bytes - at) (drop at bytes) ≡ drop at bytes
rest_at bytes at = take_all (length bytes - at) (drop at bytes) (omega (arith, length-drop at bytes))

-- one call more is read
pub read_more : (bytes : List ℕ) (at : ℕ) (call : Logged) (calls more : List Logged) → calls_from (drop at bytes) ≡ call ∷ calls_from (drop (at + 24) bytes) → calls_from bytes ≡ calls ++ calls_from (drop at bytes)
    → more ≡ calls ++ call ∷ [] → calls_from bytes ≡ more ++ calls_from (drop (at + 24) bytes)
read_more bytes at call calls more next was is =
    let rest = calls_from (drop (at + 24) bytes) in
    was
    ∙ ap (λ l. calls ++ l) next
    ∙ sym (append_assoc calls (call ∷ []) rest)
    ∙ ap (λ l. l ++ rest) (sym is)

pub loggable_more : (call : Logged) (calls more : List Logged) → All IsLoggable calls → IsLoggable call → more ≡ calls ++ call ∷ [] → All IsLoggable more
loggable_more call calls more all one is = All-same IsLoggable more (calls ++ call ∷ []) is (All-push IsLoggable calls call all one)
