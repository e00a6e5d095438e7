-- From the slots of a log to its calls.
use Rattle.call_log.specs.Heads.{head_fault}
use Rattle.call_log.specs.KeptCalls.{calls_in, calls_of, unless_fault, with_call}
use Rattle.call_log.specs.LogFiles.{IsRead}
use Rattle.call_log.specs.declared.faults.LogFault.TheVariants.{Damaged}
use Rattle.call_log.specs.declared.faults.LogFault.{LogFault}
use Rattle.call_log.specs.declared.heads.Head.{Head}
use Rattle.logged_calls.specs.CallBytes.{call_bytes, calls_bytes, front_call}
use Rattle.logged_calls.specs.Calls.{IsLoggable}
use Rattle.logged_calls.specs.declared.calls.Logged.{Logged}
use Rattle.std.proofs.Common.{List, None, Option, Some, [], ap, append_assoc, arith, length, refl, suc, sym, ℕ, ◌++◌, ◌+◌, ◌<◌, ◌≡◌, ◌∙◌, ◌∷◌}
use Rattle.std.proofs.lemmas.List.Elements.{All-push}
use Rattle.std.proofs.lemmas.List.{append-nil}
use Rattle.std.specs.Prelude.{Err, Ok, Result}

-- calls in front of what further slots have
abbrev pub calls_before : List Logged → Result (List Logged) LogFault → Result (List Logged) LogFault
calls_before calls (Ok more) = Ok (calls ++ more)
calls_before calls (Err fault) = Err fault

none_before : (r : Result (List Logged) LogFault) → r ≡ calls_before [] r
none_before (Ok calls) = refl
none_before (Err fault) = refl

one_before : (k : ℕ) (call : Logged) (calls : List Logged) (r : Result (List Logged) LogFault) → with_call k (Some call) (calls_before calls r) ≡ calls_before (call ∷ calls) r
one_before k call calls (Ok more) = refl
one_before k call calls (Err fault) = refl

-- the first of them, and the others
parts : (k : ℕ) (o : Option Logged) (r : Result (List Logged) LogFault) (calls : List Logged) → with_call k o r ≡ Ok calls → (call : Logged) × (more : List Logged) × (o ≡ Some call) × (r ≡ Ok more) × (call ∷ more ≡ calls)
parts k None r calls is = absurd (cc)
parts k (Some call) (Err fault) calls is = absurd (cc)
parts k (Some call) (Ok more) calls is = (call, more, refl, refl, cc)

-- further slots
pub calls_append : (k : ℕ) (bodies more : List (List ℕ)) (calls : List Logged) → calls_in k bodies ≡ Ok calls → calls_in k (bodies ++ more) ≡ calls_before calls (calls_in (k + length bodies) more)
calls_append k [] more calls is =
    let none : [] ≡ calls = cc in
    none_before (calls_in k more) ∙ ap (λ n. calls_before [] (calls_in n more)) (omega arith) ∙ ap (λ cs. calls_before cs (calls_in (k + 0) more)) none
calls_append k (body ∷ bodies) more calls is =
    let p = parts k (front_call body) (calls_in (k + 1) bodies) calls is in
    let on : k + 1 + length bodies ≡ k + suc (length bodies) = omega arith in
    ap (λ r. with_call k (front_call body) r) (calls_append (k + 1) bodies more p.1 p.3 ∙ ap (λ n. calls_before p.1 (calls_in n more)) on)
    ∙ ap (λ o. with_call k o (calls_before p.1 (calls_in (k + suc (length bodies)) more))) p.2
    ∙ one_before k p.0 p.1 (calls_in (k + suc (length bodies)) more)
    ∙ ap (λ cs. calls_before cs (calls_in (k + suc (length bodies)) more)) p.4

-- how many calls there are
pub calls_length : (k : ℕ) (bodies : List (List ℕ)) (calls : List Logged) → calls_in k bodies ≡ Ok calls → length calls ≡ length bodies
calls_length k [] calls is = let none : [] ≡ calls = cc in ap length (sym none)
calls_length k (body ∷ bodies) calls is =
    let p = parts k (front_call body) (calls_in (k + 1) bodies) calls is in
    ap length (sym p.4) ∙ ap suc (calls_length (k + 1) bodies p.1 p.3)

-- a log that is good has the head in its first slot
pub good_head : (o : Option LogFault) (r : Result (List Logged) LogFault) (calls : List Logged) → unless_fault o r ≡ Ok calls → (o ≡ None) × (r ≡ Ok calls)
good_head None r calls is = (refl, is)
good_head (Some fault) r calls is = absurd (cc)

pub of_append : (head : Head) (first : List ℕ) (bodies more : List (List ℕ)) (calls : List Logged) → calls_of head (first ∷ bodies) ≡ Ok calls → calls_of head (first ∷ (bodies ++ more)) ≡ calls_before calls (calls_in (length bodies) more)
of_append head first bodies more calls is =
    let g = good_head (head_fault head first) (calls_in 0 bodies) calls is in
    let on : 0 + length bodies ≡ length bodies = omega arith in
    ap (λ o. unless_fault o (calls_in 0 (bodies ++ more))) g.0 ∙ calls_append 0 bodies more calls g.1
    ∙ ap (λ n. calls_before calls (calls_in n more)) on

-- the head is read
pub head_read : (head : Head) (bodies : List (List ℕ)) (body bytes : List ℕ) → length bodies ≡ 0 → head_fault head body ≡ None → IsRead head bodies bytes → IsRead head (bodies ++ body ∷ []) bytes
head_read head [] body bytes none good read = record {
  calls = [];
  are = ap (λ o. unless_fault o (Ok [])) good;
  loggable = λ k d within. absurd (omega (arith, within));
  is = let nothing : [] ≡ read.calls = (let are : Ok [] ≡ Ok read.calls = read.are in cc) in read.is ∙ ap calls_bytes (sym nothing);
}
head_read head (b ∷ bodies) body bytes none good read = absurd (omega (arith, none))

pub head_refused : (head : Head) (bodies more : List (List ℕ)) (body : List ℕ) (fault : LogFault) → length bodies ≡ 0 → head_fault head body ≡ Some fault → calls_of head (bodies ++ body ∷ more) ≡ Err fault
head_refused head [] more body fault none bad = ap (λ o. unless_fault o (calls_in 0 more)) bad
head_refused head (b ∷ bodies) more body fault none bad = absurd (omega (arith, none))

bytes_push : (calls : List Logged) (call : Logged) → calls_bytes (calls ++ call ∷ []) ≡ calls_bytes calls ++ call_bytes call
bytes_push [] call = append-nil (call_bytes call)
bytes_push (c ∷ calls) call = ap (λ l. call_bytes c ++ l) (bytes_push calls call) ∙ sym (append_assoc (call_bytes c) (calls_bytes calls) (call_bytes call))

-- one call more is read
pub call_read : (head : Head) (bodies : List (List ℕ)) (body bytes more : List ℕ) (call : Logged) → 0 < length bodies → front_call body ≡ Some call → IsLoggable call → more ≡ bytes ++ call_bytes call → IsRead head bodies bytes → IsRead head (bodies ++ body ∷ []) more
call_read head [] body bytes more call some good loggable written read = absurd (omega (arith, some))
call_read head (first ∷ bodies) body bytes more call some good loggable written read = record {
  calls = read.calls ++ call ∷ [];
  are =
      of_append head first bodies (body ∷ []) read.calls read.are
      ∙ ap (λ o. calls_before read.calls (with_call (length bodies) o (Ok []))) good;
  loggable = All-push IsLoggable read.calls call read.loggable loggable;
  is = written ∙ ap (λ l. l ++ call_bytes call) read.is ∙ sym (bytes_push read.calls call);
}

pub call_refused : (head : Head) (bodies more : List (List ℕ)) (body bytes : List ℕ) (place : ℕ) → length bodies ≡ suc place → front_call body ≡ None → IsRead head bodies bytes → calls_of head (bodies ++ body ∷ more) ≡ Err (Damaged place)
call_refused head [] more body bytes place some bad read = absurd (omega (arith, some))
call_refused head (first ∷ bodies) more body bytes place some bad read =
    let at : length bodies ≡ place = omega (arith, some) in
    of_append head first bodies (body ∷ more) read.calls read.are
    ∙ ap (λ o. calls_before read.calls (with_call (length bodies) o (calls_in (length bodies + 1) more))) bad
    ∙ ap (λ n. Err (Damaged n)) at
