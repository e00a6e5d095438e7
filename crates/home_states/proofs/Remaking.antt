-- Calls that are made one after another, and the one that is refused.
use Rattle.home_states.proofs.Prelude.{AreRefusedAt, List, LiveState, Some, WasMade, WereMade, [], ap, append-nil, append_assoc, arith, is_refused, length, length-append, refl, slice_get, subst, sym, take, true, ℕ, ◌*◌, ◌++◌, ◌+◌, ◌/◌, ◌∙◌, ◌∷◌, ◌≡◌}
use Rattle.logged_calls.specs.declared.calls.Logged.{Logged}

pub one_more : (calls : List Logged) (call : Logged) (s t u : LiveState) → WereMade s calls t → WasMade t call u → WereMade s (calls ++ call ∷ []) u
one_more [] call s t u made was = (u, subst (λ x. WasMade x call u) made was, refl)
one_more (first ∷ calls) call s t u made was = (made.0, made.1, one_more calls call made.0 t u made.2 was)

-- the calls of the bytes are those that were made, and those that are left
pub record AreMade (s : LiveState) (all left : List Logged) (at : ℕ) (t : LiveState) : Type 0 where
  pub done : List Logged
  pub are : all ≡ done ++ left
  pub place : at ≡ 24 * length done
  pub made : WereMade s done t

pub none_made : (s : LiveState) (all : List Logged) → AreMade s all all 0 s
none_made s all = record { done = []; are = refl; place = refl; made = refl }

pub made_more : (s t u : LiveState) (all left rest : List Logged) (call : Logged) (at : ℕ) → AreMade s all left at t → left ≡ call ∷ rest → WasMade t call u
    → AreMade s all rest (at + 24) u
made_more s t u all left rest call at before next was = record {
  done = before.done ++ call ∷ [];
  are = before.are ∙ ap (λ l. before.done ++ l) next ∙ sym (append_assoc before.done (call ∷ []) rest);
  place = let sum = length-append before.done (call ∷ []) in let own = before.place in omega (arith, sum, own);
  made = one_more before.done call s t u before.made was;
}

pub all_made : (s t : LiveState) (all left : List Logged) (at : ℕ) → AreMade s all left at t → left ≡ [] → WereMade s all t
all_made s t all left at before none =
    subst (λ l. WereMade s l t) (sym (before.are ∙ ap (λ l. before.done ++ l) none ∙ append-nil before.done)) before.made

take_front : (xs ys : List Logged) → take (length xs) (xs ++ ys) ≡ xs
take_front [] ys = refl
take_front (x ∷ xs) ys = ap (λ l. x ∷ l) (take_front xs ys)

get_next : (xs ys : List Logged) (y : Logged) → slice_get (xs ++ y ∷ ys) (length xs) ≡ Some y
get_next [] ys y = refl
get_next (x ∷ xs) ys y = get_next xs ys y

pub refused_at : (s t : LiveState) (all left rest : List Logged) (call : Logged) (at : ℕ) → AreMade s all left at t → left ≡ call ∷ rest → is_refused t call ≡ true
    → AreRefusedAt s all (at / 24)
refused_at s t all left rest call at before next refused =
    let are : all ≡ before.done ++ call ∷ rest = before.are ∙ ap (λ l. before.done ++ l) next in
    let place : length before.done ≡ at / 24 = (let own = before.place in omega (arith, own)) in
    subst (λ n. AreRefusedAt s all n) place (subst (λ l. AreRefusedAt s l (length before.done)) (sym are) (record {
      before = t;
      call = call;
      made = subst (λ l. WereMade s l t) (sym (take_front before.done (call ∷ rest))) before.made;
      there = get_next before.done rest call;
      refused = refused;
    }))
