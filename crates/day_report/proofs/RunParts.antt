-- The line of a run is told by its own entries alone.
use Rattle.day_report.proofs.Prelude.{Aborted, AreApart, Arrived, Bool, Committed, Did, Doomed, Ended, Entry, Fell, List, None, Option, Placed, Rose, Script, Some, Undid, WindowText, [], answer_word, answer_words, ap, codes, cond, decimal, end_in, end_of, end_text, entries_of_run, false, filter, first_told, flat_map, get_or, get_or_default, length, line_of_run, refl, routine_name, run_told_of, sym, true, ℕ, ◌++◌, ◌+◌, ◌<◌, ◌==◌, ◌∙◌, ◌∷◌, ◌≡◌}
use Rattle.history_book.specs.declared.entries.End.{End}
use Rattle.history_book.specs.declared.entries.Kept.{Kept}
use Rattle.std.specs.Option.{option_or}

-- elements that give no piece may be left out
pub flat_map-filter : {X A : Type 0} (f : X → List A) (test : X → Bool) → ((x : X) → test x ≡ false → f x ≡ []) → (xs : List X) → flat_map f (filter test xs) ≡ flat_map f xs
flat_map-filter f test no_piece [] = refl
flat_map-filter f test no_piece (x ∷ xs) =
    elim (test x) as (λ b. test x ≡ b → flat_map f (cond b (x ∷ filter test xs) (filter test xs)) ≡ f x ++ flat_map f xs) [
      | true ↦ (λ e. ap (λ rest. f x ++ rest) (flat_map-filter f test no_piece xs))
      | false ↦ (λ e. flat_map-filter f test no_piece xs ∙ ap (λ piece. piece ++ flat_map f xs) (sym (no_piece x e)))
    ] refl

-- entries that do not tell it may be left out
pub first_told-filter : {T : Type 0} (told : Entry → Option T) (test : Kept → Bool) → ((kept : Kept) → test kept ≡ false → told kept.entry ≡ None) → (history : List Kept) → first_told told (filter test history) ≡ first_told told history
first_told-filter told test silent [] = refl
first_told-filter told test silent (kept ∷ history) =
    elim (test kept) as (λ b. test kept ≡ b → first_told told (cond b (kept ∷ filter test history) (filter test history)) ≡ option_or (told kept.entry) (first_told told history)) [
      | true ↦ (λ e. ap (λ rest. option_or (told kept.entry) rest) (first_told-filter told test silent history))
      | false ↦ (λ e. first_told-filter told test silent history ∙ ap (λ o. option_or o (first_told told history)) (sym (silent kept e)))
    ] refl

no_answer : (script : Script) (window : WindowText) (r : ℕ) (entry : Entry) → (run_told_of entry == r) ≡ false → answer_word script window r entry ≡ []
unfolding answer_word
no_answer script window r (Arrived q moment) e = refl
no_answer script window r (Placed q at moment) e = refl
no_answer script window r (Did q c answer) e = rw e refl
no_answer script window r (Undid q d drove) e = refl
no_answer script window r (Fell d) e = refl
no_answer script window r (Rose d) e = refl
no_answer script window r (Doomed q cause) e = refl
no_answer script window r (Ended q end) e = refl

no_end : (r : ℕ) (entry : Entry) → (run_told_of entry == r) ≡ false → end_in r entry ≡ None
no_end r (Arrived q moment) e = refl
no_end r (Placed q at moment) e = refl
no_end r (Did q c answer) e = refl
no_end r (Undid q d drove) e = refl
no_end r (Fell d) e = refl
no_end r (Rose d) e = refl
no_end r (Doomed q cause) e = refl
no_end r (Ended q end) e = rw e refl

-- the answers of a run stand among its own entries
pub answer_words-own : (script : Script) (window : WindowText) (r : ℕ) (history : List Kept) → answer_words script window r (entries_of_run r history) ≡ answer_words script window r history
unfolding answer_words
answer_words-own script window r history = flat_map-filter (λ kept. answer_word script window r kept.entry) (λ kept. run_told_of kept.entry == r) (λ kept e. no_answer script window r kept.entry e) history

-- so does its end
pub end_of-own : (r : ℕ) (history : List Kept) → end_of (entries_of_run r history) r ≡ end_of history r
end_of-own r history = first_told-filter (end_in r) (λ kept. run_told_of kept.entry == r) (λ kept e. no_end r kept.entry e) history

end_text-own : (script : Script) (window : WindowText) (r : ℕ) (history : List Kept) (end : Option End) → end_text script window (entries_of_run r history) r end ≡ end_text script window history r end
unfolding end_text
end_text-own script window r history None = refl
end_text-own script window r history (Some Committed) = ap (λ words. codes " committed" ++ words) (answer_words-own script window r history)
end_text-own script window r history (Some (Aborted cause)) = refl

-- the line of a run is told by its own entries
pub run_line-own : (script : Script) (window : WindowText) (history : List Kept) (r routine : ℕ) → line_of_run script window (entries_of_run r history) r routine ≡ line_of_run script window history r routine
unfolding line_of_run
run_line-own script window history r routine =
    ap (λ end. codes "run " ++ decimal r ++ codes " " ++ routine_name script routine ++ end ++ codes "\n")
    (ap (λ end. end_text script window (entries_of_run r history) r end) (end_of-own r history) ∙ end_text-own script window r history (end_of history r))

-- the line of a run is told by its part
pub run_line-of_part : (script : Script) (window : WindowText) (history : List Kept) (parts : List (List Kept)) (i routine : ℕ) (part own : List Kept) → i
    < length parts → AreApart parts history → part ≡ get_or parts i part → own ≡ part
    → line_of_run script window own (i + 1) routine ≡ line_of_run script window history (i + 1) routine
run_line-of_part script window history parts i routine part own within apart is same =
    ap (λ entries. line_of_run script window entries (i + 1) routine) (same ∙ is ∙ get_or_default parts i part [] within ∙ apart i within)
    ∙ run_line-own script window history (i + 1) routine
