-- The line of a run, read again.
use Rattle.printed_records.proofs.Prelude.{Aborted, AreTyped, Committed, End, EndFits, IsSound, Kept, List, None, Ok, RoutineText, RunFits, RunText, Script, Some, WindowText, [], answers_of_run, answers_told, ap, append_assoc, ap₂, bytes_eq, codes, decimal, end_of, end_text, end_told, enumerate_from, is_number, kinds_of, length, line_of_run, lines_of, map, numbered_answers, plain_script, refl, required, routine_commands, run_no, run_of_text, run_told, run_words_told, subst, sym, told_end, ℕ, ◌&&◌, ◌++◌, ◌<◌, ◌>>=◌, ◌^◌, ◌∙◌, ◌∷◌, ◌≡◌}
use Rattle.order_checker.specs.Windows as checked
use Rattle.order_checker.specs.declared.verdicts.Place.TheVariants as place
use Rattle.printed_records.proofs.AnswerTexts.{answers-all, answers-spaced, answers-told, numbered_text}
use Rattle.printed_records.proofs.CauseTexts.{cause-printed, cause-spaced, cause_words}
use Rattle.printed_records.proofs.Firsts.{bytes_eq-self}
use Rattle.printed_records.proofs.LineTexts.{line_with, lines-words, spaced, words-line}
use Rattle.printed_records.proofs.Names.{name-word, sound-routine}
use Rattle.printed_records.proofs.Numerals.{decimal-word, is_number-decimal}
use Rattle.printed_records.proofs.Plain.{AreWords, IsWord, word-seen}
use Rattle.printed_records.proofs.Runs.{IsRunOf, name-checked, name-printed, routine-commands, run-commands}

-- the words of a run's end
abbrev pub end_words : Script → WindowText → List Kept → ℕ → End → List (List ℕ)
end_words script window history r Committed = codes "committed" ∷ map (numbered_text script window r) (numbered_answers r history)
end_words script window history r (Aborted cause) = codes "aborted" ∷ cause_words script window r cause

end-spaced : (script : Script) (window : WindowText) (history : List Kept) (r : ℕ) (end : End) (tail : List ℕ)
    → end_text script window history r (Some end) ++ tail ≡ spaced (end_words script window history r end) tail
unfolding end_text
end-spaced script window history r Committed tail = ap (λ t. codes " committed" ++ t) (answers-spaced script window r history tail)
end-spaced script window history r (Aborted cause) tail = ap (λ t. codes " aborted" ++ t) (cause-spaced script window r cause tail)

line-parts : (number name end : List ℕ)
    → codes "run " ++ number ++ codes " " ++ name ++ end ++ codes "\n" ≡ codes "run" ++ 32 ∷ (number ++ 32 ∷ (name ++ (end ++ 10 ∷ [])))
line-parts number name end = simp append_assoc

-- the line of a run, in front of others: it tells how the run ended
pub record IsRunLine (script : Script) (window : WindowText) (history : List Kept) (r routine : ℕ) (line : List ℕ) : Type 0 where
  pub lines : (rest : List ℕ) → lines_of (line_of_run script window history r routine ++ rest) ≡ Some line ∷ lines_of rest
  pub told : run_told script.devices.items (length window.runs.items) r (checked.named_routine script routine) (routine_commands script routine) (Some line)
      ≡ Ok (told_end r history (end_of history r))

module _ (script : Script) (window : WindowText) (r : ℕ) (run : RunText) (routine : RoutineText) (sound : IsSound (plain_script script)) (is : IsRunOf script window r run routine) where
  -- the words of an end, and what they tell
  end-told : (history : List Kept) (end : End) → length window.runs.items < 2 ^ 64
      → EndFits (kinds_of script) (map (run_of_text script) window.runs.items) r history end
      → AreWords (end_words script window history r end)
      × (run_words_told script.devices.items (length window.runs.items) r routine.name routine.routine.commands.items
      (codes "run" ∷ decimal r ∷ routine.name ∷ end_words script window history r end)
      ≡ (required (is_number r (decimal r) && bytes_eq routine.name routine.name) (place.Run (run_no r)) >>= (λ this_run. Ok (told_end r history (Some end)))))
  unfolding run_words_told end_told
  end-told history Committed few_runs fits =
      let answers = answers_of_run r history in
      let commands = routine.routine.commands.items in
      let typed : AreTyped (kinds_of script) commands answers =
      subst (λ cs. AreTyped (kinds_of script) cs answers) (run-commands script window r run routine is) fits.1 in
      let texts : map (numbered_text script window r) (numbered_answers r history) ≡ map (numbered_text script window r) (enumerate_from 0 answers) =
      ap (map (numbered_text script window r)) fits.0 in (
        (word-seen (codes "committed") refl refl, subst AreWords (sym texts) (answers-all script window r run routine sound is answers typed).words),
        ap (λ o. required (is_number r (decimal r) && bytes_eq routine.name routine.name) (place.Run (run_no r)) >>= (λ this_run. o >>= (λ told. Ok (Some told))))
            (ap (λ ws. answers_told script.devices.items commands ws (place.Run (run_no r))) texts ∙ answers-told script window r run routine sound is answers (place.Run (run_no r)) typed),
      )
  end-told history (Aborted cause) few_runs fits =
      let printed = cause-printed script window r run routine sound is cause few_runs fits in (
        (word-seen (codes "aborted") refl refl, printed.words),
        ap (λ b. required (is_number r (decimal r) && bytes_eq routine.name routine.name) (place.Run (run_no r)) >>= (λ this_run. required b (place.Run (run_no r)) >>= (λ aborted. Ok None))) printed.is,
      )

  run-spaced : (history : List Kept) (end : End) → end_of history r ≡ Some end
      → line_of_run script window history r run.routine ≡ codes "run" ++ spaced (decimal r ∷ routine.name ∷ end_words script window history r end) (10 ∷ [])
  unfolding line_of_run
  run-spaced history end ended =
      ap₂ (λ n e. codes "run " ++ decimal r ++ codes " " ++ n ++ end_text script window history r e ++ codes "\n") (name-printed script window r run routine is) ended
      ∙ line-parts (decimal r) routine.name (end_text script window history r (Some end))
      ∙ ap (λ t. codes "run" ++ 32 ∷ (decimal r ++ 32 ∷ (routine.name ++ t))) (end-spaced script window history r end (10 ∷ []))

  -- the line of a run that fits is one, and tells its end
  pub run-printed : (history : List Kept) → r < 2 ^ 64 → length window.runs.items < 2 ^ 64
      → RunFits (kinds_of script) (map (run_of_text script) window.runs.items) r history → (line : List ℕ) × IsRunLine script window history r run.routine line
  run-printed history small few_runs fits =
      let end = fits.0 in
      let words = decimal r ∷ routine.name ∷ end_words script window history r end in
      let told = end-told history end few_runs fits.2 in
      let name = name-word routine.name (sound-routine script run.routine routine sound is.routine_is).name in
      let first : IsWord (codes "run") = word-seen (codes "run") refl refl in
      let are : AreWords words = (decimal-word r small, (name, told.0)) in (
        line_with (codes "run") words,
        record {
          lines = λ rest. ap (λ t. lines_of (t ++ rest)) (run-spaced history end fits.1) ∙ lines-words (codes "run") words rest first are refl;
          told =
              ap₂ (λ n cs. run_told script.devices.items (length window.runs.items) r n cs (Some (line_with (codes "run") words)))
              (name-checked script window r run routine is) (routine-commands script window r run routine is)
              ∙ ap (run_words_told script.devices.items (length window.runs.items) r routine.name routine.routine.commands.items) (words-line (codes "run") words first are)
              ∙ told.1
              ∙ (λ i. required (is_number-decimal r small i && bytes_eq-self routine.name i) (place.Run (run_no r)) >>= (λ this_run. Ok (told_end r history (Some end))))
              ∙ ap (λ o. Ok (told_end r history o)) (sym fits.1);
        },
      )
