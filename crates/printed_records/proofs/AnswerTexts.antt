-- The answers of a run, read again.
use Rattle.printed_records.proofs.Prelude.{Answer, AreTyped, Arrived, Bool, Command, Did, Doomed, Down, Ended, Entry, Fell, Fine, Found, IsSound, IsTyped, Kept, Kind, List, None, Ok, Option, Place, Placed, Rose, RoutineText, RunText, Script, Skipped, Some, Undid, WindowText, [], answer_of, answer_text, answer_word, answer_words, answers_told, ap, append_assoc, arith, common_steps, cons_option, enumerate_from, false, filter_map, flat_map, has_value, if◌then◌else◌, kind_at, kinds_of, length, length-append, map, next_answer, numbered_answers, numbered_in, plain_script, refl, required, slice_get, states_of, subst, sym, true, walk, ℕ, ◌++◌, ◌+◌, ◌==◌, ◌>>=◌, ◌∙◌, ◌∷◌, ◌≡◌}
use Rattle.printed_records.proofs.LineTexts.{spaced}
use Rattle.printed_records.proofs.Names.{sound-device}
use Rattle.printed_records.proofs.Plain.{AreWords, word-plain}
use Rattle.printed_records.proofs.Runs.{IsRunOf, command-of, device-kind, states-at}
use Rattle.printed_records.proofs.Values.{IsAnswerOf, answer-plain, answer-read}
use Rattle.printed_records.proofs.WordReads.{AreRead, read-length, reads}

-- an answer with its command's number, as it is printed
abbrev pub numbered_text : Script → WindowText → ℕ → ℕ × Answer → List ℕ
numbered_text script window r p = answer_text (states_of script window r p.0) p.1

-- the words of the answers that an entry has
abbrev entry_texts : Script → WindowText → ℕ → Option (ℕ × Answer) → List (List ℕ)
entry_texts script window r o = map (numbered_text script window r) (cons_option o [])

word-entry : (script : Script) (window : WindowText) (r : ℕ) (e : Entry) (tail : List ℕ)
    → answer_word script window r e ++ tail ≡ spaced (entry_texts script window r (numbered_in r e)) tail
unfolding answer_word
word-entry script window r (Arrived q m) tail = refl
word-entry script window r (Placed q place m) tail = refl
word-entry script window r (Did q c a) tail = by (q.0 == r)
  where
    by : (b : Bool) → (if b then 32 ∷ answer_text (states_of script window r c) a else []) ++ tail
        ≡ spaced (entry_texts script window r (if b then Some (c, a) else None)) tail
    by true = refl
    by false = refl
word-entry script window r (Undid q d drove) tail = refl
word-entry script window r (Fell d) tail = refl
word-entry script window r (Rose d) tail = refl
word-entry script window r (Doomed q cause) tail = refl
word-entry script window r (Ended q end) tail = refl

spaced-first : (script : Script) (window : WindowText) (r : ℕ) (o : Option (ℕ × Answer)) (more : List (ℕ × Answer)) (tail : List ℕ)
    → spaced (entry_texts script window r o) (spaced (map (numbered_text script window r) more) tail) ≡ spaced (map (numbered_text script window r) (cons_option o more)) tail
spaced-first script window r None more tail = refl
spaced-first script window r (Some p) more tail = refl

-- the words of a run's answers, each with a space before it
pub answers-spaced : (script : Script) (window : WindowText) (r : ℕ) (history : List Kept) (tail : List ℕ)
    → answer_words script window r history ++ tail ≡ spaced (map (numbered_text script window r) (numbered_answers r history)) tail
unfolding answer_words numbered_answers
answers-spaced script window r [] tail = refl
answers-spaced script window r (kept ∷ history) tail =
    let rest = flat_map (λ (x : Kept). answer_word script window r x.entry) history in
    let more = filter_map (λ (x : Kept). numbered_in r x.entry) history in
    append_assoc (answer_word script window r kept.entry) rest tail
    ∙ ap (λ t. answer_word script window r kept.entry ++ t) (answers-spaced script window r history tail)
    ∙ word-entry script window r kept.entry (spaced (map (numbered_text script window r) more) tail)
    ∙ spaced-first script window r (numbered_in r kept.entry) more tail

typed-as : (kinds : List Kind) (kind : Kind) (c : Command) (a : Answer) → kind_at kinds c.device.0 ≡ kind → IsTyped kinds c a → IsAnswerOf kind c a
typed-as kinds kind c Fine same typed = typed
typed-as kinds kind c (Found x) same typed = (typed.0, subst (λ k. has_value k x ≡ true) same typed.1)
typed-as kinds kind c Down same typed = typed
typed-as kinds kind c Skipped same typed = typed

get-after : (front : List Command) (c : Command) (rest : List Command) → slice_get (front ++ c ∷ rest) (length front) ≡ Some c
get-after [] c rest = refl
get-after (f ∷ front) c rest = get-after front c rest

abbrev texts_from : Script → WindowText → ℕ → ℕ → List Answer → List (List ℕ)
texts_from script window r n answers = map (numbered_text script window r) (enumerate_from n answers)

-- the printed answers to the commands from this one on: words, and read as the answers
pub record AreAnswers (script : Script) (window : WindowText) (r n : ℕ) (commands : List Command) (answers : List Answer) : Type 0 where
  pub read : AreRead (answer_of script.devices.items) commands (texts_from script window r n answers) answers
  pub words : AreWords (texts_from script window r n answers)

module _ (script : Script) (window : WindowText) (r : ℕ) (run : RunText) (routine : RoutineText) (sound : IsSound (plain_script script)) (is : IsRunOf script window r run routine) where
  one-answer : (c : Command) (n : ℕ) (a : Answer) → slice_get routine.routine.commands.items n ≡ Some c → IsTyped (kinds_of script) c a
      → (answer_of script.devices.items c (numbered_text script window r (n, a)) ≡ Some a) × AreWords (numbered_text script window r (n, a) ∷ [])
  one-answer c n a at typed =
      let own = command-of script routine run.routine n c sound is.routine_is at in
      let device = own.0 in
      let states : states_of script window r n ≡ device.states.items = states-at script window r run routine n c device is own.1 in
      let well = sound-device script c.device.0 device sound own.1.device_is in
      let as_is = typed-as (kinds_of script) device.kind c a (device-kind script c.device.0 device own.1.device_is) typed in
      subst (λ ss. (answer_of script.devices.items c (answer_text ss a) ≡ Some a) × AreWords (answer_text ss a ∷ [])) (sym states)
      (answer-read script.devices.items c device a own.1.device_is well as_is, (word-plain (answer_text device.states.items a) (answer-plain device c a well as_is), tt))

  answers-from : (front commands : List Command) (answers : List Answer) (n : ℕ) → n ≡ length front → front ++ commands ≡ routine.routine.commands.items
      → AreTyped (kinds_of script) commands answers → AreAnswers script window r n commands answers
  unfolding AreTyped
  answers-from front [] [] n number all typed = record { read = tt; words = tt }
  answers-from front [] (a ∷ answers) n number all typed = absurd typed
  answers-from front (c ∷ commands) [] n number all typed = absurd typed
  answers-from front (c ∷ commands) (a ∷ answers) n number all typed =
      let at : slice_get routine.routine.commands.items n ≡ Some c =
      ap (λ cs. slice_get cs n) (sym all) ∙ ap (slice_get (front ++ c ∷ commands)) number ∙ get-after front c commands in
      let one = one-answer c n a at typed.0 in
      let more = answers-from (front ++ c ∷ []) commands answers (n + 1) (omega (arith, number, length-append front (c ∷ []))) (append_assoc front (c ∷ []) commands ∙ all) typed.1 in
      record { read = (one.0, more.read); words = (one.1.0, more.words) }

  -- the answers to all the commands
  pub answers-all : (answers : List Answer) → AreTyped (kinds_of script) routine.routine.commands.items answers
      → AreAnswers script window r 0 routine.routine.commands.items answers
  answers-all answers typed = answers-from [] routine.routine.commands.items answers 0 refl refl typed

  pub answers-told : (answers : List Answer) (place : Place) → AreTyped (kinds_of script) routine.routine.commands.items answers
      → answers_told script.devices.items routine.routine.commands.items (texts_from script window r 0 answers) place ≡ Ok answers
  unfolding answers_told
  answers-told answers place typed =
      let commands = routine.routine.commands.items in
      let words = texts_from script window r 0 answers in
      let read = (answers-all answers typed).read in
      let as_many : (length words == length commands) ≡ true = grind (arith, common_steps, read-length (answer_of script.devices.items) commands words answers read) in
      ap (λ b. required b place >>= (λ as_many. walk (next_answer script.devices.items words place) [] commands)) as_many
      ∙ reads (answer_of script.devices.items) place commands words answers read
