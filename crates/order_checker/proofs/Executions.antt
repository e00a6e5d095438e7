-- An execution from where its home and its register stand.
use Rattle.order_checker.proofs.Prelude.{Answer, Command, Effect, Execution, Kind, List, None, Option, Some, Stand, [], ap, append-nil, append_assoc, arith, command_effect, drop, drop-drop, drop_all, drop_more, execute, fails, false, fold, get_or, if◌then◌else◌, length, not, option_map, option_map_or, refl, routine_execution, slice_get, slice_get-get_or, slice_get_past, slice_set, sym, true, ℕ, ⊎_elim, ◌&&◌, ◌++◌, ◌+◌, ◌<◌, ◌∙◌, ◌∷◌, ◌≡◌, ◌≤◌}
use Rattle.home_types.specs.HomeStates.{stand_at}
use Rattle.home_types.specs.Kinds.{kind_at}
use Rattle.order_checker.specs.Answers.{first_wrong, is_printed, is_same}
use Rattle.std.proofs.lemmas.Bool.{cases_lt}

-- what the next command does
abbrev pub effect_at : List Kind → List Stand → ℕ → Command → Effect
effect_at kinds home register c = command_effect (kind_at kinds c.device.0) c.when c.job register (stand_at home c.device.0)

-- the answers of the commands, and the home behind them
unfoldable pub answers_from : List Kind → List Stand → ℕ → List Command → List Answer
answers_from kinds home register [] = []
answers_from kinds home register (c ∷ commands) =
    (effect_at kinds home register c).answer
    ∷ answers_from kinds (slice_set home c.device.0 (effect_at kinds home register c).stand) (effect_at kinds home register c).register commands

unfoldable pub home_from : List Kind → List Stand → ℕ → List Command → List Stand
home_from kinds home register [] = home
home_from kinds home register (c ∷ commands) =
    home_from kinds (slice_set home c.device.0 (effect_at kinds home register c).stand) (effect_at kinds home register c).register commands

fold-answers : (kinds : List Kind) (x : Execution) (commands : List Command) → (fold (execute kinds) x commands).answers ≡ x.answers ++ answers_from kinds x.home x.register commands
unfolding answers_from
fold-answers kinds x [] = sym (append-nil x.answers)
fold-answers kinds x (c ∷ commands) =
    fold-answers kinds (execute kinds x c) commands ∙ append_assoc x.answers ((effect_at kinds x.home x.register c).answer ∷ []) _

fold-home : (kinds : List Kind) (x : Execution) (commands : List Command) → (fold (execute kinds) x commands).home ≡ home_from kinds x.home x.register commands
unfolding home_from
fold-home kinds x [] = refl
fold-home kinds x (c ∷ commands) = fold-home kinds (execute kinds x c) commands

pub routine-answers : (kinds : List Kind) (commands : List Command) (home : List Stand) → (routine_execution kinds commands home).answers ≡ answers_from kinds home 0 commands
routine-answers kinds commands home = fold-answers kinds (record { home = home; register = 0; answers = []; refused = false }) commands

pub routine-home : (kinds : List Kind) (commands : List Command) (home : List Stand) → (routine_execution kinds commands home).home ≡ home_from kinds home 0 commands
routine-home kinds commands home = fold-home kinds (record { home = home; register = 0; answers = []; refused = false }) commands

-- what is wrong first from a command on, counted from the first of all
unfoldable pub wrong_from : List Kind → List Stand → ℕ → List Command → List Answer → ℕ → Option ℕ
wrong_from kinds home register commands told i = option_map (λ k. k + i) (first_wrong commands (answers_from kinds home register commands) told)

plus-zero : (wrong : Option ℕ) → option_map (λ k. k + 0) wrong ≡ wrong
plus-zero None = refl
plus-zero (Some k) = ap Some (omega arith)

plus-more : (wrong : Option ℕ) (i : ℕ) → option_map (λ k. k + i) (option_map (λ k. k + 1) wrong) ≡ option_map (λ k. k + (i + 1)) wrong
plus-more None i = refl
plus-more (Some k) i = ap Some (omega arith)

pub wrong-start : (kinds : List Kind) (home : List Stand) (commands : List Command) (told : List Answer) → wrong_from kinds home 0 commands told 0 ≡ first_wrong commands (routine_execution kinds commands home).answers told
unfolding wrong_from
wrong-start kinds home commands told = plus-zero _ ∙ ap (λ answers. first_wrong commands answers told) (sym (routine-answers kinds commands home))

printed-at : (answer : Answer) (told : List Answer) (i : ℕ) → is_printed answer (drop i told) ≡ option_map_or (λ printed. is_same answer printed) (slice_get told i) false
printed-at answer told i = ⊎_elim
    (λ within. ap (is_printed answer) (drop_more told i answer within) ∙ sym (ap (λ found. option_map_or (λ printed. is_same answer printed) found false) (slice_get-get_or told i answer within)))
    (λ past. ap (is_printed answer) (drop_all i told past) ∙ sym (ap (λ found. option_map_or (λ printed. is_same answer printed) found false) (slice_get_past told i past)))
    (cases_lt i (length told))

-- a command that answered as printed and did not fail
pub wrong-passed : (kinds : List Kind) (home : List Stand) (register : ℕ) (commands : List Command) (told : List Answer) (i : ℕ) (d : Command) (e : Effect)
    → i < length commands → e ≡ effect_at kinds home register (get_or commands i d)
    → (option_map_or (λ printed. is_same e.answer printed) (slice_get told i) false && not (fails (get_or commands i d) e.answer)) ≡ true
    → wrong_from kinds home register (drop i commands) (drop i told) i
    ≡ wrong_from kinds (slice_set home (get_or commands i d).device.0 e.stand) e.register (drop (i + 1) commands) (drop (i + 1) told) (i + 1)
unfolding wrong_from first_wrong answers_from
wrong-passed kinds home register commands told i d e within effect right =
    let c = get_or commands i d in
    let rest : Effect → Option ℕ = λ e. first_wrong (drop (i + 1) commands) (answers_from kinds (slice_set home c.device.0 e.stand) e.register (drop (i + 1) commands)) (drop 1 (drop i told)) in
    let next : Effect → Option ℕ = λ e. if is_printed e.answer (drop i told) && not (fails c e.answer) then option_map (λ k. k + 1) (rest e) else Some 0 in
    let ok : (is_printed e.answer (drop i told) && not (fails c e.answer)) ≡ true = ap (λ b. b && not (fails c e.answer)) (printed-at e.answer told i) ∙ right in
    ap (λ cs. wrong_from kinds home register cs (drop i told) i) (drop_more commands i d within)
    ∙ ap (λ e. option_map (λ k. k + i) (next e)) (sym effect)
    ∙ ap (λ b. option_map (λ k. k + i) (if b then option_map (λ k. k + 1) (rest e) else Some 0)) ok
    ∙ plus-more (rest e) i
    ∙ ap (λ ts. wrong_from kinds (slice_set home c.device.0 e.stand) e.register (drop (i + 1) commands) ts (i + 1)) (drop-drop 1 i told)

-- one that did not
pub wrong-found : (kinds : List Kind) (home : List Stand) (register : ℕ) (commands : List Command) (told : List Answer) (i : ℕ) (d : Command) (e : Effect)
    → i < length commands → e ≡ effect_at kinds home register (get_or commands i d)
    → (option_map_or (λ printed. is_same e.answer printed) (slice_get told i) false && not (fails (get_or commands i d) e.answer)) ≡ false
    → wrong_from kinds home register (drop i commands) (drop i told) i ≡ Some i
unfolding wrong_from first_wrong answers_from
wrong-found kinds home register commands told i d e within effect wrong =
    let c = get_or commands i d in
    let rest : Effect → Option ℕ = λ e. first_wrong (drop (i + 1) commands) (answers_from kinds (slice_set home c.device.0 e.stand) e.register (drop (i + 1) commands)) (drop 1 (drop i told)) in
    let next : Effect → Option ℕ = λ e. if is_printed e.answer (drop i told) && not (fails c e.answer) then option_map (λ k. k + 1) (rest e) else Some 0 in
    let bad : (is_printed e.answer (drop i told) && not (fails c e.answer)) ≡ false = ap (λ b. b && not (fails c e.answer)) (printed-at e.answer told i) ∙ wrong in
    ap (λ cs. wrong_from kinds home register cs (drop i told) i) (drop_more commands i d within)
    ∙ ap (λ e. option_map (λ k. k + i) (next e)) (sym effect)
    ∙ ap (λ b. option_map (λ k. k + i) (if b then option_map (λ k. k + 1) (rest e) else Some 0)) bad
    ∙ ap Some (omega arith)

pub home-passed : (kinds : List Kind) (home : List Stand) (register : ℕ) (commands : List Command) (i : ℕ) (d : Command) (e : Effect)
    → i < length commands → e ≡ effect_at kinds home register (get_or commands i d)
    → home_from kinds home register (drop i commands) ≡ home_from kinds (slice_set home (get_or commands i d).device.0 e.stand) e.register (drop (i + 1) commands)
unfolding home_from
home-passed kinds home register commands i d e within effect =
    ap (home_from kinds home register) (drop_more commands i d within)
    ∙ ap (λ e. home_from kinds (slice_set home (get_or commands i d).device.0 e.stand) e.register (drop (i + 1) commands)) (sym effect)

pub wrong-end : (kinds : List Kind) (home : List Stand) (register : ℕ) (commands : List Command) (told : List Answer) (i : ℕ) → length commands ≤ i
    → wrong_from kinds home register (drop i commands) told i ≡ None
unfolding wrong_from first_wrong answers_from
wrong-end kinds home register commands told i all = ap (λ cs. wrong_from kinds home register cs told i) (drop_all i commands all)

pub home-end : (kinds : List Kind) (home : List Stand) (register : ℕ) (commands : List Command) (i : ℕ) → length commands ≤ i → home_from kinds home register (drop i commands) ≡ home
unfolding home_from
home-end kinds home register commands i all = ap (home_from kinds home register) (drop_all i commands all)
