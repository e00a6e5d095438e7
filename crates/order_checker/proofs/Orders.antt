-- The items of an order, one after another, against the printed answers.
use Rattle.order_checker.proofs.Prelude.{Answer, Err, Item, Kind, List, None, Ok, Option, Place, Result, Run, Some, Stand, [], ap, commands_of, drop, drop_all, drop_more, false, fold, get_or, length, option_map, option_or, refl, routine_execution, sym, unwrap_or, ℕ, ◌++◌, ◌+◌, ◌<◌, ◌∙◌, ◌∷◌, ◌≡◌, ◌≤◌}
use Rattle.command_rules.specs.Serial.{SerialRun, Served, serve}
use Rattle.home_types.specs.declared.items.Item.TheVariants.{Back, Failed, Ran}
use Rattle.home_types.specs.declared.numbers.RunNo.{RunNo}
use Rattle.order_checker.specs.Answers.{first_found, home_after, home_behind, item_wrong, wrong_of}

-- the home behind a run, where nothing of it is wrong
abbrev pub behind_run : Option Place → List Stand → (List Stand → Result (List Stand) Place) → Result (List Stand) Place
behind_run None home next = next home
behind_run (Some wrong) home next = Err wrong

-- the home behind the items from this home on, or the first wrong command
unfoldable pub behind_from : List Run → List Kind → List (Option (List Answer)) → List Stand → List Item → Result (List Stand) Place
behind_from runs kinds ends home [] = Ok home
behind_from runs kinds ends home (item ∷ items) =
    behind_run (item_wrong runs kinds ends home item) (home_after runs kinds home item) (λ home. behind_from runs kinds ends home items)

-- the outcome of an execution
abbrev pub outcome : Option Place → List Stand → Result (List Stand) Place
outcome wrong home = unwrap_or (option_map (λ place. Err place) wrong) (Ok home)

found-append : (look : Served → Option Place) (xs ys : List Served) → first_found look (xs ++ ys) ≡ option_or (first_found look xs) (first_found look ys)
found-append look [] ys = refl
found-append look (x ∷ xs) ys = ap (option_or (look x)) (found-append look xs ys) ∙ assoc (look x) (first_found look xs) (first_found look ys)
  where
    assoc : (a b c : Option Place) → option_or a (option_or b c) ≡ option_or (option_or a b) c
    assoc None b c = refl
    assoc (Some a) b c = refl

-- what was found stays found
kept : (look : Served → Option Place) (place : Place) (xs ys : List Served) → first_found look xs ≡ Some place → first_found look (xs ++ ys) ≡ Some place
kept look place xs ys found = found-append look xs ys ∙ ap (λ o. option_or o (first_found look ys)) found

found-kept : (runs : List Run) (kinds : List Kind) (look : Served → Option Place) (place : Place) (s : SerialRun) (items : List Item)
    → first_found look s.answers ≡ Some place → first_found look (fold (serve runs kinds) s items).answers ≡ Some place
found-kept runs kinds look place s [] found = found
found-kept runs kinds look place s (Ran r ∷ items) found =
    found-kept runs kinds look place (serve runs kinds s (Ran r)) items (kept look place s.answers (record { run = r; answers = (routine_execution kinds (commands_of runs r.0) s.home).answers } ∷ []) found)
found-kept runs kinds look place s (Failed d k ∷ items) found = found-kept runs kinds look place (serve runs kinds s (Failed d k)) items found
found-kept runs kinds look place s (Back d k ∷ items) found = found-kept runs kinds look place (serve runs kinds s (Back d k)) items found

one-found : (look : Served → Option Place) (v : Served) → first_found look (v ∷ []) ≡ look v
one-found look v = or-none (look v)
  where
    or-none : (o : Option Place) → option_or o None ≡ o
    or-none None = refl
    or-none (Some place) = refl

next-found : (look : Served → Option Place) (xs : List Served) (v : Served) → first_found look xs ≡ None → first_found look (xs ++ v ∷ []) ≡ look v
next-found look xs v none = found-append look xs (v ∷ []) ∙ ap (λ o. option_or o (first_found look (v ∷ []))) none ∙ one-found look v

-- a run behind which all is told
run-behind : (runs : List Run) (kinds : List Kind) (ends : List (Option (List Answer))) (s : SerialRun) (r : RunNo) (items : List Item) (wrong : Option Place)
    → (first_found (wrong_of runs ends) (serve runs kinds s (Ran r)).answers ≡ None
    → outcome (first_found (wrong_of runs ends) (fold (serve runs kinds) (serve runs kinds s (Ran r)) items).answers) (fold (serve runs kinds) (serve runs kinds s (Ran r)) items).home
    ≡ behind_from runs kinds ends (routine_execution kinds (commands_of runs r.0) s.home).home items)
    → wrong_of runs ends (record { run = r; answers = (routine_execution kinds (commands_of runs r.0) s.home).answers }) ≡ wrong
    → first_found (wrong_of runs ends) s.answers ≡ None
    → outcome (first_found (wrong_of runs ends) (fold (serve runs kinds) (serve runs kinds s (Ran r)) items).answers) (fold (serve runs kinds) (serve runs kinds s (Ran r)) items).home
    ≡ behind_run wrong (routine_execution kinds (commands_of runs r.0) s.home).home (λ home. behind_from runs kinds ends home items)
run-behind runs kinds ends s r items None rest right none = rest (next-found (wrong_of runs ends) s.answers _ none ∙ right)
run-behind runs kinds ends s r items (Some place) rest wrong none =
    ap (λ o. outcome o (fold (serve runs kinds) (serve runs kinds s (Ran r)) items).home)
    (found-kept runs kinds (wrong_of runs ends) place (serve runs kinds s (Ran r)) items (next-found (wrong_of runs ends) s.answers _ none ∙ wrong))

all-behind : (runs : List Run) (kinds : List Kind) (ends : List (Option (List Answer))) (s : SerialRun) (items : List Item)
    → first_found (wrong_of runs ends) s.answers ≡ None
    → outcome (first_found (wrong_of runs ends) (fold (serve runs kinds) s items).answers) (fold (serve runs kinds) s items).home ≡ behind_from runs kinds ends s.home items
unfolding behind_from
all-behind runs kinds ends s [] none = ap (λ o. outcome o s.home) none
all-behind runs kinds ends s (Ran r ∷ items) none = run-behind runs kinds ends s r items _ (all-behind runs kinds ends (serve runs kinds s (Ran r)) items) refl none
all-behind runs kinds ends s (Failed d k ∷ items) none = all-behind runs kinds ends (serve runs kinds s (Failed d k)) items none
all-behind runs kinds ends s (Back d k ∷ items) none = all-behind runs kinds ends (serve runs kinds s (Back d k)) items none

pub behind-start : (runs : List Run) (kinds : List Kind) (ends : List (Option (List Answer))) (home : List Stand) (items : List Item) → home_behind runs kinds ends home items ≡ behind_from runs kinds ends home items
unfolding home_behind
behind-start runs kinds ends home items = all-behind runs kinds ends (record { home = home; answers = []; refused = false }) items refl

-- an item with a wrong command, one without, and the end
behind-next : (runs : List Run) (kinds : List Kind) (ends : List (Option (List Answer))) (home : List Stand) (items : List Item) (i : ℕ) (d : Item)
    → i < length items → behind_from runs kinds ends home (drop i items) ≡ behind_run (item_wrong runs kinds ends home (get_or items i d)) (home_after runs kinds home (get_or items i d)) (λ home. behind_from runs kinds ends home (drop (i + 1) items))
unfolding behind_from
behind-next runs kinds ends home items i d within = ap (behind_from runs kinds ends home) (drop_more items i d within)

pub behind-wrong : (runs : List Run) (kinds : List Kind) (ends : List (Option (List Answer))) (home : List Stand) (items : List Item) (i : ℕ) (d : Item) (place : Place)
    → i < length items → item_wrong runs kinds ends home (get_or items i d) ≡ Some place → behind_from runs kinds ends home (drop i items) ≡ Err place
behind-wrong runs kinds ends home items i d place within wrong =
    behind-next runs kinds ends home items i d within
    ∙ ap (λ o. behind_run o (home_after runs kinds home (get_or items i d)) (λ home. behind_from runs kinds ends home (drop (i + 1) items))) wrong

pub behind-right : (runs : List Run) (kinds : List Kind) (ends : List (Option (List Answer))) (home next : List Stand) (items : List Item) (i : ℕ) (d : Item)
    → i < length items → item_wrong runs kinds ends home (get_or items i d) ≡ None → next ≡ home_after runs kinds home (get_or items i d)
    → behind_from runs kinds ends home (drop i items) ≡ behind_from runs kinds ends next (drop (i + 1) items)
behind-right runs kinds ends home next items i d within right behind =
    behind-next runs kinds ends home items i d within
    ∙ ap (λ o. behind_run o (home_after runs kinds home (get_or items i d)) (λ home. behind_from runs kinds ends home (drop (i + 1) items))) right
    ∙ ap (λ home. behind_from runs kinds ends home (drop (i + 1) items)) (sym behind)

pub behind-end : (runs : List Run) (kinds : List Kind) (ends : List (Option (List Answer))) (home : List Stand) (items : List Item) (i : ℕ) → length items ≤ i → behind_from runs kinds ends home (drop i items) ≡ Ok home
unfolding behind_from
behind-end runs kinds ends home items i all = ap (behind_from runs kinds ends home) (drop_all i items all)
