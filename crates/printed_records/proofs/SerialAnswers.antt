-- The serial execution of an order, its answers as they are printed, and the numbers of its events.
use Rattle.printed_records.proofs.Prelude.{Answer, Back, Bool, Command, Down, Execution, Failed, Fine, Found, Item, Kind, List, None, Ok, Option, Ran, Reading, Run, SerialRun, Served, Skipped, Some, Stand, [], answers_in, ap, append-nil, append_assoc, arith, commands_of, common_steps, execute, fails, false, first_found, first_wrong, fold, home_behind, is_same, map, not, plain_item, refl, serial_execution, serve, subst, sym, told_of, true, wrong_of, ⊤, ◌&&◌, ◌++◌, ◌∙◌, ◌∷◌, ◌≡◌}
use Rattle.serial_meaning.proofs.Cited.{serve_stays}

-- ---- the numbers of events

-- an item is served alike without it
served_alike : (runs : List Run) (kinds : List Kind) (s : SerialRun) (item : Item) → serve runs kinds s (plain_item item) ≡ serve runs kinds s item
served_alike runs kinds s (Ran r) = refl
served_alike runs kinds s (Failed d k) = refl
served_alike runs kinds s (Back d k) = refl

-- .. and so are the items of an order
pub all_served_alike : (runs : List Run) (kinds : List Kind) (s : SerialRun) (items : List Item) → fold (serve runs kinds) s (map plain_item items) ≡ fold (serve runs kinds) s items
all_served_alike runs kinds s [] = refl
all_served_alike runs kinds s (item ∷ items) =
    ap (λ t. fold (serve runs kinds) t (map plain_item items)) (served_alike runs kinds s item) ∙ all_served_alike runs kinds (serve runs kinds s item) items

-- ---- no must fails

-- none of these answers is one with which a must command fails
abbrev pub none_failed : List Command → List Answer → Bool
none_failed [] answers = true
none_failed (c ∷ commands) [] = true
none_failed (c ∷ commands) (a ∷ answers) = not (fails c a) && none_failed commands answers

same_self : (a : Answer) → is_same a a ≡ true
same_self Fine = refl
same_self Down = refl
same_self Skipped = refl
same_self (Found x) = grind (arith, common_steps)

-- answers that are printed as they are, none of them failed, have none wrong
pub none_wrong : (commands : List Command) (answers : List Answer) → none_failed commands answers ≡ true → first_wrong commands answers answers ≡ None
unfolding first_wrong
none_wrong [] answers ok = refl
none_wrong (c ∷ commands) [] ok = refl
none_wrong (c ∷ commands) (a ∷ answers) ok =
    let same = same_self a in
    let calm : not (fails c a) ≡ true = grind (arith, common_steps) in
    let rest = none_wrong commands answers (grind (arith, common_steps)) in
    rw same (rw calm (rw rest refl))

first_calm : (kinds : List Kind) (x : Execution) (commands : List Command) → (fold (execute kinds) x commands).refused ≡ false → x.refused ≡ false
first_calm kinds x [] calm = calm
first_calm kinds x (c ∷ commands) calm =
    let next = first_calm kinds (execute kinds x c) commands calm in
    grind (arith, common_steps)

-- an execution that is not refused has answers of which none failed
record Calm (kinds : List Kind) (x : Execution) (commands : List Command) : Type 0 where
  answers : List Answer
  are : (fold (execute kinds) x commands).answers ≡ x.answers ++ answers
  calm : none_failed commands answers ≡ true

all_calm : (kinds : List Kind) (x : Execution) (commands : List Command) → (fold (execute kinds) x commands).refused ≡ false → Calm kinds x commands
all_calm kinds x [] calm = record { answers = []; are = sym (append-nil x.answers); calm = refl }
all_calm kinds x (c ∷ commands) calm =
    let next = first_calm kinds (execute kinds x c) commands calm in
    let rest = all_calm kinds (execute kinds x c) commands calm in
    let more = rest.calm in
    record {
      answers = _ ∷ rest.answers;
      are = rest.are ∙ append_assoc x.answers (_ ∷ []) rest.answers;
      calm = grind (arith, common_steps);
    }

-- none of the answers of the runs that were served failed
abbrev pub AreCalm : List Run → List Served → Type 0
AreCalm runs [] = ⊤
AreCalm runs (served ∷ more) = (none_failed (commands_of runs served.run.0) served.answers ≡ true) × AreCalm runs more

calm_more : (runs : List Run) (all : List Served) (served : Served) → none_failed (commands_of runs served.run.0) served.answers ≡ true → AreCalm runs all → AreCalm runs (all ++ served ∷ [])
calm_more runs [] served calm are = (calm, tt)
calm_more runs (one ∷ all) served calm are = (are.0, calm_more runs all served calm are.1)

pub served_first : (runs : List Run) (kinds : List Kind) (s : SerialRun) (items : List Item) → (fold (serve runs kinds) s items).refused ≡ false → s.refused ≡ false
served_first runs kinds s [] calm = calm
served_first runs kinds s (item ∷ items) calm = of_bool (served_first runs kinds (serve runs kinds s item) items calm) s.refused refl
  where
    of_bool : (serve runs kinds s item).refused ≡ false → (b : Bool) → s.refused ≡ b → s.refused ≡ false
    of_bool next false is = is
    of_bool next true is = let stays = serve_stays runs kinds s item is in absurd (cc)

serve_calm : (runs : List Run) (kinds : List Kind) (s : SerialRun) (item : Item) → (serve runs kinds s item).refused ≡ false → AreCalm runs s.answers → AreCalm runs (serve runs kinds s item).answers
serve_calm runs kinds s (Ran r) calm are =
    let own = all_calm kinds (record { home = s.home; register = 0; answers = []; refused = false }) (commands_of runs r.0) (grind (arith, common_steps)) in
    calm_more runs s.answers _ (subst (λ told. none_failed (commands_of runs r.0) told ≡ true) (sym own.are) own.calm) are
serve_calm runs kinds s (Failed d k) calm are = are
serve_calm runs kinds s (Back d k) calm are = are

-- a serial execution that is not refused has no answer that failed
pub all_served_calm : (runs : List Run) (kinds : List Kind) (s : SerialRun) (items : List Item) → (fold (serve runs kinds) s items).refused ≡ false → AreCalm runs s.answers → AreCalm runs (fold (serve runs kinds) s items).answers
all_served_calm runs kinds s [] calm are = are
all_served_calm runs kinds s (item ∷ items) calm are =
    all_served_calm runs kinds (serve runs kinds s item) items calm
    (serve_calm runs kinds s item (served_first runs kinds (serve runs kinds s item) items calm) are)

-- ---- the answers are the printed ones

-- each run of the order is printed with its answers in the history
abbrev pub AreTold : Reading → List (Option (List Answer)) → List Item → Type 0
AreTold n ends [] = ⊤
AreTold n ends (Ran r ∷ items) = (told_of ends r.0 ≡ Some (n.run r.0).answers) × AreTold n ends items
AreTold n ends (Failed d k ∷ items) = AreTold n ends items
AreTold n ends (Back d k ∷ items) = AreTold n ends items

none_found : (runs : List Run) (n : Reading) (ends : List (Option (List Answer))) (items : List Item) → AreTold n ends items → AreCalm runs (answers_in n items) → first_found (wrong_of runs ends) (answers_in n items) ≡ None
none_found runs n ends [] told calm = refl
none_found runs n ends (Ran r ∷ items) told calm =
    let own = none_wrong (commands_of runs r.0) (n.run r.0).answers calm.0 in
    let rest = none_found runs n ends items told.1 calm.1 in
    rw told.0 (rw own rest)
none_found runs n ends (Failed d k ∷ items) told calm = none_found runs n ends items told calm
none_found runs n ends (Back d k ∷ items) told calm = none_found runs n ends items told calm

-- the home behind a printed order is the last one
pub behind_is : (runs : List Run) (kinds : List Kind) (n : Reading) (ends : List (Option (List Answer))) (home last : List Stand) (items : List Item)
    → (serial_execution runs kinds home items).refused ≡ false → (serial_execution runs kinds home items).answers ≡ answers_in n items → (serial_execution runs kinds home items).home ≡ last
    → AreTold n ends items → home_behind runs kinds ends home (map plain_item items) ≡ Ok last
unfolding home_behind
behind_is runs kinds n ends home last items calm answers is told =
    let alike = all_served_alike runs kinds (record { home = home; answers = []; refused = false }) items in
    let are : AreCalm runs (answers_in n items) = subst (AreCalm runs) answers (all_served_calm runs kinds (record { home = home; answers = []; refused = false }) items calm tt) in
    let none = none_found runs n ends items told are in
    rw alike (rw answers (rw none (ap Ok is)))
