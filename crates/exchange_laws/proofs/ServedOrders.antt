-- The serial execution of an order in which two neighbours that are apart have changed places: where it gave what the history says, it still does.
use Rattle.exchange_laws.proofs.Prelude.{Back, Bool, Failed, Item, List, Ran, Reading, Run, Setting, Stand, [], answers_in, ap, commands_of, cond, eq-eqb, executed, false, fold, map, meet, refl, share_none, subst, sym, true, ℕ, ⊤, ◌++◌, ◌==◌, ◌∙◌, ◌∷◌, ◌≡◌}
use Rattle.command_rules.specs.Serial.{SerialRun, Served, serve}
use Rattle.device_order.proofs.Cited.{exchanged as outcome_stays}
use Rattle.device_order.specs.Exchanges.{SameOutcome, servings_of}
use Rattle.home_types.specs.Commands.{routine_execution}
use Rattle.home_types.specs.declared.kinds.Kind.{Kind}
use Rattle.home_types.specs.declared.numbers.RunNo.{RunNo}

-- Which runs are served, and what each answers

-- the runs of these items
abbrev runs_in : List Item → List RunNo
runs_in [] = []
runs_in (Ran r ∷ is) = r ∷ runs_in is
runs_in (Failed d k ∷ is) = runs_in is
runs_in (Back d k ∷ is) = runs_in is

-- the runs that are served are those of the items
served_runs : (runs : List Run) (kinds : List Kind) (s : SerialRun) (items : List Item) → map (λ x. x.run) (fold (serve runs kinds) s items).answers ≡ map (λ x. x.run) s.answers ++ runs_in items
served_runs runs kinds s [] = none (map (λ x. x.run) s.answers)
  where
    none : (xs : List RunNo) → xs ≡ xs ++ []
    none [] = refl
    none (x ∷ xs) = ap (λ l. x ∷ l) (none xs)
served_runs runs kinds s (Ran r ∷ is) =
    served_runs runs kinds (serve runs kinds s (Ran r)) is
    ∙ one_more s.answers (record { run = r; answers = (routine_execution kinds (commands_of runs r.0) s.home).answers }) (runs_in is)
  where
    one_more : (xs : List Served) (x : Served) (rest : List RunNo) → map (λ y. y.run) (xs ++ x ∷ []) ++ rest ≡ map (λ y. y.run) xs ++ x.run ∷ rest
    one_more [] x rest = refl
    one_more (y ∷ xs) x rest = ap (λ l. y.run ∷ l) (one_more xs x rest)
served_runs runs kinds s (Failed d k ∷ is) = served_runs runs kinds (serve runs kinds s (Failed d k)) is
served_runs runs kinds s (Back d k ∷ is) = served_runs runs kinds (serve runs kinds s (Back d k)) is

-- what the history says of a run
abbrev told : Reading → RunNo → Served
told n r = record { run = r; answers = (n.run r.0).answers }

answers_told : (n : Reading) (items : List Item) → answers_in n items ≡ map (told n) (runs_in items)
answers_told n [] = refl
answers_told n (Ran r ∷ is) = ap (λ l. told n r ∷ l) (answers_told n is)
answers_told n (Failed d k ∷ is) = answers_told n is
answers_told n (Back d k ∷ is) = answers_told n is

-- each of these answers is that of the history
abbrev EachTold : Reading → List Served → Type 0
EachTold n [] = ⊤
EachTold n (x ∷ xs) = (x.answers ≡ (n.run x.run.0).answers) × EachTold n xs

-- then they are what the history says of their runs, ..
told_all : (n : Reading) (xs : List Served) → EachTold n xs → xs ≡ map (told n) (map (λ x. x.run) xs)
told_all n [] all = refl
told_all n (x ∷ xs) all = λ i. (record { run = x.run; answers = all.0 i }) ∷ told_all n xs all.1 i

-- .. and what it says of some runs is so
all_told : (n : Reading) (rs : List RunNo) → EachTold n (map (told n) rs)
all_told n [] = tt
all_told n (r ∷ rs) = (refl, all_told n rs)

-- it is so of all where it is so of each run's own

one_told : (n : Reading) (r : ℕ) (xs : List Served) → EachTold n xs → EachTold n (servings_of r xs)
one_told n r [] all = tt
one_told n r (x ∷ xs) all = at_ (x.run.0 == r) (one_told n r xs all.1)
  where
    at_ : (b : Bool) → EachTold n (servings_of r xs) → EachTold n (cond b (x ∷ servings_of r xs) (servings_of r xs))
    at_ true rest = (all.0, rest)
    at_ false rest = rest

told_each : (n : Reading) (xs : List Served) → ((r : ℕ) → EachTold n (servings_of r xs)) → EachTold n xs
told_each n [] each = tt
told_each n (x ∷ xs) each = (first (x.run.0 == x.run.0) (eq-eqb x.run.0 x.run.0 refl) (each x.run.0), told_each n xs (λ r. later r (x.run.0 == r) (each r)))
  where
    first : (b : Bool) → b ≡ true → EachTold n (cond b (x ∷ servings_of x.run.0 xs) (servings_of x.run.0 xs)) → x.answers ≡ (n.run x.run.0).answers
    first true e all = all.0
    first false e all = absurd cc

    later : (r : ℕ) (b : Bool) → EachTold n (cond b (x ∷ servings_of r xs) (servings_of r xs)) → EachTold n (servings_of r xs)
    later r true all = all.1
    later r false all = all

-- The exchange

-- the order is not refused, its answers are those of the history, and it leaves this state
pub record Gives (w : Setting) (n : Reading) (order : List Item) (last : List Stand) : Type 0 where
  pub applies : (executed w order).refused ≡ false
  pub answers : (executed w order).answers ≡ answers_in n order
  pub home : (executed w order).home ≡ last

same_told : (w : Setting) (n : Reading) (order next : List Item) → SameOutcome (executed w order) (executed w next) → (executed w order).answers ≡ answers_in n order → (executed w next).answers ≡ answers_in n next
same_told w n order next same answers =
    told_all n (executed w next).answers (told_each n (executed w next).answers (λ r. subst (EachTold n) (same.answers r) (one_told n r (executed w order).answers before)))
    ∙ ap (map (told n)) (served_runs w.runs w.kinds (record { home = w.first; answers = []; refused = false }) next)
    ∙ sym (answers_told n next)
  where
    before : EachTold n (executed w order).answers
    before = subst (EachTold n) (sym (answers ∙ answers_told n order)) (all_told n (runs_in order))

pub swap_gives : (w : Setting) (n : Reading) (front rest : List Item) (a b : Item) (last : List Stand) → meet w.runs a b ≡ false → Gives w n (front ++ a ∷ b ∷ rest) last → Gives w n (front ++ b ∷ a ∷ rest) last
swap_gives w n front rest a b last apart gives =
    let same : SameOutcome (executed w (front ++ a ∷ b ∷ rest)) (executed w (front ++ b ∷ a ∷ rest)) = outcome_stays w.runs w.kinds w.first front rest a b (share_none w.runs a b apart) in
    record {
      applies = sym same.refused ∙ gives.applies;
      answers = same_told w n (front ++ a ∷ b ∷ rest) (front ++ b ∷ a ∷ rest) same gives.answers;
      home = sym same.home ∙ gives.home;
    }
