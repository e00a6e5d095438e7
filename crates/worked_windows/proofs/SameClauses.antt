-- The tests of `Tables` are true of equal ones alone: where they hold along a window's rows, the four clauses hold at each row's point.
use Rattle.command_rules.specs.Serial.{SerialRun, Served}
use Rattle.worked_windows.proofs.Prelude.{Bool, IfSome, Item, List, [], arith, false, refl, same_answer, slice_get, suc, true, zero, ℕ, ◌∷◌, ◌≡◌}
use Rattle.history_book.specs.Settings.{Setting}
use Rattle.history_book.specs.declared.entries.Entry.{Entry}
use Rattle.home_types.specs.declared.commands.Answer.TheVariants.{Down, Fine, Found, Skipped}
use Rattle.home_types.specs.declared.commands.Answer.{Answer}
use Rattle.home_types.specs.declared.items.Item.TheVariants.{Back, Failed, Ran}
use Rattle.home_types.specs.declared.worlds.Stand.{Stand}
use Rattle.std.proofs.lemmas.Grind.{common_steps}
use Rattle.worked_windows.proofs.Points.{Clauses, clauses_of_history, clauses_of_line}
use Rattle.worked_windows.proofs.Tables.{Row, clauses_hold, reading_at, same_clauses, same_execution, same_flag, same_item, same_number, same_served, same_stand}
use lib.Pointwise.{pointwise}

-- What the tests hold of

equal_lists : {A : Type 0} (E : A → A → Bool) → ((x y : A) → E x y ≡ true → x ≡ y) → (xs ys : List A) → pointwise E xs ys ≡ true → xs ≡ ys
equal_lists E says [] [] same = refl
equal_lists E says (x ∷ xs) (y ∷ ys) same = grind (says x y, equal_lists E says xs ys, arith, common_steps)
equal_lists E says xs ys same = absurd (cc)

equal_numbers : (a b : ℕ) → same_number a b ≡ true → a ≡ b
equal_numbers a b same = grind (arith, common_steps)

equal_flags : (a b : Bool) → same_flag a b ≡ true → a ≡ b
equal_flags true true same = refl
equal_flags false false same = refl
equal_flags a b same = absurd (cc)

equal_answers : (a b : Answer) → same_answer a b ≡ true → a ≡ b
equal_answers Fine Fine same = refl
equal_answers (Found x) (Found y) same = grind (arith, common_steps)
equal_answers Down Down same = refl
equal_answers Skipped Skipped same = refl
equal_answers a b same = absurd (cc)

equal_items : (a b : Item) → same_item a b ≡ true → a ≡ b
equal_items (Ran r) (Ran q) same = grind (arith, common_steps)
equal_items (Failed d k) (Failed e j) same = grind (arith, common_steps)
equal_items (Back d k) (Back e j) same = grind (arith, common_steps)
equal_items a b same = absurd (cc)

equal_stands : (a b : Stand) → same_stand a b ≡ true → a ≡ b
equal_stands a b same = grind (equal_flags a.up b.up, arith, common_steps)

equal_served : (a b : Served) → same_served a b ≡ true → a ≡ b
equal_served a b same = grind (equal_lists same_answer equal_answers a.answers b.answers, arith, common_steps)

equal_executions : (a b : SerialRun) → same_execution a b ≡ true → a ≡ b
equal_executions a b same = grind (equal_lists same_stand equal_stands a.home b.home, equal_lists same_served equal_served a.answers b.answers, equal_flags a.refused b.refused, arith, common_steps)

pub equal_clauses : (a b : Clauses) → same_clauses a b ≡ true → a ≡ b
equal_clauses a b same =
    grind (
      equal_executions a.serial b.serial,
      equal_lists (pointwise same_number) (equal_lists same_number equal_numbers) a.firsts b.firsts,
      equal_lists (pointwise same_item) (equal_lists same_item equal_items) a.marks b.marks,
      equal_lists same_flag equal_flags a.holds_on b.holds_on,
      arith,
      common_steps,
    )

-- The clauses at each row

abbrev pub HoldsAt : Setting → List Entry → Row → Type 0
HoldsAt w history r = clauses_of_line w (reading_at w history r.entries) r.out ≡ clauses_of_history w (reading_at w history r.entries)

pub clauses_at : (w : Setting) (history : List Entry) (rows : List Row) → clauses_hold w history rows ≡ true → (k : ℕ) → IfSome (slice_get rows k) (HoldsAt w history)
clauses_at w history [] hold k = tt
clauses_at w history (r ∷ rows) hold zero = equal_clauses (clauses_of_line w (reading_at w history r.entries) r.out) (clauses_of_history w (reading_at w history r.entries)) (grind (arith, common_steps))
clauses_at w history (r ∷ rows) hold (suc k) = clauses_at w history rows (grind (arith, common_steps)) k
