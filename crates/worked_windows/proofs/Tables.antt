-- A worked window as a table: a row for each point of its history, which says what is out there and what is changed since the
-- point before; then each step back, the calls, and the order. `IsWorked` is what holds of a window's table.
use Rattle.command_rules.specs.Serial.{SerialRun, Served}
use Rattle.device_gate.specs.declared.slips.Told.{Told}
use Rattle.worked_windows.proofs.Prelude.{Bool, Grip, Grips, Item, List, Reading, Some, [], answers_in, drop, executed, false, map, not, put, reading, same_answer, take, true, ℕ, ◌&&◌, ◌++◌, ◌+◌, ◌==◌, ◌∷◌, ◌≡◌}
use Rattle.history_book.specs.Settings.{Setting, device_numbers}
use Rattle.history_book.specs.WellFormed.{each_entry, is_well_formed}
use Rattle.history_book.specs.declared.entries.Entry.{Entry}
use Rattle.home_types.specs.declared.items.Item.TheVariants.{Back, Failed, Ran}
use Rattle.home_types.specs.declared.kinds.Kind.TheVariants.{Range, States}
use Rattle.home_types.specs.declared.modes.Scheduler.TheVariants.{Fcfs}
use Rattle.home_types.specs.declared.modes.Visibility.TheVariants.{Eventual}
use Rattle.home_types.specs.declared.worlds.Stand.{Stand}
use Rattle.hub_core.specs.Steps.{give_entries}
use Rattle.legal_days.specs.AccountedCalls.{told_calls}
use Rattle.legal_days.specs.LegalWindows.{all_ended, weakly_allowed}
use Rattle.lock_leasing.specs.declared.purposes.Purpose.{Purpose}
use Rattle.std.specs.List.{list_all}
use Rattle.worked_windows.proofs.Points.{Clauses, Words, clauses_of_history, clauses_of_line, verdict, words_at}
use lib.Pointwise.{pointwise}

-- The home of many windows

-- three devices of two states that stand at 0, and one from 10 to 30 that stands at 18
abbrev pub home_of_four : Setting
home_of_four = record {
  runs = [];
  mode = record { model = Eventual; scheduler = Fcfs };
  kinds = States 2 ∷ States 2 ∷ States 2 ∷ Range 10 30 ∷ [];
  first = record { value = 0; up = true } ∷ record { value = 0; up = true } ∷ record { value = 0; up = true } ∷ record { value = 18; up = true } ∷ [];
}

-- Rows

pub record Row : Type 0 where
  -- how many entries of the history there are
  pub entries : ℕ
  -- the devices that are out, and the moment
  pub out : Grips
  pub moment : ℕ
  -- the point, from the one before
  pub change : Words → Words

abbrev pub row : ℕ → Grips → ℕ → (Words → Words) → Row
row entries out moment change = record { entries = entries; out = out; moment = moment; change = change }

-- a row where every word is as at the point before
abbrev pub still : ℕ → Grips → ℕ → Row
still entries out moment = row entries out moment (λ p. p)

-- the device is out for this run, beside others
abbrev pub held : ℕ → ℕ → Purpose → Grips → Grips
held device run purpose others = put others device (Some (record { maker = run; purpose = purpose }))

-- the list without the element at the place, and with one more before it
abbrev pub less : {A : Type 0} → ℕ → List A → List A
less place xs = take place xs ++ drop (place + 1) xs

abbrev pub more : {A : Type 0} → ℕ → A → List A → List A
more place x xs = take place xs ++ x ∷ drop place xs

-- a step back: the entries that there are, what stood out, what it told, and the entries that it makes
pub record Give : Type 0 where
  pub entries : ℕ
  pub device : ℕ
  pub grip : Grip
  pub told : Told
  pub makes : List Entry

abbrev pub give : ℕ → ℕ → ℕ → Purpose → Told → List Entry → Give
give entries device run purpose told makes = record { entries = entries; device = device; grip = record { maker = run; purpose = purpose }; told = told; makes = makes }

-- Points

-- the history's reading after so many entries
abbrev pub reading_at : Setting → List Entry → ℕ → Reading
reading_at w history entries = reading w (take entries history)

-- all words at the rows' points, computed ..
abbrev pub words_along : Setting → List Entry → List Row → List Words
words_along w history rows = map (λ r. words_at w (reading_at w history r.entries) r.out r.moment) rows

-- .. and as the rows say, behind this point
abbrev pub points_from : Words → List Row → List Words
points_from p [] = []
points_from p (r ∷ rows) = r.change p ∷ points_from (r.change p) rows

-- Clauses: tests that are true of equal ones alone (`SameClauses`)

abbrev pub same_number : ℕ → ℕ → Bool
same_number a b = a == b

abbrev pub same_flag : Bool → Bool → Bool
same_flag true b = b
same_flag false b = not b

abbrev pub same_item : Item → Item → Bool
same_item (Ran r) (Ran q) = r.0 == q.0
same_item (Failed d k) (Failed e j) = (d.0 == e.0) && (k == j)
same_item (Back d k) (Back e j) = (d.0 == e.0) && (k == j)
same_item x y = false

abbrev pub same_stand : Stand → Stand → Bool
same_stand a b = (a.value == b.value) && same_flag a.up b.up

abbrev pub same_served : Served → Served → Bool
same_served a b = (a.run.0 == b.run.0) && pointwise same_answer a.answers b.answers

abbrev pub same_execution : SerialRun → SerialRun → Bool
same_execution a b = pointwise same_stand a.home b.home && pointwise same_served a.answers b.answers && same_flag a.refused b.refused

abbrev pub same_clauses : Clauses → Clauses → Bool
same_clauses a b =
    same_execution a.serial b.serial && pointwise (pointwise same_number) a.firsts b.firsts
    && pointwise (pointwise same_item) a.marks b.marks && pointwise same_flag a.holds_on b.holds_on

-- at each row's point, what the line says is what the history says
abbrev pub clauses_hold : Setting → List Entry → List Row → Bool
clauses_hold w history rows = list_all (λ r. hold_at (reading_at w history r.entries) r.out) rows
  where
    hold_at : Reading → Grips → Bool
    hold_at n out = same_clauses (clauses_of_line w n out) (clauses_of_history w n)

-- Steps back

-- the entries that each of them makes
abbrev pub gives_along : Setting → List Entry → List Give → List (List Entry)
gives_along w history gives = map (λ g. give_entries w (reading_at w history g.entries) g.device g.grip g.told) gives

-- Windows

-- the order of a window, and what its serial execution gives
pub record Outcome : Type 0 where
  pub order : List Item
  pub home : List Stand
  pub answers : List Served

-- what was found for a window
pub record Table : Type 0 where
  -- the words at the first row's point
  pub first : Words
  pub rows : List Row
  pub gives : List Give
  -- how many device calls the history tells of, on each device
  pub calls : List ℕ
  pub outcome : Outcome

-- the definitions give what the table says
pub record IsWorked (w : Setting) (history : List Entry) (table : Table) : Type 0 where
  pub points : words_along w history table.rows ≡ points_from table.first table.rows
  pub clauses : clauses_hold w history table.rows ≡ true
  pub gives : gives_along w history table.gives ≡ map (λ g. g.makes) table.gives
  pub calls : map (told_calls w.runs history) (device_numbers w) ≡ table.calls
  pub ended : all_ended w history ≡ true
  pub allowed : verdict w history ≡ record { well_formed = true; clean = true; justified = true; isolated = true }
  pub order : executed w table.outcome.order ≡ record { home = table.outcome.home; answers = table.outcome.answers; refused = false }
  pub answers : answers_in (reading w history) table.outcome.order ≡ table.outcome.answers

-- Windows of the weak model, which promises no order

pub record WeakTable : Type 0 where
  pub first : Words
  pub rows : List Row
  pub gives : List Give
  pub calls : List ℕ

pub record IsWeaklyWorked (w : Setting) (history : List Entry) (table : WeakTable) : Type 0 where
  pub points : words_along w history table.rows ≡ points_from table.first table.rows
  pub gives : gives_along w history table.gives ≡ map (λ g. g.makes) table.gives
  pub calls : map (told_calls w.runs history) (device_numbers w) ≡ table.calls
  pub ended : all_ended w history ≡ true
  pub well_formed : is_well_formed w history ≡ true
  pub allowed : each_entry w (weakly_allowed w) history ≡ true
