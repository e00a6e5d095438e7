-- The four clauses of the serial order, with the line exchanged.
use Rattle.exchange_laws.proofs.Prelude.{Back, Bool, Event, Exchanged, Failed, First, IsTrue, Item, Last, List, LogMark, None, Option, Ran, Reading, Setting, Some, Stand, Stays, Swaps, [], ap, are_apart, arith, asks_on, commands_of, common_steps, cond, cons_option, device_numbers, did, entries_of, exchanged, false, filter, filter-append, filter_map, has_written, if◌then◌else◌, inl, inr, is_committed, is_doomed, is_event_on, is_live, is_of, is_ran, is_some, list_any, map, meet, next_of, not, of_run, pends, point_with_line, refl, run_no, sees_up, subst, sym, touches, true, unwrap_or, ℕ, ◌&&◌, ◌++◌, ◌==◌, ◌||◌, ◌∙◌, ◌∷◌, ◌≡◌, ◌⊎◌}
use Rattle.exchange_laws.proofs.ServedOrders.{Gives, swap_gives}
use Rattle.exchange_laws.proofs.Swaps.{not_both, one_exchange, one_is_off, swap_any, swap_filter, swap_last, swap_map}
use Rattle.history_book.proofs.Cited.{Shaped, asks_next, did_touches, shapes}
use Rattle.history_book.specs.WellFormed.{IsWellFormed}
use Rattle.home_types.specs.HomeStates.{stand_at}
use Rattle.lock_leasing.proofs.Cited.{command_out, next_is_left, pends_touches}
use Rattle.lock_leasing.specs.Configurations.{Configuration, Grips, grips_command, point, point_of, read_of}
use Rattle.lock_leasing.specs.Order.{InHistoryOrder, OrderStands, SettledAgree, committed_home, covers, firsts_of_line, has_live_write, has_read_first, is_covered, is_late, is_settled, is_touched, live_writes_are_covered, marks_of_line, open_runs_are_last, opens}
use Rattle.lock_leasing.specs.Places.{MayBeOut, in_order}
use Rattle.lock_leasing.specs.Words.{committed_write, is_undone, last_some}

-- A run does nothing on a device that it does not use

record KeepsOff (w : Setting) (n : Reading) (g : Grips) (r d : ℕ) : Type 0 where
  did : did n r d ≡ false
  wrote : has_written n r d ≡ false
  found : is_some ((n.run r).on d).found ≡ false
  pends : pends w n r d ≡ false
  grips : grips_command g r d ≡ false

contra : (b c : Bool) → (b ≡ true → c ≡ true) → c ≡ false → b ≡ false
contra true c h off = sym (h refl) ∙ off
contra false c h off = refl

keeps_off : (s : Configuration) → IsWellFormed s.setting (entries_of s.history) → MayBeOut (point_of s) → (r d : ℕ) → touches s.setting.runs r d ≡ false → KeepsOff s.setting (read_of s) s.grips r d
keeps_off s well out r d off = record { did = none; wrote = contra _ _ ((shaped r).wrote d) none; found = contra _ _ ((shaped r).found d) none; pends = idle; grips = contra _ _ holds idle }
  where
    shaped : Shaped s.setting (read_of s)
    shaped = shapes s.setting (entries_of s.history) well

    none : did (read_of s) r d ≡ false
    none = contra _ _ (did_touches s.setting (read_of s) r d shaped) off

    idle : pends s.setting (read_of s) r d ≡ false
    idle = contra _ _ (pends_touches s.setting (read_of s) r d) off

    holds : grips_command s.grips r d ≡ true → pends s.setting (read_of s) r d ≡ true
    holds held =
        let taken = command_out s.grips r d held in
        let may : IsTrue (is_live (read_of s) r && asks_on s.setting (read_of s) r d && (taken.0 == next_of (read_of s) r)) = out.commands d r taken.0 taken.1 in
        next_is_left d (commands_of s.setting.runs r) (next_of (read_of s) r) (asks_next s.setting (read_of s) r d (middle (is_live (read_of s) r) (asks_on s.setting (read_of s) r d) (taken.0 == next_of (read_of s) r) may))
      where
        middle : (a b c : Bool) → (a && b && c) ≡ true → b ≡ true
        middle a b c h = grind (arith, common_steps)

-- what is asked of the reading and the grips, whatever the line
abbrev EachKeepsOff : Setting → Reading → Grips → Type 0
EachKeepsOff w n g = (r d : ℕ) → touches w.runs r d ≡ false → KeepsOff w n g r d

-- 1. The serial execution

abbrev Agrees : Setting → Reading → List Item → Type 0
Agrees w n line = SettledAgree w (in_order n line)

swap_committed : (w : Setting) (n : Reading) (g : Grips) (front rest : List Item) (a b : Item) → EachKeepsOff w n g → meet w.runs a b ≡ false → (d : ℕ) → last_some (committed_write n d) (front ++ b ∷ a ∷ rest) ≡ last_some (committed_write n d) (front ++ a ∷ b ∷ rest)
swap_committed w n g front rest a b off apart d = swap_last (committed_write n d) front rest a b None (not_both w.runs d (λ i. is_some (committed_write n d i)) a b apart silent)
  where
    nothing : (c : Bool) (o : Option ℕ) → is_some o ≡ false → is_some (if c then o else None) ≡ false
    nothing true o e = e
    nothing false o e = refl

    silent : (i : Item) → is_of w.runs d i ≡ false → is_some (committed_write n d i) ≡ false
    silent (Ran r) e = nothing (is_committed n r.0) ((n.run r.0).on d).wrote (off r.0 d e).wrote
    silent (Failed e k) h = refl
    silent (Back e k) h = refl

swap_home : (w : Setting) (n : Reading) (g : Grips) (front rest : List Item) (a b : Item) → EachKeepsOff w n g → meet w.runs a b ≡ false → committed_home w (in_order n (front ++ b ∷ a ∷ rest)) ≡ committed_home w (in_order n (front ++ a ∷ b ∷ rest))
swap_home w n g front rest a b off apart = along (device_numbers w)
  where
    stand : List Item → ℕ → Stand
    stand line d = record { value = unwrap_or (last_some (committed_write n d) line) (stand_at w.first d).value; up = n.up d }

    along : (ds : List ℕ) → map (stand (front ++ b ∷ a ∷ rest)) ds ≡ map (stand (front ++ a ∷ b ∷ rest)) ds
    along [] = refl
    along (d ∷ ds) = λ i. (record { value = unwrap_or (swap_committed w n g front rest a b off apart d i) (stand_at w.first d).value; up = n.up d }) ∷ along ds i

swap_settled : (w : Setting) (n : Reading) (g : Grips) (front rest : List Item) (a b : Item) → EachKeepsOff w n g → meet w.runs a b ≡ false → Agrees w n (front ++ a ∷ b ∷ rest) → Agrees w n (front ++ b ∷ a ∷ rest)
swap_settled w n g front rest a b off apart agrees = record { applies = gives.applies; answers = gives.answers; home = gives.home ∙ sym (swap_home w n g front rest a b off apart) }
  where
    last : List Stand
    last = committed_home w (in_order n (front ++ a ∷ b ∷ rest))

    settled : List Item → List Item
    settled line = filter (is_settled n) line

    before : Gives w n (settled (front ++ a ∷ b ∷ rest)) last
    before = record { applies = agrees.applies; answers = agrees.answers; home = agrees.home }

    by_both : (x : Bool) → (is_settled n a && is_settled n b) ≡ x → Gives w n (settled (front ++ b ∷ a ∷ rest)) last
    by_both false e = subst (λ l. Gives w n l last) (sym (swap_filter (is_settled n) front rest a b e)) before
    by_both true e =
        let ones = both (is_settled n a) (is_settled n b) e in
        subst (λ l. Gives w n l last) (sym (parted b a ones.1 ones.0)) (swap_gives w n (settled front) (settled rest) a b last apart (subst (λ l. Gives w n l last) (parted a b ones.0 ones.1) before))
      where
        both : (x y : Bool) → (x && y) ≡ true → (x ≡ true) × (y ≡ true)
        both x y h = (grind (arith, common_steps), grind (arith, common_steps))

        parted : (i j : Item) → is_settled n i ≡ true → is_settled n j ≡ true → settled (front ++ i ∷ j ∷ rest) ≡ settled front ++ i ∷ j ∷ settled rest
        parted i j one two = filter-append (is_settled n) front (i ∷ j ∷ rest) ∙ (λ k. settled front ++ cond (one k) (i ∷ cond (two k) (j ∷ settled rest) (settled rest)) (cond (two k) (j ∷ settled rest) (settled rest)))

    gives : Gives w n (settled (front ++ b ∷ a ∷ rest)) last
    gives = by_both (is_settled n a && is_settled n b) refl

-- 2. History order

abbrev first_told : Reading → ℕ → Item → Option ℕ
first_told n d (Ran r) = if did n r.0 d then Some r.0 else None
first_told n d (Failed e k) = None
first_told n d (Back e k) = None

told_firsts : (n : Reading) (d : ℕ) (line : List Item) → firsts_of_line (in_order n line) d ≡ filter_map (first_told n d) line
told_firsts n d [] = refl
told_firsts n d (Ran r ∷ is) = ap (cons_option (if did n r.0 d then Some r.0 else None)) (told_firsts n d is)
told_firsts n d (Failed e k ∷ is) = told_firsts n d is
told_firsts n d (Back e k ∷ is) = told_firsts n d is

abbrev is_marked : Reading → ℕ → Item → Bool
is_marked n d i = is_event_on d i || of_run (λ r. did n r d && not (is_late n r d)) i

same_marks : {B : Type 0} (f k : LogMark → Option B) (xs : List LogMark) → ((q : ℕ) → f (First q) ≡ k (First q)) → ((i : Item) → f (Event i) ≡ k (Event i)) → ((q : ℕ) → f (Last q) ≡ k (Last q)) → filter_map f xs ≡ filter_map k xs
same_marks f k [] firsts events lasts = refl
same_marks f k (First q ∷ xs) firsts events lasts = λ i. cons_option (firsts q i) (same_marks f k xs firsts events lasts i)
same_marks f k (Event e ∷ xs) firsts events lasts = λ i. cons_option (events e i) (same_marks f k xs firsts events lasts i)
same_marks f k (Last q ∷ xs) firsts events lasts = λ i. cons_option (lasts q i) (same_marks f k xs firsts events lasts i)

swap_history : (w : Setting) (n : Reading) (g : Grips) (front rest : List Item) (a b : Item) → EachKeepsOff w n g → meet w.runs a b ≡ false
    → (d : ℕ) → InHistoryOrder (in_order n (front ++ a ∷ b ∷ rest)) d → InHistoryOrder (in_order n (front ++ b ∷ a ∷ rest)) d
swap_history w n g front rest a b off apart d h = record {
  runs = firsts ∙ h.runs ∙ same_marks _ _ (n.log d) (λ q i. if sym (there q) i then Some q else None) (λ e. refl) (λ q. refl);
  events = marks ∙ h.events ∙ same_marks _ _ (n.log d) (λ q i. if sym (there q) i && not (is_late n q d) then Some (Ran (run_no q)) else None) (λ e. refl) (λ q. refl);
  spans = λ q facts. h.spans q (subst (λ x. IsTrue (x && not (is_doomed n q) && sees_up n q d)) (there q) facts);
}
  where
    there : (q : ℕ) → list_any (is_ran q) (front ++ b ∷ a ∷ rest) ≡ list_any (is_ran q) (front ++ a ∷ b ∷ rest)
    there q = swap_any (is_ran q) front rest a b

    untold : (i : Item) → is_of w.runs d i ≡ false → is_some (first_told n d i) ≡ false
    untold (Ran q) e = ap (λ x. is_some (if x then Some q.0 else None)) (off q.0 d e).did
    untold (Failed e k) h = refl
    untold (Back e k) h = refl

    firsts : firsts_of_line (in_order n (front ++ b ∷ a ∷ rest)) d ≡ firsts_of_line (in_order n (front ++ a ∷ b ∷ rest)) d
    firsts =
        told_firsts n d (front ++ b ∷ a ∷ rest) ∙ swap_map (first_told n d) front rest a b (not_both w.runs d (λ i. is_some (first_told n d i)) a b apart untold)
        ∙ sym (told_firsts n d (front ++ a ∷ b ∷ rest))

    unmarked : (i : Item) → is_of w.runs d i ≡ false → is_marked n d i ≡ false
    unmarked (Ran q) e = ap (λ x. x && not (is_late n q.0 d)) (off q.0 d e).did
    unmarked (Failed e k) h = ap (λ x. x || false) h
    unmarked (Back e k) h = ap (λ x. x || false) h

    marks : marks_of_line (in_order n (front ++ b ∷ a ∷ rest)) d ≡ marks_of_line (in_order n (front ++ a ∷ b ∷ rest)) d
    marks = swap_filter (is_marked n d) front rest a b (not_both w.runs d (is_marked n d) a b apart unmarked)

-- 3. Reads behind a live write

-- an item that is not on the device changes nothing there
record IsIdle (w : Setting) (n : Reading) (g : Grips) (d : ℕ) (i : Item) : Type 0 where
  reads : has_read_first n d i ≡ false
  covers : covers n d i ≡ false
  writes : has_live_write n g d i ≡ false
  opens : opens w n d i ≡ false
  touches : is_touched n g d i ≡ false

idle : (w : Setting) (n : Reading) (g : Grips) (d : ℕ) (i : Item) → EachKeepsOff w n g → is_of w.runs d i ≡ false → IsIdle w n g d i
idle w n g d (Ran r) off e = record {
  reads = (off r.0 d e).found;
  covers = last (is_committed n r.0) (has_written n r.0 d) (off r.0 d e).wrote;
  writes = middle (is_live n r.0) (has_written n r.0 d) (not (is_undone n g r.0 d)) (off r.0 d e).wrote;
  opens = end (is_live n r.0) (not (is_doomed n r.0)) (pends w n r.0 d) (off r.0 d e).pends;
  touches = neither (did n r.0 d) (grips_command g r.0 d) (off r.0 d e).did (off r.0 d e).grips;
}
  where
    last : (x y : Bool) → y ≡ false → (x && y) ≡ false
    last x y h = grind (arith, common_steps)

    middle : (x y z : Bool) → y ≡ false → (x && y && z) ≡ false
    middle x y z h = grind (arith, common_steps)

    end : (x y z : Bool) → z ≡ false → (x && y && z) ≡ false
    end x y z h = grind (arith, common_steps)

    neither : (x y : Bool) → x ≡ false → y ≡ false → (x || y) ≡ false
    neither x y h k = grind (arith, common_steps)
idle w n g d (Failed e k) off h = record { reads = refl; covers = refl; writes = refl; opens = refl; touches = refl }
idle w n g d (Back e k) off h = record { reads = refl; covers = refl; writes = refl; opens = refl; touches = refl }

pass_covered : (w : Setting) (n : Reading) (g : Grips) (d : ℕ) (i : Item) (is : List Item) → IsIdle w n g d i → is_covered n d (i ∷ is) ≡ is_covered n d is
pass_covered w n g d i is idles = λ k. not (idles.reads k) && (idles.covers k || is_covered n d is)

pass_writes : (w : Setting) (n : Reading) (g : Grips) (d : ℕ) (i : Item) (is : List Item) → IsIdle w n g d i → live_writes_are_covered n g d (i ∷ is) ≡ live_writes_are_covered n g d is
pass_writes w n g d i is idles = λ k. (not (idles.writes k) || is_covered n d is) && live_writes_are_covered n g d is

-- either order of the two is the one of them that is on the device
swap_covered : (w : Setting) (n : Reading) (g : Grips) (d : ℕ) (front rest : List Item) (a b : Item) → IsIdle w n g d a ⊎ IsIdle w n g d b → is_covered n d (front ++ b ∷ a ∷ rest) ≡ is_covered n d (front ++ a ∷ b ∷ rest)
swap_covered w n g d [] rest a b (inl idles) = (λ k. not (has_read_first n d b) && (covers n d b || pass_covered w n g d a rest idles k)) ∙ sym (pass_covered w n g d a (b ∷ rest) idles)
swap_covered w n g d [] rest a b (inr idles) = pass_covered w n g d b (a ∷ rest) idles ∙ sym (λ k. not (has_read_first n d a) && (covers n d a || pass_covered w n g d b rest idles k))
swap_covered w n g d (i ∷ front) rest a b idles = ap (λ c. not (has_read_first n d i) && (covers n d i || c)) (swap_covered w n g d front rest a b idles)

swap_writes : (w : Setting) (n : Reading) (g : Grips) (d : ℕ) (front rest : List Item) (a b : Item) → IsIdle w n g d a ⊎ IsIdle w n g d b
    → live_writes_are_covered n g d (front ++ b ∷ a ∷ rest) ≡ live_writes_are_covered n g d (front ++ a ∷ b ∷ rest)
swap_writes w n g d [] rest a b (inl idles) =
    (λ k. (not (has_live_write n g d b) || pass_covered w n g d a rest idles k) && pass_writes w n g d a rest idles k) ∙ sym (pass_writes w n g d a (b ∷ rest) idles)
swap_writes w n g d [] rest a b (inr idles) =
    pass_writes w n g d b (a ∷ rest) idles ∙ sym (λ k. (not (has_live_write n g d a) || pass_covered w n g d b rest idles k) && pass_writes w n g d b rest idles k)
swap_writes w n g d (i ∷ front) rest a b idles = λ k. (not (has_live_write n g d i) || swap_covered w n g d front rest a b idles k) && swap_writes w n g d front rest a b idles k

-- 4. Open runs

-- the line as it is looked at, and the line of the reading that is asked
abbrev OpenLast : Setting → Reading → Grips → ℕ → List Item → Bool
OpenLast w n g d line = open_runs_are_last (point w n g) d line

pass_open : (w : Setting) (n : Reading) (g : Grips) (d : ℕ) (i : Item) (is : List Item) → IsIdle w n g d i → OpenLast w n g d (i ∷ is) ≡ OpenLast w n g d is
pass_open w n g d i is idles = λ k. (not (idles.opens k) || not (list_any (is_touched n g d) is)) && OpenLast w n g d is

swap_open : (w : Setting) (n : Reading) (g : Grips) (d : ℕ) (front rest : List Item) (a b : Item) → IsIdle w n g d a ⊎ IsIdle w n g d b → OpenLast w n g d (front ++ b ∷ a ∷ rest) ≡ OpenLast w n g d (front ++ a ∷ b ∷ rest)
swap_open w n g d [] rest a b (inl idles) =
    (λ k. (not (opens w n d b) || not (idles.touches k || list_any (is_touched n g d) rest)) && pass_open w n g d a rest idles k) ∙ sym (pass_open w n g d a (b ∷ rest) idles)
swap_open w n g d [] rest a b (inr idles) =
    pass_open w n g d b (a ∷ rest) idles ∙ sym (λ k. (not (opens w n d a) || not (idles.touches k || list_any (is_touched n g d) rest)) && pass_open w n g d b rest idles k)
swap_open w n g d (i ∷ front) rest a b idles = λ k. (not (opens w n d i) || not (swap_any (is_touched n g d) front rest a b k)) && swap_open w n g d front rest a b idles k

-- The four clauses

swap_stands : (w : Setting) (n : Reading) (g : Grips) (front rest : List Item) (a b : Item) → EachKeepsOff w n g → meet w.runs a b ≡ false
    → OrderStands (point w (in_order n (front ++ a ∷ b ∷ rest)) g) → OrderStands (point w (in_order n (front ++ b ∷ a ∷ rest)) g)
swap_stands w n g front rest a b off apart stands = record {
  settled = swap_settled w n g front rest a b off apart stands.settled;
  history = λ d. swap_history w n g front rest a b off apart d (stands.history d);
  covered = λ d. swap_writes w n g d front rest a b (idles d) ∙ stands.covered d;
  last = λ d. swap_open w n g d front rest a b (idles d) ∙ stands.last d;
}
  where
    idles : (d : ℕ) → IsIdle w n g d a ⊎ IsIdle w n g d b
    idles d = elim (one_is_off w.runs a b apart d) [
      | inl e ↦ inl (idle w n g d a off e)
      | inr e ↦ inr (idle w n g d b off e)
    ]

pub standing_reached : (s : Configuration) (line next : List Item) → IsWellFormed s.setting (entries_of s.history) → MayBeOut (point_of s) → OrderStands (point_with_line s line) → Exchanged (meet s.setting.runs) line next → OrderStands (point_with_line s next)
standing_reached s line next well out stands Stays = stands
standing_reached s line _ well out stands (Swaps front rest a b before apart) =
    swap_stands s.setting (read_of s) s.grips front rest a b (keeps_off s well out) apart (standing_reached s line (front ++ a ∷ b ∷ rest) well out stands before)

pub standing_exchanged : (s : Configuration) (line : List Item) (at : ℕ) → IsWellFormed s.setting (entries_of s.history) → MayBeOut (point_of s) → OrderStands (point_with_line s line) → are_apart (meet s.setting.runs) at line ≡ true → OrderStands (point_with_line s (exchanged at line))
standing_exchanged s line at well out stands apart = standing_reached s line (exchanged at line) well out stands (one_exchange (meet s.setting.runs) at line apart)
