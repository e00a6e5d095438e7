-- A lineage table that is kept so, each lineage of which is disciplined, represents the configuration of its window.
use Rattle.window_order.proofs.Prelude.{Access, Acquired, AllByRecursion, AreInTurn, Back, Bool, Command, Commands, Down, EachTellsOfRun, Failed, Grip, Grips, GripsFit, IsDisciplined, Item, LineageState, List, None, Option, Probes, Purpose, Ran, Reading, Released, Represents, Scheduled, Setting, Some, Status, TableIsKept, TellsOfRun, Undoes, [], access_read, accesses_at, accesses_read, ap, arith, asks_next, asks_on, both_ways, commands_of, common_steps, covers, did, drop, eqb-true, false, grips_command, has_touched, if◌then◌else◌, is_acquired, is_command, is_doomed, is_live, is_on, is_released, is_scheduled, list_any, map, may_be_passed, next_of, not, option_map, pairs_from_all, pends, point, refl, runs_with_access, slice_get, some_in_use, status_by_answers, subst, suc, sym, true, unwrap_or, uses, view_of, view_when, zero, ℕ, ◌&&◌, ◌==◌, ◌||◌, ◌∙◌, ◌∷◌, ◌≡◌}
use Rattle.lineage_table.proofs.Cited.{Pairs}
use Rattle.window_order.proofs.Runs.{both, three}

next_left : (d : ℕ) (cs : List Command) (k : ℕ) → unwrap_or (option_map (is_on d) (slice_get cs k)) false ≡ true → list_any (is_on d) (drop k cs) ≡ true
next_left d [] zero h = h
next_left d [] (suc k) h = h
next_left d (c ∷ cs) zero h = λ i. h i || list_any (is_on d) cs
next_left d (c ∷ cs) (suc k) h = next_left d cs k h

-- the grip that a run holds, with its purpose
pub held_as : (g : Grips) (r d : ℕ) (grip : Grip) (p : Purpose) → g d ≡ Some grip → (grip.maker == r) ≡ true → grip.purpose ≡ p → g d ≡ Some (record { maker = r; purpose = p })
held_as g r d grip p at own purpose = at ∙ (λ i. Some (record { maker = eqb-true grip.maker r own i; purpose = purpose i }))

-- a run that holds the grip of a command has a command pending there
pub gripped_pends : (w : Setting) (n : Reading) (g : Grips) (r d : ℕ) → GripsFit (point w n g) → grips_command g r d ≡ true → pends w n r d ≡ true
gripped_pends w n g r d fit held = at_ (g d) refl held
  where
    by_purpose : (grip : Grip) → g d ≡ Some grip → (grip.maker == r) ≡ true → (p : Purpose) → grip.purpose ≡ p → is_command p ≡ true → pends w n r d ≡ true
    by_purpose grip e own (Commands k) purpose h = next_left d (commands_of w.runs r) (next_of n r) (asks_next w n r d (three (is_live n r) (asks_on w n r d) (k == next_of n r) (fit.runs.commands d r k (held_as g r d grip (Commands k) e own purpose))).1)
    by_purpose grip e own (Undoes v) purpose h = absurd (cc)
    by_purpose grip e own (Probes v) purpose h = absurd (cc)

    at_ : (o : Option Grip) → g d ≡ o → unwrap_or (option_map (λ p. (p.maker == r) && is_command p.purpose) o) false ≡ true → pends w n r d ≡ true
    at_ None e h = absurd (cc)
    at_ (Some grip) e h = let of = both (grip.maker == r) (is_command grip.purpose) h in by_purpose grip e of.0 grip.purpose refl of.1

-- The accesses

-- an access behind which one is in use is released
in_use_behind : (x : Access) (xs : List Access) → AllByRecursion (AreInTurn x) xs → some_in_use xs ≡ true → x.status ≡ Released
in_use_behind x [] turns used = absurd (cc)
in_use_behind x (y ∷ ys) turns used = at_ (is_scheduled y.status) refl (in_use_behind x ys turns.1)
  where
    is_one : (status : Status) → is_released status ≡ true → status ≡ Released
    is_one Released h = refl
    is_one Acquired h = absurd (cc)
    is_one Scheduled h = absurd (cc)

    first : (a b : Bool) → b ≡ false → (a || b) ≡ true → a ≡ true
    first a b h k = grind (arith, common_steps)

    at_ : (b : Bool) → is_scheduled y.status ≡ b → (some_in_use ys ≡ true → x.status ≡ Released) → x.status ≡ Released
    at_ true e ih = ih ((λ i. not (sym e i) || some_in_use ys) ∙ used)
    at_ false e ih = is_one x.status (first (is_released x.status) (is_scheduled y.status) e turns.0)

-- what the access of a run tells
tells : (w : Setting) (n : Reading) (g : Grips) (passed : ℕ → Bool) (d r : ℕ) (rest : List Access) → ((q : ℕ) → passed q ≡ true → may_be_passed n g q d ≡ true)
    → AllByRecursion (AreInTurn (access_read (point w n g) passed d r)) rest → TellsOfRun (point w n g) d (access_read (point w n g) passed d r) rest
tells w n g passed d r rest may turns = record {
  status = λ never. (λ i. if unpassed never i then Released else status_by_answers (point w n g) r d);
  free = λ may. unacquired (passed r) (is_doomed n r) (did n r d) (grips_command g r d) may;
  passed = λ may used. in_use_behind (access_read (point w n g) passed d r) rest turns used;
  view = λ sound. (λ i. if unpassed (ap (λ b. b && not (has_touched n g r d)) sound) i then Some Down else option_map view_when (view_of n r d));
  wrote = refl;
  from = refl;
  to = refl;
}
  where
    at_ : may_be_passed n g r d ≡ false → (b : Bool) → passed r ≡ b → b ≡ false
    at_ never true e = absurd (both_ways (may_be_passed n g r d) never (may r e))
    at_ never false e = refl

    unpassed : may_be_passed n g r d ≡ false → passed r ≡ false
    unpassed never = at_ never (passed r) refl

    unacquired : (p a b c : Bool) → (a && not (b || c)) ≡ true → is_acquired (if p then Released else (if b then (if (not a && pends w n r d) || c then Acquired else Released) else Scheduled)) ≡ false
    unacquired true a b c h = refl
    unacquired false a false c h = refl
    unacquired false true true c h = absurd (cc)
    unacquired false false true c h = absurd (cc)

each_tells : (w : Setting) (n : Reading) (g : Grips) (passed : ℕ → Bool) (d : ℕ) (is : List Item) → ((q : ℕ) → passed q ≡ true → may_be_passed n g q d ≡ true) → Pairs AreInTurn (accesses_read (point w n g) passed d is) → EachTellsOfRun (point w n g) d (accesses_read (point w n g) passed d is)
unfolding Pairs
each_tells w n g passed d [] may turns = tt
each_tells w n g passed d (Ran r ∷ is) may turns = at_ (λ h. each_tells w n g passed d is may h) (uses w n d r.0 && not (list_any (covers n d) is)) turns
  where
    at_ : (Pairs AreInTurn (accesses_read (point w n g) passed d is) → EachTellsOfRun (point w n g) d (accesses_read (point w n g) passed d is))
        → (b : Bool) → Pairs AreInTurn
        (if b then (access_read (point w n g) passed d r.0 ∷ accesses_read (point w n g) passed d is) else accesses_read (point w n g) passed d is)
        → EachTellsOfRun (point w n g) d (if b then (access_read (point w n g) passed d r.0 ∷ accesses_read (point w n g) passed d is) else accesses_read (point w n g) passed d is)
    at_ ih true h = (tells w n g passed d r.0 (accesses_read (point w n g) passed d is) may h.0, ih h.1)
    at_ ih false h = ih h
each_tells w n g passed d (Failed e k ∷ is) may turns = each_tells w n g passed d is may turns
each_tells w n g passed d (Back e k ∷ is) may turns = each_tells w n g passed d is may turns

-- the runs of the accesses
runs_read : (w : Setting) (n : Reading) (g : Grips) (passed : ℕ → Bool) (d : ℕ) (is : List Item) → map (λ (x : Access). x.run.0) (accesses_read (point w n g) passed d is) ≡ runs_with_access w n d is
runs_read w n g passed d [] = refl
runs_read w n g passed d (Ran r ∷ is) = at_ (runs_read w n g passed d is) (uses w n d r.0 && not (list_any (covers n d) is))
  where
    at_ : map (λ (x : Access). x.run.0) (accesses_read (point w n g) passed d is) ≡ runs_with_access w n d is → (b : Bool)
        → map (λ (x : Access). x.run.0) (if b then (access_read (point w n g) passed d r.0 ∷ accesses_read (point w n g) passed d is) else accesses_read (point w n g) passed d is) ≡ (if b then (r.0 ∷ runs_with_access w n d is) else runs_with_access w n d is)
    at_ rest true = ap (λ xs. r.0 ∷ xs) rest
    at_ rest false = rest
runs_read w n g passed d (Failed e k ∷ is) = runs_read w n g passed d is
runs_read w n g passed d (Back e k ∷ is) = runs_read w n g passed d is

-- the table represents the configuration
pub represents : (w : Setting) (n : Reading) (g : Grips) (table : List LineageState) → ((d : ℕ) → IsDisciplined (accesses_at table d)) → TableIsKept (point w n g) table → Represents (point w n g) table
represents w n g table disciplined kept = record {
  devices = kept.devices;
  each = λ d below. record {
    committed = (kept.each d below).committed;
    runs = ap (map (λ (x : Access). x.run.0)) (kept.each d below).accesses ∙ runs_read w n g (kept.each d below).passed d n.line;
    each = subst (EachTellsOfRun (point w n g) d) (sym (kept.each d below).accesses) (each_tells w n g (kept.each d below).passed d n.line (kept.each d below).may_pass (subst (Pairs AreInTurn) (kept.each d below).accesses (pairs_from_all AreInTurn (accesses_at table d) (disciplined d).in_turn)));
    up = (kept.each d below).up;
  };
}
