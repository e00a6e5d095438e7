-- The device calls and the failures that the entries of a step tell of.
use Rattle.hub_core.proofs.Prelude.{Bool, Choice, Command, Commands, Configuration, Did, Died, Doomed, Down, Entry, Fell, Found, Grip, Grips, List, Lost, Moves, MustDown, None, OfRun, Option, Probes, Purpose, Reading, Refuted, Rose, Run, Sensed, Setting, Skipped, Some, Told, Undoes, Worked, [], after_give, after_take, ap, arith, choice_of, command_at, common_steps, count_append, count_by, decide, device_no, did, down_entries, entries_of, entries_on, entry, fails, false, fold, give_entries, has_died, if◌then◌else◌, is_doomed, is_fall_of, is_none, is_of_run, is_weak, lost_by, max, next_of, not, option_map, option_to_list, point, probe_entries, put, put_keeps, put_other, put_same, read_of, reading, refl, register_after, run_no, tells_call, told_calls, told_falls, true, with_entries, ℕ, ⊤, ◌&&◌, ◌+◌, ◌==◌, ◌||◌, ◌∙◌, ◌∷◌, ◌≡◌, ◌≢◌}
use Rattle.home_types.specs.declared.commands.Job.{Job}
use Rattle.home_types.specs.declared.commands.Job.TheVariants.{Check, Load, Set, Store}
use Rattle.hub_core.proofs.steps.Afters.{read_with, take_history}
use Rattle.hub_core.proofs.steps.Choices.{decide_is}
use Rattle.hub_core.proofs.steps.Takes.{made_by}

-- the calls of a history with the entries of a step more
pub calls_with : (s : Configuration) (maker : ℕ) (entries : List Entry) (d : ℕ) → told_calls s.setting.runs (entries_of (with_entries s maker entries).history) d ≡ told_calls s.setting.runs (entries_of s.history) d + told_calls s.setting.runs entries d
calls_with s maker entries d = ap (count_by (tells_call s.setting.runs d)) (entries_on s.history maker entries) ∙ count_append (tells_call s.setting.runs d) (entries_of s.history) entries

-- The step of a run tells of no call

abbrev MakesNoCall : List Run → ℕ → Choice → Type 0
MakesNoCall runs d c = told_calls runs (made_by c) d ≡ 0

downs_none : (runs : List Run) (d r k : ℕ) (c : Command) → MakesNoCall runs d (Moves (down_entries r k c))
downs_none runs d r k c = elim c.must as (λ b. told_calls runs (Did (run_no r) k Down ∷ (if b then Doomed (run_no r) (MustDown k) ∷ [] else [])) d ≡ 0) [
  | true ↦ grind (arith, common_steps)
  | false ↦ grind (arith, common_steps)
]

take_makes_none : (w : Setting) (n : Reading) (g : Grips) (r m d : ℕ) → MakesNoCall w.runs d (decide (point w n g) r m)
take_makes_none w n g r m d =
    decide_is (MakesNoCall w.runs d) w n g r m (record {
      absent = λ none. refl;
      over = λ e at. refl;
      waits = λ why. refl;
      arrives = λ run none. refl;
      enters = λ s enters. refl;
      aborted = λ cause act doomed over. refl;
      drops = λ cause e undoing down. grind (arith, common_steps);
      undoes = λ cause e undoing up. refl;
      revokes = λ c x run strong at. refl;
      skips = λ c skip. grind (arith, common_steps);
      downs = λ c run next home down. downs_none w.runs d r (next_of n r) c;
      goes = λ c run next home up. refl;
      fails_at_end = λ e all at. refl;
      commits = λ all up. refl;
    })

none_more : (k : ℕ) → k + 0 ≡ k
none_more k = omega arith

pub take_calls : (s : Configuration) (r m d : ℕ) → told_calls s.setting.runs (entries_of (after_take s r m).history) d ≡ told_calls s.setting.runs (entries_of s.history) d
take_calls s r m d =
    ap (λ h. told_calls s.setting.runs (entries_of h) d) (take_history s r m (choice_of s r m)) ∙ calls_with s r (made_by (choice_of s r m)) d
    ∙ ap (λ k. told_calls s.setting.runs (entries_of s.history) d + k) (take_makes_none s.setting (read_of s) s.grips r (max s.moment m) d) ∙ none_more (told_calls s.setting.runs (entries_of s.history) d)

-- A device that comes home

-- the device of a command is the one that is out for it, and a probe says how its device is counted
abbrev pub IsOutFor : Configuration → ℕ → Grip → Type 0
IsOutFor s d grip = by_purpose grip.purpose
  where
    by_purpose : Purpose → Type 0
    by_purpose (Commands k) = (command_at s.setting.runs grip.maker k).device.0 ≡ d
    by_purpose (Undoes v) = ⊤
    by_purpose (Probes value) = (read_of s).up d ≡ is_none value

-- it is out as one that is counted up
abbrev pub is_up_for : Purpose → Bool
is_up_for (Commands k) = true
is_up_for (Undoes v) = true
is_up_for (Probes value) = is_none value

-- its drives and senses
abbrev pub calls_for : Purpose → ℕ
calls_for (Commands k) = 1
calls_for (Undoes v) = 1
calls_for (Probes None) = 0
calls_for (Probes (Some v)) = 1

-- .. that worked: none where the device died
abbrev pub calls_told : Purpose → Told → ℕ
calls_told purpose told = if has_died told then 0 else calls_for purpose

-- how often a device fails that was counted up, or down, and died, or answered; and how often it comes back
abbrev pub falls_of : Bool → Bool → ℕ
falls_of up died = if up && died then 1 else 0

abbrev pub rises_of : Bool → Bool → ℕ
rises_of up died = if up || died then 0 else 1

-- the entries of a device that has failed, and of the run that is lost with it
abbrev pub dead_entries : ℕ → Option ℕ → List Entry
dead_entries d lost = Fell (device_no d) ∷ option_to_list (option_map (λ x. Doomed (run_no x) (Lost (device_no d))) lost)

-- .. and of a device that is back
abbrev pub back_entries : ℕ → List Entry
back_entries d = Rose (device_no d) ∷ []

nothing : (x : Bool) → ◌≡◌ {A = ℕ} 0 (if x then 0 else 0)
nothing true = refl
nothing false = refl

pub give_calls : (s : Configuration) (d e : ℕ) (grip : Grip) (told : Told) → IsOutFor s d grip
    → told_calls s.setting.runs (entries_of (after_give s d grip told).history) e ≡ told_calls s.setting.runs (entries_of s.history) e + (if d == e then calls_told grip.purpose told else 0)
give_calls s d e grip told on = calls_with s grip.maker (give_entries s.setting (read_of s) d grip told) e ∙ ap (λ x. told_calls s.setting.runs (entries_of s.history) e + x) (by_purpose grip.purpose told on)
  where
    r : ℕ
    r = grip.maker

    runs : List Run
    runs = s.setting.runs

    dead : (k : ℕ) (doomed lost must : Bool)
        → told_calls runs (Fell (command_at runs r k).device ∷ Did (run_no r) k Down ∷ (if doomed then [] else (if lost then Doomed (run_no r) (Lost (command_at runs r k).device) ∷ [] else (if must then Doomed (run_no r) (MustDown k) ∷ [] else [])))) e ≡ (if d == e then 0 else 0)
    dead k true lost must = grind (arith, common_steps)
    dead k false true must = grind (arith, common_steps)
    dead k false false true = grind (arith, common_steps)
    dead k false false false = grind (arith, common_steps)

    lost : (o : Option ℕ) → told_calls runs (dead_entries d o) e ≡ (if d == e then 0 else 0)
    lost None = grind (arith, common_steps)
    lost (Some x) = grind (arith, common_steps)

    rises : told_calls runs (back_entries d) e ≡ (if d == e then 1 else 0)
    rises = grind (arith, common_steps)

    by_purpose : (p : Purpose) (t : Told) → IsOutFor s d (record { maker = r; purpose = p }) → told_calls runs (give_entries s.setting (read_of s) d (record { maker = r; purpose = p }) t) e ≡ (if d == e then calls_told p t else 0)
    by_purpose (Commands k) Worked at = rw at (grind (arith, common_steps))
    by_purpose (Commands k) (Sensed x) at = elim (fails (command_at runs r k) (Found x) && not (is_doomed (read_of s) r)) as (λ b. told_calls runs (Did (run_no r) k (Found x) ∷ (if b then Doomed (run_no r) (Refuted k x) ∷ [] else [])) e ≡ (if d == e then 1 else 0)) [
      | true ↦ rw at (grind (arith, common_steps))
      | false ↦ rw at (grind (arith, common_steps))
    ]
    by_purpose (Commands k) Died at = dead k (is_doomed (read_of s) r) (did (read_of s) r (command_at runs r k).device.0 && not (is_weak s.setting.mode)) (command_at runs r k).must
    by_purpose (Undoes v) Worked at = grind (arith, common_steps)
    by_purpose (Undoes v) (Sensed x) at = grind (arith, common_steps)
    by_purpose (Undoes v) Died at = grind (arith, common_steps)
    by_purpose (Probes None) Worked at = rw at (nothing (d == e))
    by_purpose (Probes None) (Sensed x) at = rw at (nothing (d == e))
    by_purpose (Probes None) Died at = rw at (lost (lost_by s.setting (read_of s) d))
    by_purpose (Probes (Some v)) Worked at = rw at rises
    by_purpose (Probes (Some v)) (Sensed x) at = rw at rises
    by_purpose (Probes (Some v)) Died at = rw at (nothing (d == e))

-- the failures of a history with the entries of a step more
pub falls_with : (s : Configuration) (maker : ℕ) (entries : List Entry) (d : ℕ) → told_falls (entries_of (with_entries s maker entries).history) d ≡ told_falls (entries_of s.history) d + told_falls entries d
falls_with s maker entries d = ap (count_by (is_fall_of d)) (entries_on s.history maker entries) ∙ count_append (is_fall_of d) (entries_of s.history) entries

-- a device that was counted up, and died, has failed, ..
pub give_falls : (s : Configuration) (d e : ℕ) (grip : Grip) (told : Told) → IsOutFor s d grip → told_falls (entries_of (after_give s d grip told).history) e ≡ told_falls (entries_of s.history) e + (if d == e then falls_of (is_up_for grip.purpose) (has_died told) else 0)
give_falls s d e grip told on = falls_with s grip.maker (give_entries s.setting (read_of s) d grip told) e ∙ ap (λ x. told_falls (entries_of s.history) e + x) (by_purpose grip.purpose told on)
  where
    r : ℕ
    r = grip.maker

    c : ℕ → Command
    c k = command_at s.setting.runs r k

    dead : (k : ℕ) (doomed lost must : Bool) → (c k).device.0 ≡ d
        → told_falls (Fell (c k).device ∷ Did (run_no r) k Down ∷ (if doomed then [] else (if lost then Doomed (run_no r) (Lost (c k).device) ∷ [] else (if must then Doomed (run_no r) (MustDown k) ∷ [] else [])))) e ≡ (if d == e then 1 else 0)
    dead k true lost must at = rw at (grind (arith, common_steps))
    dead k false true must at = rw at (grind (arith, common_steps))
    dead k false false true at = rw at (grind (arith, common_steps))
    dead k false false false at = rw at (grind (arith, common_steps))

    lost : (o : Option ℕ) → told_falls (dead_entries d o) e ≡ (if d == e then 1 else 0)
    lost None = grind (arith, common_steps)
    lost (Some x) = grind (arith, common_steps)

    by_purpose : (p : Purpose) (t : Told) → IsOutFor s d (record { maker = r; purpose = p }) → told_falls (give_entries s.setting (read_of s) d (record { maker = r; purpose = p }) t) e ≡ (if d == e then falls_of (is_up_for p) (has_died t) else 0)
    by_purpose (Commands k) Worked at = nothing (d == e)
    by_purpose (Commands k) (Sensed x) at = elim (fails (command_at s.setting.runs r k) (Found x) && not (is_doomed (read_of s) r)) as (λ b. told_falls (Did (run_no r) k (Found x) ∷ (if b then Doomed (run_no r) (Refuted k x) ∷ [] else [])) e ≡ (if d == e then 0 else 0)) [
      | true ↦ nothing (d == e)
      | false ↦ nothing (d == e)
    ]
    by_purpose (Commands k) Died at = dead k (is_doomed (read_of s) r) (did (read_of s) r (command_at s.setting.runs r k).device.0 && not (is_weak s.setting.mode)) (command_at s.setting.runs r k).must at
    by_purpose (Undoes v) Worked at = nothing (d == e)
    by_purpose (Undoes v) (Sensed x) at = nothing (d == e)
    by_purpose (Undoes v) Died at = grind (arith, common_steps)
    by_purpose (Probes None) Worked at = rw at (nothing (d == e))
    by_purpose (Probes None) (Sensed x) at = rw at (nothing (d == e))
    by_purpose (Probes None) Died at = rw at (lost (lost_by s.setting (read_of s) d))
    by_purpose (Probes (Some v)) Worked at = rw at (nothing (d == e))
    by_purpose (Probes (Some v)) (Sensed x) at = rw at (nothing (d == e))
    by_purpose (Probes (Some v)) Died at = rw at (nothing (d == e))

-- what holds of the entries of a probe that comes back: its device is as it was counted, has failed, or is back
probe_back : (P : List Entry → Type 0) (w : Setting) (n : Reading) (d : ℕ) (told : Told) → P [] → P (dead_entries d (lost_by w n d)) → P (back_entries d) → P (probe_entries w n d told)
probe_back P w n d told same dead back = by_told told
  where
    by_told : (t : Told) → P (probe_entries w n d t)
    by_told Worked = elim (n.up d) as (λ b. P (if b then [] else back_entries d)) [ true ↦ same | false ↦ back ]
    by_told (Sensed x) = elim (n.up d) as (λ b. P (if b then [] else back_entries d)) [ true ↦ same | false ↦ back ]
    by_told Died = elim (n.up d) as (λ b. P (if b then dead_entries d (lost_by w n d) else [])) [ true ↦ dead | false ↦ same ]

-- what is read when it is home again
read_back : {A : Type 0} (f : Reading → A) (a : A) (s : Configuration) (d : ℕ) (grip : Grip) (told : Told) → f (fold (entry s.setting) (read_of s) (give_entries s.setting (read_of s) d grip told)) ≡ a → f (reading s.setting (entries_of (after_give s d grip told).history)) ≡ a
read_back f a s d grip told is = ap f (read_with s grip.maker (give_entries s.setting (read_of s) d grip told)) ∙ is

-- .. and is counted down
pub give_down : (s : Configuration) (d : ℕ) (grip : Grip) (told : Told) → IsOutFor s d grip → has_died told ≡ true → (reading s.setting (entries_of (after_give s d grip told).history)).up d ≡ false
give_down s d grip told on died = read_back (λ n. n.up d) false s d grip told (by_purpose grip.purpose told on died)
  where
    w : Setting
    w = s.setting

    n : Reading
    n = read_of s

    r : ℕ
    r = grip.maker

    down : put n.up d false d ≡ false
    down = put_same n.up d false

    dead : (k : ℕ) (doomed lost must : Bool) → (command_at w.runs r k).device.0 ≡ d
        → (fold (entry w) (entry w (entry w n (Fell (command_at w.runs r k).device)) (Did (run_no r) k Down)) (if doomed then [] else (if lost then Doomed (run_no r) (Lost (command_at w.runs r k).device) ∷ [] else (if must then Doomed (run_no r) (MustDown k) ∷ [] else [])))).up d ≡ false
    dead k true lost must at = ap (λ x. put n.up x false d) at ∙ down
    dead k false true must at = ap (λ x. put n.up x false d) at ∙ down
    dead k false false true at = ap (λ x. put n.up x false d) at ∙ down
    dead k false false false at = ap (λ x. put n.up x false d) at ∙ down

    lost : (o : Option ℕ) → (fold (entry w) n (dead_entries d o)).up d ≡ false
    lost None = down
    lost (Some x) = down

    by_purpose : (p : Purpose) (t : Told) → IsOutFor s d (record { maker = r; purpose = p }) → has_died t ≡ true → (fold (entry w) n (give_entries w n d (record { maker = r; purpose = p }) t)).up d ≡ false
    by_purpose p Worked at died = absurd (cc)
    by_purpose p (Sensed x) at died = absurd (cc)
    by_purpose (Commands k) Died at died = dead k (is_doomed n r) (did n r (command_at w.runs r k).device.0 && not (is_weak w.mode)) (command_at w.runs r k).must at
    by_purpose (Undoes v) Died at died = down
    by_purpose (Probes None) Died at died = ap (λ b. (fold (entry w) n (if b then dead_entries d (lost_by w n d) else [])).up d) at ∙ lost (lost_by w n d)
    by_purpose (Probes (Some v)) Died at died = ap (λ b. (fold (entry w) n (if b then dead_entries d (lost_by w n d) else [])).up d) at ∙ at

-- one that was counted down, and answered, is back
pub give_rises : (s : Configuration) (d : ℕ) (grip : Grip) (told : Told) → IsOutFor s d grip → (reading s.setting (entries_of (after_give s d grip told).history)).rose d ≡ (read_of s).rose d + rises_of (is_up_for grip.purpose) (has_died told)
give_rises s d grip told on = read_back (λ n. n.rose d) _ s d grip told (by_purpose grip.purpose told on)
  where
    w : Setting
    w = s.setting

    n : Reading
    n = read_of s

    r : ℕ
    r = grip.maker

    still : n.rose d ≡ n.rose d + 0
    still = omega arith

    dead : (k : ℕ) (doomed lost must : Bool)
        → (fold (entry w) (entry w (entry w n (Fell (command_at w.runs r k).device)) (Did (run_no r) k Down)) (if doomed then [] else (if lost then Doomed (run_no r) (Lost (command_at w.runs r k).device) ∷ [] else (if must then Doomed (run_no r) (MustDown k) ∷ [] else [])))).rose d ≡ n.rose d + 0
    dead k true lost must = still
    dead k false true must = still
    dead k false false true = still
    dead k false false false = still

    lost : (o : Option ℕ) → (fold (entry w) n (dead_entries d o)).rose d ≡ n.rose d + 0
    lost None = still
    lost (Some x) = still

    probed : (b : Bool) (entries others : List Entry) (k : ℕ) → n.up d ≡ b → (fold (entry w) n (if b then entries else others)).rose d ≡ n.rose d + k → (fold (entry w) n (if n.up d then entries else others)).rose d ≡ n.rose d + k
    probed b entries others k at is = ap (λ x. (fold (entry w) n (if x then entries else others)).rose d) at ∙ is

    by_purpose : (p : Purpose) (t : Told) → IsOutFor s d (record { maker = r; purpose = p }) → (fold (entry w) n (give_entries w n d (record { maker = r; purpose = p }) t)).rose d ≡ n.rose d + rises_of (is_up_for p) (has_died t)
    by_purpose (Commands k) Worked at = still
    by_purpose (Commands k) (Sensed x) at = elim (fails (command_at w.runs r k) (Found x) && not (is_doomed n r)) as (λ b. (fold (entry w) n (Did (run_no r) k (Found x) ∷ (if b then Doomed (run_no r) (Refuted k x) ∷ [] else []))).rose d ≡ n.rose d + 0) [
      | true ↦ still
      | false ↦ still
    ]
    by_purpose (Commands k) Died at = dead k (is_doomed n r) (did n r (command_at w.runs r k).device.0 && not (is_weak w.mode)) (command_at w.runs r k).must
    by_purpose (Undoes v) Worked at = still
    by_purpose (Undoes v) (Sensed x) at = still
    by_purpose (Undoes v) Died at = still
    by_purpose (Probes None) Worked at = probed true [] (back_entries d) 0 at still
    by_purpose (Probes None) (Sensed x) at = probed true [] (back_entries d) 0 at still
    by_purpose (Probes None) Died at = probed true (dead_entries d (lost_by w n d)) [] 0 at (lost (lost_by w n d))
    by_purpose (Probes (Some v)) Worked at = probed false [] (back_entries d) 1 at (put_same n.rose d (n.rose d + 1))
    by_purpose (Probes (Some v)) (Sensed x) at = probed false [] (back_entries d) 1 at (put_same n.rose d (n.rose d + 1))
    by_purpose (Probes (Some v)) Died at = probed false (dead_entries d (lost_by w n d)) [] 0 at still

-- how a device is counted, and its restarts
abbrev pub counted_of : Reading → ℕ → Bool × ℕ
counted_of n d = (n.up d, n.rose d)

-- all that is said of the others is as before
pub give_counted : (s : Configuration) (d e : ℕ) (grip : Grip) (told : Told) → IsOutFor s d grip → e ≢ d → counted_of (reading s.setting (entries_of (after_give s d grip told).history)) e ≡ counted_of (read_of s) e
give_counted s d e grip told on other = read_back (λ n. counted_of n e) _ s d grip told (by_purpose grip.purpose told on)
  where
    w : Setting
    w = s.setting

    n : Reading
    n = read_of s

    r : ℕ
    r = grip.maker

    fell : (x : ℕ) → x ≡ d → ◌≡◌ {A = Bool × ℕ} (put n.up x false e, n.rose e) (counted_of n e)
    fell x at = λ i. ((ap (λ y. put n.up y false e) at ∙ put_other n.up d false e other) i, n.rose e)

    dead : (k : ℕ) (doomed lost must : Bool) → (command_at w.runs r k).device.0 ≡ d
        → counted_of (fold (entry w) (entry w (entry w n (Fell (command_at w.runs r k).device)) (Did (run_no r) k Down)) (if doomed then []
        else (if lost then Doomed (run_no r) (Lost (command_at w.runs r k).device) ∷ [] else (if must then Doomed (run_no r) (MustDown k) ∷ [] else [])))) e
        ≡ counted_of n e
    dead k true lost must at = fell _ at
    dead k false true must at = fell _ at
    dead k false false true at = fell _ at
    dead k false false false at = fell _ at

    lost : (o : Option ℕ) → counted_of (fold (entry w) n (dead_entries d o)) e ≡ counted_of n e
    lost None = fell d refl
    lost (Some x) = fell d refl

    by_purpose : (p : Purpose) (t : Told) → IsOutFor s d (record { maker = r; purpose = p }) → counted_of (fold (entry w) n (give_entries w n d (record { maker = r; purpose = p }) t)) e ≡ counted_of n e
    by_purpose (Commands k) Worked at = refl
    by_purpose (Commands k) (Sensed x) at = elim (fails (command_at w.runs r k) (Found x) && not (is_doomed n r)) as (λ b. counted_of (fold (entry w) n (Did (run_no r) k (Found x) ∷ (if b then Doomed (run_no r) (Refuted k x) ∷ [] else []))) e ≡ counted_of n e) [
      | true ↦ refl
      | false ↦ refl
    ]
    by_purpose (Commands k) Died at = dead k (is_doomed n r) (did n r (command_at w.runs r k).device.0 && not (is_weak w.mode)) (command_at w.runs r k).must at
    by_purpose (Undoes v) Worked at = refl
    by_purpose (Undoes v) (Sensed x) at = refl
    by_purpose (Undoes v) Died at = fell d refl
    by_purpose (Probes v) t at = probe_back (λ es. counted_of (fold (entry w) n es) e ≡ counted_of n e) w n d t refl (lost (lost_by w n d)) (λ i. (put_other n.up d true e other i, put_other n.rose d (n.rose d + 1) e other i))

-- .. and the register of each run; that of its own, where it is a run's, may be another
pub give_registers : (s : Configuration) (d q : ℕ) (grip : Grip) (told : Told) → (is_of_run grip.purpose ≡ true → q ≢ grip.maker) → ((reading s.setting (entries_of (after_give s d grip told).history)).run q).register ≡ ((read_of s).run q).register
give_registers s d q grip told other = read_back (λ n. (n.run q).register) _ s d grip told (by_purpose grip.purpose told other)
  where
    w : Setting
    w = s.setting

    n : Reading
    n = read_of s

    r : ℕ
    r = grip.maker

    -- an entry of the run leaves another one
    left : (m : Reading) (o : OfRun) → q ≢ r → (put m.run r o q).register ≡ (m.run q).register
    left m o ne = ap (λ (x : OfRun). x.register) (put_other m.run r o q ne)

    fallen : ℕ → Reading
    fallen k = entry w (entry w n (Fell (command_at w.runs r k).device)) (Did (run_no r) k Down)

    dead : (k : ℕ) (doomed lost must : Bool) → q ≢ r
        → ((fold (entry w) (fallen k) (if doomed then [] else (if lost then Doomed (run_no r) (Lost (command_at w.runs r k).device) ∷ [] else (if must then Doomed (run_no r) (MustDown k) ∷ [] else [])))).run q).register ≡ (n.run q).register
    dead k true lost must ne = left n _ ne
    dead k false true must ne = left (fallen k) _ ne ∙ left n _ ne
    dead k false false true ne = left (fallen k) _ ne ∙ left n _ ne
    dead k false false false ne = left n _ ne

    lost : (o : Option ℕ) → ((fold (entry w) n (dead_entries d o)).run q).register ≡ (n.run q).register
    lost None = refl
    lost (Some x) = put_keeps (λ (o : OfRun). o.register) n.run x (record (n.run x) { doomed = Some (Lost (device_no d)) }) refl q

    by_purpose : (p : Purpose) (t : Told) → (is_of_run p ≡ true → q ≢ r) → ((fold (entry w) n (give_entries w n d (record { maker = r; purpose = p }) t)).run q).register ≡ (n.run q).register
    by_purpose (Commands k) Worked ne = left n _ (ne refl)
    by_purpose (Commands k) (Sensed x) ne = elim (fails (command_at w.runs r k) (Found x) && not (is_doomed n r)) as (λ b. ((fold (entry w) n (Did (run_no r) k (Found x) ∷ (if b then Doomed (run_no r) (Refuted k x) ∷ [] else []))).run q).register ≡ (n.run q).register) [
      | true ↦ left (entry w n (Did (run_no r) k (Found x))) _ (ne refl) ∙ left n _ (ne refl)
      | false ↦ left n _ (ne refl)
    ]
    by_purpose (Commands k) Died ne = dead k (is_doomed n r) (did n r (command_at w.runs r k).device.0 && not (is_weak w.mode)) (command_at w.runs r k).must (ne refl)
    by_purpose (Undoes v) Worked ne = left n _ (ne refl)
    by_purpose (Undoes v) (Sensed x) ne = left n _ (ne refl)
    by_purpose (Undoes v) Died ne = left n _ (ne refl)
    by_purpose (Probes v) t ne = probe_back (λ es. ((fold (entry w) n es).run q).register ≡ (n.run q).register) w n d t refl (lost (lost_by w n d)) refl

-- The step of a run changes no register

register_down : (job : Job) (register : ℕ) → register_after job Down register ≡ register
register_down (Set v) register = refl
register_down (Check v) register = refl
register_down Load register = refl
register_down Store register = refl

register_skipped : (job : Job) (register : ℕ) → register_after job Skipped register ≡ register
register_skipped (Set v) register = refl
register_skipped (Check v) register = refl
register_skipped Load register = refl
register_skipped Store register = refl

abbrev KeepsRegisters : Setting → Reading → Choice → Type 0
KeepsRegisters w n c = (q : ℕ) → ((fold (entry w) n (made_by c)).run q).register ≡ (n.run q).register

downs_register : (w : Setting) (n : Reading) (r k : ℕ) (c : Command) → KeepsRegisters w n (Moves (down_entries r k c))
downs_register w n r k c q = by_must c.must
  where
    answered : ((entry w n (Did (run_no r) k Down)).run q).register ≡ (n.run q).register
    answered = put_keeps (λ o. o.register) n.run r _ (register_down (command_at w.runs r k).job (n.run r).register) q

    by_must : (b : Bool) → ((fold (entry w) (entry w n (Did (run_no r) k Down)) (if b then Doomed (run_no r) (MustDown k) ∷ [] else [])).run q).register ≡ (n.run q).register
    by_must true = put_keeps (λ o. o.register) (entry w n (Did (run_no r) k Down)).run r _ refl q ∙ answered
    by_must false = answered

take_keeps_registers : (w : Setting) (n : Reading) (g : Grips) (r m : ℕ) → KeepsRegisters w n (decide (point w n g) r m)
take_keeps_registers w n g r m =
    decide_is (KeepsRegisters w n) w n g r m (record {
      absent = λ none q. refl;
      over = λ e at q. refl;
      waits = λ why q. refl;
      arrives = λ run none q. put_keeps (λ o. o.register) n.run r _ refl q;
      enters = λ s enters q. put_keeps (λ o. o.register) n.run r _ refl q;
      aborted = λ cause act doomed over q. put_keeps (λ o. o.register) n.run r _ refl q;
      drops = λ cause d undoing down q. put_keeps (λ o. o.register) n.run r _ refl q;
      undoes = λ cause d undoing up q. refl;
      revokes = λ c x run strong at q. put_keeps (λ o. o.register) n.run x _ refl q;
      skips = λ c skip q. put_keeps (λ o. o.register) n.run r _ (register_skipped (command_at w.runs r (next_of n r)).job (n.run r).register) q;
      downs = λ c run next home down. downs_register w n r (next_of n r) c;
      goes = λ c run next home up q. refl;
      fails_at_end = λ d all at q. put_keeps (λ o. o.register) n.run r _ refl q;
      commits = λ all up q. put_keeps (λ o. o.register) n.run r _ refl q;
    })

pub take_registers : (s : Configuration) (r m q : ℕ) → ((reading s.setting (entries_of (after_take s r m).history)).run q).register ≡ ((read_of s).run q).register
take_registers s r m q =
    ap (λ h. ((reading s.setting (entries_of h)).run q).register) (take_history s r m (choice_of s r m))
    ∙ ap (λ n. (n.run q).register) (read_with s r (made_by (choice_of s r m)))
    ∙ take_keeps_registers s.setting (read_of s) s.grips r (max s.moment m) q

-- The step of a run tells of no failure and no restart, and counts each device as before

abbrev MakesNoFall : ℕ → Choice → Type 0
MakesNoFall d c = told_falls (made_by c) d ≡ 0

take_makes_no_fall : (w : Setting) (n : Reading) (g : Grips) (r m d : ℕ) → MakesNoFall d (decide (point w n g) r m)
take_makes_no_fall w n g r m d =
    decide_is (MakesNoFall d) w n g r m (record {
      absent = λ none. refl;
      over = λ e at. refl;
      waits = λ why. refl;
      arrives = λ run none. refl;
      enters = λ s enters. refl;
      aborted = λ cause act doomed over. refl;
      drops = λ cause e undoing down. refl;
      undoes = λ cause e undoing up. refl;
      revokes = λ c x run strong at. refl;
      skips = λ c skip. refl;
      downs = λ c run next home down. elim c.must as (λ b. told_falls (Did (run_no r) (next_of n r) Down ∷ (if b then Doomed (run_no r) (MustDown (next_of n r)) ∷ [] else [])) d ≡ 0) [ true ↦ refl | false ↦ refl ];
      goes = λ c run next home up. refl;
      fails_at_end = λ e all at. refl;
      commits = λ all up. refl;
    })

pub take_falls : (s : Configuration) (r m d : ℕ) → told_falls (entries_of (after_take s r m).history) d ≡ told_falls (entries_of s.history) d
take_falls s r m d =
    ap (λ h. told_falls (entries_of h) d) (take_history s r m (choice_of s r m))
    ∙ falls_with s r (made_by (choice_of s r m)) d
    ∙ ap (λ k. told_falls (entries_of s.history) d + k) (take_makes_no_fall s.setting (read_of s) s.grips r (max s.moment m) d)
    ∙ none_more (told_falls (entries_of s.history) d)

abbrev KeepsCounted : Setting → Reading → Choice → Type 0
KeepsCounted w n c = (d : ℕ) → counted_of (fold (entry w) n (made_by c)) d ≡ counted_of n d

take_keeps_counted : (w : Setting) (n : Reading) (g : Grips) (r m : ℕ) → KeepsCounted w n (decide (point w n g) r m)
take_keeps_counted w n g r m =
    decide_is (KeepsCounted w n) w n g r m (record {
      absent = λ none d. refl;
      over = λ e at d. refl;
      waits = λ why d. refl;
      arrives = λ run none d. refl;
      enters = λ s enters d. refl;
      aborted = λ cause act doomed over d. refl;
      drops = λ cause e undoing down d. refl;
      undoes = λ cause e undoing up d. refl;
      revokes = λ c x run strong at d. refl;
      skips = λ c skip d. refl;
      downs = λ c run next home down d. elim c.must as (λ b. counted_of (fold (entry w) (entry w n (Did (run_no r) (next_of n r) Down)) (if b then Doomed (run_no r) (MustDown (next_of n r)) ∷ [] else [])) d ≡ counted_of n d) [ true ↦ refl | false ↦ refl ];
      goes = λ c run next home up d. refl;
      fails_at_end = λ e all at d. refl;
      commits = λ all up d. refl;
    })

counted_same : (s : Configuration) (r m d : ℕ) → counted_of (reading s.setting (entries_of (after_take s r m).history)) d ≡ counted_of (read_of s) d
counted_same s r m d =
    ap (λ h. counted_of (reading s.setting (entries_of h)) d) (take_history s r m (choice_of s r m))
    ∙ ap (λ n. counted_of n d) (read_with s r (made_by (choice_of s r m)))
    ∙ take_keeps_counted s.setting (read_of s) s.grips r (max s.moment m) d

pub take_counted : (s : Configuration) (r m d : ℕ) → (reading s.setting (entries_of (after_take s r m).history)).up d ≡ (read_of s).up d
take_counted s r m d = ap (λ c. c.0) (counted_same s r m d)

pub take_rises : (s : Configuration) (r m d : ℕ) → (reading s.setting (entries_of (after_take s r m).history)).rose d ≡ (read_of s).rose d
take_rises s r m d = ap (λ c. c.1) (counted_same s r m d)
