-- What is kept of a configuration of the weak model stays so with each device that comes home, from a run or from the detector.
use Rattle.hub_core.proofs.Prelude.{Answer, Bool, Cause, Command, Commands, Configuration, Did, Died, Doomed, Down, Entry, Fell, Fine, Found, Grip, Grips, GripsFit, HoldsNone, IsTrue, List, Lost, MustDown, None, OfRun, Option, Probes, Purpose, Reading, Refuted, Rose, Sensed, Setting, Shaped, Some, Told, Undoes, Worked, [], after_give, along, and-false, and-true, answer_told, ap, ap₂, arith, both, command_at, command_entries, common_steps, device_no, did, driven, entries_of, entry, eq-eqb, fails, false, find, fits_other, fits_same, fits_without, fold, give_entries, has_answer, has_died, has_value, if◌then◌else◌, is_device, is_doomed, is_open, is_run, is_some, is_weak, kind_at, length, live_runs, ltb-true, may_follow, next_command, none_left, not, option_map, option_to_list, point, probe_entries, probes_of, put, put_other, put_same, read_of, reads, refl, refutes, run_no, run_positive, sees_up, shapes, subst, suc, suits, sym, true, weakly_allowed, ℕ, ◌&&◌, ◌<◌, ◌==◌, ◌∙◌, ◌∷◌, ◌≡◌, ◌≢◌, ◌≤◌}
use Rattle.hub_core.proofs.kept.HistoryKept.{less_one}
use Rattle.hub_core.proofs.kept.Kept.{probes_home}
use Rattle.hub_core.proofs.kept.ReturnsKept.{Brings, BringsFor, IsOut, counted_down, counted_up, out_is, probes_answered}
use Rattle.hub_core.proofs.steps.Causes.{and_is, and_three, answered_last}
use Rattle.hub_core.proofs.steps.Gives.{command_back_follows}
use Rattle.hub_core.proofs.steps.Takes.{command_is, live_run}
use Rattle.hub_core.proofs.weak.WeakChanges.{IsStillOut, made_with, maker_sound, out_stays, passes_did, passes_doomed, weak_made}
use Rattle.hub_core.specs.WeakKept.{NoneHasFailed, WeakIsKept}

-- The entries of a device that comes home

-- a value that was found dooms its run, which was not doomed, where it must not find it
pub weak_sensed : (w : Setting) (n : Reading) (r k x : ℕ) → is_doomed n r ≡ false → command_entries w n r k (Sensed x) ≡ Did (run_no r) k (Found x) ∷ (if fails (command_at w.runs r k) (Found x) then Doomed (run_no r) (Refuted k x) ∷ [] else [])
weak_sensed w n r k x sound = ap (λ b. Did (run_no r) k (Found x) ∷ (if b then Doomed (run_no r) (Refuted k x) ∷ [] else [])) (ap (λ b. fails (command_at w.runs r k) (Found x) && not b) sound ∙ and-true (fails (command_at w.runs r k) (Found x)))

-- a call that died dooms its run, which was not doomed, where its command is must; no access is lost
pub weak_died : (w : Setting) (n : Reading) (r k : ℕ) → is_weak w.mode ≡ true → is_doomed n r ≡ false → command_entries w n r k Died ≡ Fell (command_at w.runs r k).device ∷ Did (run_no r) k Down ∷ (if (command_at w.runs r k).must then Doomed (run_no r) (MustDown k) ∷ [] else [])
weak_died w n r k weak sound =
    (λ i. Fell c.device ∷ Did (run_no r) k Down ∷ (if sound i then [] else (if did n r c.device.0 && not (weak i) then Doomed (run_no r) (Lost c.device) ∷ [] else (if c.must then Doomed (run_no r) (MustDown k) ∷ [] else []))))
    ∙ ap (λ b. Fell c.device ∷ Did (run_no r) k Down ∷ (if b then Doomed (run_no r) (Lost c.device) ∷ [] else (if c.must then Doomed (run_no r) (MustDown k) ∷ [] else []))) (and-false (did n r c.device.0))
  where
    c : Command
    c = command_at w.runs r k

-- a probe that died dooms no run
pub weak_probe_died : (w : Setting) (n : Reading) (d : ℕ) → is_weak w.mode ≡ true → probe_entries w n d Died ≡ (if n.up d then Fell (device_no d) ∷ [] else [])
weak_probe_died w n d weak = ap (λ b. if n.up d then Fell (device_no d) ∷ option_to_list (option_map (λ x. Doomed (run_no x) (Lost (device_no d))) (if b then None else find (λ x. is_open w n x d && sees_up n x d) (live_runs n n.line))) else []) weak

-- A device comes home

-- what its entries, and what is read after them, have to be where it stands at the value v then
record ComesHome (s : Configuration) (entries : List Entry) (d now v : ℕ) (n : Reading) : Type 0 where
  follows : IsTrue (along s.setting (may_follow s.setting) (read_of s) entries)
  allowed : IsTrue (along s.setting (weakly_allowed s.setting) (read_of s) entries)
  moment : n.moment ≤ now
  grips : GripsFit (point s.setting n (put s.grips d None))
  sound : (e : ℕ) (grip : Grip) → put s.grips d None e ≡ Some grip → is_doomed n grip.maker ≡ is_doomed (read_of s) grip.maker
  passes : NoneHasFailed s.setting n
  up : (e : ℕ) → e ≢ d → n.up e ≡ (read_of s).up e
  last : (e : ℕ) → e ≢ d → n.last e ≡ (read_of s).last e
  here : v ≡ n.last d

comes_home : (s : Configuration) (rounds opened maker d now v : ℕ) (held : ℕ → ℕ) (entries : List Entry)
    → ComesHome s entries d now v (fold (entry s.setting) (read_of s) entries)
    → ((e : ℕ) → probes_of (made_with s maker now (put s.grips d None) entries) e ≤ probes_of s e) → WeakIsKept s rounds opened held
    → WeakIsKept (made_with s maker now (put s.grips d None) entries) rounds opened (put held d v)
comes_home s rounds opened maker d now v held entries home fewer kept =
    weak_made s rounds opened maker now held (put held d v) (put s.grips d None) entries (record {
      follows = home.follows;
      allowed = home.allowed;
      moment = home.moment;
      grips = home.grips;
      out = out_stays (read_of s) then' s.grips (put s.grips d None) still kept.out;
      passes = home.passes;
      held_is = λ e within. holds e (e == d) refl within;
    }) fewer kept
  where
    then' : Reading
    then' = fold (entry s.setting) (read_of s) entries

    away : (e : ℕ) (grip : Grip) → put s.grips d None e ≡ Some grip → e ≢ d
    away e grip at same = absurd (let both' : Some grip ≡ None = sym at ∙ ap (put s.grips d None) same ∙ put_same s.grips d None in cc)

    still : (e : ℕ) (grip : Grip) → put s.grips d None e ≡ Some grip → IsStillOut (read_of s) then' s.grips (put s.grips d None) e grip
    still e grip at = record { before = less_one s.grips d e grip at; up = home.up e (away e grip at); last = home.last e (away e grip at); sound = home.sound e grip at }

    holds : (e : ℕ) (b : Bool) → (e == d) ≡ b → e < length s.setting.first → (if b then v else held e) ≡ then'.last e
    holds e true x within = let same : e ≡ d = grind (arith, common_steps) in home.here ∙ ap then'.last (sym same)
    holds e false x within = let other : e ≢ d = grind (arith, common_steps) in kept.held_is e within ∙ sym (home.last e other)

-- the hub holds what is read as last written
pub held_last : (s : Configuration) (rounds opened : ℕ) (held : ℕ → ℕ) (d : ℕ) (grip : Grip) → s.grips d ≡ Some grip → WeakIsKept s rounds opened held → held d ≡ (read_of s).last d
held_last s rounds opened held d grip out kept = kept.held_is d (ltb-true d (length s.setting.first) (kept.grips.homed d (ap is_some out)))

-- A command comes back

-- what is known of its run and its device, and of the run once the device is home
pub record IsBack (s : Configuration) (r k d : ℕ) (c : Command) : Type 0 where
  pub known : IsOut s.setting (read_of s) r k d c
  pub same : command_at s.setting.runs r k ≡ c
  pub run : is_run s.setting.runs r ≡ true
  pub up : (read_of s).up d ≡ true
  pub sound : ((read_of s).run r).doomed ≡ None
  pub first : ((read_of s).run r).answered_doomed ≡ false
  pub none : HoldsNone (put s.grips d None) r

pub is_back : (s : Configuration) (rounds opened : ℕ) (held : ℕ → ℕ) (r k d : ℕ) → s.grips d ≡ Some (record { maker = r; purpose = Commands k }) → WeakIsKept s rounds opened held → (c : Command) × IsBack s r k d c
is_back s rounds opened held r k d out kept =
    let known : (c : Command) × IsOut w n r k d c = out_is w n s.grips r k d kept.grips.runs out in
    let run : is_run w.runs r ≡ true = live_run w n r shaped known.1.live in
    let goes = both (n.up d) (not (is_doomed n r)) (kept.out d (record { maker = r; purpose = Commands k }) out) in
    let sound : (n.run r).doomed ≡ None = no_doom (n.run r).doomed goes.1 in (
      known.0,
      record {
        known = known.1;
        same = ap (command_at w.runs r) known.1.number ∙ command_is w n r known.0 known.1.next;
        run = run;
        up = goes.0;
        sound = sound;
        first = in_time (n.run r).answered_doomed (shaped r).answers_late sound;
        none = none (run_positive w r run);
      },
    )
  where
    w : Setting
    w = s.setting

    n : Reading
    n = read_of s

    shaped : Shaped w n
    shaped = shapes w (entries_of s.history) kept.well_formed

    no_doom : (o : Option Cause) → not (is_some o) ≡ true → o ≡ None
    no_doom None e = refl
    no_doom (Some c) e = absurd (cc)

    in_time : (b : Bool) → (b ≡ true → is_some (n.run r).doomed ≡ true) → (n.run r).doomed ≡ None → b ≡ false
    in_time false late sound = refl
    in_time true late sound = absurd (let both' : true ≡ false = sym (late refl) ∙ ap is_some sound in cc)

    none : (q : ℕ) × (r ≡ suc q) → HoldsNone (put s.grips d None) r
    none (q, is) = subst (HoldsNone (put s.grips d None)) (sym is) (none_left w n s.grips d q (Commands k) (out ∙ ap (λ x. Some (record { maker = x; purpose = Commands k })) is) kept.grips)

command_home : (s : Configuration) (rounds opened : ℕ) (held : ℕ → ℕ) (r k d now v : ℕ) (told : Told) → s.grips d ≡ Some (record { maker = r; purpose = Commands k }) → BringsFor s held r d v (Commands k) told → (has_died told ≡ true → v ≡ held d) → IsTrue (has_value (kind_at s.setting.kinds d) v)
    → (read_of s).moment ≤ now → WeakIsKept s rounds opened held → WeakIsKept (made_with s r now (put s.grips d None) (command_entries s.setting (read_of s) r k told)) rounds opened (put held d v)
command_home s rounds opened held r k d now v told out brings stays value later kept = by_told told brings stays
  where
    w : Setting
    w = s.setting

    n : Reading
    n = read_of s

    home : Grips
    home = put s.grips d None

    c : Command
    c = command_at w.runs r k

    back : (x : Command) × IsBack s r k d x
    back = is_back s rounds opened held r k d out kept

    on : c.device.0 ≡ d
    on = ap (λ (x : Command). x.device.0) back.1.same ∙ back.1.known.on

    next : next_command w n r ≡ Some c
    next = back.1.known.next ∙ ap (λ x. Some x) (sym back.1.same)

    own : held d ≡ n.last d
    own = held_last s rounds opened held d (record { maker = r; purpose = Commands k }) out kept

    KeptWith : List Entry → Type 0
    KeptWith entries = WeakIsKept (made_with s r now home entries) rounds opened (put held d v)

    suited : (t : Told) → BringsFor s held r d v (Commands k) t → suits w n r back.0 (answer_told t) ≡ true
    suited Worked b = and_is back.1.known.guard (ap not (ap (λ (y : Command). reads y.job) (sym back.1.same) ∙ b.0))
    suited (Sensed x) b = and_three back.1.known.guard (ap (λ (y : Command). reads y.job) (sym back.1.same) ∙ b.0) (ap₂ (λ e y. has_value (kind_at w.kinds e) y) back.1.known.on b.1 ∙ value)
    suited Died b = back.1.known.guard

    follows : (t : Told) → BringsFor s held r d v (Commands k) t → IsTrue (along w (may_follow w) n (command_entries w n r k t))
    follows t b = subst (λ j. IsTrue (along w (may_follow w) n (command_entries w n r j t))) (sym back.1.known.number) (command_back_follows w n r back.0 t (record {
      run = back.1.run;
      live = back.1.known.live;
      next = back.1.known.next;
      first = back.1.first;
      suited = suited t b;
      home = ap (is_device w) back.1.known.on ∙ kept.grips.homed d (ap is_some out);
      up = ap n.up back.1.known.on ∙ back.1.up;
    }))

    -- with these entries, which tell of the run and the device alone
    makes : (entries : List Entry) → IsTrue (along w (may_follow w) n entries) → IsTrue (along w (weakly_allowed w) n entries) → (fold (entry w) n entries).moment ≤ now → ((q : ℕ) → q ≢ r → (fold (entry w) n entries).run q ≡ n.run q) → NoneHasFailed w (fold (entry w) n entries)
        → ((e : ℕ) → e ≢ d → (fold (entry w) n entries).up e ≡ n.up e) → ((e : ℕ) → e ≢ d → (fold (entry w) n entries).last e ≡ n.last e) → v ≡ (fold (entry w) n entries).last d → (fold (entry w) n entries).rose ≡ n.rose → KeptWith entries
    makes entries ok allowed moment others passes up last here rose =
        comes_home s rounds opened r d now v held entries (record {
          follows = ok;
          allowed = allowed;
          moment = moment;
          grips = fits_other w n (fold (entry w) n entries) home r others back.1.none (fits_without w n s.grips d kept.grips);
          sound = λ e grip at. maker_sound n (fold (entry w) n entries) home r e grip others back.1.none at;
          passes = passes;
          up = up;
          last = last;
          here = here;
        }) (probes_home s r now d entries rose) kept

    -- the answer is the run's last one
    last_one : (n' : Reading) (a : Answer) → n'.run ≡ n.run → has_answer (entry w n' (Did (run_no r) k a)) r k a ≡ true
    last_one n' a same = subst (λ j. has_answer (entry w n' (Did (run_no r) j a)) r j a ≡ true) (ap (λ f. next_of' (f r)) same ∙ sym back.1.known.number) (answered_last w n' r a)
      where
        next_of' : OfRun → ℕ
        next_of' o = length o.answers

    -- a write has worked
    wrote : BringsFor s held r d v (Commands k) Worked → KeptWith (Did (run_no r) k Fine ∷ [])
    wrote b = makes (Did (run_no r) k Fine ∷ []) (follows Worked b) refl later (λ q other. put_other n.run r _ q other) (passes_did w n r k Fine c next (and-false c.must) back.1.sound kept.passes) (λ e other. refl)
        (λ e other. put_other n.last c.device.0 _ e (λ is. other (is ∙ on)))
        (subst (λ e. v ≡ put n.last e (driven (kind_at w.kinds e) c.job (n.run r).register) d) (sym on) (b.1 ∙ sym (put_same n.last d _))) refl

    -- a read has found a value, and dooms the run where it must not find it
    found : (x : ℕ) → BringsFor s held r d v (Commands k) (Sensed x) → (b : Bool) → fails c (Found x) ≡ b → IsTrue (along w (may_follow w) n (Did (run_no r) k (Found x) ∷ (if b then Doomed (run_no r) (Refuted k x) ∷ [] else [])))
        → KeptWith (Did (run_no r) k (Found x) ∷ (if b then Doomed (run_no r) (Refuted k x) ∷ [] else []))
    found x brings b e ok = by_failure b e ok
      where
        answer : Entry
        answer = Did (run_no r) k (Found x)

        doom : Entry
        doom = Doomed (run_no r) (Refuted k x)

        reads_last : (x == n.last c.device.0) ≡ true
        reads_last = eq-eqb x (n.last c.device.0) (brings.1 ∙ brings.2 ∙ own ∙ ap n.last (sym on))

        by_failure : (b : Bool) → fails c (Found x) ≡ b → IsTrue (along w (may_follow w) n (answer ∷ (if b then doom ∷ [] else []))) → KeptWith (answer ∷ (if b then doom ∷ [] else []))
        by_failure true e ok =
            makes (answer ∷ doom ∷ []) ok (and_is reads_last (and_is (and_is e (last_one n (Found x) refl)) refl)) later (λ q other. put_other (entry w n answer).run r _ q other ∙ put_other n.run r _ q other)
            (passes_doomed w n (entry w (entry w n answer) doom) r (Refuted k x) (λ q other. put_other (entry w n answer).run r _ q other ∙ put_other n.run r _ q other) (ap (λ (o : OfRun). o.doomed) (put_same (entry w n answer).run r _)) kept.passes)
            (λ i other. refl) (λ i other. refl) (brings.2 ∙ own) refl
        by_failure false e ok = makes (answer ∷ []) ok (and_is reads_last refl) later (λ q other. put_other n.run r _ q other) (passes_did w n r k (Found x) c next e back.1.sound kept.passes) (λ i other. refl) (λ i other. refl) (brings.2 ∙ own) refl

    -- the call died, and a must command has failed
    died : v ≡ held d → (b : Bool) → c.must ≡ b → IsTrue (along w (may_follow w) n (Fell c.device ∷ Did (run_no r) k Down ∷ (if b then Doomed (run_no r) (MustDown k) ∷ [] else []))) → KeptWith (Fell c.device ∷ Did (run_no r) k Down ∷ (if b then Doomed (run_no r) (MustDown k) ∷ [] else []))
    died still b e ok = by_must b e ok
      where
        fallen : Reading
        fallen = entry w n (Fell c.device)

        answer : Entry
        answer = Did (run_no r) k Down

        doom : Entry
        doom = Doomed (run_no r) (MustDown k)

        down : not (fallen.up c.device.0) ≡ true
        down = ap not (put_same n.up c.device.0 false)

        up : (i : ℕ) → i ≢ d → put n.up c.device.0 false i ≡ n.up i
        up i other = put_other n.up c.device.0 false i (λ is. other (is ∙ on))

        by_must : (b : Bool) → c.must ≡ b → IsTrue (along w (may_follow w) n (Fell c.device ∷ answer ∷ (if b then doom ∷ [] else []))) → KeptWith (Fell c.device ∷ answer ∷ (if b then doom ∷ [] else []))
        by_must true e ok =
            makes (Fell c.device ∷ answer ∷ doom ∷ []) ok (and_is down (and_is (and_is e (last_one fallen Down refl)) refl)) later (λ q other. put_other (entry w fallen answer).run r _ q other ∙ put_other n.run r _ q other)
            (passes_doomed w n (entry w (entry w fallen answer) doom) r (MustDown k) (λ q other. put_other (entry w fallen answer).run r _ q other ∙ put_other n.run r _ q other) (ap (λ (o : OfRun). o.doomed) (put_same (entry w fallen answer).run r _)) kept.passes)
            up (λ i other. refl) (still ∙ own) refl
        by_must false e ok = makes (Fell c.device ∷ answer ∷ []) ok (and_is down refl) later (λ q other. put_other n.run r _ q other) (passes_did w fallen r k Down c next (ap (λ b. b && refutes c.job Down) e) back.1.sound kept.passes) up (λ i other. refl) (still ∙ own) refl

    sound : is_doomed n r ≡ false
    sound = ap is_some back.1.sound

    by_told : (t : Told) → BringsFor s held r d v (Commands k) t → (has_died t ≡ true → v ≡ held d) → KeptWith (command_entries w n r k t)
    by_told Worked b stays = wrote b
    by_told (Sensed x) b stays = subst KeptWith (sym (weak_sensed w n r k x sound)) (found x b (fails c (Found x)) refl (subst (λ es. IsTrue (along w (may_follow w) n es)) (weak_sensed w n r k x sound) (follows (Sensed x) b)))
    by_told Died b stays = subst KeptWith (sym (weak_died w n r k kept.weak sound)) (died (stays refl) c.must refl (subst (λ es. IsTrue (along w (may_follow w) n es)) (weak_died w n r k kept.weak sound) (follows Died tt)))

-- A probe comes back

probe_home : (s : Configuration) (rounds opened : ℕ) (held : ℕ → ℕ) (r d now v : ℕ) (o : Option ℕ) (told : Told) → s.grips d
    ≡ Some (record { maker = r; purpose = Probes o }) → BringsFor s held r d v (Probes o) told → (has_died told ≡ true → v ≡ held d) → (read_of s).moment ≤ now
    → WeakIsKept s rounds opened held
    → WeakIsKept (made_with s r now (put s.grips d None) (probe_entries s.setting (read_of s) d told)) rounds opened (put held d v)
probe_home s rounds opened held r d now v o told out brings stays later kept = by_value o told out brings stays
  where
    w : Setting
    w = s.setting

    n : Reading
    n = read_of s

    own : held d ≡ n.last d
    own = held_last s rounds opened held d (record { maker = r; purpose = Probes o }) out kept

    KeptWith : List Entry → Type 0
    KeptWith entries = WeakIsKept (made_with s r now (put s.grips d None) entries) rounds opened (put held d v)

    home : is_device w d ≡ true
    home = kept.grips.homed d (ap is_some out)

    fall : List Entry
    fall = Fell (device_no d) ∷ []

    rise : List Entry
    rise = Rose (device_no d) ∷ []

    -- the device is as it was
    nothing : v ≡ held d → KeptWith []
    nothing still = comes_home s rounds opened r d now v held [] (record {
      follows = refl;
      allowed = refl;
      moment = later;
      grips = fits_without w n s.grips d kept.grips;
      sound = λ e grip at. refl;
      passes = kept.passes;
      up = λ e other. refl;
      last = λ e other. refl;
      here = still ∙ own;
    }) (probes_home s r now d [] refl) kept

    -- it has failed, and no run is lost
    falls : v ≡ held d → n.up d ≡ true → KeptWith fall
    falls still up = comes_home s rounds opened r d now v held (Fell (device_no d) ∷ []) (record {
      follows = rw (home, up) refl;
      allowed = refl;
      moment = later;
      grips = fits_same w n (entry w n (Fell (device_no d))) (put s.grips d None) (λ q e k. refl) (λ q e. refl) (fits_without w n s.grips d kept.grips);
      sound = λ e grip at. refl;
      passes = kept.passes;
      up = λ e other. put_other n.up d false e other;
      last = λ e other. refl;
      here = still ∙ own;
    }) (probes_home s r now d (Fell (device_no d) ∷ []) refl) kept

    -- it is back
    rises : (u : ℕ) → s.grips d ≡ Some (record { maker = r; purpose = Probes (Some u) }) → v ≡ n.last d → n.up d ≡ false → KeptWith rise
    rises u at here down = comes_home s rounds opened r d now v held rise (record {
      follows = rw (home, down) refl;
      allowed = refl;
      moment = later;
      grips = fits_same w n (entry w n (Rose (device_no d))) (put s.grips d None) (λ q e k. refl) (λ q e. refl) (fits_without w n s.grips d kept.grips);
      sound = λ e grip at. refl;
      passes = kept.passes;
      up = λ e other. put_other n.up d true e other;
      last = λ e other. refl;
      here = here;
    }) (probes_answered s r d now u at) kept

    asked : s.grips d ≡ Some (record { maker = r; purpose = Probes None }) → n.up d ≡ true
    asked at = kept.out d (record { maker = r; purpose = Probes None }) at

    restores : (u : ℕ) → s.grips d ≡ Some (record { maker = r; purpose = Probes (Some u) }) → (n.up d ≡ false) × (u ≡ n.last d)
    restores u at = parts (n.up d) u (n.last d) (kept.out d (record { maker = r; purpose = Probes (Some u) }) at)
      where
        parts : (b : Bool) (x y : ℕ) → (not b && (x == y)) ≡ true → (b ≡ false) × (x ≡ y)
        parts b x y e = (grind (arith, common_steps), grind (arith, common_steps))

    by_value : (o : Option ℕ) (t : Told) → s.grips d ≡ Some (record { maker = r; purpose = Probes o }) → BringsFor s held r d v (Probes o) t → (has_died t ≡ true → v ≡ held d) → KeptWith (probe_entries w n d t)
    by_value None Worked at b stays = subst KeptWith (sym (counted_up n d [] rise (asked at))) (nothing b)
    by_value None (Sensed x) at b stays = subst KeptWith (sym (counted_up n d [] rise (asked at))) (nothing b)
    by_value None Died at b stays = subst KeptWith (sym (weak_probe_died w n d kept.weak ∙ counted_up n d fall [] (asked at))) (falls (stays refl) (asked at))
    by_value (Some u) Worked at b stays = subst KeptWith (sym (counted_down n d rise [] (restores u at).0)) (rises u at (b ∙ (restores u at).1) (restores u at).0)
    by_value (Some u) (Sensed x) at b stays = subst KeptWith (sym (counted_down n d rise [] (restores u at).0)) (rises u at (b ∙ (restores u at).1) (restores u at).0)
    by_value (Some u) Died at b stays = subst KeptWith (sym (weak_probe_died w n d kept.weak ∙ counted_down n d [] fall (restores u at).0)) (nothing (stays refl))

-- What is kept stays so when a device comes home: where its call died, the hub leaves what it holds as it was

pub weak_give : (s : Configuration) (rounds opened : ℕ) (held : ℕ → ℕ) (d now v : ℕ) (grip : Grip) (told : Told) → s.grips d ≡ Some grip
    → Brings s held d v grip told → (has_died told ≡ true → v ≡ held d) → IsTrue (has_value (kind_at s.setting.kinds d) v) → (read_of s).moment ≤ now
    → WeakIsKept s rounds opened held
    → WeakIsKept (after_give (record s { moment = now }) d grip told) rounds opened (put held d v)
weak_give s rounds opened held d now v grip told out brings stays value later kept = by_purpose grip.purpose out brings
  where
    r : ℕ
    r = grip.maker

    by_purpose : (p : Purpose) → s.grips d ≡ Some (record { maker = r; purpose = p }) → BringsFor s held r d v p told → WeakIsKept (made_with s r now (put s.grips d None) (give_entries s.setting (read_of s) d (record { maker = r; purpose = p }) told)) rounds opened (put held d v)
    by_purpose (Commands k) at b = command_home s rounds opened held r k d now v told at b stays value later kept
    by_purpose (Undoes u) at b = absurd (let undoes : false ≡ true = kept.out d (record { maker = r; purpose = Undoes u }) at in cc)
    by_purpose (Probes o) at b = probe_home s rounds opened held r d now v o told at b stays later kept
