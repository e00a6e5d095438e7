-- What is kept of a configuration of the weak model is so at the start, and stays so with each step of a run.
use Rattle.hub_core.proofs.Prelude.{Aborted, Arrived, Bool, Command, Commands, Committed, Configuration, Did, Doomed, Down, Ended, Entry, Grip, HandsOut, HoldsNone, IsTrue, List, MayOpen, Moves, MustDown, None, OfRun, Option, Placed, PlacedAt, Reading, Setting, Shaped, Skipped, Some, [], after_choice, after_take, along, and-false, answers_down, ap, append-nil, arith, at_moment, busy_wait, commands_of, common_steps, down_entries, entries_of, entry, false, fits_other, fits_with, fold, has_value, holds_none, if◌then◌else◌, is_device, is_live, is_none, is_run, is_some, is_weak, kept_by, kind_at, length, max, may_command, may_follow, names_values_of, next_of, none_fails, not, opened, point, put, put_keeps, put_other, put_same, read_of, refl, refutes, run_no, sees_down, shapes, stand_at, subst, sym, true, weakly_allowed, ℕ, ◌&&◌, ◌++◌, ◌+◌, ◌<◌, ◌||◌, ◌∙◌, ◌∷◌, ◌≡◌, ◌≢◌, ◌≤◌}
use Rattle.hub_core.proofs.kept.HistoryKept.{holds_is}
use Rattle.hub_core.proofs.kept.Kept.{gripless, out_with, probes_out, probes_told}
use Rattle.hub_core.proofs.steps.Causes.{IsAllowed, never_down_at_end, take_is_allowed}
use Rattle.hub_core.proofs.steps.Choices.{Commanding, IsNext, decide_is}
use Rattle.hub_core.proofs.steps.Takes.{Follows, IsHomed, take_follows}
use Rattle.hub_core.proofs.weak.WeakChanges.{maker_sound, out_stays, passes_did, passes_doomed, passes_same, weak_made, weak_same}
use Rattle.hub_core.specs.WeakKept.{NoneHasFailed, WeakIsKept, goes_weakly}

-- The start

pub weak_opened : (w : Setting) (rounds opened' : ℕ) → MayOpen w rounds opened' → is_weak w.mode ≡ true → length w.kinds ≡ length w.first → ((d : ℕ) → d < length w.first → IsTrue (has_value (kind_at w.kinds d) (stand_at w.first d).value))
    → WeakIsKept (opened w rounds) rounds opened' (λ d. (stand_at w.first d).value)
weak_opened w rounds opened' opens weak kinds values =
    record {
      opens = opens;
      weak = weak;
      kinds = kinds;
      probes = λ d. few (is_device w d);
      values = values;
      well_formed = refl;
      moment = omega arith;
      allowed = refl;
      grips = record {
        homed = λ d out. absurd (cc);
        runs = record { commands = λ d r k at. absurd (cc); undos = λ d r v at. absurd (cc); one = λ d e r p q at. absurd (cc) };
        probes = λ d r v at. absurd (cc);
      };
      out = λ d grip at. absurd (cc);
      passes = λ r sound. none (commands_of w.runs r);
      held_is = λ d within. refl;
    }
  where
    few : (b : Bool) → 0 + 0 + (if b then rounds else 0) ≤ rounds
    few true = omega arith
    few false = omega arith

    none : (cs : List Command) → none_fails cs [] ≡ true
    none [] = refl
    none (c ∷ cs) = refl

-- The step of a run

-- entries of a run alone, that holds no grip, and of no device
record TellOf (n m : Reading) (r : ℕ) : Type 0 where
  others : (q : ℕ) → q ≢ r → m.run q ≡ n.run q
  up : m.up ≡ n.up
  last : m.last ≡ n.last
  rose : m.rose ≡ n.rose

told_made : (s : Configuration) (rounds opened r m : ℕ) (held : ℕ → ℕ) (entries : List Entry)
    → TellOf (read_of s) (fold (entry s.setting) (read_of s) entries) r → HoldsNone s.grips r
    → IsTrue (along s.setting (may_follow s.setting) (read_of s) entries) → IsTrue (along s.setting (weakly_allowed s.setting) (read_of s) entries)
    → (fold (entry s.setting) (read_of s) entries).moment ≤ m → NoneHasFailed s.setting (fold (entry s.setting) (read_of s) entries) → WeakIsKept s rounds opened held → WeakIsKept (record s { history = s.history ++ kept_by r entries; moment = m }) rounds opened held
told_made s rounds opened r m held entries tell none follows allowed moment passes kept =
    weak_made s rounds opened r m held held s.grips entries (record {
      follows = follows;
      allowed = allowed;
      moment = moment;
      grips = fits_other s.setting n then' s.grips r tell.others none kept.grips;
      out = out_stays n then' s.grips s.grips (λ d grip at. record { before = at; up = ap (λ f. f d) tell.up; last = ap (λ f. f d) tell.last; sound = maker_sound n then' s.grips r d grip tell.others none at }) kept.out;
      passes = passes;
      held_is = λ d within. kept.held_is d within ∙ ap (λ f. f d) (sym tell.last);
    }) (probes_told s r m entries tell.rose) kept
  where
    n : Reading
    n = read_of s

    then' : Reading
    then' = fold (entry s.setting) n entries

pub weak_take : (s : Configuration) (rounds opened : ℕ) (held : ℕ → ℕ) (r m : ℕ) → WeakIsKept s rounds opened held → WeakIsKept (after_take s r m) rounds opened held
weak_take s rounds opened held r m kept =
    decide_is (λ c. Follows w n c → IsAllowed w n c → WeakIsKept (after_choice (at_moment s m) r c) rounds opened held) w n s.grips r now (record {
      absent = λ none ok allowed. timed;
      over = λ e at ok allowed. subst (λ h. WeakIsKept (record (at_moment s m) { history = h }) rounds opened held) (sym (append-nil s.history)) timed;
      waits = λ why ok allowed. timed;
      arrives = λ run none ok allowed. moves (Arrived (run_no r) now) (record { others = λ q other. put_other n.run r _ q other; up = refl; last = refl; rose = refl }) (idle run (unplaced (n.run r) (shaped r).arrived none)) ok allowed (omega (arith, later))
          (λ q. put_keeps (λ o. o.doomed) n.run r _ refl q) (λ q. put_keeps (λ o. o.answers) n.run r _ refl q);
      enters =
          λ x enters ok allowed. moves (Placed (run_no r) (length x.front) now)
          (record { others = λ q other. put_other n.run r _ q other; up = refl; last = refl; rose = refl })
          (idle enters.run (not_live (n.run r).placed (is_none (n.run r).ended) enters.unplaced)) ok allowed (omega (arith, later))
          (λ q. put_keeps (λ o. o.doomed) n.run r _ refl q) (λ q. put_keeps (λ o. o.answers) n.run r _ refl q);
      aborted = λ cause act doomed over ok allowed. moves (Ended (run_no r) (Aborted cause)) (record { others = λ q other. put_other n.run r _ q other; up = refl; last = refl; rose = refl }) (holds_none w s.grips r kept.grips.homed act.free) ok allowed later
          (λ q. put_keeps (λ o. o.doomed) n.run r _ refl q) (λ q. put_keeps (λ o. o.answers) n.run r _ refl q);
      drops = λ cause d undoing down. absurd (strong undoing.strong);
      undoes = λ cause d undoing up. absurd (strong undoing.strong);
      revokes = λ c x run e at. absurd (strong e);
      skips = λ c skip ok allowed. told_made s rounds opened r now held (Did (run_no r) (next_of n r) Skipped ∷ []) (record { others = λ q other. put_other n.run r _ q other; up = refl; last = refl; rose = refl }) (holds_none w s.grips r kept.grips.homed skip.act.free) ok allowed later
          (passes_did w n r (next_of n r) Skipped c skip.next (and-false c.must) skip.sound kept.passes) kept;
      downs = downs;
      goes = λ c run next home up ok allowed. goes c run up;
      fails_at_end = λ d all at. absurd (let both : None ≡ Some d = sym (never_down_at_end (point w n s.grips) r kept.weak) ∙ at in cc);
      commits = λ all up ok allowed. moves (Ended (run_no r) Committed) (record { others = λ q other. put_other n.run r _ q other; up = refl; last = refl; rose = refl }) (holds_none w s.grips r kept.grips.homed all.act.free) ok allowed later
          (λ q. put_keeps (λ o. o.doomed) n.run r _ refl q) (λ q. put_keeps (λ o. o.answers) n.run r _ refl q);
    }) (take_follows w n s.grips r now (record { shaped = shaped; homed = homed; moment = grind (arith, common_steps, later) })) (take_is_allowed (point w n s.grips) r now kept.weak (kept.passes r))
  where
    w : Setting
    w = s.setting

    n : Reading
    n = read_of s

    now : ℕ
    now = max s.moment m

    shaped : Shaped w n
    shaped = shapes w (entries_of s.history) kept.well_formed

    homed : IsHomed w
    homed r' k c at = let home : IsTrue (is_device w c.device.0 && names_values_of (kind_at w.kinds c.device.0) c.job) = kept.opens.homed r' k c at in grind (arith, common_steps)

    later : n.moment ≤ now
    later = let before' : n.moment ≤ s.moment = kept.moment in omega (arith, before')

    timed : WeakIsKept (at_moment s m) rounds opened held
    timed = weak_same s rounds opened now held s.probes s.grips later kept.probes kept.grips kept.out kept

    strong : is_weak w.mode ≡ false → ⊥
    strong e = absurd (let both : true ≡ false = sym kept.weak ∙ e in cc)

    not_live : (p : Option PlacedAt) (b : Bool) → is_none p ≡ true → (is_some p && b) ≡ false
    not_live None b e = refl
    not_live (Some p) b e = absurd (cc)

    unplaced : (o : OfRun) → (is_some o.placed ≡ true → is_some o.arrived ≡ true) → is_none o.arrived ≡ true → (is_some o.placed && is_none o.ended) ≡ false
    unplaced o came none = by_place o.placed o.arrived (is_none o.ended) came none
      where
        by_place : (p : Option PlacedAt) (a : Option ℕ) (e : Bool) → (is_some p ≡ true → is_some a ≡ true) → is_none a ≡ true → (is_some p && e) ≡ false
        by_place None a e came none = refl
        by_place (Some p) None e came none = absurd (let both : false ≡ true = came refl in cc)
        by_place (Some p) (Some a) e came none = absurd (cc)

    -- a run that is not live holds no grip
    idle : is_run w.runs r ≡ true → is_live n r ≡ false → HoldsNone s.grips r
    idle run gone d p at = absurd (let both : true ≡ false = sym (holds_is s.grips r d p at) ∙ gripless w n s.grips r d kept.grips run gone in cc)

    -- a step with one entry, which is no answer and no doom
    moves : (e : Entry) → TellOf n (entry w n e) r → HoldsNone s.grips r → IsTrue (along w (may_follow w) n (e ∷ []))
        → IsTrue (along w (weakly_allowed w) n (e ∷ [])) → (entry w n e).moment ≤ now → ((q : ℕ) → ((entry w n e).run q).doomed ≡ (n.run q).doomed)
        → ((q : ℕ) → ((entry w n e).run q).answers ≡ (n.run q).answers)
        → WeakIsKept (record s { history = s.history ++ kept_by r (e ∷ []); moment = now }) rounds opened held
    moves e tell none ok allowed moment dooms answers = told_made s rounds opened r now held (e ∷ []) tell none ok allowed moment (passes_same w n (entry w n e) dooms answers kept.passes) kept

    -- a command goes out
    goes : (c : Command) → Commanding (point w n s.grips) r c → answers_down w n r c.device.0 ≡ false → WeakIsKept (after_choice (at_moment s m) r (HandsOut c.device.0 (Commands (next_of n r)))) rounds opened held
    goes c run answers =
        weak_same s rounds opened now held s.probes (put s.grips c.device.0 (Some new)) later (λ d. omega (arith, probes_out s now c.device.0 new refl d, kept.probes d))
        (fits_with w n s.grips c.device.0 r (Commands (next_of n r)) (homed r (next_of n r) c run.next) may (λ q e. holds_none w s.grips r kept.grips.homed run.act.free) kept.grips)
        (out_with s.grips (goes_weakly n) c.device.0 new (reached (is_weak w.mode) (sees_down n r c.device.0) (n.up c.device.0) (is_some (n.run r).doomed) (ap is_some run.sound) answers) kept.out) kept
      where
        new : Grip
        new = record { maker = r; purpose = Commands (next_of n r) }

        may : may_command w r c.device.0 (next_of n r) (n.run r) ≡ true
        may = rw (run.act.live, run.next, run.guard) (grind (arith, common_steps))

        reached : (weak sees up doomed : Bool) → doomed ≡ false → ((not weak && sees) || not up) ≡ false → (up && not doomed) ≡ true
        reached weak sees up doomed e f = grind (arith, common_steps)

    -- the answer Down with no call, and the doom of a must command
    downs : (c : Command) → Commanding (point w n s.grips) r c → (is_weak w.mode ≡ false → IsNext (point w n s.grips) r now c) → busy_wait (point w n s.grips) r c.device.0 ≡ false → answers_down w n r c.device.0 ≡ true
        → Follows w n (Moves (down_entries r (next_of n r) c)) → IsAllowed w n (Moves (down_entries r (next_of n r) c)) → WeakIsKept (after_choice (at_moment s m) r (Moves (down_entries r (next_of n r) c))) rounds opened held
    downs c run next home down ok allowed = elim c.must as (λ b. c.must ≡ b → IsTrue (along w (may_follow w) n (entries b)) → IsTrue (along w (weakly_allowed w) n (entries b)) → WeakIsKept (record s { history = s.history ++ kept_by r (entries b); moment = now }) rounds opened held) [
      | true ↦ (λ must ok allowed. told_made s rounds opened r now held (entries true)
          (record { others = others true; up = refl; last = refl; rose = refl }) free ok allowed later (passes_doomed w n (fold (entry w) n (entries true)) r
          (MustDown (next_of n r)) (others true) (ap (λ (o : OfRun). o.doomed) (put_same answered.run r _)) kept.passes) kept)
      | false ↦ (λ may ok allowed. told_made s rounds opened r now held (entries false) (record { others = others false; up = refl; last = refl; rose = refl }) free ok allowed later (passes_did w n r (next_of n r) Down c run.next (ap (λ b. b && refutes c.job Down) may) run.sound kept.passes) kept)
    ] refl ok allowed
      where
        answer : Entry
        answer = Did (run_no r) (next_of n r) Down

        entries : Bool → List Entry
        entries b = answer ∷ (if b then Doomed (run_no r) (MustDown (next_of n r)) ∷ [] else [])

        answered : Reading
        answered = entry w n answer

        free : HoldsNone s.grips r
        free = holds_none w s.grips r kept.grips.homed run.act.free

        others : (b : Bool) (q : ℕ) → q ≢ r → (fold (entry w) n (entries b)).run q ≡ n.run q
        others true q other = put_other answered.run r _ q other ∙ put_other n.run r _ q other
        others false q other = put_other n.run r _ q other
