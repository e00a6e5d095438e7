-- A step that is elsewhere leaves what a run at a command does as it was, at every moment.
use Rattle.hub_core.proofs.Prelude.{Absent, Arrived, Bool, Choice, Command, Commands, Configuration, Doomed, EndNoWait, Entry, Grips, HandsOut, IsBlocked, IsElsewhere, IsShaped, IsWellFormed, Kept, List, Moves, None, OfRun, Option, Over, Placed, PlacedAt, Point, Reading, Revoked, Setting, Shaped, Some, Waits, [], along, along_on, ap, arith, behind_case, busy_case, command_cases, commands_of, common_steps, decide, decide_answered, decide_arrived, decide_command, decide_doomed, device_no, did_touches, dirty_case, down_case, down_entries, effect_is, effective_write, entries_of, entry, estimate_to_last, false, find, first_case, fold, greatest, grip_wait, has_effect, holds, holds_device, if◌then◌else◌, inl, inr, is_doomed, is_live, is_none, is_overdue, is_run, is_some, is_wait, is_weak, last_some, lease_deadline, length, live_before, map-append, map_some, max, may_follow, min, nat_lt, next_command, next_device, next_of, none_is, none_there, not, nothing_read, only_if, option_map, overdue_case, pends, pends_touches, planned_end, point, point_of, read_of, reading, reading_on, reads, refl, run_no, sees_down, shapes, skip_entries, slice_get, stamp_of, standing, strict_case, subst, sym, tenth_up, touches, true, unwrap_or, ℕ, ◌&&◌, ◌++◌, ◌+◌, ◌==◌, ◌||◌, ◌∙◌, ◌∷◌, ◌≡◌}
use Rattle.hub_core.proofs.waiting.QuietEntries.{IsNextOn, SameFor, SameRun, last_placing_ends_no_wait, none_behind, quiet_along, write_same}
use Rattle.hub_core.specs.declared.waits.Why.TheVariants.{Behind, Busy, Dirty, Strict}
use Rattle.hub_core.proofs.waiting.NearRuns.{found_same, seen_same}
use Rattle.hub_core.proofs.steps.GiveCauses.{next_pends}

-- Words on the device

-- the effective write is the same, where the grip of the device is
effect_same : (w : Setting) (n m : Reading) (g h : Grips) (r d : ℕ) → SameFor w n m r d → h d ≡ g d → effective_write m h d ≡ effective_write n g d
effect_same w n m g h r d same held = (λ i. last_some (λ y. write_same m m g h d y (λ q. refl) held i) m.line) ∙ same.write g

effects : (w : Setting) (n m : Reading) (g h : Grips) (r d : ℕ) → SameFor w n m r d → h d ≡ g d → (x : ℕ) → has_effect m h x d ≡ has_effect n g x d
effects w n m g h r d same held x = λ i. unwrap_or (option_map (λ y. y == x) (option_map (λ e. e.run) (effect_same w n m g h r d same held i))) false

holds_same : (w : Setting) (n m : Reading) (g h : Grips) (r d : ℕ) → SameFor w n m r d → h d ≡ g d → (x : ℕ) → SameRun w d x (n.run x) (m.run x) → holds_device (point w m h) x d ≡ holds_device (point w n g) x d
holds_same w n m g h r d same held x run = λ i. (is_some (run.placed i) && is_none (run.ended i)) && (if is_some (run.doomed i) then touches w.runs x d && effects w n m g h r d same held x i else run.pending i)

-- each of them is of runs that use the device
effect_on : (w : Setting) (n : Reading) (g : Grips) (x d : ℕ) → Shaped w n → has_effect n g x d ≡ true → touches w.runs x d ≡ true
effect_on w n g x d shaped has = did_touches w n x d shaped ((shaped x).wrote d (effect_is n g x d has).0)

holding_on : (w : Setting) (n : Reading) (g : Grips) (x d : ℕ) → holds_device (point w n g) x d ≡ true → touches w.runs x d ≡ true
holding_on w n g x d holds = by_doom (is_doomed n x) holds
  where
    by_doom : (b : Bool) → (is_live n x && (if b then touches w.runs x d && has_effect n g x d else pends w n x d)) ≡ true → touches w.runs x d ≡ true
    by_doom true holds = grind (arith, common_steps)
    by_doom false holds = pends_touches w n x d (grind (arith, common_steps))

overdue_on : (w : Setting) (n : Reading) (g : Grips) (r d t x : ℕ) → is_overdue (point w n g) r d t x ≡ true → touches w.runs x d ≡ true
overdue_on w n g r d t x overdue = holding_on w n g x d (grind (arith, common_steps))

-- The cases of a command

-- the run is told the same of its next command
command_same : (w : Setting) (n m : Reading) (g h : Grips) (r t k : ℕ) (c : Command) → Shaped w n → Shaped w m → SameFor w n m r c.device.0 → h c.device.0 ≡ g c.device.0 → decide_command (point w m h) r t k c ≡ decide_command (point w n g) r t k c
command_same w n m g h r t k c shaped then' same held = λ i. if holds c.when (same.own i).register then by_model (is_weak w.mode) i else first_case (strict i ∷ []) (Moves (skip_entries r k))
  where
    d : ℕ
    d = c.device.0

    holding : (x : ℕ) → SameRun w d x (n.run x) (m.run x) → holds_device (point w m h) x d ≡ holds_device (point w n g) x d
    holding = holds_same w n m g h r d same held

    deadline : (x : ℕ) → SameRun w d x (n.run x) (m.run x) → lease_deadline w m x d ≡ lease_deadline w n x d
    deadline x run = λ i. min (planned_end (run.planned i) d + tenth_up (estimate_to_last d (commands_of w.runs x))) greatest

    stamp : stamp_of m r ≡ stamp_of n r
    stamp = λ i. unwrap_or (option_map (λ p. p.stamp) (same.own i).placed) 0

    later : (x : ℕ) → SameRun w d x (n.run x) (m.run x) → stamp_of m x ≡ stamp_of n x
    later x run = λ i. unwrap_or (option_map (λ p. p.stamp) (run.placed i)) 0

    revokes : Reading → ℕ → Choice
    revokes u x = Moves (Doomed (run_no x) (Revoked (run_no r) c.device (lease_deadline w u x d) t) ∷ [])

    falls_due : (x : ℕ) → SameRun w d x (n.run x) (m.run x) → (is_overdue (point w m h) r d t x ≡ is_overdue (point w n g) r d t x) × (revokes m x ≡ revokes n x)
    falls_due x run = (
      λ i. not (is_some (run.doomed i)) && nat_lt (stamp i) (later x run i) && holding x run i && nat_lt (deadline x run i) t,
      λ i. Moves (Doomed (run_no x) (Revoked (run_no r) c.device (deadline x run i) t) ∷ []),
    )

    overdue : overdue_case (point w m h) r t c ≡ overdue_case (point w n g) r t c
    overdue = seen_same w n m r d (is_overdue (point w m h) r d t) (is_overdue (point w n g) r d t) (revokes m) (revokes n) same.near (overdue_on w m h r d t) (overdue_on w n g r d t) (λ x live on. falls_due x (same.runs x live on))

    behind : behind_case (point w m h) r c ≡ behind_case (point w n g) r c
    behind = ap (option_map (λ x. Waits (Behind c.device (run_no x))))
        (found_same w n m r d (λ x. holds_device (point w m h) x d) (λ x. holds_device (point w n g) x d) same.near (λ x. holding_on w m h x d) (λ x. holding_on w n g x d) (λ x live on. holding x (same.runs x live on)))

    writer : find (λ x. has_effect m h x d) (live_before m r) ≡ find (λ x. has_effect n g x d) (live_before n r)
    writer = found_same w n m r d (λ x. has_effect m h x d) (λ x. has_effect n g x d) same.near (λ x. effect_on w m h x d then') (λ x. effect_on w n g x d shaped) (λ x live on. effects w n m g h r d same held x)

    down : sees_down m r d ≡ sees_down n r d
    down = λ i. unwrap_or (option_map not ((same.own i).on d).view) false

    dirty : dirty_case (point w m h) r c ≡ dirty_case (point w n g) r c
    dirty = λ i. option_map (λ x. Waits (Dirty c.device (run_no x))) (if reads c.job && not (down i) && not (is_some ((same.own i).on d).wrote) then writer i else None)

    strict : strict_case (point w m h) r ≡ strict_case (point w n g) r
    strict = ap (option_map (λ x. Waits (Strict (run_no x)))) same.strict

    busy : busy_case (point w m h) r c ≡ busy_case (point w n g) r c
    busy = λ i. only_if ((is_weak w.mode || not (down i)) && is_some (held i)) (Waits (Busy c.device))

    downs : down_case (point w m h) r k c ≡ down_case (point w n g) r k c
    downs = λ i. only_if ((not (is_weak w.mode) && down i) || not (same.up i)) (Moves (down_entries r k c))

    by_model : (b : Bool) → first_case (command_cases b (point w m h) r t k c) (HandsOut c.device.0 (Commands k)) ≡ first_case (command_cases b (point w n g) r t k c) (HandsOut c.device.0 (Commands k))
    by_model true = λ i. first_case (busy i ∷ downs i ∷ []) (HandsOut c.device.0 (Commands k))
    by_model false = λ i. first_case (overdue i ∷ behind i ∷ dirty i ∷ strict i ∷ busy i ∷ downs i ∷ []) (HandsOut c.device.0 (Commands k))

-- The step of a run at a command

-- the run is live and not doomed, and this is its next command, by its record
record IsAt (w : Setting) (r : ℕ) (o : OfRun) (c : Command) : Type 0 where
  run : is_run w.runs r ≡ true
  ended : o.ended ≡ None
  came : is_none o.arrived ≡ false
  placed : is_none o.placed ≡ false
  doomed : o.doomed ≡ None
  next : slice_get (commands_of w.runs r) (length o.answers) ≡ Some c

-- its step is that of the command
at_command : (w : Setting) (n : Reading) (g : Grips) (r t : ℕ) (c : Command) → IsAt w r (n.run r) c → grip_wait w g r ≡ None → decide (point w n g) r t ≡ decide_command (point w n g) r t (next_of n r) c
at_command w n g r t c at free = λ i. first_case (only_if (not (at.run i)) Absent
    ∷ option_map (λ e. Over e []) (at.ended i)
    ∷ option_map (λ d. Waits (Busy (device_no d))) (free i)
    ∷ only_if (at.came i) (Moves (Arrived (run_no r) t ∷ []))
    ∷ only_if (at.placed i) (decide_arrived (point w n g) r t)
    ∷ option_map (decide_doomed (point w n g) r) (at.doomed i)
    ∷ option_map (decide_command (point w n g) r t (next_of n r)) (at.next i) ∷ []) (decide_answered (point w n g) r)

-- what a run at a command does is the same where a reading tells it the same, and it holds no grip
decide_same : (w : Setting) (n m : Reading) (g h : Grips) (r t : ℕ) (c : Command) → Shaped w n → Shaped w m → IsAt w r (n.run r) c → SameFor w n m r c.device.0 → h c.device.0 ≡ g c.device.0 → grip_wait w g r ≡ None → grip_wait w h r ≡ None
    → decide (point w m h) r t ≡ decide (point w n g) r t
decide_same w n m g h r t c shaped then' at same held free still =
    at_command w m h r t c (subst (λ o. IsAt w r o c) (sym same.own) at) still
    ∙ command_same w n m g h r t (next_of m r) c shaped then' same held
    ∙ ap (λ (o : OfRun). decide_command (point w n g) r t (length o.answers) c) same.own
    ∙ sym (at_command w n g r t c at free)

-- The run of a configuration

-- the run is at its next command, which is on the device
record IsAtOn (p : Point) (r d : ℕ) : Type 0 where
  command : Command
  at : IsAt p.setting r (p.reading.run r) command
  there : command.device.0 ≡ d
  free : grip_wait p.setting p.grips r ≡ None

-- by the parts of the configuration
abbrev device_by : Point → ℕ → Option ℕ
device_by p r = if is_live p.reading r && not (is_doomed p.reading r) && is_none (grip_wait p.setting p.grips r) then option_map (λ c. c.device.0) (next_command p.setting p.reading r) else None

at_on : (w : Setting) (n : Reading) (g : Grips) (r d : ℕ) → IsShaped w r (n.run r) → device_by (point w n g) r ≡ Some d → IsAtOn (point w n g) r d
at_on w n g r d shape at = by_test (is_live n r && not (is_doomed n r) && is_none (grip_wait w g r)) refl at
  where
    found : (is_live n r && not (is_doomed n r) && is_none (grip_wait w g r)) ≡ true → option_map (λ c. c.device.0) (next_command w n r) ≡ Some d → IsAtOn (point w n g) r d
    found is next =
        let placed : is_some (n.run r).placed ≡ true = grind (arith, common_steps) in
        let came : is_some (n.run r).arrived ≡ true = shape.arrived placed in
        let command = map_some (λ c. c.device.0) (next_command w n r) d next in
        record {
          command = command.0;
          at = record {
            run = shape.known came;
            ended = none_is (n.run r).ended (grind (arith, common_steps));
            came = grind (arith, common_steps);
            placed = grind (arith, common_steps);
            doomed = none_there (n.run r).doomed (grind (arith, common_steps));
            next = command.1;
          };
          there = command.2;
          free = none_is (grip_wait w g r) (grind (arith, common_steps));
        }

    by_test : (b : Bool) → (is_live n r && not (is_doomed n r) && is_none (grip_wait w g r)) ≡ b → (if b then option_map (λ c. c.device.0) (next_command w n r) else None) ≡ Some d → IsAtOn (point w n g) r d
    by_test true is next = found is next
    by_test false is next = absurd (cc)

-- a step that is elsewhere leaves to a run at a command its device, and what it does at each moment
pub other_device : (s t : Configuration) (made : List Kept) (r d : ℕ) → IsWellFormed t.setting (entries_of t.history) → IsElsewhere s t made r d → next_device s r ≡ Some d
    → (next_device t r ≡ Some d) × ((m : ℕ) → decide (point_of t) r m ≡ decide (point_of s) r m)
other_device s t made r d well elsewhere at = (device, decides)
  where
    w : Setting
    w = s.setting

    n : Reading
    n = read_of s

    es : List Entry
    es = entries_of made

    m : Reading
    m = fold (entry w) n es

    entries : entries_of t.history ≡ entries_of s.history ++ es
    entries = ap entries_of elsewhere.history ∙ map-append (λ k. k.entry) s.history made

    read : read_of t ≡ m
    read = (λ i. reading (elsewhere.setting i) (entries i)) ∙ reading_on w (entries_of s.history) es

    follow : (along w (may_follow w) (nothing_read w) (entries_of s.history) && along w (may_follow w) n es) ≡ true
    follow = sym (along_on w (may_follow w) (nothing_read w) (entries_of s.history) es) ∙ subst (λ h. IsWellFormed w h) entries (subst (λ v. IsWellFormed v (entries_of t.history)) elsewhere.setting well)

    parts : (along w (may_follow w) (nothing_read w) (entries_of s.history) ≡ true) × (along w (may_follow w) n es ≡ true)
    parts = let both : (along w (may_follow w) (nothing_read w) (entries_of s.history) && along w (may_follow w) n es) ≡ true = follow in (grind (arith, common_steps), grind (arith, common_steps))

    shaped : Shaped w n
    shaped = shapes w (entries_of s.history) parts.0

    found : IsAtOn (point w n s.grips) r d
    found = at_on w n s.grips r d (shaped r) at

    next : IsNextOn w r d (n.run r)
    next = record {
      came = found.at.came;
      live = (λ i. is_some (n.run r).placed && is_none (found.at.ended i)) ∙ some_placed (n.run r).placed found.at.placed;
      sound = ap is_some found.at.doomed;
      on = subst (λ e. touches w.runs r e ≡ true) found.there (pends_touches w n r found.command.device.0 (next_pends w n r found.command found.at.next));
      next = ap (option_map (λ c. c.device.0)) found.at.next ∙ ap Some found.there;
    }
      where
        some_placed : (o : Option PlacedAt) → is_none o ≡ false → (is_some o && true) ≡ true
        some_placed None none = absurd (cc)
        some_placed (Some p) none = refl

    -- the entries end no wait
    entries_same : EndNoWait w (read_of t) d es → SameFor w n m r d
    entries_same (inr quiet) = quiet_along w n r d es shaped parts.1 quiet next
    entries_same (inl placed) =
        let follows : may_follow w n (Placed placed.run placed.place placed.moment) ≡ true = let both : along w (may_follow w) n (Placed placed.run placed.place placed.moment ∷ []) ≡ true = sym (ap (along w (may_follow w) n) placed.only) ∙ parts.1 in grind (arith, common_steps) in
        let now : m ≡ entry w n (Placed placed.run placed.place placed.moment) = ap (fold (entry w) n) placed.only in
        let last : length (entry w n (Placed placed.run placed.place placed.moment)).line ≡ placed.place + 1 = ap (λ (u : Reading). length u.line) (sym (read ∙ now)) ∙ placed.last in
        subst (λ u. SameFor w n u r d) (sym now)
        (last_placing_ends_no_wait w n r d placed.run placed.place placed.moment shaped follows next (standing w (entries_of s.history) parts.0) (none_behind w n placed.run placed.place placed.moment last))

    same : SameFor w n m r d
    same = entries_same elsewhere.quiet

    after : Shaped w m
    after = subst (Shaped w) (reading_on w (entries_of s.history) es) (shapes w (entries_of s.history ++ es) (subst (λ h. IsWellFormed w h) entries (subst (λ v. IsWellFormed v (entries_of t.history)) elsewhere.setting well)))

    steps : (k : ℕ) → decide (point w m t.grips) r k ≡ decide (point w n s.grips) r k
    steps k = decide_same w n m s.grips t.grips r k found.command shaped after found.at (subst (SameFor w n m r) (sym found.there) same) (subst (λ e. t.grips e ≡ s.grips e) (sym found.there) elsewhere.held) found.free elsewhere.free

    decides : (k : ℕ) → decide (point_of t) r k ≡ decide (point_of s) r k
    decides k = (λ i. decide (point (elsewhere.setting i) (read i) t.grips) r k) ∙ steps k

    unheld : grip_wait w t.grips r ≡ grip_wait w s.grips r
    unheld = elsewhere.free ∙ sym found.free

    device : next_device t r ≡ Some d
    device =
        (λ i. device_by (point (elsewhere.setting i) (read i) t.grips) r)
        ∙ (λ i. if (is_some (same.own i).placed && is_none (same.own i).ended) && not (is_some (same.own i).doomed) && is_none (unheld i) then option_map (λ c. c.device.0) (slice_get (commands_of w.runs r) (length (same.own i).answers)) else None)
        ∙ at

-- so a run that is blocked stays so, at the same device
pub stays_blocked : (s t : Configuration) (made : List Kept) (r d : ℕ) → IsWellFormed t.setting (entries_of t.history) → IsElsewhere s t made r d → next_device s r ≡ Some d → IsBlocked s r → IsBlocked t r × (next_device t r ≡ Some d)
stays_blocked s t made r d well elsewhere at blocked = (
  record {
    run = subst (λ v. is_run v.runs r ≡ true) (sym elsewhere.setting) blocked.run;
    free = subst (λ v. grip_wait v t.grips r ≡ None) (sym elsewhere.setting) elsewhere.free;
    waits = λ m. ap is_wait (same.1 (max t.moment m) ∙ ap (decide (point_of s) r) (later m)) ∙ blocked.waits (max t.moment m);
  },
  same.0,
)
  where
    same : (next_device t r ≡ Some d) × ((m : ℕ) → decide (point_of t) r m ≡ decide (point_of s) r m)
    same = other_device s t made r d well elsewhere at

    later : (m : ℕ) → max t.moment m ≡ max s.moment (max t.moment m)
    later m = omega (arith, elsewhere.moment)
