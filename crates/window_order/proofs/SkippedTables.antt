-- The lineage table is kept where a command is skipped by its guard.
use Rattle.window_order.proofs.Prelude.{Access, Acquired, Bool, ChangesEach, Command, CutAt, Did, Down, Grip, Grips, LineageIsKept, LineageState, List, None, OfRun, OnDevice, Option, Reading, Released, Scheduled, Setting, Skipped, Some, TableIsKept, access_read, accesses_along, accesses_read, accesses_without, ap, arith, command_at, commands_of, commits_write, common_steps, did, drop, entry, false, grips_command, grips_undo, if◌then◌else◌, is_command, is_committing, is_doomed, is_none, is_of, is_some, length, list_any, next_of, next_used, not, of_run, option_map, pends, planned_end, planned_start, point, put_other, put_same, refl, released, removed, rest, run_no, run_state, skipped_change, skipped_lineage, stage_is_open, stage_of, stand_at, status_at, status_of, subst, sym, touches, touches_from, true, two_places, unplaced_on, unwrap_or, usage, uses, uses_device, view_when, without_at, ℕ, ◌&&◌, ◌++◌, ◌+◌, ◌-◌, ◌<◌, ◌==◌, ◌||◌, ◌∙◌, ◌∷◌, ◌≡◌, ◌≢◌, ◌≤◌}
use Rattle.window_order.proofs.AccessLists.{SameBut, along_absent, along_but, along_lacks, along_there, any_but, front_accesses, front_but, front_lacks}
use Rattle.window_order.proofs.AnsweredTables.{answered_elsewhere, answered_run, left_after, never_passed, none_commits, uses_now}
use Rattle.window_order.proofs.Goes.{open_behind}
use Rattle.window_order.proofs.ReadFacts.{rest_drop, rest_next, runs_distinct}
use Rattle.window_order.proofs.Runs.{cut_live, live_uncommitted}
use Rattle.window_order.proofs.SkippedCommands.{IsSkipped, skipped_holds, skipped_next, skipped_on}
use Rattle.window_order.proofs.Steps.{next_is}
use Rattle.window_order.proofs.TableFrames.{SameUses, access_by, commits_by, lineage_changed, lineage_same, may_by, put_says, same_committed, same_unplaced, uses_by, write_by}
use Rattle.window_order.proofs.TableSteps.{changed_table}

abbrev is_committed_run : OfRun → Bool
is_committed_run o = unwrap_or (option_map is_committing o.ended) false

module _ (w : Setting) (n : Reading) (g : Grips) (held : ℕ → ℕ) (r : ℕ) (s : IsSkipped w n g held r (command_at w.runs r (next_of n r))) where
  abbrev c : Command
  c = command_at w.runs r (next_of n r)

  abbrev d : ℕ
  d = c.device.0

  abbrev k : ℕ
  k = next_of n r

  abbrev m : Reading
  m = entry w n (Did (run_no r) k Skipped)

  abbrev old : OfRun
  old = n.run r

  abbrev new : OfRun
  new = answered_run w n r k Skipped

  on_d : new.on d ≡ old.on d
  on_d = skipped_on w n r k d

  cut : CutAt r n.line
  cut = cut_live w n r s.read s.live

  more : k < length (commands_of w.runs r)
  more = (next_is (commands_of w.runs r) k c s.next).0

  left : rest (run_state (point w n g) r) ≡ c ∷ drop (k + 1) (commands_of w.runs r)
  left = rest_next (commands_of w.runs r) old.answers more

  self : (x : ℕ) (b : Bool) → ((x == x) || b) ≡ true
  self x b = grind (arith, common_steps)

  -- the run has more to do on the device: this command
  pending : pends w n r d ≡ true
  pending = sym (ap (uses_device d) (rest_drop (commands_of w.runs r) old.answers)) ∙ ap (uses_device d) left ∙ self d (uses_device d (drop (k + 1) (commands_of w.runs r)))

  used : touches w.runs r d ≡ true
  used = next_used (run_state (point w n g) r) c (drop (k + 1) (commands_of w.runs r)) left

  opened : stage_is_open (usage w.kinds (run_state (point w n g) r) d).stage ≡ true
  opened = λ i. stage_is_open (stage_of (live_uncommitted n r s.live i) (is_some (s.sound i)) ((ap (uses_device d) left ∙ self d (uses_device d (drop (k + 1) (commands_of w.runs r)))) i))

  -- no run behind it has touched the device
  back : list_any (of_run (λ q. did n q d)) cut.back ≡ false
  back = open_behind w n g held d r cut s.read s.kept s.device used opened

  same_number : (x y : ℕ) → (x == y) ≡ true → x ≡ y
  same_number x y h = grind (arith, common_steps)

  unheld : grips_command g r d ≡ false
  unheld = by (g d) refl
    where
      by : (o : Option Grip) → g d ≡ o → unwrap_or (option_map (λ p. (p.maker == r) && is_command p.purpose) o) false ≡ false
      by None e = refl
      by (Some grip) e = by_maker (grip.maker == r) refl
        where
          by_maker : (b : Bool) → (grip.maker == r) ≡ b → (b && is_command grip.purpose) ≡ false
          by_maker true mine = absurd (skipped_holds w n g held r c s d grip.purpose (e ∙ (λ i. Some (record { maker = same_number grip.maker r mine i; purpose = grip.purpose }))))
          by_maker false other = refl

  acts : (not (is_doomed n r) || grips_command g r d) ≡ true
  acts = ap (λ o. not (is_some o) || grips_command g r d) s.sound

  left_there : touches_from w.runs r d (length new.answers) ≡ touches_from w.runs r d (k + 1)
  left_there = left_after w n r k Skipped d refl

  uncommitted : is_committed_run old ≡ false
  uncommitted = live_uncommitted n r s.live

  -- the same of the device but for the accesses, where the run still uses it
  same_uses : uses_by w d r new ≡ uses_by w d r old → SameUses w n m g g d
  same_uses still = record {
    line = refl;
    has_one = put_says (uses_by w d) n.run r new still;
    covering = put_says (λ q. commits_by d) n.run r new (λ i. is_committed_run old && is_some (on_d i).wrote);
    write = put_says (λ q. write_by d) n.run r new (λ i. if is_committed_run old then (on_d i).wrote else None);
    unplaced = put_says (λ q o. is_none o.placed) n.run r new refl;
    up = refl;
    may = λ q may. put_says (may_by g d) n.run r new (λ i. is_some old.doomed && not (is_some (on_d i).view || grips_command g r d)) q ∙ may;
  }

  -- a command on the device is left: nothing changes
  stays_there : touches_from w.runs r d (k + 1) ≡ true → (l : LineageState) → LineageIsKept (point w n g) d l → LineageIsKept (point w m g) d l
  stays_there has l kept = lineage_same w n m g g d l
      (same_uses (λ i. (is_some old.placed && is_none old.ended) && touches w.runs r d && not (touches w.runs r d && not (still i) && not (is_some (on_d i).view)))) kept
      (put_says (access_by w g kept.passed d) n.run r new (λ i. record {
        run = run_no r;
        status = if kept.passed r then Released else (if is_some (on_d i).view then (if (not (is_some old.doomed) && still i) || grips_command g r d then Acquired else Released) else Scheduled);
        view = if kept.passed r then Some Down else option_map view_when (on_d i).view;
        wrote = if (on_d i).undid || grips_undo g r d then None else (on_d i).wrote;
        from = planned_start old.planned d;
        to = planned_end old.planned d;
      }))
    where
      still : touches_from w.runs r d (length new.answers) ≡ touches_from w.runs r d (length old.answers)
      still = left_there ∙ has ∙ sym pending

  -- it was the last one, and the run has an access there: that is released
  released_there : touches_from w.runs r d (k + 1) ≡ false → did n r d ≡ true → (l : LineageState) → LineageIsKept (point w n g) d l → LineageIsKept (point w m g) d (released r l)
  released_there gone seen l kept = lineage_changed w n m g g d r (λ x. record x { status = Released }) l (runs_distinct n s.read.once) (same_uses still) kept own (λ q ne. ap (access_by w g kept.passed d q) (put_other n.run r new q ne))
    where
      none_left : touches_from w.runs r d (length new.answers) ≡ false
      none_left = left_there ∙ gone

      seen_then : is_some (new.on d).view ≡ true
      seen_then = ap (λ (o : OnDevice). is_some o.view) on_d ∙ seen

      both : (x t p q v u : Bool) → v ≡ true → u ≡ true → (x && t && not (t && not p && not v)) ≡ (x && t && not (t && not q && not u))
      both x t p q v u e f = grind (arith, common_steps)

      still : uses_by w d r new ≡ uses_by w d r old
      still = both (is_some old.placed && is_none old.ended) (touches w.runs r d) (touches_from w.runs r d (length new.answers)) (touches_from w.runs r d (length old.answers)) (is_some (new.on d).view) (is_some (old.on d).view) seen_then seen

      passed : (b : Bool) → (if b then Released else Released) ≡ Released
      passed true = refl
      passed false = refl

      status : (if kept.passed r then Released else (if is_some (new.on d).view then (if (not (is_some old.doomed) && touches_from w.runs r d (length new.answers)) || grips_command g r d then Acquired else Released) else Scheduled)) ≡ Released
      status = (λ i. if kept.passed r then Released else (if seen_then i then (if (not (is_some (s.sound i)) && none_left i) || unheld i then Acquired else Released) else Scheduled)) ∙ passed (kept.passed r)

      own : access_by w g kept.passed d r (m.run r) ≡ record (access_by w g kept.passed d r old) { status = Released }
      own = ap (access_by w g kept.passed d r) (put_same n.run r new) ∙ (λ i. record {
        run = run_no r;
        status = status i;
        view = if kept.passed r then Some Down else option_map view_when (on_d i).view;
        wrote = if (on_d i).undid || grips_undo g r d then None else (on_d i).wrote;
        from = planned_start old.planned d;
        to = planned_end old.planned d;
      })

  -- it was the last one, and the run has skipped all: its access is gone
  removed_there : touches_from w.runs r d (k + 1) ≡ false → did n r d ≡ false → (l : LineageState) → LineageIsKept (point w n g) d l → LineageIsKept (point w m g) d (removed r l)
  removed_there gone unseen l kept = record {
    passed = kept.passed;
    may_pass = λ q passed. put_says (may_by g d) n.run r new (λ i. is_some old.doomed && not (is_some (on_d i).view || grips_command g r d)) q ∙ kept.may_pass q passed;
    committed = kept.committed ∙ sym (ap (λ o. unwrap_or o (stand_at w.first d).value) (same_committed n m d None n.line (put_says (λ q. write_by d) n.run r new (λ i. if is_committed_run old then (on_d i).wrote else None))));
    accesses = before ∙ sym after;
    room = subst (λ x. x ≤ (removed r l).room) (sym (same_unplaced n m d 1 w.runs (put_says (λ q o. is_none o.placed) n.run r new refl))) (at_least (unplaced_on w n d) l.room (length l.accesses - length (accesses_without r l.accesses)) kept.room);
    up = kept.up;
  }
    where
      p : ℕ → Bool
      p = uses w n d

      v : ℕ → Bool
      v = commits_write n d

      f : ℕ → Access
      f = access_read (point w n g) kept.passed d

      h : ℕ → Access
      h = access_read (point w m g) kept.passed d

      front : List Access
      front = front_accesses p v f false cut.front

      behind : List Access
      behind = accesses_along p v f cut.back

      others : SameBut r p (uses w m d) v (commits_write m d) f h
      others = record {
        has_one = λ x ne. ap (uses_by w d x) (put_other n.run r new x ne);
        covering = λ x ne. ap (commits_by d) (put_other n.run r new x ne);
        access = λ x ne. ap (access_by w g kept.passed d x) (put_other n.run r new x ne);
      }

      at_least : (a b e : ℕ) → a ≤ b → a ≤ b + e
      at_least a b e q = omega (arith, q)

      none_covers : list_any (of_run v) cut.back ≡ false
      none_covers = none_commits w n d cut.back s.read back

      uncovering : v r ≡ false
      uncovering = λ i. uncommitted i && is_some (old.on d).wrote

      own_access : is_of r (f r) ≡ true
      own_access = equal r
        where
          equal : (x : ℕ) → (x == x) ≡ true
          equal x = grind (arith, common_steps)

      before : accesses_without r l.accesses ≡ front ++ behind
      before =
          ap (accesses_without r) (kept.accesses ∙ ap (accesses_read (point w n g) kept.passed d) cut.at ∙ along_there p v f r cut.front cut.back (uses_now w n d r s.read s.live pending) uncovering none_covers)
          ∙ without_at r front (f r) behind (front_lacks p v f false r cut.front (λ x. refl) cut.before) (along_lacks p v f r cut.back (λ x. refl) cut.behind) own_access

      all_gone : (x t q u : Bool) → q ≡ false → u ≡ false → (x && t && not (t && not q && not u)) ≡ false
      all_gone x t q u e j = grind (arith, common_steps)

      unused : uses w m d r ≡ false
      unused = ap (uses_by w d r) (put_same n.run r new) ∙ all_gone (is_some old.placed && is_none old.ended) (touches w.runs r d) (touches_from w.runs r d (length new.answers)) (is_some (new.on d).view) (left_there ∙ gone) (ap (λ (o : OnDevice). is_some o.view) on_d ∙ unseen)

      uncovering_then : commits_write m d r ≡ false
      uncovering_then = ap (commits_by d) (put_same n.run r new) ∙ (λ i. uncommitted i && is_some (new.on d).wrote)

      after : accesses_read (point w m g) kept.passed d n.line ≡ front ++ behind
      after =
          ap (accesses_read (point w m g) kept.passed d) cut.at
          ∙ along_absent (uses w m d) (commits_write m d) h r cut.front cut.back unused
          ∙ (λ i. front_accesses (uses w m d) (commits_write m d) h (uncovering_then i || (any_but r v (commits_write m d) cut.back others.covering cut.behind ∙ none_covers) i) cut.front ++ along_but r p (uses w m d) v (commits_write m d) f h cut.back others cut.behind i)
          ∙ ap (λ xs. xs ++ behind) (front_but r p (uses w m d) v (commits_write m d) f h false cut.front others cut.before)

  -- before it the run's access is acquired where it has one, and else waits
  status_now : (l : LineageState) → LineageIsKept (point w n g) d l → status_of r l.accesses ≡ Some (if did n r d then Acquired else Scheduled)
  status_now l kept =
      ap (status_of r) (kept.accesses ∙ ap (accesses_read (point w n g) kept.passed d) cut.at
      ∙ along_there (uses w n d) (commits_write n d) (access_read (point w n g) kept.passed d) r cut.front cut.back (uses_now w n d r s.read s.live pending) (λ i. uncommitted i && is_some (old.on d).wrote) (none_commits w n d cut.back s.read back))
      ∙ status_at r (front_accesses (uses w n d) (commits_write n d) (access_read (point w n g) kept.passed d) false cut.front) (access_read (point w n g) kept.passed d r)
      (accesses_along (uses w n d) (commits_write n d) (access_read (point w n g) kept.passed d) cut.back)
      (front_lacks (uses w n d) (commits_write n d) (access_read (point w n g) kept.passed d) false r cut.front (λ x. refl) cut.before) (equal r)
      ∙ (λ i. Some (if never_passed n g d r kept.passed kept.may_pass acts i then Released else (if did n r d then (if (not (is_some (s.sound i)) && pending i) || grips_command g r d then Acquired else Released) else Scheduled)))
    where
      equal : (x : ℕ) → (x == x) ≡ true
      equal x = grind (arith, common_steps)

  -- on its device
  skipped_there : (l : LineageState) → LineageIsKept (point w n g) d l → LineageIsKept (point w m g) d (skipped_lineage w n r k l)
  skipped_there l kept = by_rest (touches_from w.runs r d (k + 1)) refl
    where
      by_view : touches_from w.runs r d (k + 1) ≡ false → (b : Bool) → did n r d ≡ b → LineageIsKept (point w m g) d (if b then released r l else removed r l)
      by_view gone true seen = released_there gone seen l kept
      by_view gone false unseen = removed_there gone unseen l kept

      by_rest : (b : Bool) → touches_from w.runs r d (k + 1) ≡ b → LineageIsKept (point w m g) d (if b then l else (if did n r d then released r l else removed r l))
      by_rest true has = stays_there has l kept
      by_rest false gone = by_view gone (did n r d) refl

  -- on each device
  skipped_each : (e : ℕ) (l : LineageState) → LineageIsKept (point w n g) e l → LineageIsKept (point w m g) e (skipped_change w n r k e l)
  skipped_each e l = two_places (λ x. LineageIsKept (point w n g) x l → LineageIsKept (point w m g) x (skipped_change w n r k x l)) e d
      (λ kept. subst (LineageIsKept (point w m g) d) (λ i. if sym (equal d) i then skipped_lineage w n r k l else l) (skipped_there l kept))
      (λ ne kept. subst (LineageIsKept (point w m g) e) (λ i. if sym (differ e d ne) i then skipped_lineage w n r k l else l) (answered_elsewhere w n g g r k Skipped e l refl more ne (λ q. record { command = refl; undo = refl }) kept))
    where
      equal : (x : ℕ) → (x == x) ≡ true
      equal x = grind (arith, common_steps)

      differ : (x y : ℕ) → x ≢ y → (x == y) ≡ false
      differ x y h = grind (arith, common_steps)

-- a skipped command leaves the lineages as its device's change says
pub skipped_table : (w : Setting) (n : Reading) (g : Grips) (held : ℕ → ℕ) (r : ℕ) (c : Command) (old new : List LineageState) → IsSkipped w n g held r c → ChangesEach (skipped_change w n r (next_of n r)) old new → TableIsKept (point w n g) old
    → TableIsKept (point w (entry w n (Did (run_no r) (next_of n r) Skipped)) g) new
skipped_table w n g held r c old new s changes kept =
    changed_table w n (entry w n (Did (run_no r) (next_of n r) Skipped)) g g (skipped_change w n r (next_of n r)) old new (skipped_each w n g held r (skipped_next w n g held r c s)) changes kept

-- what the calls for it ask: the run's access is acquired where it has one on the device, and else waits
pub skipped_status : (w : Setting) (n : Reading) (g : Grips) (held : ℕ → ℕ) (r : ℕ) (l : LineageState) → IsSkipped w n g held r (command_at w.runs r (next_of n r)) → LineageIsKept (point w n g) (command_at w.runs r (next_of n r)).device.0 l
    → status_of r l.accesses ≡ Some (if did n r (command_at w.runs r (next_of n r)).device.0 then Acquired else Scheduled)
skipped_status w n g held r l s kept = status_now w n g held r s l kept
