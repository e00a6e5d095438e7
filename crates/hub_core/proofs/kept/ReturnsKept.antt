-- What is kept of a hub's configuration stays so with each device that comes home, from a run or from the detector.
use Rattle.hub_core.proofs.Prelude.{Bool, Cause, Command, Commands, Configuration, ConfigurationIsKept, Did, Died, Doomed, Down, Entry, Fell, Fine, Found, Grip, Grips, HistoryIsKept, IsRead, IsTrue, List, Lost, MayBeOut, MustDown, None, Option, Probes, Purpose, ReadIsOut, Reading, Refuted, Rose, Sensed, Setting, Some, Told, Undid, Undoes, Worked, [], abort_is_justified, after_give, along, and_parts, answer_told, ap, append-nil, append_assoc, ap₂, arith, asked_up, asks_on, both, both_ways, called_unseen, called_up, command_at, command_entries, common_steps, device_no, did, died_doomed_kept, died_kept, driven, entries_of, entry, fails, false, finds_clean, fold, found_kept, give_entries, has_effect, has_value, has_written, holds, if◌then◌else◌, is_device, is_doomed, is_live, is_of_run, is_on, is_probed, is_run, is_some, is_weak, keeps_leases, kept_by, kind_at, list_any, live_before, lost_by, may_follow, moment_of, next_command, next_of, no_grips, none_dirty, not, not-true, option_map, option_to_list, point, probe_died_doomed_kept, probe_died_kept, probe_entries, probe_missed_kept, probe_worked_kept, probes_of, put, put_keeps, put_other, put_same, read_facts, read_of, reads, refl, refuted_kept, refutes, restarted_kept, restored_down, run_no, run_positive, sees_down, shapes, shows, subst, suc, suits, sym, true, undo_died_kept, undo_fits, undo_up, undone_kept, unwrap_or, wrote_kept, ℕ, ⊤, ◌&&◌, ◌++◌, ◌+◌, ◌==◌, ◌||◌, ◌∙◌, ◌∷◌, ◌≡◌, ◌≢◌, ◌≤◌}
use Rattle.hub_core.proofs.kept.EventsKept.{fell_may, rose_may}
use Rattle.hub_core.proofs.kept.HistoryKept.{MayAdd, added, answer_may, doom_may, first_less, history_added, less_one, same_grips, serves_strict, turn_less, undo_may}
use Rattle.hub_core.proofs.kept.Kept.{first_follows, history_same, kept_after, out_less, probes_home}
use Rattle.hub_core.proofs.steps.Afters.{read_with}
use Rattle.hub_core.proofs.steps.Causes.{and_is, and_three}
use Rattle.hub_core.proofs.steps.GiveCauses.{command_back_shows, probe_shows}
use Rattle.hub_core.proofs.steps.Gives.{MayUndo, command_back_follows, probe_back_follows, undo_back_follows}
use Rattle.hub_core.proofs.steps.Takes.{command_is, live_run}
use Rattle.legal_days.specs.CleanReads.{answer_is_clean, clean_value, entry_is_clean}
use Rattle.window_order.specs.OrderKept.{OrderIsKept}

-- A device comes home

-- the command for which a device is out is the next one of a live run
pub record IsOut (w : Setting) (n : Reading) (r k d : ℕ) (c : Command) : Type 0 where
  pub live : is_live n r ≡ true
  pub number : k ≡ next_of n r
  pub next : next_command w n r ≡ Some c
  pub on : c.device.0 ≡ d
  pub guard : holds c.when (n.run r).register ≡ true

pub out_is : (w : Setting) (n : Reading) (g : Grips) (r k d : ℕ) → MayBeOut (point w n g) → g d ≡ Some (record { maker = r; purpose = Commands k }) → (c : Command) × IsOut w n r k d c
out_is w n g r k d may out = by_next (next_command w n r) refl (grind (arith, common_steps, known))
  where
    known : IsTrue (is_live n r && asks_on w n r d && (k == next_of n r))
    known = may.commands d r k out

    by_next : (o : Option Command) → next_command w n r ≡ o → unwrap_or (option_map (λ c. is_on d c && holds c.when (n.run r).register) o) false ≡ true → (c : Command) × IsOut w n r k d c
    by_next None e f = absurd (cc)
    by_next (Some c) e f = (c, record { live = grind (arith, common_steps, known); number = grind (arith, common_steps, known); next = e; on = grind (arith, common_steps); guard = grind (arith, common_steps) })

-- what a device brings that comes home and stands at the value v: a write has worked that drove it there, or a read found that it stands there, as before; an undo drove it there; a probe found it as it was, or drove it there.
-- where a call died nothing is known of where it stands
abbrev pub BringsFor : Configuration → (ℕ → ℕ) → ℕ → ℕ → ℕ → Purpose → Told → Type 0
BringsFor s held r d v (Commands k) Worked = (reads (command_at s.setting.runs r k).job ≡ false) × (v ≡ driven (kind_at s.setting.kinds d) (command_at s.setting.runs r k).job ((read_of s).run r).register)
BringsFor s held r d v (Commands k) (Sensed x) = (reads (command_at s.setting.runs r k).job ≡ true) × (x ≡ v) × (v ≡ held d)
BringsFor s held r d v (Commands k) Died = ⊤
BringsFor s held r d v (Undoes u) Worked = v ≡ u
BringsFor s held r d v (Undoes u) (Sensed x) = v ≡ u
BringsFor s held r d v (Undoes u) Died = ⊤
BringsFor s held r d v (Probes None) Worked = v ≡ held d
BringsFor s held r d v (Probes None) (Sensed x) = v ≡ held d
BringsFor s held r d v (Probes None) Died = ⊤
BringsFor s held r d v (Probes (Some u)) Worked = v ≡ u
BringsFor s held r d v (Probes (Some u)) (Sensed x) = v ≡ u
BringsFor s held r d v (Probes (Some u)) Died = ⊤

abbrev pub Brings : Configuration → (ℕ → ℕ) → ℕ → ℕ → Grip → Told → Type 0
Brings s held d v grip told = BringsFor s held grip.maker d v grip.purpose told

put_own : (f : ℕ → ℕ) (d v : ℕ) → v ≡ f d → put f d v ≡ f
put_own f d v own = λ i e. put_keeps (λ x. x) f d v own e i

-- The configuration with the device at home, at this moment, and these entries

abbrev home_with : Configuration → ℕ → ℕ → ℕ → List Entry → Configuration
home_with s maker d m entries = record s { history = s.history ++ kept_by maker entries; moment = m; grips = put s.grips d None }

comes_home : (s : Configuration) (rounds opened maker d m : ℕ) (held after : ℕ → ℕ) (entries : List Entry) → HistoryIsKept (home_with s maker d m entries) → ((e : ℕ) → probes_of (home_with s maker d m entries) e ≤ probes_of s e)
    → OrderIsKept (point s.setting (fold (entry s.setting) (read_of s) entries) (put s.grips d None)) after → ConfigurationIsKept s rounds opened held → ConfigurationIsKept (home_with s maker d m entries) rounds opened after
comes_home s rounds opened maker d m held after entries history fewer order kept =
    kept_after s rounds opened held after (s.history ++ kept_by maker entries) m (put s.grips d None) history fewer
    (out_less s.grips (λ e q. undo_fits (kind_at s.setting.kinds e) q.purpose) d kept.undos)
    (subst (λ n. OrderIsKept (point s.setting n (put s.grips d None)) after) (sym (read_with s maker entries)) order) kept

-- an entry comes first, and then these
first_then : (s : Configuration) (maker m : ℕ) (g : Grips) (e : Entry) (more : List Entry)
    → HistoryIsKept (record s { history = (s.history ++ kept_by maker (e ∷ [])) ++ kept_by maker more; moment = m; grips = g })
    → HistoryIsKept (record s { history = s.history ++ kept_by maker (e ∷ more); moment = m; grips = g })
first_then s maker m g e more kept = subst (λ h. HistoryIsKept (record s { history = h; moment = m; grips = g })) (append_assoc s.history (kept_by maker (e ∷ [])) (kept_by maker more)) kept

-- what tests say along three entries, or two
each_of : (a b c : Bool) → (a && (b && c)) ≡ true → (a ≡ true) × (b ≡ true) × (c ≡ true)
each_of a b c h = let first = both a (b && c) h in let rest = both b c first.1 in (first.0, rest.0, rest.1)

-- no entry comes
no_news : (s : Configuration) (maker d m : ℕ) → (read_of s).moment ≤ m → HistoryIsKept s → HistoryIsKept (home_with s maker d m [])
no_news s maker d m later kept =
    subst (λ h. HistoryIsKept (record s { history = h; moment = m; grips = put s.grips d None })) (sym (append-nil s.history))
    (history_same s m (put s.grips d None) later
    (turn_less s.setting (read_of s) (read_of s) s.grips (put s.grips d None) (λ q now. refl) (λ q now. now) (λ q e. refl) (less_one s.grips d) kept.in_turn)
    (first_less (read_of s) (read_of s) s.grips (put s.grips d None) (λ q. refl) (less_one s.grips d) kept.first) kept)

-- A command comes back

record Returns (s : Configuration) (r k d : ℕ) (c : Command) : Type 0 where
  out : s.grips d ≡ Some (record { maker = r; purpose = Commands k })
  known : IsOut s.setting (read_of s) r k d c
  same : command_at s.setting.runs r k ≡ c
  run : is_run s.setting.runs r ≡ true
  first : ((read_of s).run r).answered_doomed ≡ false
  alone : (e : ℕ) (p : Purpose) → s.grips e ≡ Some (record { maker = r; purpose = p }) → e ≡ d
  read : IsRead s.setting (read_of s)

returns : (s : Configuration) (rounds opened : ℕ) (held : ℕ → ℕ) (r k d : ℕ) → s.grips d ≡ Some (record { maker = r; purpose = Commands k }) → ConfigurationIsKept s rounds opened held → (c : Command) × Returns s r k d c
returns s rounds opened held r k d out kept =
    let known : (c : Command) × IsOut w n r k d c = out_is w n s.grips r k d kept.order.grips.runs out in
    let run : is_run w.runs r ≡ true = live_run w n r (shapes w (entries_of s.history) kept.history.well_formed) known.1.live in (
      known.0,
      record {
        out = out;
        known = known.1;
        same = ap (command_at w.runs r) known.1.number ∙ command_is w n r known.0 known.1.next;
        run = run;
        first = not-true (n.run r).answered_doomed (kept.history.first d (record { maker = r; purpose = Commands k }) out);
        alone = alone (run_positive w r run);
        read = read_facts w (entries_of s.history) kept.history.well_formed;
      },
    )
  where
    w : Setting
    w = s.setting

    n : Reading
    n = read_of s

    alone : (q : ℕ) × (r ≡ suc q) → (e : ℕ) (p : Purpose) → s.grips e ≡ Some (record { maker = r; purpose = p }) → e ≡ d
    alone (q, is) e p at = kept.order.grips.runs.one e d q p (Commands k) (at ∙ ap (λ x. Some (record { maker = x; purpose = p })) is) (out ∙ ap (λ x. Some (record { maker = x; purpose = Commands k })) is)

-- its entries may follow
command_follows : (s : Configuration) (rounds opened : ℕ) (held : ℕ → ℕ) (r k d v : ℕ) (told : Told) (c : Command) → Returns s r k d c → BringsFor s held r d v (Commands k) told → IsTrue (has_value (kind_at s.setting.kinds d) v) → ConfigurationIsKept s rounds opened held
    → IsTrue (along s.setting (may_follow s.setting) (read_of s) (command_entries s.setting (read_of s) r k told))
command_follows s rounds opened held r k d v told c back brings value kept =
    subst (λ j. IsTrue (along w (may_follow w) n (command_entries w n r j told))) (sym back.known.number) (command_back_follows w n r c told (record {
      run = back.run;
      live = back.known.live;
      next = back.known.next;
      first = back.first;
      suited = suited told brings;
      home = ap (is_device w) back.known.on ∙ kept.order.grips.homed d (ap is_some back.out);
      up = ap n.up back.known.on ∙ called_up w n s.grips held d r k back.read back.out kept.order;
    }))
  where
    w : Setting
    w = s.setting

    n : Reading
    n = read_of s

    suited : (t : Told) → BringsFor s held r d v (Commands k) t → suits w n r c (answer_told t) ≡ true
    suited Worked b = and_is back.known.guard (ap not (ap (λ (y : Command). reads y.job) (sym back.same) ∙ b.0))
    suited (Sensed x) b = and_three back.known.guard (ap (λ (y : Command). reads y.job) (sym back.same) ∙ b.0) (ap₂ (λ e y. has_value (kind_at w.kinds e) y) back.known.on b.1 ∙ value)
    suited Died b = back.known.guard

-- and the doom among them shows its cause
command_shows : (s : Configuration) (rounds opened : ℕ) (held : ℕ → ℕ) (r k d : ℕ) (told : Told) (c : Command) → Returns s r k d c → ConfigurationIsKept s rounds opened held → IsTrue (along s.setting (abort_is_justified s.setting) (read_of s) (command_entries s.setting (read_of s) r k told))
command_shows s rounds opened held r k d told c back kept = subst (λ j. IsTrue (along w (abort_is_justified w) n (command_entries w n r j told))) (sym back.known.number)
    (command_back_shows w n r c told back.read.logged back.known.next (ap (sees_down n r) back.known.on ∙ called_unseen w n s.grips held d r k back.read back.out kept.order))
  where
    w : Setting
    w = s.setting

    n : Reading
    n = read_of s

-- a write has worked
wrote_home : (s : Configuration) (rounds opened : ℕ) (held : ℕ → ℕ) (r k d now v : ℕ) → s.grips d ≡ Some (record { maker = r; purpose = Commands k })
    → BringsFor s held r d v (Commands k) Worked → IsTrue (has_value (kind_at s.setting.kinds d) v) → (read_of s).moment ≤ now
    → ConfigurationIsKept s rounds opened held
    → ConfigurationIsKept (home_with s r d now (Did (run_no r) k Fine ∷ [])) rounds opened (put held d v)
wrote_home s rounds opened held r k d now v out brings value later kept =
    let back : (c : Command) × Returns s r k d c = returns s rounds opened held r k d out kept in
    let follows : may_follow w n (Did (run_no r) k Fine) ≡ true = first_follows w n (Did (run_no r) k Fine) (command_follows s rounds opened held r k d v Worked back.0 back.1 brings value kept) in
    comes_home s rounds opened r d now held (put held d v) (Did (run_no r) k Fine ∷ [])
    (history_added s r now (put s.grips d None) (Did (run_no r) k Fine) (answer_may s r k d now Fine follows refl later (serves_strict s.setting rounds opened kept.opens) out back.1.alone back.1.known.live kept.history) kept.history) (probes_home s r now d (Did (run_no r) k Fine ∷ []) refl)
    (subst (λ x. OrderIsKept (point w (entry w n (Did (run_no r) k Fine)) (put s.grips d None)) (put held d x)) (sym brings.1) (wrote_kept w n s.grips held d r k back.1.read out brings.0 kept.order)) kept
  where
    w : Setting
    w = s.setting

    n : Reading
    n = read_of s

-- a read has found a value: its run goes on, or was doomed before, or is doomed by it
found_home : (s : Configuration) (rounds opened : ℕ) (held : ℕ → ℕ) (r k d now v x : ℕ) → s.grips d ≡ Some (record { maker = r; purpose = Commands k })
    → BringsFor s held r d v (Commands k) (Sensed x) → IsTrue (has_value (kind_at s.setting.kinds d) v) → (read_of s).moment ≤ now
    → ConfigurationIsKept s rounds opened held
    → ConfigurationIsKept (home_with s r d now (command_entries s.setting (read_of s) r k (Sensed x))) rounds opened (put held d v)
found_home s rounds opened held r k d now v x out brings value later kept = subst (λ h. ConfigurationIsKept (home_with s r d now (command_entries w n r k (Sensed x))) rounds opened h) (sym (put_own held d v brings.2)) by_failure
  where
    w : Setting
    w = s.setting

    n : Reading
    n = read_of s

    home : Grips
    home = put s.grips d None

    answer : Entry
    answer = Did (run_no r) k (Found x)

    doom : Entry
    doom = Doomed (run_no r) (Refuted k x)

    back : (c : Command) × Returns s r k d c
    back = returns s rounds opened held r k d out kept

    read : IsRead w n
    read = back.1.read

    same : x ≡ held d
    same = brings.1 ∙ brings.2

    failed : Bool
    failed = fails (command_at w.runs r k) (Found x)

    follow : (b : Bool) → (failed && not (is_doomed n r)) ≡ b → IsTrue (along w (may_follow w) n (answer ∷ (if b then doom ∷ [] else [])))
    follow b e = subst (λ y. IsTrue (along w (may_follow w) n (answer ∷ (if y then doom ∷ [] else [])))) e (command_follows s rounds opened held r k d v (Sensed x) back.0 back.1 brings value kept)

    shown : (failed && not (is_doomed n r)) ≡ true → IsTrue (along w (abort_is_justified w) n (answer ∷ doom ∷ []))
    shown e = subst (λ y. IsTrue (along w (abort_is_justified w) n (answer ∷ (if y then doom ∷ [] else [])))) e (command_shows s rounds opened held r k d (Sensed x) back.0 back.1 kept)

    clean : entry_is_clean w n answer ≡ true
    clean = subst (λ e. answer_is_clean w n r e (Found x) ≡ true) (sym (ap (λ (y : Command). y.device.0) back.1.same ∙ back.1.known.on))
        (found_so x (clean_value w n r d) (list_any (λ q. has_effect n no_grips q d) (live_before n r)) (same ∙ finds_clean w n s.grips held d r k read kept.order device asks) (none_dirty w n s.grips held d r k read kept.order device asks))
      where
        device : is_device w d ≡ true
        device = kept.order.grips.homed d (ap is_some out)

        asks : ReadIsOut w s.grips d r k
        asks = record { out = out; reading = brings.0 }

        found_so : (y z : ℕ) (dirty : Bool) → y ≡ z → dirty ≡ false → ((y == z) && not dirty) ≡ true
        found_so y z dirty h e = grind (arith, common_steps)

    may_answer : may_follow w n answer ≡ true → MayAdd s answer now home
    may_answer follows = answer_may s r k d now (Found x) follows clean later (serves_strict s.setting rounds opened kept.opens) out back.1.alone back.1.known.live kept.history

    after_answer : Configuration
    after_answer = added s r now home answer

    read_after : entry w n answer ≡ read_of after_answer
    read_after = sym (read_with s r (answer ∷ []))

    goes_on : (failed && not (is_doomed n r)) ≡ false → ConfigurationIsKept (home_with s r d now (answer ∷ [])) rounds opened held
    goes_on e = comes_home s rounds opened r d now held held (answer ∷ []) (history_added s r now home answer (may_answer (first_follows w n answer (follow false e))) kept.history) (probes_home s r now d (answer ∷ []) refl)
        (subst (λ y. OrderIsKept (point w (entry w n (Did (run_no r) k (Found y))) home) held) (sym same) (found_kept w n s.grips held d r k read out brings.0 (λ fail. passes failed (is_doomed n r) e (ap (λ y. fails (command_at w.runs r k) (Found y)) same ∙ fail)) kept.order)) kept
      where
        passes : (f b : Bool) → (f && not b) ≡ false → f ≡ true → b ≡ true
        passes f b h g = grind (arith, common_steps)

    dooms : (failed && not (is_doomed n r)) ≡ true → ConfigurationIsKept (home_with s r d now (answer ∷ doom ∷ [])) rounds opened held
    dooms e =
        comes_home s rounds opened r d now held held (answer ∷ doom ∷ []) (first_then s r now home answer (doom ∷ []) (history_added after_answer r now home
        doom (doom_may after_answer r now (Refuted k x) (subst (λ y. may_follow w y doom ≡ true) read_after follows.1) (λ first_come. refl)
        (subst (λ y. shows w y r (Refuted k x) ≡ true) read_after (both (shows w (entry w n answer) r (Refuted k x)) true (shown e)).0) told.moment told) told))
        (probes_home s r now d (answer ∷ doom ∷ []) refl)
        (subst (λ y. OrderIsKept (point w (entry w (entry w n (Did (run_no r) k (Found y))) (Doomed (run_no r) (Refuted k y))) home) held) (sym same) (refuted_kept w n s.grips held d r k read out brings.0 kept.order)) kept
      where
        follows : (may_follow w n answer ≡ true) × (may_follow w (entry w n answer) doom ≡ true)
        follows = let all = both (may_follow w n answer) (may_follow w (entry w n answer) doom && true) (follow true e) in (all.0, (both (may_follow w (entry w n answer) doom) true all.1).0)

        told : HistoryIsKept after_answer
        told = history_added s r now home answer (may_answer follows.0) kept.history

    by_failure : ConfigurationIsKept (home_with s r d now (command_entries w n r k (Sensed x))) rounds opened held
    by_failure = elim (failed && not (is_doomed n r)) as (λ b. (failed && not (is_doomed n r)) ≡ b → ConfigurationIsKept (home_with s r d now (answer ∷ (if b then doom ∷ [] else []))) rounds opened held) [
      | true ↦ dooms
      | false ↦ goes_on
    ] refl

-- the call died: the device has failed, and the command is answered Down; a run that has used the device before has lost it, and a must command has failed
died_home : (s : Configuration) (rounds opened : ℕ) (held : ℕ → ℕ) (r k d now v : ℕ) → s.grips d ≡ Some (record { maker = r; purpose = Commands k }) → IsTrue (has_value (kind_at s.setting.kinds d) v) → (read_of s).moment ≤ now → ConfigurationIsKept s rounds opened held
    → ConfigurationIsKept (home_with s r d now (command_entries s.setting (read_of s) r k Died)) rounds opened (put held d v)
died_home s rounds opened held r k d now v out value later kept = by_doomed (is_doomed n r) refl
  where
    w : Setting
    w = s.setting

    n : Reading
    n = read_of s

    c : Command
    c = command_at w.runs r k

    home : Grips
    home = put s.grips d None

    after : ℕ → ℕ
    after = put held d v

    still : (e : ℕ) → e ≢ d → after e ≡ held e
    still e ne = put_other held d v e ne

    fall : Entry
    fall = Fell c.device

    answer : Entry
    answer = Did (run_no r) k Down

    down : Reading
    down = entry w (entry w n fall) answer

    lost : Bool
    lost = did n r c.device.0 && not (is_weak w.mode)

    -- the doom, by whether the run was doomed before, has lost the device, and must not fail
    doom : Bool → Bool → Bool → List Entry
    doom doomed lost' must = if doomed then [] else (if lost' then Doomed (run_no r) (Lost c.device) ∷ [] else (if must then Doomed (run_no r) (MustDown k) ∷ [] else []))

    back : (x : Command) × Returns s r k d x
    back = returns s rounds opened held r k d out kept

    on : c.device.0 ≡ d
    on = ap (λ (y : Command). y.device.0) back.1.same ∙ back.1.known.on

    -- what holds of the doom: it may follow, and shows its cause
    IsMade : List Entry → Type 0
    IsMade entries = IsTrue (along w (may_follow w) down entries) × IsTrue (along w (abort_is_justified w) down entries)

    follows : (may_follow w n fall ≡ true) × (may_follow w (entry w n fall) answer ≡ true) × IsTrue (along w (may_follow w) down (doom (is_doomed n r) lost c.must))
    follows = each_of (may_follow w n fall) (may_follow w (entry w n fall) answer) (along w (may_follow w) down (doom (is_doomed n r) lost c.must)) (command_follows s rounds opened held r k d v Died back.0 back.1 tt value kept)

    made : IsMade (doom (is_doomed n r) lost c.must)
    made = (follows.2, command_shows s rounds opened held r k d Died back.0 back.1 kept)

    fallen : Configuration
    fallen = added s r now s.grips fall

    read_fallen : read_of fallen ≡ entry w n fall
    read_fallen = read_with s r (fall ∷ [])

    kept_fallen : HistoryIsKept fallen
    kept_fallen = history_added s r now s.grips fall (fell_may s c.device.0 now s.grips follows.0 later (same_grips s.grips) kept.history) kept.history

    clean : entry_is_clean w (read_of fallen) answer ≡ true
    clean = ap (λ x. entry_is_clean w x answer) read_fallen ∙ ap (λ b. not b || sees_down (entry w n fall) r c.device.0) (put_same n.up c.device.0 false)

    answered : Configuration
    answered = added fallen r now home answer

    read_answered : read_of answered ≡ down
    read_answered = read_with fallen r (answer ∷ []) ∙ ap (λ x. entry w x answer) read_fallen

    kept_answered : HistoryIsKept answered
    kept_answered =
        history_added fallen r now home answer
        (answer_may fallen r k d now Down (ap (λ x. may_follow w x answer) read_fallen ∙ follows.1) clean kept_fallen.moment
        (serves_strict s.setting rounds opened kept.opens) out back.1.alone (ap (λ x. is_live x r) read_fallen ∙ back.1.known.live) kept_fallen) kept_fallen

    KeptWith : List Entry → Type 0
    KeptWith more = ConfigurationIsKept (home_with s r d now (fall ∷ answer ∷ more)) rounds opened after

    goes_on : (did n r d ≡ true → is_doomed n r ≡ true) → (fails c Down ≡ true → is_doomed n r ≡ true) → KeptWith []
    goes_on kept_it may_fail =
        comes_home s rounds opened r d now held after (fall ∷ answer ∷ []) (first_then s r now home fall (answer ∷ []) kept_answered)
        (probes_home s r now d (fall ∷ answer ∷ []) refl)
        (died_kept w n s.grips held after d r k back.1.read kept.strong out kept_it may_fail still kept.order) kept

    dooms : (cause : Cause) → ((x : ℕ) → moment_of cause x ≡ x) → keeps_leases (Doomed (run_no r) cause) ≡ true → IsMade (Doomed (run_no r) cause ∷ []) → KeptWith (Doomed (run_no r) cause ∷ [])
    dooms cause steady keeps is_made =
        comes_home s rounds opened r d now held after (fall ∷ answer ∷ Doomed (run_no r) cause ∷ [])
        (first_then s r now home fall (answer ∷ Doomed (run_no r) cause ∷ []) (first_then fallen r now home answer (Doomed (run_no r) cause ∷ [])
        (history_added answered r now home (Doomed (run_no r) cause) (doom_may answered r now cause
        (ap (λ x. may_follow w x (Doomed (run_no r) cause)) read_answered ∙ (both (may_follow w down (Doomed (run_no r) cause)) true is_made.0).0)
        (λ first_come. keeps) (ap (λ x. shows w x r cause) read_answered ∙ (both (shows w down r cause) true is_made.1).0)
        (subst (λ x. x ≤ now) (sym (steady (read_of answered).moment)) kept_answered.moment) kept_answered) kept_answered)))
        (probes_home s r now d (fall ∷ answer ∷ Doomed (run_no r) cause ∷ []) refl) (died_doomed_kept w n s.grips held after d r k cause back.1.read kept.strong out still kept.order) kept

    not_lost : (a b : Bool) → (a && not b) ≡ false → b ≡ false → a ≡ true → ⊥
    not_lost a b h strong e = grind (arith, common_steps)

    by_must : lost ≡ false → (b : Bool) → c.must ≡ b → IsMade (doom false false b) → KeptWith (doom false false b)
    by_must unlost true e is_made = dooms (MustDown k) (λ x. refl) refl is_made
    by_must unlost false e is_made = goes_on (λ h. absurd (not_lost (did n r c.device.0) (is_weak w.mode) unlost kept.strong (ap (did n r) on ∙ h))) (λ h. absurd (both_ways c.must e (and_parts c.must (refutes c.job Down) h).0))

    by_lost : (b : Bool) → lost ≡ b → IsMade (doom false b c.must) → KeptWith (doom false b c.must)
    by_lost true e is_made = dooms (Lost c.device) (λ x. refl) refl is_made
    by_lost false e is_made = by_must e c.must refl is_made

    by_doomed : (b : Bool) → is_doomed n r ≡ b → KeptWith (doom b lost c.must)
    by_doomed true e = goes_on (λ h. e) (λ h. e)
    by_doomed false e = by_lost lost refl (subst (λ b. IsMade (doom b lost c.must)) e made)

-- An undo comes back

-- what is known of its run
undo_is : (s : Configuration) (rounds opened : ℕ) (held : ℕ → ℕ) (r d u : ℕ) → s.grips d ≡ Some (record { maker = r; purpose = Undoes u }) → ConfigurationIsKept s rounds opened held → MayUndo s.setting (read_of s) r d
undo_is s rounds opened held r d u out kept =
    record {
      run = live_run s.setting n r (shapes s.setting (entries_of s.history) kept.history.well_formed) live;
      live = live;
      doomed = grind (arith, common_steps, may);
      wrote = grind (arith, common_steps, may);
      first = grind (arith, common_steps, may);
      home = kept.order.grips.homed d (ap is_some out);
      up = undo_up s.setting n s.grips held d r u (read_facts s.setting (entries_of s.history) kept.history.well_formed) out kept.order;
    }
  where
    n : Reading
    n = read_of s

    may : IsTrue (is_live n r && is_doomed n r && has_written n r d && not ((n.run r).on d).undid)
    may = kept.order.grips.runs.undos d r u out

    live : is_live n r ≡ true
    live = grind (arith, common_steps, may)

-- it has worked
undone_home : (s : Configuration) (rounds opened : ℕ) (held : ℕ → ℕ) (r d now v u : ℕ) → s.grips d ≡ Some (record { maker = r; purpose = Undoes u }) → v ≡ u → (read_of s).moment ≤ now → ConfigurationIsKept s rounds opened held
    → ConfigurationIsKept (home_with s r d now (Undid (run_no r) (device_no d) true ∷ [])) rounds opened (put held d v)
undone_home s rounds opened held r d now v u out brings later kept =
    comes_home s rounds opened r d now held (put held d v) (Undid (run_no r) (device_no d) true ∷ []) (history_added s r now (put s.grips d None)
    (Undid (run_no r) (device_no d) true) (undo_may s r d now true follows later (serves_strict s.setting rounds opened kept.opens) kept.history) kept.history)
    (probes_home s r now d (Undid (run_no r) (device_no d) true ∷ []) refl)
    (subst (λ y. OrderIsKept (point w (entry w n (Undid (run_no r) (device_no d) true)) (put s.grips d None)) (put held d y)) (sym brings) (undone_kept w n s.grips held r d u (read_facts w (entries_of s.history) kept.history.well_formed) out kept.order)) kept
  where
    w : Setting
    w = s.setting

    n : Reading
    n = read_of s

    follows : may_follow w n (Undid (run_no r) (device_no d) true) ≡ true
    follows = first_follows w n (Undid (run_no r) (device_no d) true) (undo_back_follows w n r d Worked (undo_is s rounds opened held r d u out kept))

-- its call died: the device has failed, and the write is dropped
dropped_home : (s : Configuration) (rounds opened : ℕ) (held : ℕ → ℕ) (r d now v u : ℕ) → s.grips d ≡ Some (record { maker = r; purpose = Undoes u }) → (read_of s).moment ≤ now → ConfigurationIsKept s rounds opened held
    → ConfigurationIsKept (home_with s r d now (Fell (device_no d) ∷ Undid (run_no r) (device_no d) false ∷ [])) rounds opened (put held d v)
dropped_home s rounds opened held r d now v u out later kept =
    comes_home s rounds opened r d now held (put held d v) (fall ∷ drop ∷ [])
    (first_then s r now (put s.grips d None) fall (drop ∷ [])
    (history_added fallen r now (put s.grips d None) drop (undo_may fallen r d now false (ap (λ x. may_follow w x drop) (read_with s r (fall ∷ [])) ∙ follows.1)
    kept_fallen.moment (serves_strict s.setting rounds opened kept.opens) kept_fallen) kept_fallen))
    (probes_home s r now d (fall ∷ drop ∷ []) refl) (undo_died_kept w n s.grips held (put held d v) d r u (read_facts w (entries_of s.history) kept.history.well_formed) kept.strong out (λ e ne. put_other held d v e ne) kept.order) kept
  where
    w : Setting
    w = s.setting

    n : Reading
    n = read_of s

    fall : Entry
    fall = Fell (device_no d)

    drop : Entry
    drop = Undid (run_no r) (device_no d) false

    follows : (may_follow w n fall ≡ true) × (may_follow w (entry w n fall) drop ≡ true) × (true ≡ true)
    follows = each_of (may_follow w n fall) (may_follow w (entry w n fall) drop) true (undo_back_follows w n r d Died (undo_is s rounds opened held r d u out kept))

    fallen : Configuration
    fallen = added s r now s.grips fall

    kept_fallen : HistoryIsKept fallen
    kept_fallen = history_added s r now s.grips fall (fell_may s d now s.grips follows.0 later (same_grips s.grips) kept.history) kept.history

-- A probe comes back

-- it has found the device up, as it was counted, ..
answered_home : (s : Configuration) (rounds opened : ℕ) (held : ℕ → ℕ) (r d now v : ℕ) → s.grips d ≡ Some (record { maker = r; purpose = Probes None }) → v
    ≡ held d → (read_of s).moment ≤ now → ConfigurationIsKept s rounds opened held → ConfigurationIsKept (home_with s r d now []) rounds opened (put held d v)
answered_home s rounds opened held r d now v out brings later kept =
    comes_home s rounds opened r d now held (put held d v) [] (no_news s r d now later kept.history) (probes_home s r now d [] refl)
    (subst (OrderIsKept (point s.setting (read_of s) (put s.grips d None))) (sym (put_own held d v brings)) (probe_worked_kept s.setting (read_of s) s.grips held d r out kept.order)) kept

-- .. or down, as it was counted
missed_home : (s : Configuration) (rounds opened : ℕ) (held : ℕ → ℕ) (r d now v u : ℕ) → s.grips d ≡ Some (record { maker = r; purpose = Probes (Some u) })
    → (read_of s).moment ≤ now → ConfigurationIsKept s rounds opened held → ConfigurationIsKept (home_with s r d now []) rounds opened (put held d v)
missed_home s rounds opened held r d now v u out later kept =
    comes_home s rounds opened r d now held (put held d v) [] (no_news s r d now later kept.history) (probes_home s r now d [] refl) (probe_missed_kept s.setting (read_of s) s.grips held (put held d v) d r u out (λ e ne. put_other held d v e ne) kept.order) kept

-- its entries, where the device was counted up or down
pub counted_up : (n : Reading) (d : ℕ) (entries others : List Entry) → n.up d ≡ true → (if n.up d then entries else others) ≡ entries
counted_up n d entries others up = ap (λ b. if b then entries else others) up

pub counted_down : (n : Reading) (d : ℕ) (entries others : List Entry) → n.up d ≡ false → (if n.up d then others else entries) ≡ entries
counted_down n d entries others down = ap (λ b. if b then others else entries) down

-- the device has failed, and the run that sees it up, if there is one with more to do there, has lost it
fell_home : (s : Configuration) (rounds opened : ℕ) (held : ℕ → ℕ) (r d now v : ℕ) → s.grips d ≡ Some (record { maker = r; purpose = Probes None }) → (read_of s).moment ≤ now → ConfigurationIsKept s rounds opened held
    → ConfigurationIsKept (home_with s r d now (probe_entries s.setting (read_of s) d Died)) rounds opened (put held d v)
fell_home s rounds opened held r d now v out later kept = subst KeptWith (sym entries_are) (by_lost (lost_by w n d) refl made)
  where
    w : Setting
    w = s.setting

    n : Reading
    n = read_of s

    home : Grips
    home = put s.grips d None

    after : ℕ → ℕ
    after = put held d v

    still : (e : ℕ) → e ≢ d → after e ≡ held e
    still e ne = put_other held d v e ne

    fall : Entry
    fall = Fell (device_no d)

    doom : ℕ → Entry
    doom x = Doomed (run_no x) (Lost (device_no d))

    read : IsRead w n
    read = read_facts w (entries_of s.history) kept.history.well_formed

    KeptWith : List Entry → Type 0
    KeptWith entries = ConfigurationIsKept (home_with s r d now entries) rounds opened after

    -- what holds of its entries: they may follow, and the doom among them shows its cause
    IsMade : List Entry → Type 0
    IsMade entries = IsTrue (along w (may_follow w) n entries) × IsTrue (along w (abort_is_justified w) n entries)

    with_doom : Option ℕ → List Entry
    with_doom o = fall ∷ option_to_list (option_map doom o)

    entries_are : probe_entries w n d Died ≡ with_doom (lost_by w n d)
    entries_are = counted_up n d (with_doom (lost_by w n d)) [] (asked_up w n s.grips held d r out kept.order)

    made : IsMade (with_doom (lost_by w n d))
    made = subst IsMade entries_are (probe_back_follows w n d Died read.shaped (kept.order.grips.homed d (ap is_some out)), probe_shows w n d Died read.logged)

    may_fall : MayAdd s fall now home
    may_fall = fell_may s d now home (both (may_follow w n fall) (along w (may_follow w) (entry w n fall) (option_to_list (option_map doom (lost_by w n d)))) made.0).0 later (less_one s.grips d) kept.history

    fallen : Configuration
    fallen = added s r now home fall

    read_fallen : read_of fallen ≡ entry w n fall
    read_fallen = read_with s r (fall ∷ [])

    kept_fallen : HistoryIsKept fallen
    kept_fallen = history_added s r now home fall may_fall kept.history

    loses : (x : ℕ) → IsMade (with_doom (Some x)) → MayAdd fallen (doom x) now home
    loses x is_made =
        let follows = each_of (may_follow w n fall) (may_follow w (entry w n fall) (doom x)) true is_made.0 in
        let shown = both (shows w (entry w n fall) x (Lost (device_no d))) true is_made.1 in
        doom_may fallen x now (Lost (device_no d)) (ap (λ y. may_follow w y (doom x)) read_fallen ∙ follows.1) (λ first_come. refl) (ap (λ y. shows w y x (Lost (device_no d))) read_fallen ∙ shown.0) kept_fallen.moment kept_fallen

    by_lost : (o : Option ℕ) → lost_by w n d ≡ o → IsMade (with_doom o) → KeptWith (with_doom o)
    by_lost None e is_made = comes_home s rounds opened r d now held after (fall ∷ []) kept_fallen (probes_home s r now d (fall ∷ []) refl) (probe_died_kept w n s.grips held after d r read kept.strong out e still kept.order) kept
    by_lost (Some x) e is_made = comes_home s rounds opened r d now held after (fall ∷ doom x ∷ []) (first_then s r now home fall (doom x ∷ []) (history_added fallen r now home (doom x) (loses x is_made) kept_fallen)) (probes_home s r now d (fall ∷ doom x ∷ []) refl)
        (probe_died_doomed_kept w n s.grips held after d r x (Lost (device_no d)) read kept.strong out e still kept.order) kept

-- one restart more, and one probe less out
pub probes_answered : (s : Configuration) (r d now u : ℕ) → s.grips d ≡ Some (record { maker = r; purpose = Probes (Some u) }) → (e : ℕ) → probes_of (record s { history = s.history ++ kept_by r (Rose (device_no d) ∷ []); moment = now; grips = put s.grips d None }) e ≤ probes_of s e
probes_answered s r d now u out e = subst (λ k. k + (if is_probed (put s.grips d None) e then 1 else 0) + s.probes e ≤ probes_of s e) (sym (ap (λ (x : Reading). x.rose e) (read_with s r (Rose (device_no d) ∷ [])))) (counts (e == d) refl)
  where
    n : Reading
    n = read_of s

    counts : (b : Bool) → (e == d) ≡ b
        → (if b then n.rose d + 1 else n.rose e) + (if unwrap_or (option_map (λ grip. not (is_of_run grip.purpose)) (if b then None else s.grips e)) false then 1 else 0) + s.probes e ≤ n.rose e + (if is_probed s.grips e then 1 else 0) + s.probes e
    counts true at =
        let same : e ≡ d = grind (arith, common_steps) in
        let here : n.rose d ≡ n.rose e = ap n.rose (sym same) in
        let probed : ◌≡◌ {A = ℕ} (if is_probed s.grips e then 1 else 0) 1 = ap (λ o. if unwrap_or (option_map (λ (grip : Grip). not (is_of_run grip.purpose)) o) false then 1 else 0) (ap s.grips same ∙ out) in
        omega (arith, here, probed)
    counts false at = omega arith

-- the device is back: it has answered a probe
rose_home : (s : Configuration) (rounds opened : ℕ) (held : ℕ → ℕ) (r d now v u : ℕ) → s.grips d ≡ Some (record { maker = r; purpose = Probes (Some u) }) → v ≡ u → (read_of s).moment ≤ now → ConfigurationIsKept s rounds opened held
    → ConfigurationIsKept (home_with s r d now (Rose (device_no d) ∷ [])) rounds opened (put held d v)
rose_home s rounds opened held r d now v u out brings later kept =
    comes_home s rounds opened r d now held (put held d v) (rise ∷ []) (history_added s r now (put s.grips d None) rise (rose_may s d now (put s.grips d None) follows later (less_one s.grips d) kept.history) kept.history) (probes_answered s r d now u out)
    (subst (λ y. OrderIsKept (point w (entry w n rise) (put s.grips d None)) (put held d y)) (sym brings) (restarted_kept w n s.grips held d r u (read_facts w (entries_of s.history) kept.history.well_formed) kept.strong out kept.order)) kept
  where
    w : Setting
    w = s.setting

    n : Reading
    n = read_of s

    rise : Entry
    rise = Rose (device_no d)

    follows : may_follow w n rise ≡ true
    follows = and_is (kept.order.grips.homed d (ap is_some out)) (ap not (restored_down w n s.grips held d r u out kept.order))

-- What is kept stays so when a device comes home

pub give_kept : (s : Configuration) (rounds opened : ℕ) (held : ℕ → ℕ) (d now v : ℕ) (grip : Grip) (told : Told) → s.grips d ≡ Some grip → Brings s held d v grip told → IsTrue (has_value (kind_at s.setting.kinds d) v) → (read_of s).moment ≤ now
    → ConfigurationIsKept s rounds opened held → ConfigurationIsKept (after_give (record s { moment = now }) d grip told) rounds opened (put held d v)
give_kept s rounds opened held d now v grip told out brings value later kept = by_purpose grip.purpose told out brings
  where
    r : ℕ
    r = grip.maker

    n : Reading
    n = read_of s

    KeptWith : List Entry → Type 0
    KeptWith entries = ConfigurationIsKept (home_with s r d now entries) rounds opened (put held d v)

    rise : List Entry
    rise = Rose (device_no d) ∷ []

    -- a probe of a device that was counted up, or down
    asked : s.grips d ≡ Some (record { maker = r; purpose = Probes None }) → KeptWith [] → KeptWith (if n.up d then [] else rise)
    asked at k = subst KeptWith (sym (counted_up n d [] rise (asked_up s.setting n s.grips held d r at kept.order))) k

    restored : (u : ℕ) (others entries : List Entry) → s.grips d ≡ Some (record { maker = r; purpose = Probes (Some u) }) → KeptWith entries → KeptWith (if n.up d then others else entries)
    restored u others entries at k = subst KeptWith (sym (counted_down n d entries others (restored_down s.setting n s.grips held d r u at kept.order))) k

    by_purpose : (p : Purpose) (t : Told) → s.grips d ≡ Some (record { maker = r; purpose = p }) → BringsFor s held r d v p t → KeptWith (give_entries s.setting n d (record { maker = r; purpose = p }) t)
    by_purpose (Commands k) Worked at b = wrote_home s rounds opened held r k d now v at b value later kept
    by_purpose (Commands k) (Sensed x) at b = found_home s rounds opened held r k d now v x at b value later kept
    by_purpose (Commands k) Died at b = died_home s rounds opened held r k d now v at value later kept
    by_purpose (Undoes u) Worked at b = undone_home s rounds opened held r d now v u at b later kept
    by_purpose (Undoes u) (Sensed x) at b = undone_home s rounds opened held r d now v u at b later kept
    by_purpose (Undoes u) Died at b = dropped_home s rounds opened held r d now v u at later kept
    by_purpose (Probes None) Worked at b = asked at (answered_home s rounds opened held r d now v at b later kept)
    by_purpose (Probes None) (Sensed x) at b = asked at (answered_home s rounds opened held r d now v at b later kept)
    by_purpose (Probes None) Died at b = fell_home s rounds opened held r d now v at later kept
    by_purpose (Probes (Some u)) Worked at b = restored u [] rise at (rose_home s rounds opened held r d now v u at b later kept)
    by_purpose (Probes (Some u)) (Sensed x) at b = restored u [] rise at (rose_home s rounds opened held r d now v u at b later kept)
    by_purpose (Probes (Some u)) Died at b = restored u (Fell (device_no d) ∷ option_to_list (option_map (λ x. Doomed (run_no x) (Lost (device_no d))) (lost_by s.setting n d))) [] at (missed_home s rounds opened held r d now v u at later kept)
