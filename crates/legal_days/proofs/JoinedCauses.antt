-- What was shown along a history is shown where a run joins the window: clean reads, the causes of dooms, isolation, and the calls that are told.
use Rattle.command_rules.specs.Rosters.{Run, estimate_to_last, is_on, is_run, no_command}
use Rattle.history_book.proofs.Cited.{ReadsOwn, Shaped, along_joined, first_holds, live_own, masked, own_commands, own_shares, own_start, run_place, same_devices}
use Rattle.history_book.specs.Histories.{entry}
use Rattle.history_book.specs.Joined.{with_joined}
use Rattle.history_book.specs.Plans.{greatest, planned_end}
use Rattle.history_book.specs.Readings.{Reading, asks_on, did, is_doomed, is_live, is_told, next_of, nothing_read}
use Rattle.history_book.specs.Settings.{Setting, is_strict}
use Rattle.history_book.specs.WellFormed.{IsWellFormed, along, may_follow}
use Rattle.history_book.specs.declared.entries.Cause.TheVariants.{DownAtEnd, Lost, MustDown, Refuted, Revoked}
use Rattle.history_book.specs.declared.entries.Cause.{Cause}
use Rattle.history_book.specs.declared.entries.End.TheVariants.{Aborted, Committed}
use Rattle.history_book.specs.declared.entries.Entry.TheVariants.{Arrived, Did, Doomed, Ended, Fell, Placed, Rose, Undid}
use Rattle.history_book.specs.declared.entries.Entry.{Entry}
use Rattle.home_types.specs.Commands.{fails}
use Rattle.home_types.specs.declared.commands.Answer.TheVariants.{Down, Fine, Found, Skipped}
use Rattle.home_types.specs.declared.commands.Answer.{Answer}
use Rattle.home_types.specs.declared.modes.Visibility.TheVariants.{Eventual, Global, Partitioned, Weak}
use Rattle.home_types.specs.declared.modes.Visibility.{Visibility}
use Rattle.legal_days.specs.AccountedCalls.{tells_call, told_calls}
use Rattle.legal_days.specs.CleanReads.{ReadsAreClean, answer_is_clean, entry_is_clean}
use Rattle.legal_days.specs.Isolation.{IsStrict, is_alone, is_isolated, is_placed_before}
use Rattle.legal_days.specs.JustifiedAborts.{IsJustified, abort_is_justified, equals_some, has_answer, shows}
use Rattle.lock_leasing.proofs.Cited.{own_asks, same_holds}
use Rattle.lock_leasing.specs.Configurations.{no_grips, point}
use Rattle.lock_leasing.specs.Waits.{down_at_end, model_bars}
use Rattle.lock_leasing.specs.Words.{has_touched, holds_device, is_overdue, lease_deadline, live_before, overdue_for, stamp_of, tenth_up}
use Rattle.std.proofs.Common.{ap, arith, length-append, refl, ◌∙◌}
use Rattle.std.proofs.lemmas.Grind.{common_steps}
use Rattle.std.specs.List.{list_all, range_with_len}
use Rattle.std.specs.Prelude.{Bool, IsTrue, List, None, [], false, find, fold, if◌then◌else◌, is_none, is_some, length, min, nat_lt, not, slice_get, slice_index_or, suc, true, zero, ℕ, ◌&&◌, ◌+◌, ◌-◌, ◌<◌, ◌==◌, ◌||◌, ◌∷◌, ◌≡◌}

last_holds : (a b : Bool) → (a && b) ≡ true → b ≡ true
last_holds true b e = e
last_holds false b e = absurd (cc)

-- Clean reads

clean_entry : (w : Setting) (q : Run) (n : Reading) (e : Entry) → ReadsOwn w n → IsTrue (may_follow w n e) → IsTrue (entry_is_clean w n e) → IsTrue (entry_is_clean (with_joined w q) n e)
clean_entry w q n (Arrived r m) reads ok is = refl
clean_entry w q n (Placed r at m) reads ok is = refl
clean_entry w q n (Did r c a) reads ok is = (λ k. same_clean a (slice_index_or (own_commands w.runs q r.0 mine k) c no_command).device.0 k) ∙ is
  where
    mine : is_run w.runs r.0 ≡ true
    mine = grind (arith, common_steps)

    same_clean : (a : Answer) (d : ℕ) → answer_is_clean (with_joined w q) n r.0 d a ≡ answer_is_clean w n r.0 d a
    same_clean Fine d = refl
    same_clean (Found x) d = refl
    same_clean Down d = refl
    same_clean Skipped d = refl
clean_entry w q n (Undid r d drove) reads ok is = refl
clean_entry w q n (Fell d) reads ok is = refl
clean_entry w q n (Rose d) reads ok is = refl
clean_entry w q n (Doomed r cause) reads ok is = refl
clean_entry w q n (Ended r e) reads ok is = refl

pub joined_clean : (w : Setting) (q : Run) (h : List Entry) → IsWellFormed w h → ReadsAreClean w h → ReadsAreClean (with_joined w q) h
joined_clean w q h ok clean = along_joined w q (entry_is_clean w) (entry_is_clean (with_joined w q)) (clean_entry w q) (nothing_read w) h (own_start w) ok clean

-- The causes of dooms

own_deadline : (w : Setting) (q : Run) (n : Reading) (r d : ℕ) → is_run w.runs r ≡ true → lease_deadline (with_joined w q) n r d ≡ lease_deadline w n r d
own_deadline w q n r d own = ap (λ cs. min (planned_end (n.run r).planned d + tenth_up (estimate_to_last d cs)) greatest) (own_commands w.runs q r own)

same_overdue : (w : Setting) (q : Run) (n : Reading) (r d m : ℕ) → Shaped w n → (x : ℕ) → is_overdue (point (with_joined w q) n no_grips) r d m x ≡ is_overdue (point w n no_grips) r d m x
same_overdue w q n r d m shaped x =
    (λ k. not (is_doomed n x) && nat_lt (stamp_of n r) (stamp_of n x) && same_holds w q n no_grips shaped x d k && nat_lt (lease_deadline (with_joined w q) n x d) m)
    ∙ masked (not (is_doomed n x) && nat_lt (stamp_of n r) (stamp_of n x) && holds_device (point w n no_grips) x d) _ _
    (λ all. ap (λ t. nat_lt t m) (own_deadline w q n x d (live_own w n x shaped (first_holds _ _ (last_holds _ _ all)))))

pub shown : (w : Setting) (q : Run) (n : Reading) (r : ℕ) (cause : Cause) → ReadsOwn w n → is_run w.runs r ≡ true → shows w n r cause ≡ true → shows (with_joined w q) n r cause ≡ true
shown w q n r (MustDown c) reads own is = (λ k. (slice_index_or (own_commands w.runs q r own k) c no_command).must && has_answer n r c Down) ∙ is
shown w q n r (Refuted c x) reads own is = (λ k. fails (slice_index_or (own_commands w.runs q r own k) c no_command) (Found x) && has_answer n r c (Found x)) ∙ is
shown w q n r (Lost d) reads own is = is
shown w q n r (Revoked lender d deadline m) reads own is =
    (λ k. is_live n lender.0 && own_asks w q n lender.0 d.0 lends k
    && equals_some (find (λ x. same_overdue w q n lender.0 d.0 m reads.shaped x k) (live_before n lender.0)) r
    && (deadline == own_deadline w q n r d.0 own k))
    ∙ is
  where
    lends : is_run w.runs lender.0 ≡ true
    lends = live_own w n lender.0 reads.shaped (first_holds _ _ (first_holds _ _ (first_holds (is_live n lender.0 && asks_on w n lender.0 d.0 && equals_some (overdue_for (point w n no_grips) lender.0 d.0 m) r) _ is)))
shown w q n r (DownAtEnd d) reads own is =
    (λ k. is_none (slice_get (own_commands w.runs q r own k) (next_of n r)) && equals_some (same_down k) d.0) ∙ is
  where
    same_down : down_at_end (point (with_joined w q) n no_grips) r ≡ down_at_end (point w n no_grips) r
    same_down = λ k. if is_strict w.mode then find (λ d. has_touched n no_grips r d && not (n.up d)) (same_devices w q r own k) else None

justified_entry : (w : Setting) (q : Run) (n : Reading) (e : Entry) → ReadsOwn w n → IsTrue (may_follow w n e) → IsTrue (abort_is_justified w n e) → IsTrue (abort_is_justified (with_joined w q) n e)
justified_entry w q n (Arrived r m) reads ok is = refl
justified_entry w q n (Placed r at m) reads ok is = refl
justified_entry w q n (Did r c a) reads ok is = refl
justified_entry w q n (Undid r d drove) reads ok is = refl
justified_entry w q n (Fell d) reads ok is = refl
justified_entry w q n (Rose d) reads ok is = refl
justified_entry w q n (Doomed r cause) reads ok is = shown w q n r.0 cause reads (grind (arith, common_steps)) is
justified_entry w q n (Ended r e) reads ok is = refl

pub joined_justified : (w : Setting) (q : Run) (h : List Entry) → IsWellFormed w h → IsJustified w h → IsJustified (with_joined w q) h
joined_justified w q h ok is = along_joined w q (abort_is_justified w) (abort_is_justified (with_joined w q)) (justified_entry w q) (nothing_read w) h (own_start w) ok is

-- Isolation

-- with one number more, the last one
all_more : (f : ℕ → Bool) (at k : ℕ) → list_all f (range_with_len at k) ≡ true → f (at + k) ≡ true → list_all f (range_with_len at (suc k)) ≡ true
all_more f at zero all last = (λ k. last_at k && true) ∙ refl
  where
    last_at : f at ≡ true
    last_at = let same : at ≡ at + 0 = omega arith in ap f same ∙ last
all_more f at (suc k) all last =
    (λ i. first_holds (f at) _ all i && all_more f (at + 1) k (last_holds _ _ all) last_at i)
  where
    last_at : f ((at + 1) + k) ≡ true
    last_at = let same : (at + 1) + k ≡ at + suc k = omega arith in ap f same ∙ last

-- none is placed but the runs of the window
is_unplaced : (w : Setting) (n : Reading) → Shaped w n → is_some (n.run (1 + length w.runs)).placed ≡ false
is_unplaced w n shaped = by (is_some (n.run (1 + length w.runs)).placed) refl
  where
    by : (b : Bool) → is_some (n.run (1 + length w.runs)).placed ≡ b → b ≡ false
    by true e = absurd (let place = run_place w.runs (1 + length w.runs) ((shaped (1 + length w.runs)).known ((shaped (1 + length w.runs)).arrived e)) in let low : (1 + length w.runs) - 1 < length w.runs = place.1 in omega (arith, low))
    by false e = refl

alone : (w : Setting) (q : Run) (n : Reading) (r : ℕ) → ReadsOwn w n → is_run w.runs r ≡ true → is_alone w n r ≡ true → is_alone (with_joined w q) n r ≡ true
alone w q n r reads own is =
    ap (λ m. list_all (frees (with_joined w q)) (range_with_len 1 m)) (length-append w.runs (q ∷ []) ∙ one_more)
    ∙ (λ k. list_all (λ a. same_frees a k) (range_with_len 1 (suc (length w.runs))))
    ∙ all_more (frees w) 1 (length w.runs) is last
  where
    frees : Setting → ℕ → Bool
    frees u a = not (is_placed_before n a r && model_bars w.mode.model u.runs r a) || is_some (n.run a).ended

    one_more : length w.runs + 1 ≡ suc (length w.runs)
    one_more = omega arith

    bars_same : (a : ℕ) → is_run w.runs a ≡ true → (m : Visibility) → model_bars m (with_joined w q).runs r a ≡ model_bars m w.runs r a
    bars_same a mine Weak = refl
    bars_same a mine Global = refl
    bars_same a mine Partitioned = own_shares w.runs q a r mine own
    bars_same a mine Eventual = refl

    same_frees : (a : ℕ) → frees (with_joined w q) a ≡ frees w a
    same_frees a = λ k. not (masked (is_placed_before n a r) (model_bars w.mode.model (with_joined w q).runs r a) (model_bars w.mode.model w.runs r a) (λ placed. bars_same a ((reads.shaped a).known ((reads.shaped a).arrived (first_holds _ _ placed))) w.mode.model) k) || is_some (n.run a).ended

    last : frees w (1 + length w.runs) ≡ true
    last = λ k. not (is_unplaced w n reads.shaped k && nat_lt (stamp_of n (1 + length w.runs)) (stamp_of n r) && model_bars w.mode.model w.runs r (1 + length w.runs)) || is_some (n.run (1 + length w.runs)).ended

isolated_entry : (w : Setting) (q : Run) (n : Reading) (e : Entry) → ReadsOwn w n → IsTrue (may_follow w n e) → IsTrue (is_isolated w n e) → IsTrue (is_isolated (with_joined w q) n e)
isolated_entry w q n (Arrived r m) reads ok is = refl
isolated_entry w q n (Placed r at m) reads ok is = refl
isolated_entry w q n (Did r c a) reads ok is = alone w q n r.0 reads (grind (arith, common_steps)) is
isolated_entry w q n (Undid r d drove) reads ok is = alone w q n r.0 reads (grind (arith, common_steps)) is
isolated_entry w q n (Fell d) reads ok is = refl
isolated_entry w q n (Rose d) reads ok is = refl
isolated_entry w q n (Doomed r cause) reads ok is = refl
isolated_entry w q n (Ended r Committed) reads ok is =
    (λ k. list_all (λ d. not (did n r.0 d) || n.up d) (same_devices w q r.0 mine k)) ∙ is
  where
    mine : is_run w.runs r.0 ≡ true
    mine = grind (arith, common_steps)
isolated_entry w q n (Ended r (Aborted cause)) reads ok is = refl

pub joined_strict : (w : Setting) (q : Run) (h : List Entry) → IsWellFormed w h → IsStrict w h → IsStrict (with_joined w q) h
joined_strict w q h ok is = along_joined w q (is_isolated w) (is_isolated (with_joined w q)) (isolated_entry w q) (nothing_read w) h (own_start w) ok is

-- The calls of devices

same_tells : (w : Setting) (q : Run) (n : Reading) (d : ℕ) (e : Entry) → IsTrue (may_follow w n e) → tells_call (with_joined w q).runs d e ≡ tells_call w.runs d e
same_tells w q n d (Arrived r m) ok = refl
same_tells w q n d (Placed r at m) ok = refl
same_tells w q n d (Did r c a) ok = λ k. is_on d (slice_index_or (own_commands w.runs q r.0 mine k) c no_command) && is_told a
  where
    mine : is_run w.runs r.0 ≡ true
    mine = grind (arith, common_steps)
same_tells w q n d (Undid r e drove) ok = refl
same_tells w q n d (Fell e) ok = refl
same_tells w q n d (Rose e) ok = refl
same_tells w q n d (Doomed r cause) ok = refl
same_tells w q n d (Ended r e) ok = refl

told_from : (w : Setting) (q : Run) (n : Reading) (d : ℕ) (h : List Entry) (so_far : ℕ) → IsTrue (along w (may_follow w) n h)
    → fold (λ k e. k + (if tells_call (with_joined w q).runs d e then 1 else 0)) so_far h ≡ fold (λ k e. k + (if tells_call w.runs d e then 1 else 0)) so_far h
told_from w q n d [] so_far ok = refl
told_from w q n d (e ∷ h) so_far ok =
    ap (λ b. fold (λ k e. k + (if tells_call (with_joined w q).runs d e then 1 else 0)) (so_far + (if b then 1 else 0)) h) (same_tells w q n d e (first_holds _ _ ok))
    ∙ told_from w q (entry w n e) d h (so_far + (if tells_call w.runs d e then 1 else 0)) (last_holds _ _ ok)

pub same_told : (w : Setting) (q : Run) (h : List Entry) (d : ℕ) → IsWellFormed w h → told_calls (with_joined w q).runs h d ≡ told_calls w.runs h d
same_told w q h d ok = told_from w q (nothing_read w) d h 0 ok
