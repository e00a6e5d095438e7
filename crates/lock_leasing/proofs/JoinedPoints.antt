-- What the words on a point say stays as it is where a run joins the window: who holds a device, who asks for it, where a run is placed, and what may be out.
use Rattle.lock_leasing.proofs.Prelude.{At, Back, Denial, DeniedBy, Failed, Fcfs, Grips, GripsFit, IsScheduled, IsTrue, Item, JustInTime, MayBeOut, None, Option, Placing, Ran, Reading, ReadsOwn, Run, Scheduler, Setting, Shaped, Some, Timeline, ap, arith, asks_on, at_end, binds, chosen, common_steps, denial_of, denied_by, effective_writer_of, false, filter, find, first_holds, first_place, first_some, has_effect, has_touched, holds, holds_device, if◌then◌else◌, is_committed, is_doomed, is_live, is_on, is_run, just_in_time, length, list_any, live_own, live_runs, masked, max, nat_le, next_of, of_run, option_map, option_or, others, own_commands, own_follows, own_pends, own_touches, patience, pends, point, reads_first, reads_unwritten, refl, same_devices, same_gap, same_split, scheduled_place, scheduler_of, slice_get, split_at, split_of, sym, take, timeline, touches, true, unwrap_or, up_to_last, ℕ, ◌&&◌, ◌+◌, ◌==◌, ◌||◌, ◌∙◌, ◌≡◌}
use Rattle.history_book.specs.Joined.{with_joined}
use Rattle.history_book.specs.Lines.{up_to_first}
use Rattle.history_book.specs.WellFormed.{may_follow}
use Rattle.history_book.specs.declared.entries.Entry.TheVariants.{Arrived, Did, Doomed, Ended, Fell, Placed, Rose, Undid}
use Rattle.history_book.specs.declared.entries.Entry.{Entry}

-- Who holds a device

pub same_holds : (w : Setting) (q : Run) (n : Reading) (g : Grips) → Shaped w n → (r d : ℕ) → holds_device (point (with_joined w q) n g) r d ≡ holds_device (point w n g) r d
same_holds w q n g shaped r d = masked (is_live n r) _ _ (λ live. held (live_own w n r shaped live))
  where
    held : is_run w.runs r ≡ true → (if is_doomed n r then touches (with_joined w q).runs r d && has_effect n g r d else pends (with_joined w q) n r d) ≡ (if is_doomed n r then touches w.runs r d && has_effect n g r d else pends w n r d)
    held own = λ k. if is_doomed n r then own_touches w.runs q r d own k && has_effect n g r d else own_pends w q n r d own k

pub own_asks : (w : Setting) (q : Run) (n : Reading) (r d : ℕ) → is_run w.runs r ≡ true → asks_on (with_joined w q) n r d ≡ asks_on w n r d
own_asks w q n r d own = ap (λ cs. unwrap_or (option_map (λ c. is_on d c && holds c.when (n.run r).register) (slice_get cs (next_of n r))) false) (own_commands w.runs q r own)

-- Places

same_binds : (w : Setting) (q : Run) (n : Reading) (g : Grips) (r : ℕ) → is_run w.runs r ≡ true → (i : Item) → binds (point (with_joined w q) n g) r i ≡ binds (point w n g) r i
same_binds w q n g r own (Ran x) = λ k. list_any (has_touched n g x.0) (same_devices w q r own k) || (own_follows w.runs q r x.0 own k && is_committed n x.0)
same_binds w q n g r own (Failed d e) = own_touches w.runs q r d.0 own
same_binds w q n g r own (Back d e) = own_touches w.runs q r d.0 own

same_first_place : (w : Setting) (q : Run) (n : Reading) (g : Grips) (r : ℕ) → is_run w.runs r ≡ true → first_place (point (with_joined w q) n g) r ≡ first_place (point w n g) r
same_first_place w q n g r own = λ k. max (up_to_last (λ i. same_binds w q n g r own i k) n.line) (up_to_first (of_run (is_live n)) n.line)

same_denied : (w : Setting) (q : Run) (n : Reading) (g : Grips) (r d : ℕ) → Shaped w n → is_run w.runs r ≡ true → denied_by (point (with_joined w q) n g) r d ≡ denied_by (point w n g) r d
same_denied w q n g r d shaped own =
    λ k. option_or
    (find (λ x. same_holds w q n g shaped x d k) (live_runs n (take (same_first_place w q n g r own k) n.line)))
    (if same_reads k then live_writer (effective_writer_of n g d) else None)
  where
    live_writer : Option ℕ → Option ℕ
    live_writer None = None
    live_writer (Some x) = if is_live n x then Some x else None

    same_reads : reads_first (with_joined w q).runs r d ≡ reads_first w.runs r d
    same_reads = ap (λ cs. reads_unwritten (filter (is_on d) cs)) (own_commands w.runs q r own)

same_denial : (w : Setting) (q : Run) (n : Reading) (g : Grips) (r : ℕ) → Shaped w n → is_run w.runs r ≡ true → denial_of (point (with_joined w q) n g) r ≡ denial_of (point w n g) r
same_denial w q n g r shaped own = λ k. first_some (λ d. option_map (λ x. record { device = d; run = x }) (same_denied w q n g r d shaped own k)) (same_devices w q r own k)

same_jit : (w : Setting) (q : Run) (n : Reading) (g : Grips) (r m : ℕ) → Shaped w n → is_run w.runs r ≡ true → just_in_time (point (with_joined w q) n g) r m ≡ just_in_time (point w n g) r m
same_jit w q n g r m shaped own = λ k. admit (same_first_place w q n g r own k) (same_denial w q n g r shaped own k)
  where
    admit : ℕ → Option Denial → Placing
    admit first None = At (split_at n.line first)
    admit first (Some x) =
        if nat_le (unwrap_or (n.run r).arrived 0 + patience) m then at_end n
        else DeniedBy x.device x.run

same_place : (w : Setting) (q : Run) (n : Reading) (g : Grips) (r m : ℕ) → ReadsOwn w n → is_run w.runs r ≡ true → scheduled_place (point (with_joined w q) n g) r m ≡ scheduled_place (point w n g) r m
same_place w q n g r m reads own = by_scheduler (scheduler_of w.mode)
  where
    place : Setting → Scheduler → Placing
    place u Fcfs = at_end n
    place u JustInTime = just_in_time (point u n g) r m
    place u Timeline = timeline u n r m

    by_scheduler : (s : Scheduler) → place (with_joined w q) s ≡ place w s
    by_scheduler Fcfs = refl
    by_scheduler JustInTime = same_jit w q n g r m reads.shaped own
    by_scheduler Timeline = ap (λ set. At (record { front = chosen set n.line; back = others set n.line })) (same_gap w q n r m reads.shaped reads.none own)

-- What may be out

joined_out : (w : Setting) (q : Run) (n : Reading) (g : Grips) → Shaped w n → MayBeOut (point w n g) → MayBeOut (point (with_joined w q) n g)
joined_out w q n g shaped out = record {
  commands = λ d r k is. asks d r k (out.commands d r k is);
  undos = out.undos;
  one = out.one;
}
  where
    asks : (d r k : ℕ) → ((is_live n r && asks_on w n r d) && (k == next_of n r)) ≡ true → ((is_live n r && asks_on (with_joined w q) n r d) && (k == next_of n r)) ≡ true
    asks d r k all =
        (λ i. (is_live n r && own_asks w q n r d (live_own w n r shaped (first_holds _ _ (first_holds _ _ all))) i) && (k == next_of n r)) ∙ all

pub joined_grips : (w : Setting) (q : Run) (n : Reading) (g : Grips) → Shaped w n → GripsFit (point w n g) → GripsFit (point (with_joined w q) n g)
joined_grips w q n g shaped fit = record { homed = fit.homed; runs = joined_out w q n g shaped fit.runs; probes = fit.probes }

-- a place that was the scheduler's is the scheduler's
pub joined_scheduled : (w : Setting) (q : Run) (n : Reading) (e : Entry) → ReadsOwn w n → IsTrue (may_follow w n e) → IsScheduled w n e → IsScheduled (with_joined w q) n e
joined_scheduled w q n (Arrived r m) reads ok is = tt
joined_scheduled w q n (Placed r at m) reads ok is =
    let mine : is_run w.runs r.0 ≡ true = grind (arith, common_steps) in
    let split : split_of (with_joined w q) n r.0 at m ≡ split_of w n r.0 at m = same_split w q n r.0 at m reads.shaped reads.none mine in (
      is.0,
      joined_out w q n is.0 reads.shaped is.1,
      same_place w q n is.0 r.0 m reads mine ∙ is.2 ∙ ap At (sym split),
      ap (λ s. length s.front) split ∙ is.3,
    )
joined_scheduled w q n (Did r c a) reads ok is = tt
joined_scheduled w q n (Undid r d drove) reads ok is = tt
joined_scheduled w q n (Fell d) reads ok is = tt
joined_scheduled w q n (Rose d) reads ok is = tt
joined_scheduled w q n (Doomed r cause) reads ok is = tt
joined_scheduled w q n (Ended r e) reads ok is = tt
