-- While a run holds a device, each other run at a command there waits; and the answer to a command that is not its run's last leaves the device held.
use Rattle.hub_core.proofs.Prelude.{Answer, Back, Bool, Command, Commands, Configuration, ConfigurationIsKept, Did, Down, Failed, Fine, Found, Grips, HandsOut, IsBlocked, IsTrue, Item, List, NeverRevokes, None, OfRun, OnDevice, Option, Point, Ran, Reading, RunNo, Setting, Skipped, Some, Waits, [], ap, arith, asks_on, before, behind_wait, busy_case, command_at, commands_of, common_steps, cond, cons_option, decide_command, did, dirty_case, down_case, entries_of, entries_on, entry, false, find, first_case, grip_wait, has_touched, holds, holds_device, if◌then◌else◌, is_access, is_at_command, is_doomed, is_live, is_none, is_open, is_ran, is_some, is_wait, is_weak, kept_by, length, list_any, live_runs, max, next_device, next_of, none_is, not, option_map, option_or, order_stands, overdue_for, pends, point, put_other, put_same, read_facts, read_of, reading, reading_more, refl, run_no, slice_get, standing, strict_case, subst, sym, take_while-cons, true, view_by, ℕ, ◌&&◌, ◌++◌, ◌==◌, ◌||◌, ◌∙◌, ◌∷◌, ◌≡◌, ◌≢◌}
use Rattle.hub_core.proofs.windows.StrongChoices.{command_current, command_is, live_stands}
use Rattle.hub_core.proofs.waiting.AtCommands.{IsAt, at_asks, at_command, at_open, command_choice, device_told}
use Rattle.hub_core.proofs.waiting.Moments.{calm_waits}
use Rattle.hub_core.specs.declared.waits.Why.TheVariants.{Behind}
use Rattle.lock_leasing.specs.Order.{OrderStands, is_touched, open_runs_are_last}

-- The runs before a run that is open

-- where a run of these items has touched the device, some item has
any_touched : (n : Reading) (g : Grips) (x d : ℕ) (line : List Item) → list_any (is_ran x) line ≡ true → has_touched n g x d ≡ true → list_any (is_touched n g d) line ≡ true
any_touched n g x d [] there touched = absurd (cc)
any_touched n g x d (Ran y ∷ is) there touched = elim (y.0 == x) as (λ b. (y.0 == x) ≡ b → (has_touched n g y.0 d || list_any (is_touched n g d) is) ≡ true) [
  | true ↦ (λ e. let same : x ≡ y.0 = grind (arith, common_steps) in rw (subst (λ q. has_touched n g q d ≡ true) same touched) refl)
  | false ↦ (λ e. let behind = any_touched n g x d is (grind (arith, common_steps)) touched in either (has_touched n g y.0 d) behind)
] refl
  where
    either : (b : Bool) → list_any (is_touched n g d) is ≡ true → (b || list_any (is_touched n g d) is) ≡ true
    either true e = refl
    either false e = e
any_touched n g x d (Failed e k ∷ is) there touched = any_touched n g x d is there touched
any_touched n g x d (Back e k ∷ is) there touched = any_touched n g x d is there touched

-- a run holds the device as one that is not doomed, and has touched it
pub record Holds (p : Point) (x d : ℕ) : Type 0 where
  pub live : is_live p.reading x ≡ true
  pub sound : is_doomed p.reading x ≡ false
  pub pending : pends p.setting p.reading x d ≡ true
  pub touched : has_touched p.reading p.grips x d ≡ true

pub holder_holds : (p : Point) (x d : ℕ) → Holds p x d → holds_device p x d ≡ true
holder_holds p x d at = rw (at.live, at.sound, at.pending) refl

-- along a line in which no run behind an open one has touched the device, a run that holds it stands before each other one that is open there
holder_first : (w : Setting) (n : Reading) (g : Grips) (x q d : ℕ) (line : List Item) → IsTrue (open_runs_are_last (point w n g) d line) → list_any (is_ran x) line ≡ true → Holds (point w n g) x d → is_open w n q d ≡ true → q ≢ x
    → is_some (find (λ y. holds_device (point w n g) y d) (live_runs n (before q line))) ≡ true
holder_first w n g x q d [] last there holds opened other = absurd (cc)
holder_first w n g x q d (Ran y ∷ is) last there holds opened other =
    ap (λ l. is_some (find (λ z. holds_device (point w n g) z d) (live_runs n l))) (take_while-cons (λ i. not (is_ran q i)) (Ran y) is)
    ∙ (elim (y.0 == q) as (λ b. (y.0 == q) ≡ b → is_some (find (λ z. holds_device (point w n g) z d) (live_runs n (cond (not b) (Ran y ∷ before q is) []))) ≡ true) [
      | true ↦ (λ e. absurd (own (grind (arith, common_steps))))
      | false ↦ (λ e. passes (y.0 == x) refl (λ there'. holder_first w n g x q d is rest there' holds opened other))
    ] refl)
  where
    rest : IsTrue (open_runs_are_last (point w n g) d is)
    rest = grind (arith, common_steps)

    -- it is no run behind q
    own : y.0 ≡ q → ⊥
    own same =
        let there' : (y.0 == x) ≡ false = apart same (y.0 == x) refl in
        let behind = any_touched n g x d is (grind (arith, common_steps)) holds.touched in
        let open' : is_open w n y.0 d ≡ true = subst (λ z. is_open w n z d ≡ true) (sym same) opened in
        let none : (not (is_open w n y.0 d) || not (list_any (is_touched n g d) is)) ≡ true = grind (arith, common_steps) in
        let both : (not true || not true) ≡ true = sym (ap (λ b. not b || not (list_any (is_touched n g d) is)) open' ∙ ap (λ b. not true || not b) behind) ∙ none in
        cc
      where
        apart : y.0 ≡ q → (b : Bool) → (y.0 == x) ≡ b → b ≡ false
        apart same true e = absurd (other (sym same ∙ (let at : y.0 ≡ x = grind (arith, common_steps) in at)))
        apart same false e = refl

    finds : (held : ℕ → Bool) (z : ℕ) (zs : List ℕ) → held z ≡ true → is_some (find held (z ∷ zs)) ≡ true
    finds held z zs e = rw e refl

    finds_on : (held : ℕ → Bool) (z : ℕ) (zs : List ℕ) → is_some (find held zs) ≡ true → is_some (find held (z ∷ zs)) ≡ true
    finds_on held z zs found = elim (held z) as (λ b. is_some (cond b (Some z) (find held zs)) ≡ true) [ true ↦ refl | false ↦ found ]

    passes : (b : Bool) → (y.0 == x) ≡ b → (list_any (is_ran x) is ≡ true → is_some (find (λ z. holds_device (point w n g) z d) (live_runs n (before q is))) ≡ true) → is_some (find (λ z. holds_device (point w n g) z d) (live_runs n (Ran y ∷ before q is))) ≡ true
    passes true e further =
        let same : x ≡ y.0 = grind (arith, common_steps) in
        let live : is_live n y.0 ≡ true = subst (λ z. is_live n z ≡ true) same holds.live in
        let held : holds_device (point w n g) y.0 d ≡ true = subst (λ z. holds_device (point w n g) z d ≡ true) same (holder_holds (point w n g) x d holds) in
        ap (λ b. is_some (find (λ z. holds_device (point w n g) z d) (cons_option (if b then Some y.0 else None) (live_runs n (before q is))))) live
        ∙ finds (λ z. holds_device (point w n g) z d) y.0 (live_runs n (before q is)) held
    passes false e further = elim (is_live n y.0) as (λ b. is_some (find (λ z. holds_device (point w n g) z d) (cons_option (if b then Some y.0 else None) (live_runs n (before q is)))) ≡ true) [
      | true ↦ finds_on (λ z. holds_device (point w n g) z d) y.0 (live_runs n (before q is)) (further (grind (arith, common_steps)))
      | false ↦ further (grind (arith, common_steps))
    ]
holder_first w n g x q d (Failed e k ∷ is) last there holds opened other =
    ap (λ l. is_some (find (λ z. holds_device (point w n g) z d) (live_runs n l))) (take_while-cons (λ i. not (is_ran q i)) (Failed e k) is)
    ∙ holder_first w n g x q d is (grind (arith, common_steps)) there holds opened other
holder_first w n g x q d (Back e k ∷ is) last there holds opened other =
    ap (λ l. is_some (find (λ z. holds_device (point w n g) z d) (live_runs n l))) (take_while-cons (λ i. not (is_ran q i)) (Back e k) is)
    ∙ holder_first w n g x q d is (grind (arith, common_steps)) there holds opened other

-- so the other one is behind some run
pub behind_holder : (p : Point) (x q d : ℕ) → IsTrue (open_runs_are_last p d p.reading.line) → list_any (is_ran x) p.reading.line ≡ true → Holds p x d → is_open p.setting p.reading q d ≡ true → q ≢ x → is_some (behind_wait p q d) ≡ true
behind_holder p x q d last there holds opened other = holder_first p.setting p.reading p.grips x q d p.reading.line last there holds opened other

-- a next command behind a run waits, where no lease is overdue, but under the weak model
pub behind_waits : (p : Point) (r m k : ℕ) (c : Command) → is_weak p.setting.mode ≡ false → holds c.when (p.reading.run r).register ≡ true → overdue_for p r c.device.0 m ≡ None → is_some (behind_wait p r c.device.0) ≡ true → is_wait (decide_command p r m k c) ≡ true
behind_waits p r m k c strong guard current behind = ap is_wait (command_is p r m k c strong guard ∙ command_current p r m k c current) ∙ by_run (behind_wait p r c.device.0) behind
  where
    by_run : (o : Option ℕ) → is_some o ≡ true → is_wait (first_case (option_map (λ x. Waits (Behind c.device (run_no x))) o ∷ dirty_case p r c ∷ strict_case p r ∷ busy_case p r c ∷ down_case p r k c ∷ []) (HandsOut c.device.0 (Commands k))) ≡ true
    by_run None e = absurd (cc)
    by_run (Some x) e = refl

-- while a run that is not doomed has touched a device and has a command left there, each other run that asks for it is blocked, for which no lease there is ever overdue
pub held_waits : (s : Configuration) (rounds opened : ℕ) (held : ℕ → ℕ) (x q d : ℕ) → ConfigurationIsKept s rounds opened held → is_live (read_of s) x ≡ true → is_doomed (read_of s) x ≡ false → has_touched (read_of s) s.grips x d ≡ true
    → pends s.setting (read_of s) x d ≡ true → q ≢ x → next_device s q ≡ Some d → asks_on s.setting (read_of s) q d ≡ true → NeverRevokes s q d → IsBlocked s q
held_waits s rounds opened held x q d kept live sound touched pending other next asks calm =
    calm_waits s q d 0 at calm (ap is_wait (command_choice s q d 0 at)
    ∙ behind_waits (point w n s.grips) q (max s.moment 0) (next_of n q) at.command kept.strong (sym (at_asks (point w n s.grips) q d at) ∙ asks)
    (ap (λ e. overdue_for (point w n s.grips) q e (max s.moment 0)) at.device ∙ calm kept.strong asks (max s.moment 0)) behind)
  where
    w : Setting
    w = s.setting

    n : Reading
    n = read_of s

    at : IsAt (point w n s.grips) q d
    at = at_command s q d kept.history.well_formed next

    stands : OrderStands (point w n s.grips)
    stands = order_stands w n s.grips held (read_facts w (entries_of s.history) kept.history.well_formed) kept.order

    behind : is_some (behind_wait (point w n s.grips) q at.command.device.0) ≡ true
    behind =
        ap (λ e. is_some (behind_wait (point w n s.grips) q e)) at.device
        ∙ behind_holder (point w n s.grips) x q d (stands.last d) (live_stands n x (standing w (entries_of s.history) kept.history.well_formed) live)
        (record { live = live; sound = sound; pending = pending; touched = touched }) (at_open (point w n s.grips) q d at) other

-- After an answer

-- the next device, of what it is made
abbrev device_by : Setting → ℕ → OfRun → Option ℕ → Option ℕ
device_by w q o grip = if (is_some o.placed && is_none o.ended) && not (is_some o.doomed) && is_none grip then option_map (λ c. c.device.0) (slice_get (commands_of w.runs q) (length o.answers)) else None

-- a run whose own record is the same, and that has no grip, has the same next device
pub next_kept : (s t : Configuration) (q d : ℕ) → t.setting ≡ s.setting → (read_of t).run q ≡ (read_of s).run q → grip_wait s.setting t.grips q ≡ None → next_device s q ≡ Some d → next_device t q ≡ Some d
next_kept s t q d setting same free next =
    ap (λ w. device_by w q ((read_of t).run q) (grip_wait w t.grips q)) setting
    ∙ ap (λ o. device_by s.setting q o (grip_wait s.setting t.grips q)) same
    ∙ ap (device_by s.setting q ((read_of s).run q)) (free ∙ sym was)
    ∙ next
  where
    was : grip_wait s.setting s.grips q ≡ None
    was = let told = device_told (is_at_command s q) _ d next in none_is (grip_wait s.setting s.grips q) (grind (arith, common_steps, told.0))

-- the reading after a step whose one entry is an answer
pub read_after : (s t : Configuration) (maker : ℕ) (x : RunNo) (k : ℕ) (a : Answer) → t.history ≡ s.history ++ kept_by maker (Did x k a ∷ []) → t.setting ≡ s.setting → read_of t ≡ entry s.setting (read_of s) (Did x k a)
read_after s t maker x k a history setting =
    ap (λ w. reading w (entries_of t.history)) setting
    ∙ ap (λ h. reading s.setting (entries_of h)) history
    ∙ ap (reading s.setting) (entries_on s.history maker (Did x k a ∷ []))
    ∙ reading_more s.setting (entries_of s.history) (Did x k a)

-- an answer leaves the next device of each other run
pub next_after_answer : (s t : Configuration) (maker : ℕ) (x : RunNo) (k : ℕ) (a : Answer) (q d : ℕ) → t.history ≡ s.history ++ kept_by maker (Did x k a ∷ []) → t.setting ≡ s.setting → q ≢ x.0 → grip_wait s.setting t.grips q ≡ None
    → next_device s q ≡ Some d → next_device t q ≡ Some d
next_after_answer s t maker x k a q d history setting other free next =
    next_kept s t q d setting (ap (λ n. n.run q) (read_after s t maker x k a history setting) ∙ put_other (read_of s).run x.0 _ q other) free next

-- after an answer that is an access its run has one on the device
pub did_now : (s t : Configuration) (maker : ℕ) (x : RunNo) (k : ℕ) (a : Answer) (d : ℕ) → t.history ≡ s.history ++ kept_by maker (Did x k a ∷ []) → t.setting ≡ s.setting → (command_at s.setting.runs x.0 k).device.0 ≡ d → is_access a ≡ true → did (read_of t) x.0 d ≡ true
did_now s t maker x k a d history setting on access =
    ap (λ n. did n x.0 d) (read_after s t maker x k a history setting) ∙ subst (λ e. did (entry s.setting n (Did x k a)) x.0 e ≡ true) on there
  where
    n : Reading
    n = read_of s

    e : ℕ
    e = (command_at s.setting.runs x.0 k).device.0

    seen : (v : Option Bool) (b : Answer) → is_access b ≡ true → is_some (option_or v (view_by b)) ≡ true
    seen (Some v) b access = refl
    seen None Fine access = refl
    seen None (Found y) access = refl
    seen None Down access = refl
    seen None Skipped access = absurd (cc)

    there : did (entry s.setting n (Did x k a)) x.0 e ≡ true
    there = ap (λ (o : OfRun). is_some (o.on e).view) (put_same n.run x.0 _) ∙ ap (λ (o : OnDevice). is_some o.view) (put_same (n.run x.0).on e _) ∙ seen ((n.run x.0).on e).view a access
