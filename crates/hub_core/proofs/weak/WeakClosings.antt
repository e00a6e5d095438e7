-- What follows of a window of the weak model: its sizes, and what it is when it is closed.
use Rattle.hub_core.proofs.Prelude.{Arrived, Bool, CallsAreAccounted, Committed, Configuration, Did, Doomed, Down, DownAtEnd, Ended, Entry, Fell, Fine, Found, IsJustified, IsLegalWindow, IsSeriallyLegal, IsTrue, IsWeaklyLegal, IsWellFormed, List, Lost, MustDown, None, Placed, Reading, Refuted, Revoked, Rose, Setting, Skipped, Some, Stand, Undid, [], abort_is_justified, all_ended, along, and_parts, ap, command_at, each_entry, entries_of, entry, false, history_of, is_run, keeps_leases, length, list_all, nothing_read, read_of, reading, refl, sees_down, stand_at, subst, sym, true, weakly_allowed, ℕ, ◌<◌, ◌||◌, ◌∙◌, ◌∷◌, ◌≡◌}
use Rattle.history_book.specs.declared.records.WindowRecord.{WindowRecord}
use Rattle.hub_core.proofs.kept.Sizes.{steady_up}
use Rattle.hub_core.proofs.windows.CalmHistories.{IsPlain, NoneFailed, all_homed, along_less, downs_told}
use Rattle.hub_core.proofs.windows.Closings.{IsQuiet, all_have_ended, homed_in, plain_committed}
use Rattle.hub_core.specs.MustChecks.{has_must_check}
use Rattle.hub_core.specs.WeakKept.{WeakIsKept}

-- What is allowed under the weak model

-- a doom shows its cause
allowed_shows : (w : Setting) (n : Reading) (e : Entry) → weakly_allowed w n e ≡ true → abort_is_justified w n e ≡ true
allowed_shows w n (Arrived r m) ok = refl
allowed_shows w n (Placed r at m) ok = refl
allowed_shows w n (Did r c a) ok = refl
allowed_shows w n (Undid r d drove) ok = refl
allowed_shows w n (Fell d) ok = refl
allowed_shows w n (Rose d) ok = refl
allowed_shows w n (Doomed r (MustDown c)) ok = ok
allowed_shows w n (Doomed r (Refuted c x)) ok = ok
allowed_shows w n (Doomed r (Lost d)) ok = absurd (cc)
allowed_shows w n (Doomed r (Revoked lender d deadline m)) ok = absurd (cc)
allowed_shows w n (Doomed r (DownAtEnd d)) ok = absurd (cc)
allowed_shows w n (Ended r e) ok = refl

pub weak_justified : (s : Configuration) (rounds opened : ℕ) (held : ℕ → ℕ) → WeakIsKept s rounds opened held → IsJustified s.setting (entries_of s.history)
weak_justified s rounds opened held kept = along_less s.setting (weakly_allowed s.setting) (abort_is_justified s.setting) (nothing_read s.setting) (entries_of s.history) (allowed_shows s.setting) kept.allowed

-- Down is told where the device is counted down
allowed_downs : (w : Setting) (n : Reading) (e : Entry) → weakly_allowed w n e ≡ true → downs_told w n e ≡ true
allowed_downs w n (Arrived r m) ok = refl
allowed_downs w n (Placed r at m) ok = refl
allowed_downs w n (Did r c Fine) ok = refl
allowed_downs w n (Did r c (Found x)) ok = refl
allowed_downs w n (Did r c Skipped) ok = refl
allowed_downs w n (Did r c Down) ok = ap (λ b. b || sees_down n r.0 (command_at w.runs r.0 c).device.0) ok
allowed_downs w n (Undid r d drove) ok = refl
allowed_downs w n (Fell d) ok = refl
allowed_downs w n (Rose d) ok = refl
allowed_downs w n (Doomed r cause) ok = refl
allowed_downs w n (Ended r e) ok = refl

-- no doom is for a lease
allowed_leases : (w : Setting) (n : Reading) (e : Entry) → weakly_allowed w n e ≡ true → keeps_leases e ≡ true
allowed_leases w n (Arrived r m) ok = refl
allowed_leases w n (Placed r at m) ok = refl
allowed_leases w n (Did r c a) ok = refl
allowed_leases w n (Undid r d drove) ok = refl
allowed_leases w n (Fell d) ok = refl
allowed_leases w n (Rose d) ok = refl
allowed_leases w n (Doomed r (MustDown c)) ok = refl
allowed_leases w n (Doomed r (Refuted c x)) ok = refl
allowed_leases w n (Doomed r (Lost d)) ok = refl
allowed_leases w n (Doomed r (Revoked lender d deadline m)) ok = absurd (cc)
allowed_leases w n (Doomed r (DownAtEnd d)) ok = refl
allowed_leases w n (Ended r e) ok = refl

-- a test of the entries alone
all_along : (w : Setting) (test : Entry → Bool) (n : Reading) (h : List Entry) → IsTrue (along w (λ m e. test e) n h) → IsTrue (list_all test h)
all_along w test n [] all = refl
all_along w test n (e ∷ h) all = let rest : IsTrue (list_all test h) = all_along w test (entry w n e) h (and_parts (test e) (along w (λ m x. test x) (entry w n e) h) all).1 in rw ((and_parts (test e) (along w (λ m x. test x) (entry w n e) h) all).0, rest) refl

weak_plain : (s : Configuration) (rounds opened : ℕ) (held : ℕ → ℕ) → WeakIsKept s rounds opened held → IsPlain s.setting (entries_of s.history)
weak_plain s rounds opened held kept =
    record {
      homed = all_homed s.setting rounds opened kept.opens;
      well_formed = kept.well_formed;
      downs = along_less w (weakly_allowed w) (downs_told w) (nothing_read w) (entries_of s.history) (allowed_downs w) kept.allowed;
      justified = weak_justified s rounds opened held kept;
      unrevoked = all_along w keeps_leases (nothing_read w) (entries_of s.history) (along_less w (weakly_allowed w) (λ n e. keeps_leases e) (nothing_read w) (entries_of s.history) (allowed_leases w) kept.allowed);
    }
  where
    w : Setting
    w = s.setting

-- What is out

-- A quiet window

-- no device is out
pub weak_none_out : (s : Configuration) (rounds opened : ℕ) (held : ℕ → ℕ) (d : ℕ) → WeakIsKept s rounds opened held → IsQuiet s → s.grips d ≡ None
weak_none_out s rounds opened held d kept quiet = homed_in s d kept.grips quiet

-- the last state has each device at the value that the hub holds, up or down as it is counted
pub record IsHeldState (s : Configuration) (held : ℕ → ℕ) (last : List Stand) : Type 0 where
  pub size : length last ≡ length s.setting.first
  pub each : (d : ℕ) → d < length s.setting.first → stand_at last d ≡ record { value = held d; up = (read_of s).up d }

-- what its record tells, which claims no order
pub record IsWeakRecordOf (s : Configuration) (held : ℕ → ℕ) (closed : WindowRecord) : Type 0 where
  pub mode : closed.mode ≡ s.setting.mode
  pub first : closed.first.devices.items ≡ s.setting.first
  pub history : closed.history.items ≡ s.history
  pub unclaimed : closed.order.items ≡ []
  pub last : IsHeldState s held closed.last.devices.items
  pub accounted : CallsAreAccounted s.setting (entries_of s.history) closed.turns.items closed.faults.items

-- it is a legal window
pub weak_legal : (s : Configuration) (rounds opened : ℕ) (held : ℕ → ℕ) (closed : WindowRecord) → WeakIsKept s rounds opened held → IsQuiet s → IsWeakRecordOf s held closed → IsWeaklyLegal s.setting closed
weak_legal s rounds opened held closed kept quiet told =
    record {
      mode = told.mode;
      first = told.first;
      well_formed = of_history (λ h. IsWellFormed s.setting h) kept.well_formed;
      ended = of_history (λ h. IsTrue (all_ended s.setting h)) (all_have_ended s quiet);
      accounted = of_history (λ h. CallsAreAccounted s.setting h closed.turns.items closed.faults.items) told.accounted;
      allowed = of_history (λ h. IsTrue (each_entry s.setting (weakly_allowed s.setting) h)) kept.allowed;
      size = told.last.size;
      counted = λ d within. of_history (λ h. (stand_at closed.last.devices.items d).up ≡ (reading s.setting h).up d) (ap (λ (x : Stand). x.up) (told.last.each d within));
      values = λ d within. of_history (λ h. (stand_at closed.last.devices.items d).value ≡ (reading s.setting h).last d) (ap (λ (x : Stand). x.value) (told.last.each d within) ∙ kept.held_is d within);
      unclaimed = told.unclaimed;
    }
  where
    of_history : (P : List Entry → Type 0) → P (entries_of s.history) → P (history_of closed)
    of_history P p = subst (λ h. P (entries_of h)) (sym told.history) p

pub weak_legal_window : (s : Configuration) (rounds opened : ℕ) (held : ℕ → ℕ) (closed : WindowRecord) → WeakIsKept s rounds opened held → IsQuiet s → IsWeakRecordOf s held closed → IsLegalWindow s.setting closed
weak_legal_window s rounds opened held closed kept quiet told = subst under_weak (sym kept.weak) (weak_legal s rounds opened held closed kept quiet told)
  where
    under_weak : Bool → Type 0
    under_weak true = IsWeaklyLegal s.setting closed
    under_weak false = IsSeriallyLegal s.setting closed

-- where no device fails, each run that has no must `check` has committed, and each device is up
pub record EndsWell (s : Configuration) : Type 0 where
  pub commits : (r : ℕ) → is_run s.setting.runs r ≡ true → has_must_check s.setting.runs r ≡ false → ((read_of s).run r).ended ≡ Some Committed
  pub up : (d : ℕ) → d < length s.setting.first → (read_of s).up d ≡ true

pub weak_ends : (s : Configuration) (rounds opened : ℕ) (held : ℕ → ℕ) → WeakIsKept s rounds opened held → IsQuiet s → NoneFailed s → EndsWell s
weak_ends s rounds opened held kept quiet calm =
    record {
      commits = λ r run none. plain_committed s r (weak_plain s rounds opened held kept) quiet calm run none;
      up = λ d within. steady_up s.setting (entries_of s.history) d kept.well_formed (calm.up d within) (calm.steady d within);
    }
