-- Where every actor has ended the hub is quiet, and no hand holds a grip.
use Rattle.run_replay.proofs.Prelude.{Bool, Commands, Configuration, Each, Gripped, Home, IsTrue, None, Option, Out, Place, PlayerIsKept, PlayerState, Probes, Purpose, Ready, Some, Undoes, [], ap, are_live, arith, common_steps, configuration_of, false, filter, find, find_none, grip_in, is_ended, is_full, is_live, is_none, is_out, is_run, is_some, length, not, not_none, not_quiet, option_map, point_of, progress_at, range_with_len, read_of, refl, run_there, slice_get, slice_get_within, subst, suc, sym, true, unwrap_or, zero, ℕ, ◌&&◌, ◌<◌, ◌||◌, ◌∙◌, ◌≡◌}
use Rattle.lock_leasing.specs.Places.{GripsFit}
use Rattle.run_replay.proofs.Progress.{each_at}
use Rattle.run_replay.proofs.Settings.{within}

-- each run has ended and no device is out
pub quiet_where : (s : Configuration) → ((r : ℕ) → is_run s.setting.runs r ≡ true → is_some ((read_of s).run r).ended ≡ true) → ((d : ℕ) → s.grips d ≡ None) → not_quiet s ≡ None
quiet_where s ended home =
    let live : find (λ r. is_none ((read_of s).run r).ended) (range_with_len 1 (length s.setting.runs))
    ≡ None = find_none (λ r. is_none ((read_of s).run r).ended) 1 (length s.setting.runs)
    (λ r low high. not_none ((read_of s).run r).ended (ended r (run_there s.setting.runs r (omega (arith, low)) (omega (arith, high))))) in
    let out : find (is_out s.grips) (range_with_len 0 (length s.setting.first)) ≡ None = find_none (is_out s.grips) 0 (length s.setting.first) (λ d low high. ap is_some (home d)) in
    rw (live, out) refl

-- where none is left that has not ended each actor has ended
none_left : (p : ℕ → Bool) (n : ℕ) → filter (λ a. not (p a)) (range_with_len 0 n) ≡ [] → (a : ℕ) → a < n → p a ≡ true
none_left p n none a low = by_test (p a) refl
  where
    by_test : (b : Bool) → p a ≡ b → p a ≡ true
    by_test true e = e
    by_test false e = absurd (each_at (λ x. ⊥) (λ x. not (p x)) 0 n a (subst (Each (λ x. ⊥)) (sym none) tt) (omega arith) (omega (arith, low)) (ap not e))

pub each_ended : {D : Type 0} (s : PlayerState D) → are_live s ≡ [] → (a : ℕ) → a < length s.grips → is_ended s a ≡ true
each_ended s none a low = none_left (is_ended s) (length s.grips) none a low

runs_ended : {D : Type 0} (s : PlayerState D) → PlayerIsKept s → are_live s ≡ [] → (r : ℕ) → is_run s.hub.setting.runs r ≡ true → is_some ((read_of (configuration_of s.hub)).run r).ended ≡ true
runs_ended s kept none zero run = absurd (cc)
runs_ended s kept none (suc r) run =
    let low = within s.hub.setting.runs r run in
    let actors = kept.actors in
    by_or (is_run s.hub.setting.runs (suc r)) (is_some ((read_of (configuration_of s.hub)).run (suc r)).ended) run (each_ended s none (suc r) (omega (arith, low, actors)))
  where
    by_or : (a b : Bool) → a ≡ true → (not a || b) ≡ true → b ≡ true
    by_or true b is e = e
    by_or false b is e = absurd (cc)

-- no actor holds a grip
pub hands_are_empty : {D : Type 0} (s : PlayerState D) → PlayerIsKept s → GripsFit (point_of (configuration_of s.hub)) → are_live s ≡ [] → (a : ℕ) (grip : Gripped D Ready) → slice_get s.grips a ≡ Some (Some grip) → ⊥
hands_are_empty {D = D} s kept fit none a grip hand = by_purpose a (progress_at s.hub.devices grip.slip.device.0).purpose low ended hand out
  where
    low : a < length s.grips
    low = slice_get_within s.grips a (Some grip) hand

    ended : is_ended s a ≡ true
    ended = each_ended s none a low

    out : (configuration_of s.hub).grips grip.slip.device.0 ≡ Some (record { maker = a; purpose = (progress_at s.hub.devices grip.slip.device.0).purpose })
    out = ap (λ o. grip_in o (progress_at s.hub.devices grip.slip.device.0).purpose) (kept.held a grip hand) ∙ ap (λ m. Some (record { maker = m; purpose = (progress_at s.hub.devices grip.slip.device.0).purpose })) (kept.makers a grip hand)

    live_not : (r : ℕ) → is_live (read_of (configuration_of s.hub)) r ≡ true → is_some ((read_of (configuration_of s.hub)).run r).ended ≡ false
    live_not r live = by_end ((read_of (configuration_of s.hub)).run r).ended (grind (arith, common_steps))
      where
        by_end : {A : Type 0} (o : Option A) → is_none o ≡ true → is_some o ≡ false
        by_end None e = refl
        by_end (Some x) e = absurd (cc)

    is_live_of : (r : ℕ) (b c : Bool) → IsTrue (is_live (read_of (configuration_of s.hub)) r && b && c) → is_live (read_of (configuration_of s.hub)) r ≡ true
    is_live_of r b c e = grind (arith, common_steps)

    run_of : (r : ℕ) → suc r < length s.grips → is_run s.hub.setting.runs (suc r) ≡ true
    run_of r less = let actors = kept.actors in run_there s.hub.setting.runs (suc r) (omega arith) (omega (arith, less, actors))

    run_not : (r : ℕ) → suc r < length s.grips → is_ended s (suc r) ≡ true → is_live (read_of (configuration_of s.hub)) (suc r) ≡ true → ⊥
    run_not r less over live = absurd (let run = run_of r less in let going = live_not (suc r) live in let both : is_ended s (suc r) ≡ false = rw (run, going) refl in let no : true ≡ false = sym over ∙ both in cc)

    by_purpose : (b : ℕ) (purpose : Purpose) → b < length s.grips → is_ended s b ≡ true → slice_get s.grips b ≡ Some (Some grip) → (configuration_of s.hub).grips grip.slip.device.0 ≡ Some (record { maker = b; purpose = purpose }) → ⊥
    by_purpose zero purpose less over holds at = absurd (let full : is_full s 0 ≡ true = ap (λ o. unwrap_or (option_map is_some o) false) holds in let both : is_ended s zero ≡ false = rw full refl in let no : true ≡ false = sym over ∙ both in cc)
    by_purpose (suc r) (Commands k) less over holds at = run_not r less over (is_live_of (suc r) _ _ (fit.runs.commands grip.slip.device.0 (suc r) k at))
    by_purpose (suc r) (Undoes v) less over holds at = run_not r less over (let undo = fit.runs.undos grip.slip.device.0 (suc r) v at in grind (arith, common_steps))
    by_purpose (suc r) (Probes v) less over holds at = absurd (let no = fit.probes grip.slip.device.0 (suc r) v at in omega (arith, no))

-- every device is home
devices_home : {D : Type 0} (s : PlayerState D) → PlayerIsKept s → ((a : ℕ) (grip : Gripped D Ready) → slice_get s.grips a ≡ Some (Some grip) → ⊥) → (d : ℕ) → (configuration_of s.hub).grips d ≡ None
devices_home {D = D} s kept empty d = by_place (slice_get s.hub.places d) refl
  where
    by_place : (o : Option (Place D)) → slice_get s.hub.places d ≡ o → (configuration_of s.hub).grips d ≡ None
    by_place None at = ap (λ o. grip_in o (progress_at s.hub.devices d).purpose) at
    by_place (Some (Home device)) at = ap (λ o. grip_in o (progress_at s.hub.devices d).purpose) at
    by_place (Some (Out slip task)) at = absurd (let hand = kept.out d slip task at in empty slip.maker hand.grip hand.there)

-- the hub is quiet
pub quiet_at_end : {D : Type 0} (s : PlayerState D) → PlayerIsKept s → GripsFit (point_of (configuration_of s.hub)) → are_live s ≡ [] → not_quiet (configuration_of s.hub) ≡ None
quiet_at_end s kept fit none = quiet_where (configuration_of s.hub) (runs_ended s kept none) (devices_home s kept (hands_are_empty s kept fit none))
