-- A run's grip comes back, and its call worked: what the code writes of it.
use Rattle.hub_core.proofs.Prelude.{Answer, Bool, Cause, Commands, Did, Died, Done, Doomed, Entry, Found, Gripped, HistoryState, Inside, IsKept, IsSome, IsTrue, IsWhole, List, MayTake, None, OpenHub, Option, Probes, Purpose, Reading, Refuted, Sensed, Setting, Shown, Slip, Some, Task, Told, Undid, Undoes, Worked, [], answer_told, ap, ap₂, arith, command_at, entries_made, fails, false, give_entries, has_died, if◌then◌else◌, is_doomed, is_run, is_undo, length, lt-ltb, may_follow, not, open_of, option_map, progress_at, read_in, refl, run_no, slice_get, subst, sym, takes_first, true, with_doom, with_entry, with_more, ℕ, ◌&&◌, ◌-◌, ◌<◌, ◌∙◌, ◌∷◌, ◌≡◌, ◌≤◌}
use Rattle.hub_core.proofs.calls.Homecomings.{CameHome, IsHome, IsReturned, returned_entries, returned_for, returned_places, takes_back}
use Rattle.hub_core.proofs.calls.HubChanges.{answer_entries, answered_more}
use Rattle.hub_core.proofs.calls.OutFor.{IsForCommand, for_command, out_for}
use Rattle.history_book.specs.Causes.{refuted_by}

-- For what it was out

-- the command for which it was out
pub command_back : {D : Type 0} {shows : D → Shown} (h : Inside D) (s : OpenHub D) (slip : Slip) (task : Task) (k : ℕ) → open_of h ≡ s
    → IsKept s.places slip task → (progress_at s.devices slip.device.0).purpose ≡ Commands k → IsWhole shows h
    → IsForCommand (open_of h) slip task k
command_back {D = D} h s slip task k seen there for whole =
    for_command _ (open_of h) slip task k whole.shown (ap (λ (x : OpenHub D). slice_get x.places slip.device.0) seen ∙ there) (ap (λ (x : OpenHub D). (progress_at x.devices slip.device.0).purpose) seen ∙ for)

-- no probe was out
pub no_probe : {D : Type 0} {shows : D → Shown} (h : Inside D) (s : OpenHub D) (slip : Slip) (task : Task) (v : Option ℕ) → open_of h ≡ s
    → IsKept s.places slip task → 0 < slip.maker → (progress_at h.checkouts.known.items slip.device.0).purpose ≡ Probes v
    → IsWhole shows h → ⊥
no_probe {D = D} h s slip task v seen there maker for k =
    let out = out_for _ (open_of h) slip task (Probes v) k.shown (ap (λ (x : OpenHub D). slice_get x.places slip.device.0) seen ∙ there) for in
    absurd (let both : false ≡ true = out.maker ∙ lt-ltb 0 slip.maker maker in cc)

-- an undo's value
pub undone_value : (p : Purpose) → is_undo p ≡ true → (v : ℕ) × (p ≡ Undoes v)
undone_value (Commands k) is = absurd (cc)
undone_value (Undoes v) is = (v, refl)
undone_value (Probes v) is = absurd (cc)

-- its run is one of the window
pub undo_run : {D : Type 0} {shows : D → Shown} (h : Inside D) (v : ℕ) (grip : Gripped D Done) → IsReturned shows h (Undoes v) grip → IsWhole shows h → is_run h.history.setting.runs grip.slip.maker ≡ true
undo_run h v grip returned k = (returned_for h (Undoes v) grip returned k).run refl

-- it makes one entry
undo_gives : {D : Type 0} (h : Inside D) (v : ℕ) (grip : Gripped D Done) → has_died grip.stage.told ≡ false → returned_entries (open_of h) grip (Undoes v) ≡ Undid (run_no grip.slip.maker) grip.slip.device true ∷ []
undo_gives h v grip lives = by_told grip.stage.told lives
  where
    by_told : (told : Told) → has_died told ≡ false → give_entries h.history.setting (read_in h.history) grip.slip.device.0 (record { maker = grip.slip.maker; purpose = Undoes v }) told ≡ Undid (run_no grip.slip.maker) grip.slip.device true ∷ []
    by_told Worked lives = refl
    by_told (Sensed x) lives = refl
    by_told Died lives = absurd (cc)

-- the history has a place for it
pub undo_place : {D : Type 0} {shows : D → Shown} (h : Inside D) (v : ℕ) (grip : Gripped D Done) → IsReturned shows h (Undoes v) grip → has_died grip.stage.told ≡ false → IsWhole shows h → 0 < h.history.spare
undo_place h v grip returned lives k =
    let fits : length (returned_entries (open_of h) grip (Undoes v)) ≤ h.history.spare = returned_places h (Undoes v) grip returned k in
    let one = ap length (undo_gives h v grip lives) in
    omega (arith, fits, one)

-- A command came back

-- it gives its answer, and the doom of a run whose must check found another value
command_gives : (w : Setting) (n : Reading) (d r k : ℕ) (told : Told) → has_died told ≡ false → give_entries w n d (record { maker = r; purpose = Commands k }) told ≡ answer_entries r k (answer_told told) (refuted_by w n r k (answer_told told))
command_gives w n d r k Worked lives = refl
command_gives w n d r k (Sensed x) lives = by_failure (fails (command_at w.runs r k) (Found x) && not (is_doomed n r))
  where
    by_failure : (b : Bool) → Did (run_no r) k (Found x) ∷ (if b then Doomed (run_no r) (Refuted k x) ∷ [] else []) ≡ answer_entries r k (Found x) (if b then Some (Refuted k x) else None)
    by_failure true = refl
    by_failure false = refl
command_gives w n d r k Died lives = absurd (cc)

-- what the code wrote of it: the answer, and the doom of its run where it failed
pub record IsAnswered {D : Type 0} (h : Inside D) (grip : Gripped D Done) (k : ℕ) (slip : Slip) (a : Answer) (cause : Option Cause) (mid after : HistoryState) : Type 0 where
  pub same : slip ≡ grip.slip
  pub lives : has_died grip.stage.told ≡ false
  pub told : a ≡ answer_told grip.stage.told
  pub refuted : cause ≡ refuted_by h.history.setting (read_in h.history) slip.maker k a
  pub answered : mid ≡ with_entry h.history slip.maker (Did (run_no slip.maker) k a)
  pub doomed : after ≡ with_doom mid slip.maker cause

-- its entries
answer_gives : {D : Type 0} (h : Inside D) (k : ℕ) (grip : Gripped D Done) (slip : Slip) (a : Answer) (cause : Option Cause) (mid after : HistoryState) → IsAnswered h grip k slip a cause mid after → returned_entries (open_of h) grip (Commands k) ≡ answer_entries slip.maker k a cause
answer_gives h k grip slip a cause mid after answered =
    command_gives h.history.setting (read_in h.history) grip.slip.device.0 grip.slip.maker k grip.stage.told answered.lives
    ∙ ap₂ (λ (y : Slip) x. answer_entries y.maker k x (refuted_by h.history.setting (read_in h.history) y.maker k x)) (sym answered.same) (sym answered.told)
    ∙ ap (answer_entries slip.maker k a) (sym answered.refuted)

-- they may be appended
pub takes_answer : {D : Type 0} {shows : D → Shown} (h : Inside D) (k : ℕ) (grip : Gripped D Done) (slip : Slip) (a : Answer)
    (cause : Option Cause) (mid after : HistoryState) → IsReturned shows h (Commands k) grip
    → IsAnswered h grip k slip a cause mid after
    → IsWhole shows h → MayTake h.history slip.maker (answer_entries slip.maker k a cause)
takes_answer h k grip slip a cause mid after returned answered whole =
    subst (λ (y : Slip). MayTake h.history y.maker (answer_entries slip.maker k a cause)) (sym answered.same) (subst (MayTake h.history grip.slip.maker) (answer_gives h k grip slip a cause mid after answered) (takes_back h (Commands k) grip returned whole))

-- the history has a place for it ..
pub answer_place : {D : Type 0} {shows : D → Shown} (h : Inside D) (k : ℕ) (grip : Gripped D Done) → IsReturned shows h (Commands k) grip → has_died grip.stage.told ≡ false → IsWhole shows h → 0 < h.history.spare
answer_place h k grip returned lives whole =
    let fits : length (returned_entries (open_of h) grip (Commands k)) ≤ h.history.spare = returned_places h (Commands k) grip returned whole in
    let some = ap length (command_gives h.history.setting (read_in h.history) grip.slip.device.0 grip.slip.maker k grip.stage.told lives) in
    omega (arith, fits, some)

-- .. and behind it one for the doom
pub doom_place : {D : Type 0} {shows : D → Shown} (h : Inside D) (k : ℕ) (grip : Gripped D Done) (slip : Slip) (a : Answer)
    (cause : Option Cause) (mid after : HistoryState) → IsReturned shows h (Commands k) grip
    → IsAnswered h grip k slip a cause mid after
    → IsWhole shows h → IsSome cause → 0 < mid.spare
doom_place {D = D} h k grip slip a cause mid after returned answered whole some = at cause some (answer_gives h k grip slip a cause mid after answered)
  where
    at : (c : Option Cause) → IsSome c → returned_entries (open_of h) grip (Commands k) ≡ answer_entries slip.maker k a c → 0 < mid.spare
    at None none entries = absurd (cc none)
    at (Some c) some' entries =
        let long : length (returned_entries (open_of h) grip (Commands k)) ≡ 2 = ap (λ (l : List Entry). length l) entries in
        let fits : length (returned_entries (open_of h) grip (Commands k)) ≤ h.history.spare = returned_places h (Commands k) grip returned whole in
        let left : mid.spare ≡ h.history.spare - 1 = ap (λ (y : HistoryState). y.spare) answered.answered in
        omega (arith, long, fits, left)

pub answered_back : {D : Type 0} {shows : D → Shown} (h t : Inside D) (k : ℕ) (grip : Gripped D Done) (slip : Slip) (a : Answer)
    (cause : Option Cause) (mid : HistoryState) → IsReturned shows h (Commands k) grip → IsHome h t grip
    → IsAnswered h grip k slip a cause mid t.history
    → CameHome shows h t (Commands k) grip (answer_entries slip.maker k a cause)
answered_back h t k grip slip a cause mid returned parts answered =
    record {
      returned = returned;
      parts = parts;
      gives = answer_gives h k grip slip a cause mid t.history answered;
      history_is = answered.doomed ∙ ap (λ (y : HistoryState). with_doom y slip.maker cause) answered.answered ∙ answered_more h.history slip.maker k a cause ∙ ap (λ (y : Slip). with_more h.history y.maker (answer_entries slip.maker k a cause)) answered.same;
    }

-- the entries that the code made are these
pub answer_made : (slip : Slip) (k : ℕ) (a : Answer) (cause : Option Cause) (e : Entry) (o : Option Entry) → e ≡ Did (run_no slip.maker) k a → o ≡ option_map (λ c. Doomed (run_no slip.maker) c) cause → entries_made (record { a = Some e; b = o; c = None }) ≡ answer_entries slip.maker k a cause
answer_made slip k a cause e o entry_is made = ap₂ (λ x y. entries_made (record { a = Some x; b = y; c = None })) entry_is made ∙ by_cause cause
  where
    by_cause : (c : Option Cause) → entries_made (record { a = Some (Did (run_no slip.maker) k a); b = option_map (λ z. Doomed (run_no slip.maker) z) c; c = None }) ≡ answer_entries slip.maker k a c
    by_cause None = refl
    by_cause (Some c) = refl

-- An undo came back

-- it may be told
pub undo_told : {D : Type 0} {shows : D → Shown} (h : Inside D) (v : ℕ) (grip : Gripped D Done) (slip : Slip) → IsReturned shows h (Undoes v) grip → slip ≡ grip.slip → has_died grip.stage.told ≡ false → IsWhole shows h
    → IsTrue (may_follow h.history.setting (read_in h.history) (Undid (run_no slip.maker) slip.device true))
undo_told h v grip slip returned same lives k =
    subst (λ (z : Slip). IsTrue (may_follow h.history.setting (read_in h.history) (Undid (run_no z.maker) z.device true))) (sym same)
    (takes_first h.history grip.slip.maker (Undid (run_no grip.slip.maker) grip.slip.device true) [] (subst (MayTake h.history grip.slip.maker) (undo_gives h v grip lives) (takes_back h (Undoes v) grip returned k)))

pub undone_back : {D : Type 0} {shows : D → Shown} (h t : Inside D) (v : ℕ) (grip : Gripped D Done) (slip : Slip)
    → IsReturned shows h (Undoes v) grip → IsHome h t grip → slip ≡ grip.slip → has_died grip.stage.told ≡ false
    → t.history ≡ with_entry h.history slip.maker (Undid (run_no slip.maker) slip.device true)
    → CameHome shows h t (Undoes v) grip (Undid (run_no slip.maker) slip.device true ∷ [])
undone_back h t v grip slip returned parts same lives new =
    record {
      returned = returned;
      parts = parts;
      gives = undo_gives h v grip lives ∙ ap (λ (y : Slip). Undid (run_no y.maker) y.device true ∷ []) (sym same);
      history_is = new ∙ ap (λ (y : Slip). with_entry h.history y.maker (Undid (run_no slip.maker) slip.device true)) same;
    }
