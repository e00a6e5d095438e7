-- The items before the first live run are final: with each step of a hub they stay, and so the record of a window begins with them.
use Rattle.hub_core.proofs.Prelude.{Absent, Along, Arrived, Bool, Carried, Choice, Command, Commands, Configuration, Did, Died, Done, Doomed, Ended, Entry, Err, Fell, Found, Gave, Grip, Gripped, Grips, HandsOut, HubIsKept, HubState, Inside, IsGiven, IsLegalWindow, IsProbeGiven, IsProbed, IsScheduled, IsSeriallyLegal, IsTurn, IsWeaklyLegal, IsWellFormed, IsWhole, Item, List, Lost, Moves, MustDown, None, Ok, OpenHub, Option, Over, Placed, Probes, Purpose, Reading, Refuted, Result, Returned, Rose, Sensed, Setting, Shown, Some, Told, Undid, Undoes, Waits, Worked, [], after_choice, after_give, after_take, after_take_probe, ap, arith, at_moment, begins_with_sealed, carried_by, choice_of, command_at, command_entries, common_steps, configuration_of, decide, device_no, did, down_entries, entries_of, entries_on, entry, fails, false, give_entries, give_if, history_of, hub_state_of, if◌then◌else◌, is_doomed, is_weak, items_of, kept_by, line_of, list_any, lost_by, max, may_probe, next_of, not, nothing_read, open_of, option_map, option_to_list, point, probe_entries, probe_grip, put, read_of, reading, refl, run_no, scheduled_stands, sealed_on, slice_get, split_of, stays_itself, subst, suc, sym, take, true, undo_entries, zero, ℕ, ◌&&◌, ◌++◌, ◌-◌, ◌<◌, ◌||◌, ◌∙◌, ◌∷◌, ◌≡◌, ◌≤◌}
use Rattle.device_gate.specs.declared.grips.Ready.{Ready}
use Rattle.device_gate.specs.declared.strangers.Stranger.{Stranger}
use Rattle.history_book.specs.Sealed.{BeginsWithSealed, IsPlacedBehind, StaysSealed, sealed_of}
use Rattle.history_book.specs.declared.records.WindowRecord.{WindowRecord}
use Rattle.hub_core.proofs.calls.HubMarks.{after}
use Rattle.hub_core.proofs.calls.HubOrders.{read_whole}
use Rattle.hub_core.proofs.kept.SealedOrders.{sealed_is}
use Rattle.hub_core.proofs.steps.Choices.{decide_is}
use Rattle.hub_core.proofs.steps.HubAnswers.{took_after, took_probe}
use Rattle.hub_core.proofs.steps.Takes.{made_by}
use Rattle.hub_core.specs.declared.turns.Turn.TheVariants.{Absent as NoRun, Go, Moved, Over as Ending, Wait}
use Rattle.hub_core.specs.declared.turns.Turn.{Turn}

-- The entries of a step place no run but behind what is sealed

-- the entry places a run
abbrev is_placing : Entry → Bool
is_placing (Arrived r m) = false
is_placing (Placed r at m) = true
is_placing (Did r c a) = false
is_placing (Undid r d drove) = false
is_placing (Fell d) = false
is_placing (Rose d) = false
is_placing (Doomed r cause) = false
is_placing (Ended r e) = false

none_placed : (w : Setting) (n : Reading) (es : List Entry) → list_any is_placing es ≡ false → Along w IsPlacedBehind n es
none_placed w n [] none = tt
none_placed w n (e ∷ es) none = (by_entry e (left (is_placing e) (list_any is_placing es) none), none_placed w (entry w n e) es (right (is_placing e) (list_any is_placing es) none))
  where
    left : (a b : Bool) → (a || b) ≡ false → a ≡ false
    left a b h = grind (arith, common_steps)

    right : (a b : Bool) → (a || b) ≡ false → b ≡ false
    right a b h = grind (arith, common_steps)

    by_entry : (x : Entry) → is_placing x ≡ false → IsPlacedBehind n x
    by_entry (Arrived r m) h = tt
    by_entry (Placed r at m) h = absurd (cc)
    by_entry (Did r c a) h = tt
    by_entry (Undid r d drove) h = tt
    by_entry (Fell d) h = tt
    by_entry (Rose d) h = tt
    by_entry (Doomed r cause) h = tt
    by_entry (Ended r e) h = tt

none_if : (b : Bool) (xs ys : List Entry) → list_any is_placing xs ≡ false → list_any is_placing ys ≡ false → list_any is_placing (if b then xs else ys) ≡ false
none_if true xs ys one two = one
none_if false xs ys one two = two

take_behind : (w : Setting) (n : Reading) (g : Grips) (r m : ℕ) → Along w IsPlacedBehind n (made_by (decide (point w n g) r m))
take_behind w n g r m =
    decide_is (λ c. Along w IsPlacedBehind n (made_by c)) w n g r m (record {
      absent = λ none. tt;
      over = λ e at. tt;
      waits = λ why. tt;
      arrives = λ run none. (tt, tt);
      enters = λ s enters. ((scheduled_stands w n g r m s enters.place).sealed, tt);
      aborted = λ cause act doomed over. (tt, tt);
      drops = λ cause d undoing down. (tt, tt);
      undoes = λ cause d undoing up. tt;
      revokes = λ c x run strong at. (tt, tt);
      skips = λ c skip. (tt, tt);
      downs = λ c run next home down. none_placed w n (down_entries r (next_of n r) c) (none_if c.must (Doomed (run_no r) (MustDown (next_of n r)) ∷ []) [] refl refl);
      goes = λ c run next home up. tt;
      fails_at_end = λ d all at. (tt, tt);
      commits = λ all up. (tt, tt);
    })

command_unplaced : (w : Setting) (n : Reading) (r k : ℕ) (told : Told) → list_any is_placing (command_entries w n r k told) ≡ false
command_unplaced w n r k Worked = refl
command_unplaced w n r k (Sensed x) = none_if (fails (command_at w.runs r k) (Found x) && not (is_doomed n r)) (Doomed (run_no r) (Refuted k x) ∷ []) [] refl refl
command_unplaced w n r k Died = none_if (is_doomed n r) [] dooms refl (none_if (did n r c.device.0 && not (is_weak w.mode)) (Doomed (run_no r) (Lost c.device) ∷ []) must refl (none_if c.must (Doomed (run_no r) (MustDown k) ∷ []) [] refl refl))
  where
    c : Command
    c = command_at w.runs r k

    must : List Entry
    must = if c.must then Doomed (run_no r) (MustDown k) ∷ [] else []

    dooms : List Entry
    dooms = if did n r c.device.0 && not (is_weak w.mode) then Doomed (run_no r) (Lost c.device) ∷ [] else must

undo_unplaced : (r d : ℕ) (told : Told) → list_any is_placing (undo_entries r d told) ≡ false
undo_unplaced r d Worked = refl
undo_unplaced r d (Sensed x) = refl
undo_unplaced r d Died = refl

probe_unplaced : (w : Setting) (n : Reading) (d : ℕ) (told : Told) → list_any is_placing (probe_entries w n d told) ≡ false
probe_unplaced w n d Worked = none_if (n.up d) _ _ refl refl
probe_unplaced w n d (Sensed x) = none_if (n.up d) _ _ refl refl
probe_unplaced w n d Died = none_if (n.up d) _ _ (dooms (lost_by w n d)) refl
  where
    dooms : (o : Option ℕ) → list_any is_placing (option_to_list (option_map (λ x. Doomed (run_no x) (Lost (device_no d))) o)) ≡ false
    dooms None = refl
    dooms (Some x) = refl

give_behind : (w : Setting) (n : Reading) (d : ℕ) (grip : Grip) (told : Told) → Along w IsPlacedBehind n (give_entries w n d grip told)
give_behind w n d grip told = by_purpose grip.purpose
  where
    entries : Purpose → List Entry
    entries (Commands k) = command_entries w n grip.maker k told
    entries (Undoes v) = undo_entries grip.maker d told
    entries (Probes v) = probe_entries w n d told

    by_purpose : (p : Purpose) → Along w IsPlacedBehind n (entries p)
    by_purpose (Commands k) = none_placed w n (command_entries w n grip.maker k told) (command_unplaced w n grip.maker k told)
    by_purpose (Undoes v) = none_placed w n (undo_entries grip.maker d told) (undo_unplaced grip.maker d told)
    by_purpose (Probes v) = none_placed w n (probe_entries w n d told) (probe_unplaced w n d told)

-- Configurations

-- the history of a configuration is well formed
abbrev IsFormed : Configuration → Type 0
IsFormed s = IsWellFormed s.setting (entries_of s.history)

-- with these entries more
more_sealed : (s t : Configuration) (maker : ℕ) (es : List Entry) → t.setting ≡ s.setting → t.history ≡ s.history ++ kept_by maker es → IsFormed t → Along s.setting IsPlacedBehind (read_of s) es → StaysSealed (read_of s) (read_of t)
more_sealed s t maker es setting history formed behind =
    let entries : entries_of t.history ≡ entries_of s.history ++ es = ap entries_of history ∙ entries_on s.history maker es in
    let so : IsWellFormed s.setting (entries_of s.history ++ es) = subst (λ x. IsWellFormed s.setting x) entries (subst (λ (x : Setting). IsWellFormed x (entries_of t.history)) setting formed) in
    subst (StaysSealed (read_of s)) (sym (ap (λ (x : Setting). reading x (entries_of t.history)) setting ∙ ap (reading s.setting) entries)) (sealed_on s.setting (entries_of s.history) es so behind)

-- with none
none_sealed : (s t : Configuration) → t.setting ≡ s.setting → t.history ≡ s.history → StaysSealed (read_of s) (read_of t)
none_sealed s t setting history = subst (StaysSealed (read_of s)) (sym (ap (λ (x : Setting). reading x (entries_of t.history)) setting ∙ ap (λ h. reading s.setting (entries_of h)) history)) (stays_itself (read_of s))

-- A step of a run

choice_sealed : (s t : Configuration) (r m : ℕ) (c : Choice) → t ≡ after_choice (at_moment s m) r c → IsFormed t → Along s.setting IsPlacedBehind (read_of s) (made_by c) → StaysSealed (read_of s) (read_of t)
choice_sealed s t r m Absent is formed behind = none_sealed s t (ap (λ (x : Configuration). x.setting) is) (ap (λ (x : Configuration). x.history) is)
choice_sealed s t r m (Over e es) is formed behind = more_sealed s t r es (ap (λ (x : Configuration). x.setting) is) (ap (λ (x : Configuration). x.history) is) formed behind
choice_sealed s t r m (Moves es) is formed behind = more_sealed s t r es (ap (λ (x : Configuration). x.setting) is) (ap (λ (x : Configuration). x.history) is) formed behind
choice_sealed s t r m (Waits why) is formed behind = none_sealed s t (ap (λ (x : Configuration). x.setting) is) (ap (λ (x : Configuration). x.history) is)
choice_sealed s t r m (HandsOut d purpose) is formed behind = none_sealed s t (ap (λ (x : Configuration). x.setting) is) (ap (λ (x : Configuration). x.history) is)

took_sealed : (s t : Configuration) (r m : ℕ) → t ≡ after_take s r m → IsFormed t → StaysSealed (read_of s) (read_of t)
took_sealed s t r m is formed = choice_sealed s t r m (choice_of s r m) is formed (take_behind s.setting (read_of s) s.grips r (max s.moment m))

formed_hub : {D : Type 0} (shows : D → Shown) (t : OpenHub D) → HubIsKept shows t → IsFormed (configuration_of t)
formed_hub shows t kept = kept.configuration.history.well_formed

-- the final items stay
pub turn_sealed : {D : Type 0} (shows : D → Shown) (s t : OpenHub D) (r m : ℕ) (turn : Turn D) → IsTurn s r m turn t → HubIsKept shows t → StaysSealed (read_of (configuration_of s)) (read_of (configuration_of t))
turn_sealed shows s t r m (Go grip) is kept = took_sealed (configuration_of s) (configuration_of t) r m (took_after (hub_state_of s) (hub_state_of t) r m grip.slip _ is.step) (formed_hub shows t kept)
turn_sealed shows s t r m (Moved made) is kept = took_sealed (configuration_of s) (configuration_of t) r m (after s t r m _ is) (formed_hub shows t kept)
turn_sealed shows s t r m (Wait why) is kept = took_sealed (configuration_of s) (configuration_of t) r m (after s t r m _ is.0) (formed_hub shows t kept)
turn_sealed shows s t r m (Ending end made) is kept = took_sealed (configuration_of s) (configuration_of t) r m (after s t r m _ is) (formed_hub shows t kept)
turn_sealed shows s t r m NoRun is kept = took_sealed (configuration_of s) (configuration_of t) r m (after s t r m _ is.0) (formed_hub shows t kept)

-- A device comes home

back_sealed : (b : Bool) (s t : HubState) (c : Configuration) (told : Carried) (result : Told) (entries : List Entry) → Returned (Gave entries)
    ≡ Returned (give_if b s c told result).answer → t ≡ (give_if b s c told result).next → IsFormed t.configuration
    → StaysSealed (read_of c) (read_of t.configuration)
back_sealed true s t c told result entries answer next formed = by_grip (c.grips told.slip.device.0) refl
  where
    came : Option Grip → Configuration
    came None = c
    came (Some grip) = after_give c told.slip.device.0 grip result

    is : t.configuration ≡ came (c.grips told.slip.device.0)
    is = ap (λ (x : HubState). x.configuration) next

    by_grip : (o : Option Grip) → c.grips told.slip.device.0 ≡ o → StaysSealed (read_of c) (read_of t.configuration)
    by_grip None e = let same : t.configuration ≡ c = is ∙ ap came e in none_sealed c t.configuration (ap (λ (x : Configuration). x.setting) same) (ap (λ (x : Configuration). x.history) same)
    by_grip (Some grip) e =
        let same : t.configuration ≡ after_give c told.slip.device.0 grip result = is ∙ ap came e in
        more_sealed c t.configuration grip.maker (give_entries c.setting (read_of c) told.slip.device.0 grip result) (ap (λ (x : Configuration). x.setting) same) (ap (λ (x : Configuration). x.history) same) formed
        (give_behind c.setting (read_of c) told.slip.device.0 grip result)
back_sealed false s t c told result entries answer next formed = absurd (cc)

same_hub : {D : Type 0} (s t : OpenHub D) → t ≡ s → StaysSealed (read_of (configuration_of s)) (read_of (configuration_of t))
same_hub {D = D} s t same = subst (λ (x : OpenHub D). StaysSealed (read_of (configuration_of s)) (read_of (configuration_of x))) (sym same) (stays_itself (read_of (configuration_of s)))

-- of hubs that show the same
pub seen_so : {D : Type 0} {s t u v : OpenHub D} → s ≡ u → v ≡ t → StaysSealed (read_of (configuration_of s)) (read_of (configuration_of t)) → StaysSealed (read_of (configuration_of u)) (read_of (configuration_of v))
seen_so {D = D} {s = s} {t = t} {u = u} {v = v} before after stays =
    subst (λ (x : OpenHub D). StaysSealed (read_of (configuration_of u)) (read_of (configuration_of x))) (sym after) (subst (λ (x : OpenHub D). StaysSealed (read_of (configuration_of x)) (read_of (configuration_of t))) before stays)

pub given_sealed : {D : Type 0} (shows : D → Shown) (s t : OpenHub D) (grip : Gripped D Done) (m : ℕ)
    (result : Result (List Entry) (Gripped D Done × Stranger)) → IsGiven s grip m result t → HubIsKept shows t
    → StaysSealed (read_of (configuration_of s)) (read_of (configuration_of t))
given_sealed shows s t grip m (Ok made) is kept = back_sealed _ (hub_state_of s) (hub_state_of t) (at_moment (configuration_of s) m) (carried_by grip) grip.stage.told _ is.0.0 is.0.1 (formed_hub shows t kept)
given_sealed shows s t grip m (Err refused) is kept = same_hub s t is.2

pub probe_given_sealed : {D : Type 0} (shows : D → Shown) (s t : OpenHub D) (grip : Gripped D Done)
    (result : Result (List Entry) (Gripped D Done × Stranger)) → IsProbeGiven s grip result t → HubIsKept shows t
    → StaysSealed (read_of (configuration_of s)) (read_of (configuration_of t))
probe_given_sealed shows s t grip (Ok made) is kept = back_sealed _ (hub_state_of s) (hub_state_of t) (configuration_of s) (carried_by grip) grip.stage.told _ is.0.0 is.0.1 (formed_hub shows t kept)
probe_given_sealed shows s t grip (Err refused) is kept = same_hub s t is.2

-- A probe goes out

probe_out_sealed : (s t : Configuration) (d : ℕ) → t ≡ after_take_probe s d → StaysSealed (read_of s) (read_of t)
probe_out_sealed s t d is = by_test (may_probe s d) is
  where
    by_test : (b : Bool) → t ≡ (if b then record s { probes = put s.probes d (s.probes d - 1); grips = put s.grips d (Some (probe_grip s d)) } else s) → StaysSealed (read_of s) (read_of t)
    by_test true same = none_sealed s t (ap (λ (x : Configuration). x.setting) same) (ap (λ (x : Configuration). x.history) same)
    by_test false same = none_sealed s t (ap (λ (x : Configuration). x.setting) same) (ap (λ (x : Configuration). x.history) same)

pub probed_sealed : {D : Type 0} (s t : OpenHub D) (d : ℕ) (probe : Option (Gripped D Ready)) → IsProbed s d probe t → StaysSealed (read_of (configuration_of s)) (read_of (configuration_of t))
probed_sealed s t d (Some grip) is = probe_out_sealed (configuration_of s) (configuration_of t) d (took_probe (hub_state_of s) (hub_state_of t) d grip.slip grip.task is.0).1
probed_sealed s t d None is = same_hub s t is.1

-- A window that is closed

scheduled_behind : (w : Setting) (n : Reading) (e : Entry) → IsScheduled w n e → IsPlacedBehind n e
scheduled_behind w n (Arrived r m) is = tt
scheduled_behind w n (Placed r at m) is =
    let place = (scheduled_stands w n is.0 r.0 m (split_of w n r.0 at m) is.2).sealed in
    let size = is.3 in
    omega (arith, place, size)
scheduled_behind w n (Did r c a) is = tt
scheduled_behind w n (Undid r d drove) is = tt
scheduled_behind w n (Fell d) is = tt
scheduled_behind w n (Rose d) is = tt
scheduled_behind w n (Doomed r cause) is = tt
scheduled_behind w n (Ended r e) is = tt

all_behind : (w : Setting) (n : Reading) (h : List Entry) → Along w (IsScheduled w) n h → Along w IsPlacedBehind n h
all_behind w n [] all = tt
all_behind w n (e ∷ h) all = (scheduled_behind w n e all.0, all_behind w (entry w n e) h all.1)

-- the record of a legal window begins with each part that was ever final
pub legal_begins : (w : Setting) (closed : WindowRecord) → IsLegalWindow w closed → is_weak w.mode ≡ false → BeginsWithSealed w (history_of closed) closed.order.items
legal_begins w closed legal strong =
    let serial : IsSeriallyLegal w closed = subst under_weak strong legal in
    subst (BeginsWithSealed w (history_of closed)) (sym serial.line) (begins_with_sealed w (history_of closed) serial.well_formed (all_behind w (nothing_read w) (history_of closed) serial.places))
  where
    under_weak : Bool → Type 0
    under_weak true = IsWeaklyLegal w closed
    under_weak false = IsSeriallyLegal w closed

-- What a hub tells of them

get_first : (n k : ℕ) (xs : List Item) → k < n → slice_get (take n xs) k ≡ slice_get xs k
get_first zero k xs low = absurd (omega (arith, low))
get_first (suc n) k [] low = refl
get_first (suc n) zero (x ∷ xs) low = refl
get_first (suc n) (suc k) (x ∷ xs) low = get_first n k xs (omega (arith, low))

get_beyond : (n k : ℕ) (xs : List Item) → n ≤ k → slice_get (take n xs) k ≡ None
get_beyond zero k xs past = refl
get_beyond (suc n) k [] past = refl
get_beyond (suc n) zero (x ∷ xs) past = absurd (omega (arith, past))
get_beyond (suc n) (suc k) (x ∷ xs) past = get_beyond n k xs (omega (arith, past))

-- the items of the line that are sealed are those of the history's line that are final
module _ {D : Type 0} {shows : D → Shown} (h : Inside D) (s : OpenHub D) (seen : open_of h ≡ s) (k : IsWhole shows h) where
  abbrev final : List Item
  final = take (sealed_of s.setting (entries_of s.history)) (line_of s.setting (entries_of s.history))

  pub sealed_here : h.order.line.sealed ≡ sealed_of s.setting (entries_of s.history)
  sealed_here = sealed_is _ h.order.line (read_whole h k) k.order.line_is k.order.sealed ∙ ap (λ (t : OpenHub D). sealed_of t.setting (entries_of t.history)) seen

  items_here : items_of h.order.line.marks ≡ line_of s.setting (entries_of s.history)
  items_here = k.order.line_is.items ∙ ap (λ (t : OpenHub D). line_of t.setting (entries_of t.history)) seen

  pub final_told : (at : ℕ) → at < h.order.line.sealed → slice_get (items_of h.order.line.marks) at ≡ slice_get final at
  final_told at below =
      let here = sealed_here in
      ap (λ is. slice_get is at) items_here ∙ sym (get_first (sealed_of s.setting (entries_of s.history)) at (line_of s.setting (entries_of s.history)) (omega (arith, below, here)))

  pub none_told : (at : ℕ) → h.order.line.sealed ≤ at → None ≡ slice_get final at
  none_told at past =
      let here = sealed_here in
      sym (get_beyond (sealed_of s.setting (entries_of s.history)) at (line_of s.setting (entries_of s.history)) (omega (arith, past, here)))
