-- The times that slots hold as the commands of a run are planned.
use Rattle.timeline_scheduler.proofs.Prelude.{Bool, Command, HoldsTimes, List, None, Option, Planned, Run, RunsAreHomed, Slot, Some, [], ap, arith, commands_of, common_steps, cond, drop, drop_all, drop_more, eq-eqb, false, find, fold, fold-append, get_or_default, greatest, if◌then◌else◌, is_on, length, length-set, list_any, list_any-append, max, min, option_map, or_left, or_right, plan_behind, plan_more, planned_end, planned_in, planned_span, refl, slice_index_or, slice_set, slot_at, subst, suc, sym, true, unwrap_or, used_again, zero, ℕ, ◌++◌, ◌+◌, ◌<◌, ◌==◌, ◌||◌, ◌∙◌, ◌∷◌, ◌≡◌, ◌≢◌, ◌≤◌}
use Rattle.timeline_scheduler.proofs.SlotSets.{set_here, set_other, slot_read}

-- the times are those of the slot
pub planned_in_slot : (slots : List Slot) (d : ℕ) → planned_in slots d ≡ (slot_at slots d).planned
planned_in_slot [] d = refl
planned_in_slot (s ∷ slots) zero = refl
planned_in_slot (s ∷ slots) (suc d) = planned_in_slot slots d

-- One command more

abbrev on : ℕ → Planned → Bool
on d p = p.device == d

find_more : (q : List Planned) (p : Planned) (d : ℕ) → find (on d) (q ++ p ∷ []) ≡ (if list_any (on d) q then find (on d) q else (if on d p then Some p else None))
find_more [] p d = by_test (on d p)
  where
    by_test : (b : Bool) → cond b (Some p) None ≡ (if b then Some p else None)
    by_test true = refl
    by_test false = refl
find_more (x ∷ q) p d = by_test (on d x) (find_more q p d)
  where
    by_test : (b : Bool) → find (on d) (q ++ p ∷ []) ≡ (if list_any (on d) q then find (on d) q else (if on d p then Some p else None))
        → cond b (Some x) (find (on d) (q ++ p ∷ [])) ≡ (if b || list_any (on d) q then cond b (Some x) (find (on d) q) else (if on d p then Some p else None))
    by_test true rest = refl
    by_test false rest = rest

abbrev span_by : Bool → ℕ → ℕ → Option (ℕ × ℕ)
span_by some from to = if some then Some (from, to) else None

abbrev start_by : Option Planned → ℕ
start_by o = unwrap_or (option_map (λ p. p.from) o) 0

-- the use of the command's device is lengthened, that of another stays
span_more : (q : List Planned) (p : Planned) (d : ℕ) → planned_span (q ++ p ∷ []) d ≡ (if on d p then Some (used_again (planned_span q d) p.from p.to) else planned_span q d)
span_more q p d =
    ap (λ b. span_by b (start_by (find (on d) (q ++ p ∷ []))) (planned_end (q ++ p ∷ []) d)) (list_any-append (on d) q (p ∷ []))
    ∙ ap (λ o. span_by (list_any (on d) q || (on d p || false)) (start_by o) (planned_end (q ++ p ∷ []) d)) (find_more q p d)
    ∙ ap (span_by (list_any (on d) q || (on d p || false)) (start_by (if list_any (on d) q then find (on d) q else (if on d p then Some p else None)))) (fold-append (λ t x. if on d x then x.to else t) 0 q (p ∷ []))
    ∙ by_tests (list_any (on d) q) (on d p) (find (on d) q) (planned_end q d)
  where
    by_tests : (a b : Bool) (o : Option Planned) (e : ℕ)
        → span_by (a || (b || false)) (start_by (if a then o else (if b then Some p else None))) (if b then p.to else e) ≡ (if b then Some (used_again (span_by a (start_by o) e) p.from p.to) else span_by a (start_by o) e)
    by_tests true true o e = refl
    by_tests true false o e = refl
    by_tests false true o e = refl
    by_tests false false o e = refl

holds_more : (slots : List Slot) (q : List Planned) (p : Planned) (s : Slot) → p.device < length slots → HoldsTimes slots q → s.planned ≡ Some (used_again (slot_at slots p.device).planned p.from p.to)
    → HoldsTimes (slice_set slots p.device s) (q ++ p ∷ [])
holds_more slots q p s within holds is d = planned_in_slot (slice_set slots p.device s) d ∙ by_device (p.device == d) refl ∙ sym (span_more q p d)
  where
    by_device : (b : Bool) → (p.device == d) ≡ b → (slot_at (slice_set slots p.device s) d).planned ≡ (if b then Some (used_again (planned_span q d) p.from p.to) else planned_span q d)
    by_device true own =
        let same : p.device ≡ d = grind (arith, common_steps) in
        subst (λ k. (slot_at (slice_set slots p.device s) k).planned ≡ Some (used_again (planned_span q k) p.from p.to)) same
        (ap (λ (x : Slot). x.planned) (set_here slots p.device s within) ∙ is ∙ ap (λ o. Some (used_again o p.from p.to)) (sym (planned_in_slot slots p.device) ∙ holds p.device))
    by_device false other = let apart : d ≢ p.device = grind (arith, common_steps) in ap (λ (x : Slot). x.planned) (set_other slots p.device d s apart) ∙ sym (planned_in_slot slots d) ∙ holds d

-- What was passed stays

-- what was passed is as it was
pub record LeavesPassed (slots left : List Slot) : Type 0 where
  pub size : length left ≡ length slots
  pub free : (d : ℕ) → (slot_at left d).free ≡ (slot_at slots d).free

pub leaves_all : (slots : List Slot) → LeavesPassed slots slots
leaves_all slots = record { size = refl; free = λ d. refl }

pub leaves_then : (a b c : List Slot) → LeavesPassed a b → LeavesPassed b c → LeavesPassed a c
leaves_then a b c first second = record { size = second.size ∙ first.size; free = λ d. second.free d ∙ first.free d }

pub leaves_set : (slots : List Slot) (d : ℕ) (s : Slot) → d < length slots → s.free ≡ (slot_at slots d).free → LeavesPassed slots (slice_set slots d s)
leaves_set slots d s within free = record { size = length-set slots d s; free = λ e. kept_free e (e == d) refl }
  where
    kept_free : (e : ℕ) (b : Bool) → (e == d) ≡ b → (slot_at (slice_set slots d s) e).free ≡ (slot_at slots e).free
    kept_free e true own =
        let same : d ≡ e = grind (arith, common_steps) in
        subst (λ k. (slot_at (slice_set slots d s) k).free ≡ (slot_at slots k).free) same (ap (λ (x : Slot). x.free) (set_here slots d s within) ∙ free)
    kept_free e false other = let apart : e ≢ d = grind (arith, common_steps) in ap (λ (x : Slot). x.free) (set_other slots d e s apart)

-- The commands in order

-- a command is on its own device
pub own_device : (cs : List Command) (k : ℕ) (c : Command) → k < length cs → list_any (is_on (slice_index_or cs k c).device.0) cs ≡ true
own_device [] k c within = absurd (omega (arith, within))
own_device (x ∷ cs) zero c within = or_left (x.device.0 == x.device.0) (list_any (is_on x.device.0) cs) (eq-eqb x.device.0 x.device.0 refl)
own_device (x ∷ cs) (suc k) c within = or_right (x.device.0 == (slice_index_or cs k c).device.0) (list_any (is_on (slice_index_or cs k c).device.0) cs) (own_device cs k c (omega (arith, within)))

-- the times of the first k commands are held, and those that are left make the plan
pub record IsPlannedTo (start slots : List Slot) (cs : List Command) (m k clock : ℕ) : Type 0 where
  pub left : LeavesPassed start slots
  pub times : (q : List Planned) × HoldsTimes slots q × ((fold (plan_more (λ d. (slot_at start d).free)) (record { clock = clock; planned = q }) (drop k cs)).planned ≡ plan_behind start cs m)

-- none is planned yet
pub planned_none : (slots : List Slot) (cs : List Command) (m : ℕ) → ((d : ℕ) → (slot_at slots d).planned ≡ None) → IsPlannedTo slots slots cs m 0 m
planned_none slots cs m none = record { left = leaves_all slots; times = ([], (λ d. planned_in_slot slots d ∙ none d), refl) }

-- one more is planned
pub planned_next : (start slots : List Slot) (cs : List Command) (m k clock from to : ℕ) (c : Command) (s x : Slot) (span : ℕ × ℕ) → IsPlannedTo start slots cs m k clock → k < length cs → slice_index_or cs k c ≡ c → c.device.0 < length slots
    → s ≡ slice_index_or slots c.device.0 s → from ≡ max clock s.free → to ≡ min (from + c.ms) greatest → span ≡ used_again s.planned from to → x ≡ record s { planned = Some span } → IsPlannedTo start (slice_set slots c.device.0 x) cs m (k + 1) to
planned_next start slots cs m k clock from to c s x span was more own within read starts ends used is = record {
  left = leaves_then start slots (slice_set slots c.device.0 x) was.left (leaves_set slots c.device.0 x within (ap (λ (y : Slot). y.free) is ∙ ap (λ (y : Slot). y.free) (sym slot)));
  times = (was.times.0 ++ p ∷ [], holds_more slots was.times.0 p x within was.times.1 (ap (λ (y : Slot). y.planned) is ∙ ap Some (used ∙ ap (λ (y : Slot). used_again y.planned from to) (sym slot))), sym planned ∙ was.times.2);
}
  where
    p : Planned
    p = record { device = c.device.0; from = from; to = to }

    slot : slot_at slots c.device.0 ≡ s
    slot = slot_read slots c.device.0 s within read

    F : ℕ → ℕ
    F d = (slot_at start d).free

    begins : max clock (F c.device.0) ≡ from
    begins = ap (max clock) (sym (was.left.free c.device.0) ∙ ap (λ (y : Slot). y.free) slot) ∙ sym starts

    step : plan_more F (record { clock = clock; planned = was.times.0 }) c ≡ record { clock = to; planned = was.times.0 ++ p ∷ [] }
    step =
        ap (λ b. record { clock = min (b + c.ms) greatest; planned = was.times.0 ++ record { device = c.device.0; from = b; to = min (b + c.ms) greatest } ∷ [] }) begins
        ∙ ap (λ e. record { clock = e; planned = was.times.0 ++ record { device = c.device.0; from = from; to = e } ∷ [] }) (sym ends)

    planned : (fold (plan_more F) (record { clock = clock; planned = was.times.0 }) (drop k cs)).planned ≡ (fold (plan_more F) (record { clock = to; planned = was.times.0 ++ p ∷ [] }) (drop (k + 1) cs)).planned
    planned =
        ap (λ l. (fold (plan_more F) (record { clock = clock; planned = was.times.0 }) l).planned) (drop_more cs k c more ∙ ap (λ y. y ∷ drop (k + 1) cs) own)
        ∙ ap (λ y. (fold (plan_more F) y (drop (k + 1) cs)).planned) step

-- all are planned
pub planned_all : (start slots : List Slot) (cs : List Command) (m k clock : ℕ) → IsPlannedTo start slots cs m k clock → length cs ≤ k → HoldsTimes slots (plan_behind start cs m)
planned_all start slots cs m k clock was all =
    subst (HoldsTimes slots) (sym (ap (λ l. (fold (plan_more (λ d. (slot_at start d).free)) (record { clock = clock; planned = was.times.0 }) l).planned) (drop_all k cs all)) ∙ was.times.2) was.times.1

-- the plan asks of the slots when the devices are free alone
pub plan_same : (a b : List Slot) (cs : List Command) (m : ℕ) → LeavesPassed a b → plan_behind b cs m ≡ plan_behind a cs m
plan_same a b cs m left = ap (λ (f : ℕ → ℕ). (fold (plan_more f) (record { clock = m; planned = [] }) cs).planned) (λ i d. left.free d i)

-- the device of a command is one of so many
pub command_within : (n : ℕ) (runs : List Run) (r : ℕ) (cs : List Command) (k : ℕ) (c : Command) → RunsAreHomed n runs → cs ≡ commands_of runs r → k < length cs → (slice_index_or cs k c).device.0 < n
command_within n runs r cs k c homed its within = homed r (slice_index_or cs k c).device.0 (ap (list_any (is_on (slice_index_or cs k c).device.0)) (sym its) ∙ own_device cs k c within)

-- the command at a place within, whatever else is told
pub command_told : (cs : List Command) (k : ℕ) (c e : Command) → k < length cs → slice_index_or cs k e ≡ slice_index_or cs k c
command_told cs k c e within = get_or_default cs k e c within
