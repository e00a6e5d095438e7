-- Each step that is no wait leaves fewer steps.
use Rattle.run_replay.proofs.Prelude.{Gripped, List, None, Option, PlayerState, Ready, Some, [], ap, arith, drop, empty_places, first_is_full, length, most_made, refl, slice_get, slice_set, steps_left, subst, suc, sym, ℕ, ◌*◌, ◌+◌, ◌-◌, ◌<◌, ◌∙◌, ◌∷◌, ◌≡◌, ◌≤◌}
use Rattle.hub_core.specs.Bounds.{most_entries}
use Rattle.run_replay.proofs.Settings.{fill_place, free_place}

-- the places of the runs are those behind the detector's
behind_get : {A : Type 0} (xs : List A) (r : ℕ) → slice_get (drop 1 xs) r ≡ slice_get xs (suc r)
behind_get [] r = refl
behind_get (x ∷ xs) r = refl

behind_set : {A : Type 0} (xs : List A) (r : ℕ) (y : A) → drop 1 (slice_set xs (suc r) y) ≡ slice_set (drop 1 xs) r y
behind_set [] r y = refl
behind_set (x ∷ xs) r y = refl

first_kept : {A : Type 0} (xs : List (Option A)) (r : ℕ) (y : Option A) → first_is_full (slice_set xs (suc r) y) ≡ first_is_full xs
first_kept [] r y = refl
first_kept (None ∷ xs) r y = refl
first_kept (Some x ∷ xs) r y = refl

-- the same player but for its hub and hands
pub record StaysBy {D : Type 0} (s t : PlayerState D) : Type 0 where
  pub runs : length t.hub.setting.runs ≡ length s.hub.setting.runs
  pub devices : length t.hub.setting.first ≡ length s.hub.setting.first
  pub rounds : t.rounds ≡ s.rounds
  pub probes : t.hub.rounds ≡ s.hub.rounds

-- its history has as many entries at most
pub same_most : {D : Type 0} (s t : PlayerState D) → length t.hub.setting.runs ≡ length s.hub.setting.runs → length t.hub.setting.first ≡ length s.hub.setting.first → t.hub.rounds ≡ s.hub.rounds → most_made t ≡ most_made s
same_most s t runs devices probes =
    ap (λ n. most_entries n (length t.hub.setting.first) t.hub.rounds) runs
    ∙ ap (λ n. most_entries (length s.hub.setting.runs) n t.hub.rounds) devices
    ∙ ap (λ n. most_entries (length s.hub.setting.runs) (length s.hub.setting.first) n) probes

rounds_left : {D : Type 0} (s t : PlayerState D) → StaysBy s t → t.place ≡ s.place → t.rounds * length t.hub.setting.first - t.place ≡ s.rounds * length s.hub.setting.first - s.place
rounds_left s t same place = ap (λ n. n * length t.hub.setting.first - t.place) same.rounds ∙ ap (λ n. s.rounds * n - t.place) same.devices ∙ ap (λ n. s.rounds * length s.hub.setting.first - n) place

fewer : (bound h h' e e' c c' f f' : ℕ) → h < h' → h' ≤ bound → e' ≤ e + 1 → c' ≡ c → f' ≡ f → 2 * (bound - h') + e' + 2 * c' + f' < 2 * (bound - h) + e + 2 * c + f
fewer bound h h' e e' c c' f f' more low most same full = omega (arith, more, low, most, same, full)

-- entries were made, and at most one run gave its grip back
made_by : {D : Type 0} (s t : PlayerState D) → StaysBy s t → empty_places (drop 1 t.grips) ≤ empty_places (drop 1 s.grips) + 1 → first_is_full t.grips
    ≡ first_is_full s.grips → t.place ≡ s.place → length s.hub.history < length t.hub.history → length t.hub.history ≤ most_made t → steps_left t < steps_left s
made_by s t same most full place more bound =
    let runs = same_most s t same.runs same.devices same.probes in
    let left = fewer (most_made t) (length s.hub.history) (length t.hub.history) (empty_places (drop 1 s.grips)) (empty_places (drop 1 t.grips))
    (s.rounds * length s.hub.setting.first - s.place) (t.rounds * length t.hub.setting.first - t.place) (first_is_full s.grips)
    (first_is_full t.grips) more bound most (rounds_left s t same place) full in
    subst (λ n. steps_left t < 2 * (n - length s.hub.history) + empty_places (drop 1 s.grips) + 2 * (s.rounds * length s.hub.setting.first - s.place) + first_is_full s.grips) runs left

-- entries were made
pub made_fewer : {D : Type 0} (s t : PlayerState D) → StaysBy s t → t.grips ≡ s.grips → t.place ≡ s.place → length s.hub.history < length t.hub.history → length t.hub.history ≤ most_made t → steps_left t < steps_left s
made_fewer s t same grips place more bound = made_by s t same (let e : empty_places (drop 1 t.grips) ≡ empty_places (drop 1 s.grips) = ap (λ g. empty_places (drop 1 g)) grips in omega (arith, e)) (ap first_is_full grips) place more bound

-- a run gave its grip back
pub gave_fewer : {D : Type 0} (s t : PlayerState D) (r : ℕ) → StaysBy s t → t.grips ≡ slice_set s.grips (suc r) None → t.place ≡ s.place → length s.hub.history < length t.hub.history → length t.hub.history ≤ most_made t → steps_left t < steps_left s
gave_fewer s t r same grips place more bound = made_by s t same
    (let e : empty_places (drop 1 t.grips) ≡ empty_places (slice_set (drop 1 s.grips) r None) = ap (λ g. empty_places (drop 1 g)) grips ∙ ap empty_places (behind_set s.grips r None) in let f = free_place (drop 1 s.grips) r in omega (arith, e, f))
    (ap first_is_full grips ∙ first_kept s.grips r None) place more bound

fewer_free : (b b' e e' c c' f f' : ℕ) → b' ≡ b → e' + 1 ≡ e → c' ≡ c → f' ≡ f → 2 * b' + e' + 2 * c' + f' < 2 * b + e + 2 * c + f
fewer_free b b' e e' c c' f f' same less places full = omega (arith, same, less, places, full)

-- a run took a device
pub took_fewer : {D : Type 0} (s t : PlayerState D) (r : ℕ) (x : Gripped D Ready) → StaysBy s t → slice_get s.grips (suc r) ≡ Some None → t.grips ≡ slice_set s.grips (suc r) (Some x) → t.place ≡ s.place → t.hub.history ≡ s.hub.history → steps_left t < steps_left s
took_fewer s t r x same free grips place history =
    fewer_free (most_made s - length s.hub.history) (most_made t - length t.hub.history) (empty_places (drop 1 s.grips)) (empty_places (drop 1 t.grips)) (s.rounds * length s.hub.setting.first - s.place) (t.rounds * length t.hub.setting.first - t.place) (first_is_full s.grips) (first_is_full t.grips)
    (ap (λ n. n - length t.hub.history) (same_most s t same.runs same.devices same.probes) ∙ ap (λ h. most_made s - length h) history)
    (ap (λ g. empty_places (drop 1 g) + 1) grips ∙ ap (λ g. empty_places g + 1) (behind_set s.grips r (Some x)) ∙ fill_place (drop 1 s.grips) r x (behind_get s.grips r ∙ free))
    (rounds_left s t same place)
    (ap first_is_full grips ∙ first_kept s.grips r (Some x))

equal_sums : (b b' e e' c c' f f' : ℕ) → b' ≡ b → e' ≡ e → c' ≡ c → f' ≡ f → 2 * b' + e' + 2 * c' + f' ≡ 2 * b + e + 2 * c + f
equal_sums b b' e e' c c' f f' same hands places full = omega (arith, same, hands, places, full)

-- nothing was made, and the hands are the same
pub still_left : {D : Type 0} (s t : PlayerState D) → StaysBy s t → t.grips ≡ s.grips → t.place ≡ s.place → t.hub.history ≡ s.hub.history → steps_left t ≡ steps_left s
still_left s t same grips place history =
    equal_sums (most_made s - length s.hub.history) (most_made t - length t.hub.history) (empty_places (drop 1 s.grips)) (empty_places (drop 1 t.grips)) (s.rounds * length s.hub.setting.first - s.place) (t.rounds * length t.hub.setting.first - t.place) (first_is_full s.grips) (first_is_full t.grips)
    (ap (λ n. n - length t.hub.history) (same_most s t same.runs same.devices same.probes) ∙ ap (λ h. most_made s - length h) history)
    (ap (λ g. empty_places (drop 1 g)) grips)
    (rounds_left s t same place)
    (ap first_is_full grips)

-- The detector

first_set : {A : Type 0} (xs : List (Option A)) (x : A) → 0 < length xs → first_is_full (slice_set xs 0 (Some x)) ≡ 1
first_set [] x some = absurd (omega (arith, some))
first_set (y ∷ xs) x some = refl

first_none : {A : Type 0} (xs : List (Option A)) → first_is_full (slice_set xs 0 None) ≡ 0
first_none [] = refl
first_none (y ∷ xs) = refl

first_full : {A : Type 0} (xs : List (Option A)) (x : A) → slice_get xs 0 ≡ Some (Some x) → first_is_full xs ≡ 1
first_full [] x at = absurd (cc)
first_full (None ∷ xs) x at = absurd (cc)
first_full (Some y ∷ xs) x at = refl

behind_first : {A : Type 0} (xs : List A) (y : A) → drop 1 (slice_set xs 0 y) ≡ drop 1 xs
behind_first [] y = refl
behind_first (x ∷ xs) y = refl

fewer_devices : (b b' e e' all place f f' : ℕ) → b' ≤ b → e' ≡ e → place < all → f' ≤ f + 1 → 2 * b' + e' + 2 * (all - (place + 1)) + f' < 2 * b + e + 2 * (all - place) + f
fewer_devices b b' e e' all place f f' less same low full = omega (arith, less, same, low, full)

-- the detector came to one device more
came_fewer : {D : Type 0} (s t : PlayerState D) → StaysBy s t → drop 1 t.grips ≡ drop 1 s.grips → first_is_full t.grips ≤ first_is_full s.grips + 1 → s.place < s.rounds * length s.hub.setting.first → t.place ≡ s.place + 1 → t.hub.history ≡ s.hub.history → steps_left t < steps_left s
came_fewer s t same grips full low place history =
    let all : t.rounds * length t.hub.setting.first ≡ s.rounds * length s.hub.setting.first = ap (λ n. n * length t.hub.setting.first) same.rounds ∙ ap (λ n. s.rounds * n) same.devices in
    let bound : most_made t - length t.hub.history ≡ most_made s - length s.hub.history = ap (λ n. n - length t.hub.history) (same_most s t same.runs same.devices same.probes) ∙ ap (λ h. most_made s - length h) history in
    subst (λ n. 2 * (most_made t - length t.hub.history) + empty_places (drop 1 t.grips) + 2 * n + first_is_full t.grips < steps_left s)
    (ap (λ n. n - (s.place + 1)) (sym all) ∙ ap (λ n. t.rounds * length t.hub.setting.first - n) (sym place))
    (fewer_devices (most_made s - length s.hub.history) (most_made t - length t.hub.history) (empty_places (drop 1 s.grips)) (empty_places (drop 1 t.grips)) (s.rounds * length s.hub.setting.first) s.place (first_is_full s.grips) (first_is_full t.grips)
    (omega (arith, bound)) (ap empty_places grips) low full)

-- .. and passed it over
pub passed_fewer : {D : Type 0} (s t : PlayerState D) → StaysBy s t → t.grips ≡ s.grips → s.place < s.rounds * length s.hub.setting.first → t.place ≡ s.place + 1 → t.hub.history ≡ s.hub.history → steps_left t < steps_left s
passed_fewer s t same grips low place history = came_fewer s t same (ap (drop 1) grips) (let full : first_is_full t.grips ≡ first_is_full s.grips = ap first_is_full grips in omega (arith, full)) low place history

-- .. or took a probe of it
pub probed_fewer : {D : Type 0} (s t : PlayerState D) (x : Gripped D Ready) → StaysBy s t → 0 < length s.grips → t.grips ≡ slice_set s.grips 0 (Some x) → s.place < s.rounds * length s.hub.setting.first → t.place ≡ s.place + 1 → t.hub.history ≡ s.hub.history → steps_left t < steps_left s
probed_fewer s t x same some grips low place history = came_fewer s t same (ap (drop 1) grips ∙ behind_first s.grips (Some x)) (let full : first_is_full t.grips ≡ 1 = ap first_is_full grips ∙ first_set s.grips x some in omega (arith, full)) low place history

fewer_held : (b b' e e' c c' f f' : ℕ) → b' ≤ b → e' ≡ e → c' ≡ c → f' + 1 ≡ f → 2 * b' + e' + 2 * c' + f' < 2 * b + e + 2 * c + f
fewer_held b b' e e' c c' f f' less same places held = omega (arith, less, same, places, held)

-- the detector gave its grip back
pub returned_fewer : {D : Type 0} (s t : PlayerState D) (x : Gripped D Ready) → StaysBy s t → slice_get s.grips 0 ≡ Some (Some x) → t.grips ≡ slice_set s.grips 0 None → t.place ≡ s.place → length s.hub.history ≤ length t.hub.history → steps_left t < steps_left s
returned_fewer s t x same hand grips place more =
    let bound = same_most s t same.runs same.devices same.probes in
    let before : first_is_full s.grips ≡ 1 = first_full s.grips x hand in
    let after : first_is_full t.grips ≡ 0 = ap first_is_full grips ∙ first_none s.grips in
    fewer_held (most_made s - length s.hub.history) (most_made t - length t.hub.history) (empty_places (drop 1 s.grips)) (empty_places (drop 1 t.grips)) (s.rounds * length s.hub.setting.first - s.place) (t.rounds * length t.hub.setting.first - t.place) (first_is_full s.grips) (first_is_full t.grips)
    (omega (arith, bound, more)) (ap (λ g. empty_places (drop 1 g)) grips ∙ ap empty_places (behind_first s.grips None)) (rounds_left s t same place) (omega (arith, before, after))
