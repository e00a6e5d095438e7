-- Each item of an order may stand behind those before it.
use Rattle.printed_records.proofs.Prelude.{AllStand, Answer, Back, Bool, Check, Command, Execution, Failed, Guard, IsTrue, Item, ItemsMayStand, Job, Kind, List, Load, MayStand, None, Option, OrderSetting, Ran, Run, RunNo, SerialRun, Set, Skipped, Some, Stand, Store, [], ap, append_assoc, arith, behind, command_effect, commands_of, common_steps, cond, count_insert, done_effect, execute, false, fold, followed_by, follows, holds, home_with_event, if◌then◌else◌, is_none, is_ran, is_told_committed, is_up_behind, kind_at, length, list_any, list_any-append, map, may_run, not, nowhere, option_map_or, plain_item, refl, serve, slice_get, slice_set, stand_at, subst, suc, sum_by-cons, sym, true, with_up, zero, ℕ, ⊤, ◌&&◌, ◌++◌, ◌+◌, ◌<◌, ◌==◌, ◌||◌, ◌∙◌, ◌∷◌, ◌≡◌}
use Rattle.home_types.specs.declared.numbers.DeviceNo.{DeviceNo}
use Rattle.printed_records.proofs.SerialAnswers.{served_first}
use Rattle.std.specs.Prelude.{count_by}

-- ---- which devices are up

-- the same devices are up in both
abbrev pub SameUps : List Stand → List Stand → Type 0
SameUps [] [] = ⊤
SameUps [] (b ∷ other) = ⊥
SameUps (a ∷ one) [] = ⊥
SameUps (a ∷ one) (b ∷ other) = (a.up ≡ b.up) × SameUps one other

same_ups : (home : List Stand) → SameUps home home
same_ups [] = tt
same_ups (s ∷ home) = (refl, same_ups home)

up_alike : (one other : List Stand) (d : ℕ) → SameUps one other → (stand_at one d).up ≡ (stand_at other d).up
up_alike [] [] d same = refl
up_alike [] (b ∷ other) d same = absurd same
up_alike (a ∷ one) [] d same = absurd same
up_alike (a ∷ one) (b ∷ other) zero same = same.0
up_alike (a ∷ one) (b ∷ other) (suc d) same = up_alike one other d same.1

-- both with a device that is up or down alike
set_alike : (one other : List Stand) (d : ℕ) (x y : Stand) → x.up ≡ y.up → SameUps one other → SameUps (slice_set one d x) (slice_set other d y)
set_alike [] [] d x y up same = tt
set_alike [] (b ∷ other) d x y up same = absurd same
set_alike (a ∷ one) [] d x y up same = absurd same
set_alike (a ∷ one) (b ∷ other) zero x y up same = (up, same.1)
set_alike (a ∷ one) (b ∷ other) (suc d) x y up same = (same.0, set_alike one other d x y up same.1)

-- a device that stays up or down
set_keeps : (one other : List Stand) (d : ℕ) (x : Stand) → x.up ≡ (stand_at one d).up → SameUps one other → SameUps (slice_set one d x) other
set_keeps [] [] d x up same = tt
set_keeps [] (b ∷ other) d x up same = absurd same
set_keeps (a ∷ one) [] d x up same = absurd same
set_keeps (a ∷ one) (b ∷ other) zero x up same = (up ∙ same.0, same.1)
set_keeps (a ∷ one) (b ∷ other) (suc d) x up same = (same.0, set_keeps one other d x up same.1)

-- a command leaves its device up or down
done_keeps : (kind : Kind) (job : Job) (register : ℕ) (s : Stand) → (done_effect kind job register s).stand.up ≡ s.up
done_keeps kind job register s = of_bool job s.up refl
  where
    of_bool : (j : Job) (b : Bool) → s.up ≡ b → (done_effect kind j register s).stand.up ≡ s.up
    of_bool (Set v) true up = rw up refl
    of_bool (Check v) true up = rw up refl
    of_bool Load true up = rw up refl
    of_bool Store true up = rw up refl
    of_bool j false up = rw up refl

effect_keeps : (kind : Kind) (guard : Guard) (job : Job) (register : ℕ) (s : Stand) → (command_effect kind guard job register s).stand.up ≡ s.up
effect_keeps kind guard job register s = either (holds guard register) (done_keeps kind job register s)
  where
    either : (b : Bool) → (done_effect kind job register s).stand.up ≡ s.up → (if b then done_effect kind job register s else record { answer = Skipped; register = register; stand = s }).stand.up ≡ s.up
    either true done = done
    either false done = refl

routine_keeps : (kinds : List Kind) (x : Execution) (other : List Stand) (commands : List Command) → SameUps x.home other → SameUps (fold (execute kinds) x commands).home other
routine_keeps kinds x other [] same = same
routine_keeps kinds x other (c ∷ commands) same =
    routine_keeps kinds (execute kinds x c) other commands
    (set_keeps x.home other c.device.0 _ (effect_keeps (kind_at kinds c.device.0) c.when c.job x.register (stand_at x.home c.device.0)) same)

item_keeps : (runs : List Run) (kinds : List Kind) (s : SerialRun) (other : List Stand) (item : Item) → SameUps s.home other → SameUps (serve runs kinds s item).home (home_with_event other item)
item_keeps runs kinds s other (Ran r) same = routine_keeps kinds (record { home = s.home; register = 0; answers = []; refused = false }) other (commands_of runs r.0) same
item_keeps runs kinds s other (Failed d k) same = set_alike s.home other d.0 _ _ refl same
item_keeps runs kinds s other (Back d k) same = set_alike s.home other d.0 _ _ refl same

items_keep : (runs : List Run) (kinds : List Kind) (s : SerialRun) (other : List Stand) (items : List Item) → SameUps s.home other → SameUps (fold (serve runs kinds) s items).home (fold home_with_event other items)
items_keep runs kinds s other [] same = same
items_keep runs kinds s other (item ∷ items) same = items_keep runs kinds (serve runs kinds s item) (home_with_event other item) items (item_keeps runs kinds s other item same)

-- .. without the numbers of the events
events_alike : (home : List Stand) (items : List Item) → fold home_with_event home (map plain_item items) ≡ fold home_with_event home items
events_alike home [] = refl
events_alike home (Ran r ∷ items) = events_alike home items
events_alike home (Failed d k ∷ items) = events_alike (with_up home d.0 false) items
events_alike home (Back d k ∷ items) = events_alike (with_up home d.0 true) items

fold_on : {S X : Type 0} (step : S → X → S) (s : S) (front back : List X) → fold step s (front ++ back) ≡ fold step (fold step s front) back
fold_on step s [] back = refl
fold_on step s (x ∷ front) back = fold_on step (step s x) front back

-- the start of a serial execution
abbrev starts : List Stand → SerialRun
starts home = record { home = home; answers = []; refused = false }

up_there : (runs : List Run) (kinds : List Kind) (home : List Stand) (front : List Item) (d : ℕ) → (stand_at (fold (serve runs kinds) (starts home) front).home d).up ≡ is_up_behind home (map plain_item front) d
up_there runs kinds home front d =
    up_alike (fold (serve runs kinds) (starts home) front).home (fold home_with_event home front) d (items_keep runs kinds (starts home) home front (same_ups home))
    ∙ ap (λ h. (stand_at h d).up) (sym (events_alike home front))

-- the execution behind these items and one more is not refused
calm_there : (runs : List Run) (kinds : List Kind) (home : List Stand) (front : List Item) (item : Item) (back : List Item)
    → (fold (serve runs kinds) (starts home) (front ++ item ∷ back)).refused ≡ false → (serve runs kinds (fold (serve runs kinds) (starts home) front) item).refused ≡ false
calm_there runs kinds home front item back calm =
    served_first runs kinds (serve runs kinds (fold (serve runs kinds) (starts home) front) item) back
    (ap (λ s. s.refused) (sym (fold_on (serve runs kinds) (starts home) front (item ∷ back))) ∙ calm)

-- a failure is one of a device that is up there
pub failure_stands : (runs : List Run) (kinds : List Kind) (home : List Stand) (front : List Item) (d : DeviceNo) (k : ℕ) (back : List Item)
    → (fold (serve runs kinds) (starts home) (front ++ Failed d k ∷ back)).refused ≡ false → is_up_behind home (map plain_item front) d.0 ≡ true
failure_stands runs kinds home front d k back calm =
    let here = calm_there runs kinds home front (Failed d k) back calm in
    let same = up_there runs kinds home front d.0 in
    sym same ∙ grind (arith, common_steps)

-- a restart is one of a device that is down there
pub restart_stands : (runs : List Run) (kinds : List Kind) (home : List Stand) (front : List Item) (d : DeviceNo) (k : ℕ) (back : List Item)
    → (fold (serve runs kinds) (starts home) (front ++ Back d k ∷ back)).refused ≡ false → is_up_behind home (map plain_item front) d.0 ≡ false
restart_stands runs kinds home front d k back calm =
    let here = calm_there runs kinds home front (Back d k) back calm in
    let same = up_there runs kinds home front d.0 in
    sym same ∙ grind (arith, common_steps)

-- ---- runs

any_plain : (r : ℕ) (items : List Item) → list_any (is_ran r) (map plain_item items) ≡ list_any (is_ran r) items
any_plain r [] = refl
any_plain r (Ran q ∷ items) = ap (λ b. (q.0 == r) || b) (any_plain r items)
any_plain r (Failed d k ∷ items) = any_plain r items
any_plain r (Back d k ∷ items) = any_plain r items

any_behind : (f : ℕ) (p : Item → Bool) (items : List Item) → list_any p items ≡ false → list_any p (behind f items) ≡ false
any_behind f p [] none = refl
any_behind f p (i ∷ items) none = of_bool (any_behind f p items (grind (arith, common_steps))) (is_ran f i) refl
  where
    of_bool : list_any p (behind f items) ≡ false → (b : Bool) → is_ran f i ≡ b → list_any p (if b then items else behind f items) ≡ false
    of_bool rest true is = grind (arith, common_steps)
    of_bool rest false is = rest

counts : (p : Item → Bool) (i : Item) (items : List Item) → count_by p (i ∷ items) ≡ cond (p i) 1 0 + count_by p items
counts p i items = sum_by-cons (λ x. cond (p x) 1 0) i items

any_counted : (p : Item → Bool) (items : List Item) → count_by p items ≡ 0 → list_any p items ≡ false
any_counted p [] none = refl
any_counted p (i ∷ items) none = of_bool (any_counted p items) (p i) refl
  where
    of_bool : (count_by p items ≡ 0 → list_any p items ≡ false) → (b : Bool) → p i ≡ b → list_any p (i ∷ items) ≡ false
    of_bool rest true is = let one : count_by p (i ∷ items) ≡ 1 + count_by p items = counts p i items ∙ ap (λ b. cond b 1 0 + count_by p items) is in absurd (omega (arith, one, none))
    of_bool rest false is =
        let same : count_by p (i ∷ items) ≡ 0 + count_by p items = counts p i items ∙ ap (λ b. cond b 1 0 + count_by p items) is in
        rw is (rest (omega (arith, same, none)))

-- a run that stands once stands neither before nor behind itself
record StandsApart (r : ℕ) (front back : List Item) : Type 0 where
  before : list_any (is_ran r) front ≡ false
  after : list_any (is_ran r) back ≡ false

apart : (r : RunNo) (front back : List Item) → count_by (is_ran r.0) (front ++ Ran r ∷ back) ≡ 1 → StandsApart r.0 front back
apart r front back once =
    let split = count_insert (is_ran r.0) front back (Ran r) in
    let own : (r.0 == r.0) ≡ true = grind (arith, common_steps) in
    let one : count_by (is_ran r.0) (front ++ Ran r ∷ back) ≡ 1 + count_by (is_ran r.0) (front ++ back) = split ∙ ap (λ b. cond b 1 0 + count_by (is_ran r.0) (front ++ back)) own in
    let none = any_counted (is_ran r.0) (front ++ back) (omega (arith, one, once)) in
    let both = list_any-append (is_ran r.0) front back in
    record { before = grind (arith, common_steps); after = grind (arith, common_steps) }

-- a run that stands behind another one has it before it
follows_behind : (r : RunNo) (f : ℕ) (front back : List Item) → list_any (is_ran r.0) back ≡ false → list_any (is_ran r.0) (behind f (front ++ Ran r ∷ back)) ≡ true → list_any (is_ran f) front ≡ true
follows_behind r f [] back none there = of_bool (any_behind f (is_ran r.0) back none) (r.0 == f) refl
  where
    of_bool : list_any (is_ran r.0) (behind f back) ≡ false → (b : Bool) → (r.0 == f) ≡ b → list_any (is_ran f) [] ≡ true
    of_bool nowhere true is = absurd (grind (arith, common_steps))
    of_bool nowhere false is = absurd (grind (arith, common_steps))
follows_behind r f (i ∷ front) back none there = of_bool (follows_behind r f front back none) (is_ran f i) refl
  where
    of_bool : (list_any (is_ran r.0) (behind f (front ++ Ran r ∷ back)) ≡ true → list_any (is_ran f) front ≡ true) → (b : Bool) → is_ran f i ≡ b → list_any (is_ran f) (i ∷ front) ≡ true
    of_bool rest true is = rw is refl
    of_bool rest false is = rw is (rest (subst (λ b. list_any (is_ran r.0) (if b then front ++ Ran r ∷ back else behind f (front ++ Ran r ∷ back)) ≡ true) is there))

map_on : {X Y : Type 0} (f : X → Y) (front back : List X) → map f (front ++ back) ≡ map f front ++ map f back
map_on f [] back = refl
map_on f (x ∷ front) back = ap (λ ys. f x ∷ ys) (map_on f front back)

-- ---- the whole order

-- the item is an event of a device that the home has
abbrev pub IsHomed : ℕ → Item → Type 0
IsHomed devices (Ran r) = ⊤
IsHomed devices (Failed d k) = d.0 < devices
IsHomed devices (Back d k) = d.0 < devices

-- the order is one of the window
pub record IsOrderOf (w : OrderSetting) (kinds : List Kind) (order : List Item) : Type 0 where
  pub calm : (fold (serve w.runs kinds) (record { home = w.home; answers = []; refused = false }) order).refused ≡ false
  pub once : (r : ℕ) → count_by (is_ran r) order ≡ (if is_told_committed w.ends r then 1 else 0)
  pub following : (r f : ℕ) → IsTrue (follows w.runs r f && is_told_committed w.ends r && is_told_committed w.ends f) → IsTrue (list_any (is_ran r) (behind f order))
  pub homed : (front : List Item) (item : Item) (back : List Item) → front ++ item ∷ back ≡ order → IsHomed (length w.devices) item

-- a run of the order is committed
pub ran_committed : (w : OrderSetting) (kinds : List Kind) (order : List Item) (front : List Item) (r : RunNo) (back : List Item)
    → IsOrderOf w kinds order → front ++ Ran r ∷ back ≡ order → is_told_committed w.ends r.0 ≡ true
ran_committed w kinds order front r back is there = of_bool (is_told_committed w.ends r.0) refl
  where
    counted : count_by (is_ran r.0) (front ++ Ran r ∷ back) ≡ (if is_told_committed w.ends r.0 then 1 else 0)
    counted = ap (λ items. count_by (is_ran r.0) items) there ∙ is.once r.0

    of_bool : (b : Bool) → is_told_committed w.ends r.0 ≡ b → is_told_committed w.ends r.0 ≡ true
    of_bool true e = e
    of_bool false e =
        let own : (r.0 == r.0) ≡ true = grind (arith, common_steps) in
        let split : count_by (is_ran r.0) (front ++ Ran r ∷ back) ≡ 1 + count_by (is_ran r.0) (front ++ back) =
        count_insert (is_ran r.0) front back (Ran r) ∙ ap (λ b. cond b 1 0 + count_by (is_ran r.0) (front ++ back)) own in
        let none : count_by (is_ran r.0) (front ++ Ran r ∷ back) ≡ 0 = counted ∙ ap (λ b. if b then 1 else 0) e in
        absurd (omega (arith, split, none))

run_stands : (w : OrderSetting) (kinds : List Kind) (order : List Item) (front : List Item) (r : RunNo) (back : List Item)
    → IsOrderOf w kinds order → front ++ Ran r ∷ back ≡ order → may_run w.runs w.ends (map plain_item front) r.0 ≡ true
run_stands w kinds order front r back is there =
    let first = any_plain r.0 front ∙ alone.before in
    let next = after_followed (followed_by w.runs r.0) refl in
    rw committed (rw first next)
  where
    committed : is_told_committed w.ends r.0 ≡ true
    committed = ran_committed w kinds order front r back is there

    alone : StandsApart r.0 front back
    alone = apart r front back (ap (λ items. count_by (is_ran r.0) items) there ∙ is.once r.0 ∙ ap (λ b. if b then 1 else 0) committed)

    after_committed : (f : RunNo) → followed_by w.runs r.0 ≡ Some f → (b : Bool) → is_told_committed w.ends f.0 ≡ b → (not b || list_any (is_ran f.0) (map plain_item front)) ≡ true
    after_committed f followed false e = refl
    after_committed f followed true e =
        let same : (f.0 == f.0) ≡ true = grind (arith, common_steps) in
        let does : follows w.runs r.0 f.0 ≡ true = rw followed same in
        any_plain f.0 front
        ∙ follows_behind r f.0 front back alone.after
        (ap (λ items. list_any (is_ran r.0) (behind f.0 items)) there ∙ grind (arith, common_steps, is.following r.0 f.0))

    after_followed : (followed : Option RunNo) → followed_by w.runs r.0 ≡ followed
        → option_map_or (λ f. not (is_told_committed w.ends f.0) || list_any (is_ran f.0) (map plain_item front)) followed true ≡ true
    after_followed None e = refl
    after_followed (Some f) e = after_committed f e (is_told_committed w.ends f.0) refl

item_stands : (w : OrderSetting) (kinds : List Kind) (order : List Item) (front : List Item) (item : Item) (back : List Item)
    → IsOrderOf w kinds order → front ++ item ∷ back ≡ order → MayStand w (map plain_item front) item
item_stands w kinds order front (Ran r) back is there = run_stands w kinds order front r back is there
item_stands w kinds order front (Failed d k) back is there =
    (is.homed front (Failed d k) back there, failure_stands w.runs kinds w.home front d k back (ap (λ items. (fold (serve w.runs kinds) (record { home = w.home; answers = []; refused = false }) items).refused) there ∙ is.calm))
item_stands w kinds order front (Back d k) back is there =
    (is.homed front (Back d k) back there, restart_stands w.runs kinds w.home front d k back (ap (λ items. (fold (serve w.runs kinds) (record { home = w.home; answers = []; refused = false }) items).refused) there ∙ is.calm))

stand_from : (w : OrderSetting) (kinds : List Kind) (order : List Item) (front back : List Item)
    → IsOrderOf w kinds order → front ++ back ≡ order → ItemsMayStand w (map plain_item front) back
unfolding ItemsMayStand
stand_from w kinds order front [] is there = tt
stand_from w kinds order front (item ∷ back) is there = (
  item_stands w kinds order front item back is there,
  subst (λ earlier. ItemsMayStand w earlier back) (map_on plain_item front (item ∷ []))
      (stand_from w kinds order (front ++ item ∷ []) back is (append_assoc front (item ∷ []) back ∙ there)),
)

-- each item of the order may stand where it stands
pub items_stand : (w : OrderSetting) (kinds : List Kind) (order : List Item) → IsOrderOf w kinds order → ItemsMayStand w [] order
items_stand w kinds order is = stand_from w kinds order [] order is refl

-- ---- each committed run stands

none_any : (p : Item → Bool) (items : List Item) → list_any p items ≡ false → count_by p items ≡ 0
none_any p [] none = refl
none_any p (i ∷ items) none =
    let here : p i ≡ false = grind (arith, common_steps) in
    counts p i items ∙ ap (λ b. cond b 1 0 + count_by p items) here ∙ ap (λ k. 0 + k) (none_any p items (grind (arith, common_steps)))

any_once : (p : Item → Bool) (items : List Item) → count_by p items ≡ 1 → list_any p items ≡ true
any_once p items one = of_bool (list_any p items) refl
  where
    of_bool : (b : Bool) → list_any p items ≡ b → list_any p items ≡ true
    of_bool true e = e
    of_bool false e = let none = none_any p items e in absurd (omega (arith, none, one))

all_from : (w : OrderSetting) (kinds : List Kind) (order : List Item) (r : ℕ) (ends : List (Option (List Answer))) → IsOrderOf w kinds order
    → ((k : ℕ) (told : Option (List Answer)) → slice_get ends k ≡ Some told → is_none told ≡ false → is_told_committed w.ends (r + k + 1) ≡ true) → AllStand (map plain_item order) r ends
unfolding AllStand
all_from w kinds order r [] is told = tt
all_from w kinds order r (None ∷ ends) is told =
    (refl, all_from w kinds order (r + 1) ends is (λ k t at some. let same : r + 1 + k + 1 ≡ r + suc k + 1 = omega arith in ap (is_told_committed w.ends) same ∙ told (suc k) t at some))
all_from w kinds order r (Some answers ∷ ends) is told =
    let here : is_told_committed w.ends (r + 1) ≡ true = let same : r + 1 ≡ r + 0 + 1 = omega arith in ap (is_told_committed w.ends) same ∙ told 0 (Some answers) refl refl in
    let one : count_by (is_ran (r + 1)) order ≡ 1 = is.once (r + 1) ∙ ap (λ b. if b then 1 else 0) here in (
      any_plain (r + 1) order ∙ any_once (is_ran (r + 1)) order one,
      all_from w kinds order (r + 1) ends is (λ k t at some. let same : r + 1 + k + 1 ≡ r + suc k + 1 = omega arith in ap (is_told_committed w.ends) same ∙ told (suc k) t at some),
    )

-- each committed run stands in the order
pub all_stand : (w : OrderSetting) (kinds : List Kind) (order : List Item) → IsOrderOf w kinds order
    → ((k : ℕ) (told : Option (List Answer)) → slice_get w.ends k ≡ Some told → is_none told ≡ false → is_told_committed w.ends (k + 1) ≡ true) → AllStand (map plain_item order) 0 w.ends
all_stand w kinds order is told =
    all_from w kinds order 0 w.ends is (λ k t at some. let same : 0 + k + 1 ≡ k + 1 = omega arith in ap (is_told_committed w.ends) same ∙ told k t at some)
