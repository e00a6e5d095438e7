-- The first place, as parts that belong to one window tell it.
use Rattle.lock_leasing.proofs.Prelude.{Back, Bool, Command, Failed, Grips, IsRosterFor, Item, Kept, List, Mark, None, OfRun, Option, Ran, Reading, RunNo, Setting, Some, WindowParts, [], ap, ap₂, arith, binds, commands_of, common_steps, cond, device_numbers, devices_of, end_is, end_of, false, filter, followed_by, follows, front_in_line, front_of, has_ended, has_touched, if◌then◌else◌, is_committed, is_committing, is_live, is_none, is_on, is_ran, is_some, item_has_touched, items_of, last_counted, last_in_line, last_place, length, list_any, max, not, of_run, option_map, point, point_of, range_with_len, read_of, refl, slice_get, stands_in, suc, sym, touches, true, unwrap_or, up_to, up_to_committed, up_to_either, up_to_first, up_to_followed, up_to_last, up_to_touched, zero, ℕ, ◌&&◌, ◌+◌, ◌<◌, ◌==◌, ◌||◌, ◌∙◌, ◌∷◌, ◌≡◌, ◌≤◌}
use Rattle.lock_leasing.proofs.AccessRuns.{EachTail}
use Rattle.lock_leasing.proofs.Facts.{facts_of}
use Rattle.lock_leasing.specs.FirstPlaces.{IsFirstPlaceOf}
use Rattle.serial_line.specs.Ties.{IsLineOf}

-- Some item of a list passes

any_found : {A : Type 0} (p : A → Bool) (xs : List A) → list_any p xs ≡ true → (k : ℕ) × (x : A) × (slice_get xs k ≡ Some x) × (p x ≡ true)
any_found p [] some = absurd (cc)
any_found {A} p (x ∷ xs) some = at (p x) refl (λ more. any_found p xs more)
  where
    at : (b : Bool) → p x ≡ b → (list_any p xs ≡ true → (k : ℕ) × (y : A) × (slice_get xs k ≡ Some y) × (p y ≡ true)) → (k : ℕ) × (y : A) × (slice_get (x ∷ xs) k ≡ Some y) × (p y ≡ true)
    at true e behind = (zero, x, refl, e)
    at false e behind = let found = behind (grind (arith, common_steps)) in (suc found.0, found.1, found.2, found.3)

any_at : {A : Type 0} (p : A → Bool) (xs : List A) (k : ℕ) (x : A) → slice_get xs k ≡ Some x → p x ≡ true → list_any p xs ≡ true
any_at p [] k x at passes = absurd (cc)
any_at p (y ∷ ys) zero x at passes = let same : y ≡ x = ap (λ o. unwrap_or o x) at in let here : p y ≡ true = ap p same ∙ passes in rw here refl
any_at p (y ∷ ys) (suc k) x at passes = let rest : list_any p ys ≡ true = any_at p ys k x at passes in grind (arith, common_steps)

pub any_filter : {A : Type 0} (p t : A → Bool) (xs : List A) → list_any p (filter t xs) ≡ list_any (λ x. t x && p x) xs
any_filter p t [] = refl
any_filter {A} p t (x ∷ xs) = at (t x) (any_filter p t xs)
  where
    at : (b : Bool) → list_any p (filter t xs) ≡ list_any (λ y. t y && p y) xs → list_any p (cond b (x ∷ filter t xs) (filter t xs)) ≡ ((b && p x) || list_any (λ y. t y && p y) xs)
    at true rest = ap (λ b. p x || b) rest
    at false rest = rest

pub any_range : (q : ℕ → Bool) (a k d : ℕ) → a ≤ d → d < a + k → q d ≡ true → list_any q (range_with_len a k) ≡ true
any_range q a zero d from below passes = absurd (omega (arith, from, below))
any_range q a (suc k) d from below passes = at (a == d) refl (λ next. any_range q (a + 1) k d next (omega (arith, below)) passes)
  where
    at : (b : Bool) → (a == d) ≡ b → (a + 1 ≤ d → list_any q (range_with_len (a + 1) k) ≡ true) → (q a || list_any q (range_with_len (a + 1) k)) ≡ true
    at true e behind = let same : a ≡ d = grind (arith, common_steps) in let here : q a ≡ true = ap q same ∙ passes in rw here refl
    at false e behind = let other : (a == d) ≡ false = e in let rest : list_any q (range_with_len (a + 1) k) ≡ true = behind (grind (arith, common_steps)) in rw rest (grind (arith, common_steps))

both_ways : (a b : Bool) → (a ≡ true → b ≡ true) → (b ≡ true → a ≡ true) → a ≡ b
both_ways true b to from = sym (to refl)
both_ways false true to from = from refl
both_ways false false to from = refl

-- some device of the run is so where some command's device is
pub devices_by_commands : (w : Setting) (r : ℕ) (p : ℕ → Bool) → IsRosterFor (length w.first) w.runs → list_any p (devices_of w r) ≡ list_any (λ (c : Command). p c.device.0) (commands_of w.runs r)
devices_by_commands w r p allowed =
    any_filter p (touches w.runs r) (device_numbers w)
    ∙ both_ways (list_any (λ d. touches w.runs r d && p d) (device_numbers w)) (list_any (λ (c : Command). p c.device.0) (commands_of w.runs r)) to from
  where
    to : list_any (λ d. touches w.runs r d && p d) (device_numbers w) ≡ true → list_any (λ (c : Command). p c.device.0) (commands_of w.runs r) ≡ true
    to some =
        let found = any_found (λ d. touches w.runs r d && p d) (device_numbers w) some in
        let on = any_found (is_on found.1) (commands_of w.runs r) (grind (arith, common_steps, found.3)) in
        let same : on.1.device.0 ≡ found.1 = grind (arith, common_steps, on.3) in
        let passes : p found.1 ≡ true = grind (arith, common_steps, found.3) in
        any_at (λ (c : Command). p c.device.0) (commands_of w.runs r) on.0 on.1 on.2 (ap p same ∙ passes)

    from : list_any (λ (c : Command). p c.device.0) (commands_of w.runs r) ≡ true → list_any (λ d. touches w.runs r d && p d) (device_numbers w) ≡ true
    from some =
        let found = any_found (λ (c : Command). p c.device.0) (commands_of w.runs r) some in
        let own : (found.1.device.0 == found.1.device.0) ≡ true = grind (arith, common_steps) in
        let on : touches w.runs r found.1.device.0 ≡ true = any_at (is_on found.1.device.0) (commands_of w.runs r) found.0 found.1 found.2 own in
        let homed : found.1.device.0 < length w.first = allowed.homed r found.0 found.1 found.2 in
        let passes : (touches w.runs r found.1.device.0 && p found.1.device.0) ≡ true = ap₂ (λ a b. a && b) on found.3 in
        any_range (λ d. touches w.runs r d && p d) 0 (length w.first) found.1.device.0 (omega arith) (omega (arith, homed)) passes

-- Tests that agree

any_same : {A : Type 0} (p q : A → Bool) → ((x : A) → p x ≡ q x) → (xs : List A) → list_any p xs ≡ list_any q xs
any_same p q same [] = refl
any_same p q same (x ∷ xs) = ap₂ (λ a b. a || b) (same x) (any_same p q same xs)

up_to_same : (p q : Item → Bool) → ((i : Item) → p i ≡ q i) → (is : List Item) → up_to_last p is ≡ up_to_last q is
up_to_same p q same [] = refl
up_to_same p q same (i ∷ is) = ap₂ (λ b k. if b then k + 1 else 0) (any_same p q same (i ∷ is)) (up_to_same p q same is)

up_to_none : (p : Item → Bool) → ((i : Item) → p i ≡ false) → (is : List Item) → up_to_last p is ≡ 0
up_to_none p none is = up_to_same p (λ i. false) none is ∙ nothing is
  where
    nowhere : (is : List Item) → list_any (λ (i : Item). false) is ≡ false
    nowhere [] = refl
    nowhere (i ∷ is) = nowhere is

    nothing : (is : List Item) → up_to_last (λ i. false) is ≡ 0
    nothing [] = refl
    nothing (i ∷ is) = ap (λ b. if b then up_to_last (λ j. false) is + 1 else 0) (nowhere is)

up_to_first_same : (p q : Item → Bool) (is : List Item) → EachTail (λ i rest. p i ≡ q i) is → up_to_first p is ≡ up_to_first q is
up_to_first_same p q [] same = refl
up_to_first_same p q (i ∷ is) same = ap₂ (λ b k. if b then 0 else k + 1) same.0 (up_to_first_same p q is same.1)

-- The tests of the floor

-- the item has touched a device of these commands
abbrev touches_any : Reading → Grips → List Command → Item → Bool
touches_any n g cs i = list_any (λ c. item_has_touched n g i c.device.0) cs

-- the item is the committed run that r follows
abbrev is_followed : Setting → Reading → ℕ → Item → Bool
is_followed w n r i = of_run (λ x. follows w.runs r x && is_committed n x) i

binds_by : (w : Setting) (n : Reading) (g : Grips) (r : ℕ) → IsRosterFor (length w.first) w.runs → (i : Item) → binds (point w n g) r i ≡ (touches_any n g (commands_of w.runs r) i || is_followed w n r i)
binds_by w n g r allowed (Ran x) = ap (λ b. b || (follows w.runs r x.0 && is_committed n x.0)) (devices_by_commands w r (has_touched n g x.0) allowed)
binds_by w n g r allowed (Failed e k) = on_device (commands_of w.runs r) ∙ or_false (touches_any n g (commands_of w.runs r) (Failed e k))
  where
    on_device : (cs : List Command) → list_any (is_on e.0) cs ≡ list_any (λ (c : Command). e.0 == c.device.0) cs
    on_device cs = any_same (is_on e.0) (λ (c : Command). e.0 == c.device.0) (λ c. grind (arith, common_steps)) cs

    or_false : (b : Bool) → b ≡ (b || false)
    or_false true = refl
    or_false false = refl
binds_by w n g r allowed (Back e k) = on_device (commands_of w.runs r) ∙ or_false (touches_any n g (commands_of w.runs r) (Back e k))
  where
    on_device : (cs : List Command) → list_any (is_on e.0) cs ≡ list_any (λ (c : Command). e.0 == c.device.0) cs
    on_device cs = any_same (is_on e.0) (λ (c : Command). e.0 == c.device.0) (λ c. grind (arith, common_steps)) cs

    or_false : (b : Bool) → b ≡ (b || false)
    or_false true = refl
    or_false false = refl

-- up to the last item that has touched one of the devices
touched_is : (n : Reading) (g : Grips) (marks : List Mark) (cs : List Command) → IsLineOf n.line (item_has_touched n g) (has_ended n) marks → up_to_touched cs marks ≡ up_to_last (touches_any n g cs) n.line
touched_is n g marks cs is = ap up_to (last_in_line (λ (c : Command). c.device.0) cs is) ∙ sym (last_counted (touches_any n g cs) n.line)

-- up to the committed run that it follows
followed_is : (w : Setting) (n : Reading) (r : ℕ) (history : List Kept) (marks : List Mark) → ((q : ℕ) → end_of history q ≡ (n.run q).ended) → items_of marks ≡ n.line → up_to_followed w.runs history r marks ≡ up_to_last (is_followed w n r) n.line
followed_is w n r history marks ends items = at (followed_by w.runs r)
  where
    never : (f : Option RunNo) → ((x : ℕ) → (unwrap_or (option_map (λ q. q.0 == x) f) false && is_committed n x) ≡ false) → (i : Item) → of_run (λ x. unwrap_or (option_map (λ q. q.0 == x) f) false && is_committed n x) i ≡ false
    never f none (Ran x) = none x.0
    never f none (Failed e k) = refl
    never f none (Back e k) = refl

    own : (f : RunNo) → is_committed n f.0 ≡ true → (i : Item) → is_ran f.0 i ≡ of_run (λ x. (f.0 == x) && is_committed n x) i
    own f committed (Ran x) = one (x.0 == f.0) refl
      where
        one : (b : Bool) → (x.0 == f.0) ≡ b → b ≡ ((f.0 == x.0) && is_committed n x.0)
        one true e = let same : f.0 ≡ x.0 = grind (arith, common_steps) in let its : is_committed n x.0 ≡ true = sym (ap (is_committed n) same) ∙ committed in grind (arith, common_steps)
        one false e = grind (arith, common_steps)
    own f committed (Failed e k) = refl
    own f committed (Back e k) = refl

    foreign : (f : RunNo) → is_committed n f.0 ≡ false → (x : ℕ) → ((f.0 == x) && is_committed n x) ≡ false
    foreign f live x = one (f.0 == x) refl
      where
        one : (b : Bool) → (f.0 == x) ≡ b → (b && is_committed n x) ≡ false
        one true e = let same : x ≡ f.0 = grind (arith, common_steps) in ap (is_committed n) same ∙ live
        one false e = refl

    by_end : (f : RunNo) (b : Bool) → is_committed n f.0 ≡ b → (if b then up_to (last_place (is_ran f.0) (items_of marks)) else 0) ≡ up_to_last (λ i. of_run (λ x. (f.0 == x) && is_committed n x) i) n.line
    by_end f true committed = ap (λ l. up_to (last_place (is_ran f.0) l)) items ∙ sym (last_counted (is_ran f.0) n.line) ∙ up_to_same (is_ran f.0) (λ i. of_run (λ x. (f.0 == x) && is_committed n x) i) (own f committed) n.line
    by_end f false live = sym (up_to_none (λ i. of_run (λ x. (f.0 == x) && is_committed n x) i) (never (Some f) (foreign f live)) n.line)

    at : (f : Option RunNo) → up_to_committed history marks f ≡ up_to_last (λ i. of_run (λ x. unwrap_or (option_map (λ q. q.0 == x) f) false && is_committed n x) i) n.line
    at None = sym (up_to_none (λ i. of_run (λ x. false && is_committed n x) i) (never None (λ x. refl)) n.line)
    at (Some f) = ap (λ o. if unwrap_or (option_map is_committing o) false then up_to (last_place (is_ran f.0) (items_of marks)) else 0) (ends f.0) ∙ by_end f (is_committed n f.0) refl

-- before the first live run
pub front_is : (n : Reading) (g : Grips) (marks : List Mark) → IsLineOf n.line (item_has_touched n g) (has_ended n) marks → ((q : ℕ) → list_any (is_ran q) n.line ≡ true → is_some (n.run q).placed ≡ true) → front_of marks ≡ up_to_first (of_run (is_live n)) n.line
front_is n g marks is placed = front_in_line is ∙ up_to_first_same (of_run (λ q. not (has_ended n q))) (of_run (is_live n)) n.line (each n.line placed)
  where
    lives : (o : OfRun) → is_some o.placed ≡ true → not (is_some o.ended) ≡ (is_some o.placed && is_none o.ended)
    lives o there = grind (arith, common_steps)

    each : (is : List Item) → ((q : ℕ) → list_any (is_ran q) is ≡ true → is_some (n.run q).placed ≡ true) → EachTail (λ i rest. of_run (λ q. not (has_ended n q)) i ≡ of_run (is_live n) i) is
    each [] among = tt
    each (Ran q ∷ is) among =
        let own : (q.0 == q.0) ≡ true = grind (arith, common_steps) in
        let there : is_some (n.run q.0).placed ≡ true = among q.0 (rw own refl) in
        (lives (n.run q.0) there, each is (λ k some. among k (rw some (grind (arith, common_steps)))))
    each (Failed e k ∷ is) among = (refl, each is among)
    each (Back e k ∷ is) among = (refl, each is among)

-- the greatest of the three counts is the first place
pub first_is : (parts : WindowParts) (r touched followed front place : ℕ)
    → touched ≡ up_to_touched (commands_of parts.runs r) parts.line → followed ≡ up_to_followed parts.runs parts.history r parts.line → front ≡ front_of parts.line → place ≡ max (max touched followed) front → IsFirstPlaceOf parts r place
first_is parts r touched followed front place e1 e2 e3 e4 s stands =
    let n : Reading = read_of s in
    let f = facts_of s parts stands in
    let ends : (q : ℕ) → end_of parts.history q ≡ ((read_of s).run q).ended = λ q. ap (λ h. end_of h q) (sym stands.its_history) ∙ end_is s.setting s.history q stands.well_formed in
    let by_touch : touched ≡ up_to_last (touches_any (read_of s) s.grips (commands_of s.setting.runs r)) (read_of s).line =
    e1 ∙ ap (λ rs. up_to_touched (commands_of rs r) parts.line) (sym stands.its_roster) ∙ touched_is (read_of s) s.grips parts.line (commands_of s.setting.runs r) stands.its_line in
    let by_follow : followed ≡ up_to_last (is_followed s.setting (read_of s) r) (read_of s).line =
    e2 ∙ ap (λ rs. up_to_followed rs parts.history r parts.line) (sym stands.its_roster) ∙ followed_is s.setting (read_of s) r parts.history parts.line ends stands.its_line.items in
    let by_live : front ≡ up_to_first (of_run (is_live (read_of s))) (read_of s).line =
    e3 ∙ front_is (read_of s) s.grips parts.line stands.its_line (λ q among. placed_if ((read_of s).run q) (sym (f.line.line q) ∙ among)) in
    let both : up_to_last (binds (point_of s) r) (read_of s).line ≡ max (up_to_last (touches_any (read_of s) s.grips (commands_of s.setting.runs r)) (read_of s).line) (up_to_last (is_followed s.setting (read_of s) r) (read_of s).line) =
    up_to_same (binds (point_of s) r) (λ i. touches_any (read_of s) s.grips (commands_of s.setting.runs r) i || is_followed s.setting (read_of s) r i) (binds_by s.setting (read_of s) s.grips r stands.allowed) (read_of s).line
    ∙ up_to_either (touches_any (read_of s) s.grips (commands_of s.setting.runs r)) (is_followed s.setting (read_of s) r) (read_of s).line in
    e4 ∙ ap₂ max (ap₂ max by_touch by_follow ∙ sym both) by_live
  where
    placed_if : (o : OfRun) → stands_in o ≡ true → is_some o.placed ≡ true
    placed_if o stands = grind (arith, common_steps)
