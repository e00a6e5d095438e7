-- What a line keeps of the runs of its window tells which items meet.
use Rattle.serial_line.proofs.Prelude.{AreKeptOf, Back, Bool, Failed, HasRoomForRuns, IsTrue, Item, List, None, Option, Ran, Run, RunNo, Some, [], ap, are_tied, arith, at_drop_more, both_touch, commands_of, common_steps, contains_insert, drop, drop_all, false, followed_by, follows, found, get_or, inl, inr, is_on, is_run, is_some, kept_run, length, length-append, length-map, list_any, map, map-append, meet, nat_cmp, on_device, option_and_then, option_map, refl, run_in_roster, share_device, shares, slice_get, slice_get-map, snoc_get, subst, suc, sym, touches, true, unwrap_or, zero, ℕ, ◌++◌, ◌+◌, ◌-◌, ◌<◌, ◌==◌, ◌||◌, ◌↔◌, ◌∙◌, ◌∷◌, ◌≡◌, ◌≢◌, ◌≤◌, ◌⊎◌}
use Rattle.home_types.specs.DeviceSets.{Devices, Meet}
use Rattle.home_types.specs.Listed.{Listed}
use Rattle.home_types.specs.declared.commands.Command.{Command}
use Rattle.serial_line.proofs.Meetings.{both_ways, listed, meets_told}
use Rattle.serial_line.specs.declared.kept_runs.KeptRun.{KeptRun}
use Rattle.std.specs.FinSet as set

-- The devices of some commands

-- no command is passed
pub none_passed : (cs : List Command) (d : ℕ) → (set.contains (set.empty {R = nat_cmp}) d || list_any (is_on d) (drop 0 cs)) ≡ list_any (is_on d) cs
none_passed cs d = rw (set.contains-empty nat_cmp d) refl

-- one command more is passed
pub one_passed : (devices : Devices) (cs : List Command) (at : ℕ) (e : Command) → at < length cs → ((d : ℕ) → (set.contains devices d || list_any (is_on d) (drop at cs)) ≡ list_any (is_on d) cs)
    → (d : ℕ) → (set.contains (set.insert devices (get_or cs at e).device.0) d || list_any (is_on d) (drop (at + 1) cs)) ≡ list_any (is_on d) cs
one_passed devices cs at e within old d =
    ap (λ b. b || list_any (is_on d) (drop (at + 1) cs)) (contains_insert devices (get_or cs at e).device.0 d)
    ∙ turn (d == (get_or cs at e).device.0) ((get_or cs at e).device.0 == d) (set.contains devices d) (list_any (is_on d) (drop (at + 1) cs)) (back d (get_or cs at e).device.0)
    ∙ ap (λ b. set.contains devices d || b) (sym (at_drop_more (list_any (is_on d)) cs at e within)) ∙ old d
  where
    back : (x y : ℕ) → (x == y) ≡ (y == x)
    back x y = grind (arith, common_steps)

    turn : (a b s r : Bool) → a ≡ b → ((a || s) || r) ≡ (s || (b || r))
    turn a b s r same = grind (arith, common_steps)

-- all are passed
pub all_passed : (devices : Devices) (cs : List Command) (at : ℕ) → length cs ≤ at → ((d : ℕ) → (set.contains devices d || list_any (is_on d) (drop at cs)) ≡ list_any (is_on d) cs) → (d : ℕ) → set.contains devices d ≡ list_any (is_on d) cs
all_passed devices cs at whole old d = last (set.contains devices d) ∙ ap (λ l. set.contains devices d || list_any (is_on d) l) (sym (drop_all at cs whole)) ∙ old d
  where
    last : (b : Bool) → b ≡ (b || false)
    last b = grind (arith, common_steps)

-- What is kept of a run

on_these : (d : ℕ) (xs : List ℕ) → list_any (λ x. x == d) xs ≡ list_any (is_on d) (map on_device xs)
on_these d [] = refl
on_these d (x ∷ xs) = ap (λ b. (x == d) || b) (on_these d xs)

of_these : (p : ℕ → Bool) (xs : List ℕ) → list_any p xs ≡ list_any (λ (c : Command). p c.device.0) (map on_device xs)
of_these p [] = refl
of_these p (x ∷ xs) = ap (λ b. p x || b) (of_these p xs)

commands_at : (rs : List Run) (r : ℕ) (kept : KeptRun) → run_in_roster rs r ≡ Some (kept_run kept) → commands_of rs r ≡ map on_device (set.items kept.devices)
commands_at rs r kept told = ap (λ (o : Option Run). unwrap_or (option_map (λ (run : Run). run.commands) o) []) told

no_commands : (rs : List Run) (r : ℕ) → run_in_roster rs r ≡ None → commands_of rs r ≡ []
no_commands rs r told = ap (λ (o : Option Run). unwrap_or (option_map (λ (run : Run). run.commands) o) []) told

pub touches_kept : (rs : List Run) (r d : ℕ) (kept : KeptRun) → run_in_roster rs r ≡ Some (kept_run kept) → set.contains kept.devices d ≡ touches rs r d
touches_kept rs r d kept told = listed kept.devices d ∙ on_these d (set.items kept.devices) ∙ ap (list_any (is_on d)) (sym (commands_at rs r kept told))

-- .. of which some are among these
pub touches_some : (rs : List Run) (r : ℕ) (kept : KeptRun) (devices : Devices) (result : Bool) → run_in_roster rs r ≡ Some (kept_run kept) → (IsTrue result ↔ Meet kept.devices devices) → result ≡ list_any (touches rs r) (set.items devices)
touches_some rs r kept devices result told met = meets_told devices kept.devices result met ∙ (λ i. list_any (λ d. touches_kept rs r d kept told i) (set.items devices))

pub touches_none : (rs : List Run) (r : ℕ) (devices : Devices) → run_in_roster rs r ≡ None → false ≡ list_any (touches rs r) (set.items devices)
touches_none rs r devices told = none (set.items devices)
  where
    none : (xs : List ℕ) → false ≡ list_any (touches rs r) xs
    none [] = refl
    none (x ∷ xs) = none xs ∙ ap (λ cs. list_any (is_on x) cs || list_any (touches rs r) xs) (sym (no_commands rs r told))

pub shares_kept : (rs : List Run) (a b : ℕ) (kept : KeptRun) → run_in_roster rs a ≡ Some (kept_run kept) → list_any (touches rs b) (set.items kept.devices) ≡ shares rs a b
shares_kept rs a b kept told = of_these (touches rs b) (set.items kept.devices) ∙ ap (list_any (λ (c : Command). touches rs b c.device.0)) (sym (commands_at rs a kept told))

-- a run by its number
pub run_kept : (ks : List KeptRun) (r : ℕ) → r ≢ 0 → option_map kept_run (slice_get ks (r - 1)) ≡ run_in_roster (map kept_run ks) r
run_kept ks zero some = absurd (some refl)
run_kept ks (suc i) some = let same : suc i - 1 ≡ i = omega arith in ap (λ k. option_map kept_run (slice_get ks k)) same ∙ sym (slice_get-map kept_run ks i)

-- What is kept of the runs of a roster

-- the run's devices, and whom it follows
pub record IsKept (runs : List Run) (r : ℕ) (kept : KeptRun) : Type 0 where
  pub devices : (d : ℕ) → set.contains kept.devices d ≡ touches runs r d
  pub leader : kept.follows ≡ followed_by runs r

-- this is kept of the first n runs
pub record AreFirstKept (n : ℕ) (runs : List Run) (kept : List KeptRun) : Type 0 where
  pub size : length kept ≡ n
  pub each : (i : ℕ) (k : KeptRun) → slice_get kept i ≡ Some k → IsKept runs (suc i) k

pub one_kept : (n : ℕ) (runs : List Run) (ks : List KeptRun) (k : KeptRun) → AreFirstKept n runs ks → IsKept runs (suc n) k → AreFirstKept (n + 1) runs (ks ++ k ∷ [])
one_kept n runs ks k old one = record {
  size = length-append ks (k ∷ []) ∙ ap (λ m. m + 1) old.size;
  each = λ i g there. at i g (snoc_get ks k g i there);
}
  where
    at : (i : ℕ) (g : KeptRun) → (slice_get ks i ≡ Some g) ⊎ ((i ≡ length ks) × (k ≡ g)) → IsKept runs (suc i) g
    at i g (inl there) = old.each i g there
    at i g (inr last) = subst (λ h. IsKept runs (suc i) h) last.1 (subst (λ m. IsKept runs (suc m) k) (sym (last.0 ∙ old.size)) one)

-- lists of one length have an item at the same places
same_there : {A B : Type 0} (xs : List A) (ys : List B) (i : ℕ) → length xs ≡ length ys → is_some (slice_get xs i) ≡ is_some (slice_get ys i)
same_there [] [] zero size = refl
same_there [] [] (suc i) size = refl
same_there [] (y ∷ ys) i size = let e : 0 ≡ suc (length ys) = size in absurd (omega (arith, e))
same_there (x ∷ xs) [] i size = let e : suc (length xs) ≡ 0 = size in absurd (omega (arith, e))
same_there (x ∷ xs) (y ∷ ys) zero size = refl
same_there (x ∷ xs) (y ∷ ys) (suc i) size = let e : suc (length xs) ≡ suc (length ys) = size in same_there xs ys i (omega (arith, e))

none_of : {A : Type 0} (o : Option A) → is_some o ≡ false → o ≡ None
none_of None none = refl
none_of (Some x) none = absurd cc

pub all_kept : (runs : List Run) (ks : List KeptRun) → AreFirstKept (length runs) runs ks → AreKeptOf runs (map kept_run ks)
all_kept runs ks all = record { there = is_there; touched = λ r d. same_devices r d; followed = λ r f. ap (λ (o : Option RunNo). unwrap_or (option_map (λ (q : RunNo). q.0 == f) o) false) (same_leader r) }
  where
    long : length (map kept_run ks) ≡ length runs
    long = length-map ks kept_run ∙ all.size

    is_there : (r : ℕ) → is_run (map kept_run ks) r ≡ is_run runs r
    is_there zero = refl
    is_there (suc i) = same_there (map kept_run ks) runs i long

    gone : (i : ℕ) → slice_get ks i ≡ None → slice_get runs i ≡ None
    gone i none = none_of (slice_get runs i) (sym (same_there ks runs i all.size) ∙ ap is_some none)

    at : (i : ℕ) (o : Option KeptRun) → slice_get ks i ≡ o → slice_get (map kept_run ks) i ≡ option_map kept_run o
    at i o is = slice_get-map kept_run ks i ∙ ap (option_map kept_run) is

    same_devices : (r d : ℕ) → touches (map kept_run ks) r d ≡ touches runs r d
    same_devices zero d = refl
    same_devices (suc i) d = by_cases (slice_get ks i) refl
      where
        by_cases : (o : Option KeptRun) → slice_get ks i ≡ o → touches (map kept_run ks) (suc i) d ≡ touches runs (suc i) d
        by_cases (Some k) is = sym (touches_kept (map kept_run ks) (suc i) d k (at i (Some k) is)) ∙ (all.each i k is).devices d
        by_cases None is = ap (list_any (is_on d)) (no_commands (map kept_run ks) (suc i) (at i None is)) ∙ sym (ap (list_any (is_on d)) (no_commands runs (suc i) (gone i is)))

    same_leader : (r : ℕ) → followed_by (map kept_run ks) r ≡ followed_by runs r
    same_leader zero = refl
    same_leader (suc i) = by_cases (slice_get ks i) refl
      where
        by_cases : (o : Option KeptRun) → slice_get ks i ≡ o → followed_by (map kept_run ks) (suc i) ≡ followed_by runs (suc i)
        by_cases (Some k) is = ap (λ (q : Option Run). option_and_then (λ (run : Run). run.follows) q) (at i (Some k) is) ∙ (all.each i k is).leader
        by_cases None is = ap (λ (q : Option Run). option_and_then (λ (run : Run). run.follows) q) (at i None is) ∙ sym (ap (λ (q : Option Run). option_and_then (λ (run : Run). run.follows) q) (gone i is))

-- Which items meet

shared_by : (one two : List Run) (a b : ℕ) → ((r d : ℕ) → touches one r d ≡ touches two r d) → shares one a b ≡ true → shares two a b ≡ true
shared_by one two a b same share =
    let device = found (commands_of one a) (commands_of one b) share in
    both_touch two a b device.0 (sym (same a device.0) ∙ device.1) (sym (same b device.0) ∙ device.2)

pub kept_meets : (runs kept : List Run) → AreKeptOf runs kept → (i j : Item) → meet kept i j ≡ meet runs i j
kept_meets runs kept are i j = λ k. share i j k || tied i j k
  where
    shared : (a b : ℕ) → shares kept a b ≡ shares runs a b
    shared a b = both_ways (shares kept a b) (shares runs a b) (shared_by kept runs a b are.touched) (shared_by runs kept a b (λ r d. sym (are.touched r d)))

    share : (i j : Item) → share_device kept i j ≡ share_device runs i j
    share (Ran r) (Ran q) = shared r.0 q.0
    share (Ran r) (Failed d l) = are.touched r.0 d.0
    share (Ran r) (Back d l) = are.touched r.0 d.0
    share (Failed d l) (Ran q) = are.touched q.0 d.0
    share (Failed d l) (Failed e m) = refl
    share (Failed d l) (Back e m) = refl
    share (Back d l) (Ran q) = are.touched q.0 d.0
    share (Back d l) (Failed e m) = refl
    share (Back d l) (Back e m) = refl

    tied : (i j : Item) → are_tied kept i j ≡ are_tied runs i j
    tied (Ran r) (Ran q) = λ k. are.followed r.0 q.0 k || are.followed q.0 r.0 k
    tied (Ran r) (Failed e l) = refl
    tied (Ran r) (Back e l) = refl
    tied (Failed d l) j = refl
    tied (Back d l) j = refl

-- .. as one word
pub kept_meet : (runs kept : List Run) → AreKeptOf runs kept → meet kept ≡ meet runs
kept_meet runs kept are = λ k i j. kept_meets runs kept are i j k

-- One run more

-- an item more leaves the room for the others
pub room_stays : (old new : Listed KeptRun) (k : KeptRun) → new.items ≡ old.items ++ k ∷ [] → (0 < old.spare → new.spare + 1 ≡ old.spare) → HasRoomForRuns old → HasRoomForRuns new
room_stays old new k is used room =
    let size : length new.items ≡ length old.items + 1 = ap (λ l. length l) is ∙ length-append old.items (k ∷ []) in by_spare old.spare refl size
  where
    by_spare : (n : ℕ) → old.spare ≡ n → length new.items ≡ length old.items + 1 → HasRoomForRuns new
    by_spare zero none size = omega (arith, size, none, room)
    by_spare (suc n) some size = let used_one = used (omega (arith, some)) in omega (arith, size, used_one, room)

-- lists of which the same is told at each place, with one item more of which the same is told
joined_at : {X : Type 0} (f : Option Run → X) (runs kept : List Run) (q k : Run) → length kept ≡ length runs → ((i : ℕ) → f (slice_get kept i) ≡ f (slice_get runs i)) → f (Some k) ≡ f (Some q)
    → (i : ℕ) → f (slice_get (kept ++ k ∷ []) i) ≡ f (slice_get (runs ++ q ∷ []) i)
joined_at f [] [] q k size same last zero = last
joined_at f [] [] q k size same last (suc i) = refl
joined_at f [] (y ∷ kept) q k size same last i = absurd (omega (arith, size))
joined_at f (x ∷ runs) [] q k size same last i = absurd (omega (arith, size))
joined_at f (x ∷ runs) (y ∷ kept) q k size same last zero = same 0
joined_at f (x ∷ runs) (y ∷ kept) q k size same last (suc i) = joined_at f runs kept q k (omega (arith, size)) (λ j. same (suc j)) last i

same_size : (runs kept : List Run) → ((i : ℕ) → is_some (slice_get kept i) ≡ is_some (slice_get runs i)) → length kept ≡ length runs
same_size [] [] same = refl
same_size [] (y ∷ kept) same = absurd (let clash : true ≡ false = same 0 in cc)
same_size (x ∷ runs) [] same = absurd (let clash : false ≡ true = same 0 in cc)
same_size (x ∷ runs) (y ∷ kept) same = let rest = same_size runs kept (λ i. same (suc i)) in omega (arith, rest)

-- as many runs are kept as there are
pub kept_size : (runs kept : List Run) → AreKeptOf runs kept → length kept ≡ length runs
kept_size runs kept are = same_size runs kept (λ i. are.there (suc i))

-- where the same devices, and whom it follows, are kept of the last one too
joined_kept : (runs kept : List Run) (q k : Run) → AreKeptOf runs kept → ((d : ℕ) → list_any (is_on d) k.commands ≡ list_any (is_on d) q.commands) → k.follows ≡ q.follows → AreKeptOf (runs ++ q ∷ []) (kept ++ k ∷ [])
joined_kept runs kept q k are devices leads = record { there = there; touched = touched; followed = followed }
  where
    size : length kept ≡ length runs
    size = kept_size runs kept are

    there : (r : ℕ) → is_run (kept ++ k ∷ []) r ≡ is_run (runs ++ q ∷ []) r
    there zero = refl
    there (suc i) = joined_at is_some runs kept q k size (λ j. are.there (suc j)) refl i

    touched : (r d : ℕ) → touches (kept ++ k ∷ []) r d ≡ touches (runs ++ q ∷ []) r d
    touched zero d = refl
    touched (suc i) d = joined_at (λ x. list_any (is_on d) (unwrap_or (option_map (λ run. run.commands) x) [])) runs kept q k size (λ j. are.touched (suc j) d) (devices d) i

    followed : (r f : ℕ) → follows (kept ++ k ∷ []) r f ≡ follows (runs ++ q ∷ []) r f
    followed zero f = refl
    followed (suc i) f =
        joined_at (λ x. unwrap_or (option_map (λ y. y.0 == f) (option_and_then (λ run. run.follows) x)) false) runs kept q k size (λ j. are.followed (suc j) f)
        (ap (λ x. unwrap_or (option_map (λ y. y.0 == f) x) false) leads) i

-- with what is kept of one run more, at the end
pub kept_more : (runs : List Run) (ks gs : List KeptRun) (k : KeptRun) (q : Run) → AreKeptOf runs (map kept_run ks) → gs ≡ ks ++ k ∷ [] → ((d : ℕ) → set.contains k.devices d ≡ list_any (is_on d) q.commands) → k.follows ≡ q.follows → AreKeptOf (runs ++ q ∷ []) (map kept_run gs)
kept_more runs ks gs k q are is devices leads =
    subst (AreKeptOf (runs ++ q ∷ [])) (sym (ap (map kept_run) is ∙ map-append kept_run ks (k ∷ [])))
    (joined_kept runs (map kept_run ks) q (kept_run k) are (λ d. sym (on_these d (set.items k.devices)) ∙ sym (listed k.devices d) ∙ devices d) leads)
