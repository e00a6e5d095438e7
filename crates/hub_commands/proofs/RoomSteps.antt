-- The loops over the rooms of a window, step by step.
use Rattle.hub_commands.proofs.Prelude.{HomeIsKept, HomeState, List, Listed, MayOpen, Mode, None, Option, RoomWindow, Shown, Some, [], ap, append-nil, append_assoc, arith, false, inl, inr, length, length-append, length-reverse, map, map-append, refl, reverse, reverse-append, reverse-reverse, setting_for, slice_get, snoc_get, subst, suc, sym, true, zero, ℕ, ◌++◌, ◌+◌, ◌<◌, ◌∙◌, ◌∷◌, ◌≡◌, ◌≤◌}
use Rattle.hub_commands.specs.RoomPlays.{AreOpened, AreTakenApart, IsRoomOpened, MayAllOpen}
use Rattle.hub_threads.specs.declared.rooms.RoomDone.{RoomDone}
use Rattle.hub_threads.specs.declared.rooms.RoomHub.{RoomHub}
use Rattle.room_hubs.specs.declared.rosters.RoomRoster.{RoomRoster}

-- an item at the end stands at the head of the list turned round
turned_snoc : {X : Type 0} (xs : List X) (x : X) → reverse (xs ++ x ∷ []) ≡ x ∷ reverse xs
turned_snoc xs x = reverse-append xs (x ∷ [])

-- a number that is not above 0
pub no_more : (n : ℕ) → (0 < n → false ≡ true) → n ≡ 0
no_more zero none = refl
no_more (suc n) none = absurd (let both = none (omega arith) in cc)

map_turned : {X Y : Type 0} (f : X → Y) (xs : List X) → map f (reverse xs) ≡ reverse (map f xs)
map_turned f [] = refl
map_turned f (x ∷ xs) =
    ap (map f) (reverse-append (x ∷ []) xs) ∙ map-append f (reverse xs) (x ∷ []) ∙ ap (λ l. l ++ f x ∷ []) (map_turned f xs) ∙ sym (reverse-append (f x ∷ []) (map f xs))

-- what was taken from the end, turned round
pub all_turned : {X Y Z : Type 0} (f : X → Z) (g : Y → Z) (all left : List X) (ys turned : List Y) → map f all ≡ map f left ++ reverse (map g ys) → length left ≡ 0 → turned ≡ reverse ys → map g turned ≡ map f all
all_turned f g all [] ys turned are none is = ap (map g) is ∙ map_turned g ys ∙ sym are
all_turned f g all (x ∷ left) ys turned are none is = absurd (omega (arith, none))

-- the item behind the first ones is at their number
get_behind : {X : Type 0} (xs : List X) (x : X) (ys : List X) → slice_get (xs ++ x ∷ ys) (length xs) ≡ Some x
get_behind [] x ys = refl
get_behind (z ∷ xs) x ys = get_behind xs x ys

-- ---- opening, the last room first

-- so many rooms from the end are opened
pub record IsOpeningBackward {D : Type 0} (shows : D → Shown) (mode : Mode) (rounds : ℕ) (rosters : List RoomRoster) (homes : List (HomeState D)) (rosters_left : List RoomRoster) (homes_left : List (HomeState D)) (hubs : Listed (RoomHub D)) : Type 0 where
  pub rosters_done : List RoomRoster
  pub homes_done : List (HomeState D)
  pub rosters_are : rosters ≡ rosters_left ++ rosters_done
  pub homes_are : homes ≡ homes_left ++ homes_done
  pub opened : AreOpened shows mode rounds rosters_done homes_done (reverse hubs.items)
  pub count : length rosters_left ≡ length homes_left
  pub room : length homes_left ≤ hubs.spare

pub opening_begins : {D : Type 0} (shows : D → Shown) (mode : Mode) (rounds : ℕ) (rosters : List RoomRoster) (homes : List (HomeState D)) (hubs : Listed (RoomHub D)) → hubs.items ≡ [] → length rosters ≡ length homes → length homes ≤ hubs.spare
    → IsOpeningBackward shows mode rounds rosters homes rosters homes hubs
opening_begins {D = D} shows mode rounds rosters homes hubs empty count room = record {
  rosters_done = [];
  homes_done = [];
  rosters_are = sym (append-nil rosters);
  homes_are = sym (append-nil homes);
  opened = subst (λ hs. AreOpened shows mode rounds [] [] (reverse hs)) (sym empty) (record { rosters_are = refl; count = refl; each = λ k home room at. absurd (cc) });
  count = count;
  room = room;
}

-- the last of the rooms that are left may be opened
pub next_may_open : {D : Type 0} (shows : D → Shown) (mode : Mode) (rounds : ℕ) (rosters : List RoomRoster) (homes : List (HomeState D))
    (rosters_left rosters_now : List RoomRoster) (homes_left homes_now : List (HomeState D)) (hubs : Listed (RoomHub D)) (roster : RoomRoster)
    (home : HomeState D)
    → MayAllOpen mode rounds rosters homes → IsOpeningBackward shows mode rounds rosters homes rosters_left homes_left hubs
    → rosters_left ≡ rosters_now ++ roster ∷ [] → homes_left ≡ homes_now ++ home ∷ [] → MayOpen (setting_for home roster.roster mode) rounds home.opened
next_may_open shows mode rounds rosters homes rosters_left rosters_now homes_left homes_now hubs roster home may is rosters_split homes_split =
    may (length homes_now) roster home
    (ap (λ l. slice_get l (length homes_now)) (is.rosters_are ∙ ap (λ l. l ++ is.rosters_done) rosters_split ∙ append_assoc rosters_now (roster ∷ []) is.rosters_done)
    ∙ ap (slice_get (rosters_now ++ roster ∷ is.rosters_done)) (let n = is.count in let a = ap (λ l. length l) rosters_split in let b = ap (λ l. length l) homes_split in
    omega (arith, n, a, b, length-append rosters_now (roster ∷ []), length-append homes_now (home ∷ [])))
    ∙ get_behind rosters_now roster is.rosters_done)
    (ap (λ l. slice_get l (length homes_now)) (is.homes_are ∙ ap (λ l. l ++ is.homes_done) homes_split ∙ append_assoc homes_now (home ∷ []) is.homes_done) ∙ get_behind homes_now home is.homes_done)

-- it was opened
pub opening_goes_on : {D : Type 0} (shows : D → Shown) (mode : Mode) (rounds : ℕ) (rosters : List RoomRoster) (homes : List (HomeState D))
    (rosters_left rosters_now : List RoomRoster) (homes_left homes_now : List (HomeState D)) (hubs more : Listed (RoomHub D)) (roster : RoomRoster)
    (home : HomeState D) (room : RoomHub D)
    → IsOpeningBackward shows mode rounds rosters homes rosters_left homes_left hubs
    → rosters_left ≡ rosters_now ++ roster ∷ [] → homes_left ≡ homes_now ++ home ∷ []
    → room.roster ≡ roster → IsRoomOpened shows mode rounds home room → more.items ≡ hubs.items ++ room ∷ [] → more.spare + 1 ≡ hubs.spare
    → IsOpeningBackward shows mode rounds rosters homes rosters_now homes_now more
opening_goes_on {D = D} shows mode rounds rosters homes rosters_left rosters_now homes_left homes_now hubs more roster home room is rosters_split homes_split same opened more_is used = record {
  rosters_done = roster ∷ is.rosters_done;
  homes_done = home ∷ is.homes_done;
  rosters_are = is.rosters_are ∙ ap (λ l. l ++ is.rosters_done) rosters_split ∙ append_assoc rosters_now (roster ∷ []) is.rosters_done;
  homes_are = is.homes_are ∙ ap (λ l. l ++ is.homes_done) homes_split ∙ append_assoc homes_now (home ∷ []) is.homes_done;
  opened = subst (λ hs. AreOpened shows mode rounds (roster ∷ is.rosters_done) (home ∷ is.homes_done) hs) (sym (ap reverse more_is ∙ turned_snoc hubs.items room)) (record {
    rosters_are = λ i. same i ∷ is.opened.rosters_are i;
    count = ap suc is.opened.count;
    each = each;
  });
  count = let n = is.count in let a = ap (λ l. length l) rosters_split in let b = ap (λ l. length l) homes_split in
      omega (arith, n, a, b, length-append rosters_now (roster ∷ []), length-append homes_now (home ∷ []));
  room = let n = is.room in let b = ap (λ l. length l) homes_split in omega (arith, n, used, b, length-append homes_now (home ∷ []));
}
  where
    each : (k : ℕ) (x : HomeState D) (y : RoomHub D) → slice_get (home ∷ is.homes_done) k ≡ Some x → slice_get (room ∷ reverse hubs.items) k ≡ Some y → IsRoomOpened shows mode rounds x y
    each zero x y x_at y_at =
        let same_home : home ≡ x = cc in
        let same_room : room ≡ y = cc in
        let P : HomeState D × RoomHub D → Type 0 = λ q. IsRoomOpened shows mode rounds q.0 q.1 in
        subst P (λ i. (same_home i, same_room i)) opened
    each (suc k) x y x_at y_at = is.opened.each k x y x_at y_at

-- none is left
pub all_opened : {D : Type 0} (shows : D → Shown) (mode : Mode) (rounds : ℕ) (rosters : List RoomRoster) (homes : List (HomeState D)) (rosters_left : List RoomRoster) (homes_left : List (HomeState D)) (hubs : Listed (RoomHub D))
    → IsOpeningBackward shows mode rounds rosters homes rosters_left homes_left hubs → length homes_left ≡ 0 → AreOpened shows mode rounds rosters homes (reverse hubs.items)
all_opened {D = D} shows mode rounds rosters homes rosters_left homes_left hubs is none =
    let P : List RoomRoster × List (HomeState D) → Type 0 = λ q. AreOpened shows mode rounds q.0 q.1 (reverse hubs.items) in
    let no_rosters = nothing rosters_left (is.count ∙ none) in
    let no_homes = nothing homes_left none in
    subst P (λ i. (sym (is.rosters_are ∙ ap (λ l. l ++ is.rosters_done) no_rosters) i, sym (is.homes_are ∙ ap (λ l. l ++ is.homes_done) no_homes) i)) is.opened
  where
    nothing : {X : Type 0} (xs : List X) → length xs ≡ 0 → xs ≡ []
    nothing [] none = refl
    nothing (x ∷ xs) none = absurd (omega (arith, none))

-- ---- taking apart

-- the rooms up to those that are left are taken apart
pub record IsTakingApart {D : Type 0} (shows : D → Shown) (done backward : List (RoomDone D)) (homes : Listed (HomeState D)) (windows : Listed RoomWindow) : Type 0 where
  pub apart : List (RoomDone D)
  pub done_are : done ≡ apart ++ reverse backward
  pub taken : AreTakenApart shows apart homes.items windows.items
  pub homes_room : length backward ≤ homes.spare
  pub windows_room : length backward ≤ windows.spare

pub taking_begins : {D : Type 0} (shows : D → Shown) (done backward : List (RoomDone D)) (homes : Listed (HomeState D)) (windows : Listed RoomWindow)
    → backward ≡ reverse done → homes.items ≡ [] → windows.items ≡ [] → length done ≤ homes.spare → length done ≤ windows.spare → IsTakingApart shows done backward homes windows
taking_begins {D = D} shows done backward homes windows turned no_homes no_windows homes_room windows_room = record {
  apart = [];
  done_are = sym (ap reverse turned ∙ twice done);
  taken = record {
    homes_are = no_homes;
    windows_are = no_windows;
    kept = λ k home at. absurd (let none : ◌≡◌ {A = Option (HomeState D)} None (Some home) = ap (λ l. slice_get l k) (sym no_homes) ∙ at in cc);
  };
  homes_room = let n = ap (λ l. length l) turned in omega (arith, n, homes_room, length-reverse done);
  windows_room = let n = ap (λ l. length l) turned in omega (arith, n, windows_room, length-reverse done);
}
  where
    twice : (xs : List (RoomDone D)) → reverse (reverse xs) ≡ xs
    twice xs = reverse-reverse xs

pub taking_goes_on : {D : Type 0} (shows : D → Shown) (done backward left : List (RoomDone D)) (room : RoomDone D) (homes more_homes : Listed (HomeState D)) (windows more_windows : Listed RoomWindow)
    → IsTakingApart shows done backward homes windows → backward ≡ left ++ room ∷ [] → HomeIsKept shows room.home
    → more_homes.items ≡ homes.items ++ room.home ∷ [] → more_homes.spare + 1 ≡ homes.spare → more_windows.items ≡ windows.items ++ room.window ∷ [] → more_windows.spare + 1 ≡ windows.spare
    → IsTakingApart shows done left more_homes more_windows
taking_goes_on {D = D} shows done backward left room homes more_homes windows more_windows is split kept homes_are homes_used windows_are windows_used = record {
  apart = is.apart ++ room ∷ [];
  done_are = is.done_are ∙ ap (λ l. is.apart ++ reverse l) split ∙ ap (λ l. is.apart ++ l) (turned_snoc left room) ∙ sym (append_assoc is.apart (room ∷ []) (reverse left));
  taken = record {
    homes_are = homes_are ∙ ap (λ l. l ++ room.home ∷ []) is.taken.homes_are ∙ sym (map-append (λ (r : RoomDone D). r.home) is.apart (room ∷ []));
    windows_are = windows_are ∙ ap (λ l. l ++ room.window ∷ []) is.taken.windows_are ∙ sym (map-append (λ (r : RoomDone D). r.window) is.apart (room ∷ []));
    kept = λ k home at. elim (snoc_get homes.items room.home home k (ap (λ l. slice_get l k) (sym homes_are) ∙ at)) [
      | inl old ↦ is.taken.kept k home old
      | inr new ↦ subst (λ h. HomeIsKept shows h) new.1 kept
    ];
  };
  homes_room = let n = is.homes_room in let m = ap (λ l. length l) split in omega (arith, n, m, homes_used, length-append left (room ∷ []));
  windows_room = let n = is.windows_room in let m = ap (λ l. length l) split in omega (arith, n, m, windows_used, length-append left (room ∷ []));
}

pub all_taken : {D : Type 0} (shows : D → Shown) (done backward : List (RoomDone D)) (homes : Listed (HomeState D)) (windows : Listed RoomWindow)
    → IsTakingApart shows done backward homes windows → length backward ≡ 0 → AreTakenApart shows done homes.items windows.items
all_taken {D = D} shows done backward homes windows is none =
    subst (λ ds. AreTakenApart shows ds homes.items windows.items) (sym (is.done_are ∙ ap (λ l. is.apart ++ reverse l) (nothing backward none) ∙ append-nil is.apart)) is.taken
  where
    nothing : (xs : List (RoomDone D)) → length xs ≡ 0 → xs ≡ []
    nothing [] none = refl
    nothing (x ∷ xs) none = absurd (omega (arith, none))

-- ---- telling

-- a list that is not empty has a last item
pub last_split : {X : Type 0} (xs : List X) → 0 < length xs → (before : List X) × (x : X) × (xs ≡ before ++ x ∷ [])
last_split [] some = absurd (omega (arith, some))
last_split (x ∷ []) some = ([], x, refl)
last_split (x ∷ y ∷ xs) some = let rest = last_split (y ∷ xs) (omega arith) in (x ∷ rest.0, rest.1, ap (λ l. x ∷ l) rest.2)
