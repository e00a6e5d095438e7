-- What is kept of a history stays so where a device fails or comes back.
use Rattle.hub_core.proofs.Prelude.{ActsInTurn, Back, Bool, Configuration, Failed, Fell, Grips, HistoryIsKept, IsTrue, Item, List, None, Ran, Reading, Rose, Setting, Some, [], ap, awaits_there, before, cond, cons_option, device_no, did, entry, false, if◌then◌else◌, is_live, is_none, is_placed_later, is_ran, is_some, list_all, live_runs, may_follow, not, of_run, placed_in_order, point, put_before, read_of, refl, stamp_of, sym, take_while-cons, true, ℕ, ◌&&◌, ◌+◌, ◌∙◌, ◌∷◌, ◌≡◌, ◌≤◌}
use Rattle.hub_core.proofs.kept.Followed.{followed_step}
use Rattle.hub_core.proofs.kept.HistoryKept.{AreFewer, MayAdd, first_less, turn_less}
use Rattle.hub_core.proofs.kept.LineOrder.{same_order}

-- The runs of a line with an event

-- the item is no run, and so none of the words on the runs of a line tells of it
pub record IsEvent (n : Reading) (x : Item) : Type 0 where
  pub none : (q : ℕ) → is_ran q x ≡ false
  pub later : (stamp : ℕ) → is_placed_later n stamp x ≡ true
  pub order : (is : List Item) → placed_in_order n (x ∷ is) ≡ placed_in_order n is
  pub live : (is : List Item) → live_runs n (x ∷ is) ≡ live_runs n is

later_with : (n : Reading) (stamp : ℕ) (t : Item → Bool) (x : Item) (line : List Item) → is_placed_later n stamp x ≡ true → list_all (is_placed_later n stamp) (put_before t x line) ≡ list_all (is_placed_later n stamp) line
later_with n stamp t x [] later = ap (λ b. b && true) later
later_with n stamp t x (i ∷ is) later = by_test (t i) (later_with n stamp t x is later)
  where
    by_test : (b : Bool) → list_all (is_placed_later n stamp) (put_before t x is) ≡ list_all (is_placed_later n stamp) is → list_all (is_placed_later n stamp) (if b then x ∷ i ∷ is else i ∷ put_before t x is) ≡ list_all (is_placed_later n stamp) (i ∷ is)
    by_test true rest = ap (λ b. b && list_all (is_placed_later n stamp) (i ∷ is)) later
    by_test false rest = ap (λ b. is_placed_later n stamp i && b) rest

-- they stand in the order of their placings as before
order_with : (n : Reading) (t : Item → Bool) (x : Item) (line : List Item) → IsEvent n x → placed_in_order n (put_before t x line) ≡ placed_in_order n line
order_with n t x [] event = event.order []
order_with n t x (i ∷ is) event = by_test (t i) (order_with n t x is event)
  where
    behind_item : (j : Item) → placed_in_order n (put_before t x is) ≡ placed_in_order n is → placed_in_order n (j ∷ put_before t x is) ≡ placed_in_order n (j ∷ is)
    behind_item (Ran r) rest = λ k. later_with n (stamp_of n r.0) t x is (event.later (stamp_of n r.0)) k && rest k
    behind_item (Failed d m) rest = rest
    behind_item (Back d m) rest = rest

    by_test : (b : Bool) → placed_in_order n (put_before t x is) ≡ placed_in_order n is → placed_in_order n (if b then x ∷ i ∷ is else i ∷ put_before t x is) ≡ placed_in_order n (i ∷ is)
    by_test true rest = event.order (i ∷ is)
    by_test false rest = behind_item i rest

-- and before a run the same ones are live
pub front_with : (n : Reading) (q : ℕ) (t : Item → Bool) (x : Item) (line : List Item) → IsEvent n x → live_runs n (before q (put_before t x line)) ≡ live_runs n (before q line)
front_with n q t x line event = along line
  where
    first : (is : List Item) → live_runs n (before q (x ∷ is)) ≡ live_runs n (before q is)
    first is = ap (live_runs n) (take_while-cons (λ i. not (is_ran q i)) x is ∙ ap (λ b. cond (not b) (x ∷ before q is) []) (event.none q)) ∙ event.live (before q is)

    behind_item : (j : Item) (xs ys : List Item) → live_runs n xs ≡ live_runs n ys → live_runs n (j ∷ xs) ≡ live_runs n (j ∷ ys)
    behind_item (Ran r) xs ys rest = ap (cons_option (if is_live n r.0 then Some r.0 else None)) rest
    behind_item (Failed d m) xs ys rest = rest
    behind_item (Back d m) xs ys rest = rest

    up_to : (b : Bool) (j : Item) (xs ys : List Item) → live_runs n xs ≡ live_runs n ys → live_runs n (cond (not b) (j ∷ xs) []) ≡ live_runs n (cond (not b) (j ∷ ys) [])
    up_to true j xs ys rest = refl
    up_to false j xs ys rest = behind_item j xs ys rest

    along : (is : List Item) → live_runs n (before q (put_before t x is)) ≡ live_runs n (before q is)
    along [] = first []
    along (i ∷ is) = by_test (t i) (along is)
      where
        by_test : (b : Bool) → live_runs n (before q (put_before t x is)) ≡ live_runs n (before q is) → live_runs n (before q (if b then x ∷ i ∷ is else i ∷ put_before t x is)) ≡ live_runs n (before q (i ∷ is))
        by_test true rest = first (i ∷ is)
        by_test false rest =
            ap (live_runs n) (take_while-cons (λ y. not (is_ran q y)) i (put_before t x is))
            ∙ up_to (is_ran q i) i (before q (put_before t x is)) (before q is) rest
            ∙ sym (ap (live_runs n) (take_while-cons (λ y. not (is_ran q y)) i is))

-- The event of a device

-- a reading with an event more: it says of each run what it did
record HasEvent (n m : Reading) : Type 0 where
  test : Item → Bool
  item : Item
  event : IsEvent m item
  run : m.run ≡ n.run
  line : m.line ≡ put_before test item n.line

event_order : (n m : Reading) → HasEvent n m → IsTrue (placed_in_order n n.line) → IsTrue (placed_in_order m m.line)
event_order n m has ordered = ap (placed_in_order m) has.line ∙ order_with m has.test has.item n.line has.event ∙ same_order n m n.line (λ q i. stamp_of (record n { run = has.run i }) q) ∙ ordered

event_turn : (w : Setting) (n m : Reading) (g h : Grips) → HasEvent n m → AreFewer h g → ActsInTurn (point w n g) → ActsInTurn (point w m h)
event_turn w n m g h has less turn = turn_less w n m g h (λ q now. ap (λ l. live_runs m (before q l)) has.line ∙ front_with m q has.test has.item n.line has.event) (λ q now. sym (same_live q) ∙ now) same_did less turn
  where
    same_live : (q : ℕ) → is_live m q ≡ is_live n q
    same_live q = λ i. is_some (has.run i q).placed && is_none (has.run i q).ended

    same_did : (q d : ℕ) → did m q d ≡ did n q d
    same_did q d = λ i. is_some ((has.run i q).on d).view

-- a device fails
pub fell_may : (s : Configuration) (d m : ℕ) (g : Grips) → may_follow s.setting (read_of s) (Fell (device_no d)) ≡ true → (read_of s).moment ≤ m → AreFewer g s.grips → HistoryIsKept s → MayAdd s (Fell (device_no d)) m g
fell_may s d m g follows later less kept =
    record {
      follows = follows;
      clean = refl;
      justified = refl;
      scheduled = tt;
      isolated = λ strict. refl;
      unrevoked = λ first_come. refl;
      moment = later;
      in_order = λ first_come. event_order n next has (kept.in_order first_come);
      followed = followed_step s.setting n (Fell (device_no d)) refl kept.followed;
      in_turn = event_turn s.setting n next s.grips g has less kept.in_turn;
      first = first_less n next s.grips g (λ q. refl) less kept.first;
    }
  where
    n : Reading
    n = read_of s

    next : Reading
    next = entry s.setting n (Fell (device_no d))

    has : HasEvent n next
    has = record { test = of_run (awaits_there s.setting n d); item = Failed (device_no d) (n.fell d + 1); event = record { none = λ q. refl; later = λ stamp. refl; order = λ is. refl; live = λ is. refl }; run = refl; line = refl }

-- .. or comes back
pub rose_may : (s : Configuration) (d m : ℕ) (g : Grips) → may_follow s.setting (read_of s) (Rose (device_no d)) ≡ true → (read_of s).moment ≤ m → AreFewer g s.grips → HistoryIsKept s → MayAdd s (Rose (device_no d)) m g
rose_may s d m g follows later less kept =
    record {
      follows = follows;
      clean = refl;
      justified = refl;
      scheduled = tt;
      isolated = λ strict. refl;
      unrevoked = λ first_come. refl;
      moment = later;
      in_order = λ first_come. event_order n next has (kept.in_order first_come);
      followed = followed_step s.setting n (Rose (device_no d)) refl kept.followed;
      in_turn = event_turn s.setting n next s.grips g has less kept.in_turn;
      first = first_less n next s.grips g (λ q. refl) less kept.first;
    }
  where
    n : Reading
    n = read_of s

    next : Reading
    next = entry s.setting n (Rose (device_no d))

    has : HasEvent n next
    has = record { test = of_run (awaits_there s.setting n d); item = Back (device_no d) (n.rose d + 1); event = record { none = λ q. refl; later = λ stamp. refl; order = λ is. refl; live = λ is. refl }; run = refl; line = refl }
