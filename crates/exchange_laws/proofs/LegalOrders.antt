-- A legal window with its order exchanged.
use Rattle.exchange_laws.proofs.Prelude.{Back, Bool, Exchanged, Failed, IsLegalUpToExchanges, IsSeriallyLegalUpToExchanges, Item, List, Ran, Run, Setting, Stand, Stays, Swaps, [], are_apart, arith, behind, common_steps, cond, exchanged, false, follows, is_committed, is_event_on, is_of, is_ran, is_weak, line_of, list_any, meet, reading, refl, share_device, subst, sym, true, with_order, ℕ, ◌&&◌, ◌++◌, ◌==◌, ◌||◌, ◌∙◌, ◌∷◌, ◌≡◌}
use Rattle.exchange_laws.proofs.Reached.{turned_back}
use Rattle.exchange_laws.proofs.ServedOrders.{Gives, swap_gives}
use Rattle.exchange_laws.proofs.Swaps.{not_both, one_exchange, swap_any, swap_count, swap_filter}
use Rattle.history_book.specs.declared.entries.Entry.{Entry}
use Rattle.history_book.specs.declared.records.WindowRecord.{WindowRecord}
use Rattle.legal_days.specs.Agreement.{AgreesWithSerial}
use Rattle.legal_days.specs.LegalWindows.{IsLegalWindow, IsSeriallyLegal, IsWeaklyLegal, history_of}
use Rattle.legal_days.specs.Orders.{IsOrderFor}

-- Who follows whom

-- a run and the one that it follows are not apart
tied : (runs : List Run) (f r : ℕ) (i j : Item) → follows runs r f ≡ true → is_ran f i ≡ true → is_ran r j ≡ true → meet runs i j ≡ true
tied runs f r (Ran q) (Ran p) leads here there = last (share_device runs (Ran q) (Ran p)) (follows runs q.0 p.0) (follows runs p.0 q.0) ((λ k. follows runs (same p.0 r there k) (same q.0 f here k)) ∙ leads)
  where
    same : (x y : ℕ) → (x == y) ≡ true → x ≡ y
    same x y h = grind (arith, common_steps)

    last : (x y z : Bool) → z ≡ true → (x || (y || z)) ≡ true
    last x y z h = grind (arith, common_steps)
tied runs f r (Ran q) (Failed e k) leads here there = absurd cc
tied runs f r (Ran q) (Back e k) leads here there = absurd cc
tied runs f r (Failed d k) j leads here there = absurd cc
tied runs f r (Back d k) j leads here there = absurd cc

-- so the follower stays behind
swap_behind : (runs : List Run) (f r : ℕ) (front rest : List Item) (a b : Item) → follows runs r f ≡ true → meet runs a b ≡ false
    → list_any (is_ran r) (behind f (front ++ a ∷ b ∷ rest)) ≡ true → list_any (is_ran r) (behind f (front ++ b ∷ a ∷ rest)) ≡ true
swap_behind runs f r [] rest a b leads apart there = at_ (is_ran f a) (is_ran f b) refl there
  where
    clash : is_ran f a ≡ true → is_ran r b ≡ true → list_any (is_ran r) rest ≡ true
    clash e h = absurd (let both : true ≡ false = sym (tied runs f r a b leads e h) ∙ apart in cc)

    kept : is_ran f a ≡ true → (z : Bool) → is_ran r b ≡ z → (z || list_any (is_ran r) rest) ≡ true → list_any (is_ran r) rest ≡ true
    kept e true h t = clash e h
    kept e false h t = t

    more : (x y : Bool) → y ≡ true → (x || y) ≡ true
    more x y h = grind (arith, common_steps)

    at_ : (x y : Bool) → is_ran f a ≡ x → list_any (is_ran r) (cond x (b ∷ rest) (cond y rest (behind f rest))) ≡ true → list_any (is_ran r) (cond y (a ∷ rest) (cond x rest (behind f rest))) ≡ true
    at_ true true e t = more (is_ran r a) (list_any (is_ran r) rest) (kept e (is_ran r b) refl t)
    at_ true false e t = kept e (is_ran r b) refl t
    at_ false true e t = more (is_ran r a) (list_any (is_ran r) rest) t
    at_ false false e t = t
swap_behind runs f r (i ∷ front) rest a b leads apart there = further (is_ran f i) there (λ e. swap_behind runs f r front rest a b leads apart e)
  where
    further : (x : Bool) → list_any (is_ran r) (cond x (front ++ a ∷ b ∷ rest) (behind f (front ++ a ∷ b ∷ rest))) ≡ true
        → (list_any (is_ran r) (behind f (front ++ a ∷ b ∷ rest)) ≡ true → list_any (is_ran r) (behind f (front ++ b ∷ a ∷ rest)) ≡ true)
        → list_any (is_ran r) (cond x (front ++ b ∷ a ∷ rest) (behind f (front ++ b ∷ a ∷ rest))) ≡ true
    further true e next = swap_any (is_ran r) front rest a b ∙ e
    further false e next = next e

-- The order of the window

swap_order : (w : Setting) (history : List Entry) (front rest : List Item) (a b : Item) → meet w.runs a b ≡ false → IsOrderFor w history (front ++ a ∷ b ∷ rest) → IsOrderFor w history (front ++ b ∷ a ∷ rest)
swap_order w history front rest a b apart is = record {
  runs = λ r. swap_count (is_ran r) front rest a b ∙ is.runs r;
  events = λ d. swap_filter (is_event_on d) front rest a b (not_both w.runs d (is_event_on d) a b apart (off d)) ∙ is.events d;
  following = λ r f both. swap_behind w.runs f r front rest a b (first (follows w.runs r f) (is_committed (reading w history) r) (is_committed (reading w history) f) both) apart (is.following r f both);
}
  where
    off : (d : ℕ) (i : Item) → is_of w.runs d i ≡ false → is_event_on d i ≡ false
    off d (Ran r) e = refl
    off d (Failed e k) h = h
    off d (Back e k) h = h

    first : (x y z : Bool) → (x && y && z) ≡ true → x ≡ true
    first x y z h = grind (arith, common_steps)

swap_agrees : (w : Setting) (history : List Entry) (front rest : List Item) (a b : Item) (last : List Stand) → meet w.runs a b ≡ false → AgreesWithSerial w history (front ++ a ∷ b ∷ rest) last → AgreesWithSerial w history (front ++ b ∷ a ∷ rest) last
swap_agrees w history front rest a b last apart agrees =
    let gives : Gives w (reading w history) (front ++ b ∷ a ∷ rest) last = swap_gives w (reading w history) front rest a b last apart (record { applies = agrees.applies; answers = agrees.answers; home = agrees.home }) in
    record { applies = gives.applies; answers = gives.answers; home = gives.home; counted = agrees.counted }

-- The window

abbrev Serially : Setting → WindowRecord → List Item → Type 0
Serially w closed order = IsSeriallyLegalUpToExchanges w (with_order closed order)

swap_serially : (w : Setting) (closed : WindowRecord) (front rest : List Item) (a b : Item) → meet w.runs a b ≡ false → Serially w closed (front ++ a ∷ b ∷ rest) → Serially w closed (front ++ b ∷ a ∷ rest)
swap_serially w closed front rest a b apart is = record {
  mode = is.mode;
  first = is.first;
  well_formed = is.well_formed;
  ended = is.ended;
  line = Swaps front rest a b is.line apart;
  places = is.places;
  is_order = swap_order w (history_of closed) front rest a b apart is.is_order;
  agrees = swap_agrees w (history_of closed) front rest a b closed.last.devices.items apart is.agrees;
  clean = is.clean;
  justified = is.justified;
  accounted = is.accounted;
  isolated = is.isolated;
}

reached_serially : (w : Setting) (closed : WindowRecord) (order : List Item) → IsSeriallyLegalUpToExchanges w closed → Exchanged (meet w.runs) closed.order.items order → Serially w closed order
reached_serially w closed order is Stays = is
reached_serially w closed _ is (Swaps front rest a b before apart) = swap_serially w closed front rest a b apart (reached_serially w closed (front ++ a ∷ b ∷ rest) is before)

-- under the weak model the order is empty, and stays so
reached_weakly : (w : Setting) (closed : WindowRecord) (order : List Item) → IsWeaklyLegal w closed → Exchanged (meet w.runs) closed.order.items order → IsWeaklyLegal w (with_order closed order)
reached_weakly w closed order is reached = record {
  mode = is.mode;
  first = is.first;
  well_formed = is.well_formed;
  ended = is.ended;
  accounted = is.accounted;
  allowed = is.allowed;
  size = is.size;
  counted = is.counted;
  values = is.values;
  unclaimed = none order (subst (λ line. Exchanged (meet w.runs) line order) is.unclaimed reached);
}
  where
    none : (next : List Item) → Exchanged (meet w.runs) [] next → next ≡ []
    none next Stays = refl
    none _ (Swaps front rest a b before apart) = absurd (two front (none (front ++ a ∷ b ∷ rest) before))
      where
        two : (xs : List Item) → xs ++ a ∷ b ∷ rest ≡ [] → ⊥
        two [] e = cc
        two (x ∷ xs) e = cc

-- by the model of the window
abbrev under : (w : Setting) → WindowRecord → Bool → Type 0
under w closed true = IsWeaklyLegal w closed
under w closed false = IsSeriallyLegalUpToExchanges w closed

pub legal_reached : (w : Setting) (closed : WindowRecord) (order : List Item) → IsLegalUpToExchanges w closed → Exchanged (meet w.runs) closed.order.items order → IsLegalUpToExchanges w (with_order closed order)
legal_reached w closed order is reached = by_model (is_weak w.mode) is
  where
    by_model : (b : Bool) → under w closed b → under w (with_order closed order) b
    by_model true is = reached_weakly w closed order is reached
    by_model false is = reached_serially w closed order is reached

pub legal_exchanged : (w : Setting) (closed : WindowRecord) (at : ℕ) → IsLegalUpToExchanges w closed → are_apart (meet w.runs) at closed.order.items ≡ true → IsLegalUpToExchanges w (with_order closed (exchanged at closed.order.items))
legal_exchanged w closed at is apart = legal_reached w closed (exchanged at closed.order.items) is (one_exchange (meet w.runs) at closed.order.items apart)

pub legal_itself : (w : Setting) (closed : WindowRecord) → IsLegalWindow w closed → IsLegalUpToExchanges w closed
legal_itself w closed legal = by_model (is_weak w.mode) legal
  where
    was : Bool → Type 0
    was true = IsWeaklyLegal w closed
    was false = IsSeriallyLegal w closed

    by_model : (b : Bool) → was b → under w closed b
    by_model true is = is
    by_model false is = record {
      mode = is.mode;
      first = is.first;
      well_formed = is.well_formed;
      ended = is.ended;
      line = subst (λ line. Exchanged (meet w.runs) line closed.order.items) is.line Stays;
      places = is.places;
      is_order = is.is_order;
      agrees = is.agrees;
      clean = is.clean;
      justified = is.justified;
      accounted = is.accounted;
      isolated = is.isolated;
    }

-- back to the line of the history
pub legal_back : (w : Setting) (closed : WindowRecord) → is_weak w.mode ≡ false → IsLegalUpToExchanges w closed → IsLegalWindow w (with_order closed (line_of w (history_of closed)))
legal_back w closed strong is = subst was (sym strong) (serially (subst (under w closed) strong is))
  where
    was : Bool → Type 0
    was true = IsWeaklyLegal w (with_order closed (line_of w (history_of closed)))
    was false = IsSeriallyLegal w (with_order closed (line_of w (history_of closed)))

    serially : IsSeriallyLegalUpToExchanges w closed → IsSeriallyLegal w (with_order closed (line_of w (history_of closed)))
    serially is =
        let there : Serially w closed (line_of w (history_of closed)) = reached_serially w closed (line_of w (history_of closed)) is (turned_back w.runs (line_of w (history_of closed)) closed.order.items is.line) in
        record {
          mode = is.mode;
          first = is.first;
          well_formed = is.well_formed;
          ended = is.ended;
          line = refl;
          places = is.places;
          is_order = there.is_order;
          agrees = there.agrees;
          clean = is.clean;
          justified = is.justified;
          accounted = is.accounted;
          isolated = is.isolated;
        }
