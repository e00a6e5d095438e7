-- What the type of a window keeps of its parts is kept where there is more room, and where a run joins.
use Rattle.hub_core.proofs.Prelude.{Command, DeviceNo, Grips, HasRoomLeft, HeldTokensAre, HistoryState, HubIsKept, Inside, IsOrderOf, IsWellFormed, IsWhole, Item, None, OpenHub, Option, OrderIsBeside, ReadsOwn, Run, Setting, Shown, Some, [], arith, common_steps, configuration_of, entries_of, length, length-append, most_items, open_of, point, read_in, same_reading, slice_get, subst, sym, ℕ, ◌++◌, ◌+◌, ◌<◌, ◌∙◌, ◌∷◌, ◌≡◌, ◌≤◌}
use Rattle.history_book.specs.Joined.{with_joined}
use Rattle.home_types.specs.Limits.{most_devices}
use Rattle.home_types.specs.Listed.{Listed}
use Rattle.hub_core.proofs.joins.JoinedBeside.{IsRoomierLine, joined_beside, roomier_beside}
use Rattle.hub_core.proofs.joins.JoinedHubs.{reads_own}
use Rattle.hub_core.proofs.joins.JoinedParts.{joined_hands, joined_hub}
use Rattle.hub_core.proofs.joins.JoinedRooms.{joined_entries}
use Rattle.hub_core.specs.Joins.{MayJoin, joined}
use Rattle.serial_line.specs.KeptRuns.{KeepsOneMore}
use Rattle.window_order.specs.Joins.{HasMoreRoom, HasRoomFor}
use Rattle.window_order.specs.declared.order_states.OrderState.{OrderState}

-- the window with this history, line and table, this list for the order of its record, and these
-- held tokens of its runs
abbrev pub with_parts : {D : Type 0} → Inside D → HistoryState → OrderState → Listed Item → Listed (Option DeviceNo) → Inside D
with_parts h x order items held_tokens = record h { history = x; order = order; closing = record h.closing { order = items }; checkouts = record h.checkouts { held_tokens = held_tokens } }

-- More room

-- they are the window's own, but that there may be more room
pub record AreRoomier {D : Type 0} (h : Inside D) (x : HistoryState) (order : OrderState) (items : Listed Item) (held_tokens : Listed (Option DeviceNo)) : Type 0 where
  pub setting : x.setting ≡ h.history.setting
  pub history : x.history ≡ h.history.history
  pub entries : h.history.spare ≤ x.spare
  pub line : IsRoomierLine h.order.line order.line
  pub table : HasMoreRoom h.order.table order.table
  pub items_are : items.items ≡ h.closing.order.items
  pub items_room : h.closing.order.spare ≤ items.spare
  pub hands_are : held_tokens.items ≡ h.checkouts.held_tokens.items

pub roomier_shown : {D : Type 0} (h : Inside D) (x : HistoryState) (order : OrderState) (items : Listed Item) (held_tokens : Listed (Option DeviceNo)) → AreRoomier h x order items held_tokens
    → open_of (with_parts h x order items held_tokens) ≡ open_of h
roomier_shown h x order items held_tokens roomier = λ i. record (open_of h) { setting = roomier.setting i; history = roomier.history i }

pub roomier_whole : {D : Type 0} (shows : D → Shown) (h : Inside D) (x : HistoryState) (order : OrderState) (items : Listed Item) (held_tokens : Listed (Option DeviceNo)) → AreRoomier h x order items held_tokens
    → IsWhole shows h → IsWhole shows (with_parts h x order items held_tokens)
roomier_whole shows h x order items held_tokens roomier whole = record {
  shown = subst (HubIsKept shows) (sym (roomier_shown h x order items held_tokens roomier)) whole.shown;
  room = subst (λ y. HasRoomLeft h.rounds y (record h.closing { order = items })) (sym seen) (record {
    history = let old = whole.room.history in let more = roomier.entries in omega (arith, old, more);
    order = (roomier.items_are ∙ whole.room.order.0, (let old = whole.room.order.1 in let more = roomier.items_room in omega (arith, old, more)));
    last = whole.room.last;
    world = whole.room.world;
    turns = whole.room.turns;
    faults = whole.room.faults;
  });
  order = subst (λ y. OrderIsBeside h.rounds y g order.line order.table) (sym seen)
      (roomier_beside (point h.history.setting (read_in h.history) g) h.rounds h.order.line order.line h.order.table order.table roomier.line roomier.table whole.order);
  held_tokens = subst (λ w. HeldTokensAre w g held_tokens.items) (sym roomier.setting) (subst (HeldTokensAre h.history.setting g) (sym roomier.hands_are) whole.held_tokens);
}
  where
    g : Grips
    g = (configuration_of (open_of h)).grips

    seen : x ≡ record h.history { spare = x.spare }
    seen = λ i. record { setting = roomier.setting i; history = roomier.history i; spare = x.spare }

-- A run more

-- they are the window's with one run more, which has joined, and there is room for it
pub record HaveJoined {D : Type 0} (h : Inside D) (q : Run) (x : HistoryState) (order : OrderState) (items : Listed Item) (held_tokens : Listed (Option DeviceNo)) : Type 0 where
  pub setting : x.setting ≡ with_joined h.history.setting q
  pub history : x.history ≡ h.history.history
  pub entries : h.history.spare + 132 ≤ x.spare
  pub marks : order.line.marks ≡ h.order.line.marks
  pub sealed : order.line.sealed ≡ h.order.line.sealed
  pub spare : h.order.line.spare + 1 ≤ order.line.spare
  pub runs : KeepsOneMore h.order.line.runs order.line.runs q
  pub table : HasRoomFor q h.order.table order.table
  pub items_are : items.items ≡ h.closing.order.items
  pub items_room : most_items (length h.history.setting.runs + 1) (length h.history.setting.first) h.rounds ≤ items.spare
  pub hands_are : held_tokens.items ≡ h.checkouts.held_tokens.items ++ None ∷ []

pub joined_shown : {D : Type 0} (h : Inside D) (q : Run) (x : HistoryState) (order : OrderState) (items : Listed Item) (held_tokens : Listed (Option DeviceNo)) → HaveJoined h q x order items held_tokens
    → open_of (with_parts h x order items held_tokens) ≡ joined (open_of h) q
joined_shown h q x order items held_tokens joins = λ i. record (open_of h) { setting = joins.setting i; history = joins.history i }

pub joined_whole : {D : Type 0} (shows : D → Shown) (h : Inside D) (q : Run) (x : HistoryState) (order : OrderState) (items : Listed Item) (held_tokens : Listed (Option DeviceNo)) → MayJoin h.history.setting q → HaveJoined h q x order items held_tokens
    → IsWhole shows h → IsWhole shows (with_parts h x order items held_tokens)
joined_whole shows h q x order items held_tokens may joins whole = record {
  shown = subst (HubIsKept shows) (sym (joined_shown h q x order items held_tokens joins)) (joined_hub shows (open_of h) q may whole.shown);
  room = subst (λ y. HasRoomLeft h.rounds y (record h.closing { order = items })) (sym seen) (record {
    history = let most = joined_entries w.runs q (length w.first) h.rounds h.history.spare (length h.history.history) whole.room.history in let more = joins.entries in omega (arith, most, more);
    order = (joins.items_are ∙ whole.room.order.0, (let most = joins.items_room in let long = length-append w.runs (q ∷ []) in rw long most));
    last = whole.room.last;
    world = whole.room.world;
    turns = whole.room.turns;
    faults = whole.room.faults;
  });
  order = subst (λ y. OrderIsBeside h.rounds y g order.line order.table) (sym seen)
      (subst (λ n. IsOrderOf h.rounds (point (with_joined w q) n g) order.line order.table) (sym (same_reading w q (entries_of h.history.history) formed))
      (joined_beside w q (read_in h.history) g h.rounds h.order.line order.line h.order.table order.table own whole.order (record { marks = joins.marks; sealed = joins.sealed; spare = joins.spare; runs = joins.runs w.runs whole.order.runs }) joins.table));
  held_tokens = subst (λ v. HeldTokensAre v g held_tokens.items) (sym joins.setting) (subst (HeldTokensAre (with_joined w q) g) (sym joins.hands_are)
      (joined_hands w q (read_in h.history) g h.checkouts.held_tokens.items own whole.shown.configuration.grips whole.held_tokens));
}
  where
    w : Setting
    w = h.history.setting

    g : Grips
    g = (configuration_of (open_of h)).grips

    formed : IsWellFormed w (entries_of h.history.history)
    formed = whole.shown.configuration.history.well_formed

    own : ReadsOwn w (read_in h.history)
    own = reads_own w (entries_of h.history.history) formed

    seen : x ≡ record { setting = with_joined w q; history = h.history.history; spare = x.spare }
    seen = λ i. record { setting = joins.setting i; history = joins.history i; spare = x.spare }

-- The run

-- what it may is said of the hub that is shown
pub may_here : {D : Type 0} (s t : OpenHub D) (q : Run) → s ≡ t → MayJoin t.setting q → MayJoin s.setting q
may_here s t q same may = subst (λ w. MayJoin w q) (λ i. (sym same i).setting) may

-- each of its commands is on a device of the table
pub in_table : {D : Type 0} {shows : D → Shown} (h : Inside D) (q : Run) → MayJoin h.history.setting q → IsWhole shows h → (k : ℕ) (c : Command) → slice_get q.commands k ≡ Some c → c.device.0 < length h.order.table
in_table h q may whole k c at = let home = may.homed k c at in let own : c.device.0 < length h.history.setting.first = grind (arith, common_steps) in let size = whole.order.table_is.devices in omega (arith, own, size)

-- .. of those that a home may have
pub in_home : {D : Type 0} {shows : D → Shown} (h : Inside D) (q : Run) → MayJoin h.history.setting q → IsWhole shows h → (k : ℕ) (c : Command) → slice_get q.commands k ≡ Some c → c.device.0 < most_devices
in_home h q may whole k c at = let there = in_table h q may whole k c at in let size = whole.order.table_is.devices in let few = whole.shown.configuration.opens.few_devices in omega (arith, there, size, few)
