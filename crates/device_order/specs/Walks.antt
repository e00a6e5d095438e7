-- The walk along the order of a device, from left to right.
pub use Rattle.device_order.specs.declared.walks.GripOut.TheVariants.{Commands, Home, Undo}
pub use Rattle.device_order.specs.declared.walks.GripOut.{GripOut}
pub use Rattle.device_order.specs.declared.walks.WalkState.{WalkState}
use Rattle.device_order.specs.Usages.{awaits_first, counts_serially, has_committed_write, has_uncommitted_write, has_used_device, has_write, holds_undo, is_free, is_in_effect, is_pending, is_restart, is_seen_down, is_up, spans_up, stage_is_committed, stage_is_doomed, stage_is_open}
use Rattle.device_order.specs.declared.records.Event.{Event}
use Rattle.device_order.specs.declared.records.HeldGrip.TheVariants.{Free, Reads, Undoes, Writes}
use Rattle.device_order.specs.declared.records.HeldGrip.{HeldGrip}
use Rattle.device_order.specs.declared.records.OrderEntry.TheVariants.{Occurred, Used}
use Rattle.device_order.specs.declared.records.OrderEntry.{OrderEntry}
use Rattle.device_order.specs.declared.records.Usage.{Usage}
use Rattle.std.specs.Prelude.{Bool, List, None, Option, Some, [], false, if◌then◌else◌, is_some, not, true, unwrap_or, ℕ, ◌&&◌, ◌||◌, ◌∷◌, ◌≡◌}

-- no grip is out
abbrev pub is_home : GripOut → Bool
is_home Home = true
is_home (Commands b) = false
is_home (Undo v) = false

-- the grip of a command is out
abbrev pub is_command_out : GripOut → Bool
is_command_out Home = false
is_command_out (Commands b) = true
is_command_out (Undo v) = false

-- what was written if it counts here, else the value before
abbrev pub if_written : Bool → Option ℕ → ℕ → ℕ
if_written true wrote v = unwrap_or wrote v
if_written false wrote v = v

-- the grip that is out behind a run which holds it so (true: the run has written nothing there)
abbrev pub grip_out_after : HeldGrip → Bool → GripOut → GripOut
grip_out_after Free fresh out = out
grip_out_after Reads fresh out = Commands fresh
grip_out_after Writes fresh out = Commands false
grip_out_after (Undoes v) fresh out = Undo v

-- what the walk has seen behind a use, ..
abbrev pub after_usage : WalkState → Usage → WalkState
after_usage s u = record {
  up = s.up;
  value = if_written (has_committed_write u) u.wrote s.value;
  stand = if_written (is_in_effect u) u.wrote s.stand;
  settled = if is_in_effect u then stage_is_committed u.stage else s.settled;
  undoing = if has_write u then holds_undo u.grip else s.undoing;
  opened = s.opened || stage_is_open u.stage;
  waiting = s.waiting || awaits_first u;
  spanned = s.spanned || spans_up u;
  exposed = not (has_committed_write u) && (s.exposed || has_uncommitted_write u);
  out = grip_out_after u.grip (not (is_some u.wrote)) s.out;
}

-- .. and behind any entry
abbrev pub after_entry : WalkState → OrderEntry → WalkState
after_entry s (Occurred e) = record s { up = is_restart e }
after_entry s (Used u) = after_usage s u

-- a run holds the grip for a command while it has one without an answer, sees no failure and is not
-- undone, and for an undo while it is doomed and has a write to undo
abbrev pub GripFits : HeldGrip → Usage → Type 0
GripFits Free u = Unit {0}
GripFits Reads u = (is_pending u.stage ≡ true) × (u.undid ≡ false) × (is_seen_down u.view ≡ false)
GripFits Writes u = (is_pending u.stage ≡ true) × (u.undid ≡ false) × (is_seen_down u.view ≡ false)
GripFits (Undoes v) u =
    (stage_is_doomed u.stage ≡ true) × (u.undid ≡ false) × (is_some u.wrote ≡ true)

-- a use fits what stands before it
pub record UsageFits (s : WalkState) (u : Usage) : Type 0 where
  -- a run sees the device up where it read, ..
  pub read_up : is_some u.read ≡ true → is_up u.view ≡ true
  -- .. or wrote, ..
  pub wrote_up : is_some u.wrote ≡ true → is_up u.view ≡ true
  -- .. and only there
  pub why_up : is_up u.view ≡ true → (is_some u.read || is_some u.wrote) ≡ true
  -- only a doomed run that wrote is undone
  pub undid : u.undid ≡ true → (stage_is_doomed u.stage && is_some u.wrote) ≡ true
  -- it touched the device behind no run that has more to do there, ..
  pub after_open : has_used_device u ≡ true → s.opened ≡ false
  -- .. and behind no command that is out
  pub after_command : has_used_device u ≡ true → is_command_out s.out ≡ false
  -- where it counts, it sees the device as it is there, ..
  pub view : counts_serially u.stage ≡ true → is_some u.view ≡ true → is_up u.view ≡ s.up
  -- .. and read the committed value there
  pub read : counts_serially u.stage ≡ true → (x : ℕ) → u.read ≡ Some x → x ≡ s.value
  -- it read behind no live write that no committed one covers
  pub covered : is_some u.read ≡ true → s.exposed ≡ false
  -- it holds the only grip
  pub alone : is_free u.grip ≡ false → is_home s.out ≡ true
  pub grip : GripFits u.grip u

-- an event changes the device, and no run before it still awaits its first answer there
pub record EventFits (s : WalkState) (e : Event) : Type 0 where
  pub turns : s.up ≡ not (is_restart e)
  pub none_waits : s.waiting ≡ false

-- an entry fits what stands before it
abbrev pub EntryFits : WalkState → OrderEntry → Type 0
EntryFits s (Occurred e) = EventFits s e
EntryFits s (Used u) = UsageFits s u

-- each entry fits what stands before it
unfoldable pub WalkHolds : WalkState → List OrderEntry → Type 0
WalkHolds s [] = Unit {0}
WalkHolds s (x ∷ xs) = EntryFits s x × WalkHolds (after_entry s x) xs

-- what the walk has seen at its end
unfoldable pub walk_end : WalkState → List OrderEntry → WalkState
walk_end s [] = s
walk_end s (x ∷ xs) = walk_end (after_entry s x) xs

-- some use in the order is so
unfoldable pub has : (Usage → Bool) → List OrderEntry → Bool
has p [] = false
has p (Occurred e ∷ xs) = has p xs
has p (Used u ∷ xs) = p u || has p xs

-- the order with an event at its place: before the first use that awaits its first answer, else at
-- the end
unfoldable pub with_event : Event → List OrderEntry → List OrderEntry
with_event e [] = Occurred e ∷ []
with_event e (Occurred x ∷ xs) = Occurred x ∷ with_event e xs
with_event e (Used u ∷ xs) =
    if awaits_first u then (Occurred e ∷ Used u ∷ xs) else (Used u ∷ with_event e xs)

-- the use whose write is in effect behind the order, where it was this one before
unfoldable pub effective : Option Usage → List OrderEntry → Option Usage
effective o [] = o
effective o (Occurred e ∷ xs) = effective o xs
effective o (Used u ∷ xs) = effective (if is_in_effect u then Some u else o) xs

-- the value of an effective write, else the first one
abbrev pub written_or_first : Option Usage → ℕ → ℕ
written_or_first None first = first
written_or_first (Some u) first = unwrap_or u.wrote first

-- no write is in effect, or a committed one
abbrev pub is_write_settled : Option Usage → Bool
is_write_settled None = true
is_write_settled (Some u) = stage_is_committed u.stage
