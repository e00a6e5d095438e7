-- Serial orders for a history.
use Rattle.command_rules.specs.Items.{is_ran}
use Rattle.command_rules.specs.Rosters.{follows}
use Rattle.history_book.specs.Histories.{reading}
use Rattle.history_book.specs.Lines.{behind, is_event_on}
use Rattle.history_book.specs.Readings.{events_of, is_committed}
use Rattle.history_book.specs.Settings.{Setting}
use Rattle.history_book.specs.declared.entries.Entry.{Entry}
use Rattle.home_types.specs.Numbers.{DeviceId, RunId}
use Rattle.home_types.specs.declared.items.Item.{Item}
use Rattle.std.specs.List.{list_any}
use Rattle.std.specs.Prelude.{IsTrue, List, count_by, filter, if◌then◌else◌, ◌&&◌, ◌≡◌}

-- the order holds each committed run and each event of the history once, and nothing else
pub record IsOrderFor (w : Setting) (history : List Entry) (order : List Item) : Type 0 where
  -- a run stands in it once where it is committed, else not
  pub runs : (r : RunId) → count_by (is_ran r) order
      ≡ (if is_committed (reading w history) r then 1 else 0)
  -- the events of a device in it are those of the history, in history order
  pub events : (d : DeviceId) → filter (is_event_on d) order ≡ events_of ((reading w history).log d)
  -- a committed run stands behind the committed run that it follows
  pub following : (r f : RunId) → IsTrue (follows w.runs r f && is_committed (reading w history) r
      && is_committed (reading w history) f) → IsTrue (list_any (is_ran r) (behind f order))
