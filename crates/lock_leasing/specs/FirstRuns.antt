-- The first live run of the line, and that a run waits for no other.
use Rattle.command_rules.specs.Items.{is_ran}
use Rattle.history_book.specs.Lines.{before}
use Rattle.history_book.specs.Readings.{Reading, is_live}
use Rattle.home_types.specs.Numbers.{DeviceId, RunId}
use Rattle.home_types.specs.declared.commands.Command.{Command}
use Rattle.home_types.specs.declared.items.Item.{Item}
use Rattle.lock_leasing.specs.Configurations.{Point}
use Rattle.lock_leasing.specs.Touches.{touch_of}
use Rattle.lock_leasing.specs.Waits.{behind_wait, dirty_wait, strict_wait}
use Rattle.lock_leasing.specs.Words.{live_runs}
use Rattle.lock_leasing.specs.declared.touches.Touch.TheVariants.{Free}
use Rattle.std.specs.List.{list_any}
use Rattle.std.specs.Prelude.{List, None, [], true, ◌≡◌}

-- the first live run of these items: it is one of them, it is live, and it stands behind no live
-- run
pub record IsFirstLive (n : Reading) (items : List Item) (r : RunId) : Type 0 where
  pub there : list_any (is_ran r) items ≡ true
  pub live : is_live n r ≡ true
  pub first : live_runs n (before r items) ≡ []

-- the run waits for no other: at no device is it behind one, no command would read the write of
-- one, and under no model must one end first
pub record WaitsForNone (p : Point) (r : RunId) : Type 0 where
  pub behind : (d : DeviceId) → behind_wait p r d ≡ None
  pub dirty : (c : Command) → dirty_wait p r c ≡ None
  pub touch : (c : Command) → touch_of p r c ≡ Free
  pub strict : strict_wait p.setting p.reading r ≡ None
