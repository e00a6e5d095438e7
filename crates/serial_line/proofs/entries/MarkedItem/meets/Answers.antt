use Rattle.serial_line.proofs.Meetings.{meets_one, meets_told}
use Rattle.serial_line.proofs.entries.MarkedItem.meets.Goals as goal

pub returns-in-Ran : goal.returns-in-Ran
returns-in-Ran c = rw (← c.self.view_is, c.in-Ran.is) (meets_told c.args.devices.now c.self.inside.touches c.meets.result c.meets.ensures)

pub returns-in-Failed : goal.returns-in-Failed
returns-in-Failed c = rw (c.has.ensures, ← c.self.view_is, c.in-Failed.is) (meets_one c.args.devices.now c.in-Failed.failed.0)

pub returns-in-Back : goal.returns-in-Back
returns-in-Back c = rw (c.has-in-Back.ensures, ← c.self.view_is, c.in-Back.is) (meets_one c.args.devices.now c.in-Back.back.0)
