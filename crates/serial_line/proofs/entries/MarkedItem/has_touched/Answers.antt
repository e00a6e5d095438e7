use Rattle.serial_line.proofs.Prelude.{contains_one}
use Rattle.serial_line.proofs.entries.MarkedItem.has_touched.Goals as goal

pub returns-in-Failed : goal.returns-in-Failed
returns-in-Failed c = rw (c.eq.ensures, ← c.self.view_is, c.in-Failed.is) (contains_one c.in-Failed.failed.0 c.args.device.0)

pub returns-in-Back : goal.returns-in-Back
returns-in-Back c = rw (c.eq-in-Back.ensures, ← c.self.view_is, c.in-Back.is) (contains_one c.in-Back.back.0 c.args.device.0)
