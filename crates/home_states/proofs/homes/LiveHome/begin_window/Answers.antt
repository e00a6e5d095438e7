use Rattle.home_states.proofs.Drafting.{begun_told, free_told, no_time, refused_told}
use Rattle.home_states.proofs.homes.LiveHome.begin_window.Goals as goal

pub returns-in-Some-clause-begun : goal.returns-in-Some-clause-begun
returns-in-Some-clause-begun c = begun_told c.args.self.now c.begin_at.new.self c.args.at.now c.in-Some.time c.args.probes c.begin_at.result c.in-Some.ensures.time c.begin_at.ensures.begun

pub returns-in-Some-clause-free : goal.returns-in-Some-clause-free
returns-in-Some-clause-free c = free_told c.args.self.now c.args.at.now c.in-Some.time c.args.probes c.begin_at.result c.in-Some.ensures.time c.begin_at.ensures.free

pub returns-in-Some-clause-refused : goal.returns-in-Some-clause-refused
returns-in-Some-clause-refused c = refused_told c.args.self.now c.args.at.now c.in-Some.time c.args.probes c.begin_at.result c.in-Some.ensures.time c.begin_at.ensures.refused

pub returns-in-None-clause-refused : goal.returns-in-None-clause-refused
returns-in-None-clause-refused c = no_time c.args.self.now c.args.at.now c.args.probes c.why_no_time.result c.in-None.ensures.time c.why_no_time.ensures
