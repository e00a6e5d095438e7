use Rattle.hub_threads.proofs.Prelude.{SleepersAreBlocked, configuration_of, subst, sym}
use Rattle.hub_threads.proofs.RunWords.{none_blocked}
use Rattle.hub_threads.proofs.held.Held.new.Goals as goal

pub invariant_of-result : goal.invariant_of-result
invariant_of-result g c = record {
  counted = c.requires.counted;
  named = c.requires.named;
  sleepers = subst (SleepersAreBlocked (configuration_of c.args.hub)) (sym c.new.ensures.blocked) (none_blocked (configuration_of c.args.hub));
  desk_is = c.requires.desk;
  out = c.requires.out;
}
