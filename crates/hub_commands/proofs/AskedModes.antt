-- The mode of a command line: every model but the eventual one goes first come first served.
use Rattle.command_words.specs.OptionWords.{goes_with}
use Rattle.hub_commands.proofs.Prelude.{IsTrue, Options, is_mode, refl, true, ◌≡◌}
use Rattle.home_types.specs.declared.modes.Scheduler.TheVariants.{Fcfs, JustInTime, Timeline}
use Rattle.home_types.specs.declared.modes.Scheduler.{Scheduler}
use Rattle.home_types.specs.declared.modes.Visibility.TheVariants.{Eventual, Global, Partitioned, Weak}
use Rattle.home_types.specs.declared.modes.Visibility.{Visibility}

pub pair_is_mode : (scheduler : Scheduler) (model : Visibility) → goes_with scheduler model ≡ true → IsTrue (is_mode (record { model = model; scheduler = scheduler }))
pair_is_mode Fcfs Weak goes = refl
pair_is_mode Fcfs Global goes = refl
pair_is_mode Fcfs Partitioned goes = refl
pair_is_mode Fcfs Eventual goes = refl
pair_is_mode JustInTime Weak goes = absurd (cc)
pair_is_mode JustInTime Global goes = absurd (cc)
pair_is_mode JustInTime Partitioned goes = absurd (cc)
pair_is_mode JustInTime Eventual goes = refl
pair_is_mode Timeline Weak goes = absurd (cc)
pair_is_mode Timeline Global goes = absurd (cc)
pair_is_mode Timeline Partitioned goes = absurd (cc)
pair_is_mode Timeline Eventual goes = refl

-- the mode of options that were paired is one
pub options_go : (options : Options) → goes_with options.mode.scheduler options.mode.model ≡ true → IsTrue (is_mode options.mode)
options_go options goes = pair_is_mode options.mode.scheduler options.mode.model goes
