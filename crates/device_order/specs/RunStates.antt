-- What is known of each run of a window: from the entries of its history, and the grips that are
-- out.
use Rattle.command_rules.specs.Rosters.{is_on}
use Rattle.device_order.specs.Summaries.{Answered, AnswersFit, AreHomed, DeviceSummary, NoCommandFails, Summary, blank, summary}
use Rattle.device_order.specs.declared.records.HeldGrip.{HeldGrip}
use Rattle.home_types.specs.Numbers.{DeviceId, RunId}
use Rattle.home_types.specs.declared.commands.Answer.{Answer}
use Rattle.home_types.specs.declared.commands.Command.{Command}
use Rattle.home_types.specs.declared.kinds.Kind.{Kind}
use Rattle.std.specs.List.{list_any}
use Rattle.std.specs.Prelude.{Bool, List, [], length, ℕ, ◌≡◌, ◌∷◌}

-- of one run; for each device, whether its writes there were undone, and what it holds the grip for
pub record RunState : Type 0 where
  pub commands : List Command
  pub answers : List Answer
  pub committed : Bool
  pub doomed : Bool
  pub undid : DeviceId → Bool
  pub grip : DeviceId → HeldGrip

-- of each run, by its number
abbrev pub RunStates : Type 0
RunStates = RunId → RunState

-- the commands that have an answer, with it, ..
unfoldable pub paired : List Command → List Answer → List Answered
paired [] xs = []
paired (c ∷ cs) [] = []
paired (c ∷ cs) (a ∷ xs) = record { command = c; answer = a } ∷ paired cs xs

-- .. and those that have none yet
unfoldable pub remaining : List Command → List Answer → List Command
remaining [] xs = []
remaining (c ∷ cs) [] = c ∷ cs
remaining (c ∷ cs) (a ∷ xs) = remaining cs xs

-- a command is on the device
abbrev pub uses_device : DeviceId → List Command → Bool
uses_device d cs = list_any (is_on d) cs

-- its commands that have an answer, with it
abbrev pub answered_commands : RunState → List Answered
answered_commands r = paired r.commands r.answers

-- its commands that have none yet
abbrev pub rest : RunState → List Command
rest r = remaining r.commands r.answers

-- what its answers say
abbrev pub summary_of : List Kind → RunState → Summary
summary_of kinds r = summary kinds blank (answered_commands r)

-- what its answers on the device say
abbrev pub device_summary : List Kind → RunState → DeviceId → DeviceSummary
device_summary kinds r d = (summary_of kinds r).on d

-- all commands of the run are answered, each answer fits those before it, and no must command
-- failed
pub record IsAllAnswered (kinds : List Kind) (devices : ℕ) (r : RunState) : Type 0 where
  pub all : length r.answers ≡ length r.commands
  pub fit : AnswersFit kinds blank (answered_commands r)
  pub none_fails : NoCommandFails (answered_commands r)
  pub homed : AreHomed devices r.commands
