-- What the answers of a run say, read from the first to the last, and when they are those of a
-- serial execution.
use Rattle.device_order.specs.Usages.{is_seen_down, is_up}
use Rattle.home_types.specs.Commands.{driven, fails, holds, reads, register_after}
use Rattle.home_types.specs.HomeStates.{stand_at}
use Rattle.home_types.specs.Kinds.{kind_at}
use Rattle.home_types.specs.Numbers.{DeviceId}
use Rattle.home_types.specs.declared.commands.Answer.TheVariants.{Down, Fine, Found, Skipped}
use Rattle.home_types.specs.declared.commands.Answer.{Answer}
use Rattle.home_types.specs.declared.commands.Command.{Command}
use Rattle.home_types.specs.declared.commands.View.TheVariants.{Down as ViewDown, Up}
use Rattle.home_types.specs.declared.commands.View.{View}
use Rattle.home_types.specs.declared.kinds.Kind.{Kind}
use Rattle.home_types.specs.declared.worlds.Stand.{Stand}
use Rattle.std.specs.Prelude.{Bool, List, None, Option, Some, [], false, if◌then◌else◌, is_some, length, true, ℕ, ◌<◌, ◌==◌, ◌||◌, ◌≡◌, ◌∷◌}

-- a command with its answer
pub record Answered : Type 0 where
  pub command : Command
  pub answer : Answer

-- the command of such a pair
abbrev pub pair_command : Answered → Command
pair_command p = p.command

-- the answer of such a pair
abbrev pub pair_answer : Answered → Answer
pair_answer p = p.answer

-- what the answers of a run on one device say: whether it was up at the first of them, the first
-- value found before a write of its own, and its last write
pub record DeviceSummary : Type 0 where
  pub view : Option View
  pub read : Option ℕ
  pub wrote : Option ℕ

-- what all answers of a run say: its register, and each device
pub record Summary : Type 0 where
  pub register : ℕ
  pub on : DeviceId → DeviceSummary

-- a device on which nothing is answered
abbrev pub unanswered : DeviceSummary
unanswered = record { view = None; read = None; wrote = None }

-- a run before its first answer
abbrev pub blank : Summary
blank = record { register = 0; on = λ d. unanswered }

-- the view that stands from the first answer on
abbrev pub first_view : Option View → View → Option View
first_view None view = Some view
first_view (Some seen) view = Some seen

-- one more answer on the device, of a command that drives v if it writes
abbrev pub device_summary_then : DeviceSummary → ℕ → Answer → DeviceSummary
device_summary_then t v Fine = record t { view = first_view t.view Up; wrote = Some v }
device_summary_then t v (Found x) = record t {
  view = first_view t.view Up;
  read = if is_some t.read || is_some t.wrote then t.read else Some x;
}
device_summary_then t v Down = record t { view = first_view t.view ViewDown }
device_summary_then t v Skipped = t

-- one more answer
abbrev pub summary_then : List Kind → Summary → Answered → Summary
summary_then kinds s p = record {
  register = register_after p.command.job p.answer s.register;
  on =
      λ d. if d == p.command.device.0 then device_summary_then (s.on d)
      (driven (kind_at kinds p.command.device.0) p.command.job s.register) p.answer else s.on d;
}

-- the summary s with these answers after it
unfoldable pub summary : List Kind → Summary → List Answered → Summary
summary kinds s [] = s
summary kinds s (p ∷ ps) = summary kinds (summary_then kinds s p) ps

-- the command was done: it was not skipped
abbrev pub was_done : Answer → Bool
was_done Fine = true
was_done (Found x) = true
was_done Down = true
was_done Skipped = false

-- an answer that one execution of the run can give next, to a command that reads or writes: by what
-- the device answered so far
abbrev pub AnswerFits : Bool → DeviceSummary → Answer → Type 0
AnswerFits reading t Fine = (reading ≡ false) × (is_seen_down t.view ≡ false)
AnswerFits reading t (Found x) =
    (reading ≡ true) × (is_seen_down t.view ≡ false) × ((v : ℕ) → t.wrote ≡ Some v → x ≡ v)
    × (t.wrote ≡ None → (y : ℕ) → t.read ≡ Some y → x ≡ y)
AnswerFits reading t Down = is_up t.view ≡ false
AnswerFits reading t Skipped = Unit {0}

-- a command's answer fits those before it: it is done exactly where its guard holds of the register
-- that they leave
pub record FitsSummary (s : Summary) (p : Answered) : Type 0 where
  pub guard : holds p.command.when s.register ≡ was_done p.answer
  pub answer : AnswerFits (reads p.command.job) (s.on p.command.device.0) p.answer

-- each answer fits those before it
unfoldable pub AnswersFit : List Kind → Summary → List Answered → Type 0
AnswersFit kinds s [] = Unit {0}
AnswersFit kinds s (p ∷ ps) = FitsSummary s p × AnswersFit kinds (summary_then kinds s p) ps

-- no answered command is a failed must command
unfoldable pub NoCommandFails : List Answered → Type 0
NoCommandFails [] = Unit {0}
NoCommandFails (p ∷ ps) = (fails p.command p.answer ≡ false) × NoCommandFails ps

-- each command is on one of the n devices of the home
unfoldable pub AreHomed : ℕ → List Command → Type 0
AreHomed n [] = Unit {0}
AreHomed n (c ∷ cs) = (c.device.0 < n) × AreHomed n cs

-- the first view and the first value read are those of a device that stands so
pub record MeetsStand (s : Stand) (t : DeviceSummary) : Type 0 where
  pub view : is_some t.view ≡ true → is_up t.view ≡ s.up
  pub read : (x : ℕ) → t.read ≡ Some x → x ≡ s.value

-- each device of the home is as the summary says
abbrev pub MeetsHome : List Stand → Summary → Type 0
MeetsHome home s = (d : DeviceId) → d < length home → MeetsStand (stand_at home d) (s.on d)

-- a device with a run's last write put over its value
abbrev pub overwritten : Stand → Option ℕ → Stand
overwritten s None = s
overwritten s (Some v) = record { value = v; up = s.up }
