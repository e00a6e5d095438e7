use Rattle.hub_core.proofs.Prelude.{Command, IsAsking, IsAtCommand, OpenHub, asks_at, command_at, configuration_of, point_of, subst, ℕ, ◌≡◌}
use Rattle.hub_core.proofs.calls.HubChoices.{command_revokes, command_stays}
use Rattle.hub_core.proofs.open_windows.OpenWindow.decide_command.Goals as goal

-- the run asks for the device of the command
asks : {D : Type 0} (s : OpenHub D) (r k : ℕ) (c : Command) → IsAtCommand (configuration_of s) r k → command_at s.setting.runs r k ≡ c → IsAsking (configuration_of s) r c.device.0
asks s r k c turn is = subst (λ (x : Command). IsAsking (configuration_of s) r x.device.0) is (asks_at (configuration_of s) r k turn)

pub overdue_lease-requires : goal.overdue_lease-requires
overdue_lease-requires g c = record { strong = c.requires.strong; turn = asks c.args.self.now c.args.r.0 c.args.k c.args.command c.requires.turn c.requires.command }

pub returns-in-Some : goal.returns-in-Some
returns-in-Some g c = command_revokes (point_of (configuration_of c.args.self.now)) c.args.r.0 c.args.moment c.args.k c.args.command c.in-Some.borrower c.in-Some.deadline c.in-Some.ensures

pub returns-in-None : goal.returns-in-None
returns-in-None g c = command_stays (point_of (configuration_of c.args.self.now)) c.args.r.0 c.args.moment c.args.k c.args.command _ c.in-None.ensures (c.decide_current.ensures c.args.moment)
