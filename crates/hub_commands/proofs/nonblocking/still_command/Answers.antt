use Rattle.command_words.proofs.Cited.{line_is_paired}
use Rattle.command_words.specs.CommandLines.{command_line_of}
use Rattle.hub_commands.proofs.Prelude.{Replay, Some, Trial, map, rules, string_bytes, ◌≡◌}
use Rattle.hub_commands.proofs.AskedModes.{options_go}
use Rattle.hub_commands.proofs.AskedTrials.{asked_within}
use Rattle.hub_commands.proofs.nonblocking.still_command.Goals as goal

pub replay_input-requires : goal.replay_input-requires
replay_input-requires g c =
    let options = c.in-Ok-Replay.options in
    let given : command_line_of (map string_bytes c.args.words.now) ≡ Some (Replay options) = search rules in
    record { goes = options_go options (line_is_paired (map string_bytes c.args.words.now) (Replay options) given) }

pub play_trial-requires-clause-least : goal.play_trial-requires-clause-least
play_trial-requires-clause-least g c =
    let given : command_line_of (map string_bytes c.args.words.now) ≡ Some (Trial c.in-Ok-Trial.number) = search rules in
    (asked_within (map string_bytes c.args.words.now) c.in-Ok-Trial.number given).0

pub play_trial-requires-clause-most : goal.play_trial-requires-clause-most
play_trial-requires-clause-most g c =
    let given : command_line_of (map string_bytes c.args.words.now) ≡ Some (Trial c.in-Ok-Trial.number) = search rules in
    (asked_within (map string_bytes c.args.words.now) c.in-Ok-Trial.number given).1
