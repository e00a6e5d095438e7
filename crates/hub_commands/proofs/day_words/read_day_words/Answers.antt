use Rattle.command_words.proofs.Cited.{line_is_paired}
use Rattle.command_words.specs.CommandLines.{command_line_of}
use Rattle.hub_commands.proofs.Prelude.{Keep, Run, Some, Watch, map, rules, string_bytes, ◌≡◌}
use Rattle.hub_commands.proofs.AskedModes.{options_go}
use Rattle.hub_commands.proofs.day_words.read_day_words.Goals as goal

pub returns-in-Runs-Run-clause-goes : goal.returns-in-Runs-Run-clause-goes
returns-in-Runs-Run-clause-goes c =
    let options = c.in-Runs-Run.options in
    let given : command_line_of (map string_bytes c.args.words.now) ≡ Some (Run options) = search rules in
    options_go options (line_is_paired (map string_bytes c.args.words.now) (Run options) given)

pub returns-in-Watches-Watch-clause-goes : goal.returns-in-Watches-Watch-clause-goes
returns-in-Watches-Watch-clause-goes c =
    let options = c.in-Watches-Watch.options in
    let given : command_line_of (map string_bytes c.args.words.now) ≡ Some (Watch options) = search rules in
    options_go options (line_is_paired (map string_bytes c.args.words.now) (Watch options) given)

pub returns-in-Keeps-Keep-clause-goes : goal.returns-in-Keeps-Keep-clause-goes
returns-in-Keeps-Keep-clause-goes c =
    let options = c.in-Keeps-Keep.options in
    let given : command_line_of (map string_bytes c.args.words.now) ≡ Some (Keep options) = search rules in
    options_go options (line_is_paired (map string_bytes c.args.words.now) (Keep options) given)
