use Rattle.home_states.proofs.Prelude.{Some, handed_shows, inr, refl, rules, runs_of, script_runs, setting_for, slice_get, ◌<◌, ◌^◌, ◌≡◌}
use Rattle.home_states.proofs.Counting.{opened_numbers}
use Rattle.home_states.proofs.Joining.{own_opened}
use Rattle.home_states.proofs.Refusing.{free_opened}
use Rattle.home_states.proofs.Windows.{may_open_ever}
use Rattle.home_states.proofs.openings.open_on.Goals as goal

pub open-requires : goal.open-requires
open-requires c =
    let script = c.args.script.now in
    let window = c.in-Some.window.now in
    let home = c.args.home in
    let at : slice_get script.windows.items c.args.number ≡ Some window = search rules in
    let runs : runs_of c.in-Ok.roster ≡ script_runs script c.args.number = search rules in
    let few : home.opened < 2 ^ 31 = search rules in
    record { may = may_open_ever _ script c.args.mode c.args.number window home c.in-Ok.roster c.script.ensures.sound c.requires.goes at runs c.kept_invariant.ensures c.requires.fits few }

pub returns-in-Ok-open-clause-free : goal.returns-in-Ok-open-clause-free
returns-in-Ok-open-clause-free c =
    let at : slice_get c.args.script.now.windows.items c.args.number ≡ Some c.in-Some.window.now = search rules in
    let few : c.args.home.opened < 2 ^ 31 = search rules in
    free_opened c.args.script.now c.args.number c.in-Some.window.now c.args.home at few

pub returns-in-Err-open-clause-refused : goal.returns-in-Err-open-clause-refused
returns-in-Err-open-clause-refused c =
    let at : slice_get c.args.script.now.windows.items c.args.number ≡ Some c.in-Some.window.now = search rules in
    let few : c.args.home.opened < 2 ^ 31 = search rules in
    inr (free_opened c.args.script.now c.args.number c.in-Some.window.now c.args.home at few, refl)

pub returns-in-Err-clause-refused : goal.returns-in-Err-clause-refused
returns-in-Err-clause-refused c =
    let at : slice_get c.args.script.now.windows.items c.args.number ≡ Some c.in-Some.window.now = search rules in
    let few : c.args.home.opened < 2 ^ 31 = search rules in
    inr (free_opened c.args.script.now c.args.number c.in-Some.window.now c.args.home at few, refl)

pub returns-in-Ok-open-clause-numbers : goal.returns-in-Ok-open-clause-numbers
returns-in-Ok-open-clause-numbers c =
    let script = c.args.script.now in
    let window = c.in-Some.window.now in
    let home = c.args.home in
    let at : slice_get script.windows.items c.args.number ≡ Some window = search rules in
    let runs : runs_of c.in-Ok.roster ≡ script_runs script c.args.number = search rules in
    let few : home.opened < 2 ^ 31 = search rules in
    opened_numbers handed_shows (setting_for home c.in-Ok.roster c.args.mode) window.probes home c.in-Ok-open.table
    (may_open_ever _ script c.args.mode c.args.number window home c.in-Ok.roster c.script.ensures.sound c.requires.goes at runs c.kept_invariant.ensures c.requires.fits few)
    c.in-Ok-open.ensures.opened c.kept_invariant.ensures.size

pub returns-in-Ok-open-clause-own : goal.returns-in-Ok-open-clause-own
returns-in-Ok-open-clause-own c =
    let runs : runs_of c.in-Ok.roster ≡ script_runs c.args.script.now c.args.number = search rules in
    own_opened c.args.script.now c.args.number (setting_for c.args.home c.in-Ok.roster c.args.mode) c.in-Some.window.now.probes c.args.home c.in-Ok-open.table
    c.in-Ok-open.ensures.opened runs c.requires.fits c.kept_invariant.ensures.kinds
