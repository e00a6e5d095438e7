use Rattle.command_rules.proofs.FootprintBits.{footprints_more}
use Rattle.command_rules.proofs.RosterReads.{commands_at}
use Rattle.command_rules.proofs.indexed_rosters.IndexedRoster.open.Goals as goal
use Rattle.command_rules.proofs.Prelude.{Command, IsFootprint, List, ap, length, option_copied, runs_of, slice_get, subst, suc, sym, ◌∙◌, ◌≤◌}

pub footprint_of-requires-clause-few : goal.footprint_of-requires-clause-few
footprint_of-requires-clause-few c =
    let same = commands_at c.args.roster c.runs.at c.unwrap-run.result.now (sym c.get.ensures ∙ ap option_copied c.unwrap-run.ensures) ∙ sym c.as_slice.ensures in
    subst (λ (cs : List Command). length cs ≤ 64) same (c.requires.few_commands (suc c.runs.at))

pub footprint_of-requires-clause-low : goal.footprint_of-requires-clause-low
footprint_of-requires-clause-low c = λ k e there.
    let same = commands_at c.args.roster c.runs.at c.unwrap-run.result.now (sym c.get.ensures ∙ ap option_copied c.unwrap-run.ensures) ∙ sym c.as_slice.ensures in
    c.requires.low_devices (suc c.runs.at) k e (ap (λ (cs : List Command). slice_get cs k) same ∙ there)

pub runs-preserved : goal.runs-preserved
runs-preserved c =
    let same = commands_at c.args.roster c.runs.at c.unwrap-run.result.now (sym c.get.ensures ∙ ap option_copied c.unwrap-run.ensures) ∙ sym c.as_slice.ensures in
    let one = subst (λ (cs : List Command). IsFootprint cs c.footprint_of.result) (sym same) c.footprint_of.ensures in (
      c.runs.invariant.0,
      rw c.in_ok-push.ensures.ok (footprints_more c.runs.at (runs_of c.args.roster) c.runs.footprints.items c.footprint_of.result c.runs.invariant.1 one),
    )
