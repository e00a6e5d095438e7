use Rattle.home_journal.specs.Journals.{AddsStates, IsStateOf, LeavesFirst, states_kept}
use Rattle.hub_threads.proofs.kept_windows.run_kept_window.Goals as goal
use Rattle.hub_threads.proofs.Prelude.{Some, [], ap, refl, subst, sym, ◌∙◌, ◌∷◌}

pub keep-requires-clause-home : goal.keep-requires-clause-home
keep-requires-clause-home g c =
    subst (λ kinds. IsStateOf kinds c.world.result.now.devices.items) (c.in-Ok.ensures.worked.after.kinds ∙ sym c.requires.kinds) c.world.ensures.state

pub returns-in-Ok-keep-clause-last : goal.returns-in-Ok-keep-clause-last
returns-in-Ok-keep-clause-last g c = record {
  kinds = c.in-Ok-keep.ensures.home.0;
  most = c.in-Ok-keep.ensures.home.1;
  kept = c.in-Ok-keep.ensures.last.0;
  last = c.in-Ok-keep.ensures.last.1 ∙ ap Some (c.world.ensures.world ∙ c.in-Ok.ensures.worked.after.last);
}

pub returns-in-Ok-keep-clause-kept : goal.returns-in-Ok-keep-clause-kept
returns-in-Ok-keep-clause-kept g c told =
    subst (λ h. AddsStates (states_kept g.Q.Disk.seen c.args.journal) (states_kept g.Q.Disk.seen c.in-Ok-keep.journal) (h ∷ [])) (c.world.ensures.world ∙ c.in-Ok.ensures.worked.after.last) (c.in-Ok-keep.ensures.kept told)

pub returns-in-Ok-keep-clause-any_moment : goal.returns-in-Ok-keep-clause-any_moment
returns-in-Ok-keep-clause-any_moment g c told =
    subst (λ h. LeavesFirst g.Q.Disk.seen g.Q.Disk.moment g.Q.Disk.images_since c.args.journal c.in-Ok-keep.journal.disk (h ∷ [])) (c.world.ensures.world ∙ c.in-Ok.ensures.worked.after.last) (c.in-Ok-keep.ensures.any_moment told)

pub returns-in-Err-keep-clause-fails : goal.returns-in-Err-keep-clause-fails
returns-in-Err-keep-clause-fails g c = (
  c.in-Ok.ensures.worked,
  c.in-Err-keep.ensures.failed,
  λ told. subst (λ h. LeavesFirst g.Q.Disk.seen g.Q.Disk.moment g.Q.Disk.images_since c.args.journal c.in-Err-keep.disk (h ∷ [])) (c.world.ensures.world ∙ c.in-Ok.ensures.worked.after.last) (c.in-Err-keep.ensures.any_moment told),
)

pub returns-in-Err-clause-fails : goal.returns-in-Err-clause-fails
returns-in-Err-clause-fails g c = (c.in-Err.ensures.refused, refl)
