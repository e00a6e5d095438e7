use Rattle.hub_threads.proofs.RunWords.{called, rests}
use Rattle.hub_threads.proofs.sleepers.Sleepers.call.Goals as goal
use Rattle.hub_threads.proofs.Prelude.{frees_places, if◌then◌else◌, rules, ◌<◌, ◌^◌, ◌≡◌}

pub returns-clause-called : goal.returns-clause-called
returns-clause-called g c =
    let small : c.still_blocked-left.result < 2 ^ 64 = search rules in
    let freed : c.unplaced_after-freed.result ≡ (if frees_places c.args.made.now then c.self.inside.unplaced else 0) = search rules in
    rw (← c.self.view_is) (λ r. called c.self.inside.called c.self.inside.restless c.self.inside.unplaced c.unplaced_after-freed.result c.self.inside.blocked c.still_blocked-left.result r (frees_places c.args.made.now) freed small)

pub returns-clause-unplaced : goal.returns-clause-unplaced
returns-clause-unplaced g c =
    let small : c.unplaced_after-freed.result < 2 ^ 64 = search rules in
    let freed : c.unplaced_after-freed.result ≡ (if frees_places c.args.made.now then c.self.inside.unplaced else 0) = search rules in
    rw (← c.self.view_is) (λ r. rests c.self.inside.unplaced c.unplaced_after-freed.result r (frees_places c.args.made.now) freed small)
