use Rattle.home_journal.proofs.Firsts.{first_of_all, home_at, one_more}
use Rattle.slot_disks.proofs.Cited.{then_on, weaker}
use Rattle.home_journal.proofs.journals.Journal.keep_all.Goals as goal
use Rattle.home_journal.proofs.Prelude.{KeepsFirst, Ok, ap, arith, kept_states, length, map, rules, sym, take, ◌++◌, ◌<◌, ◌∙◌}

pub returns-in-Err-clause-any_moment : goal.returns-in-Err-clause-any_moment
returns-in-Err-clause-any_moment g c told homes kept =
    let i = c.worlds.invariant in
    let kinds = c.args.self.kinds in
    let most = c.args.self.most in
    let new = map (λ w. w.devices.items) c.args.worlds.now.items in
    let k = c.worlds.world-index in
    let mid = c.worlds.journal.disk in
    let so_far = i.4 told homes kept in
    let within : k < length c.as_slice-world-items.result.now = search rules in
    let here = home_at c.args.worlds.now.items c.as_slice-world-items.result.now k c.world-item.result c.as_slice-world-items.ensures within c.world-item.is in
    let P = KeepsFirst kinds most homes new in
    then_on g.Q.Disk.moment g.Q.Disk.images_since c.args.self.disk mid c.in-Err.failed.0 P so_far.1
    (weaker g.Q.Disk.moment g.Q.Disk.images_since mid c.in-Err.failed.0 _ P
    (λ d step. first_of_all kinds most homes new k c.world-item.result.devices.items d here.1 here.0 (step.0, (λ t. kept_states (sym i.0 t) (sym i.1 t) d) ∙ step.1))
    (c.in-Err.ensures.any_moment told (homes ++ take k new) so_far.0))

pub worlds-preserved : goal.worlds-preserved
worlds-preserved g c =
    let i = c.worlds.invariant in
    let kinds = c.args.self.kinds in
    let most = c.args.self.most in
    let new = map (λ w. w.devices.items) c.args.worlds.now.items in
    let k = c.worlds.world-index in
    let mid = c.worlds.journal.disk in
    let within : k < length c.as_slice-world-items.result.now = search rules in
    let here = home_at c.args.worlds.now.items c.as_slice-world-items.result.now k c.world-item.result c.as_slice-world-items.ensures within c.world-item.is in (
      c.in-Ok.ensures.home.0 ∙ i.0,
      c.in-Ok.ensures.home.1 ∙ i.1,
      omega (arith, c.in-Ok.ensures.last.0, i.2),
      omega (arith, c.in-Ok.ensures.later, i.3),
      (λ told homes kept.
          let so_far = i.4 told homes kept in
          let P = KeepsFirst kinds most homes new in (
            c.in-Ok.ensures.kept told (homes ++ take k new) so_far.0 ∙ ap Ok (one_more homes new k c.world-item.result.devices.items here.1 here.0),
            then_on g.Q.Disk.moment g.Q.Disk.images_since c.args.self.disk mid c.in-Ok.next.disk P so_far.1
                (weaker g.Q.Disk.moment g.Q.Disk.images_since mid c.in-Ok.next.disk _ P
                (λ d step. first_of_all kinds most homes new k c.world-item.result.devices.items d here.1 here.0 (step.0, (λ t. kept_states (sym i.0 t) (sym i.1 t) d) ∙ step.1))
                (c.in-Ok.ensures.any_moment told (homes ++ take k new) so_far.0)),
          )),
    )

pub returns-clause-any_moment : goal.returns-clause-any_moment
returns-clause-any_moment g c told homes kept = (c.worlds.invariant.4 told homes kept).1
