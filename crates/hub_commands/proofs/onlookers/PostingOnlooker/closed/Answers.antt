use Rattle.hub_commands.proofs.PublishedDays.{before_fewer, counts_added, counts_are, each_more}
use Rattle.hub_commands.proofs.onlookers.PostingOnlooker.closed.Goals as goal
use Rattle.hub_commands.proofs.Prelude.{List, [], ap, ap₂, arith, counts_each, counts_of, refl, subst, sym, ◌++◌, ◌+◌, ◌∙◌, ◌∷◌, ◌≤◌}
use Rattle.status_board.proofs.Cited.{last_more}
use Rattle.status_board.specs.Publishings.{last_of, nothing}
use Rattle.status_board.specs.declared.day_counts.Counts.{Counts}

pub overflow_cast-committed : goal.overflow_cast-committed
overflow_cast-committed g c =
    let now = c.ends_told-committed.ensures in
    let sums = counts_added _ _ _ _ _ _ _ _ _ c.requires.stands.last_is c.requires.more.told_of c.requires.more.more c.as_slice.ensures c.len.ensures now.committed now.aborted in
    let few = c.requires.few in
    omega (arith, sums.0, sums.1, few)

pub overflow_add-committed : goal.overflow_add-committed
overflow_add-committed g c =
    let now = c.ends_told-committed.ensures in
    let sums = counts_added _ _ _ _ _ _ _ _ _ c.requires.stands.last_is c.requires.more.told_of c.requires.more.more c.as_slice.ensures c.len.ensures now.committed now.aborted in
    let few = c.requires.few in
    omega (arith, sums.0, sums.1, few)

pub overflow_cast-aborted : goal.overflow_cast-aborted
overflow_cast-aborted g c =
    let now = c.ends_told-committed.ensures in
    let sums = counts_added _ _ _ _ _ _ _ _ _ c.requires.stands.last_is c.requires.more.told_of c.requires.more.more c.as_slice.ensures c.len.ensures now.committed now.aborted in
    let few = c.requires.few in
    omega (arith, sums.0, sums.1, few)

pub overflow_add-aborted : goal.overflow_add-aborted
overflow_add-aborted g c =
    let now = c.ends_told-committed.ensures in
    let sums = counts_added _ _ _ _ _ _ _ _ _ c.requires.stands.last_is c.requires.more.told_of c.requires.more.more c.as_slice.ensures c.len.ensures now.committed now.aborted in
    let few = c.requires.few in
    omega (arith, sums.0, sums.1, few)

pub overflow_add-counts : goal.overflow_add-counts
overflow_add-counts g c =
    let now = c.ends_told-committed.ensures in
    let sums = counts_added _ _ _ _ _ _ _ _ _ c.requires.stands.last_is c.requires.more.told_of c.requires.more.more c.as_slice.ensures c.len.ensures now.committed now.aborted in
    let few = c.requires.few in
    omega (arith, sums.0, sums.1, few)

pub publish-requires-clause-rises : goal.publish-requires-clause-rises
publish-requires-clause-rises g c =
    let last_is = c.requires.stands.last_is in
    let sum = c.requires.stands.sum in
    let before : (last_of c.args.self.now.publisher.list).windows ≤ c.len-2.result = before_fewer _ _ _ _ _ c.requires.more.told_of c.requires.more.more c.len-2.ensures in
    subst
    (λ (last : Counts). (last.windows ≤ c.len-2.result) × (last.runs ≤ c.args.self.now.last.committed + c.ends_told-committed.result.committed + (c.args.self.now.last.aborted + c.ends_told-committed.result.aborted))
    × (last.committed ≤ c.args.self.now.last.committed + c.ends_told-committed.result.committed) × (last.aborted ≤ c.args.self.now.last.aborted + c.ends_told-committed.result.aborted))
    last_is
    (subst (λ (x : Counts). x.windows ≤ c.len-2.result) (sym last_is) before, omega (arith, sum), omega arith, omega arith)

pub returns-clause-stands : goal.returns-clause-stands
returns-clause-stands g c =
    record { own = c.publish.ensures.board ∙ c.requires.stands.own; last_is = sym (ap last_of c.publish.ensures.list ∙ last_more nothing c.args.self.now.publisher.list _); going = refl; sum = refl }

pub returns-clause-told : goal.returns-clause-told
returns-clause-told g c =
    let now = c.ends_told-committed.ensures in
    let sums = counts_added _ _ _ _ _ _ _ _ _ c.requires.stands.last_is c.requires.more.told_of c.requires.more.more c.as_slice.ensures c.len.ensures now.committed now.aborted in
    let counts = counts_are c.args.windows.now.items _ _ _ c.len-2.ensures sums.0 sums.1 in
    c.publish.ensures.list
    ∙ ap₂ (λ (l : List Counts) (x : Counts). l ++ x ∷ []) c.requires.more.told_of (counts ∙ ap counts_of c.requires.more.more)
    ∙ sym (each_more c.requires.more.before c.requires.more.closed) ∙ ap counts_each (sym c.requires.more.more)
