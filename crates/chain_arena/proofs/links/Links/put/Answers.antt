use Rattle.chain_arena.proofs.Chains.{link_free, link_kept, link_left, link_on, put_done}
use Rattle.chain_arena.proofs.links.Links.put.Goals as goal
use Rattle.chain_arena.proofs.Prelude.{IsLink, Joins, subst, sym, ◌∙◌}

pub left_of-before-requires : goal.left_of-before-requires
left_of-before-requires g c = link_kept c.args.self.now c.fill-place.new.self c.args.at c.fill-place.ensures.places (link_on c.args.self.now c.args.at c.requires.linked c.requires.at)

pub join-requires : goal.join-requires
join-requires g c =
    let s = c.args.self.now in
    let t = c.fill-place.new.self in (
      link_kept s t c.left_of-before.result c.fill-place.ensures.places (subst (IsLink s) (sym (c.left_of-before.ensures ∙ c.fill-place.ensures.lefts c.args.at)) (link_left s c.args.at c.requires.linked c.requires.at)),
      link_kept s t c.fill-place.result c.fill-place.ensures.places (link_free s c.fill-place.result c.requires.linked c.requires.room c.fill-place.ensures.was),
    )

pub join-requires-2 : goal.join-requires-2
join-requires-2 g c =
    let s = c.args.self.now in
    let t = c.fill-place.new.self in
    let u = c.join.new.self in (
      link_kept t u c.fill-place.result c.join.ensures.places (link_kept s t c.fill-place.result c.fill-place.ensures.places (link_free s c.fill-place.result c.requires.linked c.requires.room c.fill-place.ensures.was)),
      link_kept t u c.args.at c.join.ensures.places (link_kept s t c.args.at c.fill-place.ensures.places (link_on s c.args.at c.requires.linked c.requires.at)),
    )

pub returns-clause-linked : goal.returns-clause-linked
returns-clause-linked g c =
    (put_done c.args.self.now c.fill-place.new.self c.join.new.self c.join-2.new.self c.args.at c.fill-place.result c.args.item c.requires.linked c.requires.room c.requires.at c.fill-place.ensures
    (subst (λ i. Joins c.fill-place.new.self c.join.new.self i c.fill-place.result) c.left_of-before.ensures c.join.ensures) c.join-2.ensures).0

pub returns-clause-pairs : goal.returns-clause-pairs
returns-clause-pairs g c =
    (put_done c.args.self.now c.fill-place.new.self c.join.new.self c.join-2.new.self c.args.at c.fill-place.result c.args.item c.requires.linked c.requires.room c.requires.at c.fill-place.ensures
    (subst (λ i. Joins c.fill-place.new.self c.join.new.self i c.fill-place.result) c.left_of-before.ensures c.join.ensures) c.join-2.ensures).1

pub returns-clause-new : goal.returns-clause-new
returns-clause-new g c =
    (put_done c.args.self.now c.fill-place.new.self c.join.new.self c.join-2.new.self c.args.at c.fill-place.result c.args.item c.requires.linked c.requires.room c.requires.at c.fill-place.ensures
    (subst (λ i. Joins c.fill-place.new.self c.join.new.self i c.fill-place.result) c.left_of-before.ensures c.join.ensures) c.join-2.ensures).2
