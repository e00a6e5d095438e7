use Rattle.chain_arena.proofs.Chains.{link_left, link_on, link_right, still_there, unlink_done}
use Rattle.chain_arena.proofs.links.Links.unlink.Goals as goal
use Rattle.chain_arena.proofs.Prelude.{IsLink, Joins, inr, right, subst, sym}

pub left_of-before-requires : goal.left_of-before-requires
left_of-before-requires g c = link_on c.args.self.now c.args.place c.requires.linked (inr c.requires.there)

pub right_of-behind-requires : goal.right_of-behind-requires
right_of-behind-requires g c = link_on c.args.self.now c.args.place c.requires.linked (inr c.requires.there)

pub join-requires : goal.join-requires
join-requires g c =
    let s = c.args.self.now in
    (subst (IsLink s) (sym c.left_of-before.ensures) (link_left s c.args.place c.requires.linked (inr c.requires.there)), subst (IsLink s) (sym c.right_of-behind.ensures) (link_right s c.args.place c.requires.linked (inr c.requires.there)))

pub empty-requires-clause-value : goal.empty-requires-clause-value
empty-requires-clause-value g c = still_there c.args.self.now c.join.new.self c.args.place c.requires.linked c.requires.there (c.join.ensures.values c.args.place)

pub returns-clause-linked : goal.returns-clause-linked
returns-clause-linked g c =
    (unlink_done c.args.self.now c.join.new.self c.empty.new.self c.args.place c.empty.result c.requires.linked c.requires.there
    (subst (λ i. Joins c.args.self.now c.join.new.self i (right c.args.self.now c.args.place)) c.left_of-before.ensures (subst (λ i. Joins c.args.self.now c.join.new.self c.left_of-before.result i) c.right_of-behind.ensures c.join.ensures)) c.empty.ensures).0

pub returns-clause-pairs : goal.returns-clause-pairs
returns-clause-pairs g c =
    (unlink_done c.args.self.now c.join.new.self c.empty.new.self c.args.place c.empty.result c.requires.linked c.requires.there
    (subst (λ i. Joins c.args.self.now c.join.new.self i (right c.args.self.now c.args.place)) c.left_of-before.ensures (subst (λ i. Joins c.args.self.now c.join.new.self c.left_of-before.result i) c.right_of-behind.ensures c.join.ensures)) c.empty.ensures).1

pub returns-clause-value : goal.returns-clause-value
returns-clause-value g c =
    (unlink_done c.args.self.now c.join.new.self c.empty.new.self c.args.place c.empty.result c.requires.linked c.requires.there
    (subst (λ i. Joins c.args.self.now c.join.new.self i (right c.args.self.now c.args.place)) c.left_of-before.ensures (subst (λ i. Joins c.args.self.now c.join.new.self c.left_of-before.result i) c.right_of-behind.ensures c.join.ensures)) c.empty.ensures).2
