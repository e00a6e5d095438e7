use Rattle.lineage_table.proofs.Keeping.{found_by_value}
use Rattle.lineage_table.proofs.RunAccesses.{behind_has}
use Rattle.lineage_table.proofs.RunSets.{lineage_here, sound_less}
use Rattle.lineage_table.proofs.tables.Table.settle.Goals as goal
use Rattle.lineage_table.proofs.Prelude.{HasLess, IsDisciplined, IsSome, IsTrue, LineageState, accesses_before, ap, has_access, lineage_at, settled, subst, sym, written_by, ◌==◌, ◌||◌, ◌∙◌, ◌≡◌}

pub take_out_through-requires-clause-access : goal.take_out_through-requires-clause-access
take_out_through-requires-clause-access c =
    let here : lineage_at c.args.self.now c.args.d.0 ≡ c.index.result.now = lineage_here c.self.inside.lineages.items c.args.self.now c.args.d.0 c.index.result.now c.self.view_is c.requires.device c.index.ensures in
    ap (has_access c.args.r.0) c.chain.ensures ∙ found_by_value c.args.r.0 c.index.result.now.accesses (subst (λ (s : LineageState). IsSome (written_by c.args.r.0 s.accesses)) here c.requires.wrote)

pub invariant_of-self : goal.invariant_of-self
invariant_of-self c =
    let here : lineage_at c.args.self.now c.args.d.0 ≡ c.index.result.now = lineage_here c.self.inside.lineages.items c.args.self.now c.args.d.0 c.index.result.now c.self.view_is c.requires.device c.index.ensures in
    let again : c.index_mut.result.now ≡ c.index.result.now = sym (lineage_here c.self.inside.lineages.items c.args.self.now c.args.d.0 c.index_mut.result.now c.self.view_is c.requires.device c.index_mut.ensures.value) ∙ here in
    let disciplined : IsDisciplined c.index.result.now.accesses = subst (λ (s : LineageState). IsDisciplined s.accesses) (ap (λ l. lineage_at l c.args.d.0) c.self.view_is ∙ here) (c.self.invariant.table.turns c.args.d.0) in
    let has : IsTrue (has_access c.args.r.0 c.index.result.now.accesses) = found_by_value c.args.r.0 c.index.result.now.accesses (subst (λ (s : LineageState). IsSome (written_by c.args.r.0 s.accesses)) here c.requires.wrote) in
    sound_less c.self.inside.devices c.take_out_through.new.devices c.self.inside.lineages.items c.args.self.now c.args.d.0 c.index.result.now c.settle.new.self c.index-2.result.now c.self.invariant c.self.view_is c.requires.device c.index.ensures c.index-2.ensures c.kept_invariant.ensures
    (λ q. has_access q (accesses_before c.args.r.0 c.index.result.now.accesses) || (q == c.args.r.0)) (subst
    (λ l. HasLess (λ q. has_access q (accesses_before c.args.r.0 l) || (q == c.args.r.0)) c.args.d.0 c.self.inside.devices c.take_out_through.new.devices)
    c.chain.ensures c.take_out_through.ensures)
    (λ q. ap (λ (s : LineageState). has_access q s.accesses) (c.settle.ensures ∙ ap (settled c.args.r.0) again) ∙ behind_has q c.args.r.0 c.index.result.now.accesses disciplined has)
