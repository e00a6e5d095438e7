use Rattle.home_types.proofs.Cited.{contains_insert}
use Rattle.lineage_table.proofs.RunAccesses.{found_has}
use Rattle.lineage_table.proofs.RunSets.{lineage_here, none_chosen, one_chosen}
use Rattle.lineage_table.proofs.tables.Table.search_among.Goals as goal
use Rattle.lineage_table.proofs.tables.Table.search_among.Goals.{else-is_some, else-is_some-via-else-is_some, else-is_some-via-then-is_some+else-has, then-is_some+then-has}
use Rattle.lineage_table.proofs.Prelude.{LineageState, accesses_at, ap, ap₂, arith, common_steps, false, has_access, is_some, length, lineage_at, nat_lt, refl, rules, sym, true, ℕ, ◌&&◌, ◌<◌, ◌==◌, ◌||◌, ◌∙◌, ◌≡◌}
use Rattle.std.specs.FinSet as set
use Rattle.std.specs.Ordering.{nat_cmp}

pub devices-init : goal.devices-init
devices-init c = (
  omega (arith, c.len-d-end.ensures, c.self.inside.lineages.ok.0, ap length c.self.view_is),
  λ e. ap (λ s. set.contains s e) c.none-found.ensures ∙ set.contains-empty nat_cmp e ∙ sym (ap (λ b. b && (has_access c.args.r.0 (accesses_at c.args.self.now e) && set.contains c.args.devices.now e)) (nothing_below e)),
)
  where
    nothing_below : (e : ℕ) → nat_lt e 0 ≡ false
    nothing_below e = grind (arith, common_steps)

pub devices-preserved : goal.devices-preserved
devices-preserved c = (
  c.devices.invariant.0,
  λ e.
      let within : c.devices.d < length c.args.self.now = omega (arith, c.devices-test.true, c.devices.invariant.0) in
      let here : lineage_at c.args.self.now c.devices.d ≡ c.index.result.now = lineage_here c.self.inside.lineages.items c.args.self.now c.devices.d c.index.result.now c.self.view_is within c.index.ensures in
      let has : has_access c.args.r.0 (accesses_at c.args.self.now c.devices.d) ≡ is_some c.access.result = ap (λ (s : LineageState). has_access c.args.r.0 s.accesses) here ∙ found_has c.args.r.0 c.index.result.now.accesses ∙ ap is_some (sym c.access.ensures) in
      elim c.if-is_some.branch [
        | then-is_some+then-has w ↦
            let some : is_some c.access.result ≡ true = search rules in
            let own : set.contains c.args.devices.now c.devices.d ≡ true = search rules in
            ap (λ s. set.contains s e) (w.found-is ∙ w.add.ensures) ∙ contains_insert c.devices.found c.devices.d e ∙ ap (λ b. (e == c.devices.d) || b) (c.devices.invariant.1 e)
            ∙ one_chosen (λ k. has_access c.args.r.0 (accesses_at c.args.self.now k) && set.contains c.args.devices.now k) c.devices.d e (ap₂ (λ a b. a && b) (has ∙ some) own)
        | else-is_some w ↦
            ap (λ s. set.contains s e) w.found-is ∙ c.devices.invariant.1 e
            ∙ none_chosen (λ k. has_access c.args.r.0 (accesses_at c.args.self.now k) && set.contains c.args.devices.now k) c.devices.d e (
            elim w.else-is_some.branch [
              | else-is_some-via-then-is_some+else-has v ↦
                  let own : set.contains c.args.devices.now c.devices.d ≡ false = search rules in
                  grind (arith, own)
              | else-is_some-via-else-is_some v ↦
                  let none : is_some c.access.result ≡ false = search rules in
                  ap (λ a. a && set.contains c.args.devices.now c.devices.d) (has ∙ none)
            ]
            )
      ],
)
