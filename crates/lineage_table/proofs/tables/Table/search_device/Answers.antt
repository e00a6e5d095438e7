use Rattle.lineage_table.proofs.RunAccesses.{found_has}
use Rattle.lineage_table.proofs.RunSets.{lineage_here, none_next}
use Rattle.lineage_table.proofs.tables.Table.search_device.Goals as goal
use Rattle.lineage_table.proofs.Prelude.{LineageState, accesses_at, ap, arith, false, has_access, is_some, length, lineage_at, rules, sym, true, ◌<◌, ◌∙◌, ◌≡◌}

pub returns-then-is_some : goal.returns-then-is_some
returns-then-is_some c =
    let within : c.devices.d < length c.args.self.now = omega (arith, c.devices-test.true, c.devices.invariant.1) in
    let here : lineage_at c.args.self.now c.devices.d ≡ c.index.result.now = lineage_here c.self.inside.lineages.items c.args.self.now c.devices.d c.index.result.now c.self.view_is within c.index.ensures in
    let told : is_some c.access.result ≡ true = search rules in
    (c.devices.invariant.0, ap (λ (s : LineageState). has_access c.args.r.0 s.accesses) here ∙ found_has c.args.r.0 c.index.result.now.accesses ∙ ap is_some (sym c.access.ensures) ∙ told, c.devices.invariant.2)

pub devices-preserved : goal.devices-preserved
devices-preserved c =
    let within : c.devices.d < length c.args.self.now = omega (arith, c.devices-test.true, c.devices.invariant.1) in
    let here : lineage_at c.args.self.now c.devices.d ≡ c.index.result.now = lineage_here c.self.inside.lineages.items c.args.self.now c.devices.d c.index.result.now c.self.view_is within c.index.ensures in
    let told : is_some c.access.result ≡ false = search rules in (
      omega (arith, c.devices.invariant.0),
      c.devices.invariant.1,
      none_next (λ e. has_access c.args.r.0 (accesses_at c.args.self.now e)) c.args.from.0 c.devices.d c.devices.invariant.2 (ap (λ (s : LineageState). has_access c.args.r.0 s.accesses) here ∙ found_has c.args.r.0 c.index.result.now.accesses ∙ ap is_some (sym c.access.ensures) ∙ told),
    )
