-- The next undo that the lineage table tells of a doomed run is that of the configuration.
use Rattle.abort_rollback.specs.Undos.{first_effective, has_effective_write, next_undo, stand_without, undo_on}
use Rattle.abort_rollback.specs.declared.undos.Undo.TheVariants.{Drive, Drop, Finished}
use Rattle.abort_rollback.specs.declared.undos.Undo.{Undo}
use Rattle.hub_core.proofs.Prelude.{Configuration, Facts, IsLineageOf, IsStandingOf, None, Option, Point, Some, WindowParts, ap, arith, common_steps, device_no, devices_of, each_found, facts_of, find, has_effect, if◌then◌else◌, is_device, is_live, lineage_at, next_undo_of, option_map, own_devices, point_of, range_with_len, read_of, refl, stands_without, touches, true, unwrap_or, value_without, writes_last, ℕ, ◌∙◌, ◌≡◌}
use Rattle.lock_leasing.proofs.Cited.{next_device}

-- what the configuration says of the next undo
abbrev pub undo_of : Point → ℕ → Undo
undo_of p r = unwrap_or (option_map (λ d. if p.reading.up d then Drive (device_no d) (value_without p r d) else Drop (device_no d)) (next_undo_of p r)) Finished

module _ (s : Configuration) (parts : WindowParts) (r : ℕ) (stands : IsStandingOf s parts) (live : is_live (read_of s) r ≡ true) where
  facts : Facts s.setting (read_of s) s.grips
  facts = facts_of s parts stands

  lineage : (d : ℕ) → is_device s.setting d ≡ true → IsLineageOf (point_of s) d (lineage_at parts.table d)
  lineage d home = stands.its_table.each d (grind (arith, common_steps))

  effective : (d : ℕ) → is_device s.setting d ≡ true → has_effective_write parts.table r d ≡ has_effect (read_of s) s.grips r d
  effective d home = let of = lineage d home in writes_last s.setting (read_of s) s.grips facts d r live (lineage_at parts.table d).accesses of.runs of.each

  first_is : first_effective parts.table r ≡ next_undo_of (point_of s) r
  first_is = ap (λ k. find (has_effective_write parts.table r) (range_with_len 0 k)) stands.its_table.devices ∙ next_device s.setting (read_of s) s.grips r (has_effective_write parts.table r) facts effective

  undo_at : (d : ℕ) → is_device s.setting d ≡ true → undo_on parts.table r d ≡ (if (read_of s).up d then Drive (device_no d) (value_without (point_of s) r d) else Drop (device_no d))
  undo_at d home =
      let of = lineage d home in
      ap (λ b. if b then Drive (device_no d) (stand_without parts.table r d) else Drop (device_no d)) of.up
      ∙ ap (λ v. if (read_of s).up d then Drive (device_no d) v else Drop (device_no d)) (stands_without s.setting (read_of s) s.grips facts d r live (lineage_at parts.table d).committed (lineage_at parts.table d).accesses of.committed of.runs of.each)

  -- the next undo of a live run
  pub next_undo_is : next_undo parts.table r ≡ undo_of (point_of s) r
  next_undo_is = ap (λ o. unwrap_or (option_map (undo_on parts.table r) o) Finished) first_is ∙ at (next_undo_of (point_of s) r) refl
    where
      at : (o : Option ℕ) → next_undo_of (point_of s) r ≡ o → unwrap_or (option_map (undo_on parts.table r) o) Finished ≡ unwrap_or (option_map (λ d. if (read_of s).up d then Drive (device_no d) (value_without (point_of s) r d) else Drop (device_no d)) o) Finished
      at None e = refl
      at (Some d) e = undo_at d ((each_found (λ x. (is_device s.setting x ≡ true) × (touches s.setting.runs r x ≡ true)) (has_effect (read_of s) s.grips r) (devices_of s.setting r) d (own_devices s.setting r) e).0.0)
