-- What is kept of a hub's configuration stays so with each probe that goes out.
use Rattle.hub_core.proofs.Prelude.{Bool, Configuration, ConfigurationIsKept, Grip, None, Probes, Reading, Setting, Some, after_take_probe, ap, arith, common_steps, entries_of, false, if◌then◌else◌, is_command, is_device, is_live, is_of_run, is_out, is_run, kind_at, may_probe, nat_lt, not, option_map, point, probe_goes_kept, probe_grip, probes_of, put, read_facts, read_of, refl, restored, shapes, standing_value, sym, true, undo_fits, unwrap_or, ℕ, ◌&&◌, ◌+◌, ◌-◌, ◌==◌, ◌≡◌, ◌≤◌}
use Rattle.hub_core.proofs.kept.HistoryKept.{grip_turn}
use Rattle.hub_core.proofs.kept.Kept.{out_with, values_fit}
use Rattle.hub_core.proofs.kept.WrittenValues.{ValuesFit, standing_fits, writes_fit}
use Rattle.hub_core.proofs.steps.Takes.{live_run}

may_parts : (a b c : Bool) → (a && not b && c) ≡ true → (a ≡ true) × (b ≡ false) × (c ≡ true)
may_parts a b c h = (grind (arith, common_steps), grind (arith, common_steps), grind (arith, common_steps))

-- the device is one of the home, and there, and a probe of it is left
pub probe_may : (s : Configuration) (d : ℕ) → may_probe s d ≡ true → (is_device s.setting d ≡ true) × (is_out s.grips d ≡ false) × (nat_lt 0 (s.probes d) ≡ true)
probe_may s d may = may_parts (is_device s.setting d) (is_out s.grips d) (nat_lt 0 (s.probes d)) may

-- a probe more is out, and one less is left
pub probes_asked : (s : Configuration) (d : ℕ) → may_probe s d ≡ true → (e : ℕ) → probes_of (record s { probes = put s.probes d (s.probes d - 1); grips = put s.grips d (Some (probe_grip s d)) }) e ≤ probes_of s e
probes_asked s d may e = few (e == d) refl
  where
    left : (k : ℕ) → nat_lt 0 k ≡ true → k - 1 + 1 ≡ k
    left k h = grind (arith, common_steps)

    few : (b : Bool) → (e == d) ≡ b
        → (read_of s).rose e + (if unwrap_or (option_map (λ grip. not (is_of_run grip.purpose)) (if b then Some (probe_grip s d) else s.grips e)) false then 1 else 0) + (if b then s.probes d - 1 else s.probes e) ≤ probes_of s e
    few true at =
        let same : e ≡ d = grind (arith, common_steps) in
        let one : s.probes d - 1 + 1 ≡ s.probes d = left (s.probes d) (probe_may s d may).2 in
        let here : s.probes d ≡ s.probes e = ap s.probes (sym same) in
        omega (arith, one, here)
    few false at = omega arith

-- a probe that may goes out, and one less is left
probe_kept : (s : Configuration) (rounds opened : ℕ) (held : ℕ → ℕ) (d : ℕ) → may_probe s d ≡ true → ConfigurationIsKept s rounds opened held
    → ConfigurationIsKept (record s { probes = put s.probes d (s.probes d - 1); grips = put s.grips d (Some (probe_grip s d)) }) rounds opened held
probe_kept s rounds opened held d may kept =
    record {
      opens = kept.opens;
      strong = kept.strong;
      kinds = kept.kinds;
      probes = λ e. omega (arith, probes_asked s d may e, kept.probes e);
      values = kept.values;
      undos = out_with s.grips (λ e q. undo_fits (kind_at w.kinds e) q.purpose) d new (by_up (n.up d)) kept.undos;
      history = record {
        well_formed = kept.history.well_formed;
        moment = kept.history.moment;
        clean = kept.history.clean;
        justified = kept.history.justified;
        places = kept.history.places;
        isolated = kept.history.isolated;
        unrevoked = kept.history.unrevoked;
        in_order = kept.history.in_order;
        followed = kept.history.followed;
        in_turn = grip_turn w n s.grips 0 d (Probes (restored s d)) (λ live. absurd (no_run live)) kept.history.in_turn;
        first = out_with s.grips (λ e q. not (is_command q.purpose && (n.run q.maker).answered_doomed)) d new refl kept.history.first;
      };
      order = probe_goes_kept w n s.grips held d (read_facts w (entries_of s.history) kept.history.well_formed) kept.strong parts.0 parts.1 kept.order;
    }
  where
    w : Setting
    w = s.setting

    n : Reading
    n = read_of s

    new : Grip
    new = probe_grip s d

    parts : (is_device w d ≡ true) × (is_out s.grips d ≡ false) × (nat_lt 0 (s.probes d) ≡ true)
    parts = probe_may s d may

    values : ValuesFit w
    values = values_fit s rounds opened held kept

    -- the detector is no run
    no_run : is_live n 0 ≡ true → ⊥
    no_run live = let run : is_run w.runs 0 ≡ true = live_run w n 0 (shapes w (entries_of s.history) kept.history.well_formed) live in absurd (cc)

    -- it restores a value of the device's kind
    by_up : (b : Bool) → undo_fits (kind_at w.kinds d) (Probes (if b then None else Some (standing_value (point w n s.grips) d))) ≡ true
    by_up true = refl
    by_up false = standing_fits (point w n s.grips) d kept.strong (writes_fit w (entries_of s.history) values kept.history.well_formed) (values.first d parts.0)

-- what is kept stays so where a probe is asked for
pub take_probe_kept : (s : Configuration) (rounds opened : ℕ) (held : ℕ → ℕ) (d : ℕ) → ConfigurationIsKept s rounds opened held → ConfigurationIsKept (after_take_probe s d) rounds opened held
take_probe_kept s rounds opened held d kept = elim (may_probe s d) as (λ b. may_probe s d ≡ b → ConfigurationIsKept (if b then record s { probes = put s.probes d (s.probes d - 1); grips = put s.grips d (Some (probe_grip s d)) } else s) rounds opened held) [
  | true ↦ (λ may. probe_kept s rounds opened held d may kept)
  | false ↦ (λ none. kept)
] refl
