use Rattle.home_states.proofs.Prelude.{Bool, HandedDevice, HomeState, None, Option, Some, ap, arith, common_steps, false, first_against_finding, get_or_from_slice_get, if◌then◌else◌, length, nat_le, refl, rules, slice_get, slice_get_within, sym, true, ℕ, ◌<◌, ◌∙◌, ◌≡◌}
use Rattle.home_states.proofs.drafts.restand_in.Goals as goal
use Rattle.home_states.specs.declared.refusals.NotRestood.TheVariants.{Absent, NoValue}
use Rattle.home_states.specs.declared.refusals.NotRestood.{NotRestood}
use Rattle.home_types.specs.Kinds.{has_value, kind_at}
use Rattle.home_types.specs.declared.kinds.Kind.TheVariants.{States}
use Rattle.hub_core.specs.Restandings.{restood}

by_both : (beyond has : Bool) → beyond ≡ false → has ≡ true → ◌≡◌ {A = Option NotRestood} (if beyond then Some Absent else (if has then None else Some NoValue)) None
by_both false true e f = refl
by_both false false e f = absurd (cc)
by_both true has e f = absurd (cc)

free_by : (home : HomeState HandedDevice) (d value : ℕ) → d < length home.world → has_value (kind_at home.kinds d) value ≡ true → first_against_finding home d value ≡ None
free_by home d value low has = by_both (nat_le (length home.world) d) (has_value (kind_at home.kinds d) value) (grind (arith, common_steps, low)) has

pub returns-clause-restood : goal.returns-clause-restood
returns-clause-restood c =
    let kind = get_or_from_slice_get c.args.home.now.kinds c.args.d.0 c.in-Some-Some.kind (States 0) (sym c.kind.ensures ∙ c.in-Some-Some.is-0) in
    record {
      device = c.in-Some-Some.device.now;
      stood = search rules;
      has = ap (λ k. has_value k c.args.value) kind ∙ sym c.has.ensures ∙ c.if-not-has.false;
      is = c.restand.ensures ∙ ap (λ x. restood c.args.home.now c.args.d.0 x c.args.value) c.found_at-found.ensures;
    }

pub returns-clause-free : goal.returns-clause-free
returns-clause-free c =
    let kind = get_or_from_slice_get c.args.home.now.kinds c.args.d.0 c.in-Some-Some.kind (States 0) (sym c.kind.ensures ∙ c.in-Some-Some.is-0) in
    let there : slice_get c.args.home.now.devices c.args.d.0 ≡ Some c.in-Some-Some.device.now = search rules in
    let within = slice_get_within c.args.home.now.devices c.args.d.0 c.in-Some-Some.device.now there in
    let size = c.kept_invariant.ensures.size in
    free_by c.args.home.now c.args.d.0 c.args.value (omega (arith, within, size)) (ap (λ k. has_value k c.args.value) kind ∙ sym c.has.ensures ∙ c.if-not-has.false)
