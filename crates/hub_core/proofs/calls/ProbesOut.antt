-- A probe that goes out keeps what the type of a hub keeps, and is the step that it says.
use Rattle.hub_core.proofs.Prelude.{Bool, Configuration, DeviceNo, DeviceProgress, Gripped, HeldTokensAre, Inside, IsDisciplined, IsKeptByModel, IsProbed, IsSent, IsTrue, IsWhole, LineageIsKept, MaySend, None, OpenHub, Option, OrderIsBeside, Out, ProbeTaken, Probed, Probes, SameWindow, Shown, Some, accesses_at, after_take_probe, ap, arith, below_home, carrying, common_steps, configuration_of, device_no, facts_of, false, held_in, hub_state_of, if◌then◌else◌, is_counted_up, is_device, is_out, is_weak, length, lineage_at, may_probe, nat_lt, not, open_of, point, point_of, probe_goes, probe_grip, progress_at, put, read_in, read_of, refl, restored, slice_set, standing_value, subst, sym, take_probe, true, value_standing, ℕ, ◌&&◌, ◌+◌, ◌-◌, ◌<◌, ◌∙◌, ◌≡◌}
use Rattle.hub_core.proofs.kept.TableFits.{counted_told}
use Rattle.hub_core.proofs.weak.WeakProbes.{weak_standing}
use Rattle.device_gate.specs.declared.grips.Ready.{Ready}
use Rattle.device_gate.specs.declared.slips.Task.TheVariants.{Probe}
use Rattle.hub_core.proofs.calls.Departures.{IsGone, few_tickets, gone_carries, gone_configuration, gone_grips, gone_next, gone_shows, gone_whole, gone_window, gone_within, has_room, home_place}
use Rattle.hub_core.proofs.kept.ProbeSteps.{order_probe_out}
use Rattle.hub_core.proofs.kept.KeptByModel.{probe_taken_kept}
use Rattle.hub_core.proofs.kept.TableStands.{stand_told}
use Rattle.hub_core.proofs.calls.HubOrders.{standing_whole}
use Rattle.window_order.specs.declared.order_states.OrderState.{OrderState}
use Rattle.window_order.proofs.Cited.{none_out}

-- Whether one may go out

-- its parts
pub record MayGo (s : Configuration) (d : ℕ) : Type 0 where
  pub device : is_device s.setting d ≡ true
  pub home : is_out s.grips d ≡ false
  pub left : nat_lt 0 (s.probes d) ≡ true

pub may_parts : (s : Configuration) (d : ℕ) → may_probe s d ≡ true → MayGo s d
may_parts s d may = by_parts (is_device s.setting d) (is_out s.grips d) (nat_lt 0 (s.probes d)) refl refl refl may
  where
    by_parts : (a b c : Bool) → is_device s.setting d ≡ a → is_out s.grips d ≡ b → nat_lt 0 (s.probes d) ≡ c → (a && not b && c) ≡ true → MayGo s d
    by_parts true false true x y z h = record { device = x; home = y; left = z }
    by_parts true false false x y z h = absurd (cc)
    by_parts true true c x y z h = absurd (cc)
    by_parts false b c x y z h = absurd (cc)

-- What it restores

-- the value at which the device should stand, as the table tells it, where it is counted down
pub restores : {D : Type 0} {shows : D → Shown} (h : Inside D) (s : OpenHub D) (d value : ℕ) (up : Bool) → open_of h ≡ s
    → ((e : ℕ) → IsDisciplined (accesses_at h.order.table e)) → is_device s.setting d ≡ true → up ≡ (lineage_at h.order.table d).up → up ≡ false
    → value ≡ value_standing (lineage_at h.order.table d).committed (accesses_at h.order.table d)
    → is_weak h.history.setting.mode ≡ false → IsWhole shows h → Some value ≡ restored (configuration_of s) d
restores {D = D} h s d value up seen disciplined device up_is down value_is strong k =
    subst (λ (x : OpenHub D). is_device x.setting d ≡ true → Some value ≡ restored (configuration_of x) d) seen (λ there. as_told ((k.order.table_is.ordered strong).each d (below_home h.history.setting d there))) device
  where
    as_told : LineageIsKept (point h.history.setting (read_in h.history) (configuration_of (open_of h)).grips) d (lineage_at h.order.table d) → Some value ≡ restored (configuration_of (open_of h)) d
    as_told own =
        ap Some (value_is ∙ stand_told h.history.setting (read_in h.history) (configuration_of (open_of h)).grips d (lineage_at h.order.table d)
        (facts_of (configuration_of (open_of h)) _ (standing_whole h disciplined strong k)) strong own)
        ∙ sym (ap (λ b. if b then None else Some (standing_value (point h.history.setting (read_in h.history) (configuration_of (open_of h)).grips) d)) (sym own.up ∙ sym up_is ∙ down))

-- .. under the weak model where it is known to stand
pub restores_weakly : {D : Type 0} {shows : D → Shown} (h : Inside D) (s : OpenHub D) (d value : ℕ) (up : Bool) → open_of h ≡ s → is_device s.setting d ≡ true → up ≡ (lineage_at h.order.table d).up → up ≡ false → value ≡ (progress_at s.devices d).held
    → is_weak h.history.setting.mode ≡ true → IsWhole shows h → Some value ≡ restored (configuration_of s) d
restores_weakly {D = D} h s d value up seen device up_is down value_is weak k =
    subst (λ (x : OpenHub D). is_device x.setting d ≡ true → value ≡ (progress_at x.devices d).held → Some value ≡ restored (configuration_of x) d) seen (λ there is. as_told (below_home h.history.setting d there) is) device value_is
  where
    as_told : d < length h.history.setting.first → value ≡ held_in (open_of h) d → Some value ≡ restored (configuration_of (open_of h)) d
    as_told below is =
        ap Some (is ∙ (k.shown.configuration.weakly weak).held_is d below ∙ sym (weak_standing (configuration_of (open_of h)) h.rounds h.opened (held_in (open_of h)) d (k.shown.configuration.weakly weak)))
        ∙ sym (ap (λ b. if b then None else Some (standing_value (point h.history.setting (read_in h.history) (configuration_of (open_of h)).grips) d))
        (sym (counted_told (point h.history.setting (read_in h.history) (configuration_of (open_of h)).grips) h.order.table d below k.order.table_is)
        ∙ sym up_is ∙ down))

-- one that restores nothing is for a device that is counted up
pub counted_then : (s : Configuration) (d : ℕ) (value : Option ℕ) → value ≡ restored s d → IsTrue (is_counted_up (Probe value)) → (read_of s).up d ≡ true
counted_then s d value is up = by_up ((read_of s).up d) (subst (λ v. IsTrue (is_counted_up (Probe v))) is up)
  where
    by_up : (b : Bool) → IsTrue (is_counted_up (Probe (if b then None else Some (standing_value (point_of s) d)))) → b ≡ true
    by_up true e = refl
    by_up false e = absurd (cc)

-- it may go out to the detector
pub may_send_probe : {D : Type 0} {shows : D → Shown} (h : Inside D) (s : OpenHub D) (d : ℕ) (value : Option ℕ) (known : DeviceProgress)
    → open_of h ≡ s → may_probe (configuration_of s) d ≡ true → value ≡ restored (configuration_of s) d → known ≡ progress_at h.checkouts.known.items d
    → IsWhole shows h → MaySend shows h.checkouts d 0 known.held (Probe value)
may_send_probe {D = D} {shows = shows} h s d value known seen may value_is known_is k =
    let parts = may_parts (configuration_of (open_of h)) d (ap (λ (x : OpenHub D). may_probe (configuration_of x) d) seen ∙ may) in
    let below = below_home h.history.setting d parts.device in
    record {
      home = home_place (open_of h) d (omega (arith, below, k.shown.places_size)) parts.home;
      room = λ device at. has_room shows (open_of h) d device k.shown at;
      stood = λ device at up. (k.shown.home d device at).stand (counted_then (configuration_of (open_of h)) d value (value_is ∙ ap (λ (x : OpenHub D). restored (configuration_of x) d) (sym seen)) up) ∙ ap (λ (p : DeviceProgress). p.held) (sym known_is);
      tickets = few_tickets shows (open_of h) k.shown;
      known = omega (arith, below, k.shown.devices_size);
      maker_is = omega arith;
    }

-- The device goes out

-- a probe of the device, of which this was known, goes out with this value: so the parts change
pub record IsProbedOut {D : Type 0} (shows : D → Shown) (h t : Inside D) (d : ℕ) (value : Option ℕ) (known : DeviceProgress) (grip : Gripped D Ready) : Type 0 where
  pub may : may_probe (configuration_of (open_of h)) d ≡ true
  pub value_is : value ≡ restored (configuration_of (open_of h)) d
  pub known_is : known ≡ progress_at h.checkouts.known.items d
  pub sent : IsSent shows h.checkouts (device_no d) 0 (record known { purpose = Probes value; probes_left = known.probes_left - 1 }) (Probe value) grip t.checkouts
  pub moment_is : t.moment ≡ h.moment
  pub new : t ≡ record h { moment = t.moment; checkouts = t.checkouts; order = t.order }

-- so it is gone
sent_gone : {D : Type 0} {shows : D → Shown} (h t : Inside D) (d : ℕ) (value : Option ℕ) (known : DeviceProgress) (grip : Gripped D Ready)
    → IsProbedOut shows h t d value known grip
    → IsGone shows h t 0 d (Probes value) ((progress_at h.checkouts.known.items d).probes_left - 1) (Probe value) grip
sent_gone {shows = shows} h t d value known grip out =
    record {
      sent = subst (λ (p : DeviceProgress). IsSent shows h.checkouts (device_no d) 0 (record p { purpose = Probes value; probes_left = p.probes_left - 1 }) (Probe value) grip t.checkouts) out.known_is out.sent;
      does = refl;
      probed_so = one_less (progress_at h.checkouts.known.items d).probes_left (may_parts (configuration_of (open_of h)) d out.may).left;
      ticket = omega arith;
      new = out.new;
    }
  where
    one_less : (x : ℕ) → nat_lt 0 x ≡ true → x - 1 + 1 ≡ x
    one_less x some = grind (arith, common_steps)

-- its configuration is the one after the call
sent_configuration : {D : Type 0} {shows : D → Shown} (h t : Inside D) (d : ℕ) (value : Option ℕ) (known : DeviceProgress)
    (grip : Gripped D Ready) → IsProbedOut shows h t d value known grip → IsWhole shows h
    → configuration_of (open_of t) ≡ after_take_probe (configuration_of (open_of h)) d
sent_configuration {D = D} h t d value known grip out k =
    let is = sent_gone h t d value known grip out in
    let left = (progress_at h.checkouts.known.items d).probes_left - 1 in
    let within = gone_within h t 0 d (Probes value) left (Probe value) grip is k in
    ap (λ (x : OpenHub D). configuration_of x) (gone_shows h t 0 d (Probes value) left (Probe value) grip is)
    ∙ gone_configuration (open_of h) 0 d left t.moment (Probes value) grip.slip (Probe value) out.sent.maker_is within.0 within.1
    ∙ (λ i. record (configuration_of (open_of h)) { moment = out.moment_is i; probes = put (configuration_of (open_of h)).probes d left; grips = put (configuration_of (open_of h)).grips d (Some (record { maker = 0; purpose = Probes (out.value_is i) })) })
    ∙ sym (ap (λ b. if b then record (configuration_of (open_of h)) { probes = put (configuration_of (open_of h)).probes d left; grips = put (configuration_of (open_of h)).grips d (Some (probe_grip (configuration_of (open_of h)) d)) } else configuration_of (open_of h)) out.may)

-- what is kept is kept then
pub sent_whole : {D : Type 0} {shows : D → Shown} (h t : Inside D) (d : ℕ) (value : Option ℕ) (known : DeviceProgress) (grip : Gripped D Ready)
    → IsProbedOut shows h t d value known grip → t.order ≡ h.order → IsWhole shows h → IsWhole shows t
sent_whole {D = D} h t d value known grip out order k =
    gone_whole h t 0 d (Probes value) ((progress_at h.checkouts.known.items d).probes_left - 1) (Probe value) grip (sent_gone h t d value known grip out)
    (subst (λ (c : Configuration). IsKeptByModel c h.rounds h.opened (held_in (open_of h))) (sym (sent_configuration h t d value known grip out k)) (probe_taken_kept (configuration_of (open_of h)) h.rounds h.opened (held_in (open_of h)) d k.shown.configuration))
    (subst (λ (x : OrderState). OrderIsBeside h.rounds h.history (configuration_of (open_of t)).grips x.line x.table) (sym order)
    (order_probe_out h.history.setting (read_in h.history) (configuration_of (open_of h)).grips
    (configuration_of (open_of t)).grips d value h.order.line h.order.table home grips k.order))
    (subst (HeldTokensAre h.history.setting (configuration_of (open_of t)).grips) (sym out.sent.held_tokens) (probe_goes h.history.setting (configuration_of (open_of h)).grips (configuration_of (open_of t)).grips d (Probes value) h.checkouts.held_tokens.items home grips k.held_tokens)) k
  where
    home : (configuration_of (open_of h)).grips d ≡ None
    home = none_out (configuration_of (open_of h)).grips d (may_parts (configuration_of (open_of h)) d out.may).home

    grips : (configuration_of (open_of t)).grips ≡ put (configuration_of (open_of h)).grips d (Some (record { maker = 0; purpose = Probes value }))
    grips = gone_grips h t 0 d (Probes value) ((progress_at h.checkouts.known.items d).probes_left - 1) (Probe value) grip (sent_gone h t d value known grip out) k

-- and it is the step that it says
pub record ProbeSent {D : Type 0} (s t : OpenHub D) (d : ℕ) (grip : Gripped D Ready) : Type 0 where
  pub probed : IsProbed s d (Some grip) t
  pub window : SameWindow s t

pub probe_sent : {D : Type 0} {shows : D → Shown} (h t : Inside D) (s₀ : OpenHub D) (d : ℕ) (value : Option ℕ) (known : DeviceProgress)
    (grip : Gripped D Ready) → open_of h ≡ s₀ → IsProbedOut shows h t d value known grip → IsWhole shows h
    → ProbeSent s₀ (open_of t) d grip
probe_sent {D = D} h t s₀ d value known grip seen out k =
    subst (λ (x : OpenHub D). ProbeSent x (open_of t) d grip) seen (record {
      probed = (
        (
          ap (λ x. Probed (Some x)) (out.sent.does ∙ ap (λ x. Probe x) out.value_is) ∙ ap (λ (x : ProbeTaken). Probed x.task) (sym takes),
          state ∙ ap (λ (x : ProbeTaken). x.next) (sym takes),
          (λ may. record { device = ap (λ (x : DeviceNo). x.0) out.sent.device; maker = out.sent.maker_is }),
        ),
        out.sent.at,
        out.sent.places ∙ ap (λ x. slice_set h.checkouts.gate.places d (Out grip.slip x)) (sym out.sent.does),
        gone_next h t 0 d (Probes value) left (Probe value) grip (sent_gone h t d value known grip out),
      );
      window = gone_window h t 0 d (Probes value) left (Probe value) grip (sent_gone h t d value known grip out) k;
    })
  where
    s : OpenHub D
    s = open_of h

    left : ℕ
    left = (progress_at h.checkouts.known.items d).probes_left - 1

    takes : take_probe (hub_state_of s) d grip.slip ≡ record { task = Some (Probe (restored (configuration_of s) d)); next = record { configuration = after_take_probe (configuration_of s) d; carried = carrying (hub_state_of s) 0 d (Probes (restored (configuration_of s) d)) grip.slip } }
    takes =
        ap (λ b. if b then record {
          task = Some (Probe (restored (configuration_of s) d));
          next = record {
            configuration = after_take_probe (configuration_of s) d;
            carried = carrying (hub_state_of s) 0 d (Probes (restored (configuration_of s) d)) grip.slip;
          };
        } else record { task = None; next = hub_state_of s }) out.may

    state : hub_state_of (open_of t) ≡ record { configuration = after_take_probe (configuration_of s) d; carried = carrying (hub_state_of s) 0 d (Probes (restored (configuration_of s) d)) grip.slip }
    state =
        let within = gone_within h t 0 d (Probes value) left (Probe value) grip (sent_gone h t d value known grip out) k in
        let configuration = sent_configuration h t d value known grip out k in
        let carried = ap (λ (x : OpenHub D). (hub_state_of x).carried)
        (gone_shows h t 0 d (Probes value) left (Probe value) grip (sent_gone h t d value known grip out)) ∙ gone_carries s 0 d left t.moment
        (Probes value) grip.slip (Probe value) refl within.0 ∙ ap (λ v. carrying (hub_state_of s) 0 d (Probes v) grip.slip) out.value_is in
        λ i. record { configuration = configuration i; carried = carried i }
