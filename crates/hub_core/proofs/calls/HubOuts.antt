-- A device that goes out keeps what the type of a hub keeps.
use Rattle.hub_core.proofs.Prelude.{Bool, Chose, Command, Commands, Configuration, DeviceGoesOut, DeviceNo, DeviceProgress, Gripped, HandsOut, Home, HubIsKept, HubStep, Inside, IsHome, IsKeptByModel, IsSent, IsTrue, IsWhole, MaySend, None, OpenHub, Out, Probes, Purpose, SameWindow, Shown, Slip, Some, Take, Task, Undoes, after_choice, answers_down, ap, ap₂, arith, at_moment, below_home, busy_wait, carried_after, choice_of, command_at, commands_of, common_steps, configuration_of, device_no, driven, false, grip_wait, has_effect, held_in, hub_state_of, if◌then◌else◌, is_device, is_doomed, is_live, is_out, is_run, is_some, is_weak, kind_at, length, max, names_values_of, nat_lt, next_command, next_of, not, open_of, point_of, probed, progress_at, put, put_at, read_of, reads, refl, run_above, run_place, sees_down, slice_get, slice_get_within, slice_set, subst, sym, task_of, true, value_without, with_grip, ℕ, ◌&&◌, ◌<◌, ◌||◌, ◌∙◌, ◌≡◌}
use Rattle.device_gate.specs.declared.grips.Ready.{Ready}
use Rattle.device_gate.specs.declared.slips.Task.TheVariants.{Drive, Sense}
use Rattle.hub_core.proofs.calls.Departures.{IsGone, few_tickets, gone, gone_carries, gone_configuration, gone_next, gone_shows, gone_window, gone_within, has_room, home_place, one_for}
use Rattle.hub_core.proofs.calls.HubChanges.{step_is}
use Rattle.hub_core.proofs.kept.KeptByModel.{taken_kept}
use Rattle.hub_core.proofs.steps.Choices.{Commanding, Known, known_by}

-- Why it goes

-- it goes for the run's next command ..
pub record GoesToCommand (s : Configuration) (r d k : ℕ) : Type 0 where
  pub number : k ≡ next_of (read_of s) r
  pub sound : is_doomed (read_of s) r ≡ false
  pub command : Command
  pub next : next_command s.setting (read_of s) r ≡ Some command
  pub on : command.device.0 ≡ d

-- .. or to undo the run's write
pub record GoesToUndo (s : Configuration) (r d v : ℕ) : Type 0 where
  pub doomed : is_doomed (read_of s) r ≡ true
  pub effect : has_effect (read_of s) s.grips r d ≡ true
  pub value : v ≡ value_without (point_of s) r d

abbrev pub GoesFor : Configuration → ℕ → ℕ → Purpose → Type 0
GoesFor s r d (Commands k) = GoesToCommand s r d k
GoesFor s r d (Undoes v) = GoesToUndo s r d v
GoesFor s r d (Probes v) = ⊥

-- the step that hands a device out is of a live run of the window, whose device is home and counted up
pub record IsHandedOut (s : Configuration) (r d : ℕ) (purpose : Purpose) : Type 0 where
  pub run : is_run s.setting.runs r ≡ true
  pub live : is_live (read_of s) r ≡ true
  pub home : is_out s.grips d ≡ false
  pub up : (read_of s).up d ≡ true
  pub device : is_device s.setting d ≡ true
  pub free : grip_wait s.setting s.grips r ≡ None
  pub for : GoesFor s r d purpose

-- no command goes out but to a device that is home and counted up
goes_when : (weak sees out up : Bool) → (weak ≡ false → sees ≡ false → out ≡ false) → (weak ≡ true → out ≡ false) → ((not weak && sees) || not up) ≡ false → (out ≡ false) × (up ≡ true)
goes_when weak sees out up free free_weakly seen = (by_model weak sees free free_weakly seen, second weak sees up seen)
  where
    by_model : (a b : Bool) → (a ≡ false → b ≡ false → out ≡ false) → (a ≡ true → out ≡ false) → ((not a && b) || not up) ≡ false → out ≡ false
    by_model true b f g h = g refl
    by_model false true f g h = absurd (cc)
    by_model false false f g h = f refl refl

    second : (a b c : Bool) → ((not a && b) || not c) ≡ false → c ≡ true
    second a b c h = grind (arith, common_steps)

-- a wait for a device that is out, by the model
home_when : (weak sees out : Bool) → ((weak || not sees) && out) ≡ false → (weak ≡ false → sees ≡ false → out ≡ false) × (weak ≡ true → out ≡ false)
home_when true sees out free = (λ strong. absurd (cc), λ w. free)
home_when false true out free = (λ w seen. absurd (cc), λ weak. absurd (cc))
home_when false false out free = (λ w seen. free, λ weak. absurd (cc))

pub handed_out : (s : Configuration) (rounds opened : ℕ) (held : ℕ → ℕ) (r m d : ℕ) (purpose : Purpose) → IsKeptByModel s rounds opened held → choice_of s r m ≡ HandsOut d purpose → IsHandedOut s r d purpose
handed_out s rounds opened held r m d purpose kept is = by_purpose purpose (known_by s r m (HandsOut d purpose) is)
  where
    homed : (c : Command) → next_command s.setting (read_of s) r ≡ Some c → is_device s.setting c.device.0 ≡ true
    homed c next = let home : IsTrue (is_device s.setting c.device.0 && names_values_of (kind_at s.setting.kinds c.device.0) c.job) = kept.opens.homed r (next_of (read_of s) r) c next in grind (arith, common_steps)

    next_out : (c : Command) (k : ℕ) → Commanding (point_of s) r c → busy_wait (point_of s) r c.device.0 ≡ false
        → answers_down s.setting (read_of s) r c.device.0 ≡ false → k ≡ next_of (read_of s) r → IsHandedOut s r c.device.0 (Commands k)
    next_out c k run home up same =
        let free = home_when (is_weak s.setting.mode) (sees_down (read_of s) r c.device.0) (is_out s.grips c.device.0) home in
        let goes = goes_when (is_weak s.setting.mode) (sees_down (read_of s) r c.device.0) (is_out s.grips c.device.0) ((read_of s).up c.device.0) free.0 free.1 up in
        record {
          run = run.act.run;
          live = run.act.live;
          home = goes.0;
          up = goes.1;
          device = homed c run.next;
          free = run.act.free;
          for = record { number = same; sound = ap is_some run.sound; command = c; next = run.next; on = refl };
        }

    by_purpose : (p : Purpose) → Known s.setting (read_of s) s.grips r (max s.moment m) (HandsOut d p) → IsHandedOut s r d p
    by_purpose (Commands k) known = subst (λ e. IsHandedOut s r e (Commands k)) (sym known.4) (next_out known.0 k known.1 known.2 known.3 known.5)
    by_purpose (Undoes v) known =
        record {
          run = known.1.act.run;
          live = known.1.act.live;
          home = known.1.home;
          up = known.2;
          device = known.1.device;
          free = known.1.act.free;
          for = record { doomed = ap is_some known.1.doomed; effect = known.1.effect; value = known.3 };
        }
    by_purpose (Probes v) known = absurd known

-- the run of a step that hands a device out has the command
pub command_there : {D : Type 0} (s : OpenHub D) (rounds opened : ℕ) (held : ℕ → ℕ) (r m d k : ℕ) (purpose : Purpose) → IsKeptByModel (configuration_of s) rounds opened held → choice_of (configuration_of s) r m ≡ HandsOut d purpose
    → purpose ≡ Commands k → IsTrue (is_run s.setting.runs r) × (k < length (commands_of s.setting.runs r))
command_there s rounds opened held r m d k purpose kept is for =
    let out = handed_out (configuration_of s) rounds opened held r m d purpose kept is in
    let goes : GoesToCommand (configuration_of s) r d k = subst (GoesFor (configuration_of s) r d) for out.for in
    let within : next_of (read_of (configuration_of s)) r < length (commands_of s.setting.runs r) = slice_get_within (commands_of s.setting.runs r) (next_of (read_of (configuration_of s)) r) goes.command goes.next in
    (out.run, subst (λ x. x < length (commands_of s.setting.runs r)) (sym goes.number) within)

pub out_home : {D : Type 0} (shows : D → Shown) (s : OpenHub D) (r m d : ℕ) (purpose : Purpose) → HubIsKept shows s → choice_of (configuration_of s) r m ≡ HandsOut d purpose → (d < length s.setting.first) × IsHome s.places d
out_home shows s r m d purpose k is =
    let out = handed_out (configuration_of s) s.rounds s.opened (held_in s) r m d purpose k.configuration is in
    let within : d < length s.setting.first = below_home s.setting d out.device in
    (within, home_place s d (omega (arith, within, k.places_size)) out.home)

-- what a run does with a device makes no probe
not_probing : (s : Configuration) (r d : ℕ) (purpose : Purpose) → GoesFor s r d purpose → probed (task_of s r purpose) ≡ 0
not_probing s r d (Undoes v) goes = refl
not_probing s r d (Probes v) goes = absurd goes
not_probing s r d (Commands k) goes = by_reading (reads (command_at s.setting.runs r k).job)
  where
    by_reading : (b : Bool) → probed (if b then Sense else Drive (driven (kind_at s.setting.kinds (command_at s.setting.runs r k).device.0) (command_at s.setting.runs r k).job ((read_of s).run r).register)) ≡ 0
    by_reading true = refl
    by_reading false = refl

-- a device that goes out is counted up, and stands where it is known to
stands_home : {D : Type 0} (shows : D → Shown) (s : OpenHub D) (r m d : ℕ) (purpose : Purpose) (device : D) → HubIsKept shows s → choice_of (configuration_of s) r m ≡ HandsOut d purpose → slice_get s.places d ≡ Some (Home device) → (shows device).stands ≡ held_in s d
stands_home shows s r m d purpose device k chosen at = (k.home d device at).stand (handed_out (configuration_of s) s.rounds s.opened (held_in s) r m d purpose k.configuration chosen).up

-- it may go out to its run
pub may_send : {D : Type 0} {shows : D → Shown} (h : Inside D) (r m d : ℕ) (purpose : Purpose) (known : DeviceProgress) (task : Task)
    → choice_of (configuration_of (open_of h)) r m ≡ HandsOut d purpose → known ≡ progress_at h.checkouts.known.items d → IsWhole shows h
    → MaySend shows h.checkouts d r known.held task
may_send {shows = shows} h r m d purpose known task chosen known_is k =
    let home = out_home shows (open_of h) r m d purpose k.shown chosen in
    let out = handed_out (configuration_of (open_of h)) h.rounds h.opened (held_in (open_of h)) r m d purpose k.shown.configuration chosen in
    let place = run_place h.history.setting.runs r out.run in
    record {
      home = home.1;
      room = λ device at. has_room shows (open_of h) d device k.shown at;
      stood = λ device at up. stands_home shows (open_of h) r m d purpose device k.shown chosen at ∙ ap (λ (p : DeviceProgress). p.held) (sym known_is);
      tickets = few_tickets shows (open_of h) k.shown;
      known = omega (arith, home.0, k.shown.devices_size);
      maker_is = omega (arith, place.0, place.1, k.held_tokens.size);
    }

-- The device goes out

-- for the run, whatever its probes
went_configuration : {D : Type 0} (s : OpenHub D) (r d m : ℕ) (purpose : Purpose) (slip : Slip) (task : Task) → slip.maker ≡ r → d < length s.places → d < length s.devices
    → configuration_of (gone s d purpose (progress_at s.devices d).probes_left slip task (max s.moment m)) ≡ with_grip (at_moment (configuration_of s) m) d (Some (record { maker = r; purpose = purpose }))
went_configuration s r d m purpose slip task maker within known =
    gone_configuration s r d (progress_at s.devices d).probes_left (max s.moment m) purpose slip task maker within known
    ∙ ap (λ (f : ℕ → ℕ). record (configuration_of s) {
      moment = max s.moment m;
      probes = f;
      grips = put (configuration_of s).grips d (Some (record { maker = r; purpose = purpose }));
    }) (sym (put_at (configuration_of s).probes (configuration_of s).probes d (progress_at s.devices d).probes_left refl (λ e other. refl)))

went_state : {D : Type 0} (s : OpenHub D) (r d m : ℕ) (purpose : Purpose) (slip : Slip) (task : Task) → slip.maker ≡ r → task ≡ task_of (configuration_of s) r purpose → d < length s.places → d < length s.devices
    → hub_state_of (gone s d purpose (progress_at s.devices d).probes_left slip task (max s.moment m)) ≡ record { configuration = after_choice (at_moment (configuration_of s) m) r (HandsOut d purpose); carried = carried_after (hub_state_of s) r (HandsOut d purpose) slip }
went_state s r d m purpose slip task maker does within known =
    let configuration = went_configuration s r d m purpose slip task maker within known in
    let carried = gone_carries s r d (progress_at s.devices d).probes_left (max s.moment m) purpose slip task does within in
    λ i. record { configuration = configuration i; carried = carried i }

-- the device goes out in the step of the run, of which this was known: so the parts change
pub record IsHanded {D : Type 0} (shows : D → Shown) (h t : Inside D) (r m d : ℕ) (purpose : Purpose) (known : DeviceProgress) (task : Task) (grip : Gripped D Ready) : Type 0 where
  pub chosen : choice_of (configuration_of (open_of h)) r m ≡ HandsOut d purpose
  pub does : task ≡ task_of (configuration_of (open_of h)) r purpose
  pub known_is : known ≡ progress_at h.checkouts.known.items d
  pub sent : IsSent shows h.checkouts (device_no d) r (record known { purpose = purpose }) task grip t.checkouts
  pub moment_is : t.moment ≡ max h.moment m
  pub new : t ≡ record h { moment = t.moment; checkouts = t.checkouts; order = t.order }

-- so it is gone
pub handed_gone : {D : Type 0} {shows : D → Shown} (h t : Inside D) (r m d : ℕ) (purpose : Purpose) (known : DeviceProgress) (task : Task) (grip : Gripped D Ready) → IsHanded shows h t r m d purpose known task grip → IsWhole shows h
    → IsGone shows h t r d purpose (progress_at h.checkouts.known.items d).probes_left task grip
handed_gone {shows = shows} h t r m d purpose known task grip handed k =
    let out = handed_out (configuration_of (open_of h)) h.rounds h.opened (held_in (open_of h)) r m d purpose k.shown.configuration handed.chosen in
    let none_probed : probed task ≡ 0 = ap probed handed.does ∙ not_probing (configuration_of (open_of h)) r d purpose out.for in
    let of_run : one_for (nat_lt 0 r) ≡ 1 = ap one_for (run_above h.history.setting.runs r out.run) in
    record {
      sent = subst (λ (p : DeviceProgress). IsSent shows h.checkouts (device_no d) r (record p { purpose = purpose }) task grip t.checkouts) handed.known_is handed.sent;
      does = handed.does;
      probed_so = omega (arith, none_probed);
      ticket = omega (arith, of_run, none_probed);
      new = handed.new;
    }

-- the hub shows it
handed_shows : {D : Type 0} {shows : D → Shown} (h t : Inside D) (r m d : ℕ) (purpose : Purpose) (known : DeviceProgress) (task : Task) (grip : Gripped D Ready) → IsHanded shows h t r m d purpose known task grip → IsWhole shows h
    → open_of t ≡ gone (open_of h) d purpose (progress_at h.checkouts.known.items d).probes_left grip.slip task (max h.moment m)
handed_shows h t r m d purpose known task grip handed k =
    gone_shows h t r d purpose (progress_at h.checkouts.known.items d).probes_left task grip (handed_gone h t r m d purpose known task grip handed k)
    ∙ ap (λ x. gone (open_of h) d purpose (progress_at h.checkouts.known.items d).probes_left grip.slip task x) handed.moment_is

-- what is kept of its configuration
pub handed_kept : {D : Type 0} {shows : D → Shown} (h t : Inside D) (r m d : ℕ) (purpose : Purpose) (known : DeviceProgress) (task : Task) (grip : Gripped D Ready) → IsHanded shows h t r m d purpose known task grip → IsWhole shows h
    → IsKeptByModel (configuration_of (open_of t)) h.rounds h.opened (held_in (open_of h))
handed_kept {D = D} h t r m d purpose known task grip handed k =
    let s = open_of h in
    let within = gone_within h t r d purpose (progress_at h.checkouts.known.items d).probes_left task grip (handed_gone h t r m d purpose known task grip handed k) k in
    subst (λ (c : Configuration). IsKeptByModel c s.rounds s.opened (held_in s)) (sym (ap (λ (x : OpenHub D). configuration_of x) (handed_shows h t r m d purpose known task grip handed k) ∙ went_configuration s r d m purpose grip.slip task handed.sent.maker_is within.0 within.1))
    (subst (λ c. IsKeptByModel (after_choice (at_moment (configuration_of s) m) r c) s.rounds s.opened (held_in s)) handed.chosen (taken_kept (configuration_of s) s.rounds s.opened (held_in s) r m k.shown.configuration))

-- the step of its run
pub record WentOut {D : Type 0} (s : OpenHub D) (r m : ℕ) (grip : Gripped D Ready) (t : OpenHub D) : Type 0 where
  pub out : DeviceGoesOut s r m grip t
  pub window : SameWindow s t

pub went_out : {D : Type 0} {shows : D → Shown} (h t : Inside D) (s₀ : OpenHub D) (r m d : ℕ) (purpose : Purpose) (known : DeviceProgress) (task : Task) (grip : Gripped D Ready)
    → open_of h ≡ s₀ → IsHanded shows h t r m d purpose known task grip → IsWhole shows h → WentOut s₀ r m grip (open_of t)
went_out {D = D} {shows = shows} h t s₀ r m d purpose known task grip seen handed k =
    subst (λ (x : OpenHub D). WentOut x r m grip (open_of t)) seen (record {
      out = record {
        purpose = purpose;
        step = subst (λ e. HubStep (hub_state_of s) (Take r m grip.slip) (Chose (HandsOut e purpose)) (hub_state_of (open_of t))) (sym number)
            (step_is s (open_of t) r m (HandsOut d purpose) grip.slip handed.chosen
            (ap (λ (x : OpenHub D). hub_state_of x) (handed_shows h t r m d purpose known task grip handed k)
            ∙ went_state s r d m purpose grip.slip task sent.maker_is handed.does within.0 within.1) (record { device = number; maker = sent.maker_is }));
        task = sent.does ∙ handed.does;
        home = subst (λ e. slice_get s.places e ≡ Some (Home grip.device)) (sym number) sent.at;
        places = sent.places ∙ ap₂ (λ e x. slice_set s.places e (Out grip.slip x)) (sym number) (sym sent.does);
        next = gone_next h t r d purpose (progress_at h.checkouts.known.items d).probes_left task grip is;
      };
      window = gone_window h t r d purpose (progress_at h.checkouts.known.items d).probes_left task grip is k;
    })
  where
    s : OpenHub D
    s = open_of h

    is : IsGone shows h t r d purpose (progress_at h.checkouts.known.items d).probes_left task grip
    is = handed_gone h t r m d purpose known task grip handed k

    sent : IsSent shows h.checkouts (device_no d) r (record known { purpose = purpose }) task grip t.checkouts
    sent = handed.sent

    number : grip.slip.device.0 ≡ d
    number = ap (λ (x : DeviceNo). x.0) sent.device

    within : (d < length h.checkouts.gate.places) × (d < length h.checkouts.known.items)
    within = gone_within h t r d purpose (progress_at h.checkouts.known.items d).probes_left task grip is k

-- .. also where the hub is seen otherwise
pub command_given : {D : Type 0} (shows : D → Shown) (s s₀ : OpenHub D) (r m d k : ℕ) (purpose : Purpose) → HubIsKept shows s → s ≡ s₀ → choice_of (configuration_of s₀) r m ≡ HandsOut d purpose
    → purpose ≡ Commands k → IsTrue (is_run s₀.setting.runs r) × (k < length (commands_of s₀.setting.runs r))
command_given {D = D} shows s s₀ r m d k purpose kept same =
    subst (λ (x : OpenHub D). choice_of (configuration_of x) r m ≡ HandsOut d purpose → purpose ≡ Commands k → IsTrue (is_run x.setting.runs r) × (k < length (commands_of x.setting.runs r))) same
    (λ is for. command_there s s.rounds s.opened (held_in s) r m d k purpose kept.configuration is for)
