-- How a run sees the device of its next command, and whether the device is counted up, read off the lineage table.
use Rattle.hub_core.proofs.Prelude.{Bool, Command, Grips, Inside, IsAtCommand, IsRead, IsWhole, LineageIsKept, LineageState, List, None, OpenHub, Option, Reading, Setting, Shown, Some, access_of, access_read, accesses_along, accesses_at, accesses_read, along_there, ap, arith, command_at, commands_of, commits_write, common_steps, configuration_of, cut_live, eq-eqb, false, front_accesses, grips_command, held_in, if◌then◌else◌, is_device, is_doomed, is_live, is_on, is_some, is_weak, item_there, length, lineage_at, list_any, never_passed, next_is_left, next_of, no_command, none_commits, none_in_front, not, of_run, open_behind, open_of, option_map, pending_touches, pends, point, read_in, read_of, refl, rest_drop, sees_down, slice_get, subst, true, unwrap_or, uses, uses_now, view_of, view_when, ℕ, ◌&&◌, ◌++◌, ◌<◌, ◌||◌, ◌∙◌, ◌∷◌, ◌≡◌}
use Rattle.device_order.specs.LineEntries.{stage_of, usage}
use Rattle.device_order.specs.LineWords.{CutAt}
use Rattle.device_order.specs.RunStates.{uses_device}
use Rattle.device_order.specs.Usages.{stage_is_open}
use Rattle.home_types.specs.declared.commands.View.TheVariants.{Down}
use Rattle.hub_core.proofs.calls.HubOrders.{read_whole, roster_allowed}
use Rattle.lineage_table.proofs.Cited.{access_at}
use Rattle.lineage_table.specs.declared.accesses.Access.{Access}
use Rattle.lock_leasing.specs.Holders.{is_down_view, sees_it_down}
use Rattle.window_order.proofs.Cited.{live_uncommitted}
use Rattle.window_order.specs.OrderKept.{OrderIsKept}
use Rattle.window_order.specs.ReadWindows.{run_state}

-- the access of a run that is open on the device tells whether it sees it down
pub sees_read : (w : Setting) (n : Reading) (g : Grips) (held : ℕ → ℕ) (d r : ℕ) (s : LineageState) → IsRead w n → is_device w d ≡ true → OrderIsKept (point w n g) held → is_live n r ≡ true → is_doomed n r ≡ false → pends w n r d ≡ true → LineageIsKept (point w n g) d s
    → unwrap_or (option_map sees_it_down (access_of r s.accesses)) false ≡ sees_down n r d
sees_read w n g held d r s read device order live sound pending kept =
    ap (λ o. unwrap_or (option_map sees_it_down o) false) (ap (access_of r) around ∙ access_at r front own back (none_in_front w n g kept.passed d r cut) (eq-eqb r r refl))
    ∙ ap (λ b. unwrap_or (option_map is_down_view (if b then Some Down else option_map view_when (view_of n r d))) false) (never_passed n g d r kept.passed kept.may_pass (ap (λ b. not b || grips_command g r d) sound))
    ∙ seen (view_of n r d)
  where
    cut : CutAt r n.line
    cut = cut_live w n r read live

    own : Access
    own = access_read (point w n g) kept.passed d r

    front : List Access
    front = front_accesses (uses w n d) (commits_write n d) (access_read (point w n g) kept.passed d) false cut.front

    back : List Access
    back = accesses_along (uses w n d) (commits_write n d) (access_read (point w n g) kept.passed d) cut.back

    opened : stage_is_open (usage w.kinds (run_state (point w n g) r) d).stage ≡ true
    opened = λ i. stage_is_open (stage_of (live_uncommitted n r live i) (sound i) ((ap (uses_device d) (rest_drop (commands_of w.runs r) (n.run r).answers) ∙ pending) i))

    unwritten : list_any (of_run (commits_write n d)) cut.back ≡ false
    unwritten = none_commits w n d cut.back read (open_behind w n g held d r cut read order device (pending_touches d (commands_of w.runs r) (next_of n r) pending) opened)

    around : s.accesses ≡ front ++ own ∷ back
    around = kept.accesses ∙ ap (accesses_read (point w n g) kept.passed d) cut.at
        ∙ along_there (uses w n d) (commits_write n d) (access_read (point w n g) kept.passed d) r cut.front cut.back (uses_now w n d r read live pending) (λ i. live_uncommitted n r live i && is_some ((n.run r).on d).wrote) unwritten

    seen : (v : Option Bool) → unwrap_or (option_map is_down_view (option_map view_when v)) false ≡ unwrap_or (option_map not v) false
    seen None = refl
    seen (Some true) = refl
    seen (Some false) = refl

-- what the table tells of the device of the run's next command, in a window that is not of the weak model
pub record IsSeenThere (w : Setting) (n : Reading) (table : List LineageState) (r d : ℕ) : Type 0 where
  pub strong : is_weak w.mode ≡ false
  pub below : d < length table
  pub view : unwrap_or (option_map sees_it_down (access_of r (accesses_at table d))) false ≡ sees_down n r d
  pub up : (lineage_at table d).up ≡ n.up d

seen_there : {D : Type 0} {shows : D → Shown} (h : Inside D) (r k : ℕ) → IsAtCommand (configuration_of (open_of h)) r k
    → is_weak h.history.setting.mode ≡ false → IsWhole shows h
    → IsSeenThere h.history.setting (read_in h.history) h.order.table r (command_at h.history.setting.runs r k).device.0
seen_there h r k turn strong whole = record {
  strong = strong;
  below = omega (arith, below, whole.order.table_is.devices);
  view = sees_read w n (configuration_of (open_of h)).grips (held_in (open_of h)) d r (lineage_at h.order.table d) (read_whole h whole) device (whole.shown.configuration.ordered strong).order turn.live turn.sound pending ((whole.order.table_is.ordered strong).each d below);
  up = ((whole.order.table_is.ordered strong).each d below).up;
}
  where
    w : Setting
    w = h.history.setting

    n : Reading
    n = read_in h.history

    d : ℕ
    d = (command_at w.runs r k).device.0

    below : d < length w.first
    below = (roster_allowed w h.rounds h.opened whole.shown.configuration.opens).homed r k (command_at w.runs r k) (item_there (commands_of w.runs r) k no_command turn.command)

    device : is_device w d ≡ true
    device = grind (arith, common_steps, below)

    pending : pends w n r d ≡ true
    pending = next_is_left d (commands_of w.runs r) (next_of n r)
        (ap (λ j. unwrap_or (option_map (is_on d) (slice_get (commands_of w.runs r) j)) false) turn.next ∙ ap (λ o. unwrap_or (option_map (is_on d) o) false) (item_there (commands_of w.runs r) k no_command turn.command) ∙ eq-eqb d d refl)

-- .. as the hub is seen
pub seen_at : {D : Type 0} {shows : D → Shown} (h : Inside D) (s : OpenHub D) (r k : ℕ) (c : Command) → open_of h ≡ s
    → IsAtCommand (configuration_of s) r k → command_at s.setting.runs r k ≡ c → is_weak h.history.setting.mode ≡ false → IsWhole shows h
    → IsSeenThere s.setting (read_of (configuration_of s)) h.order.table r c.device.0
seen_at {D = D} h s r k c seen turn command strong whole =
    subst (λ (x : Command). IsSeenThere s.setting (read_of (configuration_of s)) h.order.table r x.device.0) command
    (subst (λ (x : OpenHub D). IsAtCommand (configuration_of x) r k → IsSeenThere x.setting (read_of (configuration_of x)) h.order.table r (command_at x.setting.runs r k).device.0) seen (λ t. seen_there h r k t strong whole) turn)
