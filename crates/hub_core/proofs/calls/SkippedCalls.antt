-- A run that skips its next command keeps what the type of a hub keeps.
use Rattle.hub_core.proofs.Prelude.{Bool, Command, Did, Grips, HistoryState, Inside, IsUnreleased, IsWhole, Moves, OrderIsBeside, Reading, Setting, Shown, Skipped, ap, arith, below_home, choice_of, command_at, commands_of, configuration_of, entry, false, held_in, if◌then◌else◌, is_done_there, is_doomed, is_first, is_run, is_weak, left_by, length, lineage_at, next_of, not, open_of, pends, read_in, refl, run_no, skip_entries, subst, sym, true, with_entry, with_lineage, with_more, ℕ, ◌<◌, ◌||◌, ◌∙◌, ◌≡◌}
use Rattle.hub_core.proofs.calls.HubChanges.{Going, IsEntered, entered_whole}
use Rattle.hub_core.proofs.calls.HubChoices.{IsSkipping, skipping}
use Rattle.hub_core.proofs.calls.HubOrders.{read_whole}
use Rattle.hub_core.proofs.kept.OrderSteps.{done_after, read_more}
use Rattle.hub_core.proofs.kept.SkippedOrders.{may_leave, order_skipped, order_skipped_weakly}
use Rattle.hub_core.proofs.kept.TableFits.{either_model}
use Rattle.hub_core.proofs.steps.Takes.{live_run}

-- what the code asks for before it
pub record MaySkip {D : Type 0} (h : Inside D) (r k : ℕ) : Type 0 where
  pub run : is_run h.history.setting.runs r ≡ true
  pub number : k ≡ next_of (read_in h.history) r
  pub within : k < length (commands_of h.history.setting.runs r)
  pub homed : (command_at h.history.setting.runs r k).device.0 < length h.order.table
  pub turn : is_weak h.history.setting.mode ≡ false → IsUnreleased r (lineage_at h.order.table (command_at h.history.setting.runs r k).device.0)

pub may_skip : {D : Type 0} {shows : D → Shown} (h : Inside D) (r m k : ℕ) → choice_of (configuration_of (open_of h)) r m ≡ Moves (skip_entries r k) → IsWhole shows h → MaySkip h r k
may_skip h r m k is whole = record {
  run = live_run w n r (read_whole h whole).shaped skip.live;
  number = skip.number;
  within = skip.within;
  homed = subst (λ x. (command_at w.runs r x).device.0 < length h.order.table) (sym skip.number) (omega (arith, below, whole.order.table_is.devices));
  turn = λ strong. subst (λ x. IsUnreleased r (lineage_at h.order.table (command_at w.runs r x).device.0)) (sym skip.number)
      (may_leave w n (configuration_of (open_of h)).grips (held_in (open_of h)) r h.order.table (skip.skipped strong) below (whole.order.table_is.ordered strong)).1;
}
  where
    w : Setting
    w = h.history.setting

    n : Reading
    n = read_in h.history

    skip : IsSkipping (configuration_of (open_of h)) (held_in (open_of h)) r k
    skip = skipping (configuration_of (open_of h)) h.rounds h.opened (held_in (open_of h)) r m k whole.shown.configuration is

    below : (command_at w.runs r (next_of n r)).device.0 < length w.first
    below = below_home w (command_at w.runs r (next_of n r)).device.0 skip.device

-- what the code wrote of it, beside the answer: where it was the run's last command on its device, the table was told
pub record IsSkippedSo {D : Type 0} (h t : Inside D) (r k : ℕ) (c : Command) (last : Bool) : Type 0 where
  pub command : c ≡ command_at h.history.setting.runs r k
  pub last_is : last ≡ (is_doomed (read_in t.history) r || not (pends t.history.setting (read_in t.history) r c.device.0))
  pub line : t.order.line ≡ h.order.line
  pub table : is_weak h.history.setting.mode ≡ false → t.order.table ≡ (if last then with_lineage h.order.table c.device.0 (left_by r (is_first r (lineage_at h.order.table c.device.0))) else h.order.table)
  pub same_table : is_weak h.history.setting.mode ≡ true → t.order.table ≡ h.order.table

pub skips_whole : {D : Type 0} {shows : D → Shown} (h t : Inside D) (r m k : ℕ) (c : Command) (last : Bool) → IsEntered h t r m (skip_entries r k) Going → IsSkippedSo h t r k c last → IsWhole shows h → IsWhole shows t
skips_whole {D = D} h t r m k c last enters so whole = entered_whole h t r m (skip_entries r k) Going enters (λ formed.
    either_model (OrderIsBeside h.rounds (with_more h.history r (skip_entries r k)) g t.order.line t.order.table) w
    (λ weak. order_skipped_weakly h.history _ g r h.order.line t.order.line h.order.table t.order.table new so.line weak (so.same_table weak) whole.order)
    (λ strong. order_skipped h.history _ g r h.order.line t.order.line h.order.table t.order.table new so.line (held_in (open_of h)) last strong (skip.skipped strong) (below_home w (command_at w.runs r (next_of n r)).device.0 skip.device) last_is (table strong) whole.order)) whole
  where
    w : Setting
    w = h.history.setting

    n : Reading
    n = read_in h.history

    g : Grips
    g = (configuration_of (open_of h)).grips

    skip : IsSkipping (configuration_of (open_of h)) (held_in (open_of h)) r k
    skip = skipping (configuration_of (open_of h)) h.rounds h.opened (held_in (open_of h)) r m k whole.shown.configuration enters.chosen

    new : with_entry h.history r (Did (run_no r) k Skipped) ≡ with_entry h.history r (Did (run_no r) (next_of n r) Skipped)
    new = ap (λ x. with_entry h.history r (Did (run_no r) x Skipped)) skip.number

    written : t.history ≡ with_entry h.history r (Did (run_no r) k Skipped)
    written = ap (λ (x : Inside D). x.history) enters.new

    reads : (t.history.setting ≡ w) × (read_in t.history ≡ entry w n (Did (run_no r) k Skipped))
    reads = (ap (λ (x : HistoryState). x.setting) written, ap read_in written ∙ read_more w h.history.history r (Did (run_no r) k Skipped))

    last_is : last ≡ is_done_there w n r (next_of n r)
    last_is =
        so.last_is ∙ (λ i. is_doomed (reads.1 i) r || not (pends (reads.0 i) (reads.1 i) r (so.command i).device.0))
        ∙ done_after w n r k Skipped (command_at w.runs r k).device.0 skip.number refl ∙ ap (is_done_there w n r) skip.number

    table : is_weak w.mode ≡ false → t.order.table ≡ (if last then with_lineage h.order.table (command_at w.runs r (next_of n r)).device.0 (left_by r (is_first r (lineage_at h.order.table (command_at w.runs r (next_of n r)).device.0))) else h.order.table)
    table strong = so.table strong ∙ ap (λ (x : Command). if last then with_lineage h.order.table x.device.0 (left_by r (is_first r (lineage_at h.order.table x.device.0))) else h.order.table) (so.command ∙ ap (command_at w.runs r) skip.number)
