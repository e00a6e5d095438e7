-- The line and the table of a hub, when a device comes home.
use Rattle.hub_core.proofs.Prelude.{Answer, Bool, Cause, ChangesEach, Command, Commands, Did, Done, Doomed, Down, Entry, Fine, Found, Gripped, Grips, GripsFit, HistoryState, Inside, IsSome, IsWellFormed, IsWhole, LineageState, List, Marked, MayNote, None, Option, OrderIsBeside, Reading, Setting, Shown, Skipped, Slip, Some, Task, Undid, Undoes, [], ap, arith, command_at, commands_of, common_steps, configuration_of, doomed_lineage, driven, each_at, entries_of, entries_on, entry, false, grips_command, has_died, held_after, held_in, holds, home_fits, if◌then◌else◌, is_access, is_doomed, is_fine, is_first, is_run, is_told, is_weak, kept_by, kind_at, length, lineage_at, may_act, may_follow, nat_lt, next_of, not, noted_first, nothing_read, open_of, pends, point, progress_at, put, put_other, read_in, reads, refl, run_no, subst, suits, sym, told_write, true, value_after, view_when, with_doom, with_entry, with_lineage, writes, ℕ, ◌&&◌, ◌++◌, ◌<◌, ◌==◌, ◌||◌, ◌∙◌, ◌∷◌, ◌≡◌}
use Rattle.hub_core.proofs.kept.TableFits.{either_model}
use Rattle.device_gate.specs.declared.slips.Task.TheVariants.{Drive, Sense}
use Rattle.home_types.specs.declared.commands.Job.TheVariants.{Check, Load, Set, Store}
use Rattle.home_types.specs.declared.commands.Job.{Job}
use Rattle.home_types.specs.declared.commands.View.{View}
use Rattle.hub_core.proofs.calls.HubOrders.{read_whole}
use Rattle.hub_core.proofs.calls.HubChanges.{answer_entries}
use Rattle.hub_core.proofs.calls.Homecomings.{IsHome, IsReturned, came_whole, returned_for}
use Rattle.hub_core.proofs.calls.HubReturns.{IsAnswered, answered_back, undone_back}
use Rattle.hub_core.proofs.calls.OutFor.{IsForCommand, for_command}
use Rattle.hub_core.proofs.kept.OrderSteps.{done_after, last_follows, may_note, none_out, order_answered, order_answered_weakly, order_doomed_if, order_undone, read_more}
use Rattle.hub_core.proofs.steps.Gives.{told_access}
use Rattle.window_order.specs.declared.order_states.OrderState.{OrderState}
use Rattle.std.proofs.lemmas.List.{append_assoc}

-- What the answer tells

-- a write that worked has driven its device to where it stands
drove : (job : Job) (v stood : ℕ) → writes job ≡ true → value_after (if reads job then Sense else Drive v) stood ≡ v
drove (Set u) v stood writes = refl
drove (Check u) v stood writes = absurd (cc)
drove Load v stood writes = absurd (cc)
drove Store v stood writes = refl

second : (a b : Bool) → (a && b) ≡ true → b ≡ true
second a b h = grind (arith, common_steps)

wrote_is : (w : Setting) (n : Reading) (r : ℕ) (c : Command) (a : Answer) (task : Task) (value stood : ℕ) → suits w n r c a ≡ true → task ≡ (if reads c.job then Sense else Drive (driven (kind_at w.kinds c.device.0) c.job (n.run r).register)) → value ≡ value_after task stood
    → (if is_fine a then Some value else None) ≡ told_write w n r c a
wrote_is w n r c Fine task value stood suited does is = ap (λ v. Some v) (is ∙ ap (λ t. value_after t stood) does ∙ drove c.job (driven (kind_at w.kinds c.device.0) c.job (n.run r).register) stood (second (holds c.when (n.run r).register) (writes c.job) suited))
wrote_is w n r c (Found x) task value stood suited does is = refl
wrote_is w n r c Down task value stood suited does is = refl
wrote_is w n r c Skipped task value stood suited does is = refl

fourth : (a b c x e : Bool) → (a && b && c && x && not e) ≡ true → x ≡ true
fourth a b c x e h = grind (arith, common_steps)

-- the first entry of a step may stand where it stands, also where a doom follows it
first_follows : (h h₁ h₂ : HistoryState) (r : ℕ) (e : Entry) (cause : Option Cause) → h₁ ≡ with_entry h r e → h₂ ≡ with_doom h₁ r cause → IsWellFormed h₂.setting (entries_of h₂.history) → may_follow h.setting (read_in h) e ≡ true
first_follows h h₁ h₂ r e cause one two formed =
    at_ cause (subst (λ (x : HistoryState). IsWellFormed (with_doom x r cause).setting (entries_of (with_doom x r cause).history)) one (subst (λ (x : HistoryState). IsWellFormed x.setting (entries_of x.history)) two formed))
  where
    at_ : (c : Option Cause) → IsWellFormed (with_doom (with_entry h r e) r c).setting (entries_of (with_doom (with_entry h r e) r c).history) → may_follow h.setting (read_in h) e ≡ true
    at_ None formed = last_follows h.setting h.history r e formed
    at_ (Some c) formed = each_at h.setting (may_follow h.setting) (nothing_read h.setting) (entries_of h.history) e (Doomed (run_no r) c ∷ [])
        (subst (IsWellFormed h.setting) (entries_on (h.history ++ kept_by r (e ∷ [])) r (Doomed (run_no r) c ∷ []) ∙ ap (λ l. l ++ Doomed (run_no r) c ∷ []) (entries_on h.history r (e ∷ [])) ∙ append_assoc (entries_of h.history) (e ∷ []) (Doomed (run_no r) c ∷ [])) formed)

-- The device that came home

-- what the table asks for
pub record MayTell (w : Setting) (table : List LineageState) (sl : Slip) : Type 0 where
  pub device : sl.device.0 < length table
  pub turn : is_weak w.mode ≡ false → MayNote sl.maker (lineage_at table sl.device.0)

pub may_tell : {D : Type 0} {shows : D → Shown} (h : Inside D) (k : ℕ) (grip : Gripped D Done) (slip : Slip) → IsReturned shows h (Commands k) grip → slip ≡ grip.slip → IsWhole shows h → MayTell h.history.setting h.order.table slip
may_tell h k grip slip returned same whole =
    subst (MayTell h.history.setting h.order.table) (sym same) (record {
      device = let size : length h.order.table ≡ length h.history.setting.first = whole.order.table_is.devices in omega (arith, within, size);
      turn =
          λ strong.
          (may_note h.history.setting (read_in h.history) (configuration_of (open_of h)).grips (held_in (open_of h)) grip.slip.device.0 grip.slip.maker k
          h.order.table (read_whole h whole) (whole.shown.configuration.ordered strong).order for.grip within (whole.order.table_is.ordered strong)).1;
    })
  where
    for : IsForCommand (open_of h) grip.slip grip.task k
    for = for_command _ (open_of h) grip.slip grip.task k whole.shown returned.there returned.purpose

    within : grip.slip.device.0 < length h.history.setting.first
    within = (returned_for h (Commands k) grip returned whole).below

-- line and table when a command was answered, and its run is then doomed where there is a cause
order_told : {rounds : ℕ} (h h₁ h₂ : HistoryState) (g f : Grips) (d r k : ℕ) (a : Answer) (cause : Option Cause) (mid after : Marked) (between later : List LineageState)
    → GripsFit (point h.setting (read_in h) g) → is_run h.setting.runs r ≡ true → g d ≡ Some (record { maker = r; purpose = Commands k })
    → h₁ ≡ with_entry h r (Did (run_no r) k a) → h₂ ≡ with_doom h₁ r cause → IsWellFormed h₂.setting (entries_of h₂.history) → f ≡ put g d None
    → after ≡ mid → (cause ≡ None → later ≡ between) → (IsSome cause → ChangesEach (λ d. doomed_lineage r) between later)
    → OrderIsBeside rounds h₁ f mid between → OrderIsBeside rounds h₂ f after later
order_told {rounds = rounds} h h₁ h₂ g f d r k a cause mid after between later fits run at one two formed home kept unchanged changed beside =
    order_doomed_if h₁ h₂ f r cause mid after between later fit none two formed kept unchanged changed beside
  where
    did : Entry
    did = Did (run_no r) k a

    reads : (h₁.setting ≡ h.setting) × (read_in h₁ ≡ entry h.setting (read_in h) did)
    reads = (ap (λ (x : HistoryState). x.setting) one, ap read_in one ∙ read_more h.setting h.history r did)

    fit : GripsFit (point h₁.setting (read_in h₁) f)
    fit = subst (λ w. GripsFit (point w (read_in h₁) f)) (sym reads.0) (subst (λ n. GripsFit (point h.setting n f)) (sym reads.1) (subst (λ x. GripsFit (point h.setting (entry h.setting (read_in h) did) x)) (sym home)
        (home_fits h.setting (read_in h) (entry h.setting (read_in h) did) g d r (Commands k) (λ q ne. put_other (read_in h).run r _ q ne) run at fits)))

    none : (e : ℕ) → grips_command f r e ≡ false
    none e = ap (λ x. grips_command x r e) home ∙ none_out (point h.setting (read_in h) g) d r (Commands k) run at fits e

-- what line and table note of a command that came back: what it tells of its device, and then the doom of its run where there is a cause
pub record IsNoted {D : Type 0} (h t : Inside D) (grip : Gripped D Done) (value : ℕ) (slip : Slip) (a : Answer) (cause : Option Cause) (mid : HistoryState) (view : View) (wrote : Option ℕ) (last : Bool) (between : OrderState) : Type 0 where
  pub value_is : value ≡ held_after grip.stage.told grip.task (progress_at h.checkouts.known.items grip.slip.device.0).held
  pub view_is : view ≡ view_when (is_told a)
  pub wrote_is : wrote ≡ (if is_fine a then Some value else None)
  pub last_is : last ≡ (is_doomed (read_in mid) slip.maker || not (pends mid.setting (read_in mid) slip.maker slip.device.0))
  pub line : between.line ≡ h.order.line
  pub table : is_weak h.history.setting.mode ≡ false → between.table ≡ with_lineage h.order.table slip.device.0 (noted_first slip.maker (is_first slip.maker (lineage_at h.order.table slip.device.0)) view wrote last)
  pub same_table : is_weak h.history.setting.mode ≡ true → between.table ≡ h.order.table
  pub line_after : t.order.line ≡ between.line
  pub unchanged : cause ≡ None → t.order.table ≡ between.table
  pub changed : IsSome cause → ChangesEach (λ d. doomed_lineage slip.maker) between.table t.order.table

-- .. when its device is home again
order_came : {D : Type 0} {shows : D → Shown} (h t : Inside D) (value k : ℕ) (grip : Gripped D Done) (slip : Slip) (a : Answer) (cause : Option Cause) (mid : HistoryState) (view : View) (wrote : Option ℕ) (last : Bool) (between : OrderState)
    → IsReturned shows h (Commands k) grip → IsHome h t grip → IsAnswered h grip k slip a cause mid t.history → IsNoted h t grip value slip a cause mid view wrote last between
    → IsWellFormed t.history.setting (entries_of t.history.history)
    → (configuration_of (open_of t)).grips ≡ put (configuration_of (open_of h)).grips grip.slip.device.0 None → IsWhole shows h
    → OrderIsBeside h.rounds t.history (configuration_of (open_of t)).grips t.order.line t.order.table
order_came {D = D} h t value k grip slip a cause mid view wrote last between returned home answered noted formed gripped whole =
    order_told h.history mid t.history (configuration_of (open_of h)).grips (configuration_of (open_of t)).grips d r k a cause between.line t.order.line between.table t.order.table
    whole.shown.configuration.grips for.run for.grip new doomed formed gripped noted.line_after noted.unchanged
    (λ some. subst (λ (z : Slip). ChangesEach (λ e. doomed_lineage z.maker) between.table t.order.table) answered.same (noted.changed some))
    (either_model (OrderIsBeside h.rounds mid (configuration_of (open_of t)).grips between.line between.table) w
    (λ weak. order_answered_weakly h.history mid (configuration_of (open_of h)).grips (configuration_of (open_of t)).grips d r k a h.order.line between.line h.order.table between.table access weak whole.shown.configuration.grips for.grip new gripped noted.line (noted.same_table weak) whole.order)
    (λ strong. order_answered h.history mid (configuration_of (open_of h)).grips (configuration_of (open_of t)).grips (held_in (open_of h)) d r k a view wrote last h.order.line between.line h.order.table between.table
    access (read_whole h whole) strong (whole.shown.configuration.ordered strong).order for.grip below new gripped (record {
      view_is = noted.view_is;
      wrote_is =
          noted.wrote_is ∙ wrote_is w n r (command_at w.runs r k) a grip.task value (progress_at h.checkouts.known.items d).held suited for.does (noted.value_is
          ∙ ap (λ b. if b then (progress_at h.checkouts.known.items d).held else value_after grip.task (progress_at h.checkouts.known.items d).held) answered.lives);
      last_is =
          noted.last_is ∙ (λ i. is_doomed (read_in (new i)) (answered.same i).maker
          || not (pends (new i).setting (read_in (new i)) (answered.same i).maker (answered.same i).device.0))
          ∙ ap (λ x. is_doomed x r || not (pends w x r d)) (read_more w h.history.history r (Did (run_no r) k a)) ∙ done_after w n r k a d for.next for.on;
    }) noted.line (subst (λ (z : Slip). between.table ≡ with_lineage h.order.table z.device.0 (noted_first z.maker (is_first z.maker (lineage_at h.order.table z.device.0)) view wrote last)) answered.same (noted.table strong)) whole.order))
  where
    w : Setting
    w = h.history.setting

    n : Reading
    n = read_in h.history

    d : ℕ
    d = grip.slip.device.0

    r : ℕ
    r = grip.slip.maker

    access : is_access a ≡ true
    access = ap is_access answered.told ∙ told_access grip.stage.told

    new : mid ≡ with_entry h.history r (Did (run_no r) k a)
    new = answered.answered ∙ ap (λ (z : Slip). with_entry h.history z.maker (Did (run_no z.maker) k a)) answered.same

    doomed : t.history ≡ with_doom mid r cause
    doomed = answered.doomed ∙ ap (λ (z : Slip). with_doom mid z.maker cause) answered.same

    for : IsForCommand (open_of h) grip.slip grip.task k
    for = for_command _ (open_of h) grip.slip grip.task k whole.shown returned.there returned.purpose

    below : d < length h.history.setting.first
    below = (returned_for h (Commands k) grip returned whole).below

    may : may_follow w n (Did (run_no r) k a) ≡ true
    may = first_follows h.history mid t.history r (Did (run_no r) k a) cause new doomed formed

    suited : suits w n r (command_at w.runs r k) a ≡ true
    suited = fourth (may_act w n r) (k == next_of n r) (nat_lt k (length (commands_of w.runs r))) (suits w n r (command_at w.runs r k) a) ((n.run r).answered_doomed) may

-- a command came back: what is kept is kept
pub answered_whole : {D : Type 0} {shows : D → Shown} (h t : Inside D) (value k : ℕ) (grip : Gripped D Done) (slip : Slip) (a : Answer) (cause : Option Cause) (mid : HistoryState) (view : View) (wrote : Option ℕ) (last : Bool) (between : OrderState)
    → IsReturned shows h (Commands k) grip → IsHome h t grip → IsAnswered h grip k slip a cause mid t.history → IsNoted h t grip value slip a cause mid view wrote last between → IsWhole shows h → IsWhole shows t
answered_whole h t value k grip slip a cause mid view wrote last between returned home answered noted whole =
    came_whole h t (Commands k) grip (answer_entries slip.maker k a cause) (answered_back h t k grip slip a cause mid returned home answered)
    (λ formed gripped. order_came h t value k grip slip a cause mid view wrote last between returned home answered noted formed gripped whole) whole

-- .. and an undo
pub undone_whole : {D : Type 0} {shows : D → Shown} (h t : Inside D) (v : ℕ) (grip : Gripped D Done) (slip : Slip) → IsReturned shows h (Undoes v) grip → IsHome h t grip → slip ≡ grip.slip → has_died grip.stage.told ≡ false
    → t.history ≡ with_entry h.history slip.maker (Undid (run_no slip.maker) slip.device true) → t.order ≡ h.order → IsWhole shows h → IsWhole shows t
undone_whole h t v grip slip returned home same lives new order whole =
    came_whole h t (Undoes v) grip (Undid (run_no slip.maker) slip.device true ∷ []) (undone_back h t v grip slip returned home same lives new)
    (λ formed gripped. subst (λ (o : OrderState). OrderIsBeside h.rounds t.history (configuration_of (open_of t)).grips o.line o.table) (sym order)
    (order_undone h.history t.history (configuration_of (open_of h)).grips (configuration_of (open_of t)).grips grip.slip.maker grip.slip.device.0 v h.order.line h.order.table
    (new ∙ ap (λ (y : Slip). with_entry h.history y.maker (Undid (run_no y.maker) y.device true)) same) (returned_for h (Undoes v) grip returned whole).grip gripped whole.order)) whole
