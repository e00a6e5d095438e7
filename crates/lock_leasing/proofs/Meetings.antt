-- What a run meets at its next command, as parts that belong to one window tell it.
use Rattle.lock_leasing.proofs.Prelude.{Command, Configuration, IsAsking, IsAtCommand, IsLineageOf, IsStandingOf, IsTouchOf, List, None, RunNo, Some, WindowParts, [], accesses_at, ap, ap₂, arith, command_at, commands_of, dirty_writer, doom_is, eq-eqb, false, holder_before, is_on, is_open, is_ran, is_some, length, lineage_at, list_any, next_of, no_command, option_map, point_of, read_of, refl, slice_get, slice_index_or, subst, suc, sym, touch_by, touch_of, true, unwrap_or, zero, ℕ, ◌<◌, ◌∙◌, ◌∷◌, ◌≡◌}
use Rattle.lock_leasing.proofs.Facts.{facts_of, live_stands, next_is_left}
use Rattle.lock_leasing.proofs.Holding.{dirty_is, holder_is}
use Rattle.lock_leasing.specs.declared.touches.Touch.TheVariants.{Behind, Dirty, Free}

-- an item of a list, by its place
pub item_there : {A : Type 0} (xs : List A) (k : ℕ) (d : A) → k < length xs → slice_get xs k ≡ Some (slice_index_or xs k d)
item_there [] k d within = absurd (omega (arith, within))
item_there (x ∷ xs) zero d within = refl
item_there (x ∷ xs) (suc k) d within = item_there xs k d (omega (arith, within))

-- .. whatever stands for one that is not there
pub item_same : {A : Type 0} (xs ys : List A) (k : ℕ) (d e : A) → xs ≡ ys → k < length ys → slice_index_or xs k d ≡ slice_index_or ys k e
item_same {A} xs ys k d e same within = ap (λ l. slice_index_or l k d) same ∙ there ys k within
  where
    there : (zs : List A) (j : ℕ) → j < length zs → slice_index_or zs j d ≡ slice_index_or zs j e
    there [] j inside = absurd (omega (arith, inside))
    there (z ∷ zs) zero inside = refl
    there (z ∷ zs) (suc j) inside = there zs j (omega (arith, inside))

-- A run at a command asks for its device, and a run that asks for a device has more to do there

pub asks_at : (s : Configuration) (r c : ℕ) → IsAtCommand s r c → IsAsking s r (command_at s.setting.runs r c).device.0
asks_at s r c turn =
    let on : unwrap_or (option_map (is_on (command_at s.setting.runs r c).device.0) (slice_get (commands_of s.setting.runs r) c)) false ≡ true = ap
    (λ o. unwrap_or (option_map (is_on (command_at s.setting.runs r c).device.0) o) false) (item_there (commands_of s.setting.runs r) c no_command turn.command)
    ∙ eq-eqb (command_at s.setting.runs r c).device.0 (command_at s.setting.runs r c).device.0 refl in
    record { live = turn.live; sound = turn.sound; next = ap (λ k. unwrap_or (option_map (is_on (command_at s.setting.runs r c).device.0) (slice_get (commands_of s.setting.runs r) k)) false) turn.next ∙ on }

pub asking_opens : (s : Configuration) (r d : ℕ) → IsAsking s r d → is_open s.setting (read_of s) r d ≡ true
asking_opens s r d turn = let pending = next_is_left d (commands_of s.setting.runs r) (next_of (read_of s) r) turn.next in rw (turn.live, turn.sound, pending) refl

-- What it meets

module _ (s : Configuration) (parts : WindowParts) (r c : ℕ) (stands : IsStandingOf s parts) (turn : IsAtCommand s r c) where
  -- the command's device is one of the home
  homed_at : (command_at s.setting.runs r c).device.0 < length s.setting.first
  homed_at = stands.allowed.homed r c (command_at s.setting.runs r c) (item_there (commands_of s.setting.runs r) c no_command turn.command)

  lineage : IsLineageOf (point_of s) (command_at s.setting.runs r c).device.0 (lineage_at parts.table (command_at s.setting.runs r c).device.0)
  lineage = stands.its_table.each (command_at s.setting.runs r c).device.0 homed_at

  opened : is_open s.setting (read_of s) r (command_at s.setting.runs r c).device.0 ≡ true
  opened = asking_opens s r (command_at s.setting.runs r c).device.0 (asks_at s r c turn)

  among : list_any (is_ran r) (read_of s).line ≡ true
  among = let f = facts_of s parts stands in f.line.line r ∙ live_stands (read_of s) r turn.live

  met : touch_by (command_at s.setting.runs r c).device
      (option_map (λ q. q.0) (holder_before s.history r (accesses_at parts.table (command_at s.setting.runs r c).device.0)))
      (option_map (λ q. q.0) (dirty_writer (command_at s.setting.runs r c) r (accesses_at parts.table (command_at s.setting.runs r c).device.0)))
      ≡ touch_of (point_of s) r (command_at s.setting.runs r c)
  met =
      let f = facts_of s parts stands in
      ap₂ (touch_by (command_at s.setting.runs r c).device)
      (holder_is s.setting (read_of s) s.grips f (command_at s.setting.runs r c).device.0 s.history r (accesses_at parts.table (command_at s.setting.runs r c).device.0) (λ q. ap is_some (doom_is s.setting s.history q stands.well_formed)) opened lineage.runs lineage.each)
      (dirty_is s.setting (read_of s) s.grips f (command_at s.setting.runs r c) r (accesses_at parts.table (command_at s.setting.runs r c).device.0) opened among lineage.runs lineage.each)

-- what the parts tell is what the run meets
pub touch_is : (parts : WindowParts) (r c : ℕ)
    → IsTouchOf parts r c (touch_by (command_at parts.runs r c).device
    (option_map (λ q. q.0) (holder_before parts.history r (accesses_at parts.table (command_at parts.runs r c).device.0)))
    (option_map (λ q. q.0) (dirty_writer (command_at parts.runs r c) r (accesses_at parts.table (command_at parts.runs r c).device.0))))
touch_is parts r c s stands turn =
    subst (λ hs. touch_by (command_at parts.runs r c).device (option_map (λ q. q.0) (holder_before hs r (accesses_at parts.table (command_at parts.runs r c).device.0)))
    (option_map (λ q. q.0) (dirty_writer (command_at parts.runs r c) r (accesses_at parts.table (command_at parts.runs r c).device.0)))
    ≡ touch_of (point_of s) r (command_at parts.runs r c)) stands.its_history
    (subst (λ rs. touch_by (command_at rs r c).device (option_map (λ q. q.0) (holder_before s.history r (accesses_at parts.table (command_at rs r c).device.0)))
    (option_map (λ q. q.0) (dirty_writer (command_at rs r c) r (accesses_at parts.table (command_at rs r c).device.0)))
    ≡ touch_of (point_of s) r (command_at rs r c)) stands.its_roster (met s parts r c stands turn))

-- the three answers

pub met_holder : (parts : WindowParts) (r c : ℕ) (command : Command) (x : RunNo) → command ≡ command_at parts.runs r c
    → Some x ≡ holder_before parts.history r (accesses_at parts.table command.device.0) → IsTouchOf parts r c (Behind command.device x)
met_holder parts r c command x same held s stands turn =
    subst (λ y. Some x ≡ holder_before parts.history r (accesses_at parts.table y.device.0) → Behind y.device x ≡ touch_of (point_of s) r (command_at parts.runs r c)) (sym same)
    (λ h. ap (λ o. touch_by (command_at parts.runs r c).device (option_map (λ q. q.0) o) (option_map (λ q. q.0) (dirty_writer (command_at parts.runs r c) r (accesses_at parts.table (command_at parts.runs r c).device.0)))) h ∙ touch_is parts r c s stands turn) held

pub met_writer : (parts : WindowParts) (r c : ℕ) (command : Command) (x : RunNo) → command ≡ command_at parts.runs r c
    → None ≡ holder_before parts.history r (accesses_at parts.table command.device.0) → Some x ≡ dirty_writer command r (accesses_at parts.table command.device.0) → IsTouchOf parts r c (Dirty command.device x)
met_writer parts r c command x same none wrote s stands turn =
    subst (λ y. None ≡ holder_before parts.history r (accesses_at parts.table y.device.0) → Some x ≡ dirty_writer y r (accesses_at parts.table y.device.0) → Dirty y.device x ≡ touch_of (point_of s) r (command_at parts.runs r c)) (sym same)
    (λ h k. ap₂ (λ o q. touch_by (command_at parts.runs r c).device (option_map (λ z. z.0) o) (option_map (λ z. z.0) q)) h k ∙ touch_is parts r c s stands turn) none wrote

pub met_none : (parts : WindowParts) (r c : ℕ) (command : Command) → command ≡ command_at parts.runs r c
    → None ≡ holder_before parts.history r (accesses_at parts.table command.device.0) → None ≡ dirty_writer command r (accesses_at parts.table command.device.0) → IsTouchOf parts r c Free
met_none parts r c command same none unwritten s stands turn =
    subst (λ y. None ≡ holder_before parts.history r (accesses_at parts.table y.device.0) → None ≡ dirty_writer y r (accesses_at parts.table y.device.0) → Free ≡ touch_of (point_of s) r (command_at parts.runs r c)) (sym same)
    (λ h k. ap₂ (λ o q. touch_by (command_at parts.runs r c).device (option_map (λ z. z.0) o) (option_map (λ z. z.0) q)) h k ∙ touch_is parts r c s stands turn) none unwritten

-- A run that may do its command
