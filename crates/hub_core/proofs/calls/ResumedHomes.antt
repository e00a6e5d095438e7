-- A home that is resumed: its devices so far, one more, and what is true of all.
use Rattle.hub_core.proofs.Prelude.{Bool, HomeIsKept, Kind, List, Shown, Some, Stand, [], ap, arith, at_place, false, get_or, get_or_from_slice_get, has_value, if◌then◌else◌, inl, inr, kind_at, length, length-map, map, nowhere, refl, slice_get, slice_get_within, stand_at, subst, sym, true, ℕ, ◌*◌, ◌++◌, ◌+◌, ◌<◌, ◌^◌, ◌∙◌, ◌∷◌, ◌≡◌, ◌≤◌}
use Rattle.home_journal.specs.Journals.{IsStateOf}
use Rattle.home_types.proofs.Cited.{snoc_get}
use Rattle.legal_days.specs.LegalDays.{AreLeftFrom, IsDeviceOf, one_more_where}
use Rattle.legal_days.specs.ResumedDays.{AreResumed, IsDeviceResumed, IsStateResumed, has_died_resuming, resumed_day}
use Rattle.routine_reader.specs.Rosters.{kinds_of}
use Rattle.routine_reader.specs.Scripts.{plain_device, plain_script}
use Rattle.routine_reader.specs.Sound.{IsSound}
use Rattle.routine_reader.specs.declared.scripts.DeviceText.{DeviceText}
use Rattle.routine_reader.specs.declared.scripts.Script.{Script}
use Rattle.std.proofs.lemmas.List.{length-append}

-- no device is resumed yet
pub resumed_none : {D : Type 0} (shows : D → Shown) (texts : List DeviceText) (before : List Stand) → AreResumed shows texts before 0 [] []
resumed_none shows texts before = record { size = refl; stands_size = refl; each = λ d device text stand at text_at now_at. absurd (cc) }

-- one more
pub resumed_more : {D : Type 0} (shows : D → Shown) (texts : List DeviceText) (before : List Stand) (n : ℕ) (now : List Stand) (devices : List D) (text : DeviceText) (stand : Stand) (device : D)
    → AreResumed shows texts before n now devices → n < length texts → text ≡ get_or texts n text → IsDeviceResumed shows text n (stand_at before n) stand device
    → AreResumed shows texts before (n + 1) (now ++ stand ∷ []) (devices ++ device ∷ [])
resumed_more {D = D} shows texts before n now devices text stand device are within at is = record {
  size = omega (arith, are.size, length-append devices (device ∷ []));
  stands_size = omega (arith, are.stands_size, length-append now (stand ∷ []));
  each = λ d y t s y_at t_at s_at. elim (snoc_get devices device y d y_at) [
    | inl y_old ↦ elim (snoc_get now stand s d s_at) [
      | inl s_old ↦ are.each d y t s y_old t_at s_old
      | inr s_last ↦ absurd (let inside = slice_get_within devices d y y_old in omega (arith, inside, s_last.0, are.size, are.stands_size))
    ]
    | inr y_last ↦ elim (snoc_get now stand s d s_at) [
      | inl s_old ↦ absurd (let inside = slice_get_within now d s s_old in omega (arith, inside, y_last.0, are.size, are.stands_size))
      | inr s_last ↦ (let here : n ≡ d = omega (arith, y_last.0, are.size) in
          let its : text ≡ t = at ∙ get_or_from_slice_get texts n t text (ap (λ k. slice_get texts k) here ∙ t_at) in
          let P : DeviceText × ℕ × Stand × D → Type 0 = λ q. IsDeviceResumed shows q.0 q.1 (stand_at before q.1) q.2 q.3 in
          subst P (λ i. (its i, here i, s_last.1 i, y_last.1 i)) is)
    ]
  ];
}

-- one call, or none
counted_once : (b : Bool) → (if b then 1 else 0) ≡ one_more_where b 0
counted_once true = refl
counted_once false = refl

low_once : (b : Bool) (n : ℕ) → n ≡ (if b then 1 else 0) → n ≤ 0 * 2 ^ 17 + 1
low_once true n is = omega (arith, is)
low_once false n is = omega (arith, is)

module _ {D : Type 0} (shows : D → Shown) (script : Script) (before now : List Stand) (devices : List D)
    (values : IsStateOf (kinds_of script) before) (are : AreResumed shows script.devices.items before (length script.devices.items) now devices) where
  abbrev texts : List DeviceText
  texts = script.devices.items

  same_size : length before ≡ length texts
  same_size = values.devices ∙ length-map texts (λ t. t.kind)

  -- the device of a number, with where it stood and stands
  of_number : (d : ℕ) (device : D) → slice_get devices d ≡ Some device
      → (text : DeviceText) × (slice_get texts d ≡ Some text) × IsDeviceResumed shows text d (stand_at before d) (stand_at now d) device
  of_number d device at =
      let inside = slice_get_within devices d device at in
      let text = at_place texts d (omega (arith, inside, are.size)) in
      let stand = at_place now d (omega (arith, inside, are.size, are.stands_size)) in
      (text.0, text.1, subst (λ s. IsDeviceResumed shows text.0 d (stand_at before d) s device) (sym (get_or_from_slice_get now d stand.0 nowhere stand.1)) (are.each d device text.0 stand.0 at text.1 stand.1))

  pub state_resumed : IsStateResumed before now
  state_resumed = record {
    size = are.stands_size ∙ sym same_size;
    each = λ d lt. let device = at_place devices d (omega (arith, lt, same_size, are.size)) in let is = of_number d device.0 device.1 in is.2.as_told;
  }

  pub left_resumed : (k : ℕ) → AreLeftFrom shows (resumed_day script k before now) [] devices
  left_resumed k = record {
    size = are.size;
    own = λ d device text at text_at. let is = of_number d device at in
        let its : is.0 ≡ text = (let both : Some is.0 ≡ Some text = sym is.1 ∙ text_at in cc) in
        subst (λ t. IsDeviceOf shows t d device) its is.2.own;
    stand = λ d device at up. let is = of_number d device at in is.2.stand up;
    turns_are = λ d device at. let is = of_number d device at in is.2.turns_are ∙ counted_once (stand_at now d).up;
    faults_are = λ d device at. let is = of_number d device at in is.2.faults_are ∙ counted_once (has_died_resuming (stand_at before d) (stand_at now d));
  }

  pub driven_once : (d : ℕ) (device : D) → slice_get devices d ≡ Some device → (shows device).drives ≡ (if (stand_at now d).up then 1 else 0)
  driven_once d device at = let is = of_number d device at in is.2.drives_are

  pub never_probed : (d : ℕ) (device : D) → slice_get devices d ≡ Some device → (shows device).probes ≡ 0
  never_probed d device at = let is = of_number d device at in is.2.no_probes

  pub kept_resumed : (kinds : List Kind) → IsSound (plain_script script) → kinds ≡ kinds_of script → HomeIsKept shows (record { kinds = kinds; world = now; devices = devices; opened = 0 })
  kept_resumed kinds sound kinds_are = record {
    numbered = λ d device at. let is = of_number d device at in is.2.own.tag_is;
    kinds = ap (λ l. length l) kinds_are ∙ length-map texts (λ t. t.kind) ∙ sym are.stands_size;
    size = are.size ∙ sym are.stands_size;
    few = let said = sound.few_devices in let same : length (map plain_device texts) ≡ length texts = length-map texts plain_device in omega (arith, said, same, are.stands_size);
    opened = omega arith;
    values = λ d lt. let told = values.values d (omega (arith, lt, are.stands_size, length-map texts (λ t. t.kind))) in
        let stand = state_resumed.each d (omega (arith, lt, are.stands_size, same_size)) in
        ap (λ v. has_value (kind_at kinds d) v) stand.value ∙ ap (λ ks. has_value (kind_at ks d) (stand_at before d).value) kinds_are ∙ told;
    stand = λ d device at up. let is = of_number d device at in is.2.stand up;
    counts = λ d device at. let is = of_number d device at in record {
      few_turns = low_once (stand_at now d).up (shows device).turns is.2.turns_are;
      few_probes = let none = is.2.no_probes in omega (arith, none);
      few_faults = low_once (has_died_resuming (stand_at before d) (stand_at now d)) (shows device).faults is.2.faults_are;
    };
  }
