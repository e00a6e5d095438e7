-- A day under way, and one window more.
use Rattle.hub_commands.proofs.Prelude.{AreLeftFrom, AreNew, Bool, DayCourse, HasGoneOn, HaveCommitted, HomeIsKept, HomeState, IsLegalCutDayFrom, IsLegalDayFrom, IsUnderWayOn, List, Mode, NoneHasFailedOn, Script, Setting, Shown, Some, WindowRecord, WindowText, WindowWay, WindowsArePlayedOn, [], ap, arith, at_place, false, inl, inr, kinds_of, length, length-map, map, new_course, new_day, one_more_where, option_map, refl, script_of, script_runs, setting_from, setting_on, slice_get, slice_get_within, slice_index_or, snoc_get, start_home, start_stand, state_from, subst, suc, sym, total, true, unwrap_or, zero, ℕ, ◌++◌, ◌+◌, ◌<◌, ◌∙◌, ◌∷◌, ◌≡◌, ◌≤◌}
use Rattle.home_types.specs.HomeStates.{stand_at}
use Rattle.legal_days.specs.LegalWindows.{IsLegalWindow}
use Rattle.hub_commands.proofs.PlayedWindows.{IsPlayed, device_played, setting_played, size_played}
use Rattle.hub_commands.proofs.Snocs.{length_more, sum_more}
use Rattle.window_devices.proofs.Cited.{get_front, get_last}
use Rattle.routine_reader.specs.declared.scripts.DeviceText.{DeviceText}
use Rattle.hub_core.specs.HubCalls.{NoneFails, RunsHaveEnded}

-- a window more leaves the states before it
state_before : (course : DayCourse) (records : List WindowRecord) (closed : WindowRecord) (k : ℕ) → k ≤ length records → state_from course.begins (records ++ closed ∷ []) k ≡ state_from course.begins records k
state_before course records closed zero within = refl
state_before course records closed (suc k) within = ap (λ o. unwrap_or (option_map (λ c. c.last.devices.items) o) []) (get_front records closed k (omega (arith, within)))

-- the state after it is its last one
state_last : (course : DayCourse) (records : List WindowRecord) (closed : WindowRecord) → state_from course.begins (records ++ closed ∷ []) (length (records ++ closed ∷ [])) ≡ closed.last.devices.items
state_last course records closed =
    ap (λ n. state_from course.begins (records ++ closed ∷ []) n) (length_more records closed)
    ∙ ap (λ o. unwrap_or (option_map (λ c. c.last.devices.items) o) []) (get_last records closed)

setting_before : (course : DayCourse) (mode : Mode) (records : List WindowRecord) (closed : WindowRecord) (k : ℕ) → k ≤ length records → setting_from course.begins mode (records ++ closed ∷ []) k ≡ setting_from course.begins mode records k
setting_before course mode records closed k within = ap (λ f. record { runs = script_runs (script_of course) k; mode = mode; kinds = kinds_of course.begins.script; first = f }) (state_before course records closed k within)

-- what holds of each record in its setting holds of one more
each_more : (P : Setting → ℕ → WindowRecord → Type 0) (course : DayCourse) (mode : Mode) (records : List WindowRecord) (closed : WindowRecord)
    → ((k : ℕ) (c : WindowRecord) → slice_get records k ≡ Some c → P (setting_from course.begins mode records k) k c)
    → P (setting_from course.begins mode records (length records)) (length records) closed
    → (k : ℕ) (c : WindowRecord) → slice_get (records ++ closed ∷ []) k ≡ Some c → P (setting_from course.begins mode (records ++ closed ∷ []) k) k c
each_more P course mode records closed each last k c at = elim (snoc_get records closed c k at) [
  | inl old ↦ subst (λ w. P w k c) (sym (setting_before course mode records closed k (let within = slice_get_within records k c old in omega (arith, within)))) (each k c old)
  | inr new ↦ (let here : P (setting_from course.begins mode (records ++ closed ∷ []) (length records)) (length records) closed =
      subst (λ w. P w (length records) closed) (sym (setting_before course mode records closed (length records) (omega (arith)))) last in
      let Q : ℕ × WindowRecord → Type 0 = λ q. P (setting_from course.begins mode (records ++ closed ∷ []) q.0) q.0 q.1 in
      subst Q (λ i. (sym new.0 i, new.1 i)) here)
]

-- the setting on the home as it is
setting_here : {D : Type 0} (course : DayCourse) (mode : Mode) (records : List WindowRecord) (home : HomeState D) → home.kinds ≡ kinds_of course.begins.script → home.world ≡ state_from course.begins records (length records)
    → setting_on (script_of course) mode (length records) home ≡ setting_from course.begins mode records (length records)
setting_here course mode records home kinds world = λ i. record { runs = script_runs (script_of course) (length records); mode = mode; kinds = kinds i; first = world i }

-- the faults of the windows with one more are those before it and its own
more_faults : (records : List WindowRecord) (closed : WindowRecord) (d : ℕ)
    → total (λ c. c.faults.items) (records ++ closed ∷ []) d ≡ total (λ c. c.faults.items) records d + slice_index_or closed.faults.items d 0
more_faults records closed d = sum_more (λ c. slice_index_or c.faults.items d 0) records closed

-- one more, where it is so, and some besides
one_more_plus : (b : Bool) (m n : ℕ) → one_more_where b m + n ≡ one_more_where b (m + n)
one_more_plus false m n = refl
one_more_plus true m n = omega (arith)

-- no more, where it is not so, and none
none_of : (b : Bool) (n : ℕ) → one_more_where b n ≡ 0 → (b ≡ false) × (n ≡ 0)
none_of false n is = (refl, is)
none_of true n is = absurd (omega (arith, is))

none_again : (b : Bool) (n : ℕ) → b ≡ false → n ≡ 0 → one_more_where b n ≡ 0
none_again false n not is = is
none_again true n not is = absurd (cc)

none_before : (course : DayCourse) (records : List WindowRecord) (closed : WindowRecord) → NoneHasFailedOn course (records ++ closed ∷ []) → NoneHasFailedOn course records
none_before course records closed none d inside =
    let all = more_faults records closed d in
    let is = none_of (course.down d) (total (λ c. c.faults.items) (records ++ closed ∷ []) d) (none d inside) in
    none_again (course.down d) (total (λ c. c.faults.items) records d) is.0 (omega (arith, all, is.1))

-- where no device has failed, each was up as the window was opened, and none fails in it
none_fails : {D : Type 0} (works : WindowWay) (shows : D → Shown) (course : DayCourse) (mode : Mode) (home : HomeState D) (records : List WindowRecord) (closed : WindowRecord)
    → IsUnderWayOn works shows course mode home records → NoneHasFailedOn course (records ++ closed ∷ [])
    → NoneFails (setting_on (script_of course) mode (length records) home) closed.faults.items
none_fails works shows course mode home records closed day none = record {
  up = day.up (none_before course records closed none);
  steady = λ d inside. let size = day.size in let all = more_faults records closed d in let is = none_of (course.down d) (total (λ c. c.faults.items) (records ++ closed ∷ []) d) (none d (omega (arith, inside, size))) in omega (arith, all, is.1);
}

-- the windows with one more
windows_more : {D : Type 0} (works : WindowWay) (shows : D → Shown) (course : DayCourse) (mode : Mode) (before after : HomeState D) (records : List WindowRecord) (closed : WindowRecord)
    → (day : IsUnderWayOn works shows course mode before records) → (is : IsPlayed works shows (script_of course) mode (length records) before after closed)
    → WindowsArePlayedOn works course mode (records ++ closed ∷ []) (day.takes ++ is.worked.taken ∷ [])
windows_more works shows course mode before after records closed day is = record {
  count = let within = slice_get_within (script_of course).windows.items (length records) is.window is.opens.at in omega (arith, within, length_more records closed);
  legal = each_more (λ w k c. IsLegalWindow w c) course mode records closed day.played.legal (subst (λ w. IsLegalWindow w closed) (setting_played is ∙ here) is.worked.legal);
  worked = record {
    count = omega (arith, length_more records closed, length_more day.takes is.worked.taken, day.played.worked.count);
    each = λ k window c taken window_at at taken_at. each_worked k window c taken window_at at taken_at;
  };
  ends = each_more (λ w k c. RunsHaveEnded w c) course mode records closed day.played.ends (subst (λ w. RunsHaveEnded w closed) here ended);
  commits = λ served none. each_more (λ w k c. HaveCommitted w c) course mode records closed (day.played.commits served (none_before course records closed none))
      (subst (λ w. HaveCommitted w closed) here (ended.commits served (none_fails works shows course mode before records closed day none)));
}
  where
    here : setting_on (script_of course) mode (length records) before ≡ setting_from course.begins mode records (length records)
    here = setting_here course mode records before day.kinds day.world

    ended : RunsHaveEnded (setting_on (script_of course) mode (length records) before) closed
    ended = subst (λ w. RunsHaveEnded w closed) (setting_played is) is.worked.ends

    each_worked : (k : ℕ) (window : WindowText) (c : WindowRecord) (taken : ℕ → ℕ) → slice_get (script_of course).windows.items k ≡ Some window → slice_get (records ++ closed ∷ []) k ≡ Some c → slice_get (day.takes ++ is.worked.taken ∷ []) k ≡ Some taken
        → works (setting_from course.begins mode (records ++ closed ∷ []) k) window c taken
    each_worked k window c taken window_at at taken_at = elim (snoc_get records closed c k at) [
      | inl old ↦ (let within = slice_get_within records k c old in
          let taken_old : slice_get day.takes k ≡ Some taken = sym (get_front day.takes is.worked.taken k (omega (arith, within, day.played.worked.count))) ∙ taken_at in
          subst (λ w. works w window c taken) (sym (setting_before course mode records closed k (omega (arith, within)))) (day.played.worked.each k window c taken window_at old taken_old))
      | inr new ↦ (let taken_last : Some is.worked.taken ≡ Some taken = sym (get_last day.takes is.worked.taken) ∙ ap (λ n. slice_get (day.takes ++ is.worked.taken ∷ []) n) (day.played.worked.count ∙ sym new.0) ∙ taken_at in
          let window_last : Some is.window ≡ Some window = sym is.opens.at ∙ ap (λ n. slice_get (script_of course).windows.items n) (sym new.0) ∙ window_at in
          let same_taken : is.worked.taken ≡ taken = cc in
          let same_window : is.window ≡ window = cc in
          let here_too : works (setting_from course.begins mode (records ++ closed ∷ []) (length records)) is.window closed is.worked.taken =
          subst (λ w. works w is.window closed is.worked.taken) (setting_played is ∙ here ∙ sym (setting_before course mode records closed (length records) (omega (arith)))) is.worked.way in
          let Q : ℕ × WindowText × WindowRecord × (ℕ → ℕ) → Type 0 = λ q. works (setting_from course.begins mode (records ++ closed ∷ []) q.0) q.1 q.2 q.3 in
          subst Q (λ i. (sym new.0 i, same_window i, new.1 i, same_taken i)) here_too)
    ]

-- one window more
goes_on : {D : Type 0} (works : WindowWay) (shows : D → Shown) (course : DayCourse) (mode : Mode) (before after : HomeState D) (records : List WindowRecord) (closed : WindowRecord)
    → IsUnderWayOn works shows course mode before records → HomeIsKept shows after
    → IsPlayed works shows (script_of course) mode (length records) before after closed
    → IsUnderWayOn works shows course mode after (records ++ closed ∷ [])
goes_on {D = D} works shows course mode before after records closed day kept is = record {
  takes = day.takes ++ is.worked.taken ∷ [];
  played = windows_more works shows course mode before after records closed day is;
  left = record {
    size = size_played is ∙ day.left.size;
    own = λ d y text at text_at. let x = device_before d y at in let on = device_played is d x.0 y x.1 at in let own = day.left.own d x.0 text x.1 text_at in
        record { tag_is = on.same_tag ∙ own.tag_is; plan_is = λ p told. own.plan_is p (sym on.same_plan ∙ told) };
    stand = rw (state_last course records closed, sym is.worked.after.last) kept.stand;
    turns_are = λ d y at. let x = device_before d y at in (device_played is d x.0 y x.1 at).turns_rose ∙ ap (λ n. n + slice_index_or closed.turns.items d 0) (day.left.turns_are d x.0 x.1)
        ∙ one_more_plus (course.begins.called d) (total (λ c. c.turns.items) records d) (slice_index_or closed.turns.items d 0) ∙ ap (one_more_where (course.begins.called d)) (sym (sum_more (λ c. slice_index_or c.turns.items d 0) records closed));
    faults_are = λ d y at. let x = device_before d y at in (device_played is d x.0 y x.1 at).faults_rose ∙ ap (λ n. n + slice_index_or closed.faults.items d 0) (day.left.faults_are d x.0 x.1)
        ∙ one_more_plus (course.begins.failed d) (total (λ c. c.faults.items) records d) (slice_index_or closed.faults.items d 0) ∙ ap (one_more_where (course.begins.failed d)) (sym (sum_more (λ c. slice_index_or c.faults.items d 0) records closed));
  };
  probed = λ d y at. let x = device_before d y at in (device_played is d x.0 y x.1 at).probes_rose ∙ ap (λ n. n + is.worked.taken d) (day.probed d x.0 x.1) ∙ sym (sum_more (λ taken. taken d) day.takes is.worked.taken);
  kinds = is.worked.after.kinds ∙ ap (λ w. w.kinds) (setting_played is) ∙ day.kinds;
  world = is.worked.after.last ∙ sym (state_last course records closed);
  size = let homed = kept.size in let same = size_played is in let all = day.left.size in omega (arith, homed, same, all);
  up = λ none. is.worked.after.up (subst (λ w. NoneFails w closed.faults.items) (sym (setting_played is)) (none_fails works shows course mode before records closed day none));
  opened = let n = length_more records closed in omega (arith, n, is.worked.after.opened, is.opens.opened.windows, day.opened);
}
  where
    device_before : (d : ℕ) (y : D) → slice_get after.devices d ≡ Some y → (x : D) × (slice_get before.devices d ≡ Some x)
    device_before d y at = at_place before.devices d (let within = slice_get_within after.devices d y at in omega (arith, within, size_played is))

-- no window is played yet
pub no_window : (works : WindowWay) (course : DayCourse) (mode : Mode) → WindowsArePlayedOn works course mode [] []
no_window works course mode = record { count = omega (arith); legal = λ k c at. absurd (cc); worked = record { count = refl; each = λ k w c taken w_at at taken_at. absurd (cc) }; ends = λ k c at. absurd (cc); commits = λ served none k c at. absurd (cc) }

-- where a device starts
start_at : (texts : List DeviceText) (d : ℕ) (text : DeviceText) → slice_get texts d ≡ Some text → stand_at (map start_stand texts) d ≡ start_stand text
start_at [] d text at = absurd (cc)
start_at (t ∷ texts) zero text at = let same : t ≡ text = cc in ap start_stand same
start_at (t ∷ texts) (suc d) text at = start_at texts d text at

-- new devices are those of a day that begins
module _ {D : Type 0} (shows : D → Shown) (script : Script) (devices : List D) (are : AreNew shows script.devices.items devices) where
  text_of : (d : ℕ) (device : D) → slice_get devices d ≡ Some device → (text : DeviceText) × (slice_get script.devices.items d ≡ Some text)
  text_of d device at = at_place script.devices.items d (let within = slice_get_within devices d device at in omega (arith, within, are.size))

  pub new_left : AreLeftFrom shows (new_day script) [] devices
  new_left = record {
    size = are.size;
    own = λ d device text at text_at. (are.each d device text at text_at).own;
    stand = λ d device at up. let t = text_of d device at in (are.each d device t.0 at t.1).at_start ∙ sym (ap (λ s. s.value) (start_at script.devices.items d t.0 t.1));
    turns_are = λ d device at. let t = text_of d device at in (are.each d device t.0 at t.1).no_turns;
    faults_are = λ d device at. let t = text_of d device at in (are.each d device t.0 at t.1).no_faults;
  }

  pub new_unprobed : (d : ℕ) (device : D) → slice_get devices d ≡ Some device → (shows device).probes ≡ 0
  new_unprobed d device at = let t = text_of d device at in (are.each d device t.0 at t.1).no_probes

-- a home in which a course begins has played no window
pub starts_on : {D : Type 0} (works : WindowWay) (shows : D → Shown) (course : DayCourse) (mode : Mode) (home : HomeState D)
    → AreLeftFrom shows course.begins [] home.devices → ((d : ℕ) (device : D) → slice_get home.devices d ≡ Some device → (shows device).probes ≡ 0)
    → home.kinds ≡ kinds_of course.begins.script → home.world ≡ course.begins.first → length home.world ≡ length course.begins.script.devices.items → home.opened ≡ 0
    → ((d : ℕ) → d < length home.world → course.down d ≡ false → (stand_at course.begins.first d).up ≡ true)
    → IsUnderWayOn works shows course mode home []
starts_on works shows course mode home left unprobed kinds world size opened ups = record {
  takes = [];
  played = no_window works course mode;
  left = left;
  probed = unprobed;
  kinds = kinds;
  world = world;
  size = size;
  up = λ none d inside. let is = none_of (course.down d) 0 (none d (omega (arith, inside, size))) in ap (λ w. (stand_at w d).up) world ∙ ups d inside is.0;
  opened = opened;
}

-- a home of new devices has played no window
pub starts : {D : Type 0} (works : WindowWay) (shows : D → Shown) (script : Script) (mode : Mode) (home : HomeState D)
    → AreNew shows script.devices.items home.devices → home.kinds ≡ kinds_of script → home.world ≡ start_home script → home.opened ≡ 0
    → IsUnderWayOn works shows (new_course script) mode home []
starts works shows script mode home are kinds world opened =
    starts_on works shows (new_course script) mode home
    (new_left shows script home.devices are) (new_unprobed shows script home.devices are) kinds world sized opened
    (λ d inside up. let t = at_place script.devices.items d (omega (arith, inside, sized)) in ap (λ s. s.up) (start_at script.devices.items d t.0 t.1))
  where
    sized : length home.world ≡ length script.devices.items
    sized = ap (λ w. length w) world ∙ length-map script.devices.items start_stand

-- its last window left the home as it is
pub last_state : {D : Type 0} (works : WindowWay) (shows : D → Shown) (course : DayCourse) (mode : Mode) (home : HomeState D) (records more : List WindowRecord) (closed : WindowRecord)
    → IsUnderWayOn works shows course mode home more → more ≡ records ++ closed ∷ [] → home.world ≡ closed.last.devices.items
last_state works shows course mode home records more closed day all =
    day.world ∙ ap (λ rs. state_from course.begins rs (length rs)) all ∙ state_last course records closed

-- a day whose windows were all played is legal
pub day_is_legal : {D : Type 0} (works : WindowWay) (shows : D → Shown) (course : DayCourse) (mode : Mode) (home : HomeState D) (records : List WindowRecord)
    → IsUnderWayOn works shows course mode home records → length records ≡ length (script_of course).windows.items
    → IsLegalDayFrom shows course.begins mode records home.devices
day_is_legal works shows course mode home records day all = record { count = all; legal = day.played.legal; left = day.left }

-- a day that was cut short too
pub cut_is_legal : {D : Type 0} (works : WindowWay) (shows : D → Shown) (course : DayCourse) (mode : Mode) (home : HomeState D) (records : List WindowRecord)
    → IsUnderWayOn works shows course mode home records → IsLegalCutDayFrom shows course.begins mode records home.devices
cut_is_legal works shows course mode home records day = record { count = day.played.count; legal = day.played.legal; left = day.left }

-- the windows of a day under way with one window more
pub gone_on : {D : Type 0} (works : WindowWay) (shows : D → Shown) (course : DayCourse) (mode : Mode) (before after : HomeState D) (records more : List WindowRecord)
    (closed : WindowRecord)
    → IsUnderWayOn works shows course mode before records → HomeIsKept shows after
    → IsPlayed works shows (script_of course) mode (length records) before after closed → more ≡ records ++ closed ∷ []
    → HasGoneOn works shows course mode records after more
gone_on works shows course mode before after records more closed day kept is all = record {
  closed = closed;
  more = all;
  under_way = subst (λ rs. IsUnderWayOn works shows course mode after rs) (sym all)
      (goes_on works shows course mode before after records closed day kept is);
}
