-- A home behind kept states: where a day begins on it.
use Rattle.hub_commands.proofs.Prelude.{AreLeftFrom, AreNew, Beginning, Bool, Err, HomeBegins, HomeGoesOn, HomeState, IfOk, IsStateOf, IsUnderWayOn, List, Mode, None, Ok, Option, Result, Script, Shown, Some, Stand, WindowWay, [], ap, course_behind, false, if◌then◌else◌, kept_course, kinds_of, length, length-map, new_day, refl, slice_get, start_home, start_stand, subst, sym, true, ℕ, ◌∙◌, ◌≡◌}
use Rattle.hub_commands.proofs.DaysUnderWay.{new_left, new_unprobed, starts_on}
use Rattle.legal_days.specs.ResumedDays.{GoesOnBehind, IsStateResumed, resumed_day}

-- the home was resumed in the last state
pub resumed_home : {D : Type 0} (shows : D → Shown) (script : Script) (kept : ℕ) (last : Option (List Stand)) (state : List Stand) (home : HomeState D)
    → Some state ≡ last → IsStateOf (kinds_of script) state → home.kinds ≡ kinds_of script → home.opened ≡ 0 → IsStateResumed state home.world
    → AreLeftFrom shows (resumed_day script kept state home.world) [] home.devices
    → ((d : ℕ) (device : D) → slice_get home.devices d ≡ Some device → (shows device).probes ≡ 0)
    → HomeGoesOn shows script kept last home
resumed_home shows script kept last state home is values kinds opened resumed left unprobed = record {
  begins = begins;
  goes_on = subst (λ l. GoesOnBehind script kept l begins) is (home.world, resumed, refl);
  home_begins = record {
    left = left;
    unprobed = unprobed;
    kinds = kinds;
    world = refl;
    size = resumed.size ∙ values.devices ∙ length-map script.devices.items (λ t. t.kind);
    opened = opened;
  };
}
  where
    begins : Beginning
    begins = resumed_day script kept state home.world

-- it was built anew
pub built_home : {D : Type 0} (shows : D → Shown) (script : Script) (kept : ℕ) (last : Option (List Stand)) (home : HomeState D)
    → None ≡ last → AreNew shows script.devices.items home.devices → home.kinds ≡ kinds_of script → home.world ≡ start_home script → home.opened ≡ 0
    → HomeGoesOn shows script kept last home
built_home shows script kept last home none are kinds world opened = record {
  begins = new_day script;
  goes_on = subst (λ l. GoesOnBehind script kept l (new_day script)) none refl;
  home_begins = record {
    left = new_left shows script home.devices are;
    unprobed = new_unprobed shows script home.devices are;
    kinds = kinds;
    world = world;
    size = ap (λ w. length w) world ∙ length-map script.devices.items start_stand;
    opened = opened;
  };
}

-- whether or not it could be had
pub resumed_or_none : {D E : Type 0} (shows : D → Shown) (script : Script) (kept : ℕ) (last : Option (List Stand)) (state : List Stand) (result : Result (HomeState D) E)
    → Some state ≡ last → IsStateOf (kinds_of script) state → IfOk result (λ home. home.kinds ≡ kinds_of script) → IfOk result (λ home. home.opened ≡ 0) → IfOk result (λ home. IsStateResumed state home.world)
    → ((k : ℕ) → IfOk result (λ home. AreLeftFrom shows (resumed_day script k state home.world) [] home.devices))
    → IfOk result (λ home. (d : ℕ) (device : D) → slice_get home.devices d ≡ Some device → (shows device).probes ≡ 0)
    → IfOk result (λ home. HomeGoesOn shows script kept last home)
resumed_or_none shows script kept last state (Ok home) is values kinds opened resumed left unprobed =
    resumed_home shows script kept last state home is values kinds opened resumed (left kept) unprobed
resumed_or_none shows script kept last state (Err e) is values kinds opened resumed left unprobed = tt

pub built_or_none : {D E : Type 0} (shows : D → Shown) (script : Script) (kept : ℕ) (last : Option (List Stand)) (result : Result (HomeState D) E)
    → None ≡ last → IfOk result (λ home. AreNew shows script.devices.items home.devices) → IfOk result (λ home. home.kinds ≡ kinds_of script)
    → IfOk result (λ home. home.world ≡ start_home script) → IfOk result (λ home. home.opened ≡ 0)
    → IfOk result (λ home. HomeGoesOn shows script kept last home)
built_or_none shows script kept last (Ok home) none are kinds world opened = built_home shows script kept last home none are kinds world opened
built_or_none shows script kept last (Err e) none are kinds world opened = tt

up_there : (b : Bool) → (if b then false else true) ≡ false → b ≡ true
up_there true is = refl
up_there false is = absurd (cc)

-- the day has played no window there
pub begins_under_way : {D : Type 0} (works : WindowWay) (shows : D → Shown) (kept : ℕ) (begins : Beginning) (mode : Mode) (home : HomeState D)
    → HomeBegins shows begins home → IsUnderWayOn works shows (kept_course kept begins) mode home []
begins_under_way works shows kept begins mode home is =
    starts_on works shows (kept_course kept begins) mode home is.left is.unprobed is.kinds is.world is.size is.opened (λ d inside. up_there _)

-- a day can always begin there, whether or not the home could be had
pub some_beginning : (script : Script) (kept : ℕ) (last : Option (List Stand)) → (begins : Beginning) × GoesOnBehind script kept last begins
some_beginning script kept None = (new_day script, refl)
some_beginning script kept (Some state) = (
  resumed_day script kept state state,
  (state, record { size = refl; each = λ d inside. record { value = refl; down = λ down. down } }, refl),
)

-- it is behind so many windows of the script
pub same_course : (script : Script) (kept : ℕ) (last : Option (List Stand)) (begins : Beginning) → (last ≡ None → kept ≡ 0) → GoesOnBehind script kept last begins → course_behind script kept (kept_course kept begins) ≡ kept_course kept begins
same_course script kept None begins none is =
    let zero_kept : 0 ≡ kept = sym (none refl) in
    subst (λ b. course_behind script kept (kept_course kept b) ≡ kept_course kept b) (sym is)
    (subst (λ k. course_behind script k (kept_course k (new_day script)) ≡ kept_course k (new_day script)) zero_kept refl)
same_course script kept (Some state) begins none is =
    subst (λ b. course_behind script kept (kept_course kept b) ≡ kept_course kept b) (sym is.2) refl
