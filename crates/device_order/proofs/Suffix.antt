-- What stands behind an open run, and behind an event that is put in.
use Rattle.device_order.proofs.Prelude.{Bool, Event, List, Occurred, OrderEntry, Usage, UsageFits, Used, WalkHolds, WalkState, [], after_usage, ap, arith, awaits_first, common_steps, false, has_used_device, if◌then◌else◌, is_calm, is_command_out, is_restart, not, refl, stage_is_open, subst, sym, true, walk_end, with_event, ◌&&◌, ◌||◌, ◌∙◌, ◌∷◌, ◌≡◌}
use Rattle.device_order.proofs.Quiet.{quiet, untouched, quiet_fits, quiet_next}

abbrev pub blocks : WalkState → Bool
blocks s = s.opened || is_command_out s.out

-- behind an open run or a command that is out nothing is touched, and so nothing happens but events
pub record Idle (s e : WalkState) : Type 0 where
  pub value : e.value ≡ s.value
  pub stand : e.stand ≡ s.stand
  pub settled : e.settled ≡ s.settled
  pub undoing : e.undoing ≡ s.undoing
  pub spanned : e.spanned ≡ s.spanned
  pub exposed : e.exposed ≡ s.exposed
  pub out : e.out ≡ s.out

pub record Blocked (s t : WalkState) (b : List OrderEntry) : Type 0 where
  pub walk : WalkHolds t b
  pub idle : Idle s (walk_end s b)
  pub idle' : Idle t (walk_end t b)
  pub up : (walk_end t b).up ≡ (walk_end s b).up

pub blocked : (s t : WalkState) (b : List OrderEntry) → blocks s ≡ true → t.up ≡ s.up → (t.waiting ≡ true → s.waiting ≡ true) → WalkHolds s b → Blocked s t b
unfolding WalkHolds walk_end
blocked s t [] h u w k = record {
  walk = tt;
  idle = record { value = refl; stand = refl; settled = refl; undoing = refl; spanned = refl; exposed = refl; out = refl };
  idle' = record { value = refl; stand = refl; settled = refl; undoing = refl; spanned = refl; exposed = refl; out = refl };
  up = u;
}
blocked s t (Occurred e ∷ b) h u w k =
    let i = blocked (record s { up = is_restart e }) (record t { up = is_restart e }) b h refl w k.1 in
    record { walk = (record { turns = u ∙ k.0.turns; none_waits = turn_waiting s t w k.0.none_waits }, i.walk); idle = carry s (is_restart e) (walk_end (record s { up = is_restart e }) b) i.idle; idle' = carry t (is_restart e) (walk_end (record t { up = is_restart e }) b) i.idle'; up = i.up }
  where
    turn_waiting : (s t : WalkState) → (t.waiting ≡ true → s.waiting ≡ true) → s.waiting ≡ false → t.waiting ≡ false
    turn_waiting s t w h = grind (arith, common_steps)

    carry : (s : WalkState) (e : Bool) (z : WalkState) → Idle (record s { up = e }) z → Idle s z
    carry s e z i = record { value = i.value; stand = i.stand; settled = i.settled; undoing = i.undoing; spanned = i.spanned; exposed = i.exposed; out = i.out }
blocked s t (Used c ∷ b) h u w k =
    let q = quiet s c k.0 (untouched s c k.0 h) in
    let S : WalkState = record s { opened = s.opened || stage_is_open c.stage; waiting = s.waiting || awaits_first c } in
    let T : WalkState = record t { opened = t.opened || stage_is_open c.stage; waiting = t.waiting || awaits_first c } in
    let es : after_usage s c ≡ S = quiet_next s c q in
    let et : after_usage t c ≡ T = quiet_next t c q in
    let i : Blocked S T b = blocked S T b (still s c h) u (later s t c w) (subst (λ x. WalkHolds x b) es k.1) in
    record {
      walk = (quiet_fits s t c k.0 q, subst (λ x. WalkHolds x b) (sym et) i.walk);
      idle = subst (λ x. Idle s (walk_end x b)) (sym es) (carry s S (walk_end S b) i.idle refl refl refl refl refl refl refl);
      idle' = subst (λ x. Idle t (walk_end x b)) (sym et) (carry t T (walk_end T b) i.idle' refl refl refl refl refl refl refl);
      up = ap (λ x. (walk_end x b).up) et ∙ i.up ∙ ap (λ x. (walk_end x b).up) (sym es);
    }
  where
    still : (s : WalkState) (c : Usage) → (s.opened || is_command_out s.out) ≡ true → ((s.opened || stage_is_open c.stage) || is_command_out s.out) ≡ true
    still s c h = grind (arith, common_steps)

    later : (s t : WalkState) (c : Usage) → (t.waiting ≡ true → s.waiting ≡ true) → (t.waiting || awaits_first c) ≡ true → (s.waiting || awaits_first c) ≡ true
    later s t c w h = grind (arith, common_steps)

    carry : (s S z : WalkState) → Idle S z → S.value ≡ s.value → S.stand ≡ s.stand → S.settled ≡ s.settled → S.undoing ≡ s.undoing → S.spanned ≡ s.spanned → S.exposed ≡ s.exposed → S.out ≡ s.out → Idle s z
    carry s S z i a b c d e f g = record { value = i.value ∙ a; stand = i.stand ∙ b; settled = i.settled ∙ c; undoing = i.undoing ∙ d; spanned = i.spanned ∙ e; exposed = i.exposed ∙ f; out = i.out ∙ g }

-- behind an open run without a view stands no event either: whether the device is up is all the same to what stands there
pub record Blind (s : WalkState) (e : Bool) (b : List OrderEntry) : Type 0 where
  pub walk : WalkHolds (record s { up = e }) b
  pub ends : walk_end (record s { up = e }) b ≡ record (walk_end s b) { up = e }
  pub up : (walk_end s b).up ≡ s.up

pub blind : (s : WalkState) (e : Bool) (b : List OrderEntry) → s.opened ≡ true → s.waiting ≡ true → WalkHolds s b → Blind s e b
unfolding WalkHolds walk_end
blind s e [] o w k = record { walk = tt; ends = refl; up = refl }
blind s e (Occurred x ∷ b) o w k = absurd (clash s w k.0.none_waits)
  where
    clash : (s : WalkState) → s.waiting ≡ true → s.waiting ≡ false → ⊥
    clash s w h = grind (arith, common_steps)
blind s e (Used c ∷ b) o w k =
    let i = blind (after_usage s c) e b (more s c o) (more' s c w) k.1 in
    record { walk = (quiet_fits s (record s { up = e }) c k.0 (quiet s c k.0 (untouched s c k.0 (blocking s o))), i.walk); ends = i.ends; up = i.up }
  where
    more : (s : WalkState) (c : Usage) → s.opened ≡ true → (s.opened || stage_is_open c.stage) ≡ true
    more s c h = grind (arith, common_steps)

    more' : (s : WalkState) (c : Usage) → s.waiting ≡ true → (s.waiting || awaits_first c) ≡ true
    more' s c h = grind (arith, common_steps)

    blocking : (s : WalkState) → s.opened ≡ true → (s.opened || is_command_out s.out) ≡ true
    blocking s h = grind (arith, common_steps)

-- an event goes in where it applies, and leaves all else
pub record Came (s : WalkState) (e : Event) (l : List OrderEntry) : Type 0 where
  pub walk : WalkHolds s (with_event e l)
  pub ends : walk_end s (with_event e l) ≡ record (walk_end s l) { up = is_restart e }

pub came : (s : WalkState) (e : Event) (l : List OrderEntry) → s.waiting ≡ false → (walk_end s l).up ≡ not (is_restart e) → WalkHolds s l → Came s e l
unfolding WalkHolds walk_end with_event
came s e [] w u k = record { walk = (record { turns = u; none_waits = w }, tt); ends = refl }
came s e (Occurred x ∷ b) w u k = let i = came (record s { up = is_restart x }) e b w u k.1 in record { walk = (k.0, i.walk); ends = i.ends }
came s e (Used c ∷ b) w u k = at (λ h. came (after_usage s c) e b (waiting' s c w h) u k.1) (awaits_first c) refl
  where
    waiting : (s : WalkState) (c : Usage) → awaits_first c ≡ true → (s.waiting || awaits_first c) ≡ true
    waiting s c h = grind (arith, common_steps)

    waiting' : (s : WalkState) (c : Usage) → s.waiting ≡ false → awaits_first c ≡ false → (s.waiting || awaits_first c) ≡ false
    waiting' s c h g = grind (arith, common_steps)

    opening : (s : WalkState) (c : Usage) → awaits_first c ≡ true → (s.opened || stage_is_open c.stage) ≡ true
    opening s c h = grind (arith, common_steps)

    fits : (s : WalkState) (e : Event) (c : Usage) → awaits_first c ≡ true → UsageFits s c → UsageFits (record s { up = is_restart e }) c
    fits s e c h f = grind (arith, common_steps)

    at : (awaits_first c ≡ false → Came (after_usage s c) e b) → (x : Bool) → awaits_first c ≡ x → Came s e (Used c ∷ b)
    at ih true h =
        let i = blind (after_usage s c) (is_restart e) b (opening s c h) (waiting s c h) k.1 in
        let P : Bool → Type 0 = λ x. WalkHolds s (if x then (Occurred e ∷ Used c ∷ b) else (Used c ∷ with_event e b)) in
        let Q : Bool → Type 0 = λ x. walk_end s (if x then (Occurred e ∷ Used c ∷ b) else (Used c ∷ with_event e b)) ≡ record (walk_end s (Used c ∷ b)) { up = is_restart e } in
        record {
          walk = subst P (sym h) (record { turns = sym i.up ∙ u; none_waits = w }, (fits s e c h k.0, i.walk));
          ends = subst Q (sym h) i.ends;
        }
    at ih false h =
        let i = ih h in
        let P : Bool → Type 0 = λ x. WalkHolds s (if x then (Occurred e ∷ Used c ∷ b) else (Used c ∷ with_event e b)) in
        let Q : Bool → Type 0 = λ x. walk_end s (if x then (Occurred e ∷ Used c ∷ b) else (Used c ∷ with_event e b)) ≡ record (walk_end s (Used c ∷ b)) { up = is_restart e } in
        record {
          walk = subst P (sym h) (k.0, i.walk);
          ends = subst Q (sym h) i.ends;
        }

-- where nothing is touched and no event stands, nothing happens
pub record Calm (s : WalkState) (b : List OrderEntry) : Type 0 where
  pub walk : WalkHolds s b
  pub idle : Idle s (walk_end s b)
  pub up : (walk_end s b).up ≡ s.up

pub calm : (o s : WalkState) (b : List OrderEntry) → is_calm b ≡ true → WalkHolds o b → Calm s b
unfolding WalkHolds walk_end is_calm
calm o s [] h k = record { walk = tt; idle = record { value = refl; stand = refl; settled = refl; undoing = refl; spanned = refl; exposed = refl; out = refl }; up = refl }
calm o s (Occurred e ∷ b) h k = absurd (no h)
  where
    no : false ≡ true → ⊥
    no h = grind (arith, common_steps)
calm o s (Used c ∷ b) h k =
    let p = parts (has_used_device c) (is_calm b) h in
    let q = quiet o c k.0 p.0 in
    let S : WalkState = record s { opened = s.opened || stage_is_open c.stage; waiting = s.waiting || awaits_first c } in
    let es : after_usage s c ≡ S = quiet_next s c q in
    let i : Calm S b = calm (after_usage o c) S b p.1 k.1 in
    record {
      walk = (quiet_fits o s c k.0 q, subst (λ x. WalkHolds x b) (sym es) i.walk);
      idle = subst (λ x. Idle s (walk_end x b)) (sym es) (record { value = i.idle.value; stand = i.idle.stand; settled = i.idle.settled; undoing = i.idle.undoing; spanned = i.idle.spanned; exposed = i.idle.exposed; out = i.idle.out });
      up = ap (λ x. (walk_end x b).up) es ∙ i.up;
    }
  where
    parts : (x y : Bool) → (not x && y) ≡ true → (x ≡ false) × (y ≡ true)
    parts x y h = grind (arith, common_steps)
