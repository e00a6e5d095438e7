-- A walk of which less is seen than of another one.
use Rattle.device_order.proofs.Prelude.{Bool, List, Occurred, OrderEntry, Some, Usage, UsageFits, Used, WalkHolds, WalkState, [], after_usage, ap, arith, awaits_first, common_steps, false, grip_out_after, has_committed_write, has_uncommitted_write, is_command_out, is_home, is_restart, is_some, not, refl, spans_up, stage_is_open, subst, sym, true, walk_end, ℕ, ◌&&◌, ◌||◌, ◌∙◌, ◌∷◌, ◌≡◌}

-- what fits behind s fits behind t. Where a write is exposed, the value may differ: no read stands behind it before a committed write
pub record Below (s t : WalkState) : Type 0 where
  pub up : t.up ≡ s.up
  pub value : s.exposed ≡ false → t.value ≡ s.value
  pub opened : t.opened ≡ true → s.opened ≡ true
  pub waiting : t.waiting ≡ true → s.waiting ≡ true
  pub spanned : t.spanned ≡ true → s.spanned ≡ true
  pub exposed : t.exposed ≡ true → s.exposed ≡ true
  pub out : t.out ≡ s.out

below_fits : (s t : WalkState) (c : Usage) → Below s t → UsageFits s c → UsageFits t c
below_fits s t c r f = record {
  read_up = f.read_up;
  wrote_up = f.wrote_up;
  why_up = f.why_up;
  undid = f.undid;
  after_open = λ h. lower s.opened t.opened r.opened (f.after_open h);
  after_command = λ h. subst (λ o. is_command_out o ≡ false) (sym r.out) (f.after_command h);
  view = λ d e. f.view d e ∙ sym r.up;
  read = λ d x e. f.read d x e ∙ sym (r.value (f.covered (some_of c x e)));
  covered = λ h. lower s.exposed t.exposed r.exposed (f.covered h);
  alone = λ h. subst (λ o. is_home o ≡ true) (sym r.out) (f.alone h);
  grip = f.grip;
}
  where
    lower : (a b : Bool) → (b ≡ true → a ≡ true) → a ≡ false → b ≡ false
    lower a b f h = grind (arith, common_steps)

    some_of : (c : Usage) (x : ℕ) → c.read ≡ Some x → is_some c.read ≡ true
    some_of c x e = grind (arith, common_steps)

below_value : (s t : WalkState) (c : Usage) → Below s t → (after_usage s c).exposed ≡ false → (after_usage t c).value ≡ (after_usage s c).value
below_value s t c r h = grind (arith, common_steps)

below_next : (s t : WalkState) (c : Usage) → Below s t → Below (after_usage s c) (after_usage t c)
below_next s t c r = record {
  up = r.up;
  value = below_value s t c r;
  opened = λ h. lower_or s.opened t.opened (stage_is_open c.stage) r.opened h;
  waiting = λ h. lower_or s.waiting t.waiting (awaits_first c) r.waiting h;
  spanned = λ h. lower_or s.spanned t.spanned (spans_up c) r.spanned h;
  exposed = λ h. lower_and (has_committed_write c) s.exposed t.exposed (has_uncommitted_write c) r.exposed h;
  out = ap (grip_out_after c.grip (not (is_some c.wrote))) r.out;
}
  where
    lower_or : (a b x : Bool) → (b ≡ true → a ≡ true) → (b || x) ≡ true → (a || x) ≡ true
    lower_or a b x f h = grind (arith, common_steps)

    lower_and : (z a b x : Bool) → (b ≡ true → a ≡ true) → (not z && (b || x)) ≡ true → (not z && (a || x)) ≡ true
    lower_and z a b x f h = grind (arith, common_steps)

pub record Under (s t : WalkState) (b : List OrderEntry) : Type 0 where
  pub walk : WalkHolds t b
  pub ends : Below (walk_end s b) (walk_end t b)

pub under : (s t : WalkState) (b : List OrderEntry) → Below s t → WalkHolds s b → Under s t b
unfolding WalkHolds walk_end
under s t [] r k = record { walk = tt; ends = r }
under s t (Occurred e ∷ b) r k =
    let i = under (record s { up = is_restart e }) (record t { up = is_restart e }) b (turn s t (is_restart e) r) k.1 in
    record { walk = (record { turns = r.up ∙ k.0.turns; none_waits = waits' s t r k.0.none_waits }, i.walk); ends = i.ends }
  where
    turn : (s t : WalkState) (e : Bool) → Below s t → Below (record s { up = e }) (record t { up = e })
    turn s t e r = record { up = refl; value = r.value; opened = r.opened; waiting = r.waiting; spanned = r.spanned; exposed = r.exposed; out = r.out }

    waits' : (s t : WalkState) → Below s t → s.waiting ≡ false → t.waiting ≡ false
    waits' s t r h = grind (arith, common_steps)
under s t (Used c ∷ b) r k =
    let i = under (after_usage s c) (after_usage t c) b (below_next s t c r) k.1 in
    record { walk = (below_fits s t c r k.0, i.walk); ends = i.ends }
