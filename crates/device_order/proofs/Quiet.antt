-- A use that has not touched the device has done nothing there.
use Rattle.device_order.proofs.Prelude.{Free, HeldGrip, None, Option, Usage, UsageFits, View, WalkState, after_usage, arith, awaits_first, common_steps, false, has_used_device, holds_command, is_command_out, is_some, is_up, stage_is_open, true, ℕ, ◌||◌, ◌≡◌}

-- a run without an answer and without a command that is out has nothing
pub record Quiet (c : Usage) : Type 0 where
  pub view : c.view ≡ None
  pub read : c.read ≡ None
  pub wrote : c.wrote ≡ None
  pub grip : c.grip ≡ Free

quiet_view : (v : Option View) (g : HeldGrip) → (is_some v || holds_command g) ≡ false → v ≡ None
quiet_view v g h = grind (arith, common_steps)

quiet_part : (o : Option ℕ) (v : Option View) → (is_some o ≡ true → is_up v ≡ true) → v ≡ None → o ≡ None
quiet_part o v h e = grind (arith, common_steps)

quiet_grip : (s : WalkState) (c : Usage) → UsageFits s c → has_used_device c ≡ false → c.grip ≡ Free
quiet_grip s c f h = grind (arith, common_steps)

pub quiet : (s : WalkState) (c : Usage) → UsageFits s c → has_used_device c ≡ false → Quiet c
quiet s c f h =
    let v : c.view ≡ None = quiet_view c.view c.grip h in
    record {
      view = v;
      read = quiet_part c.read c.view f.read_up v;
      wrote = quiet_part c.wrote c.view f.wrote_up v;
      grip = quiet_grip s c f h;
    }

pub untouched : (s : WalkState) (c : Usage) → UsageFits s c → (s.opened || is_command_out s.out) ≡ true → has_used_device c ≡ false
untouched s c f h = grind (arith, common_steps)

pub quiet_fits : (s t : WalkState) (c : Usage) → UsageFits s c → Quiet c → UsageFits t c
quiet_fits s t c f q = grind (arith, common_steps)

pub quiet_next : (t : WalkState) (c : Usage) → Quiet c → after_usage t c ≡ record t { opened = t.opened || stage_is_open c.stage; waiting = t.waiting || awaits_first c }
quiet_next t c q = grind (arith, common_steps)
