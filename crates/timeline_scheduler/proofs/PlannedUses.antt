-- For how long a run whose commands follow one another uses each device, command after command.
use Rattle.timeline_scheduler.proofs.Prelude.{Bool, Command, Item, List, None, Option, Planned, Reading, Setting, Some, [], ap, commands_of, false, find, fold, greatest, if◌then◌else◌, is_on, list_any, list_any-append, max, min, option_map, plan_more, planned_again, planned_times, planned_use, refl, sym, touches, true, unwrap_or, ℕ, ◌++◌, ◌+◌, ◌==◌, ◌||◌, ◌∙◌, ◌∷◌, ◌≡◌}
use Rattle.history_book.specs.declared.planned_uses.PlannedUse.{PlannedUse}
use Rattle.std.proofs.Math.Bool.{or-false}

-- the use of the device behind these, where it is this one before them
abbrev pub use_from : ℕ → Option PlannedUse → List Planned → Option PlannedUse
use_from d used planned = fold (λ u p. if p.device == d then Some (planned_again u p.from p.to) else u) used planned

abbrev pub end_from : ℕ → ℕ → List Planned → ℕ
end_from d end planned = fold (λ t p. if p.device == d then p.to else t) end planned

-- one that is used already keeps its start
used_from : (d from to : ℕ) (planned : List Planned) → use_from d (Some (record { from = from; to = to })) planned ≡ Some (record { from = from; to = end_from d to planned })
used_from d from to [] = refl
used_from d from to (p ∷ ps) = by_device (p.device == d) (used_from d from p.to ps) (used_from d from to ps)
  where
    by_device : (b : Bool) → use_from d (Some (record { from = from; to = p.to })) ps ≡ Some (record { from = from; to = end_from d p.to ps }) → use_from d (Some (record { from = from; to = to })) ps ≡ Some (record { from = from; to = end_from d to ps })
        → use_from d (if b then Some (record { from = from; to = p.to }) else Some (record { from = from; to = to })) ps ≡ Some (record { from = from; to = end_from d (if b then p.to else to) ps })
    by_device true here there = here
    by_device false here there = there

-- one that is not used yet is used as the whole plan says
pub use_is : (d : ℕ) (planned : List Planned) → use_from d None planned ≡ planned_use planned d
use_is d [] = refl
use_is d (p ∷ ps) = by_device (p.device == d) (use_is d ps)
  where
    by_device : (b : Bool) → use_from d None ps ≡ planned_use ps d
        → use_from d (if b then Some (record { from = p.from; to = p.to }) else None) ps
        ≡ (if (b || list_any (λ x. x.device == d) ps) then Some (record { from = unwrap_or (option_map (λ x. x.from) (if b then Some p else find (λ x. x.device == d) ps)) 0; to = end_from d (if b then p.to else 0) ps }) else None)
    by_device true rest = used_from d p.from p.to ps
    by_device false rest = rest

-- planning commands adds times on their devices
timed_devices : (free : ℕ → ℕ) (d clock : ℕ) (planned : List Planned) (cs : List Command) → list_any (λ p. p.device == d) (fold (plan_more free) (record { clock = clock; planned = planned }) cs).planned ≡ (list_any (λ p. p.device == d) planned || list_any (is_on d) cs)
timed_devices free d clock planned [] = sym (or-false (list_any (λ p. p.device == d) planned))
timed_devices free d clock planned (c ∷ cs) =
    timed_devices free d (min (max clock (free c.device.0) + c.ms) greatest) (planned ++ record { device = c.device.0; from = max clock (free c.device.0); to = min (max clock (free c.device.0) + c.ms) greatest } ∷ []) cs
    ∙ ap (λ b. b || list_any (is_on d) cs) (list_any-append (λ p. p.device == d) planned (record { device = c.device.0; from = max clock (free c.device.0); to = min (max clock (free c.device.0) + c.ms) greatest } ∷ []))
    ∙ in_between (list_any (λ p. p.device == d) planned) (c.device.0 == d) (list_any (is_on d) cs)
  where
    in_between : (x y z : Bool) → ((x || (y || false)) || z) ≡ (x || (y || z))
    in_between true y z = refl
    in_between false true z = refl
    in_between false false z = refl

-- the plan of a run is on its devices
pub planned_devices : (w : Setting) (n : Reading) (r : ℕ) (front : List Item) (m d : ℕ) → list_any (λ p. p.device == d) (planned_times w n r front m) ≡ touches w.runs r d
planned_devices w n r front m d = timed_devices _ d m [] (commands_of w.runs r)
