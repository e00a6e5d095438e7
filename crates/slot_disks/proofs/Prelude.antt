-- What many proofs of this crate cite, passed on from one place.
pub use Rattle.slot_disks.specs.Disks.{Holds, LeavesOnly, LeavesThis, Torn}
pub use Rattle.slot_disks.specs.MemoryDisks.{CrashMayLeave, MemoryState, images_of}
pub use Rattle.slot_disks.specs.SlotFiles.{AreSlots, IsFound, IsGroup, IsOldOrAll, IsSettled, slots_of}
pub use Rattle.slot_disks.specs.Slots.{is_to_shut, open_slots, with_group, with_shut_gate}
pub use Rattle.slot_disks.specs.declared.slot_files.Found.{Found}
pub use Rattle.std.proofs.Common.{All, List, [], ap, append_assoc, arith, drop, false, get_or, inl, inr, length, length-append, length-drop, min, refl, subst, suc, suc-mul, sym, take, take-append-drop, true, true≢false, zero, ℕ, ⊎_elim, ◌*◌, ◌++◌, ◌+◌, ◌<◌, ◌∙◌, ◌∷◌, ◌≡◌, ◌≢◌, ◌≤◌, ◌⊎◌}
pub use Rattle.std.proofs.lemmas.Bool.Decides.{nat_tests}
pub use Rattle.std.proofs.lemmas.Grind.{common_steps}
pub use Rattle.std.proofs.lemmas.List.{append-nil, drop-take, drop_at, drop_more, length-take, length-take-le, take-take, take_all, take_at, take_more}
pub use Rattle.std.proofs.lemmas.List.Elements.{All-append}
pub use Rattle.std.proofs.lemmas.Nat.{mul-le}
pub use Rattle.std.specs.Prelude.{Bool, Err, None, Ok, OnOk, Option, Result, Some, if◌then◌else◌, nat_le, nat_lt, slice_get, ◌&&◌, ◌-◌, ◌==◌}
