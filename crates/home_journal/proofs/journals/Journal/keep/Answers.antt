use Rattle.home_journal.proofs.Keeping.{IsNextState, keeps_first, keeps_next, knows_next}
use Rattle.slot_disks.proofs.Cited.{weaker}
use Rattle.home_journal.proofs.journals.Journal.keep.Goals as goal
use Rattle.home_journal.proofs.Prelude.{All, IsOldOrAll, IsStateOf, JournalState, KeepsFirst, KnowsKept, LeavesFirst, LeavesOnly, List, Ok, Stand, [], ap, arith, body_size, kept_states, last_kept, length, open_slots, state_bytes, states_kept, subst, sym, true, with_slot, ◌*◌, ◌++◌, ◌+◌, ◌<◌, ◌^◌, ◌∙◌, ◌∷◌, ◌≡◌}

pub invariant_of-result : goal.invariant_of-result
invariant_of-result g c =
    let inv = c.self.invariant in
    let is = c.self.view_is in
    let kinds = c.self.inside.kinds.value.items in
    let size = c.self.inside.layout.size in
    let most = c.self.inside.layout.most in
    let count = c.self.inside.count in
    let seen = g.Q.Disk.seen c.self.inside.disk in
    let home = c.args.world.now.devices.items in
    let e = c.as_slice-home.ensures in
    let next : count < most = subst (λ (s : JournalState _). s.kept < s.most) (sym is) c.requires.next in
    let of_kinds : IsStateOf kinds home = subst (λ (s : JournalState _). IsStateOf s.kinds home) (sym is) c.requires.home in
    let small = subst (All (λ s. s.value < 2 ^ 32)) e c.write_slot.ensures.small in
    let copied = c.copy_state.ensures ∙ e in
    record {
      sized = inv.sized;
      devices = inv.devices;
      windows = inv.windows;
      few = omega (arith, next);
      roomy = c.write_slot.ensures.room;
      blank = ap length copied ∙ of_kinds.devices;
      of_kinds = λ some. subst (λ h. IsStateOf kinds h) (sym copied) of_kinds;
      settled = λ told. c.in-Ok.ensures.settled told;
      knows = λ told.
          let state : IsNextState kinds size most count seen home = record { sized = inv.sized; devices = inv.devices; windows = inv.windows; next = next; of_kinds = of_kinds; small = small; counts = (inv.settled told).counts } in
          let same = c.in-Ok.ensures.kept told ∙ ap (λ h. open_slots size most seen ++ state_bytes (count + 1) h ∷ []) e in
          subst (λ h. KnowsKept kinds most (g.Q.Disk.seen c.write_slot.new.disk) (count + 1) (last_kept (count + 1) h)) (sym copied)
          (knows_next kinds size most count seen (g.Q.Disk.seen c.write_slot.new.disk) home state _ (inv.knows told) same);
    }

pub returns-in-Ok-clause-kept : goal.returns-in-Ok-clause-kept
returns-in-Ok-clause-kept g c =
    let inv = c.self.invariant in
    let is = c.self.view_is in
    let kinds = c.self.inside.kinds.value.items in
    let size = c.self.inside.layout.size in
    let most = c.self.inside.layout.most in
    let count = c.self.inside.count in
    let seen = g.Q.Disk.seen c.self.inside.disk in
    let home = c.args.world.now.devices.items in
    let e = c.as_slice-home.ensures in
    let next : count < most = subst (λ (s : JournalState _). s.kept < s.most) (sym is) c.requires.next in
    let of_kinds : IsStateOf kinds home = subst (λ (s : JournalState _). IsStateOf s.kinds home) (sym is) c.requires.home in
    let small = subst (All (λ s. s.value < 2 ^ 32)) e c.write_slot.ensures.small in
    subst (λ (s : JournalState _). g.Q.Disk.told ≡ true → (homes : List (List Stand)) → states_kept g.Q.Disk.seen s ≡ Ok homes → kept_states kinds most (g.Q.Disk.seen c.write_slot.new.disk) ≡ Ok (homes ++ home ∷ [])) is
    (λ told homes kept.
    let state : IsNextState kinds size most count seen home = record { sized = inv.sized; devices = inv.devices; windows = inv.windows; next = next; of_kinds = of_kinds; small = small; counts = (inv.settled told).counts } in
    let same = c.in-Ok.ensures.kept told ∙ ap (λ h. open_slots size most seen ++ state_bytes (count + 1) h ∷ []) e in
    keeps_next kinds size most count seen home state homes kept (g.Q.Disk.seen c.write_slot.new.disk) same)

pub returns-in-Ok-clause-any_moment : goal.returns-in-Ok-clause-any_moment
returns-in-Ok-clause-any_moment g c =
    let inv = c.self.invariant in
    let is = c.self.view_is in
    let kinds = c.self.inside.kinds.value.items in
    let size = c.self.inside.layout.size in
    let most = c.self.inside.layout.most in
    let count = c.self.inside.count in
    let old = c.self.inside.disk in
    let new = c.write_slot.new.disk in
    let seen = g.Q.Disk.seen old in
    let home = c.args.world.now.devices.items in
    let e = c.as_slice-home.ensures in
    let next : count < most = subst (λ (s : JournalState _). s.kept < s.most) (sym is) c.requires.next in
    let of_kinds : IsStateOf kinds home = subst (λ (s : JournalState _). IsStateOf s.kinds home) (sym is) c.requires.home in
    let small = subst (All (λ s. s.value < 2 ^ 32)) e c.write_slot.ensures.small in
    subst (λ (s : JournalState _). g.Q.Disk.told ≡ true → LeavesFirst g.Q.Disk.seen g.Q.Disk.moment g.Q.Disk.images_since s new (home ∷ [])) is
    (λ told homes kept.
    let state : IsNextState kinds size most count seen home = record { sized = inv.sized; devices = inv.devices; windows = inv.windows; next = next; of_kinds = of_kinds; small = small; counts = (inv.settled told).counts } in
    let run = subst (λ h. LeavesOnly g.Q.Disk.moment g.Q.Disk.images_since old new (IsOldOrAll size most (open_slots size most seen) (state_bytes (count + 1) h ∷ []))) e (c.write_slot.ensures.any_moment told) in
    weaker g.Q.Disk.moment g.Q.Disk.images_since old new _ (KeepsFirst kinds most homes (home ∷ [])) (λ d step. keeps_first kinds size most count seen home state homes kept d step) run)

pub returns-in-Err-clause-any_moment : goal.returns-in-Err-clause-any_moment
returns-in-Err-clause-any_moment g c =
    let inv = c.self.invariant in
    let is = c.self.view_is in
    let kinds = c.self.inside.kinds.value.items in
    let size = c.self.inside.layout.size in
    let most = c.self.inside.layout.most in
    let count = c.self.inside.count in
    let old = c.self.inside.disk in
    let new = c.write_slot.new.disk in
    let seen = g.Q.Disk.seen old in
    let home = c.args.world.now.devices.items in
    let e = c.as_slice-home.ensures in
    let next : count < most = subst (λ (s : JournalState _). s.kept < s.most) (sym is) c.requires.next in
    let of_kinds : IsStateOf kinds home = subst (λ (s : JournalState _). IsStateOf s.kinds home) (sym is) c.requires.home in
    let small = subst (All (λ s. s.value < 2 ^ 32)) e c.write_slot.ensures.small in
    subst (λ (s : JournalState _). g.Q.Disk.told ≡ true → LeavesFirst g.Q.Disk.seen g.Q.Disk.moment g.Q.Disk.images_since s new (home ∷ [])) is
    (λ told homes kept.
    let state : IsNextState kinds size most count seen home = record { sized = inv.sized; devices = inv.devices; windows = inv.windows; next = next; of_kinds = of_kinds; small = small; counts = (inv.settled told).counts } in
    let run = subst (λ h. LeavesOnly g.Q.Disk.moment g.Q.Disk.images_since old new (IsOldOrAll size most (open_slots size most seen) (state_bytes (count + 1) h ∷ []))) e (c.write_slot.ensures.any_moment told) in
    weaker g.Q.Disk.moment g.Q.Disk.images_since old new _ (KeepsFirst kinds most homes (home ∷ [])) (λ d step. keeps_first kinds size most count seen home state homes kept d step) run)

pub returns-in-Ok-clause-written : goal.returns-in-Ok-clause-written
returns-in-Ok-clause-written g c =
    let inv = c.self.invariant in
    let is = c.self.view_is in
    let kinds = c.self.inside.kinds.value.items in
    let count = c.self.inside.count in
    let new = g.Q.Disk.seen c.write_slot.new.disk in
    let seen = g.Q.Disk.seen c.self.inside.disk in
    let home = c.args.world.now.devices.items in
    let e = c.as_slice-home.ensures in
    subst (λ (s : JournalState _). g.Q.Disk.told ≡ true → new ≡ with_slot (s.kept * (body_size (length s.kinds) + 1)) (state_bytes (s.kept + 1) home) (g.Q.Disk.seen s.disk)) is
    (λ told.
    c.in-Ok.ensures.written told
    ∙ ap (λ n. with_slot (count * (n + 1)) (state_bytes (count + 1) c.as_slice-home.result.now) seen) inv.sized
    ∙ ap (λ h. with_slot (count * (body_size (length kinds) + 1)) (state_bytes (count + 1) h) seen) e)
