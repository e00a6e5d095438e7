-- What runs write, and what an undo drives: values of their devices' kinds.
use Rattle.hub_core.proofs.Prelude.{Answer, Arrived, Back, Bool, Command, Did, Doomed, Down, Ended, Entry, Failed, Fell, Fine, Found, Grips, IsTrue, IsWellFormed, Item, Kind, List, None, OfRun, OnDevice, Option, Placed, Point, Ran, Reading, Rose, Setting, Skipped, Some, Undid, Write, [], along, answered, ap, arith, both, command_at, commands_of, common_steps, driven, entry, false, fold, has_value, if◌then◌else◌, is_device, is_some, is_undone, is_weak, kind_at, last_some, last_some_of, length, map_some, may_follow, names_values_of, nat_lt, nearest, no_command, nothing_read, option_map, put, put_all, reading, refl, run_no, slice_get, slice_index_or, stand_at, standing_value, subst, suc, sym, true, unwrap_or, value_without, without, write_of, writes, zero, ℕ, ◌&&◌, ◌∙◌, ◌∷◌, ◌≡◌}
use Rattle.home_types.specs.declared.commands.Job.TheVariants.{Check, Load, Set, Store}
use Rattle.home_types.specs.declared.commands.Job.{Job}
use Rattle.home_types.specs.declared.kinds.Kind.TheVariants.{Range, States}

-- a kind that has some value has the nearest one to any
pub nearest_has : (kind : Kind) (held v : ℕ) → IsTrue (has_value kind held) → IsTrue (has_value kind (nearest kind v))
nearest_has (States n) held v has = grind (arith, common_steps)
nearest_has (Range low high) held v has = grind (arith, common_steps)

-- a write that names values of a kind which has some drives one of them
driven_has : (kind : Kind) (job : Job) (register held : ℕ) → writes job ≡ true → IsTrue (names_values_of kind job) → IsTrue (has_value kind held) → has_value kind (driven kind job register) ≡ true
driven_has kind (Set v) register held writing named has = named
driven_has kind (Check v) register held writing named has = absurd (cc)
driven_has kind Load register held writing named has = absurd (cc)
driven_has kind Store register held writing named has = nearest_has kind held register has

-- commands name values of their devices, and each device stands at one of its own at the start
pub record ValuesFit (w : Setting) : Type 0 where
  pub homed : (r k : ℕ) (c : Command) → slice_get (commands_of w.runs r) k ≡ Some c → IsTrue (is_device w c.device.0 && names_values_of (kind_at w.kinds c.device.0) c.job)
  pub first : (d : ℕ) → is_device w d ≡ true → IsTrue (has_value (kind_at w.kinds d) (stand_at w.first d).value)

-- what the run wrote on the device, if it wrote, is one of its values
abbrev pub WriteFits : Setting → ℕ → OnDevice → Type 0
WriteFits w d o = unwrap_or (option_map (has_value (kind_at w.kinds d)) o.wrote) true ≡ true

abbrev pub WritesFit : Setting → Reading → Type 0
WritesFit w n = (r d : ℕ) → WriteFits w d ((n.run r).on d)

writes_put : (w : Setting) (n m : Reading) (r : ℕ) (o : OfRun) → m.run ≡ put n.run r o → ((d : ℕ) → WriteFits w d (o.on d)) → WritesFit w n → WritesFit w m
writes_put w n m r o run new all q = rw run (put_all (λ k x. (d : ℕ) → WriteFits w d (x.on d)) n.run r o all new q)

answer_fits : (w : Setting) (n : Reading) (r k : ℕ) (a : Answer) → ValuesFit w → may_follow w n (Did (run_no r) k a) ≡ true → WritesFit w n
    → WriteFits w (command_at w.runs r k).device.0 (answered (kind_at w.kinds (command_at w.runs r k).device.0) (command_at w.runs r k) (is_some (n.run r).doomed) (n.run r).register a ((n.run r).on (command_at w.runs r k).device.0))
answer_fits w n r k Fine fit ok all = driven_has (kind_at w.kinds c.device.0) c.job (n.run r).register (stand_at w.first c.device.0).value writing named (fit.first c.device.0 device)
  where
    c : Command
    c = command_at w.runs r k

    writing : writes c.job ≡ true
    writing = grind (arith, common_steps)

    within : nat_lt k (length (commands_of w.runs r)) ≡ true
    within = grind (arith, common_steps)

    at : (cs : List Command) (j : ℕ) → nat_lt j (length cs) ≡ true → slice_get cs j ≡ Some (slice_index_or cs j no_command)
    at [] j less = absurd (grind (arith, common_steps))
    at (x ∷ cs) zero less = refl
    at (x ∷ cs) (suc j) less = at cs j (grind (arith, common_steps))

    home : IsTrue (is_device w c.device.0 && names_values_of (kind_at w.kinds c.device.0) c.job)
    home = fit.homed r k c (at (commands_of w.runs r) k within)

    device : is_device w c.device.0 ≡ true
    device = (both (is_device w c.device.0) (names_values_of (kind_at w.kinds c.device.0) c.job) home).0

    named : IsTrue (names_values_of (kind_at w.kinds c.device.0) c.job)
    named = (both (is_device w c.device.0) (names_values_of (kind_at w.kinds c.device.0) c.job) home).1
answer_fits w n r k (Found x) fit ok all = all r (command_at w.runs r k).device.0
answer_fits w n r k Down fit ok all = all r (command_at w.runs r k).device.0
answer_fits w n r k Skipped fit ok all = all r (command_at w.runs r k).device.0

writes_step : (w : Setting) (n : Reading) (e : Entry) → ValuesFit w → may_follow w n e ≡ true → WritesFit w n → WritesFit w (entry w n e)
writes_step w n (Arrived r m) fit ok all = writes_put w n (entry w n (Arrived r m)) r.0 _ refl (all r.0) all
writes_step w n (Placed r at m) fit ok all = writes_put w n (entry w n (Placed r at m)) r.0 _ refl (all r.0) all
writes_step w n (Did r c a) fit ok all = writes_put w n (entry w n (Did r c a)) r.0 _ refl (put_all (WriteFits w) (n.run r.0).on (command_at w.runs r.0 c).device.0 _ (all r.0) (answer_fits w n r.0 c a fit ok all)) all
writes_step w n (Undid r d drove) fit ok all = writes_put w n (entry w n (Undid r d drove)) r.0 _ refl (put_all (WriteFits w) (n.run r.0).on d.0 _ (all r.0) (all r.0 d.0)) all
writes_step w n (Fell d) fit ok all = all
writes_step w n (Rose d) fit ok all = all
writes_step w n (Doomed r cause) fit ok all = writes_put w n (entry w n (Doomed r cause)) r.0 _ refl (all r.0) all
writes_step w n (Ended r e) fit ok all = writes_put w n (entry w n (Ended r e)) r.0 _ refl (all r.0) all

writes_from : (w : Setting) (n : Reading) (h : List Entry) → ValuesFit w → WritesFit w n → IsTrue (along w (may_follow w) n h) → WritesFit w (fold (entry w) n h)
writes_from w n [] fit all ok = all
writes_from w n (e ∷ h) fit all ok = writes_from w (entry w n e) h fit (writes_step w n e fit (grind (arith, common_steps)) all) (grind (arith, common_steps))

-- in a well-formed history
pub writes_fit : (w : Setting) (h : List Entry) → ValuesFit w → IsWellFormed w h → WritesFit w (reading w h)
writes_fit w h fit ok = writes_from w (nothing_read w) h fit (λ r d. refl) ok

-- so does the value along a line: the last write that is not undone, else the first value
line_value : (w : Setting) (n : Reading) (g : Grips) (d : ℕ) (line : List Item) → WritesFit w n
    → IsTrue (has_value (kind_at w.kinds d) (stand_at w.first d).value)
    → has_value (kind_at w.kinds d) (unwrap_or (option_map (λ e. e.value) (last_some (write_of n g d) line)) (stand_at w.first d).value) ≡ true
line_value w n g d line all first = by_write (last_some (write_of n g d) line) (λ e at. last_some_of Fits (write_of n g d) write_fits line None (λ e none. absurd (cc)) e at)
  where
    Fits : Write → Type 0
    Fits e = has_value (kind_at w.kinds d) e.value ≡ true

    write_fits : (i : Item) (e : Write) → write_of n g d i ≡ Some e → Fits e
    write_fits (Failed k j) e at = absurd (cc)
    write_fits (Back k j) e at = absurd (cc)
    write_fits (Ran q) e at = by_undone (is_undone n g q.0 d) at
      where
        by_undone : (b : Bool) → (if b then None else option_map (λ v. record { run = q.0; value = v }) ((n.run q.0).on d).wrote) ≡ Some e → Fits e
        by_undone true f = absurd (cc)
        by_undone false f =
            let found = map_some (λ v. record { run = q.0; value = v }) ((n.run q.0).on d).wrote e f in
            subst Fits found.2 (ap (λ o. unwrap_or (option_map (has_value (kind_at w.kinds d)) o) true) (sym found.1) ∙ all q.0 d)

    by_write : (o : Option Write) → ((e : Write) → o ≡ Some e → Fits e) → has_value (kind_at w.kinds d) (unwrap_or (option_map (λ e. e.value) o) (stand_at w.first d).value) ≡ true
    by_write None each = first
    by_write (Some e) each = each e refl

-- .. at which a device would stand without a run
pub undo_value : (p : Point) (r d : ℕ) → WritesFit p.setting p.reading → IsTrue (has_value (kind_at p.setting.kinds d) (stand_at p.setting.first d).value) → has_value (kind_at p.setting.kinds d) (value_without p r d) ≡ true
undo_value p r d all first = line_value p.setting p.reading p.grips d (without r p.reading.line) all first

-- .. and at which it stands
pub standing_fits : (p : Point) (d : ℕ) → is_weak p.setting.mode ≡ false → WritesFit p.setting p.reading → IsTrue (has_value (kind_at p.setting.kinds d) (stand_at p.setting.first d).value) → has_value (kind_at p.setting.kinds d) (standing_value p d) ≡ true
standing_fits p d strong all first =
    ap (λ b. has_value (kind_at p.setting.kinds d) (if b then p.reading.last d
    else unwrap_or (option_map (λ e. e.value) (last_some (write_of p.reading p.grips d) p.reading.line)) (stand_at p.setting.first d).value)) strong
    ∙ line_value p.setting p.reading p.grips d p.reading.line all first
