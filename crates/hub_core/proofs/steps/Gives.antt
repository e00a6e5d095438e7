-- The entries of a step back may follow what was read.
use Rattle.hub_core.proofs.Prelude.{Answer, Bool, Cause, Command, DeviceNo, Did, Died, Doomed, Down, Entry, Fell, Fine, Found, IsTrue, List, Lost, MustDown, None, Option, Reading, Refuted, Rose, Sensed, Setting, Shaped, Some, Told, Undid, Worked, [], along, answer_told, arith, cause_fits, command_at, command_entries, common_steps, device_no, did, did_live, each_found, entry, fails, false, find, has_written, if◌then◌else◌, is_access, is_device, is_doomed, is_live, is_open, is_run, is_some, is_weak, live_runs, live_runs_live, lost_by, may_follow, next_command, next_of, not, option_map, option_to_list, probe_entries, put_keeps, refl, run_no, sees_up, subst, suits, sym, true, undo_entries, ℕ, ◌&&◌, ◌∙◌, ◌∷◌, ◌≡◌}
use Rattle.hub_core.proofs.steps.Takes.{command_is, did_follows, live_run, within}

-- what is known of a run whose command comes back: it is its next one, and the device was counted up
pub record MayAnswer (w : Setting) (n : Reading) (r : ℕ) (c : Command) (told : Told) : Type 0 where
  pub run : is_run w.runs r ≡ true
  pub live : is_live n r ≡ true
  pub next : next_command w n r ≡ Some c
  pub first : (n.run r).answered_doomed ≡ false
  pub suited : suits w n r c (answer_told told) ≡ true
  pub home : is_device w c.device.0 ≡ true
  pub up : n.up c.device.0 ≡ true

-- what a device tells is an access
pub told_access : (told : Told) → is_access (answer_told told) ≡ true
told_access Worked = refl
told_access (Sensed x) = refl
told_access Died = refl

-- the doom of a run that was sound before its answer
doomed_follows_did : (w : Setting) (n : Reading) (r k : ℕ) (a : Answer) (cause : Cause) → is_run w.runs r ≡ true → is_live n r ≡ true → is_doomed n r ≡ false → cause_fits w (entry w n (Did (run_no r) k a)) r cause ≡ true
    → may_follow w (entry w n (Did (run_no r) k a)) (Doomed (run_no r) cause) ≡ true
doomed_follows_did w n r k a cause run live sound fits' =
    let live' : is_live (entry w n (Did (run_no r) k a)) r ≡ true = did_live w n (run_no r) k a r ∙ live in
    let sound' : is_doomed (entry w n (Did (run_no r) k a)) r ≡ false = put_keeps (λ o. is_some o.doomed) n.run r _ refl r ∙ sound in
    rw (run, live', sound', fits') refl

worked_follows : (w : Setting) (n : Reading) (r : ℕ) (c : Command) → MayAnswer w n r c Worked → IsTrue (along w (may_follow w) n (command_entries w n r (next_of n r) Worked))
worked_follows w n r c may = rw (did_follows w n r c Fine may.run may.live may.next may.first may.suited) refl

sensed_follows : (w : Setting) (n : Reading) (r x : ℕ) (c : Command) → MayAnswer w n r c (Sensed x) → IsTrue (along w (may_follow w) n (command_entries w n r (next_of n r) (Sensed x)))
sensed_follows w n r x c may = rw (did_follows w n r c (Found x) may.run may.live may.next may.first may.suited) (elim (fails (command_at w.runs r (next_of n r)) (Found x)) as (λ b. IsTrue (along w (may_follow w) later (if b && not (is_doomed n r) then doom else []))) [
  | true ↦ elim (is_doomed n r) as (λ b. is_doomed n r ≡ b → IsTrue (along w (may_follow w) later (if not b then doom else []))) [
    | true ↦ (λ e. refl)
    | false ↦ (λ sound. rw (doomed_follows_did w n r (next_of n r) (Found x) (Refuted (next_of n r) x) may.run may.live sound (within w n r c may.next)) refl)
  ] refl
  | false ↦ refl
])
  where
    later : Reading
    later = entry w n (Did (run_no r) (next_of n r) (Found x))

    doom : List Entry
    doom = Doomed (run_no r) (Refuted (next_of n r) x) ∷ []

-- a device that was counted up fails
fell_follows : (w : Setting) (n : Reading) (d : DeviceNo) → is_device w d.0 ≡ true → n.up d.0 ≡ true → may_follow w n (Fell d) ≡ true
fell_follows w n d home up = rw (home, up) refl

died_follows : (w : Setting) (n : Reading) (r : ℕ) (c : Command) → MayAnswer w n r c Died → IsTrue (along w (may_follow w) n (command_entries w n r (next_of n r) Died))
died_follows w n r c may =
    subst (λ x. IsTrue (along w (may_follow w) n (dead_entries x))) (sym (command_is w n r c may.next))
    (rw (fell_follows w n c.device may.home may.up, did_follows w fallen r c Down may.run may.live may.next may.first may.suited)
    (elim (is_doomed n r) as (λ b. is_doomed n r ≡ b → IsTrue (along w (may_follow w) later (if b then [] else dooms' c))) [
      | true ↦ (λ e. refl)
      | false ↦ (λ sound. doomed sound)
    ] refl))
  where
    fallen : Reading
    fallen = entry w n (Fell c.device)

    later : Reading
    later = entry w fallen (Did (run_no r) (next_of n r) Down)

    dooms' : Command → List Entry
    dooms' x = if did n r x.device.0 && not (is_weak w.mode) then Doomed (run_no r) (Lost x.device) ∷ [] else (if x.must then Doomed (run_no r) (MustDown (next_of n r)) ∷ [] else [])

    dead_entries : Command → List Entry
    dead_entries x = Fell x.device ∷ Did (run_no r) (next_of n r) Down ∷ (if is_doomed n r then [] else dooms' x)

    doomed : is_doomed n r ≡ false → IsTrue (along w (may_follow w) later (dooms' c))
    doomed sound = elim (did n r c.device.0 && not (is_weak w.mode)) as (λ b. IsTrue (along w (may_follow w) later (if b then Doomed (run_no r) (Lost c.device) ∷ [] else (if c.must then Doomed (run_no r) (MustDown (next_of n r)) ∷ [] else [])))) [
      | true ↦ rw (doomed_follows_did w fallen r (next_of n r) Down (Lost c.device) may.run may.live sound may.home) refl
      | false ↦ elim c.must as (λ b. IsTrue (along w (may_follow w) later (if b then Doomed (run_no r) (MustDown (next_of n r)) ∷ [] else []))) [
        | true ↦ rw (doomed_follows_did w fallen r (next_of n r) Down (MustDown (next_of n r)) may.run may.live sound (within w n r c may.next)) refl
        | false ↦ refl
      ]
    ]

-- a command's answer, and what comes with it
pub command_back_follows : (w : Setting) (n : Reading) (r : ℕ) (c : Command) (told : Told) → MayAnswer w n r c told → IsTrue (along w (may_follow w) n (command_entries w n r (next_of n r) told))
command_back_follows w n r c Worked may = worked_follows w n r c may
command_back_follows w n r c (Sensed x) may = sensed_follows w n r x c may
command_back_follows w n r c Died may = died_follows w n r c may

-- what is known of a run whose undo comes back
pub record MayUndo (w : Setting) (n : Reading) (r d : ℕ) : Type 0 where
  pub run : is_run w.runs r ≡ true
  pub live : is_live n r ≡ true
  pub doomed : is_doomed n r ≡ true
  pub wrote : has_written n r d ≡ true
  pub first : ((n.run r).on d).undid ≡ false
  pub home : is_device w d ≡ true
  pub up : n.up d ≡ true

undid_follows : (w : Setting) (n : Reading) (r d : ℕ) (drove : Bool) → is_run w.runs r ≡ true → is_live n r ≡ true → is_doomed n r ≡ true → has_written n r d ≡ true → ((n.run r).on d).undid ≡ false → is_device w d ≡ true → may_follow w n (Undid (run_no r) (device_no d) drove) ≡ true
undid_follows w n r d drove run live doomed wrote first home = rw (run, live, home, doomed, wrote, first) refl

pub undo_back_follows : (w : Setting) (n : Reading) (r d : ℕ) (told : Told) → MayUndo w n r d → IsTrue (along w (may_follow w) n (undo_entries r d told))
undo_back_follows w n r d Worked may = rw (undid_follows w n r d true may.run may.live may.doomed may.wrote may.first may.home) refl
undo_back_follows w n r d (Sensed x) may = rw (undid_follows w n r d true may.run may.live may.doomed may.wrote may.first may.home) refl
undo_back_follows w n r d Died may = rw (fell_follows w n (device_no d) may.home may.up, undid_follows w (entry w n (Fell (device_no d))) r d false may.run may.live may.doomed may.wrote may.first may.home) refl

-- a run that is lost is live and not doomed
pub lost_is : (w : Setting) (n : Reading) (d x : ℕ) → lost_by w n d ≡ Some x → (is_live n x ≡ true) × (is_open w n x d && sees_up n x d) ≡ true
lost_is w n d x at = by_model (is_weak w.mode) at
  where
    by_model : (b : Bool) → (if b then None else find (λ y. is_open w n y d && sees_up n y d) (live_runs n n.line)) ≡ Some x → (is_live n x ≡ true) × (is_open w n x d && sees_up n x d) ≡ true
    by_model true e = absurd (cc)
    by_model false e = each_found (λ y. is_live n y ≡ true) (λ y. is_open w n y d && sees_up n y d) (live_runs n n.line) x (live_runs_live n n.line) e

pub probe_back_follows : (w : Setting) (n : Reading) (d : ℕ) (told : Told) → Shaped w n → is_device w d ≡ true → IsTrue (along w (may_follow w) n (probe_entries w n d told))
probe_back_follows w n d told shaped home = elim (n.up d) as (λ b. n.up d ≡ b → IsTrue (along w (may_follow w) n (if b then while_up told else while_down told))) [
  | true ↦ (λ up. up_follows told up)
  | false ↦ (λ down. down_follows told down)
] refl
  where
    while_up : Told → List Entry
    while_up Worked = []
    while_up (Sensed x) = []
    while_up Died = Fell (device_no d) ∷ option_to_list (option_map (λ x. Doomed (run_no x) (Lost (device_no d))) (lost_by w n d))

    while_down : Told → List Entry
    while_down Worked = Rose (device_no d) ∷ []
    while_down (Sensed x) = Rose (device_no d) ∷ []
    while_down Died = []

    lost_follows : (o : Option ℕ) → lost_by w n d ≡ o → IsTrue (along w (may_follow w) (entry w n (Fell (device_no d))) (option_to_list (option_map (λ x. Doomed (run_no x) (Lost (device_no d))) o)))
    lost_follows None e = refl
    lost_follows (Some x) e =
        let lost = lost_is w n d x e in
        let run : is_run w.runs x ≡ true = live_run w n x shaped lost.0 in
        let sound : is_doomed n x ≡ false = (let open' = lost.1 in grind (arith, common_steps)) in
        rw (run, lost.0, sound, home) refl

    up_follows : (t : Told) → n.up d ≡ true → IsTrue (along w (may_follow w) n (while_up t))
    up_follows Worked up = refl
    up_follows (Sensed x) up = refl
    up_follows Died up = rw (fell_follows w n (device_no d) home up) (lost_follows (lost_by w n d) refl)

    down_follows : (t : Told) → n.up d ≡ false → IsTrue (along w (may_follow w) n (while_down t))
    down_follows Worked down = rw (home, down) refl
    down_follows (Sensed x) down = rw (home, down) refl
    down_follows Died down = refl
