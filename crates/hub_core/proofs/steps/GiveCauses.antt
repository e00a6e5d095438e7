-- The dooms of a step back show their causes.
use Rattle.hub_core.proofs.Prelude.{Bool, Command, Did, Died, Doomed, Down, Entry, Event, Failed, Fell, First, Found, IsTrue, Last, List, LogMark, Logged, Lost, MustDown, None, Option, Reading, Refuted, Rose, Sensed, Setting, Some, Told, Worked, [], abort_is_justified, along, ap, append-nil, append_assoc, arith, command_at, command_entries, commands_of, common_steps, device_no, did, drop, entry, fails, false, if◌then◌else◌, is_access, is_doomed, is_fall, is_first_mark, is_last_mark, is_none, is_on, is_some, is_weak, list_any, lost_by, more_if, next_command, next_of, not, option_map, option_or, option_to_list, or-true, pends, probe_entries, put_same, refl, run_no, sees_down, sees_up, shows, slice_get, some_is, span_more, span_of, suc, sym, take_while, take_while-cons, touches_from, true, unwrap_or, view_of, zero, ℕ, ◌&&◌, ◌++◌, ◌+◌, ◌∙◌, ◌∷◌, ◌≡◌}
use Rattle.hub_core.proofs.steps.Causes.{and_is, answered_last}
use Rattle.hub_core.proofs.steps.Gives.{lost_is}
use Rattle.hub_core.proofs.steps.Takes.{command_is}
use Rattle.std.proofs.lemmas.List.Folds.{list_any-append}

abbrev pub ShowsAll : Setting → Reading → List Entry → Type 0
ShowsAll w n entries = IsTrue (along w (abort_is_justified w) n entries)

-- a failure in the log behind the run's first answer, and before the answer to its last command, stands in the span
fall_in_span : (r d k : ℕ) (marks more : List LogMark) → list_any (is_first_mark r) marks ≡ true → list_any (is_last_mark r) marks ≡ false → list_any is_fall (span_of r (marks ++ Event (Failed (device_no d) k) ∷ more)) ≡ true
fall_in_span r d k marks more first last =
    ap (list_any is_fall) (span_more r marks (Event (Failed (device_no d) k) ∷ more) first last ∙ ap (λ l. span_of r marks ++ l) (take_while-cons (λ x. not (is_last_mark r x)) (Event (Failed (device_no d) k)) more))
    ∙ list_any-append is_fall (span_of r marks) (Event (Failed (device_no d) k) ∷ take_while (λ x. not (is_last_mark r x)) more) ∙ or-true (list_any is_fall (span_of r marks))

sees_is : (v : Option Bool) → unwrap_or v false ≡ true → is_some v ≡ true
sees_is None e = absurd (cc)
sees_is (Some b) e = refl

-- a run that is not done with a device that it sees up is lost where the device fails
pub lost_is_shown : (w : Setting) (n : Reading) (x d : ℕ) → Logged w n → pends w n x d ≡ true → sees_up n x d ≡ true → shows w (entry w n (Fell (device_no d))) x (Lost (device_no d)) ≡ true
lost_is_shown w n x d log pending up =
    and_is up (ap (λ l. list_any is_fall (span_of x l)) (put_same n.log d _) ∙ fall_in_span x d (n.fell d + 1) (n.log d) [] (log.firsts x d ∙ sees_is (view_of n x d) up) (log.lasts x d pending))

pub probe_shows : (w : Setting) (n : Reading) (d : ℕ) (told : Told) → Logged w n → ShowsAll w n (probe_entries w n d told)
probe_shows w n d told log = elim (n.up d) as (λ b. IsTrue (along w (abort_is_justified w) n (if b then while_up told else while_down told))) [
  | true ↦ up_shows told
  | false ↦ down_shows' told
]
  where
    while_up : Told → List Entry
    while_up Worked = []
    while_up (Sensed x) = []
    while_up Died = Fell (device_no d) ∷ option_to_list (option_map (λ x. Doomed (run_no x) (Lost (device_no d))) (lost_by w n d))

    while_down : Told → List Entry
    while_down Worked = Rose (device_no d) ∷ []
    while_down (Sensed x) = Rose (device_no d) ∷ []
    while_down Died = []

    lost_shows : (o : Option ℕ) → lost_by w n d ≡ o → IsTrue (along w (abort_is_justified w) (entry w n (Fell (device_no d))) (option_to_list (option_map (λ x. Doomed (run_no x) (Lost (device_no d))) o)))
    lost_shows None e = refl
    lost_shows (Some x) e =
        let lost = (lost_is w n d x e).1 in
        let pending : pends w n x d ≡ true = grind (arith, common_steps, lost) in
        let up : sees_up n x d ≡ true = grind (arith, common_steps, lost) in
        and_is (lost_is_shown w n x d log pending up) refl

    up_shows : (t : Told) → IsTrue (along w (abort_is_justified w) n (while_up t))
    up_shows Worked = refl
    up_shows (Sensed x) = refl
    up_shows Died = lost_shows (lost_by w n d) refl

    down_shows' : (t : Told) → IsTrue (along w (abort_is_justified w) n (while_down t))
    down_shows' Worked = refl
    down_shows' (Sensed x) = refl
    down_shows' Died = refl

pub sensed_shows : (w : Setting) (n : Reading) (r x : ℕ) → ShowsAll w n (command_entries w n r (next_of n r) (Sensed x))
sensed_shows w n r x = elim (fails (command_at w.runs r (next_of n r)) (Found x)) as (λ b. fails (command_at w.runs r (next_of n r)) (Found x) ≡ b → IsTrue (along w (abort_is_justified w) later (if b && not (is_doomed n r) then doom else []))) [
  | true ↦ (λ e. elim (is_doomed n r) as (λ b. IsTrue (along w (abort_is_justified w) later (if not b then doom else []))) [
    | true ↦ refl
    | false ↦ and_is (and_is e (answered_last w n r (Found x))) refl
  ])
  | false ↦ (λ e. refl)
] refl
  where
    later : Reading
    later = entry w n (Did (run_no r) (next_of n r) (Found x))

    doom : List Entry
    doom = Doomed (run_no r) (Refuted (next_of n r) x) ∷ []

-- the next command is pending on its device
pub next_pends : (w : Setting) (n : Reading) (r : ℕ) (c : Command) → next_command w n r ≡ Some c → pends w n r c.device.0 ≡ true
next_pends w n r c next = at (commands_of w.runs r) (next_of n r) next
  where
    at : (cs : List Command) (k : ℕ) → slice_get cs k ≡ Some c → list_any (is_on c.device.0) (drop k cs) ≡ true
    at [] k e = absurd (cc)
    at (x ∷ cs) zero e = let same : x ≡ c = some_is x c e in rw same (grind (arith, common_steps))
    at (x ∷ cs) (suc k) e = at cs k e

more_is : {A : Type 0} (b : Bool) (x : A) (xs : List A) → more_if b x xs ≡ xs ++ (if b then x ∷ [] else [])
more_is true x xs = refl
more_is false x xs = sym (append-nil xs)

died_shows : (w : Setting) (n : Reading) (r : ℕ) → Logged w n → next_command w n r ≡ Some (command_at w.runs r (next_of n r)) → sees_down n r (command_at w.runs r (next_of n r)).device.0 ≡ false → ShowsAll w n (command_entries w n r (next_of n r) Died)
died_shows w n r log next unseen = elim (is_doomed n r) as (λ b. IsTrue (along w (abort_is_justified w) later (if b then [] else dooms'))) [
  | true ↦ refl
  | false ↦ elim (did n r c.device.0 && not (is_weak w.mode)) as (λ b. (did n r c.device.0 && not (is_weak w.mode)) ≡ b → IsTrue (along w (abort_is_justified w) later (if b then Doomed (run_no r) (Lost c.device) ∷ [] else (if c.must then Doomed (run_no r) (MustDown (next_of n r)) ∷ [] else [])))) [
    | true ↦ (λ e. let met : did n r c.device.0 ≡ true = grind (arith, common_steps) in and_is (and_is (still_up met) (falls met)) refl)
    | false ↦ (λ e. elim c.must as (λ b. c.must ≡ b → IsTrue (along w (abort_is_justified w) later (if b then Doomed (run_no r) (MustDown (next_of n r)) ∷ [] else []))) [
      | true ↦ (λ must. and_is (and_is must (answered_last w fallen r Down)) refl)
      | false ↦ (λ free. refl)
    ] refl)
  ] refl
]
  where
    c : Command
    c = command_at w.runs r (next_of n r)

    fallen : Reading
    fallen = entry w n (Fell c.device)

    later : Reading
    later = entry w fallen (Did (run_no r) (next_of n r) Down)

    dooms' : List Entry
    dooms' = if did n r c.device.0 && not (is_weak w.mode) then Doomed (run_no r) (Lost c.device) ∷ [] else (if c.must then Doomed (run_no r) (MustDown (next_of n r)) ∷ [] else [])

    view_now : view_of later r c.device.0 ≡ option_or (view_of n r c.device.0) (Some false)
    view_now = ap (λ o. (o.on c.device.0).view) (put_same n.run r _) ∙ ap (λ o. o.view) (put_same (n.run r).on c.device.0 _)

    up_view : (v : Option Bool) → is_some v ≡ true → unwrap_or (option_map not v) false ≡ false → unwrap_or (option_or v (Some false)) false ≡ true
    up_view None some down = absurd (cc)
    up_view (Some true) some down = refl
    up_view (Some false) some down = absurd (cc)

    still_up : did n r c.device.0 ≡ true → sees_up later r c.device.0 ≡ true
    still_up met = ap (λ v. unwrap_or v false) view_now ∙ up_view (view_of n r c.device.0) met unseen

    tail : List LogMark
    tail = if not (touches_from w.runs r c.device.0 (next_of n r + 1)) then Last r ∷ [] else []

    log_now : did n r c.device.0 ≡ true → later.log c.device.0 ≡ n.log c.device.0 ++ Event (Failed c.device (n.fell c.device.0 + 1)) ∷ tail
    log_now met =
        put_same fallen.log c.device.0 _ ∙ more_is (not (touches_from w.runs r c.device.0 (next_of n r + 1))) (Last r) _
        ∙ ap (λ l. l ++ tail) (ap (λ b. more_if b (First r) (fallen.log c.device.0)) (no_first (view_of n r c.device.0) met) ∙ put_same n.log c.device.0 _)
        ∙ append_assoc (n.log c.device.0) (Event (Failed c.device (n.fell c.device.0 + 1)) ∷ []) tail
      where
        no_first : (v : Option Bool) → is_some v ≡ true → (is_access Down && is_none v) ≡ false
        no_first None some = absurd (cc)
        no_first (Some b) some = refl

    falls : did n r c.device.0 ≡ true → list_any is_fall (span_of r (later.log c.device.0)) ≡ true
    falls met = ap (λ l. list_any is_fall (span_of r l)) (log_now met) ∙ fall_in_span r c.device.0 (n.fell c.device.0 + 1) (n.log c.device.0) tail (log.firsts r c.device.0 ∙ met) (log.lasts r c.device.0 (next_pends w n r c next))

-- the answer to the next command, which went out to a device that the run does not see down
pub command_back_shows : (w : Setting) (n : Reading) (r : ℕ) (c : Command) (told : Told) → Logged w n → next_command w n r ≡ Some c → sees_down n r c.device.0 ≡ false → ShowsAll w n (command_entries w n r (next_of n r) told)
command_back_shows w n r c Worked log next unseen = refl
command_back_shows w n r c (Sensed x) log next unseen = sensed_shows w n r x
command_back_shows w n r c Died log next unseen =
    died_shows w n r log (next ∙ ap (λ x. Some x) (sym (command_is w n r c next))) (ap (λ x. sees_down n r x.device.0) (command_is w n r c next) ∙ unseen)
