-- What one more answer makes of a run.
use Rattle.device_order.proofs.Runs.{fit_more, none_more, summary_more, then_here, then_there}
use Rattle.device_order.proofs.Prelude.{Answer, AnswersFit, AreHomed, Bool, Command, DeviceSummary, FitsSummary, Free, GetsAnswer, Kind, List, NoCommandFails, RunInvariant, RunStage, RunState, Summary, [], answered_commands, ap, arith, blank, both_ways, common_steps, device_summary, device_summary_then, doomed_stage, driven, fails, false, kind_at, length, or_parts, paired, refl, remaining, rest, stage_of, subst, summary, summary_of, summary_then, sym, true, usage, uses_device, ℕ, ◌++◌, ◌==◌, ◌||◌, ◌∙◌, ◌∷◌, ◌≡◌, ◌≢◌, ◌≤◌}

pub rest_none : (cs : List Command) → remaining cs [] ≡ cs
unfolding remaining
rest_none [] = refl
rest_none (c ∷ cs) = refl

-- one more answer: one command fewer is left, ..
pub rest_more : (cs : List Command) (xs : List Answer) (c : Command) (ds : List Command) (a : Answer) → remaining cs xs ≡ c ∷ ds → remaining cs (xs ++ a ∷ []) ≡ ds
unfolding remaining
rest_more [] xs c ds a h = absurd (clash h)
  where
    clash : [] ≡ c ∷ ds → ⊥
    clash h = grind (arith, common_steps)
rest_more (e ∷ cs) [] c ds a h = rest_none cs ∙ tail e cs h
  where
    tail : (e : Command) (cs : List Command) → e ∷ cs ≡ c ∷ ds → cs ≡ ds
    tail e cs h = grind (arith, common_steps)
rest_more (e ∷ cs) (x ∷ xs) c ds a h = rest_more cs xs c ds a h

-- .. and one pair more stands at the end
pub pair_more : (cs : List Command) (xs : List Answer) (c : Command) (ds : List Command) (a : Answer) → remaining cs xs ≡ c ∷ ds → paired cs (xs ++ a ∷ []) ≡ paired cs xs ++ record { command = c; answer = a } ∷ []
unfolding remaining paired
pair_more [] xs c ds a h = absurd (clash h)
  where
    clash : [] ≡ c ∷ ds → ⊥
    clash h = grind (arith, common_steps)
pair_more (e ∷ cs) [] c ds a h = none e cs ∙ ap (λ x. record { command = x; answer = a } ∷ []) (head e cs h)
  where
    head : (e : Command) (cs : List Command) → e ∷ cs ≡ c ∷ ds → e ≡ c
    head e cs h = grind (arith, common_steps)

    none : (e : Command) (cs : List Command) → record { command = e; answer = a } ∷ paired cs [] ≡ record { command = e; answer = a } ∷ []
    none e [] = refl
    none e (f ∷ cs) = refl
pair_more (e ∷ cs) (x ∷ xs) c ds a h = ap (λ l. record { command = e; answer = x } ∷ l) (pair_more cs xs c ds a h)

pub gave_answered : (l l' : RunState) (c : Command) (ds : List Command) (a : Answer) (k : Bool) → GetsAnswer l l' c ds a k → answered_commands l' ≡ answered_commands l ++ record { command = c; answer = a } ∷ []
gave_answered l l' c ds a k g = ap (λ cs. paired cs l'.answers) g.commands ∙ ap (paired l.commands) g.answers ∙ pair_more l.commands l.answers c ds a g.next

pub gave_rest : (l l' : RunState) (c : Command) (ds : List Command) (a : Answer) (k : Bool) → GetsAnswer l l' c ds a k → rest l' ≡ ds
gave_rest l l' c ds a k g = ap (λ cs. remaining cs l'.answers) g.commands ∙ ap (remaining l.commands) g.answers ∙ rest_more l.commands l.answers c ds a g.next

pub gave_reading : (kinds : List Kind) (l l' : RunState) (c : Command) (ds : List Command) (a : Answer) (k : Bool) → GetsAnswer l l' c ds a k → summary_of kinds l' ≡ summary_then kinds (summary_of kinds l) (record { command = c; answer = a })
unfolding summary
gave_reading kinds l l' c ds a k g = ap (summary kinds blank) (gave_answered l l' c ds a k g) ∙ summary_more kinds blank (answered_commands l) (record { command = c; answer = a } ∷ [])

-- the run at the device of the answer, ..
pub gave_here : (kinds : List Kind) (l l' : RunState) (c : Command) (ds : List Command) (a : Answer) (k : Bool) (d : ℕ) → GetsAnswer l l' c ds a k → d ≡ c.device.0
    → device_summary kinds l' d ≡ device_summary_then (device_summary kinds l d) (driven (kind_at kinds c.device.0) c.job (summary_of kinds l).register) a
gave_here kinds l l' c ds a k d g e = ap (λ (s : Summary). s.on d) (gave_reading kinds l l' c ds a k g) ∙ then_here kinds (summary_of kinds l) (record { command = c; answer = a }) d e

pub gave_usage : (kinds : List Kind) (l l' : RunState) (c : Command) (ds : List Command) (a : Answer) (k : Bool) → GetsAnswer l l' c ds a k
    → usage kinds l' c.device.0 ≡ (let t : DeviceSummary = device_summary_then (device_summary kinds l c.device.0) (driven (kind_at kinds c.device.0) c.job (summary_of kinds l).register) a in
    record { stage = stage_of l.committed (l.doomed || k) (uses_device c.device.0 ds); view = t.view; read = t.read; wrote = t.wrote; undid = l.undid c.device.0; grip = Free })
gave_usage kinds l l' c ds a k g = λ i. record {
  stage = stage_of (g.committed i) (g.doomed i) (uses_device c.device.0 (gave_rest l l' c ds a k g i));
  view = (gave_here kinds l l' c ds a k c.device.0 g refl i).view;
  read = (gave_here kinds l l' c ds a k c.device.0 g refl i).read;
  wrote = (gave_here kinds l l' c ds a k c.device.0 g refl i).wrote;
  undid = g.undid c.device.0 i;
  grip = g.free i;
}

-- .. and at another device: nothing, but for the doom
abbrev pub doomed_if : Bool → RunStage → RunStage
doomed_if true st = doomed_stage st
doomed_if false st = st

doom_stage : (b x k p : Bool) → stage_of b (x || k) p ≡ doomed_if k (stage_of b x p)
doom_stage b x k p = grind (arith, common_steps)

pub gave_there : (kinds : List Kind) (l l' : RunState) (c : Command) (ds : List Command) (a : Answer) (k : Bool) (d : ℕ) → GetsAnswer l l' c ds a k → d ≢ c.device.0
    → usage kinds l' d ≡ record (usage kinds l d) { stage = doomed_if k (usage kinds l d).stage }
gave_there kinds l l' c ds a k d g n =
    let t : device_summary kinds l' d ≡ device_summary kinds l d = ap (λ (s : Summary). s.on d) (gave_reading kinds l l' c ds a k g) ∙ then_there kinds (summary_of kinds l) (record { command = c; answer = a }) d n in
    let p : uses_device d (rest l') ≡ uses_device d (rest l) = ap (uses_device d) (gave_rest l l' c ds a k g) ∙ off c (uses_device d ds) n ∙ ap (uses_device d) (sym g.next) in
    let st : stage_of l'.committed l'.doomed (uses_device d (rest l')) ≡ doomed_if k (stage_of l.committed l.doomed (uses_device d (rest l))) =
    (λ i. stage_of (g.committed i) (g.doomed i) (p i)) ∙ doom_stage l.committed l.doomed k (uses_device d (rest l)) in
    λ i. record { stage = st i; view = (t i).view; read = (t i).read; wrote = (t i).wrote; undid = g.undid d i; grip = g.grip d n i }
  where
    off : (c : Command) (x : Bool) → d ≢ c.device.0 → x ≡ ((c.device.0 == d) || x)
    off c x n = grind (arith, common_steps)

length_more : (cs : List Command) (xs : List Answer) (c : Command) (ds : List Command) (a : Answer) → remaining cs xs ≡ c ∷ ds → length (xs ++ a ∷ []) ≤ length cs
unfolding remaining
length_more [] xs c ds a h = absurd (clash h)
  where
    clash : [] ≡ c ∷ ds → ⊥
    clash h = grind (arith, common_steps)
length_more (e ∷ cs) [] c ds a h = omega arith
length_more (e ∷ cs) (x ∷ xs) c ds a h = let i = length_more cs xs c ds a h in omega arith

pub length_done : (cs : List Command) (xs : List Answer) → remaining cs xs ≡ [] → length xs ≤ length cs → length xs ≡ length cs
unfolding remaining
length_done [] xs h k = omega arith
length_done (c ∷ cs) [] h k = absurd (clash h)
  where
    clash : c ∷ cs ≡ [] → ⊥
    clash h = grind (arith, common_steps)
length_done (c ∷ cs) (x ∷ xs) h k = let i = length_done cs xs h (omega arith) in omega arith

-- it stays a run whose answers fit
pub gave_run : (kinds : List Kind) (n : ℕ) (l l' : RunState) (c : Command) (ds : List Command) (a : Answer) (k : Bool) → GetsAnswer l l' c ds a k → RunInvariant kinds n l → l.committed ≡ false
    → (l.doomed ≡ false → k ≡ false → FitsSummary (summary_of kinds l) (record { command = c; answer = a })) → (k ≡ false → fails c a ≡ false) → RunInvariant kinds n l'
gave_run kinds n l l' c ds a k g i live fit ok =
    let sound : l'.doomed ≡ false → (l.doomed ≡ false) × (k ≡ false) = λ h. or_parts l.doomed k (sym g.doomed ∙ h) in
    let e = gave_answered l l' c ds a k g in
    record {
      homed = subst (AreHomed n) (sym g.commands) i.homed;
      size = subst (λ cs. length l'.answers ≤ length cs) (sym g.commands) (subst (λ xs. length xs ≤ length l.commands) (sym g.answers) (length_more l.commands l.answers c ds a g.next));
      fit = λ h. subst (AnswersFit kinds blank) (sym e) (fit_more kinds blank (answered_commands l) (record { command = c; answer = a }) (i.fit (sound h).0) (fit (sound h).0 (sound h).1));
      none_fails = λ h. subst NoCommandFails (sym e) (none_more (answered_commands l) (record { command = c; answer = a }) (i.none_fails (sound h).0) (ok (sound h).1));
      whole = λ h. absurd (both_ways l'.committed (g.committed ∙ live) h);
    }
