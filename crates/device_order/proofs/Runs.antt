-- A run whose answers fit one another is executed serially with them.
use Rattle.device_order.proofs.Prelude.{Answer, AnswerFits, Answered, AnswersFit, AreHomed, Bool, DeviceSummary, Effect, Execution, FitsSummary, Kind, List, MeetsHome, MeetsStand, NoCommandFails, None, Option, Some, Stand, Summary, Up, View, [], ap, append-nil, append_assoc, arith, blank, command_effect, common_steps, device_summary_then, done_effect, driven, execute, fails, false, first_view, fold, holds, if◌then◌else◌, inl, inr, is_seen_down, is_some, is_up, kind_at, length, length-set, map, or_from, overwritten, pair_answer, pair_command, reads, refl, register_after, set, slice_set, stand_at, subst, suc, summary, summary_then, sym, true, was_done, with_effect, zero, ℕ, ◌++◌, ◌<◌, ◌==◌, ◌||◌, ◌∙◌, ◌∷◌, ◌≡◌, ◌≢◌, ◌⊎◌}
use Rattle.home_types.specs.declared.commands.Answer.TheVariants.{Down, Fine, Found, Skipped}
use Rattle.home_types.specs.declared.commands.Guard.{Guard}
use Rattle.home_types.specs.declared.commands.Job.TheVariants.{Check, Load, Set, Store}
use Rattle.home_types.specs.declared.commands.Job.{Job}
use Rattle.home_types.specs.declared.commands.View.TheVariants.{Down as ViewDown}

-- the effect of a job with this answer, where the device is as the run's answers say
abbrev pub effect_of : Kind → Job → ℕ → DeviceSummary → Stand → Answer → Effect
effect_of kind job register t s a = record { answer = a; register = register_after job a register; stand = overwritten s (device_summary_then t (driven kind job register) a).wrote }

stands_up : (o : Option View) (u : Bool) → (is_some (first_view o Up) ≡ true → is_up (first_view o Up) ≡ u) → is_seen_down o ≡ false → u ≡ true
stands_up None u h g = sym (h refl)
stands_up (Some Up) u h g = sym (h refl)
stands_up (Some ViewDown) u h g = grind (arith, common_steps)

stands_down : (o : Option View) (u : Bool) → (is_some (first_view o ViewDown) ≡ true → is_up (first_view o ViewDown) ≡ u) → is_up o ≡ false → u ≡ false
stands_down None u h g = sym (h refl)
stands_down (Some Up) u h g = grind (arith, common_steps)
stands_down (Some ViewDown) u h g = sym (h refl)

-- an answer that fits is the one that a command gives that is done, ..
done_fits : (kind : Kind) (job : Job) (register : ℕ) (t : DeviceSummary) (s : Stand) (a : Answer) → was_done a ≡ true → AnswerFits (reads job) t a → MeetsStand s (device_summary_then t (driven kind job register) a)
    → done_effect kind job register (overwritten s t.wrote) ≡ effect_of kind job register t s a
done_fits kind job register t s Down e f m = let u = stands_down t.view s.up m.view f in grind (arith, common_steps)
done_fits kind job register t s Fine e f m = let u = stands_up t.view s.up m.view f.1 in grind (arith, common_steps)
done_fits kind job register t s (Found x) e f m = let u = stands_up t.view s.up m.view f.1 in grind (arith, common_steps)
done_fits kind job register t s Skipped e f m = absurd (cc)

-- .. one that is skipped changes nothing, ..
pub skipped_effect : (kind : Kind) (job : Job) (register : ℕ) (t : DeviceSummary) (s : Stand) → record { answer = Skipped; register = register; stand = overwritten s t.wrote } ≡ effect_of kind job register t s Skipped
skipped_effect kind (Set v) register t s = refl
skipped_effect kind (Check v) register t s = refl
skipped_effect kind Load register t s = refl
skipped_effect kind Store register t s = refl

-- .. and by its guard a command is the one or the other
effect_fits : (kind : Kind) (guard : Guard) (job : Job) (register : ℕ) (t : DeviceSummary) (s : Stand) (a : Answer) → holds guard register ≡ was_done a → AnswerFits (reads job) t a → MeetsStand s (device_summary_then t (driven kind job register) a)
    → command_effect kind guard job register (overwritten s t.wrote) ≡ effect_of kind job register t s a
effect_fits kind guard job register t s a g f m = ap (λ b. if b then done_effect kind job register (overwritten s t.wrote) else skipped) g ∙ at a (was_done a) refl f m
  where
    skipped : Effect
    skipped = record { answer = Skipped; register = register; stand = overwritten s t.wrote }

    at : (a : Answer) → (b : Bool) → was_done a ≡ b → AnswerFits (reads job) t a → MeetsStand s (device_summary_then t (driven kind job register) a) → (if b then done_effect kind job register (overwritten s t.wrote) else skipped) ≡ effect_of kind job register t s a
    at a true e f m = done_fits kind job register t s a e f m
    at Skipped false e f m = skipped_effect kind job register t s
    at Fine false e f m = absurd (cc)
    at (Found x) false e f m = absurd (cc)
    at Down false e f m = absurd (cc)

-- where a device of a home stands that has been set
pub stand_at_set : (home : List Stand) (d e : ℕ) (x : Stand) → d < length home → ((e ≡ d) × (stand_at (set home d x) e ≡ x)) ⊎ ((e ≢ d) × (stand_at (set home d x) e ≡ stand_at home e))
stand_at_set [] d e x h = absurd (omega arith)
stand_at_set (y ∷ home) zero zero x h = inl (refl, refl)
stand_at_set (y ∷ home) zero (suc e) x h = inr ((λ z. absurd (omega arith)), refl)
stand_at_set (y ∷ home) (suc d) zero x h = inr ((λ z. absurd (omega arith)), refl)
stand_at_set (y ∷ home) (suc d) (suc e) x h = elim (stand_at_set home d e x (omega arith)) [ inl p ↦ inl (ap (λ n. suc n) p.0, p.1) | inr p ↦ inr ((λ z. p.0 (omega arith)), p.1) ]

seen : (o : Option View) (u : Bool) (w : View) → (is_some (first_view o w) ≡ true → is_up (first_view o w) ≡ u) → is_some o ≡ true → is_up o ≡ u
seen None u w h g = grind (arith, common_steps)
seen (Some x) u w h g = h refl

-- a device that meets a summary at the end met it before
meets_before : (s : Stand) (t : DeviceSummary) (v : ℕ) (a : Answer) → MeetsStand s (device_summary_then t v a) → MeetsStand s t
meets_before s t v Skipped m = m
meets_before s t v Down m = record { view = λ h. seen t.view s.up ViewDown m.view h; read = m.read }
meets_before s t v Fine m = record { view = λ h. seen t.view s.up Up m.view h; read = m.read }
meets_before s t v (Found x) m = record { view = λ h. seen t.view s.up Up m.view h; read = λ y h. m.read y (ap (λ o. if is_some o || is_some t.wrote then o else Some x) h) }

then_meets : (kinds : List Kind) (s : Summary) (p : Answered) (d : ℕ) (x : Stand) → MeetsStand x ((summary_then kinds s p).on d) → MeetsStand x (s.on d)
then_meets kinds s p d x m = at_ (d == p.command.device.0) m
  where
    at_ : (b : Bool) → MeetsStand x (if b then device_summary_then (s.on d) (driven (kind_at kinds p.command.device.0) p.command.job s.register) p.answer else s.on d) → MeetsStand x (s.on d)
    at_ true m = meets_before x (s.on d) (driven (kind_at kinds p.command.device.0) p.command.job s.register) p.answer m
    at_ false m = m

summary_meets : (kinds : List Kind) (s : Summary) (ps : List Answered) (d : ℕ) (x : Stand) → MeetsStand x ((summary kinds s ps).on d) → MeetsStand x (s.on d)
unfolding summary
summary_meets kinds s [] d x m = m
summary_meets kinds s (p ∷ ps) d x m = then_meets kinds s p d x (summary_meets kinds (summary_then kinds s p) ps d x m)

-- one more answer changes the summary of its device, ..
pub then_here : (kinds : List Kind) (s : Summary) (p : Answered) (d : ℕ) → d ≡ p.command.device.0 → (summary_then kinds s p).on d ≡ device_summary_then (s.on d) (driven (kind_at kinds p.command.device.0) p.command.job s.register) p.answer
then_here kinds s p d e = grind (arith, common_steps)

-- .. and of no other
pub then_there : (kinds : List Kind) (s : Summary) (p : Answered) (d : ℕ) → d ≢ p.command.device.0 → (summary_then kinds s p).on d ≡ s.on d
then_there kinds s p d e = grind (arith, common_steps)

-- one command
step_fits : (kinds : List Kind) (w : List Stand) (from : Execution) (s : Summary) (p : Answered) → from.register ≡ s.register → from.refused ≡ false
    → stand_at from.home p.command.device.0 ≡ overwritten (stand_at w p.command.device.0) (s.on p.command.device.0).wrote
    → FitsSummary s p → fails p.command p.answer ≡ false → MeetsStand (stand_at w p.command.device.0) ((summary_then kinds s p).on p.command.device.0)
    → execute kinds from p.command ≡ record {
      home = slice_set from.home p.command.device.0 (overwritten (stand_at w p.command.device.0) ((summary_then kinds s p).on p.command.device.0).wrote);
      register = (summary_then kinds s p).register;
      answers = from.answers ++ p.answer ∷ [];
      refused = false;
    }
step_fits kinds w from s p er eb es f ok m =
    let d : ℕ = p.command.device.0 in
    let k : Kind = kind_at kinds d in
    let here = then_here kinds s p d refl in
    let e : command_effect k p.command.when p.command.job from.register (stand_at from.home d) ≡ effect_of k p.command.job s.register (s.on d) (stand_at w d) p.answer =
    ap (λ r. command_effect k p.command.when p.command.job r (stand_at from.home d)) er
    ∙ ap (command_effect k p.command.when p.command.job s.register) es
    ∙ effect_fits k p.command.when p.command.job s.register (s.on d) (stand_at w d) p.answer f.guard f.answer (subst (MeetsStand (stand_at w d)) here m) in
    let no : (from.refused || fails p.command p.answer) ≡ false = or_from from.refused (fails p.command p.answer) eb ok in
    ap (with_effect from p.command) e
    ∙ (λ i. record { home = slice_set from.home d (overwritten (stand_at w d) (sym here i).wrote); register = register_after p.command.job p.answer s.register; answers = from.answers ++ p.answer ∷ []; refused = no i })

-- from the middle: the execution of the answered commands gives their answers, and overwrites the home with the last writes
pub record Executes (kinds : List Kind) (w : List Stand) (from : Execution) (s : Summary) (ps : List Answered) : Type 0 where
  pub home : List Stand
  pub is : fold (execute kinds) from (map pair_command ps) ≡ record { home = home; register = s.register; answers = from.answers ++ map pair_answer ps; refused = false }
  pub size : length home ≡ length w
  pub stands : (d : ℕ) → d < length w → stand_at home d ≡ overwritten (stand_at w d) (s.on d).wrote

pub executes : (kinds : List Kind) (w : List Stand) (from : Execution) (s : Summary) (ps : List Answered) → from.register ≡ s.register → from.refused ≡ false → length from.home ≡ length w
    → ((d : ℕ) → d < length w → stand_at from.home d ≡ overwritten (stand_at w d) (s.on d).wrote) → AnswersFit kinds s ps → NoCommandFails ps → AreHomed (length w) (map pair_command ps)
    → MeetsHome w (summary kinds s ps) → Executes kinds w from (summary kinds s ps) ps
unfolding summary AnswersFit NoCommandFails AreHomed
executes kinds w from s [] er eb ez es co ok ho m = record {
  home = from.home;
  is = λ i. record { home = from.home; register = er i; answers = sym (append-nil from.answers) i; refused = eb i };
  size = ez;
  stands = es;
}
executes kinds w from s (p ∷ ps) er eb ez es co ok ho m =
    let d : ℕ = p.command.device.0 in
    let x : Stand = overwritten (stand_at w d) ((summary_then kinds s p).on d).wrote in
    let n : Execution = record { home = slice_set from.home d x; register = (summary_then kinds s p).register; answers = from.answers ++ p.answer ∷ []; refused = false } in
    let one : execute kinds from p.command ≡ n = step_fits kinds w from s p er eb (es d ho.0) co.0 ok.0 (summary_meets kinds (summary_then kinds s p) ps d (stand_at w d) (m d ho.0)) in
    let stands : (e : ℕ) → e < length w → stand_at n.home e ≡ overwritten (stand_at w e) ((summary_then kinds s p).on e).wrote = λ e lt. elim (stand_at_set from.home d e x (subst (λ z. d < z) (sym ez) ho.0)) [
      | inl q ↦ q.1 ∙ ap (λ z. overwritten (stand_at w z) ((summary_then kinds s p).on z).wrote) (sym q.0)
      | inr q ↦ q.1 ∙ es e lt ∙ ap (λ (t : DeviceSummary). overwritten (stand_at w e) t.wrote) (sym (then_there kinds s p e q.0))
    ] in
    let rest = executes kinds w n (summary_then kinds s p) ps refl refl (length-set from.home d x ∙ ez) stands co.1 ok.1 ho.1 m in
    record {
      home = rest.home;
      is = ap (λ y. fold (execute kinds) y (map pair_command ps)) one ∙ rest.is
          ∙ (λ i. record { home = rest.home; register = (summary kinds (summary_then kinds s p) ps).register; answers = append_assoc from.answers (p.answer ∷ []) (map pair_answer ps) i; refused = false });
      size = rest.size;
      stands = rest.stands;
    }

pub serves : (kinds : List Kind) (home : List Stand) (ps : List Answered) → AnswersFit kinds blank ps → NoCommandFails ps → AreHomed (length home) (map pair_command ps)
    → MeetsHome home (summary kinds blank ps) → Executes kinds home (record { home = home; register = 0; answers = []; refused = false }) (summary kinds blank ps) ps
serves kinds home ps co ok ho m = executes kinds home (record { home = home; register = 0; answers = []; refused = false }) blank ps refl refl refl (λ d lt. refl) co ok ho m

-- the forms for a list that grows at its end
pub summary_more : (kinds : List Kind) (s : Summary) (ps qs : List Answered) → summary kinds s (ps ++ qs) ≡ summary kinds (summary kinds s ps) qs
unfolding summary
summary_more kinds s [] qs = refl
summary_more kinds s (p ∷ ps) qs = summary_more kinds (summary_then kinds s p) ps qs

pub fit_more : (kinds : List Kind) (s : Summary) (ps : List Answered) (p : Answered) → AnswersFit kinds s ps → FitsSummary (summary kinds s ps) p → AnswersFit kinds s (ps ++ p ∷ [])
unfolding summary AnswersFit
fit_more kinds s [] p co f = (f, tt)
fit_more kinds s (q ∷ ps) p co f = (co.0, fit_more kinds (summary_then kinds s q) ps p co.1 f)

pub none_more : (ps : List Answered) (p : Answered) → NoCommandFails ps → fails p.command p.answer ≡ false → NoCommandFails (ps ++ p ∷ [])
unfolding NoCommandFails
none_more [] p ok f = (f, tt)
none_more (q ∷ ps) p ok f = (ok.0, none_more ps p ok.1 f)
