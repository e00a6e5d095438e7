-- What is kept of a configuration of the weak model, where entries are made and grips go out and come home.
use Rattle.hub_core.proofs.Prelude.{Answer, Cause, Command, Commands, Configuration, Did, EachOut, Entry, Grip, Grips, GripsFit, HoldsNone, IsTrue, List, None, OfRun, Probes, Purpose, Reading, Setting, Some, Undoes, [], along, and_parts, ap, arith, commands_of, common_steps, entry, fails, false, fold, is_doomed, is_some, kept_by, length, may_follow, next_command, none_fails, not, point, probes_of, put_other, put_same, read_of, refl, run_no, slice_get, subst, sym, true, weakly_allowed, ℕ, ◌&&◌, ◌++◌, ◌<◌, ◌==◌, ◌∙◌, ◌∷◌, ◌≡◌, ◌≢◌, ◌≤◌}
use Rattle.hub_core.proofs.steps.Afters.{each_with, read_with}
use Rattle.hub_core.specs.WeakKept.{NoneHasFailed, WeakIsKept, goes_weakly}

-- another moment, other grips, and other probes left, with the same history
pub weak_same : (s : Configuration) (rounds opened m : ℕ) (held probes : ℕ → ℕ) (g : Grips) → (read_of s).moment ≤ m
    → ((d : ℕ) → probes_of (record s { moment = m; probes = probes; grips = g }) d ≤ rounds) → GripsFit (point s.setting (read_of s) g)
    → EachOut g (goes_weakly (read_of s)) → WeakIsKept s rounds opened held
    → WeakIsKept (record s { moment = m; probes = probes; grips = g }) rounds opened held
weak_same s rounds opened m held probes g later few fit out kept =
    record {
      opens = kept.opens;
      weak = kept.weak;
      kinds = kept.kinds;
      probes = few;
      values = kept.values;
      well_formed = kept.well_formed;
      moment = later;
      allowed = kept.allowed;
      grips = fit;
      out = out;
      passes = kept.passes;
      held_is = kept.held_is;
    }

-- the entries may be made then: they may follow and are allowed, and what is out and what the hub holds fit what is read after them
pub record MayMake (s : Configuration) (entries : List Entry) (m : ℕ) (g : Grips) (after : ℕ → ℕ) (n : Reading) : Type 0 where
  pub follows : IsTrue (along s.setting (may_follow s.setting) (read_of s) entries)
  pub allowed : IsTrue (along s.setting (weakly_allowed s.setting) (read_of s) entries)
  pub moment : n.moment ≤ m
  pub grips : GripsFit (point s.setting n g)
  pub out : EachOut g (goes_weakly n)
  pub passes : NoneHasFailed s.setting n
  pub held_is : (d : ℕ) → d < length s.setting.first → after d ≡ n.last d

-- the configuration with the entries of a step more, and these grips
abbrev pub made_with : Configuration → ℕ → ℕ → Grips → List Entry → Configuration
made_with s maker m g entries = record s { history = s.history ++ kept_by maker entries; moment = m; grips = g }

pub weak_made : (s : Configuration) (rounds opened maker m : ℕ) (held after : ℕ → ℕ) (g : Grips) (entries : List Entry) → MayMake s entries m g after
    (fold (entry s.setting) (read_of s) entries) → ((d : ℕ) → probes_of (made_with s maker m g entries) d ≤ probes_of s d) → WeakIsKept s rounds opened held
    → WeakIsKept (made_with s maker m g entries) rounds opened after
weak_made s rounds opened maker m held after g entries may fewer kept =
    record {
      opens = kept.opens;
      weak = kept.weak;
      kinds = kept.kinds;
      probes = λ d. omega (arith, fewer d, kept.probes d);
      values = kept.values;
      well_formed = each_with s (may_follow s.setting) maker entries kept.well_formed may.follows;
      moment = now.moment;
      allowed = each_with s (weakly_allowed s.setting) maker entries kept.allowed may.allowed;
      grips = now.grips;
      out = now.out;
      passes = now.passes;
      held_is = now.held_is;
    }
  where
    now : MayMake s entries m g after (read_of (made_with s maker m g entries))
    now = subst (λ n. MayMake s entries m g after n) (sym (read_with s maker entries)) may

-- What is out

-- a grip may be out as before where its device, and the doom of its run, are read as before
goes_same : (n m : Reading) (d : ℕ) (grip : Grip) → m.up d ≡ n.up d → m.last d ≡ n.last d → is_doomed m grip.maker ≡ is_doomed n grip.maker → goes_weakly n d grip ≡ true → goes_weakly m d grip ≡ true
goes_same n m d grip up last sound old = by_purpose grip.purpose old
  where
    by_purpose : (p : Purpose) → goes_weakly n d (record { maker = grip.maker; purpose = p }) ≡ true → goes_weakly m d (record { maker = grip.maker; purpose = p }) ≡ true
    by_purpose (Commands k) e = (λ i. up i && not (sound i)) ∙ e
    by_purpose (Undoes v) e = e
    by_purpose (Probes None) e = up ∙ e
    by_purpose (Probes (Some v)) e = (λ i. not (up i) && (v == last i)) ∙ e

-- what is said of each grip that is still out
pub record IsStillOut (n m : Reading) (g h : Grips) (d : ℕ) (grip : Grip) : Type 0 where
  pub before : g d ≡ Some grip
  pub up : m.up d ≡ n.up d
  pub last : m.last d ≡ n.last d
  pub sound : is_doomed m grip.maker ≡ is_doomed n grip.maker

pub out_stays : (n m : Reading) (g h : Grips) → ((d : ℕ) (grip : Grip) → h d ≡ Some grip → IsStillOut n m g h d grip) → EachOut g (goes_weakly n) → EachOut h (goes_weakly m)
out_stays n m g h still out d grip at = let old = still d grip at in goes_same n m d grip old.up old.last old.sound (out d grip old.before)

-- where one run changes alone, and holds no grip
pub maker_sound : (n m : Reading) (g : Grips) (r d : ℕ) (grip : Grip) → ((q : ℕ) → q ≢ r → m.run q ≡ n.run q) → HoldsNone g r → g d ≡ Some grip → is_doomed m grip.maker ≡ is_doomed n grip.maker
maker_sound n m g r d grip others none at = ap (λ (o : OfRun). is_some o.doomed) (others grip.maker other)
  where
    other : grip.maker ≢ r
    other is = none d grip.purpose (at ∙ ap (λ x. Some (record { maker = x; purpose = grip.purpose })) is)

-- Must commands that failed

-- where one run changes alone
pub passes_others : (w : Setting) (n m : Reading) (r : ℕ) → ((q : ℕ) → q ≢ r → m.run q ≡ n.run q) → ((m.run r).doomed ≡ None → IsTrue (none_fails (commands_of w.runs r) (m.run r).answers)) → NoneHasFailed w n → NoneHasFailed w m
passes_others w n m r others own old q = elim (q == r) as (λ b. (q == r) ≡ b → (m.run q).doomed ≡ None → IsTrue (none_fails (commands_of w.runs q) (m.run q).answers)) [
  | true ↦ (λ e. let same : q ≡ r = grind (arith, common_steps) in subst (λ x. (m.run x).doomed ≡ None → IsTrue (none_fails (commands_of w.runs x) (m.run x).answers)) (sym same) own)
  | false ↦ (λ e. let other : q ≢ r = grind (arith, common_steps) in subst (λ (o : OfRun). o.doomed ≡ None → IsTrue (none_fails (commands_of w.runs q) o.answers)) (sym (others q other)) (old q))
] refl

-- where no run has another answer or doom
pub passes_same : (w : Setting) (n m : Reading) → ((q : ℕ) → (m.run q).doomed ≡ (n.run q).doomed) → ((q : ℕ) → (m.run q).answers ≡ (n.run q).answers) → NoneHasFailed w n → NoneHasFailed w m
passes_same w n m dooms answers old q sound = subst (λ xs. IsTrue (none_fails (commands_of w.runs q) xs)) (sym (answers q)) (old q (sym (dooms q) ∙ sound))

-- where the one run is doomed that changes
pub passes_doomed : (w : Setting) (n m : Reading) (r : ℕ) (cause : Cause) → ((q : ℕ) → q ≢ r → m.run q ≡ n.run q) → (m.run r).doomed ≡ Some cause → NoneHasFailed w n → NoneHasFailed w m
passes_doomed w n m r cause others doomed old = passes_others w n m r others (λ sound. absurd (let both : Some cause ≡ None = sym doomed ∙ sound in cc)) old

-- one answer more that is no failure
passes_more : (cs : List Command) (xs : List Answer) (c : Command) (a : Answer) → slice_get cs (length xs) ≡ Some c → fails c a ≡ false → IsTrue (none_fails cs xs) → IsTrue (none_fails cs (xs ++ a ∷ []))
passes_more [] xs c a at ok old = refl
passes_more (x ∷ cs) [] c a at ok old = rw (ap (λ (y : Command). fails y a) (first at) ∙ ok) (none cs)
  where
    first : Some x ≡ Some c → x ≡ c
    first e = cc

    none : (ds : List Command) → none_fails ds [] ≡ true
    none [] = refl
    none (d ∷ ds) = refl
passes_more (x ∷ cs) (y ∷ xs) c a at ok old = rw (and_parts (not (fails x y)) (none_fails cs xs) old).0 (passes_more cs xs c a at ok (and_parts (not (fails x y)) (none_fails cs xs) old).1)

pub passes_did : (w : Setting) (n : Reading) (r k : ℕ) (a : Answer) (c : Command) → next_command w n r ≡ Some c → fails c a ≡ false → (n.run r).doomed ≡ None → NoneHasFailed w n → NoneHasFailed w (entry w n (Did (run_no r) k a))
passes_did w n r k a c next ok sound old =
    passes_others w n (entry w n (Did (run_no r) k a)) r (λ q other. put_other n.run r _ q other)
    (λ e. subst (λ xs. IsTrue (none_fails (commands_of w.runs r) xs)) (sym (ap (λ (o : OfRun). o.answers) (put_same n.run r _))) (passes_more (commands_of w.runs r) (n.run r).answers c a next ok (old r sound))) old
