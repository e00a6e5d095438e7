-- What the reading says of the runs of the line.
use Rattle.window_order.proofs.Prelude.{AreHomed, Back, Bool, Command, CutAt, End, Failed, Grips, Item, Lacks, List, None, OfRun, Option, Ran, Reading, RunState, Setting, Some, [], any_run, ap, arith, commands_of, common_steps, count_append, count_by, cut_at, eqb-true, false, held_by, is_abort, is_committed, is_committing, is_live, is_none, is_on, is_ran, is_run, is_some, list_any, not, option_map, refl, subst, suc, true, unwrap_or, zero, ℕ, ◌&&◌, ◌++◌, ◌+◌, ◌<◌, ◌==◌, ◌||◌, ◌∙◌, ◌∷◌, ◌≡◌}
use Rattle.window_order.proofs.ReadFacts.{IsRead, lacks_count, runs_distinct}

-- a run of the window has no number 0
pub run_positive : (w : Setting) (r : ℕ) → is_run w.runs r ≡ true → (p : ℕ) × (r ≡ suc p)
run_positive w zero run = absurd (cc)
run_positive w (suc p) run = (p, refl)

pub both : (a b : Bool) → (a && b) ≡ true → (a ≡ true) × (b ≡ true)
both a b h = (grind (arith, common_steps), grind (arith, common_steps))

pub three : (a b c : Bool) → (a && b && c) ≡ true → (a ≡ true) × (b ≡ true) × (c ≡ true)
three a b c h = (grind (arith, common_steps), grind (arith, common_steps), grind (arith, common_steps))

pub four : (a b c d : Bool) → (a && b && c && d) ≡ true → a ≡ true
four a b c d h = grind (arith, common_steps)

pub none_ended : (e : Option End) → is_none e ≡ true → unwrap_or (option_map is_committing e) false ≡ false
none_ended None h = refl
none_ended (Some x) h = absurd (cc)

pub not_aborted : (e : Option End) → is_none e ≡ true → unwrap_or (option_map is_abort e) false ≡ false
not_aborted None h = refl
not_aborted (Some x) h = absurd (cc)

pub live_placed : (n : Reading) (r : ℕ) → is_live n r ≡ true → is_some (n.run r).placed ≡ true
live_placed n r live = (both (is_some (n.run r).placed) (is_none (n.run r).ended) live).0

pub live_uncommitted : (n : Reading) (r : ℕ) → is_live n r ≡ true → is_committed n r ≡ false
live_uncommitted n r live = none_ended (n.run r).ended (both (is_some (n.run r).placed) (is_none (n.run r).ended) live).1

pub live_run : (w : Setting) (n : Reading) (r : ℕ) → IsRead w n → is_live n r ≡ true → is_run w.runs r ≡ true
live_run w n r read live = (read.shaped r).known ((read.shaped r).arrived (live_placed n r live))

pub any_ran : (r : ℕ) (line : List Item) → any_run (λ q. q == r) line ≡ list_any (is_ran r) line
unfolding any_run
any_ran r [] = refl
any_ran r (Ran q ∷ is) = ap (λ b. (q.0 == r) || b) (any_ran r is)
any_ran r (Failed e k ∷ is) = any_ran r is
any_ran r (Back e k ∷ is) = any_ran r is

-- what is known of a run, by what its history says
abbrev pub state_by : Setting → Grips → ℕ → OfRun → RunState
state_by w g r o = record {
  commands = commands_of w.runs r;
  answers = o.answers;
  committed = unwrap_or (option_map is_committing o.ended) false;
  doomed = is_some o.doomed;
  undid = λ d. (o.on d).undid;
  grip = λ d. held_by w r (g d);
}

-- a live run stands in the line
pub cut_live : (w : Setting) (n : Reading) (r : ℕ) → IsRead w n → is_live n r ≡ true → CutAt r n.line
cut_live w n r read live = cut_at r n.line (runs_distinct n read.once) (any_ran r n.line ∙ read.standing.line r ∙ (λ i. live_placed n r live i && not (not_aborted (n.run r).ended (both (is_some (n.run r).placed) (is_none (n.run r).ended) live).1 i)))

-- a run that is not placed does not
pub lacks_parts : (r : ℕ) (front back : List Item) → count_by (is_ran r) (front ++ back) ≡ 0 → Lacks r front × Lacks r back
lacks_parts r front back none = (lacks_count r front (omega (arith, none, total)), lacks_count r back (omega (arith, none, total)))
  where
    total : count_by (is_ran r) (front ++ back) ≡ count_by (is_ran r) front + count_by (is_ran r) back
    total = count_append (is_ran r) front back

-- a device of commands that are homed is one of the home
pub uses_homed : (k d : ℕ) (cs : List Command) → AreHomed k cs → list_any (is_on d) cs ≡ true → d < k
unfolding AreHomed
uses_homed k d [] homed used = absurd (cc)
uses_homed k d (c ∷ cs) homed used = at_ (uses_homed k d cs homed.1) (c.device.0 == d) refl used
  where
    at_ : (list_any (is_on d) cs ≡ true → d < k) → (b : Bool) → (c.device.0 == d) ≡ b → (b || list_any (is_on d) cs) ≡ true → d < k
    at_ ih true e h = subst (λ x. x < k) (eqb-true c.device.0 d e) homed.0
    at_ ih false e h = ih h
