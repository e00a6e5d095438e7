use Rattle.hub_core.proofs.Prelude.{Bool, Did, Entry, List, OpenHub, RunNo, Setting, [], ap, arith, common_steps, false, inl, inr, is_quiet, list_all, not, refl, sym, true, ℕ, ◌&&◌, ◌==◌, ◌∙◌, ◌∷◌, ◌≡◌, ◌≢◌}
use Rattle.hub_core.proofs.freed_runs.free_back.Goals as goal
use Rattle.hub_core.specs.MarkedRuns.{IsAnswerAlone}

-- an answer alone frees nobody at another device
quiet_alone : (w : Setting) (r : RunNo) (k d e : ℕ) (entries : List Entry) → IsAnswerAlone w r k d entries → e ≢ d → list_all (is_quiet w e) entries ≡ true
quiet_alone w r k d e entries alone other = ap (list_all (is_quiet w e)) alone.only ∙ quiet (d == e) refl
  where
    quiet : (b : Bool) → (d == e) ≡ b → list_all (is_quiet w e) (Did r k alone.answer ∷ []) ≡ true
    quiet true same = absurd (other (let is : d ≡ e = grind (arith, common_steps, same) in sym is))
    quiet false apart = ap (λ n. not (n == e) && true) alone.device ∙ ap (λ b. not b && true) apart

pub returns-in-None : goal.returns-in-None
returns-in-None g c = record {
  marked = λ r is. c.unmark_at-in-None.ensures.marked r (c.free_each.ensures.marked r is);
  there = λ r e is before.
      let first = c.unmark_at-in-None.ensures.there r e (c.free_each.ensures.marked r is) before in
      let second = c.free_each.ensures.there r e is first.1 in
      (inr (first.0, ap (λ (s : OpenHub g.row.D.Denot). list_all (is_quiet s.setting e) c.args.made.now) (sym c.window.view_is) ∙ second.0), second.1);
}

pub returns-then-not-holds_still : goal.returns-then-not-holds_still
returns-then-not-holds_still g c = record {
  marked = c.unmark_at.ensures.marked;
  there = λ r e is before.
      let left = c.unmark_at.ensures.there r e is before in
      (inr (left.0, quiet_alone c.args.window.now.setting c.in-Some.r c.in-Some.k c.args.d.0 e c.args.made.now c.in-Some.ensures left.0), left.1);
}

pub returns-else-not-holds_still : goal.returns-else-not-holds_still
returns-else-not-holds_still g c = record {
  marked = λ r is. is;
  there = λ r e is before. (
    inl (record {
      run = c.in-Some.r;
      command = c.in-Some.k;
      answer = c.in-Some.ensures.answer;
      only = c.in-Some.ensures.only;
      holds = c.if-not-holds_still.ensures refl;
    }),
    before,
  );
}
