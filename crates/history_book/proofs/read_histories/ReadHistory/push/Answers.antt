use Rattle.history_book.proofs.Prelude.{Command, Did, HistoryState, [], ap, ap₂, arith, common_steps, is_run, may_follow, read_in, register_after, sym, ◌++◌, ◌∙◌, ◌∷◌, ◌≡◌}
use Rattle.history_book.proofs.HistoryReads.{answer_read, other_read, register_place}
use Rattle.history_book.proofs.read_histories.ReadHistory.push.Goals as goal

pub invariant_of-self : goal.invariant_of-self
invariant_of-self c =
    let is : c.args.entry ≡ Did c.in-Did.r c.in-Did.k c.in-Did.answer = c.in-Did.is in
    let more = c.push.ensures.items ∙ ap (λ e. c.self.inside.book.items ++ record { maker = c.args.maker; entry = e } ∷ []) is in
    let follows = ap (λ (s : HistoryState). may_follow s.setting (read_in s) (Did c.in-Did.r c.in-Did.k c.in-Did.answer)) c.self.view_is ∙ ap (may_follow c.args.self.now.setting (read_in c.args.self.now)) (sym is) ∙ c.requires.follows in
    let run = ap (λ (s : HistoryState). is_run s.setting.runs c.in-Did.r.0) c.self.view_is ∙ (let all = ap (may_follow c.args.self.now.setting (read_in c.args.self.now)) (sym is) ∙ c.requires.follows in grind (arith, common_steps)) in
    let within = register_place _ _ c.in-Did.r.0 c.self.invariant run in
    let value = c.register_after.ensures ∙ ap₂ (λ (x : Command) v. register_after x.job c.in-Did.answer v) c.command_in-job.ensures (c.self.invariant.registers_are c.in-Did.r.0 within) in
    rw value (answer_read _ _ _ _ _ c.args.maker c.in-Did.k c.in-Did.r c.in-Did.answer _ more follows c.self.invariant)

pub invariant_of-self-in_default : goal.invariant_of-self-in_default
invariant_of-self-in_default c =
    let follows = ap (λ (s : HistoryState). may_follow s.setting (read_in s) c.args.entry) c.self.view_is ∙ c.requires.follows in
    other_read _ _ _ _ _ c.args.maker c.args.entry _ c.in_default.not-Did c.push.ensures.items follows c.self.invariant
