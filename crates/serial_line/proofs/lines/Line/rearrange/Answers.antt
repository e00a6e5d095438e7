use Rattle.serial_line.proofs.Prelude.{Bool, Exchanged, List, Mark, Stays, ap, append-nil, arith, begins, brought, chosen, drop, drop_all, false, first_held, flag_is, front_chosen, front_size, further, length, length_moved, may_pass, meet_marks, others, partly, passed_more, passes, rearranged, refl, size_more, size_same, stays, subst, sym, take, take_all, there, true, ℕ, ◌++◌, ◌+◌, ◌-◌, ◌<◌, ◌∙◌, ◌≡◌, ◌≤◌}
use Rattle.serial_line.proofs.Exchanged.{chained, first_stay}
use Rattle.serial_line.proofs.Neighbours.{closed_marks}
use Rattle.serial_line.proofs.lines.Line.rearrange.Goals as goal
use Rattle.serial_line.proofs.lines.Line.rearrange.Goals.{else-before-at, then-before-at}

-- no more items are in the set than were looked at
few : (bs : List Bool) (ms : List Mark) (at done : ℕ) → length bs ≡ length ms → at < length ms → done ≡ length (front_chosen at bs ms) → done ≤ at
few bs ms at done size less is = let sum = front_size bs ms at size (omega (arith, less)) in omega (arith, sum, is)

pub items-init : goal.items-init
items-init c = let start = begins c.args.before.now c.args.self.now.marks in (start.0, start.1, refl, refl, refl, refl, refl, Stays)

pub bring-requires-clause-order : goal.bring-requires-clause-order
bring-requires-clause-order c = few c.args.before.now c.args.self.now.marks c.items.at c.items.done c.requires.size (subst (λ k. c.items.at < k) c.len-at-end.ensures.len c.items-test.true) c.items.invariant.1

-- the item passes those that are not in the set
pub bring-requires-clause-apart : goal.bring-requires-clause-apart
bring-requires-clause-apart c =
    let inside : c.items.at < length c.args.self.now.marks = subst (λ k. c.items.at < k) c.len-at-end.ensures.len c.items-test.true in
    let within : c.items.at < length c.args.before.now = subst (λ k. c.items.at < k) (sym c.requires.size) inside in
    let item = there c.args.self.now.marks c.items.at inside in
    let closed = closed_marks c.args.self.now.runs c.args.before.now c.args.self.now.marks c.requires.closed in
    (λ k. may_pass (meet_marks (c.items.invariant.6 k)) (c.items.invariant.1 k) c.items.at (c.items.invariant.0 k))
    ∙ passes (meet_marks c.args.self.now.runs) c.args.before.now c.args.self.now.marks c.items.at item.0 c.requires.size closed (flag_is c.args.before.now c.items.at true within c.if-before-at.true) item.1 inside

pub bring-requires-clause-unsealed : goal.bring-requires-clause-unsealed
bring-requires-clause-unsealed c = λ passes.
    let inside : c.items.at < length c.args.self.now.marks = subst (λ k. c.items.at < k) c.len-at-end.ensures.len c.items-test.true in
    let done : c.items.done ≡ length (front_chosen c.items.at c.args.before.now c.args.self.now.marks) = c.items.invariant.1 in
    let some : c.items.done < c.items.at = passes in
    let sealed : c.items.self.sealed ≡ c.args.self.now.sealed = c.items.invariant.5 in
    let low = first_held c.args.self.now.sealed c.items.at c.args.before.now c.args.self.now.marks (omega (arith, inside)) c.requires.sealed (omega (arith, some, done)) in
    omega (arith, low, sealed, done)

pub overflow_add-done : goal.overflow_add-done
overflow_add-done c =
    let low = few c.args.before.now c.args.self.now.marks c.items.at c.items.done c.requires.size (subst (λ k. c.items.at < k) c.len-at-end.ensures.len c.items-test.true) c.items.invariant.1 in
    let test = c.items-test.true in
    let top = c.len-at-end.type_inv in
    omega (arith, low, test, top)

pub items-preserved : goal.items-preserved
items-preserved c =
    let inside : c.items.at < length c.args.self.now.marks = subst (λ k. c.items.at < k) c.len-at-end.ensures.len c.items-test.true in
    let within : c.items.at < length c.args.before.now = subst (λ k. c.items.at < k) (sym c.requires.size) inside in
    let item = there c.args.self.now.marks c.items.at inside in
    elim c.if-before-at.branch [
      | then-before-at w ↦
          let flag = flag_is c.args.before.now c.items.at true within w.if-before-at.true in (
            ap (λ s. s.marks) w.self-is ∙ passed_more c.args.before.now c.args.self.now.marks w.bring.new.self.marks c.items.at item.0 c.requires.size flag
                item.1 inside
                (w.bring.ensures.marks ∙ (λ k. take (c.items.invariant.1 k) (c.items.invariant.0 k) ++ brought (c.items.at - c.items.invariant.1 k)
                (drop (c.items.invariant.1 k) (c.items.invariant.0 k)))) ∙ ap (λ j. partly j c.args.before.now c.args.self.now.marks) (further c.items.at),
            w.done-is ∙ ap (λ j. j + 1) c.items.invariant.1 ∙ sym (size_more c.args.before.now c.args.self.now.marks c.items.at item.0 flag item.1) ∙ ap (λ j. length (front_chosen j c.args.before.now c.args.self.now.marks)) (further c.items.at),
            ap (λ s. s.spare) w.self-is ∙ w.bring.ensures.spare ∙ c.items.invariant.2,
            ap (λ s. length s.marks) w.self-is ∙ ap length w.bring.ensures.marks ∙ length_moved c.items.done (c.items.at - c.items.done) c.items.self.marks ∙ c.items.invariant.3,
            ap (λ s. s.labels) w.self-is ∙ w.bring.ensures.labels ∙ c.items.invariant.4,
            ap (λ s. s.sealed) w.self-is ∙ w.bring.ensures.sealed ∙ c.items.invariant.5,
            ap (λ s. s.runs) w.self-is ∙ w.bring.ensures.runs ∙ c.items.invariant.6,
            subst (λ s. Exchanged (meet_marks c.args.self.now.runs) c.args.self.now.marks s.marks) (sym w.self-is)
                (chained (meet_marks c.args.self.now.runs) c.args.self.now.marks c.items.self.marks w.bring.new.self.marks c.items.invariant.7
                (subst (λ rs. Exchanged (meet_marks rs) c.items.self.marks w.bring.new.self.marks) c.items.invariant.6 w.bring.ensures.exchanges)),
          )
      | else-before-at w ↦
          let flag = flag_is c.args.before.now c.items.at false within w.if-before-at.false in (
            ap (λ s. s.marks) w.self-is ∙ c.items.invariant.0 ∙ stays c.args.before.now c.args.self.now.marks c.items.at item.0 flag item.1 ∙ ap (λ j. partly j c.args.before.now c.args.self.now.marks) (further c.items.at),
            w.done-is ∙ c.items.invariant.1 ∙ sym (size_same c.args.before.now c.args.self.now.marks c.items.at flag) ∙ ap (λ j. length (front_chosen j c.args.before.now c.args.self.now.marks)) (further c.items.at),
            ap (λ s. s.spare) w.self-is ∙ c.items.invariant.2,
            ap (λ s. length s.marks) w.self-is ∙ c.items.invariant.3,
            ap (λ s. s.labels) w.self-is ∙ c.items.invariant.4,
            ap (λ s. s.sealed) w.self-is ∙ c.items.invariant.5,
            ap (λ s. s.runs) w.self-is ∙ c.items.invariant.6,
            subst (λ s. Exchanged (meet_marks c.args.self.now.runs) c.args.self.now.marks s.marks) (sym w.self-is) c.items.invariant.7,
          )
    ]

pub returns-clause-stay : goal.returns-clause-stay
returns-clause-stay c =
    let past = c.items-test.false in
    let count = c.len-at-end.ensures.len in
    let size = c.requires.size in
    let flags = take_all c.items.at c.args.before.now (omega (arith, past, count, size)) in
    let marks = take_all c.items.at c.args.self.now.marks (omega (arith, past, count)) in
    let none = drop_all c.items.at c.args.self.now.marks (omega (arith, past, count)) in
    let end = append-nil (others c.args.before.now c.args.self.now.marks) in
    let seen : c.items.self.marks ≡ rearranged c.args.before.now c.args.self.now.marks = c.items.invariant.0 ∙ (λ k. chosen (flags k) (marks k) ++ (others (flags k) (marks k) ++ none k)) ∙ ap (λ l. chosen c.args.before.now c.args.self.now.marks ++ l) end in
    ap (take c.args.self.now.sealed) seen ∙ first_stay c.args.before.now c.args.self.now.marks c.args.self.now.sealed c.requires.sealed
