use Rattle.serial_line.proofs.Prelude.{Exchanged, Stays, ap, are_apart, arith, items_of, length, may_exchange, meet, meet_marks, moved, pass_there, refl, starts, subst, sym, ◌-◌, ◌<◌, ◌∙◌, ◌≡◌, ◌≤◌}
use Rattle.serial_line.proofs.Exchanged.{one_more}
use Rattle.serial_line.proofs.Neighbours.{apart_items}
use Rattle.serial_line.proofs.lines.Line.bring.Goals as goal

pub past-init : goal.past-init
past-init c = (c.requires.order, omega arith, starts c.args.self.now.marks c.args.from, refl, refl, refl, refl, Stays)

-- each exchange is one of neighbours that are apart, at or behind what is sealed
pub swap-requires : goal.swap-requires
swap-requires c =
    let low : c.args.to < c.past.at = c.past-test.true in
    let upto : c.past.at ≤ c.args.from = c.past.invariant.1 in
    let behind : c.args.self.now.sealed ≤ c.args.to = c.requires.unsealed (omega (arith, low, upto)) in
    let sealed : c.past.self.sealed ≡ c.args.self.now.sealed = c.past.invariant.5 in
    record {
      apart =
          ap (λ rs. are_apart (meet rs) (c.past.at - 1) (items_of c.past.self.marks)) c.past.invariant.6
          ∙ sym (apart_items c.args.self.now.runs c.past.self.marks (c.past.at - 1))
          ∙ may_exchange (meet_marks c.args.self.now.runs) c.args.self.now.marks c.past.self.marks c.args.to c.past.at c.args.from low upto c.requires.apart c.past.invariant.2;
      unsealed = omega (arith, low, behind, sealed);
    }

pub past-preserved : goal.past-preserved
past-preserved c =
    let low : c.args.to < c.past.at = c.past-test.true in
    let upto : c.past.at ≤ c.args.from = c.past.invariant.1 in
    let there : c.args.from < length c.args.self.now.marks = pass_there (meet_marks c.args.self.now.runs) c.args.to c.args.from c.args.self.now.marks c.requires.apart in (
      omega (arith, low),
      omega (arith, low, upto),
      c.swap.ensures.marks ∙ moved c.args.self.now.marks c.past.self.marks c.past.at c.args.from (omega (arith, low)) upto there c.past.invariant.2,
      c.swap.ensures.spare ∙ c.past.invariant.3,
      c.swap.ensures.labels ∙ c.past.invariant.4,
      c.swap.ensures.sealed ∙ c.past.invariant.5,
      c.swap.ensures.runs ∙ c.past.invariant.6,
      subst (Exchanged (meet_marks c.args.self.now.runs) c.args.self.now.marks) (sym c.swap.ensures.marks)
          (one_more (meet_marks c.args.self.now.runs) c.args.self.now.marks c.past.self.marks (c.past.at - 1)
          (may_exchange (meet_marks c.args.self.now.runs) c.args.self.now.marks c.past.self.marks c.args.to c.past.at c.args.from low upto c.requires.apart c.past.invariant.2) c.past.invariant.7),
    )
