use Rattle.jit_scheduler.proofs.Admitted.{exact_is, may_fit, may_reach, may_run, placing_told, within_told}
use Rattle.jit_scheduler.proofs.admissions.admit.Goals as goal
use Rattle.jit_scheduler.proofs.Prelude.{answer_by, ap, ◌∙◌}

pub first_place-place-requires : goal.first_place-place-requires
first_place-place-requires c = may_run c.args.s.now c.args.r.0 c.args.arrived c.requires

pub find_denial-denial-requires-clause-run : goal.find_denial-denial-requires-clause-run
find_denial-denial-requires-clause-run c = may_run c.args.s.now c.args.r.0 c.args.arrived c.requires

pub find_denial-denial-requires-clause-few : goal.find_denial-denial-requires-clause-few
find_denial-denial-requires-clause-few c = may_fit c.args.s.now c.args.r.0 c.args.arrived c.requires

pub find_denial-denial-requires-clause-homed : goal.find_denial-denial-requires-clause-homed
find_denial-denial-requires-clause-homed c = may_reach c.args.s.now c.args.r.0 c.args.arrived c.requires

pub returns-clause-placing : goal.returns-clause-placing
returns-clause-placing c =
    placing_told c.args.s.now c.args.r.0 c.args.arrived c.args.moment
    c.first_place-place.result c.answer_by.result c.first_place-place.ensures (c.answer_by.ensures ∙ ap (λ o. answer_by c.first_place-place.result o c.args.arrived c.args.moment) c.find_denial-denial.ensures)

pub returns-clause-exact : goal.returns-clause-exact
returns-clause-exact c =
    exact_is c.args.s.now c.args.r.0 c.args.arrived c.args.moment
    c.first_place-place.result c.answer_by.result c.first_place-place.ensures (c.answer_by.ensures ∙ ap (λ o. answer_by c.first_place-place.result o c.args.arrived c.args.moment) c.find_denial-denial.ensures)

pub returns-clause-within : goal.returns-clause-within
returns-clause-within c =
    within_told c.args.s.now c.args.r.0 c.args.arrived c.args.moment
    c.first_place-place.result c.answer_by.result c.requires c.first_place-place.ensures (c.answer_by.ensures ∙ ap (λ o. answer_by c.first_place-place.result o c.args.arrived c.args.moment) c.find_denial-denial.ensures)
