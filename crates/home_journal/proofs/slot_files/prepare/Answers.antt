use Rattle.home_journal.proofs.KeptKinds.{last_of_kinds}
use Rattle.home_journal.proofs.Keeping.{knows_same, same_states}
use Rattle.slot_disks.proofs.Cited.{found_whole, open_front}
use Rattle.home_journal.proofs.slot_files.prepare.Goals as goal
use Rattle.home_journal.proofs.Prelude.{IsFound, ap, kept_states, length, subst, sym, ◌∙◌}

pub shut_gate-requires-clause-found : goal.shut_gate-requires-clause-found
shut_gate-requires-clause-found g c told =
    let bytes = g.Q.Disk.seen c.args.disk.now in
    let size = c.args.layout.size in
    let most = c.args.layout.most in
    subst (λ seen. IsFound size most seen c.in-Ok.found) (sym (c.load.ensures.reads told).same)
    (found_whole size most (length c.args.block.now) _ bytes c.in-Ok.found c.requires.block (c.in_ok-count.ensures.bytes told) c.in-Ok.ensures.found)

pub returns-in_ok-shut_gate-in-Ok-clause-knows : goal.returns-in_ok-shut_gate-in-Ok-clause-knows
returns-in_ok-shut_gate-in-Ok-clause-knows g c told =
    let bytes = g.Q.Disk.seen c.args.disk.now in
    let size = c.args.layout.size in
    let most = c.args.layout.most in
    let same = ap (λ l. kept_states c.args.kinds.now most l) (c.in_ok-count.ensures.bytes told) ∙ same_states c.args.kinds.now size most _ bytes c.requires.size (open_front size most (length c.args.block.now) bytes c.requires.block) in
    knows_same c.args.kinds.now most c.in-Ok.found.count bytes _ _ (sym same) c.in-Ok.ensures.good

pub returns-in-Err-clause-damaged : goal.returns-in-Err-clause-damaged
returns-in-Err-clause-damaged g c told =
    let bytes = g.Q.Disk.seen c.args.disk.now in
    let size = c.args.layout.size in
    let most = c.args.layout.most in
    let same = ap (λ l. kept_states c.args.kinds.now most l) (c.in_ok-count.ensures.bytes told) ∙ same_states c.args.kinds.now size most _ bytes c.requires.size (open_front size most (length c.args.block.now) bytes c.requires.block) in
    sym same ∙ c.in-Err.ensures.damaged

pub returns-in_ok-shut_gate-in-Ok-clause-of_kinds : goal.returns-in_ok-shut_gate-in-Ok-clause-of_kinds
returns-in_ok-shut_gate-in-Ok-clause-of_kinds g c some = last_of_kinds c.args.kinds.now c.args.layout.most c.in-Ok.found.count _ _ c.in-Ok.ensures.good some
