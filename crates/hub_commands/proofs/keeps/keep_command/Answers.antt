use Rattle.hub_commands.proofs.EndedCalls.{no_script}
use Rattle.hub_commands.proofs.KeptCalls.{refused_keep, starved_keep}
use Rattle.hub_commands.proofs.keeps.keep_command.Goals as goal
use Rattle.hub_commands.proofs.Prelude.{IsUnread, IsUnwritten, keep_options_of, map, read_off, refl, rules, string_bytes, written}

pub returns-in-Err-NoMemory-clause-ends : goal.returns-in-Err-NoMemory-clause-ends
returns-in-Err-NoMemory-clause-ends g c =
    let D = g.B.Dev.Device in
    let K = g.K.Sink in
    let S = g.S.Source in
    let Q = g.Q.Disk in
    let source = read_off (S.left c.args.source.now) (S.left c.args.source.now) (S.faults c.args.source.now) (S.faults c.args.source.now) in
    let unread : IsUnread source = (refl, refl) in
    let sink = written (K.holds c.args.sink.now) (K.holds c.args.sink.now) (K.faults c.args.sink.now) (K.faults c.args.sink.now) in
    let unwritten : IsUnwritten sink = search rules in
    let refused = c.refuse-in-Err-NoMemory in
    starved_keep D.shows Q.told Q.seen Q.images Q.moment Q.images_since Q.faults
    source sink c.args.disk c.args.disk refused.result.day refused.result.fault (refused.ensures.day, unwritten) refl
    (keep_options_of (map string_bytes c.args.words.now)) refused.ensures.fault unread

pub returns-in-Err-clause-ends : goal.returns-in-Err-clause-ends
returns-in-Err-clause-ends g c =
    let D = g.B.Dev.Device in
    let K = g.K.Sink in
    let S = g.S.Source in
    let Q = g.Q.Disk in
    let source = read_off (S.left c.args.source.now) (S.left c.read_input.new.source) (S.faults c.args.source.now) (S.faults c.read_input.new.source) in
    let sink = written (K.holds c.args.sink.now) (K.holds c.args.sink.now) (K.faults c.args.sink.now) (K.faults c.args.sink.now) in
    let unwritten : IsUnwritten sink = search rules in
    let refused = c.refuse-in-Err in
    refused_keep D.shows Q.told Q.seen Q.images Q.moment Q.images_since Q.faults
    source sink c.args.disk c.args.disk refused.result.day refused.result.fault (refused.ensures.day, unwritten) refl
    (keep_options_of (map string_bytes c.args.words.now)) c.in-Ok.options c.in-Ok.ensures.meaning
    (no_script source refused.result.fault c.in-Err.fault c.in-Err.ensures.read refused.ensures.fault)
