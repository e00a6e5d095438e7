use Rattle.day_report.proofs.days.push_counts.Goals as goal
use Rattle.day_report.proofs.Prelude.{List, ap, append_assoc, codes, decimal, string_bytes, ℕ, ◌++◌, ◌+◌, ◌∙◌, ◌≡◌}
use Rattle.std.proofs.lemmas.Result.{on_ok_weaker}

-- the pieces, as they are written, are the line
line_is : (windows runs committed aborted : List ℕ) →
    codes "total windows " ++ (windows ++ (codes " runs " ++ (runs ++ (codes " committed " ++ (committed ++ (codes " aborted " ++ (aborted ++ codes "\n")))))))
    ≡ codes "total windows " ++ windows ++ codes " runs " ++ runs ++ codes " committed " ++ committed ++ codes " aborted " ++ aborted ++ codes "\n"
line_is windows runs committed aborted = simp append_assoc

pub returns : goal.returns
returns c =
    on_ok_weaker c.writeln.result
    (λ h. h ∙ ap (λ line. string_bytes c.args.text.now ++ line) (line_is (decimal c.args.windows) (decimal (c.args.committed + c.args.aborted)) (decimal c.args.committed) (decimal c.args.aborted)))
    c.writeln.ensures.bytes
