use Rattle.hub_commands.proofs.board_lines.board_line.Goals as goal
use Rattle.hub_commands.proofs.Prelude.{List, board_line, codes, ℕ, ◌++◌, ◌∙◌, ◌≡◌}
use Rattle.std.proofs.lemmas.List.{append_assoc}
use Rattle.std.specs.Fmt.{decimal}

-- the chunks, as they are written, are the line
line_is : (windows runs committed aborted : List ℕ) →
    codes "board windows " ++ (windows ++ (codes " runs " ++ (runs ++ (codes " committed " ++ (committed ++ (codes " aborted " ++ (aborted ++ codes "\n")))))))
    ≡ codes "board windows " ++ windows ++ codes " runs " ++ runs ++ codes " committed " ++ committed ++ codes " aborted " ++ aborted ++ codes "\n"
line_is windows runs committed aborted = simp append_assoc

pub returns-in-Ok : goal.returns-in-Ok
unfolding board_line
returns-in-Ok c =
    let counts = c.args.counts.now in
    c.from_text.ensures ∙ c.in-Ok.ensures.ok ∙ line_is (decimal counts.windows) (decimal counts.runs) (decimal counts.committed) (decimal counts.aborted)
