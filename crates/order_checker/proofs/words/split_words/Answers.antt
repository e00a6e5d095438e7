use Rattle.order_checker.proofs.Notes.{split-first, split-whole}
use Rattle.order_checker.proofs.words.split_words.Goals as goal
use Rattle.order_checker.proofs.Prelude.{None, Some, [], ap, append_assoc, arith, drop, length, length-drop, length-take, map-append, position, rules, sym, take, texts, words_of, ◌++◌, ◌+◌, ◌-◌, ◌==◌, ◌∙◌, ◌∷◌, ◌≡◌, ◌≤◌}

pub words-preserved : goal.words-preserved
words-preserved c =
    let before = c.words.words.items in
    let rest = c.words.rest.now in
    let end = c.in-Some.end in
    let at : position (λ b. b == 32) rest ≡ Some end = search rules in
    let behind = take (length rest - (end + 1)) (drop (end + 1) rest) in
    let more : texts c.push.new.self.items ≡ texts before ++ take end rest ∷ [] = ap texts c.in_ok-push.ensures.items ∙ map-append (λ word. word.now) before _ in
    let short : length behind ≤ length c.args.line.now = omega (arith, length-take (length rest - (end + 1)) (drop (end + 1) rest), length-drop (end + 1) rest, c.words.invariant.within) in
    record {
      words =
          c.words.invariant.words ∙ ap (λ words. texts before ++ words) (split-first 32 rest end at)
          ∙ sym (append_assoc (texts before) (take end rest ∷ []) (words_of behind))
          ∙ ap (λ words. words ++ words_of behind) (sym more);
      within = short;
    }

pub returns : goal.returns
returns c =
    let before = c.words.words.items in
    let rest = c.words.rest.now in
    let none : position (λ b. b == 32) rest ≡ None = search rules in
    ap texts c.in_ok-push-2.ensures.items ∙ map-append (λ word. word.now) before _
    ∙ ap (λ words. texts before ++ words) (sym (split-whole 32 rest none)) ∙ sym c.words.invariant.words
