use Rattle.command_words.proofs.Prelude.{HasKind, OutOfMemory, [], ap, app_of, fault_of, found_of, inl, inr, is_simple, is_simple_and_free, kind_of, map, matches_of, options_app, rules, string_bytes, subst, sym, ◌∙◌, ◌≡◌}
use Rattle.command_words.proofs.OptionLemmas.{options-simple, options-free, options-refused, options-taken}
use Rattle.command_words.proofs.option_words.read_with_clap.Goals as goal

pub returns-in-Err-clause-refused :
    goal.returns-in-Err-clause-refused
returns-in-Err-clause-refused c = λ _.
    let words = map string_bytes c.args.words.now in
    let app : app_of c.in-Ok.command ≡ options_app = c.in-Ok.ensures in
    let e = c.in-Err.error in
    let due : HasKind (fault_of options_app words) e = subst (λ a. HasKind (fault_of a words) e) app (c.in-Err.ensures.kinds (ap is_simple_and_free app ∙ options-free)) in
    elim due [
      | inl memory ↦ let same : c.kind.result ≡ OutOfMemory = c.kind.ensures ∙ memory in absurd (search rules)
      | inr among ↦ options-refused words (kind_of e) among
    ]

pub returns-in-Some-clause-meaning : goal.returns-in-Some-clause-meaning
returns-in-Some-clause-meaning c =
    let words = map string_bytes c.args.words.now in
    let app : app_of c.in-Ok.command ≡ options_app = c.in-Ok.ensures in
    let m = c.in-Ok-try_get_matches_from.matches in
    let free : fault_of options_app words ≡ [] = subst (λ a. fault_of a words ≡ []) app (c.in-Ok-try_get_matches_from.ensures.kinds (ap is_simple_and_free app ∙ options-free)) in
    let rows = (c.in-Ok-try_get_matches_from.ensures.matches (ap is_simple app ∙ options-simple)).0 ∙ ap (λ a. matches_of a words) app in
    options-taken words (found_of m) free rows ∙ sym c.options_in.ensures ∙ c.in-Some.is

pub returns-clause-refused : goal.returns-clause-refused
returns-clause-refused c = λ _.
    let words = map string_bytes c.args.words.now in
    let app : app_of c.in-Ok.command ≡ options_app = c.in-Ok.ensures in
    let m = c.in-Ok-try_get_matches_from.matches in
    let free : fault_of options_app words ≡ [] = subst (λ a. fault_of a words ≡ []) app (c.in-Ok-try_get_matches_from.ensures.kinds (ap is_simple_and_free app ∙ options-free)) in
    let rows = (c.in-Ok-try_get_matches_from.ensures.matches (ap is_simple app ∙ options-simple)).0 ∙ ap (λ a. matches_of a words) app in
    options-taken words (found_of m) free rows ∙ sym c.options_in.ensures ∙ c.in-None.is
