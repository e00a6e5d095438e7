use Rattle.home_types.proofs.DeviceBits.{word_at}
use Rattle.home_types.proofs.DeviceWords.{next_found, next_none, next_passed}
use Rattle.home_types.proofs.device_sets.DeviceSet.next.Goals as goal
use Rattle.home_types.specs.DeviceSets.{Devices, IsFirstFrom}
use Rattle.std.proofs.Common.{arith, rules, subst, sym, ◌∙◌}
use Rattle.std.proofs.lemmas.Grind.{common_steps}
use Rattle.std.specs.FinSet as set
use Rattle.std.specs.Int.{trailing_zeros, w64}
use Rattle.std.specs.Prelude.{Some, false, length, ℕ, ◌%◌, ◌*◌, ◌+◌, ◌/◌, ◌<◌, ◌^◌, ◌≡◌, ◌≢◌, ◌≤◌}

pub returns-then-rest-ne0 : goal.returns-then-rest-ne0
returns-then-rest-ne0 c =
    let four : length c.self.inside.words ≡ 4 = search rules in
    let low : c.words.at / 64 < 4 = subst (λ n. c.words.at / 64 < n) four (grind (arith, common_steps)) in
    let small : c.in-Some.word.now < 2 ^ 64 = search rules in
    let some : c.in-Some.word.now / 2 ^ (c.words.at % 64) ≢ 0 = grind (arith, common_steps) in
    let there = c.in-Some.ensures.lookup.1 ∙ word_at c.self.inside.words (c.words.at / 64) c.in-Some.word.now c.in-Some.ensures.lookup.0 in
    let none = subst (λ (s : Devices). (q : ℕ) → c.args.from.0 ≤ q → q < c.words.at → set.contains s q ≡ false) (sym c.self.view_is) c.words.invariant.1 in
    subst (λ (s : Devices). IsFirstFrom (λ d. set.contains s d) c.args.from.0 (Some (c.words.at + trailing_zeros w64 (c.in-Some.word.now / 2 ^ (c.words.at % 64))))) c.self.view_is
    (next_found c.self.inside.words c.args.from.0 c.words.at c.in-Some.word.now there low c.words.invariant.0 none small some)

pub words-preserved : goal.words-preserved
words-preserved c =
    let four : length c.self.inside.words ≡ 4 = search rules in
    let low : c.words.at / 64 < 4 = subst (λ n. c.words.at / 64 < n) four (grind (arith, common_steps)) in
    let gone : c.in-Some.word.now / 2 ^ (c.words.at % 64) ≡ 0 = grind (arith, common_steps) in
    let there = c.in-Some.ensures.lookup.1 ∙ word_at c.self.inside.words (c.words.at / 64) c.in-Some.word.now c.in-Some.ensures.lookup.0 in
    let none = subst (λ (s : Devices). (q : ℕ) → c.args.from.0 ≤ q → q < c.words.at → set.contains s q ≡ false) (sym c.self.view_is) c.words.invariant.1 in
    subst (λ (s : Devices). (c.args.from.0 ≤ (c.words.at / 64 + 1) * 64) × ((q : ℕ) → c.args.from.0 ≤ q → q < (c.words.at / 64 + 1) * 64 → set.contains s q ≡ false)) c.self.view_is
    (next_passed c.self.inside.words c.args.from.0 c.words.at c.in-Some.word.now there low c.words.invariant.0 none gone)

pub returns : goal.returns
returns c =
    let four : length c.self.inside.words ≡ 4 = search rules in
    let high : 4 ≤ c.words.at / 64 = subst (λ n. n ≤ c.words.at / 64) four (grind (arith, common_steps)) in
    let none = subst (λ (s : Devices). (q : ℕ) → c.args.from.0 ≤ q → q < c.words.at → set.contains s q ≡ false) (sym c.self.view_is) c.words.invariant.1 in
    subst (λ (s : Devices). (q : ℕ) → c.args.from.0 ≤ q → set.contains s q ≡ false) c.self.view_is
    (next_none c.self.inside.words c.args.from.0 c.words.at high none)
