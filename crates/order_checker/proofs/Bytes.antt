-- Where a byte stands first in a text.
use Rattle.memchr.specs.Find.{IsFirstByte, is_byte}
use Rattle.order_checker.proofs.Prelude.{List, None, Option, Some, arith, common_steps, length, position, position_or_len, position_or_len_is, ℕ, ◌<◌, ◌==◌, ◌≡◌}
use Rattle.std.proofs.lemmas.Bool.{false_from_ne_true}

pub first-place : (byte : ℕ) (text : List ℕ) (found : Option ℕ) → IsFirstByte (is_byte byte) text found → found ≡ position (λ b. b == byte) text
first-place byte text None nowhere =
    let end : position_or_len (λ b. b == byte) text ≡ length text =
    position_or_len_is (λ b. b == byte) text (length text) 0 (omega arith) (λ k before. false_from_ne_true _ (nowhere k (omega arith) before)) (λ within. absurd (omega arith)) in
    rw end (grind (arith, common_steps))
first-place byte text (Some place) first =
    let at : position_or_len (λ b. b == byte) text ≡ place =
    position_or_len_is (λ b. b == byte) text place 0 (omega (arith, first.0.high)) (λ k before. false_from_ne_true _ (first.0.before k (omega arith) before)) (λ within. first.1) in
    let within : place < length text = first.0.high in
    rw at (grind (arith, common_steps))
