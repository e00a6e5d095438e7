-- Words that stand in a line: no byte of them ends a word or a line.
use Rattle.printed_records.proofs.Prelude.{All, All-append, AllPass-from_list_all, Bool, List, [], arith, common_steps, false, get_or, list_all, list_all-append, nat_le, not, refl, true, ℕ, ⊤, ◌&&◌, ◌++◌, ◌==◌, ◌∷◌, ◌≡◌}

-- the byte does not stand in the text
abbrev pub Lacks : ℕ → List ℕ → Type 0
Lacks b text = All (λ x. (x == b) ≡ false) text

-- a text that is seen to lack a byte
pub lacks-seen : (b : ℕ) (text : List ℕ) → list_all (λ x. not (x == b)) text ≡ true → Lacks b text
lacks-seen b text all k d within =
    let passed : not (get_or text k d == b) ≡ true = AllPass-from_list_all (λ x. not (x == b)) text all k d within in
    grind (arith, common_steps)

-- a byte that may stand in a name, a number or a time
abbrev pub is_plain : ℕ → Bool
is_plain b = nat_le 45 b && not (b == 61)

abbrev pub IsPlain : List ℕ → Type 0
IsPlain text = list_all is_plain text ≡ true

-- a plain text lacks each byte that is not plain
pub lacks-plain : (b : ℕ) (text : List ℕ) → is_plain b ≡ false → IsPlain text → Lacks b text
lacks-plain b text other plain k d within =
    let passed : is_plain (get_or text k d) ≡ true = AllPass-from_list_all is_plain text plain k d within in
    differs (get_or text k d) passed
  where
    differs : (x : ℕ) → is_plain x ≡ true → (x == b) ≡ false
    differs x passed = grind (arith, common_steps)

pub plain-append : (a b : List ℕ) → IsPlain a → IsPlain b → IsPlain (a ++ b)
plain-append a b plain_a plain_b = grind (arith, common_steps, list_all-append is_plain a b)

-- a text without a space or a line feed
pub record IsWord (text : List ℕ) : Type 0 where
  pub no_feed : Lacks 10 text
  pub no_space : Lacks 32 text

pub word-plain : (text : List ℕ) → IsPlain text → IsWord text
word-plain text plain = record { no_feed = lacks-plain 10 text refl plain; no_space = lacks-plain 32 text refl plain }

pub word-seen : (text : List ℕ) → list_all (λ x. not (x == 10)) text ≡ true → list_all (λ x. not (x == 32)) text ≡ true → IsWord text
word-seen text no_feed no_space = record { no_feed = lacks-seen 10 text no_feed; no_space = lacks-seen 32 text no_space }

pub word-append : (a b : List ℕ) → IsWord a → IsWord b → IsWord (a ++ b)
word-append a b word_a word_b =
    record {
      no_feed = All-append (λ x. (x == 10) ≡ false) a b word_a.no_feed word_b.no_feed;
      no_space = All-append (λ x. (x == 32) ≡ false) a b word_a.no_space word_b.no_space;
    }

-- each is a word
abbrev pub AreWords : List (List ℕ) → Type 0
AreWords [] = ⊤
AreWords (word ∷ words) = IsWord word × AreWords words
