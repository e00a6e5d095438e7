-- The lines of a text one after another, and its division at the first that divides.
use Rattle.hub_commands.specs.Divisions.{byte_in_front, divided, division_of, is_divider, lines_with_feeds, with_script_line}
use Rattle.hub_commands.proofs.Prelude.{Bool, List, None, Some, [], ap, append-nil, append_assoc, arith, common_steps, drop, drop_all, false, flat_map, if◌then◌else◌, length, length-drop, nat_lt, position, position_or_len, refl, suc, sym, take, take_all, true, zero, ℕ, ◌++◌, ◌+◌, ◌-◌, ◌<◌, ◌==◌, ◌∙◌, ◌∷◌, ◌≡◌, ◌≤◌}

-- a line that ends with the first line feed
pub line_fed : (text : List ℕ) (k : ℕ) → position_or_len (λ b. b == 10) text ≡ k → k < length text → lines_with_feeds text ≡ take (suc k) text ∷ lines_with_feeds (drop (suc k) text)
unfolding lines_with_feeds
line_fed [] k at within = absurd (omega (arith, within))
line_fed (b ∷ bytes) zero at within =
    let feed : (b == 10) ≡ true = grind (arith, common_steps) in
    ap (λ x. if x then (b ∷ []) ∷ lines_with_feeds bytes else byte_in_front b (lines_with_feeds bytes)) feed
line_fed (b ∷ bytes) (suc k) at within =
    let other : (b == 10) ≡ false = grind (arith, common_steps) in
    let here : position_or_len (λ b. b == 10) bytes ≡ k = grind (arith, common_steps) in
    ap (λ x. if x then (b ∷ []) ∷ lines_with_feeds bytes else byte_in_front b (lines_with_feeds bytes)) other
    ∙ ap (byte_in_front b) (line_fed bytes k here (omega (arith, within)))

-- a text without a line feed is one line
pub line_whole : (text : List ℕ) → 0 < length text → length text ≤ position_or_len (λ b. b == 10) text → lines_with_feeds text ≡ text ∷ []
unfolding lines_with_feeds
line_whole [] some far = absurd (omega (arith, some))
line_whole (b ∷ []) some far =
    let other : (b == 10) ≡ false = grind (arith, common_steps) in
    ap (λ x. if x then (b ∷ []) ∷ [] else byte_in_front b []) other
line_whole (b ∷ c ∷ bytes) some far =
    let other : (b == 10) ≡ false = grind (arith, common_steps) in
    let rest : length (c ∷ bytes) ≤ position_or_len (λ b. b == 10) (c ∷ bytes) = grind (arith, common_steps) in
    ap (λ x. if x then (b ∷ []) ∷ lines_with_feeds (c ∷ bytes) else byte_in_front b (lines_with_feeds (c ∷ bytes))) other
    ∙ ap (byte_in_front b) (line_whole (c ∷ bytes) (omega arith) rest)

-- what the first place of a line feed tells
pub fed_line : (text : List ℕ) (k : ℕ) → Some k ≡ position (λ b. b == 10) text → lines_with_feeds text ≡ take (k + 1) text ∷ lines_with_feeds (drop (k + 1) text)
fed_line text k at = by_test (nat_lt (position_or_len (λ b. b == 10) text) (length text)) refl at
  where
    by_test : (x : Bool) → nat_lt (position_or_len (λ b. b == 10) text) (length text) ≡ x → Some k ≡ (if x then Some (position_or_len (λ b. b == 10) text) else None)
        → lines_with_feeds text ≡ take (k + 1) text ∷ lines_with_feeds (drop (k + 1) text)
    by_test false far found = absurd (cc)
    by_test true near found =
        let here : position_or_len (λ b. b == 10) text ≡ k = cc in
        let within : k < length text = grind (arith, common_steps) in
        let one : suc k ≡ k + 1 = omega arith in
        line_fed text k here within ∙ ap (λ n. take n text ∷ lines_with_feeds (drop n text)) one

pub whole_line : (text : List ℕ) → None ≡ position (λ b. b == 10) text → 0 < length text → lines_with_feeds text ≡ take (length text) text ∷ lines_with_feeds (drop (length text) text)
unfolding lines_with_feeds
whole_line text none some = by_test (nat_lt (position_or_len (λ b. b == 10) text) (length text)) refl none
  where
    by_test : (x : Bool) → nat_lt (position_or_len (λ b. b == 10) text) (length text) ≡ x → None ≡ (if x then Some (position_or_len (λ b. b == 10) text) else None)
        → lines_with_feeds text ≡ take (length text) text ∷ lines_with_feeds (drop (length text) text)
    by_test true near found = absurd (cc)
    by_test false far found =
        let le : length text ≤ position_or_len (λ b. b == 10) text = grind (arith, common_steps) in
        line_whole text some le
        ∙ sym (ap (λ t. t ∷ lines_with_feeds (drop (length text) text)) (take_all (length text) text (omega arith)) ∙ ap (λ t. text ∷ lines_with_feeds t) (drop_all (length text) text (omega arith)))

led_text : (b : ℕ) (lines : List (List ℕ)) (x : Bool) → flat_map (λ l. l) (if x then (b ∷ []) ∷ lines else byte_in_front b lines) ≡ b ∷ flat_map (λ l. l) lines
led_text b lines true = refl
led_text b [] false = refl
led_text b (line ∷ lines) false = refl

-- the lines behind each other are the text
lines_text : (text : List ℕ) → flat_map (λ l. l) (lines_with_feeds text) ≡ text
unfolding lines_with_feeds
lines_text [] = refl
lines_text (b ∷ bytes) = led_text b (lines_with_feeds bytes) (b == 10) ∙ ap (λ t. b ∷ t) (lines_text bytes)

take_on : (a b : ℕ) (xs : List ℕ) → take a xs ++ take b (drop a xs) ≡ take (a + b) xs
take_on zero b xs = let none : 0 + b ≡ b = omega arith in ap (λ n. take n xs) (sym none)
take_on (suc a) b [] =
    let one : suc a + b ≡ suc (a + b) = omega arith in
    none b ∙ ap (λ n. take {A = ℕ} n []) (sym one)
  where
    none : (n : ℕ) → take {A = ℕ} n [] ≡ []
    none zero = refl
    none (suc n) = refl
take_on (suc a) b (x ∷ xs) =
    let one : suc a + b ≡ suc (a + b) = omega arith in
    ap (λ t. x ∷ t) (take_on a b xs) ∙ ap (λ n. take n (x ∷ xs)) (sym one)

drop_on : (a b : ℕ) (xs : List ℕ) → drop b (drop a xs) ≡ drop (a + b) xs
drop_on zero b xs = let none : 0 + b ≡ b = omega arith in ap (λ n. drop n xs) (sym none)
drop_on (suc a) b [] =
    let one : suc a + b ≡ suc (a + b) = omega arith in
    none b ∙ ap (λ n. drop {A = ℕ} n []) (sym one)
  where
    none : (n : ℕ) → drop {A = ℕ} n [] ≡ []
    none zero = refl
    none (suc n) = refl
drop_on (suc a) b (x ∷ xs) =
    let one : suc a + b ≡ suc (a + b) = omega arith in
    drop_on a b xs ∙ ap (λ n. drop n (x ∷ xs)) (sym one)

-- what is left from a place on
pub rest_all : (n : ℕ) (xs : List ℕ) → take (length xs - n) (drop n xs) ≡ drop n xs
rest_all n xs = let long = length-drop n xs in take_all (length xs - n) (drop n xs) (omega (arith, long))

pub fits_within : (at end : ℕ) (xs : List ℕ) → end ≤ length (drop at xs) → at ≤ length xs → at + end ≤ length xs
fits_within at end xs fits within = let long = length-drop at xs in omega (arith, long, fits, within)

-- a line that does not divide is of the script
pub divides_more : (text : List ℕ) (at end : ℕ) → division_of text ≡ with_script_line (take at text) (division_of (drop at text))
    → lines_with_feeds (drop at text) ≡ take end (drop at text) ∷ lines_with_feeds (drop end (drop at text)) → is_divider (take end (drop at text)) ≡ false
    → division_of text ≡ with_script_line (take (at + end) text) (division_of (drop (at + end) text))
unfolding divided
divides_more text at end so_far first other =
    let rest = drop at text in
    let line = take end rest in
    so_far
    ∙ ap (λ ls. with_script_line (take at text) (divided ls)) first
    ∙ ap (λ x. with_script_line (take at text) (if x then record { script = []; record_text = flat_map (λ l. l) (lines_with_feeds (drop end rest)) } else with_script_line line (division_of (drop end rest)))) other
    ∙ ap (λ t. record { script = t; record_text = (division_of (drop end rest)).record_text }) (sym (append_assoc (take at text) line (division_of (drop end rest)).script) ∙ ap (λ t. t ++ (division_of (drop end rest)).script) (take_on at end text))
    ∙ ap (λ t. with_script_line (take (at + end) text) (division_of t)) (drop_on at end text)

-- the line that divides
pub divides_here : (text : List ℕ) (at end : ℕ) → division_of text ≡ with_script_line (take at text) (division_of (drop at text))
    → lines_with_feeds (drop at text) ≡ take end (drop at text) ∷ lines_with_feeds (drop end (drop at text)) → is_divider (take end (drop at text)) ≡ true
    → division_of text ≡ record { script = take at text ++ []; record_text = drop end (drop at text) }
unfolding divided
divides_here text at end so_far first this =
    let rest = drop at text in
    so_far
    ∙ ap (λ ls. with_script_line (take at text) (divided ls)) first
    ∙ ap (λ x. with_script_line (take at text) (if x then record { script = []; record_text = flat_map (λ l. l) (lines_with_feeds (drop end rest)) } else with_script_line (take end rest) (division_of (drop end rest)))) this
    ∙ ap (λ t. record { script = take at text ++ []; record_text = t }) (lines_text (drop end rest))

-- no line divides
pub divides_none : (text : List ℕ) (at : ℕ) → division_of text ≡ with_script_line (take at text) (division_of (drop at text)) → length text ≤ at
    → division_of text ≡ record { script = text; record_text = [] }
unfolding divided lines_with_feeds
divides_none text at so_far far =
    so_far
    ∙ ap (λ t. with_script_line (take at text) (division_of t)) (drop_all at text far)
    ∙ ap (λ t. record { script = t; record_text = [] }) (append-nil (take at text) ∙ take_all at text far)
