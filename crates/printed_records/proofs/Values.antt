-- Values and answers as they are printed, read again.
use Rattle.printed_records.proofs.Prelude.{All-get_or, Answer, Bool, Command, DeviceText, Down, Fine, Found, IsName, IsSoundDevice, IsSoundKind, Kind, List, None, Range, Skipped, Some, States, [], answer_of, answer_text, ap, arith, bytes_eq, bytes_eq-Decides, codes, common_steps, decimal, false, get_or, has_value, if◌then◌else◌, is_always, is_ascii_digit, length, list_all, not, option_and_then, option_map, plain_device, refl, slice_get, slice_get-get_or, starts_with_letter, subst, sym, true, true≢false, unwrap_or, value_at, value_of, value_text, value_written, writes, ℕ, ⊤, ◌&&◌, ◌<◌, ◌^◌, ◌∙◌, ◌≡◌}
use Rattle.printed_records.proofs.Firsts.{bytes_eq-self, position-at}
use Rattle.printed_records.proofs.Names.{name-letter, name-plain}
use Rattle.printed_records.proofs.Numerals.{decimal-plain, decimal-digits, number-decimal}
use Rattle.printed_records.proofs.Plain.{IsPlain}

-- the text of a value: plain, not the word for down or for skipped, and read as the value
pub record IsValueText (kind : Kind) (states : List (List ℕ)) (v : ℕ) (text : List ℕ) : Type 0 where
  pub plain : IsPlain text
  pub no_dash : bytes_eq text (codes "-") ≡ false
  pub no_slash : bytes_eq text (codes "/") ≡ false
  pub written : value_written kind states text ≡ Some v

pub no-bytes_eq : (a b : List ℕ) → (a ≡ b → ⊥) → bytes_eq a b ≡ false
no-bytes_eq a b differ = which (bytes_eq a b) refl
  where
    which : (t : Bool) → bytes_eq a b ≡ t → bytes_eq a b ≡ false
    which true same = absurd (differ ((bytes_eq-Decides a b).0 same))
    which false same = same

-- a name is no word that begins otherwise
name-other : (word name : List ℕ) → starts_with_letter word ≡ false → IsName name → bytes_eq name word ≡ false
name-other word name begins is = no-bytes_eq name word (λ same. absurd (true≢false (sym (subst (λ t. starts_with_letter t ≡ true) same (name-letter name is)) ∙ begins)))

-- nor is a number one that is not of digits alone
decimal-other : (word : List ℕ) (n : ℕ) → list_all is_ascii_digit word ≡ false → n < 2 ^ 64 → bytes_eq (decimal n) word ≡ false
decimal-other word n has small = no-bytes_eq (decimal n) word (λ same. absurd (true≢false (sym (subst (λ t. list_all is_ascii_digit t ≡ true) same (decimal-digits n small)) ∙ has)))

value_text-is : (kind : Kind) (states : List (List ℕ)) (v : ℕ) → IsSoundKind kind states → has_value kind v ≡ true → IsValueText kind states v (value_text states v)
unfolding value_text
value_text-is (States n) states v sound has =
    let within : v < length states = grind (arith, common_steps, sound.0) in
    let at : slice_get states v ≡ Some (get_or states v []) = slice_get-get_or states v [] within in
    let is : IsName (get_or states v []) = All-get_or IsName states v [] within sound.3 in
    let read = position-at (λ state. bytes_eq (get_or states v []) state) states v (get_or states v []) at (bytes_eq-self (get_or states v [])) (sound.4 v (get_or states v []) at) in
    let named : IsValueText (States n) states v (get_or states v []) =
    record { plain = name-plain (get_or states v []) is; no_dash = name-other (codes "-") (get_or states v []) refl is; no_slash = name-other (codes "/") (get_or states v []) refl is; written = read } in
    subst (IsValueText (States n) states v) (sym (ap (λ o. unwrap_or o (decimal v)) at)) named
value_text-is (Range low high) states v sound has =
    let small : v < 2 ^ 64 = grind (arith, common_steps, sound.1, sound.2) in
    let nothing : unwrap_or (slice_get states v) (decimal v) ≡ decimal v = ap (λ ss. unwrap_or (slice_get ss v) (decimal v)) sound.0 in
    let numeral : IsValueText (Range low high) states v (decimal v) =
    record { plain = decimal-plain v small; no_dash = decimal-other (codes "-") v refl small; no_slash = decimal-other (codes "/") v refl small; written = number-decimal v small } in
    subst (IsValueText (Range low high) states v) (sym nothing) numeral

-- the printed value of a device is read as the value
pub value-text : (device : DeviceText) (v : ℕ) → IsSoundDevice (plain_device device) → has_value device.kind v ≡ true
    → IsValueText device.kind device.states.items v (value_text device.states.items v)
value-text device v sound has = value_text-is device.kind device.states.items v sound.kind has

pub value-read : (device : DeviceText) (v : ℕ) → IsSoundDevice (plain_device device) → has_value device.kind v ≡ true
    → value_of device (value_text device.states.items v) ≡ Some v
value-read device v sound has =
    ap (option_and_then (λ x. if has_value device.kind x then Some x else None)) (value-text device v sound has).written
    ∙ ap (λ b. if b then Some v else None) has

-- an answer that a command of the device may have
abbrev pub IsAnswerOf : Kind → Command → Answer → Type 0
IsAnswerOf kind c Fine = writes c.job ≡ true
IsAnswerOf kind c (Found x) = (writes c.job ≡ false) × (has_value kind x ≡ true)
IsAnswerOf kind c Down = ⊤
IsAnswerOf kind c Skipped = is_always c.when ≡ false

-- the printed answer to a command is read as the answer
pub answer-read : (devices : List DeviceText) (c : Command) (device : DeviceText) (a : Answer) → slice_get devices c.device.0 ≡ Some device
    → IsSoundDevice (plain_device device) → IsAnswerOf device.kind c a → answer_of devices c (answer_text device.states.items a) ≡ Some a
unfolding answer_text
answer-read devices c device Fine at sound writing =
    let guarded : (not (is_always c.when) && false) ≡ false = grind (arith, common_steps) in
    ap (λ b. if b then Some Skipped else (if writes c.job then Some Fine else option_map Found (value_at devices c.device.0 (codes ".")))) guarded
    ∙ ap (λ b. if b then Some Fine else option_map Found (value_at devices c.device.0 (codes "."))) writing
answer-read devices c device (Found x) at sound typed =
    let word = value_text device.states.items x in
    let text = value-text device x sound typed.1 in
    let value : value_at devices c.device.0 word ≡ Some x = ap (option_and_then (λ d. value_of d word)) at ∙ value-read device x sound typed.1 in
    let slash = text.no_slash in
    let guarded : (not (is_always c.when) && bytes_eq word (codes "/")) ≡ false = grind (arith, common_steps) in
    ap (λ b. if b then Some Down else (if not (is_always c.when) && bytes_eq word (codes "/") then Some Skipped else (if writes c.job then (if bytes_eq word (codes ".") then Some Fine else None) else option_map Found (value_at devices c.device.0 word)))) text.no_dash
    ∙ ap (λ b. if b then Some Skipped else (if writes c.job then (if bytes_eq word (codes ".") then Some Fine else None) else option_map Found (value_at devices c.device.0 word))) guarded
    ∙ ap (λ b. if b then (if bytes_eq word (codes ".") then Some Fine else None) else option_map Found (value_at devices c.device.0 word)) typed.0
    ∙ ap (option_map Found) value
answer-read devices c device Down at sound typed = refl
answer-read devices c device Skipped at sound typed = ap (λ b. if not b && true then Some Skipped else (if writes c.job then None else option_map Found (value_at devices c.device.0 (codes "/")))) typed

pub answer-plain : (device : DeviceText) (c : Command) (a : Answer) → IsSoundDevice (plain_device device) → IsAnswerOf device.kind c a → IsPlain (answer_text device.states.items a)
unfolding answer_text
answer-plain device c Fine sound writing = refl
answer-plain device c (Found x) sound typed = (value-text device x sound typed.1).plain
answer-plain device c Down sound typed = refl
answer-plain device c Skipped sound typed = refl
