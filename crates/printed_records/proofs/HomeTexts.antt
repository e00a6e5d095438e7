-- The home line, read again.
use Rattle.printed_records.proofs.Prelude.{Bool, DeviceText, Home, IsSoundDevice, List, None, Ok, Some, Stand, [], ap, append-nil, append_assoc, arith, bytes_eq, codes, common_steps, cut_at, enumerate_from, false, flat_map, has_value, home_line, home_told, home_word, home_words, home_words_told, if◌then◌else◌, is_none_word, length, length-append, lines_of, next_stand, option_and_then, option_map, plain_device, refl, required, stand_at, stand_by_word, stand_written, stands_told, subst, true, value_text, walk, ℕ, ⊤, ◌++◌, ◌+◌, ◌==◌, ◌>>=◌, ◌∙◌, ◌∷◌, ◌≡◌}
use Rattle.printed_records.proofs.Firsts.{bytes_eq-self, cut-at, cut-none}
use Rattle.printed_records.proofs.LineTexts.{line_with, lines-words, spaced, words-line}
use Rattle.printed_records.proofs.Names.{name-plain}
use Rattle.printed_records.proofs.Plain.{AreWords, IsPlain, IsWord, lacks-plain, word-append, word-plain, word-seen}
use Rattle.printed_records.proofs.WordReads.{AreRead, read-length, reads}
use Rattle.printed_records.proofs.Values.{value-read, value-text}

-- the word of a device without the space before it
abbrev pub mark : Stand → List ℕ
mark stand = if stand.up then [] else codes "!"

abbrev pub stand_text : DeviceText → Stand → List ℕ
stand_text device stand = device.name ++ 61 ∷ (value_text device.states.items stand.value ++ mark stand)

home_word-is : (device : DeviceText) (stand : Stand) → home_word device stand ≡ 32 ∷ stand_text device stand
unfolding home_word
home_word-is device stand = simp append_assoc

-- a value, up or down, is read as it stands
stand-written : (device : DeviceText) (value : ℕ) (up : Bool) → IsSoundDevice (plain_device device) → has_value device.kind value ≡ true
    → let text : List ℕ = value_text device.states.items value ++ (if up then [] else codes "!") in
    stand_written device text (cut_at 33 text) ≡ Some (record { value = value; up = up })
stand-written device value true sound has =
    let text = value_text device.states.items value in
    let plain = (value-text device value sound has).plain in
    ap (λ t. stand_written device t (cut_at 33 t)) (append-nil text)
    ∙ ap (stand_written device text) (cut-none 33 text (lacks-plain 33 text refl plain))
    ∙ ap (option_map (λ v. record { value = v; up = true })) (value-read device value sound has)
stand-written device value false sound has =
    let text = value_text device.states.items value in
    let plain = (value-text device value sound has).plain in
    ap (stand_written device (text ++ 33 ∷ [])) (cut-at 33 text [] (lacks-plain 33 text refl plain))
    ∙ ap (option_map (λ v. record { value = v; up = false })) (value-read device value sound has)

-- the word of a device is read as where it stands
pub stand-read : (device : DeviceText) (stand : Stand) → IsSoundDevice (plain_device device) → has_value device.kind stand.value ≡ true
    → stand_by_word device (stand_text device stand) ≡ Some stand
unfolding stand_by_word
stand-read device stand sound has =
    let back = value_text device.states.items stand.value ++ mark stand in
    let plain : IsPlain device.name = name-plain device.name sound.name in
    ap (option_and_then (λ parts. if bytes_eq parts.front device.name then stand_written device parts.back (cut_at 33 parts.back) else None))
    (cut-at 61 device.name back (lacks-plain 61 device.name refl plain))
    ∙ ap (λ b. if b then stand_written device back (cut_at 33 back) else None) (bytes_eq-self device.name)
    ∙ stand-written device stand.value stand.up sound has

mark-word : (up : Bool) → IsWord (if up then [] else codes "!")
mark-word true = word-seen [] refl refl
mark-word false = word-seen (codes "!") refl refl

stand-word : (device : DeviceText) (stand : Stand) → IsSoundDevice (plain_device device) → has_value device.kind stand.value ≡ true → IsWord (stand_text device stand)
stand-word device stand sound has =
    let text = value_text device.states.items stand.value in
    let value : IsWord text = word-plain text ((value-text device stand.value sound has).plain) in
    let name : IsWord device.name = word-plain device.name (name-plain device.name sound.name) in
    word-append device.name (61 ∷ (text ++ mark stand)) name
    (word-append (61 ∷ []) (text ++ mark stand) (word-seen (codes "=") refl refl) (word-append text (mark stand) value (mark-word stand.up)))

-- each device is sound, and has the value at which it stands
abbrev pub StandWell : List DeviceText → List Stand → Type 0
StandWell [] [] = ⊤
StandWell [] (stand ∷ home) = ⊥
StandWell (device ∷ devices) [] = ⊥
StandWell (device ∷ devices) (stand ∷ home) = IsSoundDevice (plain_device device) × (has_value device.kind stand.value ≡ true) × StandWell devices home

-- their words
abbrev pub stand_texts : List DeviceText → List Stand → List (List ℕ)
stand_texts [] home = []
stand_texts (device ∷ devices) [] = []
stand_texts (device ∷ devices) (stand ∷ home) = stand_text device stand ∷ stand_texts devices home

texts-read : (devices : List DeviceText) (home : List Stand) → StandWell devices home → AreRead stand_by_word devices (stand_texts devices home) home
texts-read [] [] well = tt
texts-read [] (stand ∷ home) well = absurd well
texts-read (device ∷ devices) [] well = absurd well
texts-read (device ∷ devices) (stand ∷ home) well = (stand-read device stand well.0 well.1, texts-read devices home well.2)

texts-words : (devices : List DeviceText) (home : List Stand) → StandWell devices home → AreWords (stand_texts devices home)
texts-words [] [] well = tt
texts-words [] (stand ∷ home) well = absurd well
texts-words (device ∷ devices) [] well = absurd well
texts-words (device ∷ devices) (stand ∷ home) well = (stand-word device stand well.0 well.1, texts-words devices home well.2)

index-after : (front : List Stand) (stand : Stand) (home : List Stand) → stand_at (front ++ stand ∷ home) (length front) ≡ stand
index-after [] stand home = refl
index-after (s ∷ front) stand home = index-after front stand home

-- the words of the devices from this number on
words-from : (front : List Stand) (devices : List DeviceText) (home : List Stand) (tail : List ℕ) (k : ℕ) → k ≡ length front → StandWell devices home
    → flat_map (λ (d, device). home_word device (stand_at (front ++ home) d)) (enumerate_from k devices) ++ tail ≡ spaced (stand_texts devices home) tail
words-from front [] [] tail k number well = refl
words-from front [] (stand ∷ home) tail k number well = absurd well
words-from front (device ∷ devices) [] tail k number well = absurd well
words-from front (device ∷ devices) (stand ∷ home) tail k number well =
    let all = front ++ stand ∷ home in
    let rest = flat_map (λ (d, device). home_word device (stand_at all d)) (enumerate_from (k + 1) devices) in
    let at : stand_at all k ≡ stand = ap (stand_at all) number ∙ index-after front stand home in
    let split : (front ++ stand ∷ []) ++ home ≡ all = append_assoc front (stand ∷ []) home in
    let later : k + 1 ≡ length (front ++ stand ∷ []) = omega (arith, number, length-append front (stand ∷ [])) in
    let others : rest ++ tail ≡ spaced (stand_texts devices home) tail =
    subst (λ h. flat_map (λ (d, device). home_word device (stand_at h d)) (enumerate_from (k + 1) devices) ++ tail ≡ spaced (stand_texts devices home) tail) split
    (words-from (front ++ stand ∷ []) devices home tail (k + 1) later well.2) in
    append_assoc (home_word device (stand_at all k)) rest tail
    ∙ ap (λ s. home_word device s ++ (rest ++ tail)) at
    ∙ ap (λ w. w ++ (rest ++ tail)) (home_word-is device stand)
    ∙ ap (λ t. 32 ∷ (stand_text device stand ++ t)) others

-- the line of a home, in front of others: it tells the home
pub record IsHomeLine (devices : List DeviceText) (home : List Stand) (line : List ℕ) : Type 0 where
  pub lines : (rest : List ℕ) → lines_of (home_line devices home ++ rest) ≡ Some line ∷ lines_of rest
  pub told : home_told devices (Some line) ≡ Ok home

abbrev home_texts : List DeviceText → List Stand → List (List ℕ)
home_texts [] home = codes "none" ∷ []
home_texts (device ∷ devices) home = stand_texts (device ∷ devices) home

home-spaced : (devices : List DeviceText) (home : List Stand) → StandWell devices home → home_line devices home ≡ codes "home" ++ spaced (home_texts devices home) (10 ∷ [])
unfolding home_line home_words
home-spaced [] home well = refl
home-spaced (device ∷ devices) home well =
    append_assoc (codes "home") (flat_map (λ (d, device). home_word device (stand_at home d)) (enumerate_from 0 (device ∷ devices))) (10 ∷ [])
    ∙ ap (λ t. codes "home" ++ t) (words-from [] (device ∷ devices) home (10 ∷ []) 0 refl well)

home-texts-words : (devices : List DeviceText) (home : List Stand) → StandWell devices home → AreWords (home_texts devices home)
home-texts-words [] home well = (word-seen (codes "none") refl refl, tt)
home-texts-words (device ∷ devices) home well = texts-words (device ∷ devices) home well

home-texts-told : (devices : List DeviceText) (home : List Stand) → StandWell devices home → stands_told devices (home_texts devices home) ≡ Ok home
unfolding stands_told
home-texts-told [] [] well = refl
home-texts-told [] (stand ∷ home) well = absurd well
home-texts-told (device ∷ devices) home well =
    let all = device ∷ devices in
    let words = stand_texts all home in
    let read = texts-read all home well in
    let some : (length all == 0) ≡ false = grind (arith, common_steps) in
    let as_many : (length words == length all) ≡ true = grind (arith, common_steps, read-length stand_by_word all words home read) in
    ap (λ b. if b then (required (is_none_word words) Home >>= (λ nothing. Ok [])) else (required (length words == length all) Home >>= (λ as_many. walk (next_stand words) [] all))) some
    ∙ ap (λ b. required b Home >>= (λ as_many. walk (next_stand words) [] all)) as_many
    ∙ reads stand_by_word Home all words home read

pub home-printed : (devices : List DeviceText) (home : List Stand) → StandWell devices home → (line : List ℕ) × IsHomeLine devices home line
home-printed devices home well =
    let words = home_texts devices home in
    let first : IsWord (codes "home") = word-seen (codes "home") refl refl in
    let are = home-texts-words devices home well in (
      line_with (codes "home") words,
      record {
        lines = λ rest. ap (λ t. lines_of (t ++ rest)) (home-spaced devices home well) ∙ lines-words (codes "home") words rest first are refl;
        told = ap (home_words_told devices) (words-line (codes "home") words first are) ∙ home-texts-told devices home well;
      },
    )
