-- The steps of each walk over a line: an item that is refused, and one that is passed.
use Rattle.command_rules.specs.Items.{is_ran}
use Rattle.order_checker.proofs.Prelude.{Answer, Bor, Command, Err, Item, List, None, Ok, OrderSetting, Place, RunEnd, Some, Stand, [], ap, arith, device_no, drop, false, get_or, get_or-map, get_or_default, is_none, item_of, length, length-map, list_any, next_answer, next_device_told, next_item, next_stand, next_stands, ok_or, option_map_or, order_place, plain_end, plain_ends, required, slice_get, slice_index_or, stand_by_word, stands_so, sym, texts, true, walk, ℕ, ◌++◌, ◌+◌, ◌<◌, ◌>>=◌, ◌||◌, ◌∙◌, ◌∷◌, ◌≡◌}
use Rattle.order_checker.proofs.Walking.{walk-passed, walk-refused}
use Rattle.order_checker.specs.Values.{answer_of}
use Rattle.order_checker.specs.declared.verdicts.Place.TheVariants.{Device, Home, Order}
use Rattle.routine_reader.specs.declared.scripts.DeviceText.{DeviceText}

-- ---- where devices stand

pub device-off : (told home : List Stand) (i : ℕ) (d : Stand) → i < length home → option_map_or (λ t. stands_so t (get_or home i d)) (slice_get told i) false ≡ false
    → walk (next_device_told told) i (drop i home) ≡ Err (Device (device_no i))
device-off told home i d within off =
    walk-refused (next_device_told told) i home i (get_or home i d) within (get_or_default home i d (get_or home i d) within) (Device (device_no i))
    (ap (λ so. required so (Device (device_no i)) >>= (λ so. Ok (i + 1))) off)

pub device-so : (told home : List Stand) (i : ℕ) (d : Stand) → i < length home → option_map_or (λ t. stands_so t (get_or home i d)) (slice_get told i) false ≡ true
    → walk (next_device_told told) i (drop i home) ≡ walk (next_device_told told) (i + 1) (drop (i + 1) home)
device-so told home i d within so =
    walk-passed (next_device_told told) i home i (get_or home i d) within (get_or_default home i d (get_or home i d) within) (i + 1)
    (ap (λ so. required so (Device (device_no i)) >>= (λ so. Ok (i + 1))) so)

-- ---- committed runs in the order

plain-item : (ends : List RunEnd) (i : ℕ) (end : RunEnd) → i < length ends → end ≡ get_or ends i end → plain_end end ≡ get_or (plain_ends ends) i (plain_end end)
plain-item ends i end within is = ap plain_end is ∙ sym (get_or-map plain_end ends i end (plain_end end) within)

pub run-missing : (items : List Item) (ends : List RunEnd) (i : ℕ) (end : RunEnd) → i < length ends → end ≡ get_or ends i end
    → (is_none (plain_end end) || list_any (is_ran (i + 1)) items) ≡ false → walk (next_stands items) i (drop i (plain_ends ends)) ≡ Err (Order 0)
run-missing items ends i end within is missing =
    walk-refused (next_stands items) i (plain_ends ends) i (plain_end end) (rw length-map within) (plain-item ends i end within is) (Order 0)
    (ap (λ stands. required stands (Order 0) >>= (λ stands. Ok (i + 1))) missing)

pub run-stands : (items : List Item) (ends : List RunEnd) (i : ℕ) (end : RunEnd) → i < length ends → end ≡ get_or ends i end
    → (is_none (plain_end end) || list_any (is_ran (i + 1)) items) ≡ true → walk (next_stands items) i (drop i (plain_ends ends)) ≡ walk (next_stands items) (i + 1) (drop (i + 1) (plain_ends ends))
run-stands items ends i end within is stands =
    walk-passed (next_stands items) i (plain_ends ends) i (plain_end end) (rw length-map within) (plain-item ends i end within is) (i + 1)
    (ap (λ stands. required stands (Order 0) >>= (λ stands. Ok (i + 1))) stands)

-- ---- items of the order

text-item : (words : List (Bor (List ℕ))) (i : ℕ) (d : Bor (List ℕ)) → i < length words → (get_or words i d).now ≡ get_or (texts words) i (get_or words i d).now
text-item words i d within = sym (get_or-map (λ word. word.now) words i d (get_or words i d).now within)

pub item-refused : (w : OrderSetting) (earlier : List Item) (words : List (Bor (List ℕ))) (i : ℕ) (d : Bor (List ℕ)) → i < length words → length earlier ≡ i
    → item_of w earlier (get_or words i d).now ≡ None → walk (next_item w) earlier (drop i (texts words)) ≡ Err (order_place (i + 1))
item-refused w earlier words i d within count none =
    walk-refused (next_item w) earlier (texts words) i (get_or words i d).now (rw length-map within) (text-item words i d within) (order_place (i + 1))
    (ap (λ item. ok_or item (order_place (length earlier + 1)) >>= (λ item. Ok (earlier ++ item ∷ []))) none ∙ ap (λ n. Err (order_place (n + 1))) count)

pub item-passed : (w : OrderSetting) (earlier : List Item) (words : List (Bor (List ℕ))) (i : ℕ) (d : Bor (List ℕ)) (item : Item) → i < length words
    → item_of w earlier (get_or words i d).now ≡ Some item → walk (next_item w) earlier (drop i (texts words)) ≡ walk (next_item w) (earlier ++ item ∷ []) (drop (i + 1) (texts words))
item-passed w earlier words i d item within some =
    walk-passed (next_item w) earlier (texts words) i (get_or words i d).now (rw length-map within) (text-item words i d within) (earlier ++ item ∷ [])
    (ap (λ item. ok_or item (order_place (length earlier + 1)) >>= (λ item. Ok (earlier ++ item ∷ []))) some)

-- ---- words that stand beside a list

word-at : (words : List (Bor (List ℕ))) (i n : ℕ) (d : Bor (List ℕ)) → i < length words → n ≡ i → slice_index_or (texts words) n [] ≡ (get_or words i d).now
word-at words i n d within count = ap (λ k. slice_index_or (texts words) k []) count ∙ get_or-map (λ word. word.now) words i d [] within

pub answer-refused : (devices : List DeviceText) (commands : List Command) (words : List (Bor (List ℕ))) (place : Place) (earlier : List Answer) (i : ℕ) (e : Command) (d : Bor (List ℕ))
    → i < length commands → length words ≡ length commands → length earlier ≡ i → answer_of devices (get_or commands i e) (get_or words i d).now ≡ None
    → walk (next_answer devices (texts words) place) earlier (drop i commands) ≡ Err place
answer-refused devices commands words place earlier i e d within same count none =
    walk-refused (next_answer devices (texts words) place) earlier commands i (get_or commands i e) within (get_or_default commands i e (get_or commands i e) within) place
    (ap (λ answer. ok_or answer place >>= (λ answer. Ok (earlier ++ answer ∷ []))) (ap (answer_of devices (get_or commands i e)) (word-at words i (length earlier) d (omega (arith, within, same)) count) ∙ none))

pub answer-passed : (devices : List DeviceText) (commands : List Command) (words : List (Bor (List ℕ))) (place : Place) (earlier : List Answer) (i : ℕ) (e : Command) (d : Bor (List ℕ)) (answer : Answer)
    → i < length commands → length words ≡ length commands → length earlier ≡ i → answer_of devices (get_or commands i e) (get_or words i d).now ≡ Some answer
    → walk (next_answer devices (texts words) place) earlier (drop i commands) ≡ walk (next_answer devices (texts words) place) (earlier ++ answer ∷ []) (drop (i + 1) commands)
answer-passed devices commands words place earlier i e d answer within same count some =
    walk-passed (next_answer devices (texts words) place) earlier commands i (get_or commands i e) within (get_or_default commands i e (get_or commands i e) within) (earlier ++ answer ∷ [])
    (ap (λ answer. ok_or answer place >>= (λ answer. Ok (earlier ++ answer ∷ []))) (ap (answer_of devices (get_or commands i e)) (word-at words i (length earlier) d (omega (arith, within, same)) count) ∙ some))

pub stand-refused : (devices : List DeviceText) (words : List (Bor (List ℕ))) (earlier : List Stand) (i : ℕ) (device : DeviceText) (d : Bor (List ℕ))
    → i < length devices → device ≡ get_or devices i device → length words ≡ length devices → length earlier ≡ i → stand_by_word device (get_or words i d).now ≡ None
    → walk (next_stand (texts words)) earlier (drop i devices) ≡ Err Home
stand-refused devices words earlier i device d within is same count none =
    walk-refused (next_stand (texts words)) earlier devices i device within is Home
    (ap (λ stand. ok_or stand Home >>= (λ stand. Ok (earlier ++ stand ∷ []))) (ap (stand_by_word device) (word-at words i (length earlier) d (omega (arith, within, same)) count) ∙ none))

pub stand-passed : (devices : List DeviceText) (words : List (Bor (List ℕ))) (earlier : List Stand) (i : ℕ) (device : DeviceText) (d : Bor (List ℕ)) (stand : Stand)
    → i < length devices → device ≡ get_or devices i device → length words ≡ length devices → length earlier ≡ i → stand_by_word device (get_or words i d).now ≡ Some stand
    → walk (next_stand (texts words)) earlier (drop i devices) ≡ walk (next_stand (texts words)) (earlier ++ stand ∷ []) (drop (i + 1) devices)
stand-passed devices words earlier i device d stand within is same count some =
    walk-passed (next_stand (texts words)) earlier devices i device within is (earlier ++ stand ∷ [])
    (ap (λ stand. ok_or stand Home >>= (λ stand. Ok (earlier ++ stand ∷ []))) (ap (stand_by_word device) (word-at words i (length earlier) d (omega (arith, within, same)) count) ∙ some))
