-- The order line, read again.
use Rattle.printed_records.proofs.Prelude.{AllStand, Answer, Back, DeviceText, Eventual, Failed, Global, IsSound, Item, ItemsMayStand, List, MayStand, None, Ok, Option, Order, OrderSetting, Partitioned, Ran, Script, Some, Visibility, Weak, [], ap, append-nil, append_assoc, arith, bytes_eq, codes, common_steps, cut_at, decimal, device_name, device_named, digits_value, event_device, failure_item, false, flat_map, if◌then◌else◌, is_ascii_digit, is_some, is_told_committed, is_up_behind, item_of, item_word, item_words, items_told, length, lines_of, list_all, map, may_run, name_in, nat_lt, next_item, next_stands, not, number_of, ok_or, option_and_then, option_or, order_line, order_line_told, order_place, order_told, order_words_told, plain_item, plain_script, refl, required, restart_item, slice_get, subst, suc, sym, true, true≢false, walk, zero, ℕ, ◌&&◌, ◌++◌, ◌+◌, ◌<◌, ◌==◌, ◌>>=◌, ◌^◌, ◌||◌, ◌∙◌, ◌∷◌, ◌≡◌, ◌≢◌, ◌≤◌}
use Rattle.printed_records.proofs.Firsts.{bytes_eq-self, cut-at}
use Rattle.printed_records.proofs.LineTexts.{line_with, lines-words, spaced, words-line}
use Rattle.printed_records.proofs.Names.{device-named, name-plain, name-word, sound-device}
use Rattle.printed_records.proofs.Numerals.{decimal-digits, decimal-word, number-decimal}
use Rattle.printed_records.proofs.Plain.{AreWords, IsWord, lacks-plain, lacks-seen, word-append, word-seen}
use Rattle.printed_records.proofs.Runs.{device-name, device-there}
use Rattle.printed_records.proofs.ToldEnds.{told_at}
use Rattle.printed_records.proofs.Values.{no-bytes_eq}

-- an item without the space before it
abbrev pub item_text : Script → Item → List ℕ
item_text script (Ran r) = decimal r.0
item_text script (Failed d k) = codes "fail(" ++ (device_name script d.0 ++ codes ")")
item_text script (Back d k) = codes "back(" ++ (device_name script d.0 ++ codes ")")

item_word-is : (script : Script) (item : Item) → item_word script item ≡ 32 ∷ item_text script item
unfolding item_word
item_word-is script (Ran r) = refl
item_word-is script (Failed d k) = refl
item_word-is script (Back d k) = refl

items-spaced : (script : Script) (items : List Item) (tail : List ℕ) → flat_map (item_word script) items ++ tail ≡ spaced (map (item_text script) items) tail
items-spaced script [] tail = refl
items-spaced script (item ∷ items) tail =
    append_assoc (item_word script item) (flat_map (item_word script) items) tail
    ∙ ap (λ t. item_word script item ++ t) (items-spaced script items tail)
    ∙ ap (λ w. w ++ spaced (map (item_text script) items) tail) (item_word-is script item)

-- the words of an order
abbrev pub order_texts : Script → List Item → List (List ℕ)
order_texts script [] = codes "none" ∷ []
order_texts script (item ∷ items) = map (item_text script) (item ∷ items)

order-words : (script : Script) (order : List Item) → codes "order" ++ item_words script order ++ codes "\n" ≡ codes "order" ++ spaced (order_texts script order) (10 ∷ [])
unfolding item_words
order-words script [] = refl
order-words script (item ∷ items) = ap (λ t. codes "order" ++ t) (items-spaced script (item ∷ items) (10 ∷ []))

order-spaced : (script : Script) (model : Visibility) (order : List Item) → model ≢ Weak → order_line script model order ≡ codes "order" ++ spaced (order_texts script order) (10 ∷ [])
unfolding order_line
order-spaced script Weak order strong = absurd (strong refl)
order-spaced script Global order strong = order-words script order
order-spaced script Partitioned order strong = order-words script order
order-spaced script Eventual order strong = order-words script order

-- ---- an item

-- a run is read as itself, where it may stand
run-read : (w : OrderSetting) (earlier : List Item) (r : ℕ) → r < 2 ^ 64 → may_run w.runs w.ends earlier r ≡ true
    → item_of w earlier (decimal r) ≡ Some (Ran (record { 0 = r }))
unfolding item_of
run-read w earlier r small may =
    ap (λ o. option_or (option_and_then (λ q. if may_run w.runs w.ends earlier q then Some (Ran (record { 0 = q })) else None) o)
    (option_or (failure_item w.devices w.home earlier (decimal r)) (restart_item w.devices w.home earlier (decimal r)))) (number-decimal r small)
    ∙ ap (λ b. option_or (if b then Some (Ran (record { 0 = r })) else None)
    (option_or (failure_item w.devices w.home earlier (decimal r)) (restart_item w.devices w.home earlier (decimal r)))) may

-- the printed number of a run is not the word for nothing
decimal-none : (n : ℕ) → n < 2 ^ 64 → bytes_eq (decimal n) (codes "none") ≡ false
decimal-none n small = no-bytes_eq (decimal n) (codes "none") (λ same. letters (subst (λ t. list_all is_ascii_digit t ≡ true) same (decimal-digits n small)))
  where
    letters : list_all is_ascii_digit (codes "none") ≡ true → ⊥
    letters digits = absurd (grind (arith, common_steps))

told-few : (ends : List (Option (List Answer))) (i : ℕ) → is_some (option_and_then (λ told. told) (slice_get ends i)) ≡ true → i < length ends
told-few [] i told = absurd (true≢false (sym told))
told-few (told ∷ ends) zero some = omega arith
told-few (told ∷ ends) (suc i) some = let rest = told-few ends i some in omega arith

-- a committed run is one of those whose ends are told
committed-few : (ends : List (Option (List Answer))) (r : ℕ) → is_told_committed ends r ≡ true → r ≤ length ends
committed-few ends zero committed = omega arith
committed-few ends (suc i) committed = let within = told-few ends i (sym (ap is_some (told_at ends i)) ∙ committed) in omega arith

-- the line of an order, in front of others: it tells its items
pub record IsOrderLine (script : Script) (model : Visibility) (w : OrderSetting) (order : List Item) (line : List ℕ) : Type 0 where
  pub lines : (rest : List ℕ) → lines_of (order_line script model order ++ rest) ≡ Some line ∷ lines_of rest
  pub told : order_told w (Some line) ≡ Ok (map plain_item order)

module _ (script : Script) (sound : IsSound (plain_script script)) where
  -- the device of an event, in brackets behind its kind
  name-read : (kind : List ℕ) (d : ℕ) (device : DeviceText) → list_all (λ x. not (x == 40)) kind ≡ true → slice_get script.devices.items d ≡ Some device
      → (cut_at 40 (kind ++ 40 ∷ (device.name ++ codes ")")) ≡ Some (record { front = kind; back = device.name ++ codes ")" }))
      × (event_device script.devices.items kind (kind ++ 40 ∷ (device.name ++ codes ")")) ≡ Some d)
  name-read kind d device lacks at =
      let name = name-plain device.name (sound-device script d device sound at).name in
      let cut = cut-at 40 kind (device.name ++ codes ")") (lacks-seen 40 kind lacks) in
      let inner = cut-at 41 device.name [] (lacks-plain 41 device.name refl name) in (
        cut,
        ap (λ o. option_and_then (device_named script.devices.items) (option_and_then (name_in kind) o)) cut
            ∙ ap (λ o. option_and_then (device_named script.devices.items)
            (option_and_then (λ p. if bytes_eq kind kind && length p.back == 0 then Some p.front else None) o)) inner
            ∙ ap (λ b. option_and_then (device_named script.devices.items) (if b && true then Some device.name else None)) (bytes_eq-self kind)
            ∙ device-named script d device sound at,
      )

  not-number : (b : ℕ) (rest : List ℕ) → is_ascii_digit b ≡ false → number_of (b ∷ rest) ≡ None
  unfolding number_of
  not-number b rest other =
      ap (λ t. if t && list_all is_ascii_digit rest && nat_lt 0 (length (b ∷ rest)) && (length (b ∷ rest) == 1 || not (b == 48)) && nat_lt (digits_value 10 (b ∷ rest)) (2 ^ 64)
      then Some (digits_value 10 (b ∷ rest)) else None) other

  -- an event is read as itself without its number, where it may stand
  failure-read : (w : OrderSetting) (earlier : List Item) (d : ℕ) (device : DeviceText) → w.devices ≡ script.devices.items → slice_get script.devices.items d ≡ Some device
      → is_up_behind w.home earlier d ≡ true → item_of w earlier (codes "fail(" ++ (device.name ++ codes ")")) ≡ Some (Failed (record { 0 = d }) 0)
  unfolding item_of
  failure-read w earlier d device devices at up =
      let word = codes "fail(" ++ (device.name ++ codes ")") in
      let read = (name-read (codes "fail") d device refl at).1 in
      let restart = restart_item w.devices w.home earlier word in
      ap (λ o. option_or (option_and_then (λ q. if may_run w.runs w.ends earlier q then Some (Ran (record { 0 = q })) else None) o)
      (option_or (failure_item w.devices w.home earlier word) restart)) (not-number 102 _ refl)
      ∙ ap (λ ds. option_or (failure_item ds w.home earlier word) restart) devices
      ∙ ap (λ o. option_or (option_and_then (λ k. if is_up_behind w.home earlier k then Some (Failed (record { 0 = k }) 0) else None) o) restart) read
      ∙ ap (λ b. option_or (if b then Some (Failed (record { 0 = d }) 0) else None) restart) up

  restart-read : (w : OrderSetting) (earlier : List Item) (d : ℕ) (device : DeviceText) → w.devices ≡ script.devices.items → slice_get script.devices.items d ≡ Some device
      → is_up_behind w.home earlier d ≡ false → item_of w earlier (codes "back(" ++ (device.name ++ codes ")")) ≡ Some (Back (record { 0 = d }) 0)
  unfolding item_of
  restart-read w earlier d device devices at down =
      let word = codes "back(" ++ (device.name ++ codes ")") in
      let read = name-read (codes "back") d device refl at in
      let no_failure : failure_item script.devices.items w.home earlier word ≡ None =
      ap (λ o. option_and_then (λ k. if is_up_behind w.home earlier k then Some (Failed (record { 0 = k }) 0) else None)
      (option_and_then (device_named script.devices.items) (option_and_then (name_in (codes "fail")) o))) read.0
      ∙ ap (λ o. option_and_then (λ k. if is_up_behind w.home earlier k then Some (Failed (record { 0 = k }) 0) else None)
      (option_and_then (device_named script.devices.items) (option_and_then (λ p. if false && length p.back == 0 then Some p.front else None) o)))
      (cut-at 41 device.name [] (lacks-plain 41 device.name refl (name-plain device.name (sound-device script d device sound at).name))) in
      ap (λ o. option_or (option_and_then (λ q. if may_run w.runs w.ends earlier q then Some (Ran (record { 0 = q })) else None) o)
      (option_or (failure_item w.devices w.home earlier word) (restart_item w.devices w.home earlier word))) (not-number 98 _ refl)
      ∙ ap (λ ds. option_or (failure_item ds w.home earlier word) (restart_item ds w.home earlier word)) devices
      ∙ ap (λ o. option_or o (restart_item script.devices.items w.home earlier word)) no_failure
      ∙ ap (λ o. option_and_then (λ k. if is_up_behind w.home earlier k then None else Some (Back (record { 0 = k }) 0)) o) read.1
      ∙ ap (λ b. if b then None else Some (Back (record { 0 = d }) 0)) down

  item-read : (w : OrderSetting) (earlier : List Item) (item : Item) → w.devices ≡ script.devices.items → length w.ends < 2 ^ 64 → MayStand w earlier item
      → IsWord (item_text script item) × (bytes_eq (item_text script item) (codes "none") ≡ false) × (item_of w earlier (item_text script item) ≡ Some (plain_item item))
  item-read w earlier (Ran r) devices few may =
      let small : r.0 < 2 ^ 64 = omega (arith, committed-few w.ends r.0 (grind (arith, common_steps)), few) in
      (decimal-word r.0 small, decimal-none r.0 small, run-read w earlier r.0 small may)
  item-read w earlier (Failed d k) devices few may =
      let there = device-there script d.0 (omega (arith, may.0, ap length devices)) in
      let device = there.0 in
      subst (λ name. IsWord (codes "fail(" ++ (name ++ codes ")")) × (bytes_eq (codes "fail(" ++ (name ++ codes ")")) (codes "none") ≡ false)
      × (item_of w earlier (codes "fail(" ++ (name ++ codes ")")) ≡ Some (Failed d 0))) (sym (device-name script d.0 device there.1)) (
        word-append (codes "fail(") (device.name ++ codes ")") (word-seen (codes "fail(") refl refl)
            (word-append device.name (codes ")") (name-word device.name (sound-device script d.0 device sound there.1).name) (word-seen (codes ")") refl refl)),
        refl,
        failure-read w earlier d.0 device devices there.1 may.1,
      )
  item-read w earlier (Back d k) devices few may =
      let there = device-there script d.0 (omega (arith, may.0, ap length devices)) in
      let device = there.0 in
      subst (λ name. IsWord (codes "back(" ++ (name ++ codes ")")) × (bytes_eq (codes "back(" ++ (name ++ codes ")")) (codes "none") ≡ false)
      × (item_of w earlier (codes "back(" ++ (name ++ codes ")")) ≡ Some (Back d 0))) (sym (device-name script d.0 device there.1)) (
        word-append (codes "back(") (device.name ++ codes ")") (word-seen (codes "back(") refl refl)
            (word-append device.name (codes ")") (name-word device.name (sound-device script d.0 device sound there.1).name) (word-seen (codes ")") refl refl)),
        refl,
        restart-read w earlier d.0 device devices there.1 may.1,
      )

  -- the items are read one after the other
  items-read : (w : OrderSetting) (earlier items : List Item) → w.devices ≡ script.devices.items → length w.ends < 2 ^ 64 → ItemsMayStand w earlier items
      → AreWords (map (item_text script) items) × (walk (next_item w) earlier (map (item_text script) items) ≡ Ok (earlier ++ map plain_item items))
  unfolding walk ItemsMayStand
  items-read w earlier [] devices few may = (tt, ap Ok (sym (append-nil earlier)))
  items-read w earlier (item ∷ items) devices few may =
      let one = item-read w earlier item devices few may.0 in
      let more = items-read w (earlier ++ plain_item item ∷ []) items devices few may.1 in (
        (one.0, more.0),
        ap (λ o. ok_or o (order_place (length earlier + 1)) >>= (λ x. Ok (earlier ++ x ∷ [])) >>= (λ next. walk (next_item w) next (map (item_text script) items))) one.2
            ∙ more.1 ∙ ap Ok (append_assoc earlier (plain_item item ∷ []) (map plain_item items)),
      )

  texts-told : (w : OrderSetting) (order : List Item) → w.devices ≡ script.devices.items → length w.ends < 2 ^ 64 → ItemsMayStand w [] order
      → AreWords (order_texts script order) × (items_told w (order_texts script order) ≡ Ok (map plain_item order))
  unfolding ItemsMayStand
  texts-told w [] devices few may = ((word-seen (codes "none") refl refl, tt), refl)
  texts-told w (item ∷ []) devices few may =
      let read = items-read w [] (item ∷ []) devices few may in
      (read.0, ap (λ b. if b then Ok [] else walk (next_item w) [] (map (item_text script) (item ∷ []))) (item-read w [] item devices few may.0).1 ∙ read.1)
  texts-told w (item ∷ next ∷ items) devices few may = items-read w [] (item ∷ next ∷ items) devices few may

  all-stand : (items : List Item) (r : ℕ) (ends : List (Option (List Answer))) → AllStand items r ends → walk (next_stands items) r ends ≡ Ok (r + length ends)
  unfolding walk AllStand
  all-stand items r [] all = ap Ok (omega arith)
  all-stand items r (told ∷ ends) all =
      let count : r + 1 + length ends ≡ r + length (told ∷ ends) = omega arith in
      ap (λ b. required b (Order 0) >>= (λ stands. Ok (r + 1)) >>= (λ next. walk (next_stands items) next ends)) all.0
      ∙ all-stand items (r + 1) ends all.1 ∙ ap Ok count

  order-told : (w : OrderSetting) (order : List Item) → w.devices ≡ script.devices.items → length w.ends < 2 ^ 64 → ItemsMayStand w [] order
      → AllStand (map plain_item order) 0 w.ends → order_line_told w (codes "order" ∷ order_texts script order) ≡ Ok (map plain_item order)
  unfolding order_words_told
  order-told w [] devices few may all =
      ap (λ o. o >>= (λ stand. Ok [])) (all-stand [] 0 w.ends all)
  order-told w (item ∷ items) devices few may all =
      ap (λ o. o >>= (λ told. walk (next_stands told) 0 w.ends >>= (λ stand. Ok told))) (texts-told w (item ∷ items) devices few may).1
      ∙ ap (λ o. o >>= (λ stand. Ok (map plain_item (item ∷ items)))) (all-stand (map plain_item (item ∷ items)) 0 w.ends all)

  -- the line of an order whose items may stand where they stand, in front of others: it tells them
  pub order-printed : (model : Visibility) (w : OrderSetting) (order : List Item) → model ≢ Weak → w.devices ≡ script.devices.items → length w.ends < 2 ^ 64
      → ItemsMayStand w [] order → AllStand (map plain_item order) 0 w.ends → (line : List ℕ) × IsOrderLine script model w order line
  order-printed model w order strong devices few may all =
      let words = order_texts script order in
      let first : IsWord (codes "order") = word-seen (codes "order") refl refl in
      let are = (texts-told w order devices few may).0 in (
        line_with (codes "order") words,
        record {
          lines = λ rest. ap (λ t. lines_of (t ++ rest)) (order-spaced script model order strong) ∙ lines-words (codes "order") words rest first are refl;
          told = ap (order_line_told w) (words-line (codes "order") words first are) ∙ order-told w order devices few may all;
        },
      )
