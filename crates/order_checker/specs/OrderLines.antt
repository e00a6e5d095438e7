-- The order of a window: its items, and which may stand where.
use Rattle.command_rules.specs.Items.{is_ran}
use Rattle.command_rules.specs.Rosters.{Run, device_no, followed_by, run_no}
use Rattle.home_types.specs.HomeStates.{stand_at, with_up}
use Rattle.home_types.specs.declared.commands.Answer.{Answer}
use Rattle.home_types.specs.declared.items.Item.TheVariants.{Back, Failed, Ran}
use Rattle.home_types.specs.declared.items.Item.{Item}
use Rattle.home_types.specs.declared.worlds.Stand.{Stand}
use Rattle.order_checker.specs.RunLines.{is_told_committed}
use Rattle.order_checker.specs.Steps.{required, walk, ◌>>=◌}
use Rattle.order_checker.specs.Values.{device_named}
use Rattle.order_checker.specs.Words.{Parts, cut_at, is_none_word, number_of, words_of}
use Rattle.order_checker.specs.declared.verdicts.Place.TheVariants.{Order}
use Rattle.order_checker.specs.declared.verdicts.Place.{Place}
use Rattle.routine_reader.specs.declared.scripts.DeviceText.{DeviceText}
use Rattle.std.specs.List.{list_any}
use Rattle.std.specs.Option.{option_map_or, option_or}
use Rattle.std.specs.Prelude.{Bool, Err, List, None, Ok, Option, Result, Some, [], codes, false, fold, if◌then◌else◌, is_none, length, min, not, ok_or, option_and_then, true, ℕ, ◌&&◌, ◌+◌, ◌++◌, ◌-◌, ◌==◌, ◌^◌, ◌||◌, ◌∷◌}
use Rattle.std.specs.Str.{bytes_eq}

-- the place of the item with this number, from 1; items from 2^32 - 1 on share that number
abbrev pub order_place : ℕ → Place
order_place k = Order (min k (2 ^ 32 - 1))

-- ---- a run

-- the run that this one follows does not stand behind it: it is not committed, or stands earlier
abbrev pub may_stand_here : List Run → List (Option (List Answer)) → List Item → ℕ → Bool
may_stand_here runs ends earlier r =
    option_map_or (λ f. not (is_told_committed ends f.0) || list_any (is_ran f.0) earlier)
    (followed_by runs r) true

-- a committed run of the window that does not stand earlier, and not before the committed one that
-- it follows
abbrev pub may_run : List Run → List (Option (List Answer)) → List Item → ℕ → Bool
may_run runs ends earlier r =
    is_told_committed ends r && not (list_any (is_ran r) earlier)
    && may_stand_here runs ends earlier r

abbrev pub run_item : List Run → List (Option (List Answer)) → List Item → List ℕ → Option Item
run_item runs ends earlier word =
    option_and_then (λ r. if may_run runs ends earlier r then Some (Ran (run_no r)) else None)
    (number_of word)

-- ---- a failure or a restart

-- the name in `KIND(NAME)`
abbrev pub name_in : List ℕ → Parts → Option (List ℕ)
name_in kind parts =
    option_and_then
    (λ inner. if bytes_eq parts.front kind && length inner.back == 0 then Some inner.front
    else None)
    (cut_at 41 parts.back)

-- the device in `KIND(DEVICE)`
abbrev pub event_device : List DeviceText → List ℕ → List ℕ → Option ℕ
event_device devices kind word =
    option_and_then (device_named devices) (option_and_then (name_in kind) (cut_at 40 word))

-- the home with a failure or a restart; runs leave which devices are up
abbrev pub home_with_event : List Stand → Item → List Stand
home_with_event home (Ran r) = home
home_with_event home (Failed d k) = with_up home d.0 false
home_with_event home (Back d k) = with_up home d.0 true

-- the device is up behind these items
abbrev pub is_up_behind : List Stand → List Item → ℕ → Bool
is_up_behind home earlier d = (stand_at (fold home_with_event home earlier) d).up

-- a failure of a device that is up there; the order does not print which failure of the window it
-- is
abbrev pub failure_item : List DeviceText → List Stand → List Item → List ℕ → Option Item
failure_item devices home earlier word =
    option_and_then
    (λ d. if is_up_behind home earlier d then Some (Failed (device_no d) 0) else None)
    (event_device devices (codes "fail") word)

-- a restart of a device that is down there
abbrev pub restart_item : List DeviceText → List Stand → List Item → List ℕ → Option Item
restart_item devices home earlier word =
    option_and_then (λ d. if is_up_behind home earlier d then None else Some (Back (device_no d) 0))
    (event_device devices (codes "back") word)

-- ---- the line

-- what the words of an order are judged by: the home's devices and where they stand before the
-- window, its runs and how they ended
pub record OrderSetting : Type 0 where
  pub devices : List DeviceText
  pub home : List Stand
  pub runs : List Run
  pub ends : List (Option (List Answer))

-- the item that the word is, behind these
unfoldable pub item_of : OrderSetting → List Item → List ℕ → Option Item
item_of w earlier word =
    option_or (run_item w.runs w.ends earlier word)
    (option_or (failure_item w.devices w.home earlier word)
    (restart_item w.devices w.home earlier word))

abbrev pub next_item : OrderSetting → List Item → List ℕ → Result (List Item) Place
next_item w earlier word = do
  item ← ok_or (item_of w earlier word) (order_place (length earlier + 1))
  Ok (earlier ++ item ∷ [])

-- the items of a line, none where it has but the word for nothing
abbrev pub items_told : OrderSetting → List (List ℕ) → Result (List Item) Place
items_told w words = if is_none_word words then Ok [] else walk (next_item w) [] words

-- the next run stands in the order, if it is committed
abbrev pub next_stands : List Item → ℕ → Option (List Answer) → Result ℕ Place
next_stands items earlier told = do
  stands ← required (is_none told || list_any (is_ran (earlier + 1)) items) (Order 0)
  Ok (earlier + 1)

-- the words of an order line behind the first
unfoldable pub order_words_told : OrderSetting → List (List ℕ) → Result (List Item) Place
order_words_told w words = do
  items ← items_told w words
  all_stand ← walk (next_stands items) 0 w.ends
  Ok items

-- a word, and at least one item
abbrev pub order_line_told : OrderSetting → List (List ℕ) → Result (List Item) Place
order_line_told w (first ∷ item ∷ words) =
    if bytes_eq first (codes "order") then order_words_told w (item ∷ words) else Err (Order 0)
order_line_told w words = Err (Order 0)

-- the items of the order line
abbrev pub order_told : OrderSetting → Option (List ℕ) → Result (List Item) Place
order_told w None = Err (Order 0)
order_told w (Some line) = order_line_told w (words_of line)
