-- A run that has ended, with what its line tells; and an order whose items may stand where they
-- stand.
use Rattle.command_rules.specs.Items.{is_ran}
use Rattle.command_rules.specs.Rosters.{Run, commands_of}
use Rattle.history_book.specs.Books.{end_of}
use Rattle.history_book.specs.declared.entries.End.TheVariants.{Aborted, Committed}
use Rattle.history_book.specs.declared.entries.End.{End}
use Rattle.history_book.specs.declared.entries.Kept.{Kept}
use Rattle.home_types.specs.Numbers.{RunId}
use Rattle.home_types.specs.declared.commands.Answer.{Answer}
use Rattle.home_types.specs.declared.items.Item.TheVariants.{Back, Failed, Ran}
use Rattle.home_types.specs.declared.items.Item.{Item}
use Rattle.home_types.specs.declared.kinds.Kind.{Kind}
use Rattle.order_checker.specs.OrderLines.{OrderSetting, is_up_behind, may_run}
use Rattle.printed_records.specs.Ends.{AnswersInOrder, answers_of_run}
use Rattle.printed_records.specs.Typed.{AreTyped, IsCauseFor}
use Rattle.std.specs.List.{list_any}
use Rattle.std.specs.Prelude.{List, Option, Some, [], false, is_none, length, true, ℕ, ⊤, ◌+◌, ◌++◌, ◌<◌, ◌≡◌, ◌||◌, ◌∷◌}

-- a run that is committed has an answer to each command, of its type and in order; one that was
-- aborted has a cause of its own
abbrev pub EndFits : List Kind → List Run → RunId → List Kept → End → Type 0
EndFits kinds runs r history Committed =
    AnswersInOrder r history × AreTyped kinds (commands_of runs r) (answers_of_run r history)
EndFits kinds runs r history (Aborted cause) = IsCauseFor kinds runs r cause

abbrev pub RunFits : List Kind → List Run → RunId → List Kept → Type 0
RunFits kinds runs r history =
    (end : End) × (end_of history r ≡ Some end) × EndFits kinds runs r history end

-- an item without the number of its event
abbrev pub plain_item : Item → Item
plain_item (Ran r) = Ran r
plain_item (Failed d k) = Failed d 0
plain_item (Back d k) = Back d 0

-- the item may stand behind these
abbrev pub MayStand : OrderSetting → List Item → Item → Type 0
MayStand w earlier (Ran r) = may_run w.runs w.ends earlier r.0 ≡ true
MayStand w earlier (Failed d k) =
    (d.0 < length w.devices) × (is_up_behind w.home earlier d.0 ≡ true)
MayStand w earlier (Back d k) = (d.0 < length w.devices) × (is_up_behind w.home earlier d.0 ≡ false)

-- each item may stand behind these and those before it
unfoldable pub ItemsMayStand : OrderSetting → List Item → List Item → Type 0
ItemsMayStand w earlier [] = ⊤
ItemsMayStand w earlier (item ∷ items) =
    MayStand w earlier item × ItemsMayStand w (earlier ++ plain_item item ∷ []) items

-- the committed runs, from the one with the next number on, stand among the items
unfoldable pub AllStand : List Item → ℕ → List (Option (List Answer)) → Type 0
AllStand items r [] = ⊤
AllStand items r (told ∷ ends) =
    ((is_none told || list_any (is_ran (r + 1)) items) ≡ true) × AllStand items (r + 1) ends
