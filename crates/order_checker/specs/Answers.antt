-- The printed answers against those of the serial execution.
use Rattle.command_rules.specs.Rosters.{Run, commands_of}
use Rattle.command_rules.specs.Serial.{Served, serial_execution}
use Rattle.home_types.specs.Commands.{fails, routine_execution}
use Rattle.home_types.specs.HomeStates.{with_up}
use Rattle.home_types.specs.declared.commands.Answer.TheVariants.{Down, Fine, Found, Skipped}
use Rattle.home_types.specs.declared.commands.Answer.{Answer}
use Rattle.home_types.specs.declared.commands.Command.{Command}
use Rattle.home_types.specs.declared.items.Item.TheVariants.{Back, Failed, Ran}
use Rattle.home_types.specs.declared.items.Item.{Item}
use Rattle.home_types.specs.declared.kinds.Kind.{Kind}
use Rattle.home_types.specs.declared.numbers.RunNo.{RunNo}
use Rattle.home_types.specs.declared.worlds.Stand.{Stand}
use Rattle.order_checker.specs.RunLines.{told_of}
use Rattle.order_checker.specs.declared.verdicts.Place.TheVariants as place
use Rattle.order_checker.specs.declared.verdicts.Place.{Place}
use Rattle.std.specs.Option.{option_or}
use Rattle.std.specs.Prelude.{Bool, Err, List, None, Ok, Option, Result, Some, [], drop, false, if◌then◌else◌, not, option_map, true, unwrap_or, ℕ, ◌&&◌, ◌+◌, ◌==◌, ◌∷◌}

abbrev pub is_same : Answer → Answer → Bool
is_same Fine Fine = true
is_same Down Down = true
is_same Skipped Skipped = true
is_same (Found a) (Found b) = a == b
is_same _ _ = false

-- the answer is the one that is printed next
abbrev pub is_printed : Answer → List Answer → Bool
is_printed answer [] = false
is_printed answer (printed ∷ told) = is_same answer printed

-- the first command, from 0, whose answer is not the printed one, or that is a must and failed
unfoldable pub first_wrong : List Command → List Answer → List Answer → Option ℕ
first_wrong (c ∷ commands) (answer ∷ answers) told =
    if is_printed answer told && not (fails c answer)
    then option_map (λ k. k + 1) (first_wrong commands answers (drop 1 told)) else Some 0
first_wrong commands answers told = None

-- the place of that command, of a run that was served
abbrev pub wrong_of : List Run → List (Option (List Answer)) → Served → Option Place
wrong_of runs ends served =
    option_map (λ k. place.Answer served.run k) (first_wrong (commands_of runs served.run.0)
    served.answers (unwrap_or (told_of ends served.run.0) []))

-- the same of a run, executed in this home
abbrev pub wrong_in : List Run → List Kind → List (Option (List Answer)) → List Stand
    → RunNo → Option Place
wrong_in runs kinds ends home r =
    wrong_of runs ends
    (record { run = r; answers = (routine_execution kinds (commands_of runs r.0) home).answers })

-- of an item: a failure and a restart have nothing wrong
abbrev pub item_wrong : List Run → List Kind → List (Option (List Answer)) → List Stand
    → Item → Option Place
item_wrong runs kinds ends home (Ran r) = wrong_in runs kinds ends home r
item_wrong runs kinds ends home (Failed d k) = None
item_wrong runs kinds ends home (Back d k) = None

-- the home behind an item
abbrev pub home_after : List Run → List Kind → List Stand → Item → List Stand
home_after runs kinds home (Ran r) = (routine_execution kinds (commands_of runs r.0) home).home
home_after runs kinds home (Failed d k) = with_up home d.0 false
home_after runs kinds home (Back d k) = with_up home d.0 true

-- what is found first along a list
abbrev pub first_found : {A B : Type 0} → (A → Option B) → List A → Option B
first_found look [] = None
first_found look (x ∷ xs) = option_or (look x) (first_found look xs)

-- the home behind the items, or the first wrong command in the order of the items
unfoldable pub home_behind : List Run → List Kind → List (Option (List Answer)) → List Stand
    → List Item → Result (List Stand) Place
home_behind runs kinds ends home items =
    let served = serial_execution runs kinds home items in
    unwrap_or (option_map (λ wrong. Err wrong) (first_found (wrong_of runs ends) served.answers))
    (Ok served.home)
