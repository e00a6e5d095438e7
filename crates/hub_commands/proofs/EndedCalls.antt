-- A call that ended before its script was read.
use Rattle.hub_commands.proofs.Prelude.{Day, Err, Fault, InputIsRead, IsUnread, Keep, List, Memory, NoScriptIsRead, None, NothingIsPlayed, Option, Reads, Replay, Run, Shown, Some, Trial, TrialEnds, Watch, WindowWay, Writes, arith, inl, inr, refl, subst, sym, ℕ, ◌≡◌}
use Rattle.command_words.specs.declared.command_lines.CommandLine.TheVariants.{Check}
use Rattle.command_words.specs.declared.command_lines.CommandLine.{CommandLine}
use Rattle.day_clock.specs.Sources.{TakesCount, TakesUpTo}
use Rattle.hub_commands.specs.Calls.{CallEnds}
use Rattle.hub_commands.specs.Checks.{CheckEnds}

-- no byte was taken
none_taken : (source : Reads) (n : ℕ) → IsUnread source → TakesUpTo source.left source.rest n
none_taken source n unread = subst (λ rest. TakesUpTo source.left rest n) (sym unread.0) (0, omega arith, of_none source.left)
  where
    of_none : (left : Option (List ℕ)) → TakesCount left left 0
    of_none None = tt
    of_none (Some bytes) = (omega arith, refl)

-- memory was wanted before a byte was read
pub starved_input : (source : Reads) (fault : Option Fault) → fault ≡ Some Memory → IsUnread source → NoScriptIsRead source fault
starved_input source fault is unread = record { why = Memory; is = is; input = (unread.1, none_taken source _ unread) }

-- why no script was read
pub no_script : (source : Reads) (fault : Option Fault) (why : Fault) → InputIsRead source (Err why) → fault ≡ Some why → NoScriptIsRead source fault
no_script source fault why input is = record { why = why; is = is; input = input }

module _ {D : Type 0} (works : WindowWay) (shows : D → Shown) (source : Reads) (sink : Writes) (day : Option (Day D)) (fault : Option Fault) where
  -- the words are of this command, or of none that the call takes
  pub asked_for : (line asked : Option CommandLine) → line ≡ asked → CallEnds works shows asked source sink day fault → CallEnds works shows line source sink day fault
  asked_for line asked is ends = subst (λ l. CallEnds works shows l source sink day fault) (sym is) ends

  -- memory was wanted for reading the words
  pub starved_words : (line : Option CommandLine) → fault ≡ Some Memory → IsUnread source → NothingIsPlayed sink day → CallEnds works shows line source sink day fault
  starved_words None is unread nothing = ((inr is, unread), nothing)
  starved_words (Some (Replay options)) is unread nothing = inl (starved_input source fault is unread, nothing)
  starved_words (Some (Run options)) is unread nothing = inl (starved_input source fault is unread, nothing)
  starved_words (Some (Watch options)) is unread nothing = inl (starved_input source fault is unread, nothing)
  starved_words (Some (Keep options)) is unread nothing = (is, unread, nothing)
  starved_words (Some Check) is unread nothing = (nothing.0, subst (λ f. CheckEnds source sink f) (sym is) (nothing.1, (unread.1, none_taken source _ unread)))
  starved_words (Some (Trial number)) is unread nothing = (unread, subst (λ f. TrialEnds shows number sink day f) (sym is) (nothing.1, inl nothing.0))
