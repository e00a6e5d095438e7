-- The day of a trial.
use Rattle.hub_commands.proofs.Prelude.{Check, Cross, Damaged, Day, DayEnds, DayIsWhole, Disk, Fault, HasJudged, IsReplayOf, IsTrialDay, Memory, None, Option, Options, Read, RecordsAreLegal, Script, Shown, Some, TrialEnds, Words, Write, Writes, false, finding, inr, plain, plain_script, refl, subst, sym, trial_mode, ℕ, ◌∙◌, ◌≡◌}
use Rattle.hub_commands.specs.declared.faults.Fault.TheVariants.{Script as Refuses}
use Rattle.order_checker.specs.declared.verdicts.Verdict.TheVariants.{Agrees}
use Rattle.trial_scripts.specs.TrialScripts.{trial_script}

-- what is true of the day that was handed back is true of this one
given_day : {D : Type 0} (P : Day D → Type 0) (day other : Day D) → ◌≡◌ {A = Option (Day D)} (Some day) (Some other) → P other → P day
given_day P day other given holds = let same : other ≡ day = cc in subst P same holds

-- the records of a whole day are legal
pub whole_legal : {D : Type 0} (shows : D → Shown) (script : Script) (options : Options) (sink : Writes) (o : Option (Day D)) (fault : Option Fault) (day : Day D) → o ≡ Some day → fault ≡ None
    → DayEnds IsReplayOf shows plain script options sink o fault → RecordsAreLegal script options.mode day.windows.items
whole_legal shows script options sink o fault day is none ends =
    let whole : DayIsWhole IsReplayOf shows plain script options sink o = subst (λ f. DayEnds IsReplayOf shows plain script options sink o f) none ends in
    given_day (λ d. RecordsAreLegal script options.mode d.windows.items) day whole.day (sym is ∙ whole.given) whole.legal.legal

module _ {D : Type 0} (shows : D → Shown) (n : ℕ) (script : Script) (made : plain_script script ≡ trial_script n) (text sink : Writes) (after : Option (Day D)) where
  abbrev trial_options : Options
  trial_options = record { mode = trial_mode; trace = false }

  trial_day : (o : Option (Day D)) (whole : DayIsWhole IsReplayOf shows plain script trial_options text o) → finding script whole.day ≡ Agrees → IsTrialDay shows n whole.day
  trial_day o whole agrees = record {
    script = script;
    made = made;
    devices = whole.devices;
    there = whole.there;
    legal = whole.legal;
    takes = whole.takes;
    played = whole.played;
    probed = whole.probed;
    agrees = agrees;
  }

  judged_whole : (o : Option (Day D)) (whole : DayIsWhole IsReplayOf shows plain script trial_options text o) (told : Option Fault)
      → finding script whole.day ≡ Agrees → HasJudged n script sink whole.day after told → TrialEnds shows n sink after told
  unfolding trial_day
  judged_whole o whole None agrees judged =
      record { day = whole.day; given = judged.0; trial = trial_day o whole agrees; text = judged.1; calm = judged.2 }
  judged_whole o whole (Some (Refuses fault)) agrees judged = judged
  judged_whole o whole (Some Words) agrees judged = judged
  judged_whole o whole (Some Read) agrees judged = judged
  judged_whole o whole (Some Write) agrees judged =
      record { day = whole.day; given = judged.0; trial = trial_day o whole agrees; text = judged.1; failed = judged.2 }
  judged_whole o whole (Some Memory) agrees judged = (
    judged.1,
    inr (record {
      script = script;
      made = made;
      day = record { windows = whole.day.windows; devices = None };
      given = judged.0;
      no_devices = refl;
      takes = whole.takes;
      played = whole.played;
    }),
  )
  judged_whole o whole (Some (Check window place name)) agrees judged = judged
  judged_whole o whole (Some (Cross window run follow)) agrees judged = absurd judged
  judged_whole o whole (Some Disk) agrees judged = judged
  judged_whole o whole (Some (Damaged slot)) agrees judged = judged

  -- a day that was played and judged
  pub judged_ends : (o : Option (Day D)) (fault : Option Fault) (day : Day D) (told : Option Fault) → o ≡ Some day → fault ≡ None
      → DayEnds IsReplayOf shows plain script trial_options text o fault → finding script day ≡ Agrees → HasJudged n script sink day after told → TrialEnds shows n sink after told
  judged_ends o fault day told is none ends =
      let whole : DayIsWhole IsReplayOf shows plain script trial_options text o = subst (λ f. DayEnds IsReplayOf shows plain script trial_options text o f) none ends in
      given_day (λ d. finding script d ≡ Agrees → HasJudged n script sink d after told → TrialEnds shows n sink after told) day whole.day (sym is ∙ whole.given) (judged_whole o whole told)
