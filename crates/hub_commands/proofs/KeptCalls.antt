-- A call that keeps the states of a day: how it ends, from how its parts have.
use Rattle.hub_commands.proofs.Prelude.{Bool, Day, Err, Fault, HasEndedBehind, IsDamage, IsDiskLeft, IsReplayOf, IsUnread, JournalState, KeepsFirst, Kind, LeavesOldOrSame, List, Memory, NoScriptIsRead, None, NothingIsPlayed, Ok, Option, Options, Reads, Script, Shown, Some, Stand, WindowRecord, Writes, ap, arith, inl, inr, kinds_of, last_states, length, refl, subst, sym, true, windows_of, ℕ, ◌<◌, ◌∙◌, ◌≡◌, ◌≤◌, ◌⊎◌}
use Rattle.slot_disks.proofs.Cited.{then_on, weaker}
use Rattle.slot_disks.specs.Disks.{LeavesThis}
use Rattle.home_journal.specs.KeptStates.{kept_states}
use Rattle.home_journal.specs.declared.journals.OpenFault.TheVariants.{Damaged as HasDamage, Failed, NoMemory}
use Rattle.home_journal.specs.declared.journals.OpenFault.{OpenFault}
use Rattle.home_types.specs.Limits.{most_windows}
use Rattle.hub_commands.proofs.KeptStates.{bad_within, none_kept}
use Rattle.hub_commands.specs.KeepCalls.{DayGoesOn, IsJournalOpened, JournalIsOpened, KeepEnds, opening_fault}
use Rattle.hub_commands.proofs.EndedCalls.{starved_input}

module _ {Q : Type 0} (told : Bool) (seen : Q → List ℕ) (images : Q → List ℕ → Type 0) (moment : Q → ℕ) (since : Q → ℕ → List ℕ → Type 0) (failures : Q → ℕ) (script : Script) (disk now : Q) where
  abbrev own_kinds : List Kind
  own_kinds = kinds_of script

  abbrev all_windows : ℕ
  all_windows = length script.windows.items

  -- why the journal was not opened
  pub not_opened : (own : List Kind) (few : ℕ) (fault : OpenFault) (error : Fault) → own ≡ own_kinds → few ≡ all_windows → few ≤ most_windows → error ≡ opening_fault fault
      → (told ≡ true → IsDamage fault (kept_states own few (seen disk)) (seen disk) (seen now)) → (fault ≡ Failed → failures disk < failures now) → (fault ≡ NoMemory → now ≡ disk)
      → (told ≡ true → LeavesOldOrSame seen images moment since own few disk now)
      → JournalIsOpened told seen images moment since failures script disk (Err (now, error))
  not_opened own few fault error same_kinds same_most within is damaged failed no_memory left =
      subst (λ (e : Fault). JournalIsOpened told seen images moment since failures script disk (Err (now, e))) (sym is) (by_fault fault damaged failed no_memory)
    where
      any_moment : told ≡ true → LeavesOldOrSame seen images moment since own_kinds all_windows disk now
      any_moment true_told = subst (λ (q : List Kind × ℕ). LeavesOldOrSame seen images moment since q.0 q.1 disk now) (λ i. (same_kinds i, same_most i)) (left true_told)

      by_fault : (f : OpenFault) → (told ≡ true → IsDamage f (kept_states own few (seen disk)) (seen disk) (seen now)) → (f ≡ Failed → failures disk < failures now) → (f ≡ NoMemory → now ≡ disk)
          → JournalIsOpened told seen images moment since failures script disk (Err (now, opening_fault f))
      by_fault NoMemory bad fails starves = starves refl
      by_fault Failed bad fails starves = record { failed = fails refl; any_moment = any_moment }
      by_fault (HasDamage place) bad fails starves = record {
        place = place;
        from_one = λ true_told. let inside = bad_within own few (seen disk) place (bad true_told).0 in omega (arith, inside, within);
        damaged = λ true_told. (λ t. kept_states (sym same_kinds t) (sym same_most t) (seen disk)) ∙ (bad true_told).0;
        same = λ true_told. (bad true_told).1;
        any_moment = any_moment;
      }

module _ {D Q : Type 0} (shows : D → Shown) (told : Bool) (seen : Q → List ℕ) (images : Q → List ℕ → Type 0) (moment : Q → ℕ) (since : Q → ℕ → List ℕ → Type 0) (failures : Q → ℕ) where
  module _ (script : Script) (options : Options) (sink : Writes) (disk now : Q) (day : Option (Day D)) where
    abbrev kinds : List Kind
    kinds = kinds_of script

    abbrev most : ℕ
    most = length script.windows.items

    module _ (journal : JournalState Q) (opened : IsJournalOpened told seen images moment since failures script disk journal) (durable : told ≡ true → LeavesThis (seen journal.disk) (images journal.disk)) where
      -- what the disk keeps, the journal keeps
      kept_there : told ≡ true → (homes : List (List Stand)) → kept_states kinds most (seen disk) ≡ Ok homes → kept_states kinds most (seen journal.disk) ≡ Ok homes
      kept_there true_told homes kept = (λ t. kept_states (sym opened.kinds t) (sym opened.most t) (seen journal.disk)) ∙ opened.same true_told ∙ kept

      abbrev Leaves : List (List Stand) → List (List Stand) → List ℕ → Type 0
      Leaves homes added c = images disk c ⊎ KeepsFirst kinds most homes added c

      before_left : (homes added : List (List Stand)) (c : List ℕ) → kept_states kinds most (seen disk) ≡ Ok homes → images disk c ⊎ (kept_states kinds most c ≡ kept_states kinds most (seen disk)) → Leaves homes added c
      before_left homes added c kept (inl image) = inl image
      before_left homes added c kept (inr same) = inr (none_kept kinds most homes added c (same ∙ kept))

      behind_left : told ≡ true → (homes added : List (List Stand)) (c : List ℕ) → kept_states kinds most (seen disk) ≡ Ok homes → images journal.disk c ⊎ KeepsFirst kinds most homes added c → Leaves homes added c
      behind_left true_told homes added c kept (inl image) = inr (none_kept kinds most homes added c (ap (λ b. kept_states kinds most b) (durable true_told c image) ∙ kept_there true_told homes kept))
      behind_left true_told homes added c kept (inr first) = inr first

      left_since : told ≡ true → (homes : List (List Stand)) (records : List WindowRecord) (fault : Option Fault) → kept_states kinds most (seen disk) ≡ Ok homes
          → IsDiskLeft seen images moment since kinds most homes journal.disk now records fault → IsDiskLeft seen images moment since kinds most homes disk now records fault
      left_since true_told homes records fault kept is = record {
        any_moment = then_on moment since disk journal.disk now (Leaves homes (last_states records))
            (weaker moment since disk journal.disk _ (Leaves homes (last_states records)) (λ c left. before_left homes (last_states records) c kept left) (opened.any_moment true_told))
            (weaker moment since journal.disk now _ (Leaves homes (last_states records)) (λ c left. behind_left true_told homes (last_states records) c kept left) is.any_moment);
        durable = is.durable;
      }

      -- the journal was opened, and the day has ended
      pub opened_ends : (fault : Option Fault) → HasEndedBehind IsReplayOf shows told seen images moment since failures script journal.kept journal.last options sink journal.disk now day fault
          → DayGoesOn shows told seen images moment since failures script options sink disk now day fault
      opened_ends fault is = record {
        kept = journal.kept;
        last = journal.last;
        knows = opened.knows;
        ended = record {
          begins = is.begins;
          goes_on = is.goes_on;
          ended = record {
            ends = is.ended.ends;
            later = let first = opened.later in let last = is.ended.later in omega (arith, first, last);
            failed = λ at_disk. let first = opened.later in let last = is.ended.failed at_disk in omega (arith, first, last);
            disk = λ true_told homes kept. left_since true_told homes (windows_of day) fault kept (is.ended.disk true_told homes (kept_there true_told homes kept));
          };
        };
      }

  -- no script was read, and the disk was not called
  module _ (source : Reads) (sink : Writes) (disk now : Q) (day : Option (Day D)) (fault : Option Fault) (nothing : NothingIsPlayed sink day) (uncalled : now ≡ disk) where
    pub starved_keep : (asked : Option Options) → fault ≡ Some Memory → IsUnread source → KeepEnds shows told seen images moment since failures asked source sink disk now day fault
    starved_keep None is unread = ((inr is, unread), nothing, uncalled)
    starved_keep (Some options) is unread = inl (starved_input source fault is unread, nothing, uncalled)

    pub refused_keep : (asked : Option Options) (options : Options) → asked ≡ Some options → NoScriptIsRead source fault → KeepEnds shows told seen images moment since failures asked source sink disk now day fault
    refused_keep asked options is unread = subst (λ (a : Option Options). KeepEnds shows told seen images moment since failures a source sink disk now day fault) (sym is) (inl (unread, nothing, uncalled))
