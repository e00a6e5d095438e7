-- Windows whose lines are written: the lines of the last one, and the counts of all.
use Rattle.day_report.specs.Days.{abort_count, commit_count, counts_line, day_text, total_text, window_text}
use Rattle.day_report.specs.Trials.{trial_line, trial_text}
use Rattle.history_book.specs.declared.records.WindowRecord.{WindowRecord}
use Rattle.home_types.specs.declared.modes.Mode.{Mode}
use Rattle.hub_commands.proofs.Snocs.{length_more, snoc_last}
use Rattle.hub_commands.specs.Going.{IsLastOf}
use Rattle.hub_commands.specs.Trials.{trial_mode}
use Rattle.legal_days.specs.LegalDays.{RecordsAreLegal}
use Rattle.order_checker.specs.Records.{verdict_of}
use Rattle.order_checker.specs.declared.verdicts.Verdict.TheVariants.{Agrees}
use Rattle.printed_records.proofs.Cited.{held_small, legal_agrees}
use Rattle.printed_records.specs.SmallTimes.{are_small}
use Rattle.routine_reader.specs.Scripts.{plain_script}
use Rattle.routine_reader.specs.Sound.{IsSound}
use Rattle.routine_reader.specs.declared.scripts.Script.{Script}
use Rattle.std.proofs.Common.{ap, arith, refl, subst, sym, ◌∙◌}
use Rattle.std.specs.List.{list_all}
use Rattle.std.specs.Prelude.{Bool, IfOk, List, Result, [], false, length, true, ℕ, ◌+◌, ◌++◌, ◌∷◌, ◌≡◌}

-- the lines of the last window are those of its number
pub lines_of_last : {M : Type 0} (script : Script) (before number : ℕ) (closed : WindowRecord) (items : List WindowRecord) (mode : Mode) (trace : Bool) (piece : Result (List ℕ) M)
    → IsLastOf closed items → number + 1 ≡ length items → IfOk piece (λ lines. lines ≡ window_text script (before + number) closed mode trace)
    → (earlier : List WindowRecord) (last : WindowRecord) → items ≡ earlier ++ last ∷ [] → IfOk piece (λ lines. lines ≡ window_text script (before + length earlier) last mode trace)
lines_of_last script before number closed items mode trace piece is count made earlier last all =
    let size = ap (λ rs. length rs) all in
    let more = length_more earlier last in
    let at : number ≡ length earlier = omega (arith, count, size, more) in
    let same : closed ≡ last = snoc_last is.0 earlier closed last (sym is.1 ∙ all) in
    let P : ℕ × WindowRecord → Type 0 = λ q. IfOk piece (λ lines. lines ≡ window_text script (before + q.0) q.1 mode trace) in
    subst P (λ i. (at i, same i)) made

-- the line of their counts is the total
pub total_told : {M : Type 0} (windows : List WindowRecord) (count committed aborted : ℕ) (piece : Result (List ℕ) M) → count ≡ length windows → committed ≡ commit_count windows → aborted ≡ abort_count windows
    → IfOk piece (λ b. b ≡ counts_line count committed aborted) → IfOk piece (λ b. b ≡ total_text windows)
unfolding total_text
total_told windows count committed aborted piece all commits aborts made =
    let P : ℕ × ℕ × ℕ → Type 0 = λ q. IfOk piece (λ b. b ≡ counts_line q.0 q.1 q.2) in
    subst P (λ i. (all i, commits i, aborts i)) made

-- .. and with the number of the trial and how many windows agree, the line of the trial
pub trial_told : {M : Type 0} (n agree : ℕ) (windows : List WindowRecord) (count committed aborted : ℕ) (piece : Result (List ℕ) M) → count ≡ length windows → committed ≡ commit_count windows → aborted ≡ abort_count windows
    → IfOk piece (λ b. b ≡ trial_line n count committed aborted agree) → IfOk piece (λ b. b ≡ trial_text n windows agree)
unfolding trial_text
trial_told n agree windows count committed aborted piece all commits aborts made =
    let P : ℕ × ℕ × ℕ → Type 0 = λ q. IfOk piece (λ b. b ≡ trial_line n q.0 q.1 q.2 agree) in
    subst P (λ i. (all i, commits i, aborts i)) made

-- the text of a legal day agrees
pub told_agrees : (script : Script) (windows seen : List WindowRecord) → IsSound (plain_script script) → RecordsAreLegal script trial_mode windows → length windows ≡ length script.windows.items
    → seen ≡ windows → list_all (λ (closed : WindowRecord). are_small closed.history.items) seen ≡ true → verdict_of script (day_text script windows trial_mode false) ≡ Agrees
told_agrees script windows seen sound legal all same small =
    legal_agrees script trial_mode windows sound refl legal all false (held_small windows (ap (list_all (λ (closed : WindowRecord). are_small closed.history.items)) (sym same) ∙ small))
