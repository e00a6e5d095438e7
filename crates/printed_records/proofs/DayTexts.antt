-- The text of a day, read again.
use Rattle.printed_records.proofs.Prelude.{Agrees, Bool, DayFits, Differs, Eventual, Global, Head, IsSound, List, Mode, Ok, Partitioned, Scheduler, Script, Some, Stand, Total, Visibility, Weak, WindowFits, WindowRecord, WindowText, [], abort_count, add-zero, ap, append_assoc, ap₂, arith, codes, commit_count, count_by, counts_line, day_text, day_text_from, ends_told, enumerate_from, first_progress, flat_map, has_order, head_text, home_before, in_window, is_abort, is_commit, is_head, is_some, is_total, length, length-append, length-map, line_at, lines_of, next_window_told, option_map, option_map_or, plain_script, plain_window, prints_order, record_told, refl, required, slice_get, start_home, subst, suc, sum_by, sum_by-cons, sym, total_text, true, true≢false, unwrap_or, verdict, verdict_of, walk, window_lines, window_sound, window_text, window_texts_from, window_told, ℕ, ◌*◌, ◌++◌, ◌+◌, ◌<◌, ◌>>=◌, ◌^◌, ◌∙◌, ◌∷◌, ◌≡◌, ◌≢◌, ◌≤◌}
use Rattle.printed_records.proofs.Heads.{head-printed}
use Rattle.printed_records.proofs.Totals.{total-printed}
use Rattle.printed_records.proofs.WindowTexts.{window-printed}

get-after : {X : Type 0} (front : List X) (x : X) (rest : List X) → slice_get (front ++ x ∷ rest) (length front) ≡ Some x
get-after [] x rest = refl
get-after (y ∷ front) x rest = get-after front x rest

abbrev commits : WindowRecord → ℕ
commits closed = count_by (λ kept. is_commit kept.entry) closed.history.items

abbrev aborts : WindowRecord → ℕ
aborts closed = count_by (λ kept. is_abort kept.entry) closed.history.items

-- a mode whose records can be checked is not weak
not-weak : (model : Visibility) (scheduler : Scheduler) → has_order model scheduler ≡ true → model ≢ Weak
not-weak Weak scheduler has = absurd (true≢false (sym has))
not-weak Global scheduler has = λ same. absurd cc
not-weak Partitioned scheduler has = λ same. absurd cc
not-weak Eventual scheduler has = λ same. absurd cc

module _ (script : Script) (mode : Mode) (trace : Bool) (records : List WindowRecord) (sound : IsSound (plain_script script)) (has : prints_order mode ≡ true) (fits : DayFits script records) where
  -- from the window of this number on
  windows-from : (front windows : List WindowText) (earlier later : List WindowRecord) (k runs committed : ℕ) (home : List Stand) (rest : List ℕ)
      → front ++ windows ≡ script.windows.items → earlier ++ later ≡ records → k ≡ length front → k ≡ length earlier → length windows ≡ length later
      → home ≡ home_before script records k → k + length windows < 2 ^ 32
      → (last : List Stand) × (walk (next_window_told script)
      (record { windows = k; home = home; lines = lines_of (flat_map (λ (i, closed). window_text script i closed mode trace) (enumerate_from k later) ++ rest); runs = runs; committed = committed }) windows
      ≡ Ok (record { windows = k + length windows; home = last; lines = lines_of rest; runs = runs + (commit_count later + abort_count later); committed = committed + commit_count later }))
  unfolding walk commit_count abort_count window_text
  windows-from front [] earlier [] k runs committed home rest all all_records number number_too same home_is few =
      (home, (λ i. Ok (record { windows = sym (add-zero k) i; home = home; lines = lines_of rest; runs = sym (add-zero runs) i; committed = sym (add-zero committed) i })))
  windows-from front [] earlier (closed ∷ later) k runs committed home rest all all_records number number_too same home_is few = absurd (omega arith)
  windows-from front (window ∷ windows) earlier [] k runs committed home rest all all_records number number_too same home_is few = absurd (omega arith)
  windows-from front (window ∷ windows) earlier (closed ∷ later) k runs committed home rest all all_records number number_too same home_is few =
      let at : slice_get script.windows.items k ≡ Some window = ap₂ slice_get (sym all) number ∙ get-after front window windows in
      let record_at : slice_get records k ≡ Some closed = ap₂ slice_get (sym all_records) number_too ∙ get-after earlier closed later in
      let fit : WindowFits script home window closed = subst (λ h. WindowFits script h window closed) (sym home_is) (fits k window closed at record_at) in
      let more = flat_map (λ (i, closed). window_text script i closed mode trace) (enumerate_from (k + 1) later) in
      let own : option_map_or (λ w. window_lines script k w closed mode trace) (slice_get script.windows.items k) [] ≡ window_lines script k window closed mode trace =
      ap (λ o. option_map_or (λ w. window_lines script k w closed mode trace) o []) at in
      let text : (window_text script k closed mode trace ++ more) ++ rest ≡ window_lines script k window closed mode trace ++ (more ++ rest) =
      ap (λ t. (t ++ more) ++ rest) own ∙ append_assoc (window_lines script k window closed mode trace) more rest in
      let printed = window-printed script k window closed mode trace home runs committed (more ++ rest) sound (window_sound script k window sound at) (not-weak mode.model mode.scheduler has) (omega (arith, few)) fit in
      let n = length window.runs.items in
      let m = count_by is_some (ends_told window closed.history.items) in
      let next : home_before script records (k + 1) ≡ closed.last.devices.items =
      ap (home_before script records) {x = k + 1} {y = suc k} (omega arith) ∙ ap (λ o. unwrap_or (option_map (λ (c : WindowRecord). c.last.devices.items) o) []) record_at in
      let tail = windows-from (front ++ window ∷ []) windows (earlier ++ closed ∷ []) later (k + 1) (runs + n) (committed + m) closed.last.devices.items rest
      (append_assoc front (window ∷ []) windows ∙ all) (append_assoc earlier (closed ∷ []) later ∙ all_records)
      (omega (arith, number, length-append front (window ∷ []))) (omega (arith, number_too, length-append earlier (closed ∷ []))) (omega (arith, same)) (sym next) (omega (arith, few)) in
      let count : k + 1 + length windows ≡ k + length (window ∷ windows) = omega arith in
      let commits_are : sum_by commits (closed ∷ later) ≡ commits closed + sum_by commits later = sum_by-cons commits closed later in
      let aborts_are : sum_by aborts (closed ∷ later) ≡ aborts closed + sum_by aborts later = sum_by-cons aborts closed later in
      let ran : runs + n + (sum_by commits later + sum_by aborts later) ≡ runs + (sum_by commits (closed ∷ later) + sum_by aborts (closed ∷ later)) = omega (arith, commits_are, aborts_are, fit.ended) in
      let did : committed + m + sum_by commits later ≡ committed + sum_by commits (closed ∷ later) = omega (arith, commits_are, fit.committed) in (
        tail.0,
        ap (λ t. in_window (k + 1) (window_told script (record { windows = k; home = home; lines = lines_of t; runs = runs; committed = committed }) window) >>= (λ next. walk (next_window_told script) next windows)) text
            ∙ ap (λ o. in_window (k + 1) o >>= (λ next. walk (next_window_told script) next windows)) printed
            ∙ tail.1
            ∙ (λ i. Ok (record { windows = count i; home = tail.0; lines = lines_of rest; runs = ran i; committed = did i })),
      )

  -- each window has at most so many runs
  counts-few : (windows : List WindowText) (later : List WindowRecord) → ((k : ℕ) (window : WindowText) (closed : WindowRecord) → slice_get windows k ≡ Some window → slice_get later k ≡ Some closed
      → commits closed + aborts closed ≤ 64) → length windows ≡ length later → sum_by commits later + sum_by aborts later ≤ 64 * length later
  counts-few [] [] few same = omega arith
  counts-few [] (closed ∷ later) few same = absurd (omega arith)
  counts-few (window ∷ windows) [] few same = absurd (omega arith)
  counts-few (window ∷ windows) (closed ∷ later) few same =
      let rest = counts-few windows later (λ k w c at record_at. few (suc k) w c at record_at) (omega (arith, same)) in
      let commits_are : sum_by commits (closed ∷ later) ≡ commits closed + sum_by commits later = sum_by-cons commits closed later in
      let aborts_are : sum_by aborts (closed ∷ later) ≡ aborts closed + sum_by aborts later = sum_by-cons aborts closed later in
      omega (arith, commits_are, aborts_are, few 0 window closed refl refl, rest)

  day-few : length records ≡ length script.windows.items → commit_count records + abort_count records ≤ 64 * length records
  unfolding commit_count abort_count
  day-few same =
      counts-few script.windows.items records (λ k window closed at record_at.
      omega (arith, (fits k window closed at record_at).ended, (window_sound script k window sound at).few_runs)) (sym same)

  -- the text of a day whose windows fit agrees with the script
  pub day-agrees : length records ≡ length script.windows.items → verdict_of script (day_text script records mode trace) ≡ Agrees
  unfolding verdict_of record_told day_text_from window_texts_from total_text
  day-agrees same =
      let windows = script.windows.items in
      let head = head-printed mode has in
      let texts = flat_map (λ (i, closed). window_text script i closed mode trace) (enumerate_from 0 records) in
      let rest = total_text records in
      let lines : lines_of (day_text script records mode trace) ≡ Some (codes "safehome day") ∷ Some head.0 ∷ lines_of (texts ++ rest) =
      ap lines_of (append_assoc (head_text mode) texts rest) ∙ head.1.lines (texts ++ rest) in
      let few : length windows < 2 ^ 32 = omega (arith, sound.few_windows, length-map windows plain_window) in
      let walked = windows-from [] windows [] records 0 0 0 (start_home script) rest refl refl refl refl (sym same) refl (omega (arith, few)) in
      let total : is_total (record { windows = length records; runs = commit_count records + abort_count records; committed = commit_count records }) (lines_of (counts_line (length records) (commit_count records) (abort_count records))) ≡ true =
      total-printed (record { windows = length records; runs = commit_count records + abort_count records; committed = commit_count records }) (abort_count records) refl
      (omega (arith, same, few)) (omega (arith, day-few same, same, few)) in
      let counted : (0 + length windows) ≡ length records = omega (arith, same) in
      let ran : 0 + (commit_count records + abort_count records) ≡ commit_count records + abort_count records = omega arith in
      let did : 0 + commit_count records ≡ commit_count records = omega arith in
      ap (λ ls. verdict (required (is_head (line_at ls 0) (line_at ls 1)) (Differs 0 Head)
      >>= (λ h. walk (next_window_told script) (first_progress script ls) windows
      >>= (λ last. required (is_total (record { windows = last.windows; runs = last.runs; committed = last.committed }) last.lines) (Differs last.windows Total))))) lines
      ∙ ap (λ b. verdict (required b (Differs 0 Head)
      >>= (λ h. walk (next_window_told script) (record { windows = 0; home = start_home script; lines = lines_of (texts ++ rest); runs = 0; committed = 0 }) windows
      >>= (λ last. required (is_total (record { windows = last.windows; runs = last.runs; committed = last.committed }) last.lines) (Differs last.windows Total))))) head.1.is
      ∙ ap (λ o. verdict (o >>= (λ last. required (is_total (record { windows = last.windows; runs = last.runs; committed = last.committed }) last.lines) (Differs last.windows Total)))) walked.1
      ∙ (λ i. verdict (required (is_total (record { windows = counted i; runs = ran i; committed = did i }) (lines_of rest)) (Differs (counted i) Total)))
      ∙ ap (λ b. verdict (required b (Differs (length records) Total))) total
