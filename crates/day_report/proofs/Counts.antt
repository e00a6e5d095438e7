-- How many runs of some windows committed and were aborted, window by window.
use Rattle.day_report.proofs.Prelude.{List, WindowRecord, [], abort_count, ap, commit_count, count_by, get_or, is_abort, is_commit, length, refl, sym, take, ℕ, ◌+◌, ◌<◌, ◌∙◌, ◌≡◌}
use Rattle.std.proofs.lemmas.List.Sums.{sum_by_more}

pub no_commits : commit_count [] ≡ 0
unfolding commit_count
no_commits = refl

pub no_aborts : abort_count [] ≡ 0
unfolding abort_count
no_aborts = refl

-- the commits of one more window
pub commit_count-take : (windows : List WindowRecord) (i commits : ℕ) (closed : WindowRecord) → i < length windows → closed ≡ get_or windows i closed
    → commits ≡ count_by (λ kept. is_commit kept.entry) closed.history.items → commit_count (take i windows) + commits ≡ commit_count (take (i + 1) windows)
unfolding commit_count
commit_count-take windows i commits closed within element counted =
    let count : WindowRecord → ℕ = λ w. count_by (λ kept. is_commit kept.entry) w.history.items in
    sym (sum_by_more count windows i closed within ∙ ap (λ n. commit_count (take i windows) + n) (ap count (sym element) ∙ sym counted))

-- the aborts of one more window
pub abort_count-take : (windows : List WindowRecord) (i aborts : ℕ) (closed : WindowRecord) → i < length windows → closed ≡ get_or windows i closed → aborts ≡ count_by (λ kept. is_abort kept.entry) closed.history.items → abort_count (take i windows) + aborts ≡ abort_count (take (i + 1) windows)
unfolding abort_count
abort_count-take windows i aborts closed within element counted =
    let count : WindowRecord → ℕ = λ w. count_by (λ kept. is_abort kept.entry) w.history.items in
    sym (sum_by_more count windows i closed within ∙ ap (λ n. abort_count (take i windows) + n) (ap count (sym element) ∙ sym counted))
