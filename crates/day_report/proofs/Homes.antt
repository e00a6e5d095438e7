-- Where the devices of a home stand.
use Rattle.day_report.proofs.Prelude.{List, None, Stand, ap, false, nowhere, slice_get, stand_at, sym, unwrap_or, ℕ, ◌∙◌, ◌≡◌}
use Rattle.std.proofs.lemmas.Option.{unwrap_or-slice_get}

-- a device that is not in the home stands nowhere
pub stand_at_missing : (home : List Stand) (d : ℕ) → slice_get home d ≡ None → stand_at home d ≡ record { value = 0; up = false }
stand_at_missing home d missing = sym (unwrap_or-slice_get home d nowhere) ∙ ap (λ found. unwrap_or found nowhere) missing
