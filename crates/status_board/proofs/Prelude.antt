-- What many proofs of this crate cite, passed on from one place.
pub use Rattle.status_board.specs.Publishings.{IsNotBelow, Rises, RisesFrom, StartsWith, last_from, last_of, nothing}
pub use Rattle.status_board.specs.Sights.{Sight}
pub use Rattle.status_board.specs.Views.{HasLooked, HasPublished, KnowsABeginning, ViewsAreKept, meeting, publishing, watching}
pub use Rattle.status_board.specs.declared.day_counts.Counts.{Counts}
pub use Rattle.status_board.specs.declared.passes.PassView.{PassView}
pub use Rattle.std.proofs.Common.{All, List, [], ap, append_assoc, arith, false, get_or, length, length-append, refl, rules, set, subst, suc, sym, take, true, true≢false, zero, ℕ, ⊎_elim, ◌++◌, ◌+◌, ◌<◌, ◌∙◌, ◌∷◌, ◌≡◌, ◌≢◌}
