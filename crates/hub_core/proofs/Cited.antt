-- What proofs of other crates cite of this one: lemmas, and the words in which these are said, by
-- the file in which they stand. Every other file of proofs/ is private.

-- What holds of each thing that a run's step may do holds of the step.
pub use Rattle.hub_core.proofs.steps.Choices.{decide_is}
-- What a hub answers to a run that takes, to a grip that comes back, and to the detector.
pub use Rattle.hub_core.proofs.steps.HubAnswers.{gave_back, gave_probe_back, never_refused, probe_never_refused, took_after, took_choice, took_none, took_probe}
-- Each number from 1 to how many runs a roster has is that of a run.
pub use Rattle.hub_core.proofs.kept.Sizes.{run_there}
-- Who may sleep: a take of a blocked run changes nothing but the moment, and each sleeper that no
-- step has called is blocked.
pub use Rattle.hub_core.proofs.waiting.Sleepers.{sleepers_later, wait_is}
-- How long a history is with the entries of a step at its end.
pub use Rattle.hub_core.proofs.calls.HubChanges.{length_with}
-- A window that was closed was worked from its opening on.
pub use Rattle.hub_core.proofs.calls.WindowWays.{plan_in, window_worked}
-- A window of a sound script may be opened in every mode.
pub use Rattle.hub_core.proofs.SoundWindows.{may_open}
