-- What is kept of a hub of the weak model.
pub mod WeakChanges
pub mod WeakTakes
pub mod WeakGives
pub mod WeakProbes
pub mod WeakChoices
pub mod WeakClosings
