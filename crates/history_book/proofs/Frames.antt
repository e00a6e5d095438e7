-- What an entry leaves: most of it by computing, the rest by put_keeps.
use Rattle.history_book.proofs.Snoc.{put_keeps}
use Rattle.history_book.proofs.Prelude.{Answer, Cause, Did, Doomed, Reading, RunNo, Setting, Some, entry, is_live, is_none, is_some, refl, ℕ, ◌&&◌, ◌≡◌}

-- an answer leaves each run as live as it was
pub did_live : (w : Setting) (n : Reading) (r : RunNo) (c : ℕ) (a : Answer) (q : ℕ) → is_live (entry w n (Did r c a)) q ≡ is_live n q
did_live w n r c a q = put_keeps (λ o. is_some o.placed && is_none o.ended) n.run r.0 _ refl q

-- a run that is doomed stays where it is, and is as live as it was
pub doomed_live : (w : Setting) (n : Reading) (r : RunNo) (k : Cause) (q : ℕ) → is_live (entry w n (Doomed r k)) q ≡ is_live n q
doomed_live w n r k q = put_keeps (λ o. is_some o.placed && is_none o.ended) n.run r.0 (record (n.run r.0) { doomed = Some k }) refl q
