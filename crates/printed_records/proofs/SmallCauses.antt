-- The causes of aborted runs have small times where the entries have.
use Rattle.printed_records.proofs.Prelude.{Aborted, Arrived, Bool, Cause, CausesAreSmall, Committed, Did, Doomed, DownAtEnd, End, Ended, Entry, Fell, IsSmall, Kept, List, Lost, MustDown, None, Option, Placed, Refuted, Revoked, Rose, RunNo, Some, TimesAreSmall, Undid, WindowRecord, [], are_small, arith, common_steps, end_in, end_of, false, if◌then◌else◌, is_small, list_all, option_or, refl, subst, suc, true, zero, ℕ, ◌==◌, ◌∙◌, ◌∷◌, ◌≡◌}
use Rattle.printed_records.proofs.CausesKept.{aborted-same}

cause_small : (r : RunNo) (cause : Cause) → is_small (Ended r (Aborted cause)) ≡ true → IsSmall cause
cause_small r (MustDown c) small = tt
cause_small r (Refuted c x) small = tt
cause_small r (Lost d) small = tt
cause_small r (Revoked l d t m) small = (grind (arith, common_steps), grind (arith, common_steps))
cause_small r (DownAtEnd d) small = tt

end_small : (q : RunNo) (r : ℕ) (end : End) (cause : Cause) → is_small (Ended q end) ≡ true → (if q.0 == r then Some end else None) ≡ Some (Aborted cause) → IsSmall cause
end_small q r end cause small told = of_bool end (q.0 == r) small told
  where
    of_bool : (e : End) (b : Bool) → is_small (Ended q e) ≡ true → (if b then Some e else None) ≡ Some (Aborted cause) → IsSmall cause
    of_bool e false s t = absurd (cc)
    of_bool Committed true s t = absurd (cc)
    of_bool (Aborted k) true s t = subst IsSmall (aborted-same k cause t) (cause_small q k s)

entry_small : (r : ℕ) (e : Entry) (cause : Cause) → is_small e ≡ true → end_in r e ≡ Some (Aborted cause) → IsSmall cause
entry_small r (Arrived q m) cause small told = absurd (cc)
entry_small r (Placed q at m) cause small told = absurd (cc)
entry_small r (Did q c a) cause small told = absurd (cc)
entry_small r (Undid q d drove) cause small told = absurd (cc)
entry_small r (Fell d) cause small told = absurd (cc)
entry_small r (Rose d) cause small told = absurd (cc)
entry_small r (Doomed q k) cause small told = absurd (cc)
entry_small r (Ended q end) cause small told = end_small q r end cause small told

history_small : (history : List Kept) → are_small history ≡ true → CausesAreSmall history
history_small [] small r cause told = absurd (cc)
history_small (k ∷ history) small r cause told =
    of_end (end_in r k.entry) refl told (history_small history (grind (arith, common_steps)) r cause)
  where
    of_end : (o : Option End) → end_in r k.entry ≡ o → option_or o (end_of history r) ≡ Some (Aborted cause) → (end_of history r ≡ Some (Aborted cause) → IsSmall cause) → IsSmall cause
    of_end None is t rest = rest t
    of_end (Some end) is t rest = entry_small r k.entry cause (grind (arith, common_steps)) (is ∙ t)

-- the times of records are small where those of their entries are
pub held_small : (records : List WindowRecord) → list_all (λ closed. are_small closed.history.items) records ≡ true → TimesAreSmall records
held_small [] small k closed at = absurd (cc)
held_small (c ∷ records) small zero closed at =
    let same : c ≡ closed = cc in
    subst (λ (x : WindowRecord). CausesAreSmall x.history.items) same (history_small c.history.items (grind (arith, common_steps)))
held_small (c ∷ records) small (suc k) closed at = held_small records (grind (arith, common_steps)) k closed at
