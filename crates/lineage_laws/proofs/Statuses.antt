-- Why the accesses stand by their status.
use Rattle.lineage_laws.proofs.Prelude.{Access, Acquired, All-cons, All-from_recursion, All-nil, AllByRecursion, AreInTurn, IsDisciplined, List, Released, Scheduled, StandByStatus, [], ap, arith, common_steps, pairs_from_all, refl, ◌∷◌, ◌≡◌}
use Rattle.lineage_table.proofs.Cited.{Pairs}
use Rattle.lineage_table.specs.declared.accesses.Status.{Status}

scheduled_behind : (x y : Access) → ((x.status ≡ Released) → ⊥) → AreInTurn x y → y.status ≡ Scheduled
scheduled_behind x y n h = at x.status refl y.status refl h
  where
    at : (s : Status) → x.status ≡ s → (t : Status) → y.status ≡ t → AreInTurn (record x { status = s }) (record y { status = t }) → t ≡ Scheduled
    at Released e t f h = absurd (n e)
    at Acquired e Released f h = absurd (grind (arith, common_steps))
    at Acquired e Acquired f h = absurd (grind (arith, common_steps))
    at Acquired e Scheduled f h = refl
    at Scheduled e Released f h = absurd (grind (arith, common_steps))
    at Scheduled e Acquired f h = absurd (grind (arith, common_steps))
    at Scheduled e Scheduled f h = refl

all_scheduled : (x : Access) (xs : List Access) → ((x.status ≡ Released) → ⊥) → AllByRecursion (AreInTurn x) xs → AllByRecursion (λ y. y.status ≡ Scheduled) xs
all_scheduled x [] n h = tt
all_scheduled x (y ∷ xs) n h = (scheduled_behind x y n h.0, all_scheduled x xs n h.1)

by_status : (xs : List Access) → Pairs AreInTurn xs → StandByStatus xs
unfolding Pairs
by_status [] h = record { released = []; acquired = []; scheduled = []; parts = refl; are_released = All-nil (λ x. x.status ≡ Released); are_acquired = All-nil (λ x. x.status ≡ Acquired); are_scheduled = All-nil (λ x. x.status ≡ Scheduled); one = omega arith }
by_status (x ∷ xs) h = at x.status refl (by_status xs h.1)
  where
    later : ((x.status ≡ Released) → ⊥) → AllByRecursion (λ y. y.status ≡ Scheduled) xs
    later n = all_scheduled x xs n h.0

    at : (s : Status) → x.status ≡ s → StandByStatus xs → StandByStatus (x ∷ xs)
    at Released e r = record {
      released = x ∷ r.released;
      acquired = r.acquired;
      scheduled = r.scheduled;
      parts = ap (λ l. x ∷ l) r.parts;
      are_released = All-cons (λ y. y.status ≡ Released) x r.released e r.are_released;
      are_acquired = r.are_acquired;
      are_scheduled = r.are_scheduled;
      one = r.one;
    }
    at Acquired e r = record {
      released = [];
      acquired = x ∷ [];
      scheduled = xs;
      parts = refl;
      are_released = All-nil (λ y. y.status ≡ Released);
      are_acquired = All-cons (λ y. y.status ≡ Acquired) x [] e (All-nil (λ y. y.status ≡ Acquired));
      are_scheduled = All-from_recursion (λ y. y.status ≡ Scheduled) xs (later (λ f. cc));
      one = omega arith;
    }
    at Scheduled e r = record {
      released = [];
      acquired = [];
      scheduled = x ∷ xs;
      parts = refl;
      are_released = All-nil (λ y. y.status ≡ Released);
      are_acquired = All-nil (λ y. y.status ≡ Acquired);
      are_scheduled = All-cons (λ y. y.status ≡ Scheduled) x xs e (All-from_recursion (λ y. y.status ≡ Scheduled) xs (later (λ f. cc)));
      one = omega arith;
    }

pub stand_by_status : (xs : List Access) → IsDisciplined xs → StandByStatus xs
stand_by_status xs k = by_status xs (pairs_from_all AreInTurn xs k.in_turn)
