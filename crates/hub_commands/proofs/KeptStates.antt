-- The states that a journal keeps, with one more.
use Rattle.hub_commands.proofs.Prelude.{Bool, Check, Cross, Damaged, Disk, Err, Fault, KeepsAtLeast, KeepsFirst, Kind, List, Memory, None, Ok, Option, Read, Result, Some, Stand, WindowRecord, Words, Write, [], ap, append-nil, append_assoc, arith, drop, false, if◌then◌else◌, last_states, length, length-append, map-append, nat_lt, refl, suc, surely_kept, sym, take, take_all, true, zero, ℕ, ◌&&◌, ◌++◌, ◌+◌, ◌<◌, ◌==◌, ◌∙◌, ◌∷◌, ◌≡◌, ◌≤◌}
use Rattle.home_journal.specs.KeptStates.{kept_states, states_from, with_first}
use Rattle.home_journal.specs.Slots.{body_size, slot_state}
use Rattle.slot_disks.specs.Slots.{open_slots}
use Rattle.hub_commands.specs.declared.faults.Fault.TheVariants.{Script as Refuses}
use Rattle.std.proofs.Math.Seq.{take-append_seam}

-- a first part is one of more
take_wider : {X : Type 0} (xs ys : List X) (i : ℕ) → (j : ℕ) × (take i xs ≡ take j (xs ++ ys))
take_wider [] ys zero = (0, refl)
take_wider [] ys (suc i) = (0, refl)
take_wider (x ∷ xs) ys zero = (0, refl)
take_wider (x ∷ xs) ys (suc i) = let rest = take_wider xs ys i in (suc rest.0, ap (λ zs. x ∷ zs) rest.1)

-- the state of one window more is the last
pub states_more : (records : List WindowRecord) (closed : WindowRecord) → last_states (records ++ closed ∷ []) ≡ last_states records ++ closed.last.devices.items ∷ []
states_more records closed = map-append (λ c. c.last.devices.items) records (closed ∷ [])

module _ (kinds : List Kind) (most : ℕ) (homes added : List (List Stand)) where
  -- all of them are kept
  pub all_kept : (c : List ℕ) → kept_states kinds most c ≡ Ok (homes ++ added) → KeepsAtLeast kinds most homes added (length added) c
  all_kept c kept = (length added, omega arith, kept ∙ ap (λ l. Ok (homes ++ l)) (sym (take_all (length added) added (omega arith))))

  -- none of them is
  pub none_kept : (c : List ℕ) → kept_states kinds most c ≡ Ok homes → KeepsFirst kinds most homes added c
  none_kept c kept = (0, kept ∙ ap Ok (sym (append-nil homes)))

  -- what a crash left of those before it leaves with more
  pub first_kept : (more : List (List Stand)) (c : List ℕ) → KeepsFirst kinds most homes added c → KeepsFirst kinds most homes (added ++ more) c
  first_kept more c is = let wider = take_wider added more is.0 in (wider.0, is.1 ∙ ap (λ l. Ok (homes ++ l)) wider.1)

  -- while one more is kept it leaves those before, and the new one or not
  pub next_kept : (state : List Stand) (c : List ℕ) → KeepsFirst kinds most (homes ++ added) (state ∷ []) c → KeepsAtLeast kinds most homes (added ++ state ∷ []) (length added) c
  next_kept state c (zero, kept) = (
    length added,
    omega arith,
    kept ∙ ap Ok (append-nil (homes ++ added)) ∙ ap (λ l. Ok (homes ++ l)) (sym (take-append_seam added (state ∷ []))),
  )
  next_kept state c (suc j, kept) =
      let all = added ++ state ∷ [] in (
        length all,
        omega (arith, length-append added (state ∷ [])),
        kept ∙ ap (λ l. Ok ((homes ++ added) ++ state ∷ l)) (take_all j [] (omega arith)) ∙ ap Ok (append_assoc homes added (state ∷ []))
            ∙ ap (λ l. Ok (homes ++ l)) (sym (take_all (length all) all (omega arith))),
      )

-- there are no more open slots than may be kept
few_open : (size most : ℕ) (bytes : List ℕ) → length (open_slots size most bytes) ≤ most
few_open size zero bytes = omega arith
few_open size (suc most) [] = omega arith
few_open size (suc most) (gate ∷ rest) = by_gate (few_open size most (drop size rest)) ((gate == 1) && nat_lt size (length rest))
  where
    by_gate : length (open_slots size most (drop size rest)) ≤ most → (b : Bool) → length (if b then take size rest ∷ open_slots size most (drop size rest) else []) ≤ suc most
    by_gate few true = omega (arith, few)
    by_gate few false = omega arith

bad_from : (kinds : List Kind) (k : ℕ) (bodies : List (List ℕ)) (place : ℕ) → states_from kinds k bodies ≡ Err place → place < k + length bodies
bad_from kinds k [] place is = absurd (cc)
bad_from kinds k (body ∷ bodies) place is = by_first (slot_state kinds (k + 1) body) (states_from kinds (k + 1) bodies) (bad_from kinds (k + 1) bodies) is
  where
    by_first : (o : Option (List Stand)) (rest : Result (List (List Stand)) ℕ) → ((p : ℕ) → rest ≡ Err p → p < (k + 1) + length bodies) → with_first k o rest ≡ Err place → place < k + suc (length bodies)
    by_first None rest behind found = let here : k ≡ place = cc in omega (arith, here)
    by_first (Some home) (Ok homes) behind found = absurd (cc)
    by_first (Some home) (Err bad) behind found = let here : bad ≡ place = cc in let within = behind bad refl in omega (arith, here, within)

-- the place of a slot that is not good is one of them
pub bad_within : (kinds : List Kind) (most : ℕ) (bytes : List ℕ) (place : ℕ) → kept_states kinds most bytes ≡ Err place → place < most
bad_within kinds most bytes place is =
    let within = bad_from kinds 0 (open_slots (body_size (length kinds)) most bytes) place is in
    let few = few_open (body_size (length kinds)) most bytes in
    omega (arith, within, few)

-- no more is sure than there is
pub surely_few : (fault : Option Fault) (n : ℕ) → surely_kept fault n ≤ n
surely_few None n = omega arith
surely_few (Some (Refuses fault)) n = omega arith
surely_few (Some Words) n = omega arith
surely_few (Some Read) n = omega arith
surely_few (Some Write) n = omega arith
surely_few (Some Memory) n = omega arith
surely_few (Some (Check window place name)) n = omega arith
surely_few (Some (Cross window run follow)) n = omega arith
surely_few (Some Disk) n = omega arith
surely_few (Some (Damaged slot)) n = omega arith
