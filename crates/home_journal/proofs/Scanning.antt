-- What a scan of the slots knows of the states.
use Rattle.home_journal.proofs.StateBytes.{last_pushed, states_bad, states_length, states_push}
use Rattle.slot_disks.proofs.Cited.{IsScannedTo, ends_all, ends_short, ends_shut, scan_first, scan_next, scan_sees}
use Rattle.home_journal.proofs.Prelude.{Err, Kind, KnowsKept, List, None, Ok, Some, Stand, [], ap, arith, body_size, common_steps, drop, get_or, kept_states, last_kept, last_kept_home, length, open_slots, is_to_shut, refl, slice_get, slot_state, states_from, subst, sym, take, true, ℕ, ◌++◌, ◌+◌, ◌-◌, ◌<◌, ◌∙◌, ◌∷◌, ◌≡◌, ◌≢◌, ◌≤◌}

-- slots were read up to this place, these bytes are left, and the state of the last one is known
pub record IsScanned (kinds : List Kind) (size place : ℕ) (bytes rest : List ℕ) (last : List Stand) : Type 0 where
  pub bodies : List (List ℕ)
  pub homes : List (List Stand)
  pub scanned : IsScannedTo size place bodies bytes rest
  pub told : states_from kinds 0 bodies ≡ Ok homes
  pub last_is : last_kept place last ≡ last_kept_home homes

pub scanned_first : (kinds : List Kind) (size : ℕ) (bytes : List ℕ) (last : List Stand) → IsScanned kinds size 0 bytes bytes last
scanned_first kinds size bytes last = record { bodies = []; homes = []; scanned = scan_first size bytes; told = refl; last_is = refl }

pub if_kept : (place : ℕ) (home : List Stand) → last_kept (place + 1) home ≡ Some home
if_kept place home = grind (arith, common_steps)

module _ (kinds : List Kind) (size most place : ℕ) (bytes rest behind : List ℕ) (last : List Stand) (so_far : IsScanned kinds size place bytes rest last) (some : 0 < length rest) (is_open : get_or rest 0 0 ≡ 1) (parts_are : behind ≡ take (length rest - 1) (drop 1 rest)) (long : size < length behind) where
  pub scanned_next : (home : List Stand) → slot_state kinds (place + 1) (take size behind) ≡ Some home → IsScanned kinds size (place + 1) bytes (take (length behind - size) (drop size behind)) home
  scanned_next home good =
      let bodies = so_far.bodies in
      let body = take size behind in
      let number : place + 1 ≡ length bodies + 1 = omega (arith, so_far.scanned.counts) in
      record {
        bodies = bodies ++ body ∷ [];
        homes = so_far.homes ++ home ∷ [];
        scanned = scan_next size place bodies bytes rest behind so_far.scanned some is_open parts_are long _ refl;
        told = states_push kinds bodies body so_far.homes home so_far.told (ap (λ n. slot_state kinds n body) (sym number) ∙ good);
        last_is = if_kept place home ∙ sym (last_pushed so_far.homes home);
      }

  pub scanned_bad : size ≡ body_size (length kinds) → place < most → slot_state kinds (place + 1) (take size behind) ≡ None → kept_states kinds most bytes ≡ Err place
  scanned_bad sized more bad =
      let bodies = so_far.bodies in
      let number : place + 1 ≡ length bodies + 1 = omega (arith, so_far.scanned.counts) in
      ap (λ n. states_from kinds 0 (open_slots n most bytes)) (sym sized)
      ∙ ap (states_from kinds 0) (scan_sees size place bodies bytes rest behind so_far.scanned some is_open parts_are long most more)
      ∙ states_bad kinds bodies (open_slots size (most - (place + 1)) (drop size behind)) (take size behind) so_far.homes so_far.told (ap (λ n. slot_state kinds n (take size behind)) (sym number) ∙ bad)
      ∙ ap Err so_far.scanned.counts

module _ (kinds : List Kind) (size most place : ℕ) (bytes rest : List ℕ) (last : List Stand) (so_far : IsScanned kinds size place bytes rest last) (sized : size ≡ body_size (length kinds)) where
  reads : open_slots size most bytes ≡ so_far.bodies → KnowsKept kinds most bytes place (last_kept place last)
  reads opens = record {
    homes = so_far.homes;
    kept = ap (λ n. states_from kinds 0 (open_slots n most bytes)) (sym sized) ∙ ap (states_from kinds 0) opens ∙ so_far.told;
    counts = omega (arith, states_length kinds 0 so_far.bodies so_far.homes so_far.told, so_far.scanned.counts);
    last = so_far.last_is;
  }

  -- how a scan ends: at too little for a slot, at a gate that is not open, and behind the last slot
  pub knows_short : place ≤ most → length rest ≤ size + 1 → is_to_shut (slice_get rest 0) ≡ true → KnowsKept kinds most bytes place (last_kept place last)
  knows_short few short to_shut = reads (ends_short size most place so_far.bodies bytes rest so_far.scanned few short to_shut).1

  pub knows_shut : place ≤ most → 0 < length rest → get_or rest 0 0 ≢ 1 → KnowsKept kinds most bytes place (last_kept place last)
  knows_shut few some shut = reads (ends_shut size most place so_far.bodies bytes rest so_far.scanned few some shut).1

  pub knows_all : place ≡ most → KnowsKept kinds most bytes most (last_kept most last)
  knows_all all = subst (λ n. KnowsKept kinds most bytes n (last_kept n last)) all (reads (ends_all size most place so_far.bodies bytes rest so_far.scanned all).1)
