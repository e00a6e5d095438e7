-- Counts of items of the line, as its touches and the history's ends tell them.
use Rattle.lock_leasing.proofs.Prelude.{Item, List, Mark, None, Option, Some, [], all_differ, ap, if◌then◌else◌, is_item, items_of, last_place, last_told, last_within, option_map, option_or, place_is, place_of, place_unfound, refl, sym, true, untouched, ℕ, ◌+◌, ◌∙◌, ◌∷◌, ◌≡◌}

-- the last place of an item that stands once is its place
pub place_last : (x : Item) (ms : List Mark) → all_differ (items_of ms) ≡ true → place_of x ms ≡ last_place (is_item x) (items_of ms)
place_last x ms differ = at (last_place (λ m. is_item x m.item) ms) refl ∙ mapped ms
  where
    mapped : (ns : List Mark) → last_place (λ m. is_item x m.item) ns ≡ last_place (is_item x) (items_of ns)
    mapped [] = refl
    mapped (m ∷ ns) = ap (λ o. option_or (option_map (λ j. j + 1) o) (if is_item x m.item then Some 0 else None)) (mapped ns)

    at : (o : Option ℕ) → last_place (λ m. is_item x m.item) ms ≡ o → place_of x ms ≡ last_place (λ m. is_item x m.item) ms
    at None e = place_unfound x ms e ∙ sym e
    at (Some k) e = place_is x ms k (untouched x) differ (last_within (λ m. is_item x m.item) ms k e) (last_told (λ m. is_item x m.item) ms k (untouched x) e) ∙ sym e
