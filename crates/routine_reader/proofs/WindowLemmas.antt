-- The last of the windows.
use Rattle.routine_reader.proofs.Prelude.{List, PlainWindow, Some, [], ap, arith, last_time, length, length-append, option_map, refl, slice_get, ◌++◌, ◌-◌, ◌∙◌, ◌∷◌, ◌≡◌}

get-end : {X : Type 0} (xs : List X) (x : X) → slice_get (xs ++ x ∷ []) (length xs) ≡ Some x
get-end [] x = refl
get-end (y ∷ ys) x = get-end ys x

pub last-more : (windows : List PlainWindow) (window : PlainWindow) → last_time (windows ++ window ∷ []) ≡ Some window.at
last-more windows window =
    let count : length (windows ++ window ∷ []) - 1 ≡ length windows = rw length-append (omega arith) in
    ap (λ n. option_map (λ (w : PlainWindow). w.at) (slice_get (windows ++ window ∷ []) n)) count
    ∙ ap (option_map (λ (w : PlainWindow). w.at)) (get-end windows window)
