-- One state after another is kept.
use Rattle.home_journal.proofs.Prelude.{KeepsFirst, Kind, List, Ok, Stand, [], ap, append-nil, append_assoc, arith, get_or, get_or-map, length, length-map, map, subst, suc, sym, take, take_all, take_more, zero, ℕ, ◌++◌, ◌+◌, ◌<◌, ◌∙◌, ◌∷◌, ◌≡◌}
use Rattle.home_types.specs.declared.worlds.World.{World}

-- one more of the new ones
pub one_more : (homes new : List (List Stand)) (i : ℕ) (home : List Stand) → i < length new → home ≡ get_or new i [] → (homes ++ take i new) ++ home ∷ [] ≡ homes ++ take (i + 1) new
one_more homes new i home within same =
    ap (λ h. (homes ++ take i new) ++ h ∷ []) same ∙ append_assoc homes (take i new) (get_or new i [] ∷ []) ∙ ap (λ l. homes ++ l) (sym (take_more new i [] within))

-- what a crash leaves while one more is kept, it leaves while they all are
pub first_of_all : (kinds : List Kind) (most : ℕ) (homes new : List (List Stand)) (i : ℕ) (home : List Stand) (c : List ℕ) → i < length new → home ≡ get_or new i [] → KeepsFirst kinds most (homes ++ take i new) (home ∷ []) c
    → KeepsFirst kinds most homes new c
first_of_all kinds most homes new i home c within same (zero, kept) = (i, kept ∙ ap Ok (append-nil (homes ++ take i new)))
first_of_all kinds most homes new i home c within same (suc j, kept) =
    (i + 1, kept ∙ ap Ok (ap (λ l. (homes ++ take i new) ++ home ∷ l) (take_all j [] (omega arith)) ∙ one_more homes new i home within same))

-- the state at a place of the new ones
pub home_at : (worlds items : List World) (i : ℕ) (world : World) → items ≡ worlds → i < length items → world ≡ get_or items i world → (world.devices.items ≡ get_or (map (λ w. w.devices.items) worlds) i []) × (i < length (map (λ w. w.devices.items) worlds))
home_at worlds items i world same within is = (
  subst (λ ws. world.devices.items ≡ get_or (map (λ w. w.devices.items) ws) i []) same (ap (λ w. w.devices.items) is ∙ sym (get_or-map (λ w. w.devices.items) items i world [] within)),
  omega (arith, within, ap length same, length-map worlds (λ (w : World). w.devices.items)),
)
