-- The devices that were built, and one more.
use Rattle.hub_core.proofs.Prelude.{AreNew, IsNew, List, Shown, [], ap, arith, get_or, inl, inr, length, length-take-le, slice_get_within, subst, sym, take, take_more, ℕ, ◌++◌, ◌+◌, ◌<◌, ◌∙◌, ◌∷◌, ◌≡◌}
use Rattle.home_types.proofs.Cited.{snoc_get}
use Rattle.routine_reader.specs.declared.scripts.DeviceText.{DeviceText}
use Rattle.std.proofs.lemmas.List.{length-append}

pub new_more : {D : Type 0} (shows : D → Shown) (texts : List DeviceText) (devices : List D) (text : DeviceText) (device : D)
    → AreNew shows texts devices → IsNew shows text (length devices) device
    → AreNew shows (texts ++ text ∷ []) (devices ++ device ∷ [])
new_more {D = D} shows texts devices text device are is = record {
  size = omega (arith, are.size, length-append devices (device ∷ []), length-append texts (text ∷ []));
  each = λ d y t device_at text_at. elim (snoc_get devices device y d device_at) [
    | inl device_old ↦ elim (snoc_get texts text t d text_at) [
      | inl text_old ↦ are.each d y t device_old text_old
      | inr text_last ↦ absurd (let within = slice_get_within devices d y device_old in omega (arith, within, text_last.0, are.size))
    ]
    | inr device_last ↦ elim (snoc_get texts text t d text_at) [
      | inl text_old ↦ absurd (let within = slice_get_within texts d t text_old in omega (arith, within, device_last.0, are.size))
      | inr text_last ↦ (let P : DeviceText × ℕ × D → Type 0 = λ q. IsNew shows q.0 q.1 q.2 in
          subst P (λ i. (text_last.1 i, sym device_last.0 i, device_last.1 i)) is)
    ]
  ];
}

-- the same along the texts of a script
pub new_next : {D : Type 0} (shows : D → Shown) (texts : List DeviceText) (n : ℕ) (text : DeviceText) (devices after : List D) (device : D)
    → n < length texts → text ≡ get_or texts n text → after ≡ devices ++ device ∷ []
    → AreNew shows (take n texts) devices → IsNew shows text n device
    → AreNew shows (take (n + 1) texts) after
new_next {D = D} shows texts n text devices after device within at more are is =
    let count : n ≡ length devices = sym (are.size ∙ length-take-le n texts (omega (arith, within))) in
    let here : IsNew shows text (length devices) device = subst (λ k. IsNew shows text k device) count is in
    let longer : take (n + 1) texts ≡ take n texts ++ text ∷ [] = take_more texts n text within ∙ ap (λ t. take n texts ++ t ∷ []) (sym at) in
    rw (longer, more) (new_more shows (take n texts) devices text device are here)
