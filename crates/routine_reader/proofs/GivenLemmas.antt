-- What a walk over the members of a command keeps of them.
use Rattle.routine_reader.proofs.Prelude.{Bool, Data, Entry, List, Members, Some, [], ap, bytes_eq, codes, command_form, false, get_member, get_member-put, get_member-put_other, given_in, if◌then◌else◌, knows, list_all, members_view, names_of, put, put_last, refl, string_bytes, string_cmp, subst, sym, true, true≢false, view, with_member, ℕ, ◌&&◌, ◌++◌, ◌==◌, ◌||◌, ◌∙◌, ◌∷◌, ◌≡◌}
use Rattle.routine_reader.specs.declared.forms.Form.TheVariants.{Command, GuardedCommand}
use Rattle.routine_reader.specs.declared.forms.Form.{Form}
use Rattle.std.proofs.lemmas.Slice.Eq.{bytes_eq-Decides}
use Rattle.std.specs.List.Sorted.{IsStrictlySortedBy}
use Rattle.std.specs.Map.{keys_of}

-- what is found at a name behind a member that was put
put-at : (name key : List ℕ) (value : Data) (members : Members) (same : Bool) → bytes_eq key name ≡ same
    → get_member name (put key value members) ≡ (if same then Some value else get_member name members)
put-at name key value members true is = rw (sym ((bytes_eq-Decides key name).0 is)) (get_member-put key value members)
put-at name key value members false is =
    get_member-put_other name key value members (λ same. true≢false (sym ((bytes_eq-Decides key name).1 (sym same)) ∙ is))

-- what holds of this name, and of the name that is one of the others, holds of the name
named : (P : List ℕ → Type 0) (name key : List ℕ) (others same : Bool) → bytes_eq name key ≡ same → (others || same) ≡ true → P key → (others ≡ true → P name) → P name
named P name key true same is known at rest = rest refl
named P name key false true is known at rest = subst P (sym ((bytes_eq-Decides name key).0 is)) at
named P name key false false is known at rest = absurd (true≢false (sym known))

-- each member of a command of some version is one of a command that may have a guard
known-guarded : (version : ℕ) (name : List ℕ) → knows (command_form version) name ≡ true → knows GuardedCommand name ≡ true
known-guarded version name known = by (version == 1) known
  where
    by : (unguarded : Bool) → knows (if unguarded then Command else GuardedCommand) name ≡ true → knows GuardedCommand name ≡ true
    by true known = ap (λ b. b || bytes_eq name (codes "when")) known
    by false known = known

-- what holds of each name that such a command knows
by-name : (P : List ℕ → Type 0) → P (codes "on") → P (codes "do") → P (codes "to") → P (codes "must") → P (codes "ms") → P (codes "takes") → P (codes "when") → (name : List ℕ) → knows GuardedCommand name ≡ true → P name
by-name P on do_ to must ms takes when name known =
    named P name (codes "when") _ _ refl known when
    (λ known. named P name (codes "takes") _ _ refl known takes
    (λ known. named P name (codes "ms") _ _ refl known ms
    (λ known. named P name (codes "must") _ _ refl known must
    (λ known. named P name (codes "to") _ _ refl known to
    (λ known. named P name (codes "do") _ _ refl known do_
    (λ known. subst P (sym ((bytes_eq-Decides name (codes "on")).0 known)) on))))))

kept-at : (key : List ℕ) (value : Data) (members : Members)
    → given_in (put key value members)
    ≡ record {
      on = if bytes_eq key (codes "on") then Some value else get_member (codes "on") members;
      verb = if bytes_eq key (codes "do") then Some value else get_member (codes "do") members;
      to = if bytes_eq key (codes "to") then Some value else get_member (codes "to") members;
      when = if bytes_eq key (codes "when") then Some value else get_member (codes "when") members;
      must = if bytes_eq key (codes "must") then Some value else get_member (codes "must") members;
      ms = if bytes_eq key (codes "ms") then Some value else get_member (codes "ms") members;
      takes = if bytes_eq key (codes "takes") then Some value else get_member (codes "takes") members;
    }
kept-at key value members =
    rw (
      put-at (codes "on") key value members _ refl,
      put-at (codes "do") key value members _ refl,
      put-at (codes "to") key value members _ refl,
      put-at (codes "when") key value members _ refl,
      put-at (codes "must") key value members _ refl,
      put-at (codes "ms") key value members _ refl,
      put-at (codes "takes") key value members _ refl,
    ) refl

-- a member that a command knows is kept
kept-put : (value : Data) (members : Members) (key : List ℕ) → knows GuardedCommand key ≡ true → with_member key value (given_in members) ≡ given_in (put key value members)
kept-put value members =
    by-name (λ key. with_member key value (given_in members) ≡ given_in (put key value members))
    (sym (kept-at (codes "on") value members))
    (sym (kept-at (codes "do") value members))
    (sym (kept-at (codes "to") value members))
    (sym (kept-at (codes "must") value members))
    (sym (kept-at (codes "ms") value members))
    (sym (kept-at (codes "takes") value members))
    (sym (kept-at (codes "when") value members))

pub kept-last : (version : ℕ) (done : List Entry) (e : Entry) (more : List Entry) → IsStrictlySortedBy string_cmp (keys_of (done ++ e ∷ more))
    → knows (command_form version) (string_bytes e.0) ≡ true
    → with_member (string_bytes e.0) (view e.1) (given_in (members_view done)) ≡ given_in (members_view (done ++ e ∷ []))
kept-last version done e more ordered known =
    kept-put (view e.1) (members_view done) (string_bytes e.0) (known-guarded version (string_bytes e.0) known) ∙ ap given_in (put_last done e more ordered)

-- whether all members up to one, and those behind it, are of the form
pub known-middle : (form : Form) (done : List Entry) (e : Entry) (more : List Entry)
    → list_all (knows form) (names_of (members_view done)) ≡ true
    → list_all (knows form) (names_of (members_view (done ++ e ∷ more))) ≡ (knows form (string_bytes e.0) && list_all (knows form) (names_of (members_view more)))
known-middle form [] e more all = refl
known-middle form (first ∷ done) e more all = rest (knows form (string_bytes first.0)) all (known-middle form done e more)
  where
    rest : {x y z : Bool} (b : Bool) → (b && x) ≡ true → (x ≡ true → y ≡ z) → (b && y) ≡ z
    rest true all same = same all
    rest false all same = absurd (true≢false (sym all))
