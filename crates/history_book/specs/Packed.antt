-- The entries of a step, and the three places in which they stand.
use Rattle.history_book.specs.declared.entries.Entry.{Entry}
use Rattle.history_book.specs.declared.entries.Made.TheInside.{Inside}
use Rattle.std.proofs.Common.{refl}
use Rattle.std.specs.Prelude.{List, None, Option, Some, option_to_list, slice_get, ◌++◌, ◌≡◌}

-- the entries, in order
abbrev pub entries_made : Inside → List Entry
entries_made made = option_to_list made.a ++ option_to_list made.b ++ option_to_list made.c

-- they stand in the first places: one in the second only behind one in the first, and one in the
-- third only behind one in the second
pub record IsPacked (made : Inside) : Type 0 where
  pub second : made.a ≡ None → made.b ≡ None
  pub third : made.b ≡ None → made.c ≡ None

-- the places of at most three entries
abbrev pub first_three : List Entry → Inside
first_three es = record { a = slice_get es 0; b = slice_get es 1; c = slice_get es 2 }

-- they are those in which the entries stood
pub three_again : (made : Inside) → IsPacked made → first_three (entries_made made) ≡ made
three_again made packed = by_places made.a made.b made.c packed
  where
    by_places : (a b c : Option Entry) → IsPacked (record { a = a; b = b; c = c })
        → first_three (entries_made (record { a = a; b = b; c = c }))
        ≡ record { a = a; b = b; c = c }
    by_places None None None packed = refl
    by_places None None (Some g) packed = absurd (let both : Some g ≡ None = packed.third refl in cc)
    by_places None (Some f) c packed = absurd (let both : Some f ≡ None = packed.second refl in cc)
    by_places (Some e) None None packed = refl
    by_places (Some e) None (Some g) packed =
        absurd (let both : Some g ≡ None = packed.third refl in cc)
    by_places (Some e) (Some f) None packed = refl
    by_places (Some e) (Some f) (Some g) packed = refl
