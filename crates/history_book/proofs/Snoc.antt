-- One entry more.
use Rattle.history_book.proofs.Prelude.{Along, Bool, Entry, IsTrue, Kept, List, Reading, Setting, [], along, ap, arith, common_steps, each_entry, entries_of, entry, fold, fold-append, kept_by, map-append, nothing_read, put, reading, refl, ℕ, ◌&&◌, ◌++◌, ◌∙◌, ◌∷◌, ◌≡◌, ◌≢◌}

-- a history with one entry more reads as that entry after the reading of the history
pub reading_more : (w : Setting) (h : List Entry) (e : Entry) → reading w (h ++ e ∷ []) ≡ entry w (reading w h) e
reading_more w h e = fold-append (entry w) (nothing_read w) h (e ∷ [])

-- .. with several more
pub reading_on : (w : Setting) (h more : List Entry) → reading w (h ++ more) ≡ fold (entry w) (reading w h) more
reading_on w h more = fold-append (entry w) (nothing_read w) h more

-- a test along a history
pub along_more : (w : Setting) (test : Reading → Entry → Bool) (n : Reading) (h : List Entry) (e : Entry) → along w test n (h ++ e ∷ []) ≡ (along w test n h && test (fold (entry w) n h) e)
along_more w test n [] e = grind (arith, common_steps)
along_more w test n (x ∷ h) e = rw (along_more w test (entry w n x) h e) (grind (arith, common_steps))

pub each_more : (w : Setting) (test : Reading → Entry → Bool) (h : List Entry) (e : Entry) → IsTrue (each_entry w test h) → IsTrue (test (reading w h) e) → IsTrue (each_entry w test (h ++ e ∷ []))
each_more w test h e old new = rw (along_more w test (nothing_read w) h e) (rw (old, new) refl)

-- .. with several entries more
pub along_on : (w : Setting) (test : Reading → Entry → Bool) (n : Reading) (h more : List Entry) → along w test n (h ++ more) ≡ (along w test n h && along w test (fold (entry w) n h) more)
along_on w test n [] more = refl
along_on w test n (x ∷ h) more = rw (along_on w test (entry w n x) h more) (grind (arith, common_steps))

pub each_on : (w : Setting) (test : Reading → Entry → Bool) (h more : List Entry) → IsTrue (each_entry w test h) → IsTrue (along w test (reading w h) more) → IsTrue (each_entry w test (h ++ more))
each_on w test h more old new = rw (along_on w test (nothing_read w) h more) (rw (old, new) refl)

-- it says something of each prefix
pub each_at : (w : Setting) (test : Reading → Entry → Bool) (n : Reading) (front : List Entry) (e : Entry) (back : List Entry) → IsTrue (along w test n (front ++ e ∷ back)) → IsTrue (test (fold (entry w) n front) e)
each_at w test n [] e back all = grind (arith, common_steps)
each_at w test n (x ∷ front) e back all = each_at w test (entry w n x) front e back (grind (arith, common_steps))

-- what a put function reads

pub put_same : {A : Type 0} (f : ℕ → A) (k : ℕ) (v : A) → put f k v k ≡ v
put_same f k v = grind (arith, common_steps)

pub put_other : {A : Type 0} (f : ℕ → A) (k : ℕ) (v : A) (n : ℕ) → n ≢ k → put f k v n ≡ f n
put_other f k v n other = grind (arith, common_steps)

-- the frame: a part that the new value leaves is left everywhere
pub put_keeps : {A B : Type 0} (p : A → B) (f : ℕ → A) (k : ℕ) (v : A) → p v ≡ p (f k) → (n : ℕ) → p (put f k v n) ≡ p (f n)
put_keeps p f k v kept n = grind (arith, common_steps)

-- a fact along a history
pub Along_more : (w : Setting) (P : Reading → Entry → Type 0) (n : Reading) (h : List Entry) (e : Entry) → Along w P n h → P (fold (entry w) n h) e → Along w P n (h ++ e ∷ [])
Along_more w P n [] e old new = (new, tt)
Along_more w P n (x ∷ h) e old new = (old.0, Along_more w P (entry w n x) h e old.1 new)

-- the entries of a history with the entries of one step more
pub entries_on : (h : List Kept) (maker : ℕ) (es : List Entry) → entries_of (h ++ kept_by maker es) ≡ entries_of h ++ es
entries_on h maker es = map-append (λ k. k.entry) h (kept_by maker es) ∙ ap (λ xs. entries_of h ++ xs) (entries_kept maker es)
  where
    entries_kept : (maker : ℕ) (es : List Entry) → entries_of (kept_by maker es) ≡ es
    entries_kept maker [] = refl
    entries_kept maker (e ∷ es) = ap (λ xs. e ∷ xs) (entries_kept maker es)
