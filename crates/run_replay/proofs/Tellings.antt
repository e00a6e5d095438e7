-- Plays that go on one after another.
use Rattle.run_replay.proofs.Prelude.{ArePicked, Course, DrawnPlay, GoesOn, IsFinished, IsPicked, IsReplay, List, Pick, Picked, Play, Setting, Some, Tells, Told, Worked, [], ap, arith, draw_once, draw_times, fold-append, length, length-append, pick, play, refl, slice_get, slice_index_or, start_of, subst, suc, sym, zero, ℕ, ◌++◌, ◌+◌, ◌∙◌, ◌∷◌, ◌≡◌}

get_front : {A : Type 0} (xs ys : List A) (k : ℕ) (x : A) → slice_get xs k ≡ Some x → slice_get (xs ++ ys) k ≡ Some x
get_front [] ys k x e = absurd (cc)
get_front (y ∷ xs) ys zero x e = e
get_front (y ∷ xs) ys (suc k) x e = get_front xs ys k x e

get_back : {A : Type 0} (xs ys : List A) (k : ℕ) → slice_get (xs ++ ys) (length xs + k) ≡ slice_get ys k
get_back [] ys k = ap (slice_get ys) (omega arith)
get_back (y ∷ xs) ys k = let same : length (y ∷ xs) + k ≡ suc (length xs + k) = omega arith in ap (slice_get (y ∷ (xs ++ ys))) same ∙ get_back xs ys k

pub tells_front : (course : Course) (from : ℕ) (a b : List Told) → Tells course from (a ++ b) → Tells course from a
tells_front course from a b all k t e = all k t (get_front a b k t e)

pub tells_back : (course : Course) (from : ℕ) (a b : List Told) → Tells course from (a ++ b) → Tells course (from + length a) b
tells_back course from a b all k t e =
    let here : course.told (from + (length a + k)) ≡ t = all (length a + k) t (get_back a b k ∙ e) in
    let same : from + length a + k ≡ from + (length a + k) = omega arith in
    ap course.told same ∙ here

-- a play that has not gone on
pub stays : (rounds : ℕ) (step : Course → Play → Play) (p : Play) → ((course : Course) → step course p ≡ p) → GoesOn rounds step p p
stays rounds step p is = record { told = []; acts = omega arith; leads = λ course same tells. is course }

-- one step after another
pub goes_on : (rounds : ℕ) (f g : Course → Play → Play) (p q r : Play) → GoesOn rounds f p q → GoesOn rounds g q r → GoesOn rounds (λ course x. g course (f course x)) p r
goes_on rounds f g p q r first then' = record {
  told = first.told ++ then'.told;
  acts = (let one = first.acts in let two = then'.acts in let both = length-append first.told then'.told in omega (arith, one, two, both));
  leads = λ course same tells. ap (g course) (first.leads course same (tells_front course p.acts first.told then'.told tells)) ∙ then'.leads course same (subst (λ x. Tells course x then'.told) (sym first.acts) (tells_back course p.acts first.told then'.told tells));
}

-- the same play by a step that does the same
pub by_step : (rounds : ℕ) (f g : Course → Play → Play) (p q : Play) → ((course : Course) → course.rounds ≡ rounds → f course p ≡ g course p) → GoesOn rounds f p q → GoesOn rounds g p q
by_step rounds f g p q same on = record { told = on.told; acts = on.acts; leads = λ course is tells. sym (same course is) ∙ on.leads course is tells }

-- what an actor did that was picked
pub picked_on : (rounds a : ℕ) (p q : Play) (picked : Picked) → IsPicked rounds a p picked q → GoesOn rounds (λ course x. (pick course x a).next) p q
picked_on rounds a p q picked is = record { told = is.told; acts = is.acts; leads = λ course same tells. ap (λ (x : Pick). x.next) (is.leads course same tells) }

-- one pick more
pub played_more : (rounds a : ℕ) (picks : List ℕ) (p q r : Play) (picked : Picked) → ArePicked rounds picks p q → IsPicked rounds a q picked r → ArePicked rounds (picks ++ a ∷ []) p r
played_more rounds a picks p q r picked before is =
    by_step rounds (λ course x. (pick course (play course x picks) a).next) (λ course x. play course x (picks ++ a ∷ [])) p r (λ course same. sym (fold-append (λ x b. (pick course x b).next) p picks (a ∷ [])))
    (goes_on rounds (λ course x. play course x picks) (λ course x. (pick course x a).next) p q r before (picked_on rounds a q r picked is))

-- one draw more
pub draw_more : (course : Course) (k : ℕ) (s : DrawnPlay) → draw_times course (suc k) s ≡ draw_once course (draw_times course k s)
draw_more course zero s = refl
draw_more course (suc k) s = draw_more course k (draw_once course s)

-- a whole replay

abbrev course_of : ℕ → List Told → Course
course_of rounds told = record { rounds = rounds; told = λ k. slice_index_or told k Worked }

pub index_or_get : {A : Type 0} (xs : List A) (k : ℕ) (x other : A) → slice_get xs k ≡ Some x → slice_index_or xs k other ≡ x
index_or_get [] k x other e = absurd (cc)
index_or_get (y ∷ xs) zero x other e = cc
index_or_get (y ∷ xs) (suc k) x other e = index_or_get xs k x other e

tells_all : (rounds : ℕ) (told : List Told) → Tells (course_of rounds told) 0 told
tells_all rounds told k t e = let same : 0 + k ≡ k = omega arith in ap (λ x. slice_index_or told x Worked) same ∙ index_or_get told k t Worked e

-- a play that goes on by picks, and then by draws until every actor has ended, is a replay
pub replays : (w : Setting) (probes rounds seed : ℕ) (picks : List ℕ) (q r : Play) → ArePicked rounds picks (start_of w probes) q → IsFinished rounds seed q r → IsReplay w probes rounds picks seed r
replays w probes rounds seed picks q r played finished =
    record {
      told = (course_of rounds whole.told).told;
      draws = finished.draws;
      over = finished.over (course_of rounds whole.told) refl;
      replayed = whole.leads (course_of rounds whole.told) refl (tells_all rounds whole.told);
    }
  where
    whole : GoesOn rounds (λ course x. (draw_times course finished.draws (record { play = play course x picks; state = seed })).play) (start_of w probes) r
    whole = goes_on rounds (λ course x. play course x picks) (λ course x. (draw_times course finished.draws (record { play = x; state = seed })).play) (start_of w probes) q r played finished.drawn
