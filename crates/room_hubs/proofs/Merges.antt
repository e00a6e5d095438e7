-- A merge does to the home what the rooms' own orders do to the rooms.
use Rattle.room_hubs.proofs.Prelude.{Bool, InStep, IsMerge, IsOwnDevice, IsOwnItem, IsOwnRun, Kind, List, Merge, PartHome, Room, Run, Stand, [], answers_of, ap, append-nil, arith, cases_eq, commands_of, common_steps, false, filter, filter-append, fold, home_device, home_item, home_order, home_run, if◌then◌else◌, length, length-map, length-set, map, map-append, not, own_order, refl, room_home, room_kinds, run_no, set, stand_at, subst, suc, sym, true, ℕ, ⊎_elim, ◌++◌, ◌==◌, ◌||◌, ◌∙◌, ◌∷◌, ◌≡◌, ◌≢◌}
use Rattle.command_rules.specs.Serial.{SerialRun, Served, serial_execution, serve}
use Rattle.home_types.specs.Commands.{Execution, routine_execution}
use Rattle.home_types.specs.declared.commands.Answer.{Answer}
use Rattle.home_types.specs.declared.items.Item.TheVariants.{Back, Failed, Ran}
use Rattle.home_types.specs.declared.items.Item.{Item}
use Rattle.room_hubs.proofs.Steps.{Alike, commands, others_set, stand_in_room, stands_set}

-- one of two by a test of numbers
pick : {X : Type 0} (P : X → Type 0) (k j : ℕ) (u v : X) → (k ≡ j → P u) → (k ≢ j → P v) → P (if k == j then u else v)
pick P k j u v same other = by (k == j) refl
  where
    equal : (k == j) ≡ true → k ≡ j
    equal e = grind (arith, common_steps)

    differ : (k == j) ≡ false → k ≡ j → ⊥
    differ e z = grind (arith, common_steps)

    by : (b : Bool) → (k == j) ≡ b → P (if b then u else v)
    by true e = same (equal e)
    by false e = other (differ e)

answers_more : (n : ℕ) (all : List Served) (x : Served) → answers_of n (all ++ x ∷ []) ≡ answers_of n all ++ answers_of n (x ∷ [])
answers_more n all x =
    ap (λ l. map (λ (s : Served). s.answers) l) (filter-append (λ s. s.run.0 == n) all (x ∷ []))
    ∙ map-append (λ (s : Served). s.answers) (filter (λ s. s.run.0 == n) all) (filter (λ s. s.run.0 == n) (x ∷ []))

either_false : (a b : Bool) → (a || b) ≡ false → (a ≡ false) × (b ≡ false)
either_false false b h = (refl, h)
either_false true b h = absurd (cc)

both_false : (a b : Bool) → a ≡ false → b ≡ false → (a || b) ≡ false
both_false a b p q = grind (arith, common_steps)

-- one room goes on, from t to u, and the home with it, from s to s'
record Changed (rooms : ℕ → Room) (k : ℕ) (s s' t u : SerialRun) : Type 0 where
  pub stands : (a : ℕ) → IsOwnDevice (rooms k) a → stand_at s'.home (home_device (rooms k) a) ≡ stand_at u.home a
  pub others : (j a : ℕ) → j ≢ k → IsOwnDevice (rooms j) a → stand_at s'.home (home_device (rooms j) a) ≡ stand_at s.home (home_device (rooms j) a)
  pub home_size : length s'.home ≡ length s.home
  pub room_size : length u.home ≡ length (rooms k).devices
  pub answers : (q : ℕ) → IsOwnRun (rooms k) q → answers_of (home_run (rooms k) q) s'.answers ≡ answers_of q u.answers
  pub answers_else : (j q : ℕ) → j ≢ k → IsOwnRun (rooms j) q → answers_of (home_run (rooms j) q) s'.answers ≡ answers_of (home_run (rooms j) q) s.answers
  pub refused_before : u.refused ≡ false → t.refused ≡ false
  pub refused : u.refused ≡ false → s.refused ≡ false → s'.refused ≡ false

changed : (rooms : ℕ → Room) (k : ℕ) (s s' : SerialRun) (t v : ℕ → SerialRun) → Changed rooms k s s' (t k) (v k) → InStep rooms s t → InStep rooms s' (λ j. if k == j then v j else t j)
changed rooms k s s' t v c so = record {
  stands = λ j a here. pick (λ (z : SerialRun). stand_at s'.home (home_device (rooms j) a) ≡ stand_at z.home a) k j (v j) (t j)
      (λ e. subst (λ m. (a : ℕ) → IsOwnDevice (rooms m) a → stand_at s'.home (home_device (rooms m) a) ≡ stand_at (v m).home a) e c.stands a here)
      (λ ne. c.others j a (λ z. ne (sym z)) here ∙ so.stands j a here);
  answers = λ j q is. pick (λ (z : SerialRun). answers_of (home_run (rooms j) q) s'.answers ≡ answers_of q z.answers) k j (v j) (t j)
      (λ e. subst (λ m. (q : ℕ) → IsOwnRun (rooms m) q → answers_of (home_run (rooms m) q) s'.answers ≡ answers_of q (v m).answers) e c.answers q is)
      (λ ne. c.answers_else j q (λ z. ne (sym z)) is ∙ so.answers j q is);
  refused = λ none. let here = now (none k) in c.refused here (so.refused (λ j. was j (none j) here));
  home_size = λ j a here. omega (arith, so.home_size j a here, c.home_size);
  room_size = λ j. pick (λ (z : SerialRun). length z.home ≡ length (rooms j).devices) k j (v j) (t j) (λ e. subst (λ m. length (v m).home ≡ length (rooms m).devices) e c.room_size) (λ ne. so.room_size j);
}
  where
    now : (if k == k then v k else t k).refused ≡ false → (v k).refused ≡ false
    now h = pick (λ (z : SerialRun). z.refused ≡ false → (v k).refused ≡ false) k k (v k) (t k) (λ e g. g) (λ ne. absurd (ne refl)) h

    was : (j : ℕ) → (if k == j then v j else t j).refused ≡ false → (v k).refused ≡ false → (t j).refused ≡ false
    was j h here = pick (λ (z : SerialRun). z.refused ≡ false → (t j).refused ≡ false) k j (v j) (t j) (λ e g. subst (λ m. (t m).refused ≡ false) e (c.refused_before here)) (λ ne g. g) h

shown : (n m : ℕ) (answers : List Answer) → n ≡ m → answers_of m (record { run = run_no n; answers = answers } ∷ []) ≡ answers ∷ []
shown n m answers e = grind (arith, common_steps)

hidden : (n m : ℕ) (answers : List Answer) → n ≢ m → answers_of m (record { run = run_no n; answers = answers } ∷ []) ≡ []
hidden n m answers ne = grind (arith, common_steps)

module _ (rooms : ℕ → Room) (runs : List Run) (kinds : List Kind) (home : List Stand) (ok : PartHome rooms runs home) where
  pub in_room : ℕ → SerialRun → Item → SerialRun
  in_room k = serve (rooms k).own_runs (room_kinds (rooms k) kinds)

  -- a device fails or comes back
  turned : (k d : ℕ) (s : SerialRun) (t : ℕ → SerialRun) (f : Stand → Stand) (g : Stand → Bool) → IsOwnDevice (rooms k) d → InStep rooms s t
      → Changed rooms k s
      (record { home = set s.home (home_device (rooms k) d) (f (stand_at s.home (home_device (rooms k) d))); answers = s.answers; refused = s.refused || g (stand_at s.home (home_device (rooms k) d)) })
      (t k)
      (record { home = set (t k).home d (f (stand_at (t k).home d)); answers = (t k).answers; refused = (t k).refused || g (stand_at (t k).home d) })
  turned k d s t f g within so =
      let at : stand_at s.home (home_device (rooms k) d) ≡ stand_at (t k).home d = so.stands k d within in
      record {
        stands = λ a here. ap (λ z. stand_at (set s.home (home_device (rooms k) d) (f z)) (home_device (rooms k) a)) at
            ∙ stands_set rooms ok.devices_apart k d s.home (t k).home (f (stand_at (t k).home d)) within (so.home_size k d within) (omega (arith, within, so.room_size k)) (so.stands k) a here;
        others = λ j a ne here. others_set rooms ok.devices_apart k d j a s.home (f (stand_at s.home (home_device (rooms k) d))) ne within here;
        home_size = length-set s.home (home_device (rooms k) d) (f (stand_at s.home (home_device (rooms k) d)));
        room_size = length-set (t k).home d (f (stand_at (t k).home d)) ∙ so.room_size k;
        answers = so.answers k;
        answers_else = λ j q ne is. refl;
        refused_before = λ h. (either_false (t k).refused (g (stand_at (t k).home d)) h).0;
        refused = λ h was. both_false s.refused (g (stand_at s.home (home_device (rooms k) d))) was (ap g at ∙ (either_false (t k).refused (g (stand_at (t k).home d)) h).1);
      }

  -- a run is done whole
  ran : (k r : ℕ) (s : SerialRun) (t : ℕ → SerialRun) → IsOwnRun (rooms k) r → InStep rooms s t
      → Changed rooms k s (serve runs kinds s (Ran (run_no (home_run (rooms k) r)))) (t k) (in_room k (t k) (Ran (run_no r)))
  unfolding in_room
  ran k r s t is so = record {
    stands = alike.stands;
    others = alike.others;
    home_size = alike.home_size;
    room_size = alike.room_size;
    answers = λ q is_q. answers_more (home_run (rooms k) q) s.answers x ∙ (λ i. so.answers k q is_q i ++ own q is_q i) ∙ sym (answers_more q (t k).answers y);
    answers_else = λ j q ne is_q. answers_more (home_run (rooms j) q) s.answers x ∙ ap (λ l. answers_of (home_run (rooms j) q) s.answers ++ l) (other j q ne is_q) ∙ append-nil _;
    refused_before = λ h. (either_false (t k).refused Y.refused h).0;
    refused = λ h was. both_false s.refused X.refused was (alike.refused ∙ (either_false (t k).refused Y.refused h).1);
  }
    where
      X : Execution
      X = routine_execution kinds (commands_of runs (home_run (rooms k) r)) s.home

      Y : Execution
      Y = routine_execution (room_kinds (rooms k) kinds) (commands_of (rooms k).own_runs r) (t k).home

      x : Served
      x = record { run = run_no (home_run (rooms k) r); answers = X.answers }

      y : Served
      y = record { run = run_no r; answers = Y.answers }

      alike : Alike rooms k s.home X Y
      alike = subst (λ cs. Alike rooms k s.home (routine_execution kinds cs s.home) Y) (sym (ok.commands k r is))
          (commands rooms ok.devices_apart kinds k s.home (so.home_size k) (record { home = s.home; register = 0; answers = []; refused = false }) (record { home = (t k).home; register = 0; answers = []; refused = false }) (commands_of (rooms k).own_runs r) (ok.inside k r is)
          (record { stands = so.stands k; register = refl; answers = refl; refused = refl; home_size = refl; room_size = so.room_size k; others = λ j a ne here. refl }))

      own : (q : ℕ) → IsOwnRun (rooms k) q → answers_of (home_run (rooms k) q) (x ∷ []) ≡ answers_of q (y ∷ [])
      own q is_q = ⊎_elim
          (λ (e : r ≡ q). shown (home_run (rooms k) r) (home_run (rooms k) q) X.answers (ap (home_run (rooms k)) e) ∙ ap (λ l. l ∷ []) alike.answers ∙ sym (shown r q Y.answers e))
          (λ (ne : r ≢ q). hidden (home_run (rooms k) r) (home_run (rooms k) q) X.answers (λ e. ne (ok.runs_apart k k r q is is_q e).1) ∙ sym (hidden r q Y.answers ne))
          (cases_eq r q)

      other : (j q : ℕ) → j ≢ k → IsOwnRun (rooms j) q → answers_of (home_run (rooms j) q) (x ∷ []) ≡ []
      other j q ne is_q = hidden (home_run (rooms k) r) (home_run (rooms j) q) X.answers (λ e. ne (sym (ok.runs_apart k j r q is is_q e).0))

  item : (k : ℕ) (i : Item) (s : SerialRun) (t : ℕ → SerialRun) → IsOwnItem (rooms k) i → InStep rooms s t
      → InStep rooms (serve runs kinds s (home_item (rooms k) i)) (λ j. if k == j then in_room j (t j) i else t j)
  unfolding in_room
  item k (Ran r) s t is so = changed rooms k s (serve runs kinds s (Ran (run_no (home_run (rooms k) r.0)))) t (λ j. in_room j (t j) (Ran r)) (ran k r.0 s t is so) so
  item k (Failed d n) s t is so = changed rooms k s (serve runs kinds s (home_item (rooms k) (Failed d n))) t (λ j. in_room j (t j) (Failed d n)) (turned k d.0 s t (λ z. record { value = z.value; up = false }) (λ z. not z.up) is so) so
  item k (Back d n) s t is so = changed rooms k s (serve runs kinds s (home_item (rooms k) (Back d n))) t (λ j. in_room j (t j) (Back d n)) (turned k d.0 s t (λ z. record { value = z.value; up = true }) (λ z. z.up) is so) so

  -- a room's own order, one item further
  own_next : (k j : ℕ) (i : Item) (merge : Merge) (t : ℕ → SerialRun) → fold (in_room j) (if k == j then in_room j (t j) i else t j) (own_order j merge) ≡ fold (in_room j) (t j) (own_order j ((k, i) ∷ merge))
  own_next k j i merge t = by (k == j)
    where
      rest : Merge
      rest = filter (λ x. x.0 == j) merge

      by : (b : Bool) → fold (in_room j) (if b then in_room j (t j) i else t j) (map (λ (x : ℕ × Item). x.1) rest) ≡ fold (in_room j) (t j) (map (λ (x : ℕ × Item). x.1) (if b then (k, i) ∷ rest else rest))
      by true = refl
      by false = refl

  merges : (merge : Merge) (s : SerialRun) (t : ℕ → SerialRun) → IsMerge rooms merge → InStep rooms s t → InStep rooms (fold (serve runs kinds) s (home_order rooms merge)) (λ k. fold (in_room k) (t k) (own_order k merge))
  merges [] s t are so = so
  merges (x ∷ merge) s t are so = subst
      (InStep rooms (fold (serve runs kinds) s (home_order rooms (x ∷ merge))))
      (λ i k. own_next x.0 k x.1 merge t i)
      (merges merge (serve runs kinds s (home_item (rooms x.0) x.1)) (λ j. if x.0 == j then in_room j (t j) x.1 else t j) (λ i d within. are (suc i) d (omega (arith, within))) (item x.0 x.1 s t (are 0 x (omega arith)) so))

  begun : List Stand → SerialRun
  begun stands = record { home = stands; answers = []; refused = false }

  begins : InStep rooms (begun home) (λ k. begun (room_home (rooms k) home))
  unfolding begun
  begins = record {
    stands = λ k a here. sym (stand_in_room (rooms k) home a here);
    answers = λ k r is. refl;
    refused = λ none. refl;
    home_size = ok.devices_there;
    room_size = λ k. length-map (rooms k).devices (stand_at home);
  }

  pub whole : (merge : Merge) → IsMerge rooms merge
      → InStep rooms (serial_execution runs kinds home (home_order rooms merge)) (λ k. serial_execution (rooms k).own_runs (room_kinds (rooms k) kinds) (room_home (rooms k) home) (own_order k merge))
  unfolding in_room begun
  whole merge are = merges merge (begun home) (λ k. begun (room_home (rooms k) home)) are begins
