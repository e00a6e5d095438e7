-- Routines and events on different devices do not see one another.
use Rattle.device_order.proofs.Prelude.{Back, Bool, Command, Effect, Execution, Failed, Item, Kind, List, Ran, Run, SerialRun, Served, Stand, [], ap, append_assoc, arith, command_effect, commands_of, common_steps, eq-eqb, execute, false, fold, fold-append, is_on, kind_at, not, nowhere, or_left, refl, routine_execution, run_no, serial_execution, serve, set, stand_at, subst, subst₂, sym, touches, true, with_effect, with_up, ℕ, ◌++◌, ◌==◌, ◌||◌, ◌∙◌, ◌∷◌, ◌≡◌, ◌≢◌}
use Rattle.device_order.specs.Exchanges.{SameOutcome, ShareNoDevice, servings_of}
use Rattle.home_types.specs.declared.numbers.RunNo.{RunNo}
use Rattle.std.proofs.lemmas.List.{get_or-set_other, set_comm}
use Rattle.std.proofs.lemmas.List.Elements.{filter-append}
use Rattle.std.specs.List.{list_any}

-- no command is on the device, and none is on a device of the others
unfoldable Misses : ℕ → List Command → Type 0
Misses d [] = Unit {0}
Misses d (c ∷ cs) = (c.device.0 ≢ d) × Misses d cs

unfoldable Avoids : List Command → List Command → Type 0
Avoids [] ds = Unit {0}
Avoids (c ∷ cs) ds = Misses c.device.0 ds × Avoids cs ds

abbrev run : List Kind → Execution → List Command → Execution
run kinds x cs = fold (execute kinds) x cs

-- the execution, in another home
abbrev in_home : Execution → List Stand → Execution
in_home x home = record x { home = home }

abbrev start : List Stand → Execution
start home = record { home = home; register = 0; answers = []; refused = false }

-- a device that the commands miss stays where it stands, ..
left : (kinds : List Kind) (cs : List Command) (d : ℕ) (x : Execution) → Misses d cs → stand_at (run kinds x cs).home d ≡ stand_at x.home d
unfolding Misses
left kinds [] d x m = refl
left kinds (c ∷ cs) d x m =
    let e : Effect = command_effect (kind_at kinds c.device.0) c.when c.job x.register (stand_at x.home c.device.0) in
    left kinds cs d (execute kinds x c) m.1 ∙ get_or-set_other x.home c.device.0 d e.stand nowhere (λ z. m.0 (sym z))

-- .. and where it stands is nothing to them
past : (kinds : List Kind) (cs : List Command) (d : ℕ) (s : Stand) (x : Execution) → Misses d cs → run kinds (in_home x (set x.home d s)) cs ≡ in_home (run kinds x cs) (set (run kinds x cs).home d s)
unfolding Misses
past kinds [] d s x m = refl
past kinds (c ∷ cs) d s x m = ap (λ y. run kinds y cs) one ∙ past kinds cs d s (execute kinds x c) m.1
  where
    k : Kind
    k = kind_at kinds c.device.0

    e : Effect
    e = command_effect k c.when c.job x.register (stand_at x.home c.device.0)

    seen : stand_at (set x.home d s) c.device.0 ≡ stand_at x.home c.device.0
    seen = get_or-set_other x.home d c.device.0 s nowhere m.0

    one : execute kinds (in_home x (set x.home d s)) c ≡ in_home (execute kinds x c) (set (execute kinds x c).home d s)
    one = ap (λ t. with_effect (in_home x (set x.home d s)) c (command_effect k c.when c.job x.register t)) seen
        ∙ ap (λ l. in_home (execute kinds x c) l) (set_comm x.home d c.device.0 s e.stand (λ z. m.0 (sym z)))

-- commands behind others that share no device with them: as without them, in the home that the others then leave
swapped : (kinds : List Kind) (cs ds : List Command) (x y : Execution) → Avoids cs ds
    → run kinds (in_home x (run kinds (in_home y x.home) ds).home) cs ≡ in_home (run kinds x cs) (run kinds (in_home y (run kinds x cs).home) ds).home
unfolding Avoids
swapped kinds [] ds x y a = refl
swapped kinds (c ∷ cs) ds x y a = ap (λ z. run kinds z cs) one ∙ swapped kinds cs ds x' y a.1
  where
    d : ℕ
    d = c.device.0

    k : Kind
    k = kind_at kinds d

    e : Effect
    e = command_effect k c.when c.job x.register (stand_at x.home d)

    x' : Execution
    x' = execute kinds x c

    Y : Execution
    Y = run kinds (in_home y x.home) ds

    seen : stand_at Y.home d ≡ stand_at x.home d
    seen = left kinds ds d (in_home y x.home) a.0

    after : (run kinds (in_home y x'.home) ds).home ≡ set Y.home d e.stand
    after = ap (λ (z : Execution). z.home) (past kinds ds d e.stand (in_home y x.home) a.0)

    one : execute kinds (in_home x Y.home) c ≡ in_home x' (run kinds (in_home y x'.home) ds).home
    one = ap (λ t. with_effect (in_home x Y.home) c (command_effect k c.when c.job x.register t)) seen ∙ ap (in_home x') (sym after)

-- what the device of an item is to a routine
misses : (d : ℕ) (cs : List Command) → list_any (is_on d) cs ≡ false → Misses d cs
unfolding Misses
misses d [] h = tt
misses d (c ∷ cs) h = ((λ z. differ c (list_any (is_on d) cs) h z), misses d cs (tail c (list_any (is_on d) cs) h))
  where
    differ : (c : Command) (b : Bool) → ((c.device.0 == d) || b) ≡ false → c.device.0 ≡ d → ⊥
    differ c b h z = grind (arith, common_steps)

    tail : (c : Command) (b : Bool) → ((c.device.0 == d) || b) ≡ false → b ≡ false
    tail c b h = grind (arith, common_steps)

avoids : (cs ds : List Command) → ((d : ℕ) → list_any (is_on d) cs ≡ true → list_any (is_on d) ds ≡ false) → Avoids cs ds
unfolding Avoids
avoids [] ds h = tt
avoids (c ∷ cs) ds h = (misses c.device.0 ds (h c.device.0 (or_left (c.device.0 == c.device.0) (list_any (is_on c.device.0) cs) (eq-eqb c.device.0 c.device.0 refl))), avoids cs ds (λ d g. h d (more c d (list_any (is_on d) cs) g)))
  where
    more : (c : Command) (d : ℕ) (b : Bool) → b ≡ true → ((c.device.0 == d) || b) ≡ true
    more c d b h = grind (arith, common_steps)

-- a set of devices that avoids another is avoided by it
turned : (p q : ℕ → Bool) → ((d : ℕ) → p d ≡ true → q d ≡ false) → (d : ℕ) → q d ≡ true → p d ≡ false
turned p q h d g = other (p d) (q d) (h d) g
  where
    other : (x y : Bool) → (x ≡ true → y ≡ false) → y ≡ true → x ≡ false
    other x y h g = grind (arith, common_steps)

-- an event: the device changes, and it may be refused
abbrev turn : ℕ → (Stand → Stand) → (Stand → Bool) → SerialRun → SerialRun
turn d f g s = record { home = set s.home d (f (stand_at s.home d)); answers = s.answers; refused = s.refused || g (stand_at s.home d) }

abbrev fallen : Stand → Stand
fallen s = record { value = s.value; up = false }

abbrev risen : Stand → Stand
risen s = record { value = s.value; up = true }

abbrev down : Stand → Bool
down s = not s.up

abbrev up : Stand → Bool
up s = s.up

or_swap : (a b c b' c' : Bool) → b' ≡ b → c' ≡ c → ((a || b) || c') ≡ ((a || c) || b')
or_swap a b c b' c' e f = grind (arith, common_steps)

back : (a b : SerialRun) → SameOutcome a b → SameOutcome b a
back a b s = record { refused = sym s.refused; home = sym s.home; answers = λ n. sym (s.answers n) }

-- the answers of each run, where two different runs are served in either order
two_served : (n : ℕ) (all : List Served) (x y : Served) → x.run.0 ≢ y.run.0 → servings_of n ((all ++ x ∷ []) ++ y ∷ []) ≡ servings_of n ((all ++ y ∷ []) ++ x ∷ [])
two_served n all x y ne = parted x y ∙ ap (λ l. servings_of n all ++ l) (middle (x.run.0 == n) (y.run.0 == n) refl refl) ∙ sym (parted y x)
  where
    is_of : Served → Bool
    is_of s = s.run.0 == n

    parted : (x y : Served) → servings_of n ((all ++ x ∷ []) ++ y ∷ []) ≡ servings_of n all ++ servings_of n (x ∷ y ∷ [])
    parted x y = ap (servings_of n) (append_assoc all (x ∷ []) (y ∷ [])) ∙ filter-append (λ s. s.run.0 == n) all (x ∷ y ∷ [])

    middle : (a b : Bool) → (x.run.0 == n) ≡ a → (y.run.0 == n) ≡ b → servings_of n (x ∷ y ∷ []) ≡ servings_of n (y ∷ x ∷ [])
    middle a b e f = grind (arith, common_steps)

run_run : (runs : List Run) (kinds : List Kind) (s : SerialRun) (r q : RunNo) → Avoids (commands_of runs r.0) (commands_of runs q.0) → Avoids (commands_of runs q.0) (commands_of runs r.0)
    → SameOutcome (serve runs kinds (serve runs kinds s (Ran r)) (Ran q)) (serve runs kinds (serve runs kinds s (Ran q)) (Ran r))
run_run runs kinds s r q a b = at_ (r.0 == q.0) refl
  where
    cs : List Command
    cs = commands_of runs r.0

    ds : List Command
    ds = commands_of runs q.0

    X : Execution
    X = routine_execution kinds cs s.home

    Y : Execution
    Y = routine_execution kinds ds s.home

    X' : Execution
    X' = routine_execution kinds cs Y.home

    Y' : Execution
    Y' = routine_execution kinds ds X.home

    first : X' ≡ in_home X Y'.home
    first = swapped kinds cs ds (start s.home) (start s.home) a

    second : Y' ≡ in_home Y X'.home
    second = swapped kinds ds cs (start s.home) (start s.home) b

    same : (r.0 == q.0) ≡ true → r ≡ q
    same e = ap run_no (same_number e)
      where
        same_number : (r.0 == q.0) ≡ true → r.0 ≡ q.0
        same_number e = grind (arith, common_steps)

    differ : (r.0 == q.0) ≡ false → r.0 ≢ q.0
    differ e z = grind (arith, common_steps)

    at_ : (z : Bool) → (r.0 == q.0) ≡ z → SameOutcome (serve runs kinds (serve runs kinds s (Ran r)) (Ran q)) (serve runs kinds (serve runs kinds s (Ran q)) (Ran r))
    at_ true e = subst (λ q. SameOutcome (serve runs kinds (serve runs kinds s (Ran r)) (Ran q)) (serve runs kinds (serve runs kinds s (Ran q)) (Ran r))) (same e) (record { refused = refl; home = refl; answers = λ n. refl })
    at_ false e = record {
      refused = or_swap s.refused X.refused Y.refused X'.refused Y'.refused (ap (λ (z : Execution). z.refused) first) (ap (λ (z : Execution). z.refused) second);
      home = sym (ap (λ (z : Execution). z.home) first);
      answers = λ n.
          ap (λ (z : Execution). servings_of n ((s.answers ++ record { run = r; answers = X.answers } ∷ []) ++ record { run = q; answers = z.answers } ∷ [])) second
          ∙ two_served n s.answers (record { run = r; answers = X.answers }) (record { run = q; answers = Y.answers }) (differ e)
          ∙ ap (λ (z : Execution). servings_of n ((s.answers ++ record { run = q; answers = Y.answers } ∷ []) ++ record { run = r; answers = z.answers } ∷ [])) (sym first);
    }

run_turn : (runs : List Run) (kinds : List Kind) (s : SerialRun) (r : RunNo) (d : ℕ) (f : Stand → Stand) (g : Stand → Bool) → Misses d (commands_of runs r.0)
    → SameOutcome (turn d f g (serve runs kinds s (Ran r))) (serve runs kinds (turn d f g s) (Ran r))
run_turn runs kinds s r d f g m =
    record {
      refused = or_swap s.refused X.refused (g (stand_at s.home d)) X'.refused (g (stand_at X.home d)) (ap (λ (z : Execution). z.refused) other) (ap g stays);
      home = ap (λ t. set X.home d (f t)) stays ∙ sym (ap (λ (z : Execution). z.home) other);
      answers = λ n. ap (λ (z : Execution). servings_of n (s.answers ++ record { run = r; answers = z.answers } ∷ [])) (sym other);
    }
  where
    cs : List Command
    cs = commands_of runs r.0

    x : Stand
    x = f (stand_at s.home d)

    X : Execution
    X = routine_execution kinds cs s.home

    X' : Execution
    X' = routine_execution kinds cs (set s.home d x)

    stays : stand_at X.home d ≡ stand_at s.home d
    stays = left kinds cs d (start s.home) m

    other : X' ≡ in_home X (set X.home d x)
    other = past kinds cs d x (start s.home) m

turn_turn : (s : SerialRun) (d e : ℕ) (f h : Stand → Stand) (g k : Stand → Bool) → d ≢ e → SameOutcome (turn e h k (turn d f g s)) (turn d f g (turn e h k s))
turn_turn s d e f h g k ne =
    record {
      refused = or_swap s.refused (g (stand_at s.home d)) (k (stand_at s.home e)) (g (stand_at (set s.home e (h (stand_at s.home e))) d)) (k (stand_at (set s.home d (f (stand_at s.home d))) e)) (ap g there) (ap k here);
      home = ap (λ t. set (set s.home d (f (stand_at s.home d))) e (h t)) here
          ∙ set_comm s.home d e (f (stand_at s.home d)) (h (stand_at s.home e)) ne
          ∙ ap (λ t. set (set s.home e (h (stand_at s.home e))) d (f t)) (sym there);
      answers = λ n. refl;
    }
  where
    here : stand_at (set s.home d (f (stand_at s.home d))) e ≡ stand_at s.home e
    here = get_or-set_other s.home d e (f (stand_at s.home d)) nowhere (λ z. ne (sym z))

    there : stand_at (set s.home e (h (stand_at s.home e))) d ≡ stand_at s.home d
    there = get_or-set_other s.home e d (h (stand_at s.home e)) nowhere ne

run_misses : (runs : List Run) (r : RunNo) (d : ℕ) → ((e : ℕ) → touches runs r.0 e ≡ true → (d == e) ≡ false) → Misses d (commands_of runs r.0)
run_misses runs r d h = misses d (commands_of runs r.0) (turned (touches runs r.0) (λ e. d == e) h d (eq-eqb d d refl))

missed : (runs : List Run) (r : RunNo) (d : ℕ) → ((e : ℕ) → (d == e) ≡ true → touches runs r.0 e ≡ false) → Misses d (commands_of runs r.0)
missed runs r d h = misses d (commands_of runs r.0) (h d (eq-eqb d d refl))

two_devices : (d e : ℕ) → ((q : ℕ) → (d == q) ≡ true → (e == q) ≡ false) → d ≢ e
two_devices d e h z = differ (h d (eq-eqb d d refl)) z
  where
    differ : (e == d) ≡ false → d ≡ e → ⊥
    differ x z = grind (arith, common_steps)

-- two items that share no device, one after the other
two_items : (runs : List Run) (kinds : List Kind) (s : SerialRun) (a b : Item) → ShareNoDevice runs a b → SameOutcome (serve runs kinds (serve runs kinds s a) b) (serve runs kinds (serve runs kinds s b) a)
two_items runs kinds s (Ran r) (Ran q) h = run_run runs kinds s r q (avoids (commands_of runs r.0) (commands_of runs q.0) h) (avoids (commands_of runs q.0) (commands_of runs r.0) (turned (touches runs r.0) (touches runs q.0) h))
two_items runs kinds s (Ran r) (Failed d k) h = run_turn runs kinds s r d.0 fallen down (run_misses runs r d.0 h)
two_items runs kinds s (Ran r) (Back d k) h = run_turn runs kinds s r d.0 risen up (run_misses runs r d.0 h)
two_items runs kinds s (Failed d k) (Ran q) h = back (turn d.0 fallen down (serve runs kinds s (Ran q))) (serve runs kinds (turn d.0 fallen down s) (Ran q)) (run_turn runs kinds s q d.0 fallen down (missed runs q d.0 h))
two_items runs kinds s (Back d k) (Ran q) h = back (turn d.0 risen up (serve runs kinds s (Ran q))) (serve runs kinds (turn d.0 risen up s) (Ran q)) (run_turn runs kinds s q d.0 risen up (missed runs q d.0 h))
two_items runs kinds s (Failed d k) (Failed e l) h = turn_turn s d.0 e.0 fallen fallen down down (two_devices d.0 e.0 h)
two_items runs kinds s (Failed d k) (Back e l) h = turn_turn s d.0 e.0 fallen risen down up (two_devices d.0 e.0 h)
two_items runs kinds s (Back d k) (Failed e l) h = turn_turn s d.0 e.0 risen fallen up down (two_devices d.0 e.0 h)
two_items runs kinds s (Back d k) (Back e l) h = turn_turn s d.0 e.0 risen risen up up (two_devices d.0 e.0 h)

-- what follows does not tell them apart
same_then : (runs : List Run) (kinds : List Kind) (s t : SerialRun) (items : List Item) → SameOutcome s t → SameOutcome (fold (serve runs kinds) s items) (fold (serve runs kinds) t items)
same_then runs kinds s t [] h = h
same_then runs kinds s t (Ran r ∷ items) h = same_then runs kinds (serve runs kinds s (Ran r)) (serve runs kinds t (Ran r)) items (record {
  refused = λ i. h.refused i || (routine_execution kinds (commands_of runs r.0) (h.home i)).refused;
  home = λ i. (routine_execution kinds (commands_of runs r.0) (h.home i)).home;
  answers = λ n. parted n s ∙ (λ i. h.answers n i ++ servings_of n (record { run = r; answers = (routine_execution kinds (commands_of runs r.0) (h.home i)).answers } ∷ [])) ∙ sym (parted n t);
})
  where
    parted : (n : ℕ) (s : SerialRun) → servings_of n (serve runs kinds s (Ran r)).answers ≡ servings_of n s.answers ++ servings_of n (record { run = r; answers = (routine_execution kinds (commands_of runs r.0) s.home).answers } ∷ [])
    parted n s = filter-append (λ x. x.run.0 == n) s.answers (record { run = r; answers = (routine_execution kinds (commands_of runs r.0) s.home).answers } ∷ [])
same_then runs kinds s t (Failed d k ∷ items) h = same_then runs kinds (serve runs kinds s (Failed d k)) (serve runs kinds t (Failed d k)) items (record {
  refused = λ i. h.refused i || not (stand_at (h.home i) d.0).up;
  home = λ i. with_up (h.home i) d.0 false;
  answers = h.answers;
})
same_then runs kinds s t (Back d k ∷ items) h = same_then runs kinds (serve runs kinds s (Back d k)) (serve runs kinds t (Back d k)) items (record {
  refused = λ i. h.refused i || (stand_at (h.home i) d.0).up;
  home = λ i. with_up (h.home i) d.0 true;
  answers = h.answers;
})

pub exchanged : (runs : List Run) (kinds : List Kind) (home : List Stand) (front rest : List Item) (a b : Item) → ShareNoDevice runs a b
    → SameOutcome (serial_execution runs kinds home (front ++ a ∷ b ∷ rest)) (serial_execution runs kinds home (front ++ b ∷ a ∷ rest))
exchanged runs kinds home front rest a b h =
    let s : SerialRun = record { home = home; answers = []; refused = false } in
    let m : SerialRun = fold (serve runs kinds) s front in
    subst₂ SameOutcome (sym (fold-append (serve runs kinds) s front (a ∷ b ∷ rest))) (sym (fold-append (serve runs kinds) s front (b ∷ a ∷ rest)))
    (same_then runs kinds (serve runs kinds (serve runs kinds m a) b) (serve runs kinds (serve runs kinds m b) a) rest (two_items runs kinds m a b h))
