-- What scripts of the same plain content say is the same.
use Rattle.home_states.proofs.Prelude.{Bool, HasBegun, HasRun, List, None, Option, PlainDevice, PlainRoutine, PlainScript, PlainWindow, Run, RunNo, Script, Some, Stand, When, WindowText, [], ap, ap₂, false, if◌then◌else◌, kinds_of, length, map, nat_lt, option_map, plain_device, plain_routine, plain_script, plain_window, refl, reverse, reverse-append, routine_commands, run_of_text, script_runs, slice_get, slice_get-map, start_home, suc, sym, true, unwrap_or, windows_before, ℕ, ◌++◌, ◌∙◌, ◌∷◌, ◌≡◌}
use Rattle.home_types.specs.declared.commands.Command.{Command}
use Rattle.home_types.specs.Limits.{most_windows}
use Rattle.routine_reader.specs.declared.scripts.RunText.{RunText}
use Rattle.routine_reader.specs.declared.scripts.DeviceText.{DeviceText}
use Rattle.routine_reader.specs.declared.scripts.RoutineText.{RoutineText}
use Rattle.home_types.specs.Listed.{Listed}

map_map : {A B C : Type 0} (f : A → B) (g : B → C) (xs : List A) → map g (map f xs) ≡ map (λ x. g (f x)) xs
map_map f g [] = refl
map_map f g (x ∷ xs) = ap (λ l. g (f x) ∷ l) (map_map f g xs)

map_length : {A B : Type 0} (f : A → B) (xs : List A) → length (map f xs) ≡ length xs
map_length f [] = refl
map_length f (x ∷ xs) = ap (λ n. suc n) (map_length f xs)

map_append : {A B : Type 0} (f : A → B) (xs ys : List A) → map f (xs ++ ys) ≡ map f xs ++ map f ys
map_append f [] ys = refl
map_append f (x ∷ xs) ys = ap (λ l. f x ∷ l) (map_append f xs ys)

pub same_kinds : (s t : Script) → plain_script s ≡ plain_script t → kinds_of s ≡ kinds_of t
same_kinds s t same =
    sym (map_map plain_device (λ (p : PlainDevice). p.kind) s.devices.items)
    ∙ ap (λ (p : PlainScript). map (λ (d : PlainDevice). d.kind) p.devices) same
    ∙ map_map plain_device (λ (p : PlainDevice). p.kind) t.devices.items

abbrev plain_start : PlainDevice → Stand
plain_start d = record { value = d.start; up = true }

start_plain : (devices : List DeviceText) → map (λ d. record { value = d.start; up = true }) devices ≡ map plain_start (map plain_device devices)
start_plain [] = refl
start_plain (d ∷ devices) = ap (λ l. record { value = d.start; up = true } ∷ l) (start_plain devices)

pub same_start : (s t : Script) → plain_script s ≡ plain_script t → start_home s ≡ start_home t
same_start s t same =
    start_plain s.devices.items ∙ ap (λ (p : PlainScript). map plain_start p.devices) same ∙ sym (start_plain t.devices.items)

-- The runs of a window

abbrev plain_commands : PlainScript → ℕ → List Command
plain_commands p i = unwrap_or (option_map (λ r. r.commands) (slice_get p.routines i)) []

abbrev plain_run_of : PlainScript → RunText → Run
plain_run_of p t = record { commands = plain_commands p t.routine; follows = t.follows }

abbrev plain_runs : PlainScript → ℕ → List Run
plain_runs p k = unwrap_or (option_map (λ w. map (plain_run_of p) w.runs) (slice_get p.windows k)) []

commands_in : (o : Option RoutineText) → unwrap_or (option_map (λ t. t.routine.commands.items) o) [] ≡ unwrap_or (option_map (λ r. r.commands) (option_map plain_routine o)) []
commands_in None = refl
commands_in (Some t) = refl

commands_plain : (s : Script) (i : ℕ) → routine_commands s i ≡ plain_commands (plain_script s) i
commands_plain s i =
    commands_in (slice_get s.routines.items i)
    ∙ ap (λ (o : Option PlainRoutine). unwrap_or (option_map (λ r. r.commands) o) []) (sym (slice_get-map plain_routine s.routines.items i))

runs_plain : (s : Script) (runs : List RunText) → map (run_of_text s) runs ≡ map (plain_run_of (plain_script s)) runs
runs_plain s [] = refl
runs_plain s (t ∷ runs) =
    ap₂ (λ (c : List Command) (l : List Run). record { commands = c; follows = t.follows } ∷ l) (commands_plain s t.routine) (runs_plain s runs)

-- a run of the same routine has the same commands
pub same_run : (s t : Script) (run : RunText) → plain_script s ≡ plain_script t → run_of_text s run ≡ run_of_text t run
same_run s t run same =
    ap (λ (c : List Command). record { commands = c; follows = run.follows }) (commands_plain s run.routine ∙ ap (λ p. plain_commands p run.routine) same ∙ sym (commands_plain t run.routine))

runs_in : (s : Script) (o : Option WindowText) → unwrap_or (option_map (λ t. map (run_of_text s) t.runs.items) o) []
    ≡ unwrap_or (option_map (λ w. map (plain_run_of (plain_script s)) w.runs) (option_map plain_window o)) []
runs_in s None = refl
runs_in s (Some t) = runs_plain s t.runs.items

script_runs_plain : (s : Script) (k : ℕ) → script_runs s k ≡ plain_runs (plain_script s) k
script_runs_plain s k =
    runs_in s (slice_get s.windows.items k)
    ∙ ap (λ (o : Option PlainWindow). unwrap_or (option_map (λ w. map (plain_run_of (plain_script s)) w.runs) o) []) (sym (slice_get-map plain_window s.windows.items k))

pub same_runs : (s t : Script) (k : ℕ) → plain_script s ≡ plain_script t → script_runs s k ≡ script_runs t k
same_runs s t k same = script_runs_plain s k ∙ ap (λ p. plain_runs p k) same ∙ sym (script_runs_plain t k)

pub some_same : {A : Type 0} (a b : A) → Some a ≡ Some b → a ≡ b
some_same a b same = cc

-- the windows of the same number have the same rounds of probes
pub same_probes : (s t : Script) (k : ℕ) (v w : WindowText) → plain_script s ≡ plain_script t → slice_get s.windows.items k ≡ Some v
    → slice_get t.windows.items k ≡ Some w → v.probes ≡ w.probes
same_probes s t k v w same at there =
    some_same v.probes w.probes
    (ap (λ (o : Option WindowText). option_map (λ (x : WindowText). x.probes) o) (sym at)
    ∙ of_plain (slice_get s.windows.items k)
    ∙ ap (λ (o : Option PlainWindow). option_map (λ (x : PlainWindow). x.probes) o) (sym (slice_get-map plain_window s.windows.items k))
    ∙ ap (λ (p : PlainScript). option_map (λ (x : PlainWindow). x.probes) (slice_get p.windows k)) same
    ∙ ap (λ (o : Option PlainWindow). option_map (λ (x : PlainWindow). x.probes) o) (slice_get-map plain_window t.windows.items k)
    ∙ sym (of_plain (slice_get t.windows.items k))
    ∙ ap (λ (o : Option WindowText). option_map (λ (x : WindowText). x.probes) o) there)
  where
    of_plain : (o : Option WindowText) → option_map (λ (x : WindowText). x.probes) o ≡ option_map (λ (x : PlainWindow). x.probes) (option_map plain_window o)
    of_plain None = refl
    of_plain (Some x) = refl

-- A window is begun, and a run added

abbrev new_window : When → ℕ → PlainWindow
new_window at probes = record { at = at; seed = 1; probes = probes; turns = []; runs = [] }

abbrev plain_before : List PlainWindow → List PlainWindow
plain_before windows = if nat_lt (length windows) most_windows then windows else []

abbrev begun_plain : PlainScript → When → ℕ → PlainScript
begun_plain p at probes = record p { windows = plain_before p.windows ++ new_window at probes ∷ [] }

before_plain : (windows : List WindowText) → map plain_window (windows_before windows) ≡ plain_before (map plain_window windows)
before_plain windows =
    by_test (nat_lt (length windows) most_windows)
    ∙ ap (λ n. if nat_lt n most_windows then map plain_window windows else []) (sym (map_length plain_window windows))
  where
    by_test : (b : Bool) → map plain_window (if b then windows else []) ≡ (if b then map plain_window windows else [])
    by_test true = refl
    by_test false = refl

begun_is : (a c : Script) (at : When) (probes k : ℕ) → HasBegun a at probes k c → plain_script c ≡ begun_plain (plain_script a) at probes
begun_is a c at probes k begun =
    let windows : map plain_window c.windows.items ≡ plain_before (map plain_window a.windows.items) ++ new_window at probes ∷ [] =
    ap (λ l. map plain_window l) begun.windows
    ∙ map_append plain_window (windows_before a.windows.items) (begun.window ∷ [])
    ∙ ap₂ (λ (l : List PlainWindow) (w : PlainWindow). l ++ w ∷ []) (before_plain a.windows.items)
    (λ i. record {
      at = begun.new.time i;
      seed = begun.new.seed i;
      probes = begun.new.rounds i;
      turns = begun.new.turns i;
      runs = begun.new.runs i;
    }) in
    λ i. record {
      devices = map plain_device (begun.devices i).items;
      routines = map plain_routine (begun.routines i).items;
      windows = windows i;
    }

pub same_begun : (a b c d : Script) (at : When) (probes k n : ℕ) → HasBegun a at probes k c → HasBegun b at probes n d
    → plain_script a ≡ plain_script b → plain_script c ≡ plain_script d
same_begun a b c d at probes k n one other same =
    begun_is a c at probes k one ∙ ap (λ p. begun_plain p at probes) same ∙ sym (begun_is b d at probes n other)

snoc_front : {X : Type 0} (xs ys : List X) (x y : X) → xs ++ x ∷ [] ≡ ys ++ y ∷ [] → xs ≡ ys
snoc_front [] [] x y same = refl
snoc_front [] (z ∷ []) x y same = absurd (cc)
snoc_front [] (z ∷ w ∷ ys) x y same = absurd (cc)
snoc_front (w ∷ []) [] x y same = absurd (cc)
snoc_front (w ∷ v ∷ xs) [] x y same = absurd (cc)
snoc_front (w ∷ xs) (z ∷ ys) x y same =
    let first : w ≡ z = cc in
    let rest : xs ++ x ∷ [] ≡ ys ++ y ∷ [] = cc in
    let front = snoc_front xs ys x y rest in
    λ i. first i ∷ front i

snoc_last : {X : Type 0} (xs ys : List X) (x y : X) → xs ++ x ∷ [] ≡ ys ++ y ∷ [] → x ≡ y
snoc_last xs ys x y same =
    let turned : x ∷ reverse xs ≡ y ∷ reverse ys = sym (reverse-append xs (x ∷ [])) ∙ ap reverse same ∙ reverse-append ys (y ∷ []) in
    cc

abbrev with_run : PlainWindow → RunText → PlainWindow
with_run w run = record w { runs = w.runs ++ run ∷ [] }

run_added : (a c : Script) (routine : ℕ) (follows : Option RunNo) (r : ℕ) (has : HasRun a routine follows r c)
    → plain_window has.is ≡ with_run (plain_window has.was) (record { routine = routine; follows = follows })
run_added a c routine follows r has =
    ap plain_window has.rest ∙ ap (λ (l : List RunText). record (plain_window has.was) { runs = l }) has.runs

-- the windows of a script that has one run more, by those before the last one and the last one
windows_now : (a c : Script) (routine : ℕ) (follows : Option RunNo) (r : ℕ) (has : HasRun a routine follows r c)
    → map plain_window c.windows.items ≡ map plain_window has.earlier ++ with_run (plain_window has.was) (record { routine = routine; follows = follows }) ∷ []
windows_now a c routine follows r has =
    ap (λ l. map plain_window l) has.last_is
    ∙ map_append plain_window has.earlier (has.is ∷ [])
    ∙ ap (λ w. map plain_window has.earlier ++ w ∷ []) (run_added a c routine follows r has)

windows_were : (a c : Script) (routine : ℕ) (follows : Option RunNo) (r : ℕ) (has : HasRun a routine follows r c)
    → map plain_window a.windows.items ≡ map plain_window has.earlier ++ plain_window has.was ∷ []
windows_were a c routine follows r has =
    ap (λ l. map plain_window l) has.last_was ∙ map_append plain_window has.earlier (has.was ∷ [])

pub same_added : (a b c d : Script) (routine : ℕ) (follows : Option RunNo) (r q : ℕ) → HasRun a routine follows r c → HasRun b routine follows q d
    → plain_script a ≡ plain_script b → plain_script c ≡ plain_script d
same_added a b c d routine follows r q one other same =
    let were : map plain_window one.earlier ++ plain_window one.was ∷ [] ≡ map plain_window other.earlier ++ plain_window other.was ∷ [] =
    sym (windows_were a c routine follows r one) ∙ ap (λ (p : PlainScript). p.windows) same ∙ windows_were b d routine follows q other in
    let windows : map plain_window c.windows.items ≡ map plain_window d.windows.items =
    windows_now a c routine follows r one
    ∙ ap₂ (λ (l : List PlainWindow) (w : PlainWindow). l ++ with_run w (record { routine = routine; follows = follows }) ∷ [])
    (snoc_front (map plain_window one.earlier) (map plain_window other.earlier) (plain_window one.was) (plain_window other.was) were)
    (snoc_last (map plain_window one.earlier) (map plain_window other.earlier) (plain_window one.was) (plain_window other.was) were)
    ∙ sym (windows_now b d routine follows q other) in
    let devices : map plain_device c.devices.items ≡ map plain_device d.devices.items =
    ap (λ (l : Listed DeviceText). map plain_device l.items) one.devices ∙ ap (λ (p : PlainScript). p.devices) same ∙ ap (λ (l : Listed DeviceText). map plain_device l.items) (sym other.devices) in
    let routines : map plain_routine c.routines.items ≡ map plain_routine d.routines.items =
    ap (λ (l : Listed RoutineText). map plain_routine l.items) one.routines ∙ ap (λ (p : PlainScript). p.routines) same ∙ ap (λ (l : Listed RoutineText). map plain_routine l.items) (sym other.routines) in
    λ i. record { devices = devices i; routines = routines i; windows = windows i }
