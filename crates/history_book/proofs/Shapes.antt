-- What a well-formed history says of each run.
use Rattle.history_book.proofs.Prelude.{Aborted, Answer, Arrived, Bool, Cause, Command, Committed, Did, Doomed, Down, End, Ended, Entry, Fell, Fine, Found, IsTrue, IsWellFormed, List, None, OfRun, OnDevice, Option, Placed, PlacedAt, Planned, Reading, Rose, Setting, Skipped, Some, Undid, [], along, answered, ap, arith, command_at, commands_of, common_steps, did, entry, false, fold, holds, if◌then◌else◌, is_access, is_always, is_committing, is_doomed, is_none, is_on, is_run, is_some, kind_at, length, length-append, list_all, list_all-append, list_any, may_follow, no_command, not, nothing_read, option_map, option_or, passed_by, pends, put, reading, refl, same_cause, slice_index_or, subst, suc, suits, sym, take, touches, true, unread, untouched_device, unwrap_or, view_by, zero, ℕ, ◌&&◌, ◌++◌, ◌+◌, ◌<◌, ◌==◌, ◌||◌, ◌∙◌, ◌∷◌, ◌≡◌, ◌≤◌}
use Rattle.history_book.proofs.Lines.{any_left}
use Rattle.history_book.proofs.Standing.{aborted}
use Rattle.home_types.specs.declared.commands.Guard.{Guard}
use Rattle.home_types.specs.declared.commands.Guard.TheVariants.{Always, Below, Is}
use Rattle.home_types.specs.declared.kinds.Kind.{Kind}

abbrev pub committed_in : OfRun → Bool
committed_in o = unwrap_or (option_map is_committing o.ended) false

-- each of the commands has the guard Always
abbrev pub is_unguarded : List Command → Bool
is_unguarded cs = list_all (λ c. is_always c.when) cs

-- one of these commands is on the device, and answered with an access
abbrev pub accessed : ℕ → List Command → List Answer → Bool
accessed d cs [] = false
accessed d [] (a ∷ more) = false
accessed d (c ∷ cs) (a ∷ more) = (is_on d c && is_access a) || accessed d cs more

-- before the first answer
accessed_none : (d : ℕ) (cs : List Command) → accessed d cs [] ≡ false
accessed_none d [] = refl
accessed_none d (c ∷ cs) = refl

-- with one answer more
pub accessed_more : (d : ℕ) (cs : List Command) (old : List Answer) (a : Answer) → length old < length cs
    → accessed d cs (old ++ a ∷ []) ≡ (accessed d cs old || (is_on d (slice_index_or cs (length old) no_command) && is_access a))
accessed_more d [] old a lt = let none : ⊥ = omega (arith, lt) in absurd none
accessed_more d (c ∷ cs) [] a lt = rw (accessed_none d cs) (or_none (is_on d c && is_access a))
  where
    or_none : (b : Bool) → (b || false) ≡ b
    or_none true = refl
    or_none false = refl
accessed_more d (c ∷ cs) (b ∷ old) a lt = rw (accessed_more d cs old a (omega (arith, lt))) (or_or (is_on d c && is_access b) (accessed d cs old) (is_on d (slice_index_or cs (length old) no_command) && is_access a))
  where
    or_or : (x y z : Bool) → (x || (y || z)) ≡ ((x || y) || z)
    or_or true y z = refl
    or_or false y z = refl

accessed_touches : (d : ℕ) (cs : List Command) (told : List Answer) → accessed d cs told ≡ true → list_any (is_on d) cs ≡ true
accessed_touches d cs [] e = absurd (let none : false ≡ true = sym (accessed_none d cs) ∙ e in grind (arith, common_steps))
accessed_touches d [] (a ∷ more) e = absurd (cc)
accessed_touches d (c ∷ cs) (a ∷ more) e = at (is_on d c) (is_access a) (accessed d cs more) (accessed_touches d cs more) e
  where
    at : (on access later : Bool) → (later ≡ true → list_any (is_on d) cs ≡ true) → ((on && access) || later) ≡ true → (on || list_any (is_on d) cs) ≡ true
    at true access later more e = refl
    at false access later more e = more e

-- where each answer is an access, each answered command is one
accessed_all : (d : ℕ) (cs : List Command) (told : List Answer) → list_all is_access told ≡ true → accessed d cs told ≡ list_any (is_on d) (take (length told) cs)
accessed_all d cs [] all = accessed_none d cs
accessed_all d [] (a ∷ more) all = refl
accessed_all d (c ∷ cs) (a ∷ more) all = at (is_access a) (grind (arith, common_steps)) (accessed_all d cs more (grind (arith, common_steps)))
  where
    at : (b : Bool) → b ≡ true → accessed d cs more ≡ list_any (is_on d) (take (length more) cs) → ((is_on d c && b) || accessed d cs more) ≡ (is_on d c || list_any (is_on d) (take (length more) cs))
    at true e later = rw later (grind (arith, common_steps))
    at false e later = absurd (cc)

-- no command is guarded at any number
unguarded_at : (cs : List Command) (k : ℕ) → is_unguarded cs ≡ true → is_always (slice_index_or cs k no_command).when ≡ true
unguarded_at [] k all = refl
unguarded_at (c ∷ cs) zero all = grind (arith, common_steps)
unguarded_at (c ∷ cs) (suc k) all = unguarded_at cs k (grind (arith, common_steps))

pub record IsShaped (w : Setting) (r : ℕ) (o : OfRun) : Type 0 where
  -- a run that has arrived is one of the window, and it arrives before it is placed
  pub known : is_some o.arrived ≡ true → is_run w.runs r ≡ true
  pub arrived : is_some o.placed ≡ true → is_some o.arrived ≡ true
  -- nothing has happened to a run that is not placed
  pub unanswered : is_none o.placed ≡ true → o.answers ≡ []
  pub sound : is_none o.placed ≡ true → o.doomed ≡ None
  pub going : is_none o.placed ≡ true → o.ended ≡ None
  pub clear : is_none o.placed ≡ true → (d : ℕ) → o.on d ≡ untouched_device
  -- a run is doomed where it ends aborted or is answered late, and not where it commits
  pub commits : committed_in o ≡ true → o.doomed ≡ None
  pub whole : committed_in o ≡ true → length o.answers ≡ length (commands_of w.runs r)
  pub aborts : aborted o ≡ true → is_some o.doomed ≡ true
  pub answers_late : o.answered_doomed ≡ true → is_some o.doomed ≡ true
  pub fits : length o.answers ≤ length (commands_of w.runs r)
  -- where none of its commands has a guard, each of its answers is an access
  pub unguarded : is_unguarded (commands_of w.runs r) ≡ true → list_all is_access o.answers ≡ true
  -- it has an access where a command is answered with one, and writes, finds and is undone there alone
  pub view : (d : ℕ) → is_some (o.on d).view ≡ accessed d (commands_of w.runs r) o.answers
  pub wrote : (d : ℕ) → is_some (o.on d).wrote ≡ true → is_some (o.on d).view ≡ true
  pub found : (d : ℕ) → is_some (o.on d).found ≡ true → is_some (o.on d).view ≡ true
  pub undid : (d : ℕ) → (o.on d).undid ≡ true → is_some (o.on d).wrote ≡ true
  pub undone : (d : ℕ) → (o.on d).undid ≡ true → is_some o.doomed ≡ true
  pub late : (d : ℕ) → (o.on d).late ≡ true → is_some o.doomed ≡ true

abbrev pub Shaped : Setting → Reading → Type 0
Shaped w n = (r : ℕ) → IsShaped w r (n.run r)

-- at the start
pub unread_shape : (w : Setting) (r : ℕ) → IsShaped w r unread
unread_shape w r =
    record {
      known = λ e. absurd (cc);
      arrived = λ e. absurd (cc);
      unanswered = λ e. refl;
      sound = λ e. refl;
      going = λ e. refl;
      clear = λ e d. refl;
      commits = λ e. refl;
      whole = λ e. absurd (cc);
      aborts = λ e. absurd (cc);
      answers_late = λ e. absurd (cc);
      fits = omega arith;
      unguarded = λ e. refl;
      view = λ d. sym (accessed_none d (commands_of w.runs r));
      wrote = λ d e. absurd (cc);
      found = λ d e. absurd (cc);
      undid = λ d e. absurd (cc);
      undone = λ d e. absurd (cc);
      late = λ d e. absurd (cc);
    }

-- what holds of each value of a function still holds where one is put that it holds of
pub put_all : {A : Type 0} (P : ℕ → A → Type 0) (f : ℕ → A) (k : ℕ) (v : A) → ((n : ℕ) → P n (f n)) → P k v → (n : ℕ) → P n (put f k v n)
put_all P f k v all new n = elim (n == k) as (λ b. (n == k) ≡ b → P n (if b then v else f n)) [
  | true ↦ (λ e. let same : n ≡ k = grind (arith, common_steps) in subst (λ x. P x v) (sym same) new)
  | false ↦ (λ e. all n)
] refl

-- One entry more

arrives : (w : Setting) (r m : ℕ) (o : OfRun) → is_run w.runs r ≡ true → IsShaped w r o → IsShaped w r (record o { arrived = Some m })
arrives w r m o run s =
    record {
      known = λ e. run;
      arrived = λ e. refl;
      unanswered = s.unanswered;
      sound = s.sound;
      going = s.going;
      clear = s.clear;
      commits = s.commits;
      whole = s.whole;
      aborts = s.aborts;
      answers_late = s.answers_late;
      fits = s.fits;
      unguarded = s.unguarded;
      view = s.view;
      wrote = s.wrote;
      found = s.found;
      undid = s.undid;
      undone = s.undone;
      late = s.late;
    }

places : (w : Setting) (r : ℕ) (o : OfRun) (p : PlacedAt) (planned : List Planned) → is_some o.arrived ≡ true → IsShaped w r o → IsShaped w r (record o { placed = Some p; planned = planned })
places w r o p planned came s =
    record {
      known = s.known;
      arrived = λ e. came;
      unanswered = λ e. absurd (cc);
      sound = λ e. absurd (cc);
      going = λ e. absurd (cc);
      clear = λ e. absurd (cc);
      commits = s.commits;
      whole = s.whole;
      aborts = s.aborts;
      answers_late = s.answers_late;
      fits = s.fits;
      unguarded = s.unguarded;
      view = s.view;
      wrote = s.wrote;
      found = s.found;
      undid = s.undid;
      undone = s.undone;
      late = s.late;
    }

-- it sees the device from its first access on
some_view : (v : Option Bool) (a : Answer) → is_some (option_or v (view_by a)) ≡ (is_some v || is_access a)
some_view (Some u) a = refl
some_view None a = refl

or_true : (b : Bool) → (b || true) ≡ true
or_true true = refl
or_true false = refl

still_wrote : (kind : Kind) (c : Command) (doomed : Bool) (register : ℕ) (a : Answer) (o : OnDevice) → is_some o.wrote ≡ true → is_some (answered kind c doomed register a o).wrote ≡ true
still_wrote kind c doomed register Fine o e = refl
still_wrote kind c doomed register (Found x) o e = e
still_wrote kind c doomed register Down o e = e
still_wrote kind c doomed register Skipped o e = e

still_seen : (v u : Option Bool) → is_some v ≡ true → is_some (option_or v u) ≡ true
still_seen (Some x) u e = refl
still_seen None u e = absurd (cc)

-- what is written or found after an answer was so before, or the answer is an access
written_seen : (kind : Kind) (c : Command) (doomed : Bool) (register : ℕ) (a : Answer) (o : OnDevice) → (is_some o.wrote ≡ true → is_some o.view ≡ true)
    → is_some (answered kind c doomed register a o).wrote ≡ true → is_some (answered kind c doomed register a o).view ≡ true
written_seen kind c doomed register Fine o old e = some_view o.view Fine ∙ or_true (is_some o.view)
written_seen kind c doomed register (Found x) o old e = still_seen o.view (Some true) (old e)
written_seen kind c doomed register Down o old e = still_seen o.view (Some false) (old e)
written_seen kind c doomed register Skipped o old e = still_seen o.view None (old e)

found_seen : (kind : Kind) (c : Command) (doomed : Bool) (register : ℕ) (a : Answer) (o : OnDevice) → (is_some o.found ≡ true → is_some o.view ≡ true)
    → is_some (answered kind c doomed register a o).found ≡ true → is_some (answered kind c doomed register a o).view ≡ true
found_seen kind c doomed register Fine o old e = still_seen o.view (Some true) (old e)
found_seen kind c doomed register (Found x) o old e = some_view o.view (Found x) ∙ or_true (is_some o.view)
found_seen kind c doomed register Down o old e = still_seen o.view (Some false) (old e)
found_seen kind c doomed register Skipped o old e = still_seen o.view None (old e)

-- the run's next command is answered
answers : (w : Setting) (r : ℕ) (o : OfRun) (a : Answer) (register : ℕ) → is_some o.placed ≡ true → is_none o.ended ≡ true → length o.answers < length (commands_of w.runs r)
    → (is_always (command_at w.runs r (length o.answers)).when ≡ true → is_access a ≡ true) → IsShaped w r o
    → IsShaped w r (record o {
      answers = o.answers ++ a ∷ [];
      register = register;
      answered_doomed = o.answered_doomed || is_some o.doomed;
      on = put o.on (command_at w.runs r (length o.answers)).device.0 (answered (kind_at w.kinds (command_at w.runs r (length o.answers)).device.0) (command_at w.runs r (length o.answers)) (is_some o.doomed) o.register a (o.on (command_at w.runs r (length o.answers)).device.0));
    })
answers w r o a register placed going more done s =
    record {
      known = s.known;
      arrived = s.arrived;
      unanswered = λ e. absurd (grind (arith, common_steps));
      sound = λ e. absurd (grind (arith, common_steps));
      going = λ e. absurd (grind (arith, common_steps));
      clear = λ e. absurd (grind (arith, common_steps));
      commits = s.commits;
      whole = λ e. absurd (open_end o.ended going e);
      aborts = s.aborts;
      answers_late = λ e. grind (arith, common_steps, s.answers_late);
      fits = let longer : length (o.answers ++ a ∷ []) ≡ length o.answers + 1 = length-append o.answers (a ∷ []) in omega (arith, longer, more);
      unguarded = λ all. list_all-append is_access o.answers (a ∷ []) ∙ both (s.unguarded all) (done (unguarded_at (commands_of w.runs r) (length o.answers) all));
      view = viewed;
      wrote = put_all (λ d x. is_some x.wrote ≡ true → is_some x.view ≡ true) o.on c.device.0 new s.wrote (written_seen (kind_at w.kinds c.device.0) c (is_some o.doomed) o.register a (o.on c.device.0) (s.wrote c.device.0));
      found = put_all (λ d x. is_some x.found ≡ true → is_some x.view ≡ true) o.on c.device.0 new s.found (found_seen (kind_at w.kinds c.device.0) c (is_some o.doomed) o.register a (o.on c.device.0) (s.found c.device.0));
      undid = put_all (λ d x. x.undid ≡ true → is_some x.wrote ≡ true) o.on c.device.0 new s.undid (λ e. still_wrote (kind_at w.kinds c.device.0) c (is_some o.doomed) o.register a (o.on c.device.0) (s.undid c.device.0 e));
      undone = put_all (λ d x. x.undid ≡ true → is_some o.doomed ≡ true) o.on c.device.0 new s.undone (s.undone c.device.0);
      late = put_all (λ d x. x.late ≡ true → is_some o.doomed ≡ true) o.on c.device.0 new s.late (λ e. late_doomed (o.on c.device.0).late (is_some o.doomed) (is_access a) (is_none (o.on c.device.0).view) (s.late c.device.0) e);
    }
  where
    c : Command
    c = command_at w.runs r (length o.answers)

    new : OnDevice
    new = answered (kind_at w.kinds c.device.0) c (is_some o.doomed) o.register a (o.on c.device.0)

    open_end : (e : Option End) → is_none e ≡ true → unwrap_or (option_map is_committing e) false ≡ true → ⊥
    open_end None none commit = absurd (cc)
    open_end (Some x) none commit = absurd (cc)

    late_doomed : (old doomed access first : Bool) → (old ≡ true → doomed ≡ true) → (old || (doomed && access && first)) ≡ true → doomed ≡ true
    late_doomed true doomed access first was e = was refl
    late_doomed false true access first was e = refl
    late_doomed false false access first was e = e

    both : list_all is_access o.answers ≡ true → is_access a ≡ true → (list_all is_access o.answers && list_all is_access (a ∷ [])) ≡ true
    both old own = grind (arith, common_steps)

    taken : (d : ℕ) → accessed d (commands_of w.runs r) (o.answers ++ a ∷ []) ≡ (accessed d (commands_of w.runs r) o.answers || ((c.device.0 == d) && is_access a))
    taken d = accessed_more d (commands_of w.runs r) o.answers a more

    viewed : (d : ℕ) → is_some (put o.on c.device.0 new d).view ≡ accessed d (commands_of w.runs r) (o.answers ++ a ∷ [])
    viewed d = elim (d == c.device.0) as (λ b. (d == c.device.0) ≡ b → is_some (if b then new else o.on d).view ≡ accessed d (commands_of w.runs r) (o.answers ++ a ∷ [])) [
      | true ↦ (λ e. let same : d ≡ c.device.0 = grind (arith, common_steps) in
          some_view (o.on c.device.0).view a ∙ ap (λ b. b || is_access a) (ap (λ x. is_some (o.on x).view) (sym same) ∙ s.view d)
          ∙ sym (taken d ∙ here (c.device.0 == d) (grind (arith, common_steps)) (accessed d (commands_of w.runs r) o.answers)))
      | false ↦ (λ e. s.view d ∙ sym (taken d ∙ there (c.device.0 == d) (grind (arith, common_steps)) (accessed d (commands_of w.runs r) o.answers)))
    ] refl
      where
        here : (b : Bool) → b ≡ true → (old : Bool) → (old || (b && is_access a)) ≡ (old || is_access a)
        here true e old = refl
        here false e old = absurd (cc)

        there : (b : Bool) → b ≡ false → (old : Bool) → (old || (b && is_access a)) ≡ old
        there true e old = absurd (cc)
        there false e true = refl
        there false e false = refl

undoes : (w : Setting) (r d : ℕ) (o : OfRun) → is_some o.placed ≡ true → is_some o.doomed ≡ true → is_some (o.on d).wrote ≡ true → IsShaped w r o → IsShaped w r (record o { on = put o.on d (record (o.on d) { undid = true }) })
undoes w r d o placed doomed wrote s =
    record {
      known = s.known;
      arrived = s.arrived;
      unanswered = s.unanswered;
      sound = s.sound;
      going = s.going;
      clear = λ e. absurd (grind (arith, common_steps));
      commits = s.commits;
      whole = s.whole;
      aborts = s.aborts;
      answers_late = s.answers_late;
      fits = s.fits;
      unguarded = s.unguarded;
      view = put_all (λ q x. is_some x.view ≡ accessed q (commands_of w.runs r) o.answers) o.on d new s.view (s.view d);
      wrote = put_all (λ q x. is_some x.wrote ≡ true → is_some x.view ≡ true) o.on d new s.wrote (s.wrote d);
      found = put_all (λ q x. is_some x.found ≡ true → is_some x.view ≡ true) o.on d new s.found (s.found d);
      undid = put_all (λ q x. x.undid ≡ true → is_some x.wrote ≡ true) o.on d new s.undid (λ e. wrote);
      undone = put_all (λ q x. x.undid ≡ true → is_some o.doomed ≡ true) o.on d new s.undone (λ e. doomed);
      late = put_all (λ q x. x.late ≡ true → is_some o.doomed ≡ true) o.on d new s.late (s.late d);
    }
  where
    new : OnDevice
    new = record (o.on d) { undid = true }

is_open_end : (e : Option End) → is_none e ≡ true → unwrap_or (option_map is_committing e) false ≡ true → ⊥
is_open_end None none commit = absurd (cc)
is_open_end (Some x) none commit = absurd (cc)

dooms : (w : Setting) (r : ℕ) (o : OfRun) (cause : Cause) → is_some o.placed ≡ true → is_none o.ended ≡ true → IsShaped w r o → IsShaped w r (record o { doomed = Some cause })
dooms w r o cause placed going s =
    record {
      known = s.known;
      arrived = s.arrived;
      unanswered = s.unanswered;
      sound = λ e. absurd (grind (arith, common_steps));
      going = s.going;
      clear = s.clear;
      commits = λ e. absurd (is_open_end o.ended going e);
      whole = s.whole;
      aborts = λ e. refl;
      answers_late = λ e. refl;
      fits = s.fits;
      unguarded = s.unguarded;
      view = s.view;
      wrote = s.wrote;
      found = s.found;
      undid = s.undid;
      undone = λ d e. refl;
      late = λ d e. refl;
    }

commits_shape : (w : Setting) (r : ℕ) (o : OfRun) → is_some o.placed ≡ true → is_none o.doomed ≡ true → (length o.answers == length (commands_of w.runs r)) ≡ true → IsShaped w r o → IsShaped w r (record o { ended = Some Committed })
commits_shape w r o placed sound all s =
    record {
      known = s.known;
      arrived = s.arrived;
      unanswered = s.unanswered;
      sound = s.sound;
      going = λ e. absurd (grind (arith, common_steps));
      clear = s.clear;
      commits = λ e. none_is o.doomed sound;
      whole = λ e. grind (arith, common_steps);
      aborts = λ e. absurd (cc);
      answers_late = s.answers_late;
      fits = s.fits;
      unguarded = s.unguarded;
      view = s.view;
      wrote = s.wrote;
      found = s.found;
      undid = s.undid;
      undone = s.undone;
      late = s.late;
    }
  where
    none_is : (c : Option Cause) → is_none c ≡ true → c ≡ None
    none_is None none = refl
    none_is (Some x) none = absurd (cc)

aborts_shape : (w : Setting) (r : ℕ) (o : OfRun) (cause : Cause) → is_some o.placed ≡ true → is_some o.doomed ≡ true → IsShaped w r o → IsShaped w r (record o { ended = Some (Aborted cause) })
aborts_shape w r o cause placed doomed s =
    record {
      known = s.known;
      arrived = s.arrived;
      unanswered = s.unanswered;
      sound = s.sound;
      going = λ e. absurd (grind (arith, common_steps));
      clear = s.clear;
      commits = λ e. absurd (cc);
      whole = λ e. absurd (cc);
      aborts = λ e. doomed;
      answers_late = s.answers_late;
      fits = s.fits;
      unguarded = s.unguarded;
      view = s.view;
      wrote = s.wrote;
      found = s.found;
      undid = s.undid;
      undone = s.undone;
      late = s.late;
    }

-- a command with the guard Always is not skipped
pub suited_access : (w : Setting) (n : Reading) (r : ℕ) (c : Command) (a : Answer) → suits w n r c a ≡ true → is_always c.when ≡ true → is_access a ≡ true
suited_access w n r c Fine ok always = refl
suited_access w n r c (Found x) ok always = refl
suited_access w n r c Down ok always = refl
suited_access w n r c Skipped ok always = at c.when always ok
  where
    at : (g : Guard) → is_always g ≡ true → (not (holds g (n.run r).register) && not (is_doomed n r)) ≡ true → is_access Skipped ≡ true
    at Always always ok = absurd (cc)
    at (Is v) always ok = absurd (cc)
    at (Below v) always ok = absurd (cc)

pub shapes_step : (w : Setting) (n : Reading) (e : Entry) → IsTrue (may_follow w n e) → Shaped w n → Shaped w (entry w n e)
shapes_step w n (Arrived r m) ok s = put_all (IsShaped w) n.run r.0 _ s (arrives w r.0 m (n.run r.0) (grind (arith, common_steps)) (s r.0))
shapes_step w n (Placed r at m) ok s = put_all (IsShaped w) n.run r.0 _ s (places w r.0 (n.run r.0) _ _ (grind (arith, common_steps)) (s r.0))
shapes_step w n (Did r c a) ok s =
    put_all (IsShaped w) n.run r.0 _ s
    (let number : c ≡ length (n.run r.0).answers = grind (arith, common_steps) in rw number (answers w r.0 (n.run r.0) a _ (grind (arith, common_steps))
    (grind (arith, common_steps)) (grind (arith, common_steps)) (subst (λ k. is_always (command_at w.runs r.0 k).when ≡ true → is_access a ≡ true) number
    (suited_access w n r.0 (command_at w.runs r.0 c) a (grind (arith, common_steps)))) (s r.0)))
shapes_step w n (Undid r d drove) ok s = put_all (IsShaped w) n.run r.0 _ s (undoes w r.0 d.0 (n.run r.0) (grind (arith, common_steps)) (grind (arith, common_steps)) (grind (arith, common_steps)) (s r.0))
shapes_step w n (Fell d) ok s = s
shapes_step w n (Rose d) ok s = s
shapes_step w n (Doomed r cause) ok s = put_all (IsShaped w) n.run r.0 _ s (dooms w r.0 (n.run r.0) cause (grind (arith, common_steps)) (grind (arith, common_steps)) (s r.0))
shapes_step w n (Ended r Committed) ok s = put_all (IsShaped w) n.run r.0 _ s (commits_shape w r.0 (n.run r.0) (grind (arith, common_steps)) (grind (arith, common_steps)) (grind (arith, common_steps)) (s r.0))
shapes_step w n (Ended r (Aborted cause)) ok s = put_all (IsShaped w) n.run r.0 _ s (aborts_shape w r.0 (n.run r.0) cause (grind (arith, common_steps)) (caused (n.run r.0).doomed (grind (arith, common_steps))) (s r.0))
  where
    caused : (c : Option Cause) → unwrap_or (option_map (same_cause cause) c) false ≡ true → is_some c ≡ true
    caused None same = absurd (cc)
    caused (Some x) same = refl

shapes_from : (w : Setting) (n : Reading) (h : List Entry) → Shaped w n → IsTrue (along w (may_follow w) n h) → Shaped w (fold (entry w) n h)
shapes_from w n [] s ok = s
shapes_from w n (e ∷ h) s ok = shapes_from w (entry w n e) h (shapes_step w n e (grind (arith, common_steps)) s) (grind (arith, common_steps))

-- each run of a well-formed history has this shape
pub shapes : (w : Setting) (h : List Entry) → IsWellFormed w h → Shaped w (reading w h)
shapes w h ok = shapes_from w (nothing_read w) h (unread_shape w) ok

-- What follows

-- a run has accesses on its own devices alone
pub did_touches : (w : Setting) (n : Reading) (r d : ℕ) → Shaped w n → did n r d ≡ true → touches w.runs r d ≡ true
did_touches w n r d s done = accessed_touches d (commands_of w.runs r) (n.run r).answers (sym ((s r).view d) ∙ done)

-- a run without guards whose commands on a device are all answered has an access there
pub answered_did : (w : Setting) (n : Reading) (r d : ℕ) → Shaped w n → is_unguarded (commands_of w.runs r) ≡ true → touches w.runs r d ≡ true → pends w n r d ≡ false → did n r d ≡ true
answered_did w n r d s plain on none = (s r).view d ∙ accessed_all d (commands_of w.runs r) (n.run r).answers ((s r).unguarded plain) ∙ any_left (is_on d) (length (n.run r).answers) (commands_of w.runs r) on none

-- a run that has a command left on a device, or an access there, has not passed it
pub pending_not_passed : (w : Setting) (n : Reading) (r d : ℕ) → pends w n r d ≡ true → passed_by w n r d ≡ false
pending_not_passed w n r d e = grind (arith, common_steps)

pub did_not_passed : (w : Setting) (n : Reading) (r d : ℕ) → did n r d ≡ true → passed_by w n r d ≡ false
did_not_passed w n r d e = grind (arith, common_steps)

-- a run without guards passes none
pub never_passed_by : (w : Setting) (n : Reading) (r d : ℕ) → Shaped w n → is_unguarded (commands_of w.runs r) ≡ true → passed_by w n r d ≡ false
never_passed_by w n r d s plain = elim (touches w.runs r d) as (λ b. touches w.runs r d ≡ b → (b && not (pends w n r d) && not (did n r d)) ≡ false) [
  | true ↦ (λ on. elim (pends w n r d) as (λ b. pends w n r d ≡ b → (not b && not (did n r d)) ≡ false) [
    | true ↦ (λ e. refl)
    | false ↦ (λ none. ap not (answered_did w n r d s plain on none))
  ] refl)
  | false ↦ (λ e. refl)
] refl
