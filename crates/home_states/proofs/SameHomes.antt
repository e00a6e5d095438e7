-- The calls that are made on homes that are the same for all who call them.
use Rattle.home_states.proofs.Prelude.{Absent, AreFrom, BeginsAs, Between, Configuration, DidNothing, Entry, FitsScript, Go, Gripped, HandedDevice, HasAddedRun, HasAnswered, HasBegunAt, HasClosed, HasJoined, HasLost, HasOpened, HasRestood, HasSentProbe, HasStepped, HasTakenRun, HasWaited, HomeState, IfSome, InWindow, IsBetweenIn, IsFrom, IsLive, IsProbed, IsRebuilt, IsTurn, List, LiveState, Mode, Moved, Moving, None, OpenHub, Option, Over, Phase, Ready, Run, RunNo, SameBetween, SameFrom, SameHome, SamePhase, SameWindowOf, SlipAndTask, Some, Stand, StepsInOrder, StoodInOrder, Taken, Told, TookInOrder, Turn, Wait, WasMade, WereMade, When, [], ap, ap₂, arith, at_moment, closed_as, configuration_of, false, hub_of, inl, inr, kinds_of, lent_by, max, new_run, numbered, numbered_call, numbered_turn, option_map, plain_script, refl, run_of_text, slice_set, subst, subst₂, sym, taken_of, true, ℕ, ◌+◌, ◌∙◌, ◌∷◌, ◌≡◌, ◌≤◌}
use Rattle.hub_core.specs.Joins.{joined, joined_to}
use Rattle.home_states.proofs.SameAnswers.{same_back, same_probe}
use Rattle.home_states.proofs.SameClosings.{same_closed, same_opened}
use Rattle.home_states.proofs.SameScripts.{same_added, same_begun, same_kinds, same_run, same_start, some_same}
use Rattle.home_states.proofs.SameSteps.{later_same, same_turn}
use Rattle.home_types.specs.HomeStates.{with_up}
use Rattle.logged_calls.specs.declared.calls.Logged.TheVariants.{Added, Began, Closed, Gave, Lost, Opened, Probed, Restood, Took}
use Rattle.logged_calls.specs.declared.calls.Logged.{Logged}

both_are : (from : ℕ) (s t u v : LiveState) → u ≡ s → v ≡ t → SameFrom from s t → SameFrom from u v
both_are from s t u v is same home = subst₂ (λ x y. SameFrom from x y) (sym is) (sym same) home

same_phase : (from : ℕ) (p q x y : Phase) → p ≡ x → q ≡ y → SamePhase from p q → SamePhase from x y
same_phase from p q x y is same home = subst₂ (λ a b. SamePhase from a b) is same home

begun : (from : ℕ) (s t u v : LiveState) (at : When) (probes k n : ℕ) → SameFrom from s t → HasBegunAt s at probes k u → HasBegunAt t at probes n v → SameFrom from u v
begun from s t u v at probes k n same one two =
    both_are from (record s { script = one.script; is_draft = true; closed = None }) (record t { script = two.script; is_draft = true; closed = None }) u v one.is two.is (record {
      script = same_begun s.script t.script one.script two.script at probes k n one.begun two.begun same.script;
      mode = same.mode;
      phase = same.phase;
      tickets = same.tickets;
      draft = refl;
      closed = refl;
    })

added : (from : ℕ) (s t u v : LiveState) (routine : ℕ) (follows : Option RunNo) (r q : ℕ) → SameFrom from s t → HasAddedRun s routine follows r u → HasAddedRun t routine follows q v → SameFrom from u v
added from s t u v routine follows r q same one two =
    both_are from (record s { script = one.script }) (record t { script = two.script }) u v one.is two.is (record {
      script = same_added s.script t.script one.script two.script routine follows r q one.added two.added same.script;
      mode = same.mode;
      phase = same.phase;
      tickets = same.tickets;
      draft = same.draft;
      closed = same.closed;
    })

-- both windows have one run more, the same
joined_same : (from : ℕ) (hub other : OpenHub HandedDevice) (q p : Run) → SameWindowOf from hub other → q ≡ p → SameWindowOf from (joined hub q) (joined other p)
joined_same from hub other q p same run = record {
  configuration = ap₂ (λ (c : Configuration) (x : Run). joined_to c x) same.configuration run;
  opened = same.opened;
  tickets = same.tickets;
  out = same.out;
}

joins : (from : ℕ) (s t u v : LiveState) (routine : ℕ) (follows : Option RunNo) (r q : ℕ) → SameFrom from s t → HasJoined s routine follows r u → HasJoined t routine follows q v → SameFrom from u v
joins from s t u v routine follows r q same a b =
    let in_window = same_phase from s.phase t.phase (InWindow a.number a.hub) (InWindow b.number b.hub) a.was b.was same.phase in
    let run = same_run s.script t.script (new_run routine follows) same.script in
    let window : SameWindowOf from a.next b.next =
    subst₂ (λ (x y : OpenHub HandedDevice). SameWindowOf from x y) (sym a.both.is) (sym b.both.is)
    (joined_same from a.hub b.hub (run_of_text s.script (new_run routine follows)) (run_of_text t.script (new_run routine follows)) in_window.1 run) in
    both_are from (record s { script = a.script; phase = InWindow a.number a.next }) (record t { script = b.script; phase = InWindow b.number b.next }) u v a.is b.is (record {
      script = same_added s.script t.script a.script b.script routine follows r q a.both.added b.both.added same.script;
      mode = same.mode;
      phase = (in_window.0, window);
      tickets = same.tickets;
      draft = same.draft;
      closed = same.closed;
    })

-- one is not between two windows while the other is in one
apart : (from : ℕ) (p : Phase) (n : ℕ) (hub : OpenHub HandedDevice) → IsBetweenIn p → SamePhase from p (InWindow n hub) → ⊥
apart from (Between home) n hub between same = same
apart from (InWindow k other) n hub between same = between
apart from Moving n hub between same = between

apart_too : (from : ℕ) (p : Phase) (n : ℕ) (hub : OpenHub HandedDevice) → IsBetweenIn p → SamePhase from (InWindow n hub) p → ⊥
apart_too from (Between home) n hub between same = same
apart_too from (InWindow k other) n hub between same = between
apart_too from Moving n hub between same = between

taken_run : (from : ℕ) (s t u v : LiveState) (routine : ℕ) (follows : Option RunNo) (r q : ℕ) → SameFrom from s t → HasTakenRun s routine follows r u → HasTakenRun t routine follows q v → SameFrom from u v
taken_run from s t u v routine follows r q same (inl one) (inl two) = added from s t u v routine follows r q same one two
taken_run from s t u v routine follows r q same (inl one) (inr two) =
    absurd (apart from s.phase two.number two.hub one.between (subst (λ p. SamePhase from s.phase p) two.was same.phase))
taken_run from s t u v routine follows r q same (inr one) (inl two) =
    absurd (apart_too from t.phase one.number one.hub two.between (subst (λ p. SamePhase from p t.phase) one.was same.phase))
taken_run from s t u v routine follows r q same (inr one) (inr two) = joins from s t u v routine follows r q same one two

-- the window that is open goes from on, in both homes
goes : (from : ℕ) (s t : LiveState) (k n : ℕ) (hub other next after : OpenHub HandedDevice) → SameFrom from s t → k ≡ n → SameWindowOf from next after
    → SameFrom from (record s { phase = InWindow k next }) (record t { phase = InWindow n after })
goes from s t k n hub other next after same number window = record {
  script = same.script;
  mode = same.mode;
  phase = (number, window);
  tickets = same.tickets;
  draft = same.draft;
  closed = same.closed;
}

opened : (from : ℕ) (s t u v : LiveState) (k : ℕ) → SameFrom from s t → HasOpened s k u → HasOpened t k v → SameFrom from u v
opened from s t u v k same one two =
    let between : SameBetween one.home two.home = same_phase from s.phase t.phase (Between one.home) (Between two.home) one.was two.was same.phase in
    both_are from (record s { phase = InWindow k one.hub; is_draft = false; closed = None }) (record t { phase = InWindow k two.hub; is_draft = false; closed = None }) u v one.is two.is (record {
      script = same.script;
      mode = same.mode;
      phase = (refl, same_opened from s.script t.script s.mode t.mode k one.home two.home one.hub two.hub same.script same.mode between one.opened two.opened);
      tickets = same.tickets;
      draft = refl;
      closed = refl;
    })

-- what is said of a call that went out, over the hub in which it went out
stood_turn : (before : ℕ) (hub : OpenHub HandedDevice) (turn : Turn HandedDevice) → TookInOrder hub (numbered_turn before (taken_of turn)) → TookInOrder hub (taken_of turn)
stood_turn before hub (Go grip) stood = stood
stood_turn before hub (Moved made) stood = tt
stood_turn before hub (Wait why) stood = tt
stood_turn before hub (Over end made) stood = tt
stood_turn before hub Absent stood = tt

stood_in : (s : LiveState) (k : ℕ) (hub : OpenHub HandedDevice) (taken : Taken) (turn : Turn HandedDevice) → s.phase ≡ InWindow k hub → taken ≡ numbered_turn s.tickets_before (taken_of turn)
    → StepsInOrder s taken → TookInOrder hub (taken_of turn)
stood_in s k hub taken turn was told stood =
    stood_turn s.tickets_before hub turn (subst₂ (λ (o : Option (OpenHub HandedDevice)) (x : Taken). IfSome o (λ h. TookInOrder h x)) (ap (λ p. hub_of p) was) told stood)

stepped : (from : ℕ) (s t u v : LiveState) (r m : ℕ) → SameFrom from s t → from ≤ m → HasStepped s r m u → HasStepped t r m v → SameFrom from u v
stepped from s t u v r m same upto one two =
    let a = one.made in
    let b = two.made in
    let in_window = same_phase from s.phase t.phase (InWindow a.goes.number a.hub) (InWindow b.goes.number b.hub) a.goes.was b.goes.was same.phase in
    both_are from (record s { phase = InWindow a.goes.number a.next }) (record t { phase = InWindow b.goes.number b.next }) u v a.goes.is b.goes.is
    (goes from s t a.goes.number b.goes.number a.hub b.hub a.next b.next same in_window.0
    (same_turn from a.hub b.hub a.next b.next r m a.turn b.turn in_window.1 upto
    a.step (stood_in s a.goes.number a.hub one.taken a.turn a.goes.was a.told one.stood)
    b.step (stood_in t b.goes.number b.hub two.taken b.turn b.goes.was b.told two.stood)
    a.goes.window.opened b.goes.window.opened))

answered : (from : ℕ) (s t u v : LiveState) (d ticket : ℕ) (told : Told) (m : ℕ) (made more : List Entry) → SameFrom from s t → from ≤ m → HasAnswered s d ticket told m made u → HasAnswered t d ticket told m more v → SameFrom from u v
answered from s t u v d ticket told m made more same upto a b =
    let in_window = same_phase from s.phase t.phase (InWindow a.goes.number a.hub) (InWindow b.goes.number b.hub) a.goes.was b.goes.was same.phase in
    both_are from (record s { phase = InWindow a.goes.number a.next }) (record t { phase = InWindow b.goes.number b.next }) u v a.goes.is b.goes.is
    (goes from s t a.goes.number b.goes.number a.hub b.hub a.next b.next same in_window.0
    (same_back from a.hub b.hub a.next b.next d a.in_window b.in_window told m made more in_window.1 upto a.answered b.answered a.goes.window.opened b.goes.window.opened))

-- the grip of a probe that went out
record WentOut (hub next : OpenHub HandedDevice) (d : ℕ) : Type 0 where
  grip : Gripped HandedDevice Ready
  sent : IsProbed hub d (Some grip) next
  stood : StoodInOrder hub grip.slip grip.task

went : (before d : ℕ) (hub next : OpenHub HandedDevice) (grip : Option (Gripped HandedDevice Ready)) (out : SlipAndTask) → Some out ≡ numbered_call before (lent_by grip)
    → IsProbed hub d grip next → StoodInOrder hub out.0 out.1 → WentOut hub next d
went before d hub next None out told sent stood = absurd (cc)
went before d hub next (Some grip) out told sent stood =
    record { grip = grip; sent = sent; stood = subst (λ (o : SlipAndTask). StoodInOrder hub o.0 o.1) (some_same out (numbered before grip.slip, grip.task) told) stood }

probed : (from : ℕ) (s t u v : LiveState) (d : ℕ) → SameFrom from s t → HasSentProbe s d u → HasSentProbe t d v → SameFrom from u v
probed from s t u v d same one two =
    let a = one.made in
    let b = two.made in
    let in_window = same_phase from s.phase t.phase (InWindow a.goes.number a.hub) (InWindow b.goes.number b.hub) a.goes.was b.goes.was same.phase in
    let x = went s.tickets_before d a.hub a.next a.grip one.out a.told a.step (subst (λ o. IfSome o (λ h. StoodInOrder h one.out.0 one.out.1)) (ap (λ p. hub_of p) a.goes.was) one.stood) in
    let y = went t.tickets_before d b.hub b.next b.grip two.out b.told b.step (subst (λ o. IfSome o (λ h. StoodInOrder h two.out.0 two.out.1)) (ap (λ p. hub_of p) b.goes.was) two.stood) in
    both_are from (record s { phase = InWindow a.goes.number a.next }) (record t { phase = InWindow b.goes.number b.next }) u v a.goes.is b.goes.is
    (goes from s t a.goes.number b.goes.number a.hub b.hub a.next b.next same in_window.0
    (same_probe from a.hub b.hub a.next b.next d x.grip y.grip in_window.1 x.sent x.stood y.sent y.stood a.goes.window.opened b.goes.window.opened))

shut : (from : ℕ) (s t u v : LiveState) → SameFrom from s t → HasClosed s u → HasClosed t v → SameFrom from u v
shut from s t u v same a b =
    let in_window = same_phase from s.phase t.phase (InWindow a.number a.hub) (InWindow b.number b.hub) a.was b.was same.phase in
    let left = same_closed from a.hub b.hub a.home b.home a.closed b.closed in_window.1 a.is_closed b.is_closed in
    both_are from
    (record s { phase = Between a.home; tickets_before = s.tickets_before + a.hub.tickets; closed = Some (record { number = a.number; closed = a.closed }) })
    (record t { phase = Between b.home; tickets_before = t.tickets_before + b.hub.tickets; closed = Some (record { number = b.number; closed = b.closed }) })
    u v a.is b.is (record {
      script = same.script;
      mode = same.mode;
      phase = left.between;
      tickets = ap₂ (λ (n : ℕ) (m : ℕ). n + m) same.tickets in_window.1.tickets;
      draft = same.draft;
      closed = λ i. Some (record { number = in_window.0 i; history = left.history i; order = left.ends.order i; last = left.ends.last i });
    })

moved : (from : ℕ) (s t : LiveState) (home other : HomeState HandedDevice) → SameFrom from s t → SameBetween home other
    → SameFrom from (record s { phase = Between home }) (record t { phase = Between other })
moved from s t home other same between = record {
  script = same.script;
  mode = same.mode;
  phase = between;
  tickets = same.tickets;
  draft = same.draft;
  closed = same.closed;
}

found : (from : ℕ) (s t u v : LiveState) (d value : ℕ) → SameFrom from s t → HasRestood s d value u → HasRestood t d value v → SameFrom from u v
found from s t u v d value same a b =
    let between : SameBetween a.home b.home = same_phase from s.phase t.phase (Between a.home) (Between b.home) a.was b.was same.phase in
    both_are from (record s { phase = Between a.after }) (record t { phase = Between b.after }) u v a.is b.is
    (moved from s t a.after b.after same
    (subst₂ (λ x y. SameBetween x y) (sym a.restood_so.is) (sym b.restood_so.is)
    (record { kinds = between.kinds; world = ap (λ (l : List Stand). slice_set l d (record { value = value; up = true })) between.world; opened = between.opened })))

went_down : (from : ℕ) (s t u v : LiveState) (d : ℕ) → SameFrom from s t → HasLost s d u → HasLost t d v → SameFrom from u v
went_down from s t u v d same a b =
    let between : SameBetween a.home b.home = same_phase from s.phase t.phase (Between a.home) (Between b.home) a.was b.was same.phase in
    both_are from (record s { phase = Between a.after }) (record t { phase = Between b.after }) u v a.is b.is
    (moved from s t a.after b.after same
    (subst₂ (λ x y. SameBetween x y) (sym a.lost_so.is) (sym b.lost_so.is)
    (record { kinds = between.kinds; world = ap (λ (l : List Stand). with_up l d false) between.world; opened = between.opened })))

-- a call that is made on homes that are the same
same_call : (from : ℕ) (s t u v : LiveState) (call : Logged) → SameFrom from s t → IsFrom from call → WasMade s call u → WasMade t call v → SameFrom from u v
same_call from s t u v (Began at rounds) same upto one two = begun from s t u v at rounds one.0 two.0 same one.1 two.1
same_call from s t u v (Added routine follows) same upto one two = taken_run from s t u v routine follows one.0 two.0 same one.1 two.1
same_call from s t u v (Opened number) same upto one two = opened from s t u v number same one two
same_call from s t u v (Took run moment) same upto one two = stepped from s t u v run.0 moment same upto one two
same_call from s t u v (Gave device ticket told moment) same upto one two = answered from s t u v device.0 ticket told moment one.0 two.0 same upto one.1 two.1
same_call from s t u v (Probed device) same upto one two = probed from s t u v device.0 same one two
same_call from s t u v Closed same upto one two = shut from s t u v same one two
same_call from s t u v (Restood device value) same upto one two = found from s t u v device.0 value same one two
same_call from s t u v (Lost device) same upto one two = went_down from s t u v device.0 same one two

-- .. and calls, one after the other
pub same_calls : (from : ℕ) (s t u v : LiveState) (calls : List Logged) → SameFrom from s t → AreFrom from calls → WereMade s calls u → WereMade t calls v → SameFrom from u v
same_calls from s t u v [] same upto one two = both_are from s t u v one two same
same_calls from s t u v (call ∷ calls) same upto one two =
    same_calls from one.0 two.0 u v calls (same_call from s t one.0 two.0 call same upto.0 one.1 two.1) upto.1 one.2 two.2

-- a home is the same as itself
pub same_self : (from : ℕ) (s : LiveState) → IsLive s → SameFrom from s s
same_self from s live = record {
  script = refl;
  mode = refl;
  phase = by_phase s.phase live.fits;
  tickets = refl;
  draft = refl;
  closed = refl;
}
  where
    by_phase : (p : Phase) → FitsScript s.script s.mode p → SamePhase from p p
    by_phase (Between home) fits = record { kinds = refl; world = refl; opened = refl }
    by_phase (InWindow k hub) fits = (refl, record { configuration = refl; opened = refl; tickets = refl; out = λ d. refl })
    by_phase Moving fits = fits

-- a script is opened as the same home
same_first : (bytes : List ℕ) (mode : Mode) (s t : LiveState) → BeginsAs bytes mode s → IsLive s → BeginsAs bytes mode t → IsLive t → SameHome s t
same_first bytes mode s t one live two alive =
    let script : plain_script s.script ≡ plain_script t.script = (let a = one.reading in let b = two.reading in cc) in
    let kinds : one.home.kinds ≡ kinds_of s.script = subst (λ p. FitsScript s.script s.mode p) one.phase live.fits in
    let kinds' : two.home.kinds ≡ kinds_of t.script = subst (λ p. FitsScript t.script t.mode p) two.phase alive.fits in
    record {
      script = script;
      mode = one.mode_is ∙ sym two.mode_is;
      phase = same_phase 0 (Between one.home) (Between two.home) s.phase t.phase (sym one.phase) (sym two.phase) (record {
        kinds = kinds ∙ same_kinds s.script t.script script ∙ sym kinds';
        world = one.world ∙ same_start s.script t.script script ∙ sym two.world;
        opened = one.opened ∙ sym two.opened;
      });
      tickets = one.tickets ∙ sym two.tickets;
      draft = one.draft ∙ sym two.draft;
      closed = ap (λ o. option_map closed_as o) (one.closed ∙ sym two.closed);
    }

-- each moment is the first one, or a later one
pub from_first : (calls : List Logged) → AreFrom 0 calls
from_first [] = tt
from_first (call ∷ calls) = (by_call call, from_first calls)
  where
    by_call : (x : Logged) → IsFrom 0 x
    by_call (Began at rounds) = tt
    by_call (Added routine follows) = tt
    by_call (Opened number) = tt
    by_call (Took run moment) = omega arith
    by_call (Gave device ticket told moment) = omega arith
    by_call (Probed device) = tt
    by_call Closed = tt
    by_call (Restood device value) = tt
    by_call (Lost device) = tt

pub one_home : (bytes : List ℕ) (mode : Mode) (calls : List Logged) (s t : LiveState) → IsRebuilt bytes mode calls s → IsRebuilt bytes mode calls t → SameHome s t
one_home bytes mode calls s t one two =
    same_calls 0 one.first two.first s t calls (same_first bytes mode one.first two.first one.begins one.live two.begins two.live) (from_first calls) one.made two.made

-- A step that waits

-- .. leaves the window as it was, but for its last moment
nothing_done : (before r m : ℕ) (hub next : OpenHub HandedDevice) (turn : Turn HandedDevice) → IsTurn hub r m turn next → DidNothing (numbered_turn before (taken_of turn))
    → next ≡ record hub { moment = max hub.moment m }
nothing_done before r m hub next (Go grip) step nothing = absurd nothing
nothing_done before r m hub next (Moved made) step nothing = absurd nothing
nothing_done before r m hub next (Wait why) step nothing = step.1
nothing_done before r m hub next (Over end made) step nothing = absurd nothing
nothing_done before r m hub next Absent step nothing = step.1

-- a window with a moment that is no later than this one, and a later one that is not either
still_same : (from m : ℕ) (hub other : OpenHub HandedDevice) → SameWindowOf from hub other → from ≤ m → SameWindowOf m (record hub { moment = max hub.moment m }) other
still_same from m hub other same upto = record {
  configuration =
      ap (λ (x : ℕ). record (configuration_of hub) { moment = x }) (later_moment hub.moment from m upto)
      ∙ ap (λ c. at_moment c m) same.configuration
      ∙ sym (ap (λ (x : ℕ). record (configuration_of other) { moment = x }) (later_same other.moment from m upto));
  opened = same.opened;
  tickets = same.tickets;
  out = same.out;
}
  where
    later_moment : (a b n : ℕ) → b ≤ n → max (max a n) n ≡ max (max a b) n
    later_moment a b n low = omega (arith, low)

-- from the moment of the step on the home is the same as one that has not made it
pub same_waited : (from : ℕ) (s t u : LiveState) (r m : ℕ) → SameFrom from s t → from ≤ m → HasWaited s r m u → SameFrom m u t
same_waited from s t u r m same upto waited =
    let a = waited.made in
    let next : a.next ≡ record a.hub { moment = max a.hub.moment m } =
    nothing_done s.tickets_before r m a.hub a.next a.turn a.step (subst (λ x. DidNothing x) a.told waited.nothing) in
    let is : u ≡ record s { phase = InWindow a.goes.number (record a.hub { moment = max a.hub.moment m }) } =
    a.goes.is ∙ ap (λ (h : OpenHub HandedDevice). record s { phase = InWindow a.goes.number h }) next in
    subst (λ x. SameFrom m x t) (sym is) (record {
      script = same.script;
      mode = same.mode;
      phase = by_phase t.phase (subst (λ p. SamePhase from p t.phase) a.goes.was same.phase);
      tickets = same.tickets;
      draft = same.draft;
      closed = same.closed;
    })
  where
    by_phase : (p : Phase) → SamePhase from (InWindow waited.made.goes.number waited.made.hub) p
        → SamePhase m (InWindow waited.made.goes.number (record waited.made.hub { moment = max waited.made.hub.moment m })) p
    by_phase (Between home) is = is
    by_phase (InWindow n other) is = (is.0, still_same from m waited.made.hub other is.1 upto)
    by_phase Moving is = is
