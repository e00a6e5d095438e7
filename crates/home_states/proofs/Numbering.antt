-- The numbers of device calls go on from step to step.
use Rattle.home_states.proofs.Prelude.{Absent, Between, CallsAreFew, Done, Entry, FitsScript, Go, Gripped, HandedDevice, HasComeBack, Home, HomeState, IfSome, InWindow, IsBack, IsCounted, IsLive, IsOpenedOn, IsProbed, IsTurn, IsWindowOf, List, LiveState, Moved, None, OpenHub, Option, Out, Over, Place, Ready, SameWindow, Setting, Slip, SlipAndTask, Some, Taken, Task, TicketsAreGiven, TicketsAreLow, Told, Turn, Wait, WindowTickets, [], ap, arith, call_told, configuration_of, count_after, false, inl, inr, length, length-set, lent_by, number_in, slice_get, slice_get_within, slice_set, subst, suc, sym, taken_of, tickets_given, tickets_in, zero, ℕ, ◌*◌, ◌+◌, ◌<◌, ◌^◌, ◌∙◌, ◌∷◌, ◌≡◌, ◌≤◌, ◌⊎◌}
use Rattle.home_states.proofs.Counting.{back_counted, probe_counted, turn_counted}

-- Tickets of the calls that are out

set_get : {A : Type 0} (xs : List A) (i j : ℕ) (y x : A) → slice_get (slice_set xs i y) j ≡ Some x → (y ≡ x) ⊎ (slice_get xs j ≡ Some x)
set_get [] i j y x at = inr at
set_get (z ∷ xs) zero zero y x at = let same : y ≡ x = cc in inl same
set_get (z ∷ xs) zero (suc j) y x at = inr at
set_get (z ∷ xs) (suc i) zero y x at = inr at
set_get (z ∷ xs) (suc i) (suc j) y x at = set_get xs i j y x at

same_out : (a b : Slip) (v w : Task) → ◌≡◌ {A = Place HandedDevice} (Out a v) (Out b w) → a ≡ b
same_out a b v w same = cc

not_home : (device : HandedDevice) (slip : Slip) (task : Task) → ◌≡◌ {A = Place HandedDevice} (Home device) (Out slip task) → ⊥
not_home device slip task same = absurd (cc)

same_given : (places after : List (Place HandedDevice)) (tickets now : ℕ) → TicketsAreGiven places tickets → after ≡ places → now ≡ tickets → TicketsAreGiven after now
same_given places after tickets now given same count = subst (λ p. TicketsAreGiven p now) (sym same) (subst (λ n. TicketsAreGiven places n) (sym count) given)

out_given : (places after : List (Place HandedDevice)) (tickets now d : ℕ) (slip : Slip) (task : Task) → TicketsAreGiven places tickets → after ≡ slice_set places d (Out slip task) → slip.ticket ≡ tickets + 1 → now ≡ tickets + 1 → TicketsAreGiven after now
out_given places after tickets now d slip task given put ticket count e other does at =
    elim (set_get places d e (Out slip task) (Out other does) (ap (λ l. slice_get l e) (sym put) ∙ at)) [
      | inl same ↦ (let own = ap (λ (x : Slip). x.ticket) (same_out slip other task does same) in (omega (arith, own, ticket, count), omega (arith, own, ticket, count)))
      | inr old ↦ (let was = given e other does old in (was.0, omega (arith, was.1, count)))
    ]

home_given : (places after : List (Place HandedDevice)) (tickets now d : ℕ) (device : HandedDevice) → TicketsAreGiven places tickets → after ≡ slice_set places d (Home device) → now ≡ tickets → TicketsAreGiven after now
home_given places after tickets now d device given put count e other does at =
    elim (set_get places d e (Home device) (Out other does) (ap (λ l. slice_get l e) (sym put) ∙ at)) [
      | inl same ↦ absurd (not_home device other does same)
      | inr old ↦ (let was = given e other does old in (was.0, omega (arith, was.1, count)))
    ]

same_size : (places after : List (Place HandedDevice)) (d : ℕ) (place : Place HandedDevice) → after ≡ slice_set places d place → length after ≡ length places
same_size places after d place put = ap (λ l. length l) put ∙ length-set places d place

-- Windows

window_on : (before : ℕ) (hub next : OpenHub HandedDevice) → WindowTickets before hub → SameWindow hub next → length next.places ≡ length hub.places → CallsAreFew (configuration_of next) next.tickets → TicketsAreGiven next.places next.tickets → WindowTickets before next
window_on before hub next was window size few given = record {
  before_low = omega (arith, was.before_low, window.opened);
  few_windows = omega (arith, was.few_windows, window.opened);
  size = (let first = ap (λ (w : Setting). length w.first) window.setting in omega (arith, was.size, size, first));
  few_calls = few;
  given = given;
}

turn_on : (before : ℕ) (hub next : OpenHub HandedDevice) (r m : ℕ) (turn : Turn HandedDevice) → WindowTickets before hub → IsTurn hub r m turn next → SameWindow hub next → WindowTickets before next
turn_on before hub next r m (Go grip) was step window =
    window_on before hub next was window (same_size hub.places next.places grip.slip.device.0 (Out grip.slip grip.task) step.places) (turn_counted hub next r m (Go grip) was.size step was.few_calls)
    (out_given hub.places next.places hub.tickets next.tickets grip.slip.device.0 grip.slip grip.task was.given step.places step.next.ticket step.next.tickets)
turn_on before hub next r m (Moved made) was step window =
    window_on before hub next was window (ap (λ l. length l) step.places) (turn_counted hub next r m (Moved made) was.size step was.few_calls) (same_given hub.places next.places hub.tickets next.tickets was.given step.places step.tickets)
turn_on before hub next r m (Wait why) was step window =
    window_on before hub next was window (ap (λ l. length l) step.0.places) (turn_counted hub next r m (Wait why) was.size step was.few_calls) (same_given hub.places next.places hub.tickets next.tickets was.given step.0.places step.0.tickets)
turn_on before hub next r m (Over end made) was step window =
    window_on before hub next was window (ap (λ l. length l) step.places) (turn_counted hub next r m (Over end made) was.size step was.few_calls) (same_given hub.places next.places hub.tickets next.tickets was.given step.places step.tickets)
turn_on before hub next r m Absent was step window =
    window_on before hub next was window (ap (λ l. length l) step.0.places) (turn_counted hub next r m Absent was.size step was.few_calls) (same_given hub.places next.places hub.tickets next.tickets was.given step.0.places step.0.tickets)

probe_on : (before : ℕ) (hub next : OpenHub HandedDevice) (d : ℕ) (grip : Option (Gripped HandedDevice Ready)) → WindowTickets before hub → IsProbed hub d grip next → SameWindow hub next → WindowTickets before next
probe_on before hub next d (Some grip) was step window =
    window_on before hub next was window (same_size hub.places next.places d (Out grip.slip grip.task) step.2) (probe_counted hub next d (Some grip) step was.few_calls)
    (out_given hub.places next.places hub.tickets next.tickets d grip.slip grip.task was.given step.2 step.3.ticket step.3.tickets)
probe_on before hub next d None was step window = subst (λ (x : OpenHub HandedDevice). WindowTickets before x) (sym step.1) was

back_on : (before : ℕ) (hub next : OpenHub HandedDevice) (done : Gripped HandedDevice Done) (m : ℕ) (made : List Entry) → WindowTickets before hub → IsBack hub done m made next → SameWindow hub next → WindowTickets before next
back_on before hub next done m made was back window =
    let home : next.places ≡ slice_set hub.places done.slip.device.0 (Home done.device) = elim back [ inl given ↦ given.1 | inr given ↦ given.1 ] in
    let count : next.tickets ≡ hub.tickets = elim back [ inl given ↦ given.2 | inr given ↦ given.2 ] in
    window_on before hub next was window (same_size hub.places next.places done.slip.device.0 (Home done.device) home) (back_counted hub next done m made was.size back was.few_calls)
    (home_given hub.places next.places hub.tickets next.tickets done.slip.device.0 done.device was.given home count)

-- Live homes

-- what is kept of the window in which a live home is
pub window_of : (s : LiveState) (k : ℕ) (hub : OpenHub HandedDevice) → IsLive s → s.phase ≡ InWindow k hub → WindowTickets s.tickets_before hub
window_of s k hub live is = subst (λ p. TicketsAreLow s.tickets_before p) is live.tickets

live_on : (s : LiveState) (k : ℕ) (hub next : OpenHub HandedDevice) → IsLive s → s.phase ≡ InWindow k hub → SameWindow hub next → WindowTickets s.tickets_before next → IsLive (record s { phase = InWindow k next })
live_on s k hub next live is window tickets = record {
  sound = live.sound;
  goes = live.goes;
  fits = subst (λ (w : Setting). IsWindowOf s.script s.mode k w) (sym window.setting) (subst (λ p. FitsScript s.script s.mode p) is live.fits);
  told = subst (λ p. IfSome (number_in p s.closed) (λ n. n < length s.script.windows.items)) is live.told;
  tickets = tickets;
}

given_in : (s : LiveState) (k : ℕ) (hub : OpenHub HandedDevice) → s.phase ≡ InWindow k hub → tickets_given s ≡ s.tickets_before + hub.tickets
given_in s k hub is = ap (λ p. s.tickets_before + tickets_in p) is

-- a call that goes out, or none: how many were handed out then, and now
abbrev IsNext : ℕ → ℕ → Option SlipAndTask → Type 0
IsNext was now None = now ≡ was
IsNext was now (Some out) = (out.0.ticket ≡ was + 1) × (now ≡ was + 1)

turn_next : (hub next : OpenHub HandedDevice) (r m : ℕ) (turn : Turn HandedDevice) → IsTurn hub r m turn next → IsNext hub.tickets next.tickets (call_told (taken_of turn))
turn_next hub next r m (Go grip) step = (step.next.ticket, step.next.tickets)
turn_next hub next r m (Moved made) step = step.tickets
turn_next hub next r m (Wait why) step = step.0.tickets
turn_next hub next r m (Over end made) step = step.tickets
turn_next hub next r m Absent step = step.0.tickets

probe_next : (hub next : OpenHub HandedDevice) (d : ℕ) (grip : Option (Gripped HandedDevice Ready)) → IsProbed hub d grip next → IsNext hub.tickets next.tickets (lent_by grip)
probe_next hub next d (Some grip) step = (step.3.ticket, step.3.tickets)
probe_next hub next d None step = ap (λ (x : OpenHub HandedDevice). x.tickets) step.1

next_count : (before tickets was now : ℕ) (call : Option SlipAndTask) → tickets ≡ before + was → IsNext was now call → count_after tickets before call ≡ before + now
next_count before tickets was now None count next = omega (arith, count, next)
next_count before tickets was now (Some out) count next = omega (arith, count, next.0, next.1)

next_few : (before was now : ℕ) (call : Option SlipAndTask) → IsNext was now call → now ≤ 131072 → before < 2 ^ 48 → IfSome call (λ out. before + out.0.ticket < 2 ^ 64)
next_few before was now None next few low = tt
next_few before was now (Some out) next few low = omega (arith, next.0, next.1, few, low)

before_low : (before : ℕ) (hub : OpenHub HandedDevice) → WindowTickets before hub → before < 2 ^ 48
before_low before hub was = omega (arith, was.before_low, was.few_windows)

-- A step of a run

pub turn_few : (s : LiveState) (k : ℕ) (hub next : OpenHub HandedDevice) (r m : ℕ) (turn : Turn HandedDevice) (taken : Taken) → IsLive s → s.phase ≡ InWindow k hub → IsTurn hub r m turn next → SameWindow hub next
    → (CallsAreFew (configuration_of next) next.tickets → next.tickets ≤ 131072) → taken ≡ taken_of turn → IfSome (call_told taken) (λ out. s.tickets_before + out.0.ticket < 2 ^ 64)
turn_few s k hub next r m turn taken live is step window few told =
    let was = window_of s k hub live is in
    subst (λ (x : Taken). IfSome (call_told x) (λ out. s.tickets_before + out.0.ticket < 2 ^ 64)) (sym told)
    (next_few s.tickets_before hub.tickets next.tickets (call_told (taken_of turn)) (turn_next hub next r m turn step) (few (turn_on s.tickets_before hub next r m turn was step window).few_calls) (before_low s.tickets_before hub was))

pub turn_counted_on : (s : LiveState) (tickets now k : ℕ) (hub next : OpenHub HandedDevice) (r m : ℕ) (turn : Turn HandedDevice) (taken : Taken) → IsCounted s tickets → s.phase ≡ InWindow k hub → IsTurn hub r m turn next → SameWindow hub next
    → taken ≡ taken_of turn → now ≡ count_after tickets s.tickets_before (call_told taken) → IsCounted (record s { phase = InWindow k next }) now
turn_counted_on s tickets now k hub next r m turn taken counted is step window told count = record {
  live = live_on s k hub next counted.live is window (turn_on s.tickets_before hub next r m turn (window_of s k hub counted.live is) step window);
  count = count ∙ ap (λ (x : Taken). count_after tickets s.tickets_before (call_told x)) told ∙ next_count s.tickets_before tickets hub.tickets next.tickets (call_told (taken_of turn)) (counted.count ∙ given_in s k hub is) (turn_next hub next r m turn step);
}

-- A probe

pub probe_few : (s : LiveState) (k : ℕ) (hub next : OpenHub HandedDevice) (d : ℕ) (grip : Option (Gripped HandedDevice Ready)) (call : Option SlipAndTask) → IsLive s → s.phase ≡ InWindow k hub → IsProbed hub d grip next → SameWindow hub next
    → (CallsAreFew (configuration_of next) next.tickets → next.tickets ≤ 131072) → call ≡ lent_by grip → IfSome call (λ out. s.tickets_before + out.0.ticket < 2 ^ 64)
probe_few s k hub next d grip call live is step window few told =
    let was = window_of s k hub live is in
    subst (λ x. IfSome x (λ out. s.tickets_before + out.0.ticket < 2 ^ 64)) (sym told)
    (next_few s.tickets_before hub.tickets next.tickets (lent_by grip) (probe_next hub next d grip step) (few (probe_on s.tickets_before hub next d grip was step window).few_calls) (before_low s.tickets_before hub was))

pub probe_counted_on : (s : LiveState) (tickets now k : ℕ) (hub next : OpenHub HandedDevice) (d : ℕ) (grip : Option (Gripped HandedDevice Ready)) (call : Option SlipAndTask) → IsCounted s tickets → s.phase ≡ InWindow k hub → IsProbed hub d grip next → SameWindow hub next
    → call ≡ lent_by grip → now ≡ count_after tickets s.tickets_before call → IsCounted (record s { phase = InWindow k next }) now
probe_counted_on s tickets now k hub next d grip call counted is step window told count = record {
  live = live_on s k hub next counted.live is window (probe_on s.tickets_before hub next d grip (window_of s k hub counted.live is) step window);
  count = count ∙ ap (λ x. count_after tickets s.tickets_before x) told ∙ next_count s.tickets_before tickets hub.tickets next.tickets (lent_by grip) (counted.count ∙ given_in s k hub is) (probe_next hub next d grip step);
}

-- An answer

pub back_counted_on : (s : LiveState) (tickets k : ℕ) (hub next : OpenHub HandedDevice) (d ticket : ℕ) (told : Told) (m : ℕ) (made : List Entry) → IsCounted s tickets → s.phase ≡ InWindow k hub → HasComeBack hub d ticket told m made next → SameWindow hub next
    → IsCounted (record s { phase = InWindow k next }) tickets
back_counted_on s tickets k hub next d ticket told m made counted is back window =
    let count : next.tickets ≡ hub.tickets = elim back.back [ inl given ↦ given.2 | inr given ↦ given.2 ] in
    let was = counted.count ∙ given_in s k hub is in
    record {
      live = live_on s k hub next counted.live is window (back_on s.tickets_before hub next back.done m made (window_of s k hub counted.live is) back.back window);
      count = omega (arith, was, count);
    }

-- A window that opens

pub opened_counted_on : (s : LiveState) (tickets k : ℕ) (home : HomeState HandedDevice) (hub : OpenHub HandedDevice) → IsCounted s tickets → s.phase ≡ Between home → IsOpenedOn s.script s.mode k home hub
    → IsWindowOf s.script s.mode k hub.setting → ((before : ℕ) → before ≤ home.opened * 131072 → WindowTickets before hub) → IsCounted (record s { phase = InWindow k hub; is_draft = false; closed = None }) tickets
opened_counted_on s tickets k home hub counted is on own numbers = record {
  live = record {
    sound = counted.live.sound;
    goes = counted.live.goes;
    fits = own;
    told = slice_get_within s.script.windows.items k on.window on.at;
    tickets = numbers s.tickets_before (subst (λ p. TicketsAreLow s.tickets_before p) is counted.live.tickets);
  };
  count = (let was = counted.count ∙ ap (λ p. s.tickets_before + tickets_in p) is in omega (arith, was, on.opened.tickets));
}
