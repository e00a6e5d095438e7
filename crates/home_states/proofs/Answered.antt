-- A device that was out has come back to the window in which the live home is.
use Rattle.home_states.proofs.Prelude.{Entry, HandedDevice, HasAnswered, HasComeBack, IfOk, InWindow, List, LiveState, Ok, OpenHub, Result, SameWindow, Told, configuration_of, read_of, refl, subst, sym, ℕ, ◌+◌, ◌≡◌}
use Rattle.history_book.specs.Sealed.{StaysSealed}
use Rattle.home_states.specs.declared.refusals.NotAnswered.{NotAnswered}

-- what the hub says of it, over the home as it is inside
pub has_answered : (inside s : LiveState) (k : ℕ) (hub next : OpenHub HandedDevice) (d ticket number : ℕ) (told : Told) (m : ℕ) (made : List Entry) (result : Result (List Entry) NotAnswered)
    → inside ≡ s → inside.phase ≡ InWindow k hub → ticket ≡ inside.tickets_before + number → HasComeBack hub d number told m made next
    → StaysSealed (read_of (configuration_of hub)) (read_of (configuration_of next)) → SameWindow hub next → result ≡ Ok made
    → IfOk result (λ made. HasAnswered s d ticket told m made (record inside { phase = InWindow k next }))
has_answered inside s k hub next d ticket number told m made result seen was own back sealed window is =
    subst (λ o. IfOk o (λ made. HasAnswered s d ticket told m made (record inside { phase = InWindow k next }))) (sym is)
    (subst (λ (x : LiveState). HasAnswered x d ticket told m made (record inside { phase = InWindow k next })) seen
    (record {
      hub = hub;
      next = next;
      goes = record { number = k; was = was; is = refl; window = window; sealed = sealed };
      in_window = number;
      number = own;
      answered = back;
    }))
