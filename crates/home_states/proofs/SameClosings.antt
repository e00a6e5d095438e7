-- Windows that are opened on homes that are the same for all who call them, and closed.
use Rattle.device_gate.specs.Places.{all_home}
use Rattle.home_states.proofs.Prelude.{Bool, Configuration, HandedDevice, HomeState, IsOpenedOn, List, Mode, None, OpenHub, SameBetween, SameWindowOf, Script, Setting, Stand, WindowIsClosed, [], ap, ap₂, at_moment, ext_get_or, false, handed_shows, is_weak, length, live_setting_on, opened, out_in, plain_script, refl, slice_get, subst, suc, sym, true, zero, ℕ, ◌+◌, ◌<◌, ◌∙◌, ◌∷◌, ◌≡◌}
use Rattle.history_book.specs.Histories.{entries_of, executed, line_of, reading}
use Rattle.history_book.specs.declared.records.WindowRecord.{WindowRecord}
use Rattle.home_states.proofs.SameScripts.{same_probes, same_runs}
use Rattle.home_types.specs.HomeStates.{nowhere, stand_at}
use Rattle.legal_days.specs.LegalWindows.{IsLegalWindow, IsSeriallyLegal, IsWeaklyLegal}

same_stands : (xs ys : List Stand) → length xs ≡ length ys → ((d : ℕ) → d < length xs → stand_at xs d ≡ stand_at ys d) → xs ≡ ys
same_stands xs ys long each = ext_get_or nowhere xs ys long each

abbrev legal_if : Setting → WindowRecord → Bool → Type 0
legal_if w closed weak = under_weak weak
  where
    under_weak : Bool → Type 0
    under_weak true = IsWeaklyLegal w closed
    under_weak false = IsSeriallyLegal w closed

pub record SameEnd (a b : WindowRecord) : Type 0 where
  pub order : a.order.items ≡ b.order.items
  pub last : a.last.devices.items ≡ b.last.devices.items

serial_end : (w : Setting) (a b : WindowRecord) → a.history.items ≡ b.history.items → IsSeriallyLegal w a → IsSeriallyLegal w b → SameEnd a b
serial_end w a b same one two =
    let order : a.order.items ≡ b.order.items = one.line ∙ ap (λ h. line_of w (entries_of h)) same ∙ sym two.line in
    record { order = order; last = sym one.agrees.home ∙ ap (λ o. (executed w o).home) order ∙ two.agrees.home }

weak_end : (w : Setting) (a b : WindowRecord) → a.history.items ≡ b.history.items → IsWeaklyLegal w a → IsWeaklyLegal w b → SameEnd a b
weak_end w a b same one two = record {
  order = one.unclaimed ∙ sym two.unclaimed;
  last = same_stands a.last.devices.items b.last.devices.items (one.size ∙ sym two.size)
      (λ d low. let within : d < length w.first = subst (λ n. d < n) one.size low in
      let up = one.counted d within ∙ ap (λ h. (reading w (entries_of h)).up d) same ∙ sym (two.counted d within) in
      let value = one.values d within ∙ ap (λ h. (reading w (entries_of h)).last d) same ∙ sym (two.values d within) in
      λ i. record { value = value i; up = up i });
}

end_if : (b : Bool) (w : Setting) (x y : WindowRecord) → x.history.items ≡ y.history.items → legal_if w x b → legal_if w y b → SameEnd x y
end_if true w x y same one two = weak_end w x y same one two
end_if false w x y same one two = serial_end w x y same one two

same_end : (v w : Setting) (a b : WindowRecord) → v ≡ w → a.history.items ≡ b.history.items → IsLegalWindow v a → IsLegalWindow w b → SameEnd a b
same_end v w a b is same one two = end_if (is_weak w.mode) w a b same (subst (λ x. IsLegalWindow x a) is one) two

pub record SameLeft (home other : HomeState HandedDevice) (one two : WindowRecord) : Type 0 where
  pub between : SameBetween home other
  pub history : one.history.items ≡ two.history.items
  pub ends : SameEnd one two

-- windows that are the same are closed with the same history, order and last state
pub same_closed : (from : ℕ) (hub other : OpenHub HandedDevice) (home after : HomeState HandedDevice) (one two : WindowRecord) → SameWindowOf from hub other
    → WindowIsClosed handed_shows hub home one → WindowIsClosed handed_shows other after two → SameLeft home after one two
same_closed from hub other home after one two same closed closed' =
    let setting : hub.setting ≡ other.setting = ap (λ (c : Configuration). c.setting) same.configuration in
    let history : one.history.items ≡ two.history.items = closed.history ∙ ap (λ (c : Configuration). c.history) same.configuration ∙ sym closed'.history in
    let ends = same_end hub.setting other.setting one two setting history closed.legal closed'.legal in
    record {
      between = record {
        kinds = closed.after.kinds ∙ ap (λ (w : Setting). w.kinds) setting ∙ sym closed'.after.kinds;
        world = closed.after.last ∙ ends.last ∙ sym closed'.after.last;
        opened = closed.after.opened ∙ ap (λ n. n + 1) same.opened ∙ sym closed'.after.opened;
      };
      history = history;
      ends = ends;
    }

-- Windows that are opened

all_in : (devices : List HandedDevice) (d : ℕ) → out_in (slice_get (all_home devices) d) ≡ None
all_in [] d = refl
all_in (x ∷ devices) zero = refl
all_in (x ∷ devices) (suc d) = all_in devices d

pub same_opened : (from : ℕ) (a b : Script) (v w : Mode) (k : ℕ) (home other : HomeState HandedDevice) (hub twin : OpenHub HandedDevice)
    → plain_script a ≡ plain_script b → v ≡ w → SameBetween home other → IsOpenedOn a v k home hub → IsOpenedOn b w k other twin → SameWindowOf from hub twin
same_opened from a b v w k home other hub twin same mode between one two =
    let runs = same_runs a b k same in
    let setting : live_setting_on a v k home ≡ live_setting_on b w k other =
    λ i. record { runs = runs i; mode = mode i; kinds = between.kinds i; first = between.world i } in
    let rounds : one.window.probes ≡ two.window.probes = same_probes a b k one.window two.window same one.at two.at in
    record {
      configuration = ap (λ c. at_moment c from) (one.opened.configuration ∙ ap₂ (λ (x : Setting) (n : ℕ). opened x n) setting rounds ∙ sym two.opened.configuration);
      opened = one.opened.windows ∙ between.opened ∙ sym two.opened.windows;
      tickets = one.opened.tickets ∙ sym two.opened.tickets;
      out = λ d.
          ap (λ l. out_in (slice_get l d)) one.opened.places ∙ all_in home.devices d ∙ sym (all_in other.devices d)
          ∙ sym (ap (λ l. out_in (slice_get l d)) two.opened.places);
    }
