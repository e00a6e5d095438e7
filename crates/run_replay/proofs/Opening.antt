-- The player of a hub in which nothing was done yet.
use Rattle.run_replay.proofs.Prelude.{Gripped, HoldNothing, List, OpenHub, Option, Out, PlayerIsKept, PlayerIsOpened, PlayerState, Ready, Setting, Shown, Slip, Some, ap, arith, configuration_of, grip_in, length, opened, progress_at, refl, slice_get, subst, sym, ℕ, ◌*◌, ◌+◌, ◌<◌, ◌^◌, ◌∙◌, ◌≡◌, ◌≤◌}
use Rattle.device_gate.specs.declared.slips.Task.{Task}
use Rattle.hub_core.specs.Homes.{HomeState}
use Rattle.hub_core.specs.HubCalls.{IsOpened as IsOpenedOn}

-- the player of the hub, with these hands
abbrev pub player_of : {D : Type 0} → OpenHub D → List (Option (Gripped D Ready)) → ℕ → PlayerState D
player_of hub grips rounds = record { hub = hub; grips = grips; rounds = rounds; place = 0; moves = 0 }

least : (n : ℕ) → 0 ≤ n
least n = omega arith

pub opens_kept : {D : Type 0} (hub : OpenHub D) (grips : List (Option (Gripped D Ready))) (rounds : ℕ) → configuration_of hub ≡ opened hub.setting hub.rounds → rounds < 2 ^ 32 → HoldNothing grips → length grips ≡ length hub.setting.runs + 1 → PlayerIsKept (player_of hub grips rounds)
opens_kept {D = D} hub grips rounds fresh few none size = record {
  actors = size;
  makers = λ a grip at. absurd (none a grip at);
  held = λ a grip at. absurd (none a grip at);
  out = λ d slip task at. absurd (no_out d slip task at);
  early = subst (λ n. n ≤ 2 ^ 32 * length hub.history) (sym (ap (λ c. c.moment) fresh)) (least (2 ^ 32 * length hub.history));
  rounds = few;
  place = least (rounds * length hub.setting.first);
}
  where
    no_out : (d : ℕ) (slip : Slip) (task : Task) → slice_get hub.places d ≡ Some (Out slip task) → ⊥
    no_out d slip task at =
        let gone = ap (λ p. grip_in p (progress_at hub.devices d).purpose) at in
        let home = ap (λ c. c.grips d) fresh in
        cc (sym gone ∙ home)

pub is_opened : {D : Type 0} (hub : OpenHub D) (grips : List (Option (Gripped D Ready))) (rounds : ℕ) → configuration_of hub ≡ opened hub.setting hub.rounds → HoldNothing grips → PlayerIsOpened hub rounds (player_of hub grips rounds)
is_opened hub grips rounds fresh none = record {
  own = refl;
  detector = refl;
  start = ap (λ c. record { configuration = c; moment = c.moment; place = 0; acts = 0; moves = 0 }) fresh;
  hands = none;
}

-- A window that was just opened may be replayed

pub fresh_where : {D : Type 0} (shows : D → Shown) (w : Setting) (rounds : ℕ) (home : HomeState D) (hub : OpenHub D) → IsOpenedOn shows w rounds home hub → configuration_of hub ≡ opened hub.setting hub.rounds
fresh_where shows w rounds home hub is = is.configuration ∙ sym (ap (λ v. opened v rounds) (ap (λ c. c.setting) is.configuration)) ∙ ap (λ n. opened hub.setting n) (sym is.rounds_are)
