-- The lines of a trace: each is one line, and the check passes over it.
use Rattle.printed_records.proofs.Prelude.{Aborted, All, All-append, All-cons, All-get_or, Answer, Arrived, Bool, Cause, Command, Committed, DeviceText, Did, Doomed, Down, DownAtEnd, Ended, Entry, Fell, Fine, Found, IsName, IsSound, IsSoundKind, Kept, Kind, List, Lost, MustDown, None, Option, Placed, Range, Refuted, Revoked, Rose, RoutineText, Script, Skipped, Some, States, Undid, WindowText, [], answer_text, ap, append_assoc, arith, cause_text, codes, common_steps, decimal, device_name, device_of, digit_glyph, digits_onto, entry_text, false, flat_map, get_or_from_slice_get, if◌then◌else◌, lines_of, option_and_then, option_map, plain_script, refl, routine_of, slice_get, slice_get_within, states_of, subst, suc, sym, trace_line, trace_lines, true, unwrap_or, value_text, zero, ℕ, ◌%◌, ◌++◌, ◌+◌, ◌/◌, ◌<◌, ◌==◌, ◌∙◌, ◌∷◌, ◌≡◌}
use Rattle.printed_records.proofs.LineTexts.{lines-note}
use Rattle.printed_records.proofs.Names.{name-word, sound-device}
use Rattle.printed_records.proofs.Plain.{Lacks, lacks-seen}
use Rattle.std.specs.Fmt.{digits}

-- one line's text
abbrev NoFeed : List ℕ → Type 0
NoFeed text = Lacks 10 text

behind : (a b : List ℕ) → NoFeed a → NoFeed b → NoFeed (a ++ b)
behind a b no_a no_b = All-append (λ x. (x == 10) ≡ false) a b no_a no_b

-- whatever a number is, its digits are no line feeds
digit-feed : (d : ℕ) → d < 10 → (digit_glyph false d == 10) ≡ false
digit-feed d small = grind (arith, common_steps)

onto-feed : (k n : ℕ) (acc : List ℕ) → NoFeed acc → NoFeed (digits_onto k 10 false n acc)
onto-feed zero n acc lacks = lacks
onto-feed (suc k) n acc lacks =
    let more : NoFeed (digit_glyph false (n % 10) ∷ acc) = All-cons (λ x. (x == 10) ≡ false) (digit_glyph false (n % 10)) acc (digit-feed (n % 10) (omega arith)) lacks in
    which (n / 10 == 0) more (onto-feed k (n / 10) (digit_glyph false (n % 10) ∷ acc) more)
  where
    which : (b : Bool) → NoFeed (digit_glyph false (n % 10) ∷ acc) → NoFeed (digits_onto k 10 false (n / 10) (digit_glyph false (n % 10) ∷ acc))
        → NoFeed (if b then digit_glyph false (n % 10) ∷ acc else digits_onto k 10 false (n / 10) (digit_glyph false (n % 10) ∷ acc))
    which true a b = a
    which false a b = b

decimal-feed : (n : ℕ) → NoFeed (decimal n)
unfolding digits
decimal-feed n = onto-feed 64 n [] (lacks-seen 10 [] refl)

name-feed : (name : List ℕ) → IsName name → NoFeed name
name-feed name is = (name-word name is).no_feed

-- a value is written by a name or a number
value-feed : (states : List (List ℕ)) (v : ℕ) → All IsName states → NoFeed (value_text states v)
unfolding value_text
value-feed states v names = by (slice_get states v) refl
  where
    by : (o : Option (List ℕ)) → slice_get states v ≡ o → NoFeed (unwrap_or o (decimal v))
    by None at = decimal-feed v
    by (Some name) at =
        name-feed name (subst IsName (get_or_from_slice_get states v name name at) (All-get_or IsName states v name (slice_get_within states v name at) names))

kind-names : (kind : Kind) (states : List (List ℕ)) → IsSoundKind kind states → All IsName states
kind-names (States n) states sound = sound.3
kind-names (Range low high) states sound = subst (All IsName) (sym sound.0) (λ k d within. absurd (omega arith))

module _ (script : Script) (window : WindowText) (sound : IsSound (plain_script script)) where
  device-feed : (d : ℕ) → NoFeed (device_name script d)
  unfolding device_name
  device-feed d = by (slice_get script.devices.items d) refl
    where
      by : (o : Option DeviceText) → slice_get script.devices.items d ≡ o → NoFeed (unwrap_or (option_map (λ (x : DeviceText). x.name) o) [])
      by None at = lacks-seen 10 [] refl
      by (Some device) at = name-feed device.name (sound-device script d device sound at).name

  states-named : (r c : ℕ) → All IsName (states_of script window r c)
  unfolding states_of device_of
  states-named r c = by (option_and_then (λ (routine : RoutineText). slice_get routine.routine.commands.items c) (routine_of script window r))
    where
      at_device : (d : ℕ) (o : Option DeviceText) → slice_get script.devices.items d ≡ o → All IsName (unwrap_or (option_map (λ (x : DeviceText). x.states.items) o) [])
      at_device d None at = λ k x within. absurd (omega arith)
      at_device d (Some device) at = kind-names device.kind device.states.items (sound-device script d device sound at).kind

      by : (o : Option Command) → All IsName (unwrap_or (option_map (λ (x : DeviceText). x.states.items) (option_and_then (λ (k : Command). slice_get script.devices.items k.device.0) o)) [])
      by None = λ k x within. absurd (omega arith)
      by (Some command) = at_device command.device.0 (slice_get script.devices.items command.device.0) refl

  answer-feed : (r c : ℕ) (a : Answer) → NoFeed (answer_text (states_of script window r c) a)
  unfolding answer_text
  answer-feed r c Fine = lacks-seen 10 (codes ".") refl
  answer-feed r c (Found x) = value-feed (states_of script window r c) x (states-named r c)
  answer-feed r c Down = lacks-seen 10 (codes "-") refl
  answer-feed r c Skipped = lacks-seen 10 (codes "/") refl

  cause-feed : (r : ℕ) (cause : Cause) → NoFeed (cause_text script window r cause)
  unfolding cause_text
  cause-feed r (MustDown c) = behind (codes "must ") (decimal (c + 1)) (lacks-seen 10 (codes "must ") refl) (decimal-feed (c + 1))
  cause-feed r (Refuted c x) =
      behind (codes "refuted " ++ decimal (c + 1) ++ codes " found ") (value_text (states_of script window r c) x)
      (behind (codes "refuted " ++ decimal (c + 1)) (codes " found ")
      (behind (codes "refuted ") (decimal (c + 1)) (lacks-seen 10 (codes "refuted ") refl) (decimal-feed (c + 1))) (lacks-seen 10 (codes " found ") refl))
      (value-feed (states_of script window r c) x (states-named r c))
  cause-feed r (Lost d) = behind (codes "lost ") (device_name script d.0) (lacks-seen 10 (codes "lost ") refl) (device-feed d.0)
  cause-feed r (Revoked lender d deadline moment) =
      behind (codes "revoked " ++ device_name script d.0 ++ codes " by " ++ decimal lender.0 ++ codes " deadline " ++ decimal deadline ++ codes " at ") (decimal moment)
      (behind (codes "revoked " ++ device_name script d.0 ++ codes " by " ++ decimal lender.0 ++ codes " deadline " ++ decimal deadline) (codes " at ")
      (behind (codes "revoked " ++ device_name script d.0 ++ codes " by " ++ decimal lender.0 ++ codes " deadline ") (decimal deadline)
      (behind (codes "revoked " ++ device_name script d.0 ++ codes " by " ++ decimal lender.0) (codes " deadline ")
      (behind (codes "revoked " ++ device_name script d.0 ++ codes " by ") (decimal lender.0)
      (behind (codes "revoked " ++ device_name script d.0) (codes " by ")
      (behind (codes "revoked ") (device_name script d.0) (lacks-seen 10 (codes "revoked ") refl) (device-feed d.0)) (lacks-seen 10 (codes " by ") refl))
      (decimal-feed lender.0)) (lacks-seen 10 (codes " deadline ") refl))
      (decimal-feed deadline)) (lacks-seen 10 (codes " at ") refl))
      (decimal-feed moment)
  cause-feed r (DownAtEnd d) = behind (codes "downatend ") (device_name script d.0) (lacks-seen 10 (codes "downatend ") refl) (device-feed d.0)

  drove-feed : (drove : Bool) → NoFeed (if drove then codes " drove" else codes " dropped")
  drove-feed true = lacks-seen 10 (codes " drove") refl
  drove-feed false = lacks-seen 10 (codes " dropped") refl

  entry-feed : (e : Entry) → NoFeed (entry_text script window e)
  unfolding entry_text
  entry-feed (Arrived r moment) =
      behind (codes "arrived " ++ decimal r.0 ++ codes " at ") (decimal moment)
      (behind (codes "arrived " ++ decimal r.0) (codes " at ") (behind (codes "arrived ") (decimal r.0) (lacks-seen 10 (codes "arrived ") refl) (decimal-feed r.0)) (lacks-seen 10 (codes " at ") refl))
      (decimal-feed moment)
  entry-feed (Placed r at moment) =
      behind (codes "placed " ++ decimal r.0 ++ codes " place " ++ decimal at ++ codes " at ") (decimal moment)
      (behind (codes "placed " ++ decimal r.0 ++ codes " place " ++ decimal at) (codes " at ")
      (behind (codes "placed " ++ decimal r.0 ++ codes " place ") (decimal at)
      (behind (codes "placed " ++ decimal r.0) (codes " place ") (behind (codes "placed ") (decimal r.0) (lacks-seen 10 (codes "placed ") refl) (decimal-feed r.0)) (lacks-seen 10 (codes " place ") refl))
      (decimal-feed at)) (lacks-seen 10 (codes " at ") refl))
      (decimal-feed moment)
  entry-feed (Did r c answer) =
      behind (codes "did " ++ decimal r.0 ++ codes "." ++ decimal (c + 1) ++ codes " ") (answer_text (states_of script window r.0 c) answer)
      (behind (codes "did " ++ decimal r.0 ++ codes "." ++ decimal (c + 1)) (codes " ")
      (behind (codes "did " ++ decimal r.0 ++ codes ".") (decimal (c + 1))
      (behind (codes "did " ++ decimal r.0) (codes ".") (behind (codes "did ") (decimal r.0) (lacks-seen 10 (codes "did ") refl) (decimal-feed r.0)) (lacks-seen 10 (codes ".") refl))
      (decimal-feed (c + 1))) (lacks-seen 10 (codes " ") refl))
      (answer-feed r.0 c answer)
  entry-feed (Undid r d drove) =
      behind (codes "undid " ++ decimal r.0 ++ codes " " ++ device_name script d.0) (if drove then codes " drove" else codes " dropped")
      (behind (codes "undid " ++ decimal r.0 ++ codes " ") (device_name script d.0)
      (behind (codes "undid " ++ decimal r.0) (codes " ") (behind (codes "undid ") (decimal r.0) (lacks-seen 10 (codes "undid ") refl) (decimal-feed r.0)) (lacks-seen 10 (codes " ") refl))
      (device-feed d.0))
      (drove-feed drove)
  entry-feed (Fell d) = behind (codes "fell ") (device_name script d.0) (lacks-seen 10 (codes "fell ") refl) (device-feed d.0)
  entry-feed (Rose d) = behind (codes "rose ") (device_name script d.0) (lacks-seen 10 (codes "rose ") refl) (device-feed d.0)
  entry-feed (Doomed r cause) =
      behind (codes "doomed " ++ decimal r.0 ++ codes " ") (cause_text script window r.0 cause)
      (behind (codes "doomed " ++ decimal r.0) (codes " ") (behind (codes "doomed ") (decimal r.0) (lacks-seen 10 (codes "doomed ") refl) (decimal-feed r.0)) (lacks-seen 10 (codes " ") refl))
      (cause-feed r.0 cause)
  entry-feed (Ended r Committed) =
      behind (codes "ended " ++ decimal r.0) (codes " committed") (behind (codes "ended ") (decimal r.0) (lacks-seen 10 (codes "ended ") refl) (decimal-feed r.0)) (lacks-seen 10 (codes " committed") refl)
  entry-feed (Ended r (Aborted cause)) =
      behind (codes "ended " ++ decimal r.0) (codes " aborted") (behind (codes "ended ") (decimal r.0) (lacks-seen 10 (codes "ended ") refl) (decimal-feed r.0)) (lacks-seen 10 (codes " aborted") refl)

  trace-line : (kept : Kept) (rest : List ℕ) → lines_of (trace_line script window kept ++ rest) ≡ lines_of rest
  unfolding trace_line
  trace-line kept rest =
      let text = codes "# " ++ entry_text script window kept.entry in
      ap lines_of (append_assoc text (10 ∷ []) rest)
      ∙ lines-note text rest (behind (codes "# ") (entry_text script window kept.entry) (lacks-seen 10 (codes "# ") refl) (entry-feed kept.entry)) refl

  -- the lines of a trace are passed over
  pub trace-passed : (history : List Kept) (rest : List ℕ) → lines_of (trace_lines script window history ++ rest) ≡ lines_of rest
  unfolding trace_lines
  trace-passed [] rest = refl
  trace-passed (kept ∷ history) rest =
      ap lines_of (append_assoc (trace_line script window kept) (flat_map (trace_line script window) history) rest)
      ∙ trace-line kept (flat_map (trace_line script window) history ++ rest) ∙ trace-passed history rest
