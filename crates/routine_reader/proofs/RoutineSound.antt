-- A routine that is read is one that the format allows.
use Rattle.home_types.specs.Kinds.{kind_at}
use Rattle.routine_reader.proofs.Prelude.{All, All-head, All-nil, All-tail, BadState, Bool, CommandMembers, Data, IsSoundCommand, IsSoundDevice, IsSoundKind, IsSoundRoutine, Kind, List, None, Ok, Option, PlainDevice, PlainRoutine, Shape, Some, UnknownName, [], arith, as_bool, as_str, at, codes, command_form, command_members, command_reading, command_with, commands_reading, compared, device_kinds, device_names, false, get, guard_of, guard_with, has_form, if_there, inside, is_among, job_of, kind_of, length, length-map, most_commands, most_of_32_bits, ms_at, needed, new_name, next_command_read, none-some, number_of, ok_or, option_and_then, option_map, option_map_or, or_default, place_of, present, read_each, refl, routine_members, routine_reading, state_names_of, state_of, subst, suc, suits_device, suits_verb, takes_at, true, value_in, verb_in, with_its_value, within_limit, zero, ℕ, ◌+◌, ◌<◌, ◌==◌, ◌>>=◌, ◌∷◌, ◌≡◌, ◌≤◌}
use Rattle.home_types.specs.declared.commands.Command.{Command}
use Rattle.home_types.specs.declared.commands.Guard.TheVariants.{Always, Below, Is}
use Rattle.home_types.specs.declared.commands.Guard.{Guard}
use Rattle.home_types.specs.declared.commands.Job.TheVariants as job
use Rattle.home_types.specs.declared.commands.Job.{Job}
use Rattle.routine_reader.proofs.DeviceSound.{if-some, new-name, number-within, place-within, some-same, some-values, then-some, value-suits}
use Rattle.routine_reader.proofs.WalkSound.{each-all, each-length, ok-found, ok-same, ok-then, ok-unless, ok-within}
use Rattle.routine_reader.specs.declared.commands.Verb.TheVariants.{Check, Load, Set, Store}
use Rattle.routine_reader.specs.declared.commands.Verb.{Verb}
use Rattle.routine_reader.specs.declared.faults.Count.TheVariants as count
use Rattle.routine_reader.specs.declared.faults.Part.TheVariants as part
use Rattle.routine_reader.specs.declared.forms.Form.TheVariants as form

map-some : {T U : Type 0} (f : T → U) (o : Option T) (u : U) → option_map f o ≡ Some u → (t : T) × (o ≡ Some t) × (f t ≡ u)
map-some f None u h = absurd (none-some u h)
map-some f (Some t) u h = (t, refl, some-same (f t) u h)

-- the kind and the states of each device suit each other
kind-sound : (devices : List PlainDevice) (d : ℕ) → All IsSoundDevice devices → d < length devices → IsSoundKind (kind_of devices d) (state_names_of devices d)
kind-sound [] d all within = absurd (omega (arith, within))
kind-sound (device ∷ devices) zero all within = (All-head IsSoundDevice device devices all).kind
kind-sound (device ∷ devices) (suc d) all within = kind-sound devices d (All-tail IsSoundDevice device devices all) (omega (arith, within))

kind-same : (devices : List PlainDevice) (d : ℕ) → d < length devices → kind_of devices d ≡ kind_at (device_kinds devices) d
kind-same [] d within = absurd (omega (arith, within))
kind-same (device ∷ devices) zero within = refl
kind-same (device ∷ devices) (suc d) within = kind-same devices d (omega (arith, within))

job-suits : (verb : Verb) (to : Option Data) (kind : Kind) (states : List (List ℕ)) (does : Job) → IsSoundKind kind states
    → job_of verb to kind states ≡ Some does → suits_device kind does ≡ true
job-suits Set to kind states does sound h =
    let value = map-some job.Set (option_and_then (value_in kind states) to) does h in
    let given = then-some (value_in kind states) to value.0 value.1 in
    subst (λ j. suits_device kind j ≡ true) value.2 (value-suits kind states given.0 value.0 sound given.2)
job-suits Check to kind states does sound h =
    let value = map-some job.Check (option_and_then (value_in kind states) to) does h in
    let given = then-some (value_in kind states) to value.0 value.1 in
    subst (λ j. suits_device kind j ≡ true) value.2 (value-suits kind states given.0 value.0 sound given.2)
job-suits Load to kind states does sound h = subst (λ j. suits_device kind j ≡ true) (some-same job.Load does h) refl
job-suits Store to kind states does sound h = subst (λ j. suits_device kind j ≡ true) (some-same job.Store does h) refl

-- a guard compares with a number of 32 bits
abbrev IsWithin : Guard → Type 0
IsWithin guard = compared guard ≤ most_of_32_bits

number-there : (o : Option Data) (n : ℕ) → option_map_or (present number_of) o (Some None) ≡ Some (Some n) → n ≤ most_of_32_bits
number-there None n h = absurd (cc)
number-there (Some value) n h =
    let given = map-some (λ t. Some t) (number_of value) (Some n) h in
    subst (λ m. m ≤ most_of_32_bits) (some-same given.0 n given.2) (number-within value given.0 given.1)

guard-with : (is below : Option (Option ℕ)) (guard : Guard) → ((n : ℕ) → is ≡ Some (Some n) → n ≤ most_of_32_bits)
    → ((n : ℕ) → below ≡ Some (Some n) → n ≤ most_of_32_bits) → guard_with is below ≡ Some guard → IsWithin guard
guard-with (Some (Some v)) (Some None) guard fits_is fits_below h = subst IsWithin (some-same (Is v) guard h) (fits_is v refl)
guard-with (Some None) (Some (Some v)) guard fits_is fits_below h = subst IsWithin (some-same (Below v) guard h) (fits_below v refl)
guard-with None below guard fits_is fits_below h = absurd (none-some guard h)
guard-with (Some None) None guard fits_is fits_below h = absurd (none-some guard h)
guard-with (Some None) (Some None) guard fits_is fits_below h = absurd (none-some guard h)
guard-with (Some (Some v)) None guard fits_is fits_below h = absurd (none-some guard h)
guard-with (Some (Some v)) (Some (Some u)) guard fits_is fits_below h = absurd (none-some guard h)

guard-given : (o : Option Data) (guard : Guard) → option_map_or guard_of o (Some Always) ≡ Some guard → IsWithin guard
guard-given None guard h = subst IsWithin (some-same Always guard h) (omega arith)
guard-given (Some value) guard h =
    let is = if_there number_of (codes "is") value in
    let below = if_there number_of (codes "below") value in
    let whole = if-some (has_form form.Guard value) (guard_with is below) guard h in
    guard-with is below guard (λ n e. number-there (get (codes "is") value) n e) (λ n e. number-there (get (codes "below") value) n e) whole.1

when-of : (device : Option (List ℕ)) (verb : Option Verb) (to : Option (Option Data)) (when : Option Guard) (must : Option Bool) (ms takes : Option ℕ) (members : CommandMembers)
    → command_with device verb to when must ms takes ≡ Some members → when ≡ Some members.when
when-of (Some device) (Some verb) (Some to) (Some when) (Some must) (Some ms) (Some takes) members h = cc
when-of None verb to when must ms takes members h = absurd (cc)
when-of (Some device) None to when must ms takes members h = absurd (cc)
when-of (Some device) (Some verb) None when must ms takes members h = absurd (cc)
when-of (Some device) (Some verb) (Some to) None must ms takes members h = absurd (cc)
when-of (Some device) (Some verb) (Some to) (Some when) None ms takes members h = absurd (cc)
when-of (Some device) (Some verb) (Some to) (Some when) (Some must) None takes members h = absurd (cc)
when-of (Some device) (Some verb) (Some to) (Some when) (Some must) (Some ms) None members h = absurd (cc)

when-within : (version : ℕ) (value : Data) (members : CommandMembers) → command_members version value ≡ Some members → IsWithin members.when
when-within version value members h =
    let device = needed as_str (codes "on") value in
    let verb = needed verb_in (codes "do") value in
    let to = if_there state_of (codes "to") value in
    let when = or_default guard_of Always (codes "when") value in
    let must = or_default as_bool true (codes "must") value in
    let all = command_with device verb to when must (ms_at value) (takes_at value) in
    let whole = if-some (has_form (command_form version) value) (option_and_then with_its_value all) members h in
    let given = then-some with_its_value all members whole.1 in
    let suited = if-some (suits_verb given.0.verb given.0.to) (Some given.0) members given.2 in
    subst (λ (m : CommandMembers). IsWithin m.when) (some-same given.0 members suited.1)
    (guard-given (get (codes "when") value) given.0.when (when-of device verb to when must (ms_at value) (takes_at value) given.0 given.1))

command-sound : (version : ℕ) (devices : List PlainDevice) → All IsSoundDevice devices → (routine number : ℕ) (value : Data) (command : Command)
    → command_reading version devices routine number value ≡ Ok command → IsSoundCommand devices command
unfolding command_reading
command-sound version devices sound routine number value command h =
    let spot = inside part.Command routine number in
    let members = ok-then (ok_or (command_members version value) (Shape spot)) _ command h in
    let device = ok-then (ok_or (place_of (device_names devices) members.0.device) (UnknownName spot)) _ command members.2 in
    let kind = kind_of devices device.0 in
    let states = state_names_of devices device.0 in
    let does = ok-then (ok_or (job_of members.0.verb members.0.to kind states) (BadState spot)) _ command device.2 in
    let ms = ok-then (within_limit count.Ms members.0.ms) _ command does.2 in
    let takes = ok-then (within_limit count.Ms members.0.takes) _ command ms.2 in
    let few_ms = ok-within count.Ms members.0.ms ms.0 ms.1 in
    let when = when-within version value members.0 (ok-found (command_members version value) (Shape spot) members.0 members.1) in
    let few_takes = ok-within count.Ms members.0.takes takes.0 takes.1 in
    let place = place-within (device_names devices) members.0.device device.0 (ok-found (place_of (device_names devices) members.0.device) (UnknownName spot) device.0 device.1) in
    let there : device.0 < length devices = subst (λ n. device.0 < n) (length-map devices (λ (d : PlainDevice). d.name)) place in
    let job = ok-found (job_of members.0.verb members.0.to kind states) (BadState spot) does.0 does.1 in
    let suited = job-suits members.0.verb members.0.to kind states does.0 (kind-sound devices device.0 sound there) job in
    let made : Command = record { device = record { 0 = device.0 }; job = does.0; when = members.0.when; must = members.0.must; ms = ms.0; takes = takes.0 } in
    subst (IsSoundCommand devices) {x = made} (ok-same made command takes.2)
    (record {
      device = there;
      value = subst (λ k. suits_device k does.0 ≡ true) (kind-same devices device.0 there) suited;
      when = omega (arith, when);
      ms = omega (arith, few_ms.0, few_ms.1);
      takes = omega (arith, few_takes.0, few_takes.1);
    })

commands-sound : (version : ℕ) (devices : List PlainDevice) → All IsSoundDevice devices → (routine : ℕ) (values : List Data) (commands : List Command)
    → commands_reading version devices routine values ≡ Ok commands
    → (0 < length commands) × (length commands ≤ most_commands) × All (IsSoundCommand devices) commands
unfolding commands_reading
commands-sound version devices sound routine values commands h =
    let R = next_command_read version devices routine in
    let some = ok-unless (length values == 0) (within_limit count.Commands (length values) >>= (λ few. read_each R [] values)) (Shape (at part.Routine routine)) commands h in
    let few = ok-then (within_limit count.Commands (length values)) (λ few. read_each R [] values) commands some.1 in
    let fits = ok-within count.Commands (length values) few.0 few.1 in
    let count = each-length R [] values commands few.2 in
    let least = some-values (length values) some.0 in (
      omega (arith, count, least),
      omega (arith, count, fits.0),
      each-all (IsSoundCommand devices) R (λ earlier value command e. command-sound version devices sound routine (length earlier + 1) value command e) [] values commands (All-nil (IsSoundCommand devices)) few.2,
    )

-- a routine that is read is sound, and its name is new
pub routine-sound : (version : ℕ) (devices : List PlainDevice) → All IsSoundDevice devices → (number : ℕ) (names : List (List ℕ)) (value : Data) (routine : PlainRoutine)
    → routine_reading version devices number names value ≡ Ok routine → IsSoundRoutine devices routine × (is_among names routine.name ≡ false)
unfolding routine_reading
routine-sound version devices sound number names value routine h =
    let spot = at part.Routine number in
    let members = ok-then (ok_or (routine_members value) (Shape spot)) _ routine h in
    let name = ok-then (new_name spot names members.0.name) _ routine members.2 in
    let commands = ok-then (commands_reading version devices number members.0.commands) _ routine name.2 in
    let named = new-name spot names members.0.name name.0 name.1 in
    let all = commands-sound version devices sound number members.0.commands commands.0 commands.1 in
    let made : PlainRoutine = record { name = name.0; commands = commands.0 } in
    subst (λ (r : PlainRoutine). IsSoundRoutine devices r × (is_among names r.name ≡ false)) {x = made} (ok-same made routine commands.2)
    (record { name = named.0; some_commands = all.0; few_commands = all.1; commands = all.2 }, named.1)
