-- The reading of a command.
use Rattle.home_types.specs.declared.commands.Command.{Command}
use Rattle.home_types.specs.declared.commands.Guard.TheVariants.{Always, Below, Is}
use Rattle.home_types.specs.declared.commands.Guard.{Guard}
use Rattle.home_types.specs.declared.commands.Job.TheVariants as job
use Rattle.home_types.specs.declared.commands.Job.{Job}
use Rattle.home_types.specs.declared.kinds.Kind.TheVariants.{States}
use Rattle.home_types.specs.declared.kinds.Kind.{Kind}
use Rattle.routine_reader.specs.Devices.{device_names, value_in}
use Rattle.routine_reader.specs.Forms.{has_form, if_there, needed, number_of, or_default, state_of}
use Rattle.routine_reader.specs.Limits.{default_ms}
use Rattle.routine_reader.specs.Names.{place_of}
use Rattle.routine_reader.specs.Scripts.{PlainDevice}
use Rattle.routine_reader.specs.Spots.{inside}
use Rattle.routine_reader.specs.Walks.{within_limit, ◌>>=◌}
use Rattle.routine_reader.specs.declared.commands.Verb.TheVariants.{Check, Load, Set, Store}
use Rattle.routine_reader.specs.declared.commands.Verb.{Verb}
use Rattle.routine_reader.specs.declared.faults.Count.TheVariants as count
use Rattle.routine_reader.specs.declared.faults.Part.TheVariants as part
use Rattle.routine_reader.specs.declared.faults.ReadFault.TheVariants.{BadState, Shape, UnknownName}
use Rattle.routine_reader.specs.declared.faults.ReadFault.{ReadFault}
use Rattle.routine_reader.specs.declared.forms.Form.TheVariants as form
use Rattle.routine_reader.specs.declared.forms.Form.{Form}
use Rattle.serde_json.specs.Data.{Data}
use Rattle.serde_json.specs.Find.{as_bool, as_str}
use Rattle.std.specs.Option.{option_map_or}
use Rattle.std.specs.Prelude.{Bool, List, None, Ok, Option, Result, Some, [], codes, if◌then◌else◌, is_none, is_some, length, ok_or, option_and_then, option_map, slice_get, true, ℕ, ◌+◌, ◌==◌}
use Rattle.std.specs.Str.{bytes_eq}

-- ---- its members

-- what `do` says
abbrev pub verb_of : List ℕ → Option Verb
verb_of text =
    if bytes_eq text (codes "set") then Some Set
    else (if bytes_eq text (codes "check") then Some Check
    else (if bytes_eq text (codes "load") then Some Load
    else (if bytes_eq text (codes "store") then Some Store else None)))

abbrev pub verb_in : Data → Option Verb
verb_in value = option_and_then verb_of (as_str value)

-- `to` is there for `set` and `check`, and for no other
abbrev pub suits_verb : Verb → Option Data → Bool
suits_verb Set to = is_some to
suits_verb Check to = is_some to
suits_verb Load to = is_none to
suits_verb Store to = is_none to

-- the table of a command by the version of its script: in version 1 it has no `when`
abbrev pub command_form : ℕ → Form
command_form version = if version == 1 then form.Command else form.GuardedCommand

-- one of `is` and `below`
abbrev pub guard_with : Option (Option ℕ) → Option (Option ℕ) → Option Guard
guard_with (Some (Some v)) (Some None) = Some (Is v)
guard_with (Some None) (Some (Some v)) = Some (Below v)
guard_with is below = None

-- an object with one member, which is a whole number
abbrev pub guard_of : Data → Option Guard
guard_of value =
    if has_form form.Guard value then
    (guard_with (if_there number_of (codes "is") value) (if_there number_of (codes "below") value))
    else None

-- the members of a command, each of its type
pub record CommandMembers : Type 0 where
  pub device : List ℕ
  pub verb : Verb
  pub to : Option Data
  pub when : Guard
  pub must : Bool
  pub ms : ℕ
  pub takes : ℕ

abbrev pub command_with : Option (List ℕ) → Option Verb → Option (Option Data) → Option Guard
    → Option Bool → Option ℕ → Option ℕ → Option CommandMembers
command_with (Some device) (Some verb) (Some to) (Some when) (Some must) (Some ms) (Some takes) =
    Some (record {
      device = device;
      verb = verb;
      to = to;
      when = when;
      must = must;
      ms = ms;
      takes = takes;
    })
command_with device verb to when must ms takes = None

abbrev pub ms_at : Data → Option ℕ
ms_at value = or_default number_of default_ms (codes "ms") value

-- what `takes` says, or else the estimate
abbrev pub takes_at : Data → Option ℕ
takes_at value = option_and_then (λ ms. or_default number_of ms (codes "takes") value) (ms_at value)

abbrev pub with_its_value : CommandMembers → Option CommandMembers
with_its_value members = if suits_verb members.verb members.to then Some members else None

-- those of a command of a script of this version; without `when` its guard is Always
abbrev pub command_members : ℕ → Data → Option CommandMembers
command_members version value =
    if has_form (command_form version) value then
    (option_and_then with_its_value
    (command_with
    (needed as_str (codes "on") value)
    (needed verb_in (codes "do") value)
    (if_there state_of (codes "to") value)
    (or_default guard_of Always (codes "when") value)
    (or_default as_bool true (codes "must") value)
    (ms_at value)
    (takes_at value)))
    else None

-- ---- the command

-- the job on a device of this kind, with states of these names
abbrev pub job_of : Verb → Option Data → Kind → List (List ℕ) → Option Job
job_of Set to kind states = option_map job.Set (option_and_then (value_in kind states) to)
job_of Check to kind states = option_map job.Check (option_and_then (value_in kind states) to)
job_of Load to kind states = Some job.Load
job_of Store to kind states = Some job.Store

-- the names of the states of the device with this number, and its kind
abbrev pub state_names_of : List PlainDevice → ℕ → List (List ℕ)
state_names_of devices d = option_map_or (λ device. device.states) (slice_get devices d) []

abbrev pub kind_of : List PlainDevice → ℕ → Kind
kind_of devices d = option_map_or (λ device. device.kind) (slice_get devices d) (States 0)

-- the command at this place of a script of this version, of devices that were read
unfoldable pub command_reading : ℕ → List PlainDevice → ℕ → ℕ → Data → Result Command ReadFault
command_reading version devices routine number value =
    let spot = inside part.Command routine number in do
      members ← ok_or (command_members version value) (Shape spot)
      device ← ok_or (place_of (device_names devices) members.device) (UnknownName spot)
      job ← ok_or
          (job_of members.verb members.to (kind_of devices device) (state_names_of devices device))
          (BadState spot)
      ms ← within_limit count.Ms members.ms
      takes ← within_limit count.Ms members.takes
      Ok (record {
        device = record { 0 = device };
        job = job;
        when = members.when;
        must = members.must;
        ms = ms;
        takes = takes;
      })

abbrev pub next_command_read : ℕ → List PlainDevice → ℕ → List Command → Data
    → Result Command ReadFault
next_command_read version devices routine earlier value =
    command_reading version devices routine (length earlier + 1) value
