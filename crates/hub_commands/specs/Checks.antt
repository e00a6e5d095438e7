-- How a check ends: by its fault, what was read and written.
use Rattle.day_clock.specs.Sinks.{AppendsPart}
use Rattle.day_clock.specs.Sources.{TakesCount, TakesUpTo}
use Rattle.home_types.specs.Limits.{most_check_bytes}
use Rattle.hub_commands.specs.Divisions.{division_of}
use Rattle.hub_commands.specs.Finishes.{IsUnwritten, Reads, Writes}
use Rattle.hub_commands.specs.declared.faults.Fault.TheVariants.{Check, Cross, Damaged, Disk, Memory, Read, Script as Refuses, Words, Write}
use Rattle.hub_commands.specs.declared.faults.Fault.{Fault}
use Rattle.order_checker.specs.Records.{verdict_of}
use Rattle.order_checker.specs.declared.verdicts.Place.TheVariants.{Answer, Device, Head, Home, Order, Run, Total, Window}
use Rattle.order_checker.specs.declared.verdicts.Place.{Place}
use Rattle.order_checker.specs.declared.verdicts.Verdict.TheVariants.{Agrees, Differs}
use Rattle.order_checker.specs.declared.verdicts.Verdict.{Verdict}
use Rattle.routine_reader.specs.Readings.{script_reading}
use Rattle.routine_reader.specs.Scripts.{PlainScript, plain_script}
use Rattle.routine_reader.specs.Sound.{IsSound}
use Rattle.routine_reader.specs.Spots.{is_memory}
use Rattle.routine_reader.specs.declared.faults.Count.TheVariants.{Bytes}
use Rattle.routine_reader.specs.declared.faults.ReadFault.TheVariants.{TooMany}
use Rattle.routine_reader.specs.declared.faults.ReadFault.{ReadFault}
use Rattle.routine_reader.specs.declared.scripts.Script.{Script}
use Rattle.std.specs.Io.KnownBytes.{Appends, IsAtEnd}
use Rattle.std.specs.Option.{option_map_or}
use Rattle.std.specs.Prelude.{Err, IfSome, List, None, Ok, Option, Result, Some, [], codes, false, if◌then◌else◌, length, nat_le, slice_get, ℕ, ⊤, ◌+◌, ◌<◌, ◌≡◌, ◌⊎◌}

-- the script that the input of a check has before its dividing line, or its refusal
abbrev pub input_reading : List ℕ → Result PlainScript ReadFault
input_reading bytes =
    if nat_le (length bytes) most_check_bytes then script_reading (division_of bytes).script
    else Err (TooMany Bytes (most_check_bytes + 1) most_check_bytes)

-- what is found of the record behind it
abbrev pub input_verdict : Script → List ℕ → Verdict
input_verdict script bytes = verdict_of script (division_of bytes).record_text

-- the name of the device in the place, empty where there is none
abbrev pub place_name : Script → Place → List ℕ
place_name script Head = []
place_name script Window = []
place_name script (Run run) = []
place_name script (Order item) = []
place_name script (Answer run command) = []
place_name script Home = []
place_name script (Device device) =
    option_map_or (λ text. text.name) (slice_get script.devices.items device.0) []
place_name script Total = []

-- what is found of a record by its script; memory may be wanted
abbrev pub IsJudged : Script → List ℕ → Result Unit Fault → Type 0
IsJudged script text (Ok done) = verdict_of script text ≡ Agrees
IsJudged script text (Err (Refuses fault)) = ⊥
IsJudged script text (Err Words) = ⊥
IsJudged script text (Err Read) = ⊥
IsJudged script text (Err Write) = ⊥
IsJudged script text (Err Memory) = ⊤
IsJudged script text (Err (Check window place name)) =
    (verdict_of script text ≡ Differs window place) × (name ≡ place_name script place)
IsJudged script text (Err (Cross window run follow)) = ⊥
IsJudged script text (Err Disk) = ⊥
IsJudged script text (Err (Damaged slot)) = ⊥

-- at most one byte more than the input of a check may have was taken
abbrev pub IsWithinCheckLimit : Reads → Type 0
IsWithinCheckLimit source = TakesUpTo source.left source.rest (most_check_bytes + 1)

-- the source gave all of its bytes without a fault, the script is the reading of those before the
-- dividing line, and sound, and this is found of the record behind it
pub record VerdictIsFound (source : Reads) (script : Script) (verdict : Verdict) : Type 0 where
  pub ended : IsAtEnd source.rest
  pub within : IsWithinCheckLimit source
  pub reading : IfSome source.left (λ bytes. input_reading bytes ≡ Ok (plain_script script))
  pub sound : IsSound (plain_script script)
  pub finding : IfSome source.left (λ bytes. input_verdict script bytes ≡ verdict)
  pub calm : source.faults_after ≡ source.faults

-- the source gave its bytes without a fault, to its end or to one byte more than the input may
-- have, and this refusal is the reading of the script
pub record ScriptIsRefused (source : Reads) (fault : ReadFault) : Type 0 where
  pub named : is_memory fault ≡ false
  pub taken : IsAtEnd source.rest ⊎ TakesCount source.left source.rest (most_check_bytes + 1)
  pub within : IsWithinCheckLimit source
  pub reading : IfSome source.left (λ bytes. input_reading bytes ≡ Err fault)
  pub calm : source.faults_after ≡ source.faults

-- the record does not agree with its script at this place of this window
pub record RecordDiffers (source : Reads) (window : ℕ) (place : Place)
    (name : List ℕ) : Type 0 where
  pub script : Script
  pub found : VerdictIsFound source script (Differs window place)
  pub named : name ≡ place_name script place

-- the record agrees with its script
pub record RecordAgrees (source : Reads) : Type 0 where
  pub script : Script
  pub found : VerdictIsFound source script Agrees

-- the source failed
abbrev pub CheckInputFails : Reads → Type 0
CheckInputFails source = (source.faults < source.faults_after) × IsWithinCheckLimit source

-- memory was wanted
abbrev pub CheckIsStarved : Reads → Type 0
CheckIsStarved source = (source.faults_after ≡ source.faults) × IsWithinCheckLimit source

-- what came of the input
abbrev pub InputIsJudged : Reads → Result Unit Fault → Type 0
InputIsJudged source (Ok done) = RecordAgrees source
InputIsJudged source (Err (Refuses fault)) = ScriptIsRefused source fault
InputIsJudged source (Err Words) = ⊥
InputIsJudged source (Err Read) = CheckInputFails source
InputIsJudged source (Err Write) = ⊥
InputIsJudged source (Err Memory) = CheckIsStarved source
InputIsJudged source (Err (Check window place name)) = RecordDiffers source window place name
InputIsJudged source (Err (Cross window run follow)) = ⊥
InputIsJudged source (Err Disk) = ⊥
InputIsJudged source (Err (Damaged slot)) = ⊥

-- what is written where the record agrees
abbrev pub agreement : List ℕ
agreement = codes "agrees\n"

-- it agrees, and so it was written
pub record AgreementIsWritten (source : Reads) (sink : Writes) : Type 0 where
  pub agrees : RecordAgrees source
  pub text : Appends sink.held sink.holds agreement
  pub calm : sink.faults_after ≡ sink.faults

-- it agrees, and the sink failed: it got a first part, and not all
pub record AgreementIsCut (source : Reads) (sink : Writes) : Type 0 where
  pub agrees : RecordAgrees source
  pub text : AppendsPart sink.held sink.holds agreement
  pub failed : sink.faults < sink.faults_after

-- how a check ends
abbrev pub CheckEnds : Reads → Writes → Option Fault → Type 0
CheckEnds source sink None = AgreementIsWritten source sink
CheckEnds source sink (Some (Refuses fault)) = IsUnwritten sink × ScriptIsRefused source fault
CheckEnds source sink (Some Words) = ⊥
CheckEnds source sink (Some Read) = IsUnwritten sink × CheckInputFails source
CheckEnds source sink (Some Write) = AgreementIsCut source sink
CheckEnds source sink (Some Memory) = IsUnwritten sink × CheckIsStarved source
CheckEnds source sink (Some (Check window place name)) =
    IsUnwritten sink × RecordDiffers source window place name
CheckEnds source sink (Some (Cross window run follow)) = ⊥
CheckEnds source sink (Some Disk) = ⊥
CheckEnds source sink (Some (Damaged slot)) = ⊥
