-- What a walk over the members of a command keeps of them.
use Rattle.routine_reader.specs.declared.commands.GivenMembers.{GivenMembers}
use Rattle.serde_json.specs.Data.{Data, Members}
use Rattle.serde_json.specs.Find.{get_member}
use Rattle.serde_json.specs.View.{view}
use Rattle.std.specs.Prelude.{List, Option, Some, codes, if◌then◌else◌, option_map, ℕ}
use Rattle.std.specs.Str.{bytes_eq}

-- the members of a command that are there, of any type
pub record Given : Type 0 where
  pub on : Option Data
  pub verb : Option Data
  pub to : Option Data
  pub when : Option Data
  pub must : Option Data
  pub ms : Option Data
  pub takes : Option Data

abbrev pub given_of : GivenMembers → Given
given_of given =
    record {
      on = option_map (λ m. view m.now) given.on;
      verb = option_map (λ m. view m.now) given.verb;
      to = option_map (λ m. view m.now) given.to;
      when = option_map (λ m. view m.now) given.when;
      must = option_map (λ m. view m.now) given.must;
      ms = option_map (λ m. view m.now) given.ms;
      takes = option_map (λ m. view m.now) given.takes;
    }

-- those among these
abbrev pub given_in : Members → Given
given_in members =
    record {
      on = get_member (codes "on") members;
      verb = get_member (codes "do") members;
      to = get_member (codes "to") members;
      when = get_member (codes "when") members;
      must = get_member (codes "must") members;
      ms = get_member (codes "ms") members;
      takes = get_member (codes "takes") members;
    }

-- the same with one that a command may have
abbrev pub with_member : List ℕ → Data → Given → Given
with_member name value given =
    if bytes_eq name (codes "on") then record given { on = Some value }
    else (if bytes_eq name (codes "do") then record given { verb = Some value }
    else (if bytes_eq name (codes "to") then record given { to = Some value }
    else (if bytes_eq name (codes "must") then record given { must = Some value }
    else (if bytes_eq name (codes "ms") then record given { ms = Some value }
    else (if bytes_eq name (codes "takes") then record given {
      takes = Some value;
    } else record given { when = Some value })))))
