-- A day that ended, and the line of a board behind it.
use Rattle.hub_commands.proofs.Prelude.{AppendsFirst, Check, Cross, Damaged, Day, DayEnds, DayIsWhole, Disk, Fault, IsCut, IsStarved, IsWrittenAsClosed, List, Listed, Memory, None, Option, Options, Read, Script, Shown, Some, WindowRecord, WindowWay, Words, Write, Writes, [], ap, append-nil, append_assoc, arith, board_text, boarded, day_text, new_course, option_map, plain, refl, subst, sym, take, text_due, text_so_far, total_text, written, ℕ, ◌++◌, ◌∙◌, ◌≡◌}
use Rattle.day_clock.specs.Sinks.{AppendsPart}
use Rattle.hub_commands.proofs.PlayedDays.{all_lead, keeps_same, lead_written, unbuilt}
use Rattle.hub_commands.proofs.Texts.{appends_keeps, appends_more, board_due, board_there, due_boarded, due_whole, first_wider, part_more, part_wider, text_whole, whole_first}
use Rattle.hub_commands.specs.LastLines.{LineEnds, LineIsWritten}
use Rattle.hub_commands.specs.Watched.{IsPublished}
use Rattle.hub_commands.specs.declared.faults.Fault.TheVariants.{Script as Refuses}
use Rattle.status_board.specs.declared.day_counts.Counts.{Counts}
use Rattle.std.specs.Io.KnownBytes.{Appends, Keeps}

module _ {D : Type 0} (works : WindowWay) (shows : D → Shown) (script : Script) (options : Options) (held mid holds : Option (List ℕ)) (f f_mid f_after : ℕ) where
  -- what was written as it closed is so still
  closed_still : (records : List WindowRecord) → IsWrittenAsClosed script options (written held mid f f_mid) records → Keeps mid holds → IsWrittenAsClosed script options (written held holds f f_after) records
  closed_still records as_closed keeps before closed is =
      let own = as_closed before closed is in
      (own.0, appends_keeps held mid holds (text_so_far script options.mode options.trace before ++ own.0) own.1 keeps)

  -- a day that was cut before the line
  cut_before : (day after : Option (Day D)) → after ≡ day → IsCut works shows plain script options (written held mid f f_mid) day → Keeps mid holds → f_after ≡ f_mid
      → IsCut works shows boarded script options (written held holds f f_after) after
  cut_before day after same cut keeps calm =
      let due = text_due plain script options.mode options.trace cut.day.windows.items in record {
        day = cut.day;
        given = same ∙ cut.given;
        devices = cut.devices;
        there = cut.there;
        legal = cut.legal;
        takes = cut.takes;
        played = cut.played;
        probed = cut.probed;
        text = subst (λ t. AppendsPart held holds t) (sym (due_boarded script options.mode options.trace cut.day.windows.items))
            (part_wider held holds due (board_due script cut.day.windows.items) (cut.text.0, cut.text.1, appends_keeps held mid holds (take cut.text.0 due) cut.text.2 keeps));
        as_closed = closed_still cut.day.windows.items cut.as_closed keeps;
        failed = let late = cut.failed in omega (arith, late, calm);
      }

  -- a day for which memory was wanted before the line
  starved_before : (day after : Option (Day D)) → after ≡ day → IsStarved works plain script options (written held mid f f_mid) day → Keeps mid holds → f_after ≡ f_mid
      → IsStarved works boarded script options (written held holds f f_after) after
  starved_before day after same starved keeps calm =
      let due = text_due plain script options.mode options.trace starved.day.windows.items in record {
        day = starved.day;
        given = same ∙ starved.given;
        no_devices = starved.no_devices;
        takes = starved.takes;
        played = starved.played;
        text = subst (λ t. AppendsFirst held holds t) (sym (due_boarded script options.mode options.trace starved.day.windows.items))
            (first_wider held holds due (board_due script starved.day.windows.items) (starved.text.0, appends_keeps held mid holds (take starved.text.0 due) starved.text.1 keeps));
        as_closed = closed_still starved.day.windows.items starved.as_closed keeps;
        calm = calm ∙ starved.calm;
      }

  module _ (day after : Option (Day D)) (line : List ℕ) (whole : DayIsWhole works shows plain script options (written held mid f f_mid) day) (is : line ≡ board_text whole.day.windows.items) where
    abbrev records : List WindowRecord
    records = whole.day.windows.items

    abbrev text : List ℕ
    text = day_text script records options.mode options.trace

    -- the text that is due is the day's and the line
    all_due : text_due boarded script options.mode options.trace records ≡ text ++ line
    all_due =
        due_boarded script options.mode options.trace records
        ∙ ap (λ t. t ++ board_due script records) (due_whole (new_course script) options.mode options.trace records whole.legal.count ∙ text_whole (new_course script) options.mode options.trace records)
        ∙ ap (λ t. text ++ t) (board_there script records whole.legal.count ∙ sym is)

    -- the day's text leads with each window
    written_before : (more : List ℕ) → Appends held holds (text ++ more) → IsWrittenAsClosed script options (written held holds f f_after) records
    written_before more got =
        lead_written (new_course script) options held holds f f_after records (text_so_far script options.mode options.trace records) (total_text records ++ more) (all_lead (new_course script) options records)
        (subst (λ t. Appends held holds t) (ap (λ t. t ++ more) (sym (text_whole (new_course script) options.mode options.trace records)) ∙ append_assoc (text_so_far script options.mode options.trace records) (total_text records) more) got)

    behind_whole : (why : Option Fault) → LineIsWritten line (written mid holds f_mid f_after) day after why → DayEnds works shows boarded script options (written held holds f f_after) after why
    behind_whole None got = record {
      day = whole.day;
      given = got.0 ∙ whole.given;
      devices = whole.devices;
      there = whole.there;
      legal = whole.legal;
      takes = whole.takes;
      played = whole.played;
      probed = whole.probed;
      text = appends_more held mid holds text (board_text records) whole.text (subst (λ t. Appends mid holds t) is got.1);
      calm = got.2 ∙ whole.calm;
    }
    behind_whole (Some (Refuses fault)) got = got
    behind_whole (Some Words) got = got
    behind_whole (Some Read) got = got
    behind_whole (Some Write) got = record {
      day = whole.day;
      given = got.0 ∙ whole.given;
      devices = whole.devices;
      there = whole.there;
      legal = record { count = let all = whole.legal.count in omega (arith, all); legal = whole.legal.legal; left = whole.legal.left };
      takes = whole.takes;
      played = whole.played;
      probed = whole.probed;
      text = subst (λ t. AppendsPart held holds t) (sym all_due) (part_more held mid holds text line whole.text got.1);
      as_closed = written_before (take got.1.0 line) (appends_more held mid holds text (take got.1.0 line) whole.text got.1.2);
      failed = let late = got.2 in let calm = whole.calm in omega (arith, late, calm);
    }
    behind_whole (Some Memory) got =
        let kept = appends_keeps held mid holds text whole.text got.1.0 in record {
          day = record { windows = whole.day.windows; devices = None };
          given = got.0 ∙ ap (λ o. option_map (λ (d : Day D). record { windows = d.windows; devices = None }) o) whole.given;
          no_devices = refl;
          takes = whole.takes;
          played = whole.played;
          text = subst (λ t. AppendsFirst held holds t) (sym all_due) (whole_first held holds text line kept);
          as_closed = written_before [] (subst (λ t. Appends held holds t) (sym (append-nil text)) kept);
          calm = got.1.1 ∙ whole.calm;
        }
    behind_whole (Some (Check window place name)) got = got
    behind_whole (Some (Cross window run follow)) got = got
    behind_whole (Some Disk) got = got
    behind_whole (Some (Damaged slot)) got = got

  -- the day ends with the line behind it
  pub line_ends : (day after : Option (Day D)) (fault why : Option Fault) (line : List ℕ) → DayEnds works shows plain script options (written held mid f f_mid) day fault
      → LineEnds line (written mid holds f_mid f_after) day fault after why → (fault ≡ None → (d : Day D) → day ≡ Some d → line ≡ board_text d.windows.items)
      → DayEnds works shows boarded script options (written held holds f f_after) after why
  line_ends day after None why line ends got is = behind_whole day after line ends (is refl ends.day ends.given) why got
  line_ends day after (Some (Refuses fault)) why line ends got is = absurd ends
  line_ends day after (Some Words) why line ends got is = absurd ends
  line_ends day after (Some Read) why line ends got is = absurd ends
  line_ends day after (Some Write) why line ends got is =
      subst (λ (w : Option Fault). DayEnds works shows boarded script options (written held holds f f_after) after w) (sym got.1) (cut_before day after got.0 ends got.2.0 got.2.1)
  line_ends day after (Some Memory) why line ends got is =
      subst (λ (w : Option Fault). DayEnds works shows boarded script options (written held holds f f_after) after w) (sym got.1) (starved_before day after got.0 ends got.2.0 got.2.1)
  line_ends day after (Some (Check window place name)) why line ends got is = absurd ends
  line_ends day after (Some (Cross window run follow)) why line ends got is = absurd ends
  line_ends day after (Some Disk) why line ends got is = absurd ends
  line_ends day after (Some (Damaged slot)) why line ends got is = absurd ends

-- no memory for the board
pub unbuilt_boarded : {D : Type 0} (works : WindowWay) (shows : D → Shown) (script : Script) (options : Options) (held : Option (List ℕ)) (f : ℕ) (windows : Listed WindowRecord) (day : Option (Day D)) (why : Option Fault)
    → windows.items ≡ [] → day ≡ Some (record { windows = windows; devices = None }) → why ≡ Some Memory
    → DayEnds works shows boarded script options (written held held f f) day why
unbuilt_boarded works shows script options held f windows day why none given because =
    let ends = unbuilt works shows (new_course script) options held f windows day why none given because in
    subst (λ (w : Option Fault). DayEnds works shows boarded script options (written held held f f) day w) (sym because)
    (starved_before works shows script options held held held f f f day day refl (subst (λ (w : Option Fault). DayEnds works shows plain script options (written held held f f) day w) because ends) (keeps_same held) refl)

-- behind the line the windows are the same
pub line_published : {D : Type 0} (line : List ℕ) (sink : Writes) (list : List Counts) (day after : Option (Day D)) (fault why : Option Fault) → LineEnds line sink day fault after why → IsPublished list day → IsPublished list after
line_published line sink list day after (Some e) why ends is = record { day = is.day; given = ends.0 ∙ is.given; published = is.published }
line_published line sink list day after None None ends is = record { day = is.day; given = ends.0 ∙ is.given; published = is.published }
line_published line sink list day after None (Some (Refuses e)) ends is = absurd ends
line_published line sink list day after None (Some Words) ends is = absurd ends
line_published line sink list day after None (Some Read) ends is = absurd ends
line_published line sink list day after None (Some Write) ends is = record { day = is.day; given = ends.0 ∙ is.given; published = is.published }
line_published {D = D} line sink list day after None (Some Memory) ends is = record {
  day = record { windows = is.day.windows; devices = None };
  given = ends.0 ∙ ap (λ o. option_map (λ (d : Day D). record { windows = d.windows; devices = None }) o) is.given;
  published = is.published;
}
line_published line sink list day after None (Some (Check window place name)) ends is = absurd ends
line_published line sink list day after None (Some (Cross window run follow)) ends is = absurd ends
line_published line sink list day after None (Some Disk) ends is = absurd ends
line_published line sink list day after None (Some (Damaged slot)) ends is = absurd ends
