-- The day of a script: what holds before each window, and how it ends.
use Rattle.hub_commands.proofs.Prelude.{AppendsFirst, ChunkFault, Day, DayCourse, DayEndsOn, DevicesAreProbed, Err, Fault, HasGoneOn, HomeState, IfOk, IsCutOn, IsGoingOn, IsLegalCutDayFrom, IsLegalDayFrom, IsStarvedOn, IsUnderWayOn, IsWholeOn, IsWrittenAsClosedOn, List, Listed, Mode, None, Ok, Option, Options, Result, Shown, Some, WindowRecord, WindowWay, WindowsArePlayedOn, [], ap, append-nil, append_assoc, arith, head_text, if◌then◌else◌, length, plain, refl, script_of, subst, sym, take, text_due_on, text_on, total_text, window_text, written, ℕ, ◌++◌, ◌+◌, ◌==◌, ◌∙◌, ◌∷◌, ◌≡◌}
use Rattle.day_clock.specs.Sinks.{AppendsPart}
use Rattle.hub_commands.proofs.DaysUnderWay.{cut_is_legal, day_is_legal, no_window}
use Rattle.hub_commands.proofs.Snocs.{no_snoc, snoc_front}
use Rattle.hub_commands.proofs.Texts.{appends_keeps, appends_more, due_whole, keeps_appends, part_more, part_wider, text_more, text_starts, text_whole, whole_first}
use Rattle.hub_commands.specs.Chunks.{ChunkEnds, StopEnds}
use Rattle.hub_commands.specs.declared.faults.Fault.TheVariants.{Memory as WantsMemory}
use Rattle.hub_commands.specs.declared.chunks.ChunkFault.TheVariants.{Memory, Sink}
use Rattle.std.specs.Io.KnownBytes.{Appends, Keeps}

-- what follows the texts so far in the text that is due
abbrev after_texts : DayCourse → List WindowRecord → List ℕ
after_texts course records = if length records == length (script_of course).windows.items then total_text records else []

pub said : {M : Type 0} (chunk : Result (List ℕ) M) (text bytes : List ℕ) → IfOk chunk (λ b. b ≡ text) → chunk ≡ Ok bytes → bytes ≡ text
said {M} chunk text bytes ok is = subst (λ (r : Result (List ℕ) M). IfOk r (λ b. b ≡ text)) is ok

-- what is not written is kept
pub keeps_same : (held : Option (List ℕ)) → Keeps held held
keeps_same None = tt
keeps_same (Some bytes) = refl

-- these bytes begin with the text of the windows but the last
abbrev pub LeadWith : DayCourse → Options → List WindowRecord → List ℕ → Type 0
LeadWith course options records bytes = (before : List WindowRecord) (closed : WindowRecord) → records ≡ before ++ closed ∷ []
    → (rest : List ℕ) × (bytes ≡ text_on course options.mode options.trace before ++ rest)

-- with no window there is none to write
pub none_leads : (course : DayCourse) (options : Options) (records : List WindowRecord) (bytes : List ℕ) → records ≡ [] → LeadWith course options records bytes
none_leads course options records bytes none before closed is = absurd (no_snoc before closed (sym none ∙ is))

-- the text of all windows does
pub all_lead : (course : DayCourse) (options : Options) (records : List WindowRecord) → LeadWith course options records (text_on course options.mode options.trace records)
all_lead course options records before closed is = (
  window_text course.begins.script (course.begins.before + length before) closed options.mode options.trace,
  ap (λ rs. text_on course options.mode options.trace rs) is ∙ text_more course options.mode options.trace before closed,
)

-- the text of the windows but the last does
pub rest_lead : (course : DayCourse) (options : Options) (earlier : List WindowRecord) (last : WindowRecord) (records : List WindowRecord) → records ≡ earlier ++ last ∷ []
    → LeadWith course options records (text_on course options.mode options.trace earlier)
rest_lead course options earlier last records all before closed is = (
  [],
  ap (λ rs. text_on course options.mode options.trace rs) (snoc_front earlier before last closed (sym all ∙ is)) ∙ sym (append-nil (text_on course options.mode options.trace before)),
)

-- so the sink that got these bytes, and any more, has each window but the last
pub lead_written : (course : DayCourse) (options : Options) (held holds : Option (List ℕ)) (f f_after : ℕ) (records : List WindowRecord) (bytes more : List ℕ)
    → LeadWith course options records bytes → Appends held holds (bytes ++ more) → IsWrittenAsClosedOn course options (written held holds f f_after) records
lead_written course options held holds f f_after records bytes more leads got before closed is =
    let own = leads before closed is in
    (own.0 ++ more, subst (λ t. Appends held holds t) (ap (λ t. t ++ more) own.1 ∙ append_assoc (text_on course options.mode options.trace before) own.0 more) got)

-- the same where it got these bytes alone
pub lead_whole : (course : DayCourse) (options : Options) (held holds : Option (List ℕ)) (f f_after : ℕ) (records : List WindowRecord) (bytes : List ℕ)
    → LeadWith course options records bytes → Appends held holds bytes → IsWrittenAsClosedOn course options (written held holds f f_after) records
lead_whole course options held holds f f_after records bytes leads got =
    lead_written course options held holds f f_after records bytes [] leads (subst (λ t. Appends held holds t) (sym (append-nil bytes)) got)

-- a chunk was not written: the sink has all before it, and a first part of it
stopped : {D M : Type 0} (works : WindowWay) (shows : D → Shown) (course : DayCourse) (options : Options)
    (held mid holds : Option (List ℕ)) (f f_mid f_after : ℕ) (home : HomeState D) (windows : Listed WindowRecord) (before : List ℕ) (chunk : Result (List ℕ) M)
    (fault : ChunkFault) (day : Option (Day D)) (why : Option Fault)
    → IsUnderWayOn works shows course options.mode home windows.items
    → Appends held mid before → LeadWith course options windows.items before → f_mid ≡ f
    → ChunkEnds (written mid holds f_mid f_after) chunk (Err fault) → StopEnds windows home.devices fault day why
    → (tail : List ℕ) × (text_due_on plain course options.mode options.trace windows.items ≡ before ++ tail)
    → ((bytes : List ℕ) → chunk ≡ Ok bytes → (rest : List ℕ) × (text_due_on plain course options.mode options.trace windows.items ≡ (before ++ bytes) ++ rest))
    → DayEndsOn works shows plain course options (written held holds f f_after) day why
stopped works shows course options held mid holds f f_mid f_after home windows before chunk Sink day why under first leads calm ended stop tail due =
    let rest = due ended.0 ended.1 in
    let cut : IsCutOn works shows plain course options (written held holds f f_after) day = record {
      day = record { windows = windows; devices = Some stop.0 };
      given = stop.2;
      devices = stop.0;
      there = refl;
      legal = subst (λ ds. IsLegalCutDayFrom shows course.begins options.mode windows.items ds) (sym stop.1)
          (cut_is_legal works shows course options.mode home windows.items under);
      takes = under.takes;
      played = under.played;
      probed = subst (λ ds. DevicesAreProbed shows under.takes ds) (sym stop.1) under.probed;
      text = subst (λ t. AppendsPart held holds t) (sym rest.1) (part_wider held holds (before ++ ended.0) rest.0 (part_more held mid holds before ended.0 first ended.2));
      as_closed = lead_written course options held holds f f_after windows.items before (take ended.2.0 ended.0) leads (appends_more held mid holds before (take ended.2.0 ended.0) first ended.2.2);
      failed = let late = ended.3 in omega (arith, late, calm);
    } in
    subst (λ (w : Option Fault). DayEndsOn works shows plain course options (written held holds f f_after) day w) (sym stop.3) cut
stopped works shows course options held mid holds f f_mid f_after home windows before chunk Memory day why under first leads calm ended stop tail due =
    let starved : IsStarvedOn works plain course options (written held holds f f_after) day = record {
      day = record { windows = windows; devices = None };
      given = stop.0;
      no_devices = refl;
      takes = under.takes;
      played = under.played;
      text = subst (λ t. AppendsFirst held holds t) (sym tail.1) (whole_first held holds before tail.0 (appends_keeps held mid holds before first ended.0));
      as_closed = lead_whole course options held holds f f_after windows.items before leads (appends_keeps held mid holds before first ended.0);
      calm = ended.1 ∙ calm;
    } in
    subst (λ (w : Option Fault). DayEndsOn works shows plain course options (written held holds f f_after) day w) (sym stop.1) starved

-- the home before its first window
home_starts : {D : Type 0} (works : WindowWay) (shows : D → Shown) (course : DayCourse) (mode : Mode) (home : HomeState D) (records : List WindowRecord)
    → IsUnderWayOn works shows course mode home [] → records ≡ []
    → IsUnderWayOn works shows course mode home records
home_starts works shows course mode home records starts none =
    subst (λ rs. IsUnderWayOn works shows course mode home rs) (sym none) starts

-- the head is written, with the lines below it
pub begun : {D M : Type 0} (works : WindowWay) (shows : D → Shown) (course : DayCourse) (options : Options) (held holds : Option (List ℕ)) (f f_after : ℕ) (home : HomeState D) (records : List WindowRecord) (chunk : Result (List ℕ) M)
    → IsUnderWayOn works shows course options.mode home [] → records ≡ []
    → IfOk chunk (λ b. b ≡ head_text options.mode ++ course.above) → ChunkEnds (written held holds f f_after) chunk (Ok tt)
    → IsGoingOn works shows course options (written held holds f f_after) home records
begun works shows course options held holds f f_after home records chunk starts none ok ended = record {
  under_way = home_starts works shows course options.mode home records starts none;
  text = subst (λ t. Appends held holds t)
      (said chunk (head_text options.mode ++ course.above) ended.0 ok ended.1 ∙ sym (text_starts course options.mode options.trace) ∙ ap (λ rs. text_on course options.mode options.trace rs) (sym none)) ended.2;
  calm = ended.3;
}

-- the head of a script's day stands alone
pub head_alone : {M : Type 0} (chunk : Result (List ℕ) M) (mode : Mode) → IfOk chunk (λ b. b ≡ head_text mode) → IfOk chunk (λ b. b ≡ head_text mode ++ [])
head_alone (Ok bytes) mode is = is ∙ sym (append-nil (head_text mode))
head_alone (Err e) mode is = tt

-- the head is not written
pub head_stopped : {D M : Type 0} (works : WindowWay) (shows : D → Shown) (course : DayCourse) (options : Options)
    (held holds : Option (List ℕ)) (f f_after : ℕ) (home : HomeState D) (windows : Listed WindowRecord) (chunk : Result (List ℕ) M) (fault : ChunkFault)
    (day : Option (Day D)) (why : Option Fault)
    → IsUnderWayOn works shows course options.mode home [] → windows.items ≡ []
    → IfOk chunk (λ b. b ≡ head_text options.mode ++ course.above) → ChunkEnds (written held holds f f_after) chunk (Err fault) → StopEnds windows home.devices fault day why
    → DayEndsOn works shows plain course options (written held holds f f_after) day why
head_stopped works shows course options held holds f f_after home windows chunk fault day why starts none ok ended stop =
    stopped works shows course options held held holds f f f_after home windows [] chunk fault day why
    (home_starts works shows course options.mode home windows.items starts none)
    (keeps_appends held held (keeps_same held)) (none_leads course options windows.items [] none) refl ended stop
    (text_due_on plain course options.mode options.trace windows.items, refl)
    (λ bytes is. (
      after_texts course windows.items,
      ap (λ t. t ++ after_texts course windows.items)
          (ap (λ rs. text_on course options.mode options.trace rs) none ∙ text_starts course options.mode options.trace ∙ sym (said chunk (head_text options.mode ++ course.above) bytes ok is)),
    ))

-- a window was played, and its lines are written
pub goes_on : {D M : Type 0} (works : WindowWay) (shows : D → Shown) (course : DayCourse) (options : Options) (held mid holds : Option (List ℕ)) (f f_mid f_after : ℕ) (home next : HomeState D) (records more : List WindowRecord) (chunk : Result (List ℕ) M)
    → IsGoingOn works shows course options (written held mid f f_mid) home records
    → HasGoneOn works shows course options.mode records next more
    → ((before : List WindowRecord) (closed : WindowRecord) → more ≡ before ++ closed ∷ [] → IfOk chunk (λ lines. lines ≡ window_text course.begins.script (course.begins.before + length before) closed options.mode options.trace))
    → ChunkEnds (written mid holds f_mid f_after) chunk (Ok tt)
    → IsGoingOn works shows course options (written held holds f f_after) next more
goes_on works shows course options held mid holds f f_mid f_after home next records more chunk day gone lines ended =
    let own = said chunk (window_text course.begins.script (course.begins.before + length records) gone.closed options.mode options.trace) ended.0 (lines records gone.closed gone.more) ended.1 in
    record {
      under_way = gone.under_way;
      text = subst (λ t. Appends held holds t)
          (ap (λ ls. text_on course options.mode options.trace records ++ ls) own ∙ sym (text_more course options.mode options.trace records gone.closed) ∙ ap (λ rs. text_on course options.mode options.trace rs) (sym gone.more))
          (appends_more held mid holds (text_on course options.mode options.trace records) ended.0 day.text ended.2);
      calm = ended.3 ∙ day.calm;
    }

-- its lines are not written
pub lines_stopped : {D M : Type 0} (works : WindowWay) (shows : D → Shown) (course : DayCourse) (options : Options)
    (held mid holds : Option (List ℕ)) (f f_mid f_after : ℕ) (home next : HomeState D) (records : List WindowRecord) (windows : Listed WindowRecord)
    (chunk : Result (List ℕ) M) (fault : ChunkFault) (day : Option (Day D)) (why : Option Fault)
    → IsGoingOn works shows course options (written held mid f f_mid) home records
    → HasGoneOn works shows course options.mode records next windows.items
    → ((before : List WindowRecord) (closed : WindowRecord) → windows.items ≡ before ++ closed ∷ [] → IfOk chunk (λ lines. lines ≡ window_text course.begins.script (course.begins.before + length before) closed options.mode options.trace))
    → ChunkEnds (written mid holds f_mid f_after) chunk (Err fault) → StopEnds windows next.devices fault day why
    → DayEndsOn works shows plain course options (written held holds f f_after) day why
lines_stopped works shows course options held mid holds f f_mid f_after home next records windows chunk fault day why under gone lines ended stop =
    stopped works shows course options held mid holds f f_mid f_after next windows (text_on course options.mode options.trace records) chunk fault day why
    gone.under_way under.text (rest_lead course options records gone.closed windows.items gone.more) under.calm ended stop
    (own ++ after_texts course windows.items, due ∙ append_assoc (text_on course options.mode options.trace records) own (after_texts course windows.items))
    (λ bytes is. (
      after_texts course windows.items,
      due ∙ ap (λ ls. (text_on course options.mode options.trace records ++ ls) ++ after_texts course windows.items)
          (sym (said chunk own bytes (lines records gone.closed gone.more) is)),
    ))
  where
    own : List ℕ
    own = window_text course.begins.script (course.begins.before + length records) gone.closed options.mode options.trace

    due : text_due_on plain course options.mode options.trace windows.items ≡ (text_on course options.mode options.trace records ++ own) ++ after_texts course windows.items
    due = ap (λ t. t ++ after_texts course windows.items)
        (ap (λ rs. text_on course options.mode options.trace rs) gone.more ∙ text_more course options.mode options.trace records gone.closed)

-- the total is not written
pub total_stopped : {D M : Type 0} (works : WindowWay) (shows : D → Shown) (course : DayCourse) (options : Options)
    (held mid holds : Option (List ℕ)) (f f_mid f_after : ℕ) (home : HomeState D) (windows : Listed WindowRecord) (chunk : Result (List ℕ) M)
    (fault : ChunkFault) (day : Option (Day D)) (why : Option Fault)
    → IsGoingOn works shows course options (written held mid f f_mid) home windows.items
    → length windows.items ≡ length (script_of course).windows.items
    → IfOk chunk (λ b. b ≡ total_text windows.items)
    → ChunkEnds (written mid holds f_mid f_after) chunk (Err fault) → StopEnds windows home.devices fault day why
    → DayEndsOn works shows plain course options (written held holds f f_after) day why
total_stopped works shows course options held mid holds f f_mid f_after home windows chunk fault day why under all ok ended stop =
    stopped works shows course options held mid holds f f_mid f_after home windows (text_on course options.mode options.trace windows.items) chunk fault day why
    under.under_way under.text (all_lead course options windows.items) under.calm ended stop
    (after_texts course windows.items, refl)
    (λ bytes is. (
      [],
      due_whole course options.mode options.trace windows.items all
          ∙ ap (λ t. text_on course options.mode options.trace windows.items ++ t) (sym (said chunk (total_text windows.items) bytes ok is))
          ∙ sym (append-nil (text_on course options.mode options.trace windows.items ++ bytes)),
    ))

-- all is written
pub finished : {D M : Type 0} (works : WindowWay) (shows : D → Shown) (course : DayCourse) (options : Options)
    (held mid holds : Option (List ℕ)) (f f_mid f_after : ℕ) (home : HomeState D) (windows : Listed WindowRecord) (devices : Listed D)
    (chunk : Result (List ℕ) M)
    → IsGoingOn works shows course options (written held mid f f_mid) home windows.items
    → length windows.items ≡ length (script_of course).windows.items
    → IfOk chunk (λ b. b ≡ total_text windows.items)
    → ChunkEnds (written mid holds f_mid f_after) chunk (Ok tt) → devices.items ≡ home.devices
    → IsWholeOn works shows plain course options (written held holds f f_after) (Some (record { windows = windows; devices = Some devices }))
finished works shows course options held mid holds f f_mid f_after home windows devices chunk day all ok ended same = record {
  day = record { windows = windows; devices = Some devices };
  given = refl;
  devices = devices;
  there = refl;
  legal = subst (λ ds. IsLegalDayFrom shows course.begins options.mode windows.items ds) (sym same)
      (day_is_legal works shows course options.mode home windows.items day.under_way all);
  takes = day.under_way.takes;
  played = day.under_way.played;
  probed = subst (λ ds. DevicesAreProbed shows day.under_way.takes ds) (sym same) day.under_way.probed;
  text = subst (λ t. Appends held holds t)
      (ap (λ t. text_on course options.mode options.trace windows.items ++ t) (said chunk (total_text windows.items) ended.0 ok ended.1) ∙ text_whole course options.mode options.trace windows.items)
      (appends_more held mid holds (text_on course options.mode options.trace windows.items) ended.0 day.text ended.2);
  calm = ended.3 ∙ day.calm;
}

-- no memory for the next window
pub starved : {D : Type 0} (works : WindowWay) (shows : D → Shown) (course : DayCourse) (options : Options)
    (held holds : Option (List ℕ)) (f f_after : ℕ) (home : HomeState D) (records : List WindowRecord) (windows : Listed WindowRecord) (day : Option (Day D))
    (why : Option Fault)
    → IsGoingOn works shows course options (written held holds f f_after) home records → windows.items ≡ records
    → day ≡ Some (record { windows = windows; devices = None }) → why ≡ Some WantsMemory
    → DayEndsOn works shows plain course options (written held holds f f_after) day why
starved works shows course options held holds f f_after home records windows day why under same given because =
    let ends : IsStarvedOn works plain course options (written held holds f f_after) day = record {
      day = record { windows = windows; devices = None };
      given = given;
      no_devices = refl;
      takes = under.under_way.takes;
      played = subst (λ rs. WindowsArePlayedOn works course options.mode rs under.under_way.takes) (sym same) under.under_way.played;
      text = subst (λ rs. AppendsFirst held holds (text_due_on plain course options.mode options.trace rs)) (sym same)
          (whole_first held holds (text_on course options.mode options.trace records) (after_texts course records) under.text);
      as_closed = subst (λ rs. IsWrittenAsClosedOn course options (written held holds f f_after) rs) (sym same)
          (lead_whole course options held holds f f_after records (text_on course options.mode options.trace records) (all_lead course options records) under.text);
      calm = under.calm;
    } in
    subst (λ (w : Option Fault). DayEndsOn works shows plain course options (written held holds f f_after) day w) (sym because) ends

-- no memory for the home
pub unbuilt : {D : Type 0} (works : WindowWay) (shows : D → Shown) (course : DayCourse) (options : Options) (held : Option (List ℕ)) (f : ℕ) (windows : Listed WindowRecord) (day : Option (Day D)) (why : Option Fault)
    → windows.items ≡ [] → day ≡ Some (record { windows = windows; devices = None }) → why ≡ Some WantsMemory
    → DayEndsOn works shows plain course options (written held held f f) day why
unbuilt works shows course options held f windows day why none given because =
    let ends : IsStarvedOn works plain course options (written held held f f) day = record {
      day = record { windows = windows; devices = None };
      given = given;
      no_devices = refl;
      takes = [];
      played = subst (λ rs. WindowsArePlayedOn works course options.mode rs []) (sym none) (no_window works course options.mode);
      text = (0, keeps_appends held held (keeps_same held));
      as_closed = lead_whole course options held held f f windows.items [] (none_leads course options windows.items [] none) (keeps_appends held held (keeps_same held));
      calm = refl;
    } in
    subst (λ (w : Option Fault). DayEndsOn works shows plain course options (written held held f f) day w) (sym because) ends
