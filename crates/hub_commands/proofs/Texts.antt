-- The text of a day, chunk after chunk, and what the sink got of it.
use Rattle.day_clock.specs.Sinks.{AppendsPart}
use Rattle.day_report.proofs.Cited.{enumerate_from-append}
use Rattle.hub_commands.proofs.Prelude.{AppendsFirst, Bool, DayCourse, List, Mode, None, Option, Script, Some, WindowRecord, [], ap, append-nil, append_assoc, arith, board_text, boarded, common_steps, day_text_from, drop, enumerate_from, false, flat_map, flat_map_more, head_text, if◌then◌else◌, length, length-append, plain, record_text_on, refl, script_of, subst, suc, sym, take, take-append-drop, text_due, text_due_on, text_on, text_so_far, total_text, true, window_text, window_texts_from, zero, ℕ, ◌++◌, ◌+◌, ◌<◌, ◌==◌, ◌∙◌, ◌∷◌, ◌≡◌}
use Rattle.std.proofs.Math.Seq.{take-append_seam}
use Rattle.std.specs.Io.KnownBytes.{Appends, Keeps}

take_behind : {X : Type 0} (xs ys : List X) (n : ℕ) → take (length xs + n) (xs ++ ys) ≡ xs ++ take n ys
take_behind [] ys n = let none : 0 + n ≡ n = omega (arith) in ap (λ k. take k ys) none
take_behind (x ∷ xs) ys n =
    let one : suc (length xs) + n ≡ suc (length xs + n) = omega (arith) in
    ap (λ k. take k (x ∷ (xs ++ ys))) one ∙ ap (λ zs. x ∷ zs) (take_behind xs ys n)

take_within : {X : Type 0} (xs ys : List X) (n : ℕ) → n < length xs → take n (xs ++ ys) ≡ take n xs
take_within [] ys n within = absurd (omega (arith, within))
take_within (x ∷ xs) ys zero within = refl
take_within (x ∷ xs) ys (suc n) within = ap (λ zs. x ∷ zs) (take_within xs ys n (omega (arith, within)))

-- one chunk behind another
pub appends_more : (a b c : Option (List ℕ)) (xs ys : List ℕ) → Appends a b xs → Appends b c ys → Appends a c (xs ++ ys)
appends_more None b c xs ys first next = tt
appends_more (Some held) None c xs ys first next = absurd first
appends_more (Some held) (Some mid) None xs ys first next = absurd next
appends_more (Some held) (Some mid) (Some all) xs ys first next = next ∙ ap (λ zs. zs ++ ys) first ∙ append_assoc held xs ys

-- nothing behind a chunk
pub appends_keeps : (a b c : Option (List ℕ)) (xs : List ℕ) → Appends a b xs → Keeps b c → Appends a c xs
appends_keeps None b c xs first keeps = tt
appends_keeps (Some held) None c xs first keeps = absurd first
appends_keeps (Some held) (Some mid) None xs first keeps = absurd keeps
appends_keeps (Some held) (Some mid) (Some all) xs first keeps = keeps ∙ first

pub keeps_appends : (a b : Option (List ℕ)) → Keeps a b → Appends a b []
keeps_appends None b keeps = tt
keeps_appends (Some held) None keeps = absurd keeps
keeps_appends (Some held) (Some all) keeps = keeps ∙ sym (append-nil held)

-- a first part behind a chunk
pub part_more : (a b c : Option (List ℕ)) (xs ys : List ℕ) → Appends a b xs → AppendsPart b c ys → AppendsPart a c (xs ++ ys)
part_more a b c xs ys first part =
    let n = length-append xs ys in
    (length xs + part.0, omega (arith, n, part.1), subst (λ zs. Appends a c zs) (sym (take_behind xs ys part.0)) (appends_more a b c xs (take part.0 ys) first part.2))

-- a first part of a longer text
pub part_wider : (a b : Option (List ℕ)) (xs ys : List ℕ) → AppendsPart a b xs → AppendsPart a b (xs ++ ys)
part_wider a b xs ys part =
    let n = length-append xs ys in
    (part.0, omega (arith, n, part.1), subst (λ zs. Appends a b zs) (sym (take_within xs ys part.0 part.1)) part.2)

pub whole_first : (a b : Option (List ℕ)) (xs ys : List ℕ) → Appends a b xs → AppendsFirst a b (xs ++ ys)
whole_first a b xs ys all = (length xs, subst (λ zs. Appends a b zs) (sym (take-append_seam xs ys)) all)

-- a first part, or all, of a longer text
pub first_wider : (a b : Option (List ℕ)) (xs ys : List ℕ) → AppendsFirst a b xs → AppendsFirst a b (xs ++ ys)
first_wider a b xs ys part =
    let front = take part.0 xs in
    let rest = drop part.0 xs ++ ys in
    let all : xs ++ ys ≡ front ++ rest = ap (λ zs. zs ++ ys) (sym (take-append-drop part.0 xs)) ∙ append_assoc front (drop part.0 xs) ys in
    (length front, subst (λ zs. Appends a b zs) (sym (ap (take (length front)) all ∙ take-append_seam front rest)) part.1)

-- the text with one window more
pub text_more : (course : DayCourse) (mode : Mode) (trace : Bool) (records : List WindowRecord) (closed : WindowRecord)
    → text_on course mode trace (records ++ closed ∷ []) ≡ text_on course mode trace records ++ window_text course.begins.script (course.begins.before + length records) closed mode trace
unfolding window_texts_from
text_more course mode trace records closed =
    let before = course.begins.before in
    let f : ℕ × WindowRecord → List ℕ = λ ((k, c) : ℕ × WindowRecord). window_text course.begins.script k c mode trace in
    ap (λ ks. head_text mode ++ (course.above ++ flat_map f ks)) (enumerate_from-append before records closed)
    ∙ ap (λ t. head_text mode ++ t) (sym (flat_map_more f course.above (enumerate_from before records) (before + length records, closed)))
    ∙ sym (append_assoc (head_text mode) (course.above ++ flat_map f (enumerate_from before records)) (f (before + length records, closed)))

-- before the first window it is the head, and the lines below it
pub text_starts : (course : DayCourse) (mode : Mode) (trace : Bool) → text_on course mode trace [] ≡ head_text mode ++ course.above
unfolding window_texts_from
text_starts course mode trace = ap (λ t. head_text mode ++ t) (append-nil course.above)

-- with the total it is the text of the day
pub text_whole : (course : DayCourse) (mode : Mode) (trace : Bool) (records : List WindowRecord) → text_on course mode trace records ++ total_text records ≡ record_text_on plain course records mode trace
unfolding day_text_from
text_whole course mode trace records = refl

-- where all windows are there the text due has the total
pub due_whole : (course : DayCourse) (mode : Mode) (trace : Bool) (records : List WindowRecord) → length records ≡ length (script_of course).windows.items
    → text_due_on plain course mode trace records ≡ text_on course mode trace records ++ total_text records
due_whole course mode trace records all =
    let same : (length records == length (script_of course).windows.items) ≡ true = grind (arith, common_steps) in
    ap (λ b. text_on course mode trace records ++ (if b then total_text records else [])) same

under_test : (b : Bool) (xs ys : List ℕ) → (if b then xs ++ ys else []) ≡ (if b then xs else []) ++ (if b then ys else [])
under_test true xs ys = refl
under_test false xs ys = refl

-- what a board adds to the text due
pub board_due : Script → List WindowRecord → List ℕ
board_due script records = if length records == length script.windows.items then board_text records else []

-- with a board more is due
pub due_boarded : (script : Script) (mode : Mode) (trace : Bool) (records : List WindowRecord)
    → text_due boarded script mode trace records ≡ text_due plain script mode trace records ++ board_due script records
unfolding board_due
due_boarded script mode trace records =
    let all = length records == length script.windows.items in
    ap (λ t. text_so_far script mode trace records ++ t) (under_test all (total_text records) (board_text records))
    ∙ sym (append_assoc (text_so_far script mode trace records) (if all then total_text records else []) (if all then board_text records else []))

pub board_there : (script : Script) (records : List WindowRecord) → length records ≡ length script.windows.items → board_due script records ≡ board_text records
unfolding board_due
board_there script records all =
    let same : (length records == length script.windows.items) ≡ true = grind (arith, common_steps) in
    ap (λ b. if b then board_text records else []) same
