-- The two lines above the windows.
use Rattle.printed_records.proofs.Prelude.{Eventual, Global, List, Mode, Partitioned, Scheduler, Some, Visibility, Weak, ap, codes, false, has_order, head_text, is_head, is_note, lines_of, list_all, not, prints_order, refl, sym, true, true≢false, ℕ, ◌++◌, ◌==◌, ◌∙◌, ◌∷◌, ◌≡◌}
use Rattle.home_types.specs.declared.modes.Scheduler.TheVariants.{Fcfs, JustInTime, Timeline}
use Rattle.printed_records.proofs.LineTexts.{lines-line}
use Rattle.printed_records.proofs.Plain.{lacks-seen}

-- the second line of the head, which is one that a record may have
pub record IsHeadOf (mode : Mode) (second : List ℕ) : Type 0 where
  pub lines : (rest : List ℕ) → lines_of (head_text mode ++ rest) ≡ Some (codes "safehome day") ∷ Some second ∷ lines_of rest
  pub is : is_head (Some (codes "safehome day")) (Some second) ≡ true

two-lines : (second rest : List ℕ) → list_all (λ x. not (x == 10)) second ≡ true → is_note second ≡ false
    → lines_of (codes "safehome day" ++ 10 ∷ (second ++ 10 ∷ rest)) ≡ Some (codes "safehome day") ∷ Some second ∷ lines_of rest
two-lines second rest lacks plain =
    lines-line (codes "safehome day") (second ++ 10 ∷ rest) (lacks-seen 10 (codes "safehome day") refl) refl
    ∙ ap (λ lines. Some (codes "safehome day") ∷ lines) (lines-line second rest (lacks-seen 10 second lacks) plain)

head-of : (model : Visibility) (scheduler : Scheduler) → has_order model scheduler ≡ true
    → (second : List ℕ) × IsHeadOf (record { model = model; scheduler = scheduler }) second
unfolding head_text
head-of Weak scheduler has = absurd (true≢false (sym has))
head-of Global Fcfs has = (codes "model gsv fcfs", record { lines = λ rest. two-lines (codes "model gsv fcfs") rest refl refl; is = refl })
head-of Global JustInTime has = absurd (true≢false (sym has))
head-of Global Timeline has = absurd (true≢false (sym has))
head-of Partitioned Fcfs has = (codes "model psv fcfs", record { lines = λ rest. two-lines (codes "model psv fcfs") rest refl refl; is = refl })
head-of Partitioned JustInTime has = absurd (true≢false (sym has))
head-of Partitioned Timeline has = absurd (true≢false (sym has))
head-of Eventual Fcfs has = (codes "model ev fcfs", record { lines = λ rest. two-lines (codes "model ev fcfs") rest refl refl; is = refl })
head-of Eventual JustInTime has = (codes "model ev jit", record { lines = λ rest. two-lines (codes "model ev jit") rest refl refl; is = refl })
head-of Eventual Timeline has = (codes "model ev timeline", record { lines = λ rest. two-lines (codes "model ev timeline") rest refl refl; is = refl })

-- the head of a mode whose records can be checked is one
pub head-printed : (mode : Mode) → prints_order mode ≡ true → (second : List ℕ) × IsHeadOf mode second
head-printed mode has = head-of mode.model mode.scheduler has
