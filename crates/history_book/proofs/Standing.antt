-- In a well-formed history a run stands in the line exactly where it is placed and no abort of it has ended.
use Rattle.history_book.proofs.Prelude.{Aborted, Arrived, Back, Bool, Committed, DeviceNo, Did, Doomed, End, Ended, Entry, Failed, Fell, IsTrue, Item, List, None, OfRun, Placed, Ran, Reading, Rose, RunNo, Setting, Some, Undid, [], along, ap, ap₂, arith, common_steps, did, driven, entry, false, filter, fold, front_for, if◌then◌else◌, is_none, is_open, is_ran, is_some, is_weak, is_well_formed, list_any, may_follow, not, nothing_read, of_run, option_map, planned_times, put, reading, refl, split_of, sym, true, unwrap_or, with_turn, ℕ, ◌&&◌, ◌+◌, ◌==◌, ◌||◌, ◌∙◌, ◌∷◌, ◌≡◌}
use Rattle.history_book.proofs.Lines.{any_insert, any_other, any_put_before, any_without}
use Rattle.history_book.proofs.Snoc.{put_keeps}
use Rattle.history_book.proofs.Splits.{split_any}

abbrev pub is_abort : End → Bool
is_abort Committed = false
is_abort (Aborted cause) = true

abbrev pub aborted : OfRun → Bool
aborted o = unwrap_or (option_map is_abort o.ended) false

abbrev pub stands_in : OfRun → Bool
stands_in o = is_some o.placed && not (aborted o)

pub record Standing (n : Reading) : Type 0 where
  pub line : (r : ℕ) → list_any (is_ran r) n.line ≡ stands_in (n.run r)
  pub begun : (r : ℕ) → (is_some (n.run r).placed || is_none (n.run r).ended) ≡ true

abbrev pub begun_in : OfRun → Bool
begun_in o = is_some o.placed || is_none o.ended

-- an entry that leaves the line, and of its run the place and the end
same_line : (n m : Reading) (r : ℕ) (o : OfRun) → m.line ≡ n.line → m.run ≡ put n.run r o → o.placed ≡ (n.run r).placed → o.ended ≡ (n.run r).ended → Standing n → Standing m
same_line n m r o line run placed ended s =
    record {
      line = λ q. ap (list_any (is_ran q)) line ∙ s.line q ∙ sym (ap (λ f. stands_in (f q)) run ∙ put_keeps stands_in n.run r o (ap₂ (λ p e. is_some p && not (unwrap_or (option_map is_abort e) false)) placed ended) q);
      begun = λ q. ap (λ f. begun_in (f q)) run ∙ put_keeps begun_in n.run r o (ap₂ (λ p e. is_some p || is_none e) placed ended) q ∙ s.begun q;
    }

-- an event
event_stands : (w : Setting) (n : Reading) (d : DeviceNo) (x : Item) (up : Bool) → ((r : ℕ) → is_ran r x ≡ false) → Standing n → (r : ℕ) → list_any (is_ran r) (with_turn w n d x up).line ≡ stands_in (n.run r)
event_stands w n d x up never s r =
    any_put_before (is_ran r) (of_run (λ q. not (is_weak w.mode) && is_open w n q d.0 && not (did n q d.0))) x n.line ∙ ap (λ b. b || list_any (is_ran r) n.line) (never r) ∙ s.line r

not_placed : (n : Reading) (r : ℕ) → (is_some (n.run r).placed || is_none (n.run r).ended) ≡ true → is_none (n.run r).placed ≡ true → aborted (n.run r) ≡ false
not_placed n r begun none = elim (n.run r).ended as (λ e. (is_some (n.run r).placed || is_none e) ≡ true → unwrap_or (option_map is_abort e) false ≡ false) [
  | None ↦ (λ b. refl)
  | Some e ↦ (λ b. absurd (grind (arith, common_steps)))
] begun

ran_is : (r q : ℕ) → (q == r) ≡ true → q ≡ r
ran_is r q e = grind (arith, common_steps)

place_stands : (w : Setting) (n : Reading) (r : RunNo) (at m : ℕ) → is_none (n.run r.0).placed ≡ true → Standing n → Standing (entry w n (Placed r at m))
place_stands w n r at m fresh s =
    record {
      line = λ q. any_insert (is_ran q) (split_of w n r.0 at m).front (split_of w n r.0 at m).back (Ran r) ∙ ap (λ b. (r.0 == q) || b) (split_any w n r.0 at m (is_ran q)) ∙ ap (λ b. (r.0 == q) || b) (s.line q) ∙ at_run q;
      begun = λ q. begun_at q;
    }
  where
    new : OfRun
    new = record (n.run r.0) { placed = Some (record { place = at; moment = m; stamp = n.size }); planned = planned_times w n r.0 (front_for w n r.0 at m) m }

    at_run : (q : ℕ) → ((r.0 == q) || stands_in (n.run q)) ≡ stands_in (put n.run r.0 new q)
    at_run q = elim (q == r.0) as (λ b. (q == r.0) ≡ b → ((r.0 == q) || stands_in (n.run q)) ≡ stands_in (if b then new else n.run q)) [
      | true ↦ (λ e. let clean : aborted (n.run r.0) ≡ false = not_placed n r.0 (s.begun r.0) fresh in rw (ran_is r.0 q e, clean) (grind (arith, common_steps)))
      | false ↦ (λ e. let other : (r.0 == q) ≡ false = grind (arith, common_steps) in rw other refl)
    ] refl

    begun_at : (q : ℕ) → begun_in (put n.run r.0 new q) ≡ true
    begun_at q = elim (q == r.0) as (λ b. begun_in (if b then new else n.run q) ≡ true) [ true ↦ refl | false ↦ s.begun q ]

ended_stands : (w : Setting) (n : Reading) (r : RunNo) (e : End) → is_some (n.run r.0).placed ≡ true → is_none (n.run r.0).ended ≡ true → Standing n → Standing (entry w n (Ended r e))
ended_stands w n r Committed live going s = record {
  line = λ q. s.line q ∙ sym (put_keeps stands_in n.run r.0 (record (n.run r.0) { ended = Some Committed }) (grind (arith, common_steps, none_clean (n.run r.0) going)) q);
  begun = λ q. put_keeps begun_in n.run r.0 (record (n.run r.0) { ended = Some Committed }) (rw live refl) q ∙ s.begun q;
}
  where
    none_clean : (o : OfRun) → is_none o.ended ≡ true → aborted o ≡ false
    none_clean o none = elim o.ended as (λ x. is_none x ≡ true → unwrap_or (option_map is_abort x) false ≡ false) [ None ↦ (λ y. refl) | Some x ↦ (λ y. absurd (cc)) ] none
ended_stands w n r (Aborted k) live going s = record {
  line = λ q. gone q;
  begun = λ q. put_keeps begun_in n.run r.0 new (rw live refl) q ∙ s.begun q;
}
  where
    new : OfRun
    new = record (n.run r.0) { ended = Some (Aborted k) }

    gone : (q : ℕ) → list_any (is_ran q) (filter (λ i. not (is_ran r.0 i)) n.line) ≡ stands_in (put n.run r.0 new q)
    gone q = elim (q == r.0) as (λ b. (q == r.0) ≡ b → list_any (is_ran q) (filter (λ i. not (is_ran r.0 i)) n.line) ≡ stands_in (if b then new else n.run q)) [
      | true ↦ (λ e. rw (ran_is r.0 q e) (any_without r.0 n.line ∙ grind (arith, common_steps)))
      | false ↦ (λ e. any_other q r.0 n.line (grind (arith, common_steps)) ∙ s.line q)
    ] refl

pub standing_step : (w : Setting) (n : Reading) (e : Entry) → IsTrue (may_follow w n e) → Standing n → Standing (entry w n e)
standing_step w n (Arrived r m) ok s = same_line n _ r.0 (record (n.run r.0) { arrived = Some m }) refl refl refl refl s
standing_step w n (Placed r at m) ok s = place_stands w n r at m (grind (arith, common_steps)) s
standing_step w n (Did r c a) ok s = same_line n _ r.0 _ refl refl refl refl s
standing_step w n (Undid r d driven) ok s = same_line n _ r.0 _ refl refl refl refl s
standing_step w n (Fell d) ok s = record { line = event_stands w n d (Failed d (n.fell d.0 + 1)) false (λ q. refl) s; begun = s.begun }
standing_step w n (Rose d) ok s = record { line = event_stands w n d (Back d (n.rose d.0 + 1)) true (λ q. refl) s; begun = s.begun }
standing_step w n (Doomed r k) ok s = same_line n _ r.0 (record (n.run r.0) { doomed = Some k }) refl refl refl refl s
standing_step w n (Ended r Committed) ok s = ended_stands w n r Committed (grind (arith, common_steps)) (grind (arith, common_steps)) s
standing_step w n (Ended r (Aborted k)) ok s = ended_stands w n r (Aborted k) (grind (arith, common_steps)) (grind (arith, common_steps)) s

standing_from : (w : Setting) (n : Reading) (h : List Entry) → Standing n → IsTrue (along w (may_follow w) n h) → Standing (fold (entry w) n h)
standing_from w n [] s ok = s
standing_from w n (e ∷ h) s ok = standing_from w (entry w n e) h (standing_step w n e (grind (arith, common_steps)) s) (grind (arith, common_steps))

pub standing : (w : Setting) (h : List Entry) → IsTrue (is_well_formed w h) → Standing (reading w h)
standing w h ok = standing_from w (nothing_read w) h (record { line = λ r. refl; begun = λ r. refl }) ok
