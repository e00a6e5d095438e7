use Rattle.routine_reader.proofs.Prelude.{All-append, All-cons, All-nil, Err, IsCivilTime, Ok, [], ap, arith, drop, false, is_memory, last_time, length, length-append, length-map, map, map-append, next_window_read, plain_window, read_each, rules, subst, sym, view, window_reading, ◌++◌, ◌+◌, ◌∙◌, ◌∷◌, ◌≡◌}
use Rattle.routine_reader.proofs.WalkLemmas.{each-end, each-read, each-refused, walk-refused}
use Rattle.routine_reader.proofs.WindowLemmas.{last-more}
use Rattle.routine_reader.proofs.windows.read_windows.Goals as goal

pub returns-in_err-window-clause-reading : goal.returns-in_err-window-clause-reading
returns-in_err-window-clause-reading c =
    let fault = c.in_err-window.field-0.0 in
    let R = next_window_read c.args.routines.now in
    let earlier = map plain_window c.values.windows.items in
    let refused : is_memory fault ≡ false → R earlier (view c.value-item.result) ≡ Err fault =
    λ named. (let told : window_reading c.args.routines.now (length c.values.windows.items + 1) c.values.before (view c.value-item.result) ≡ Err fault = search rules in
    subst (λ n. window_reading c.args.routines.now (n + 1) (last_time earlier) (view c.value-item.result) ≡ Err fault) (sym (length-map c.values.windows.items plain_window))
    (subst (λ before. window_reading c.args.routines.now (length c.values.windows.items + 1) before (view c.value-item.result) ≡ Err fault) c.values.invariant.before told)) in
    walk-refused _ c.from_residual-in_err-window.result fault _ c.from_residual-in_err-window.ensures.1
    (λ named. c.values.invariant.walk ∙ each-refused R earlier c.args.values.now c.values.value-index c.value-item.result (omega arith) c.value-item.is fault (refused named))

pub values-preserved : goal.values-preserved
values-preserved c =
    let windows = c.values.windows.items in
    let R = next_window_read c.args.routines.now in
    let earlier = map plain_window windows in
    let window = c.in_ok-window.window in
    let told : window_reading c.args.routines.now (length windows + 1) c.values.before (view c.value-item.result) ≡ Ok (plain_window window) = search rules in
    let read : R earlier (view c.value-item.result) ≡ Ok (plain_window window) =
    subst (λ n. window_reading c.args.routines.now (n + 1) (last_time earlier) (view c.value-item.result) ≡ Ok (plain_window window)) (sym (length-map windows plain_window))
    (subst (λ before. window_reading c.args.routines.now (length windows + 1) before (view c.value-item.result) ≡ Ok (plain_window window)) c.values.invariant.before told) in
    let pushed : c.push.new.self.items ≡ windows ++ window ∷ [] = c.in_ok-push.ensures.ok in
    let more : map plain_window c.push.new.self.items ≡ earlier ++ plain_window window ∷ [] = ap (map plain_window) pushed ∙ map-append plain_window windows (window ∷ []) in
    record {
      walk =
          c.values.invariant.walk
          ∙ each-read R earlier c.args.values.now c.values.value-index c.value-item.result (omega arith) c.value-item.is (plain_window window) read
          ∙ ap (λ ws. read_each R ws (map view (drop (c.values.value-index + 1) c.args.values.now))) (sym more);
      before = sym (ap last_time more ∙ last-more earlier (plain_window window));
      in_range =
          rw pushed
          (All-append (λ w. IsCivilTime w.at) windows (window ∷ []) c.values.invariant.in_range
          (All-cons (λ w. IsCivilTime w.at) window [] c.in_ok-window.ensures.in_range (All-nil _)));
      count = rw pushed (rw length-append (omega (arith, c.values.invariant.count)));
    }

pub returns-clause-reading : goal.returns-clause-reading
returns-clause-reading c =
    c.values.invariant.walk
    ∙ each-end (next_window_read c.args.routines.now) (map plain_window c.values.windows.items) c.args.values.now c.values.value-index c.values-test.false
