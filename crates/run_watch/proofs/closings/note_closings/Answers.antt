use Rattle.std.proofs.Common.{rules, ◌≡◌, ◌+◌, ◌<◌, ◌≤◌, ℕ, List, None, set, length, length-set, ap, sym, subst, ◌∙◌, arith}
use Rattle.std.proofs.lemmas.Bool.Decides.{nat_tests}
use Rattle.lock_journal.specs.Shown.{entry_shown}
use Rattle.run_watch.proofs.ItemClosings.{AreNoted, noted_none, noted_past, noted_set}
use Rattle.run_watch.proofs.closings.note_closings.Goals as goal
use Rattle.run_watch.proofs.closings.note_closings.Goals.{in-Some+then-unit-closings, in_default, in_default-via-in-None-1, in_default-via-in-Some+else-unit-closings}

pub loop-place-preserved : goal.loop-place-preserved
loop-place-preserved c =
    let h = c.args.book.now.history in
    let n = c.loop-place.place in
    let xs : List ℕ = c.loop-place.closings in
    let e = entry_shown c.entry.result in
    let at = c.entry.ensures.shown in
    let inv = c.loop-place.invariant in
    let found = c.closed_by.ensures in elim c.match-closed_by.branch [
      | in-Some+then-unit-closings w ↦
          let v : ℕ = w.in-Some.unit in
          let low : v < length xs = grind (arith, nat_tests, w.if-unit-closings.true) in
          let noted : AreNoted h (n + 1) (set xs v (n + 1)) = noted_set h n e xs v at (sym found ∙ w.in-Some.is) low inv.1 in
          (ap (λ (l : List ℕ). length l) w.closings-is ∙ (length-set xs v (n + 1) ∙ inv.0), subst (AreNoted h (n + 1)) (sym w.closings-is) noted)
      | in_default w ↦
          let noted : AreNoted h (n + 1) xs = elim w.in_default.branch [
            | in_default-via-in-None-1 k ↦ let none : c.closed_by.result ≡ None = search rules in noted_none h n e xs at (sym found ∙ none) inv.1
            | in_default-via-in-Some+else-unit-closings k ↦
                let past : length xs ≤ k.in-Some.unit = grind (arith, nat_tests, k.if-unit-closings.false) in
                noted_past h n e xs k.in-Some.unit at (sym found ∙ k.in-Some.is) past inv.1
          ] in
          (ap (λ (l : List ℕ). length l) w.closings-is ∙ inv.0, subst (AreNoted h (n + 1)) (sym w.closings-is) noted)
    ]
