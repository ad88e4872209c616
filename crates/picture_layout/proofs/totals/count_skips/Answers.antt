use Rattle.std.proofs.Common.{◌≡◌, ◌+◌, ◌<◌, map, length, get_or, sym, ap, ◌∙◌, arith}
use Rattle.std.proofs.lemmas.List.{get_or-map, length-map}
use Rattle.std.proofs.lemmas.List.Sums.{count_by_more_no, count_by_more_yes}
use Rattle.history_text.specs.HistoryView.{entry_read}
use Rattle.picture_layout.specs.Totals.{skips}
use Rattle.picture_layout.proofs.totals.count_skips.Goals as goal
use Rattle.picture_layout.proofs.totals.count_skips.Goals.{then-skips, else-skips}

pub loop-entry-preserved : goal.loop-entry-preserved
loop-entry-preserved c =
    let es = map entry_read c.args.entries.now in
    let i = c.loop-entry.entry-index in
    let e = c.entry-item.result in
    let within : i < length es = omega (arith, c.loop-entry-test.true, length-map c.args.entries.now entry_read) in
    let here : get_or es i (entry_read e) ≡ entry_read e = get_or-map entry_read c.args.entries.now i e (entry_read e) c.loop-entry-test.true ∙ ap entry_read (sym c.entry-item.is) in
    elim c.if-skips.branch [
      | then-skips w ↦
          let more = count_by_more_yes skips es i (entry_read e) within (ap skips here ∙ (sym c.skips.ensures ∙ w.if-skips.true)) in
          (w.count-is ∙ ap (λ n. n + 1) c.loop-entry.invariant.0 ∙ sym more, omega (arith, w.count-is, c.loop-entry.invariant.1))
      | else-skips w ↦
          let same = count_by_more_no skips es i (entry_read e) within (ap skips here ∙ (sym c.skips.ensures ∙ w.if-skips.false)) in
          (w.count-is ∙ c.loop-entry.invariant.0 ∙ sym same, omega (arith, w.count-is, c.loop-entry.invariant.1))
    ]
