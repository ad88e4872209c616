use Rattle.std.proofs.Common.{map, sym, subst, ◌∙◌}
use Rattle.history_text.specs.HistoryView.{entry_read}
use Rattle.picture_layout.specs.Panels.{Rising}
use Rattle.picture_layout.proofs.Rising.{spans_of_rise}
use Rattle.run_picture.proofs.picture.draw.Goals as goal

pub draw_spans-requires-clause-rising : goal.draw_spans-requires-clause-rising
draw_spans-requires-clause-rising g c = subst (λ ss. Rising 1 ss) (sym (c.deref-5.ensures.value ∙ c.in-Ok-spans_of.ensures)) (spans_of_rise (map entry_read c.deref-3.result.now))
