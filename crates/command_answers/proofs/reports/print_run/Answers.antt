use Rattle.file_access.proofs.lemmas.Telling.{adds_then, printed_from_blank}
use Rattle.command_answers.proofs.reports.print_run.Goals as goal

pub returns : goal.returns
returns g c =
    let behind = adds_then (adds_then (rw c.deref-2.ensures at c.write_history_asked.ensures) (rw c.deref-3.ensures.value at c.write_events_asked.ensures)) (rw c.deref-4.ensures.value at c.write_watches_asked.ensures) in
    c.end.ensures _ _ (printed_from_blank _ _ _ _ _ c.new-page.ensures (adds_then (rw c.deref.ensures at c.write_results.ensures) behind))
