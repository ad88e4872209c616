use Rattle.std.proofs.Common.{rules, ◌≡◌, ◌+◌, true, false, cond, eqb, take, sym, ap, ◌∙◌}
use Rattle.lock_journal.specs.Shown.{entry_shown}
use Rattle.worker_notes.specs.WorkerEntries.{last_of}
use Rattle.worker_notes.proofs.lemmas.Growing.{last_of-more}
use Rattle.worker_notes.proofs.last_entries.last_number.Goals as goal
use Rattle.worker_notes.proofs.last_entries.last_number.Goals.{then-eq, else-eq}

pub loop-place-preserved : goal.loop-place-preserved
loop-place-preserved c =
    let n = c.loop-place.place in
    let w = c.args.worker in
    let h = c.args.book.now.history in
    let more = last_of-more w h n (entry_shown c.entry.result) c.entry.ensures.shown in elim c.if-eq.branch [
      | then-eq b ↦
          let is : eqb c.entry.result.worker.0 w.0 ≡ true = search rules in
          b.last-is ∙ sym (more ∙ ap (λ t. cond t (n + 1) (last_of w (take n h))) is)
      | else-eq b ↦
          let not : eqb c.entry.result.worker.0 w.0 ≡ false = search rules in
          b.last-is ∙ (c.loop-place.invariant ∙ sym (more ∙ ap (λ t. cond t (n + 1) (last_of w (take n h))) not))
    ]
