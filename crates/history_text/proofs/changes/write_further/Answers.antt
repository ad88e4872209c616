use Rattle.std.proofs.Common.{[], append_assoc, codes, sym, ap, ◌∙◌}
use Rattle.std.specs.List.{flat_map}
use Rattle.std.proofs.lemmas.List.{flat_map_more}
use Rattle.file_access.proofs.lemmas.Telling.{adds_as, adds_then}
use Rattle.lock_journal.specs.Changes.{changes_left}
use Rattle.lock_journal.proofs.NextChanges.{all_given, one_more}
use Rattle.history_text.specs.Text.{change_text, further_text}
use Rattle.history_text.proofs.changes.write_further.Goals as goal

pub loop-change-preserved : goal.loop-change-preserved
loop-change-preserved g c =
    let so_far = c.loop-change.yielded in (
      adds_as (append_assoc (flat_map further_text so_far) (codes ", ") (change_text c.in-Some.change) ∙ flat_map_more further_text [] so_far c.in-Some.change)
          (adds_then (adds_then c.loop-change.invariant.0 c.text.ensures) c.write_change.ensures),
      one_more (changes_left c.args.changes) so_far c.loop-change.change-iterator c.next.new.self c.next.result c.in-Some.change c.loop-change.invariant.1 c.in-Some.is c.next.ensures.steps,
    )

pub returns : goal.returns
returns g c =
    let all = all_given (changes_left c.args.changes) c.loop-change.yielded c.loop-change.change-iterator c.next.new.self c.next.result c.loop-change.invariant.1 c.in-None.is c.next.ensures.steps in
    adds_as (ap (flat_map further_text) (sym all)) c.loop-change.invariant.0
