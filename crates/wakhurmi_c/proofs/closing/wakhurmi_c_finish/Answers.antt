use Rattle.std.proofs.Common.{◌≡◌, List, sym, subst, ◌∙◌}
use Rattle.std.specs.Arc.{arc_value}
use Rattle.lock_journal.specs.BookView.{BookView}
use Rattle.coordination.specs.Names.{IsClosedBy, PassView}
use Rattle.wakhurmi_c.specs.declared.handles.Handle.{Handle}
use Rattle.wakhurmi_c.specs.declared.workers.Worker.{Worker}
use Rattle.wakhurmi_c.proofs.Whole.{all_same, in_order, same_map}
use Rattle.wakhurmi_c.proofs.closing.wakhurmi_c_finish.Goals as goal

pub gather-requires-clause-service : goal.gather-requires-clause-service
gather-requires-clause-service c = (
  c.requires.service.0,
  all_same (λ (h : Handle). h.held.worker) (λ (w : Worker). w.pass.service.table ≡ c.requires.service.0) c.are_whole.new.handles c.args.handles.now c.are_whole.ensures.workers c.requires.service.1,
)

pub close_by-requires-clause-all : goal.close_by-requires-clause-all
close_by-requires-clause-all c =
    in_order c.gather.result.service (λ s. (arc_value s).table.shared.key.kept.value.book.graph.workers) c.args.handles.now c.are_whole.new.handles c.gather.result.passes.items
    (c.are_whole.ensures.are c.if-not-are_whole.false) c.are_whole.ensures.workers c.gather.ensures.passes c.gather.ensures.workers

pub returns-clause-closed : goal.returns-clause-closed
returns-clause-closed c = λ _.
    let passes = c.gather.ensures.passes ∙ same_map (λ (h : Handle). h.held.worker) (λ (w : Worker). w.pass) c.are_whole.new.handles c.args.handles.now c.are_whole.ensures.workers in (
      c.close_by.result.value.graph,
      subst (λ (x : List PassView × BookView). IsClosedBy x.0 c.close_by.result.value.graph x.1) (λ j. (passes j, sym c.of.ensures.book j)) c.close_by.ensures,
    )
