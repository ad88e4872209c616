use Rattle.std.proofs.Common.{[], ◌∷◌, ◌++◌, sym, ◌∙◌, ap, subst}
use Rattle.std.specs.Iterator.Adapters.{rev_source}
use Rattle.std.specs.Slice.Iter.{iter_rest}
use Rattle.resource_lock.specs.StateView.{StateView}
use Rattle.resource_lock.specs.Change.{can, make, NamesOnly}
use Rattle.resource_lock.specs.Leading.{CameFrom}
use Rattle.resource_lock.proofs.TakenBack.{worker_now, last_back, came_before}
use Rattle.resource_lock.proofs.states.State.take_back.Goals as goal

-- the changes that are left are those that stay left, and this one
still_came : (c : goal.After-inverse) (before : StateView) → CameFrom before c.args.self.now c.args.worker c.args.changes.now → CameFrom before c.loop-change.self c.args.worker (iter_rest (rev_source c.next.new.self) ++ c.in-Some.change.now ∷ [])
still_came c before from = subst (CameFrom before c.loop-change.self c.args.worker) (c.in-Some.ensures).steps (c.loop-change.invariant before from)

pub make-requires-clause-worker_in_range : goal.make-requires-clause-worker_in_range
make-requires-clause-worker_in_range c = worker_now (still_came c c.requires.0 c.requires.1)

pub make-requires-clause-change_in_range : goal.make-requires-clause-change_in_range
make-requires-clause-change_in_range c = subst (NamesOnly c.loop-change.self) (sym c.inverse.ensures) (last_back _ _ (still_came c c.requires.0 c.requires.1)).named

pub make-requires-clause-possible : goal.make-requires-clause-possible
make-requires-clause-possible c = ap (can c.loop-change.self c.args.worker) c.inverse.ensures ∙ (last_back _ _ (still_came c c.requires.0 c.requires.1)).possible

pub loop-change-preserved : goal.loop-change-preserved
loop-change-preserved c = λ before from.
    subst (λ (s : StateView). CameFrom before s c.args.worker (iter_rest (rev_source c.next.new.self)))
    (sym (c.make.ensures ∙ ap (make c.loop-change.self c.args.worker) c.inverse.ensures))
    (came_before _ _ (subst (CameFrom before c.loop-change.self c.args.worker) (c.in-Some.ensures).steps (c.loop-change.invariant before from)))
