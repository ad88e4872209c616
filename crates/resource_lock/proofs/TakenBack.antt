-- Changes that led to a state, without the last of them.
use Rattle.std.proofs.Common.{List, [], ◌∷◌, ◌++◌, sym, ◌∙◌, subst}
use Rattle.std.proofs.lemmas.Bool.{and_parts}
use Rattle.resource_lock.proofs.lemmas.Runs.{same_shape-make_all, worker_along, all_named-append, can_all-append, TakesBack, last_taken_back}
use Rattle.resource_lock.specs.StateView.{StateView, IsWorkerOf}
use Rattle.resource_lock.specs.Change.{make, make_all, can_all, inverse_of}
use Rattle.resource_lock.specs.Shape.{SameShape}
use Rattle.resource_lock.specs.Leading.{CameFrom}
use Rattle.resource_lock.specs.declared.ids.WorkerId.{WorkerId}
use Rattle.resource_lock.specs.declared.changes.Change.{Change}

pub worker_now : {before s : StateView} {w : WorkerId} {cs : List Change} → CameFrom before s w cs → IsWorkerOf s w
worker_now {before} {s} {w} {cs} came = worker_along before s w (subst (SameShape before) (sym came.state) (same_shape-make_all before w cs)) came.worker

pub last_back : {before s : StateView} {w : WorkerId} (front : List Change) (c : Change) → CameFrom before s w (front ++ c ∷ []) → TakesBack before s w front c
last_back {before} {s} {w} front c came = last_taken_back before s w front c came.worker came.good came.named came.possible came.state

pub came_before : {before s : StateView} {w : WorkerId} (front : List Change) (c : Change) → CameFrom before s w (front ++ c ∷ []) → CameFrom before (make s w (inverse_of c)) w front
came_before {before} {s} {w} front c came =
    record {
      good = came.good;
      worker = came.worker;
      named = (all_named-append before front (c ∷ []) came.named).0;
      possible = (and_parts (can_all before w front) (can_all (make_all before w front) w (c ∷ [])) (sym (can_all-append before w front (c ∷ [])) ∙ came.possible)).0;
      state = (last_back front c came).back;
    }
