-- the workers so far have the passes so far
use Rattle.std.proofs.Common.{◌≡◌, ◌++◌, map}
use Rattle.std.specs.Vec.Iter.{into_iter_items}
use Rattle.planned_work.proofs.opening.workers_of.Given as goal

abbrev pub invariant-loop-pass : goal.invariant-loop-pass
invariant-loop-pass l =
    (l.fn.passes.items ≡ l.yielded ++ into_iter_items l.pass-iterator) × (map (λ w. w.value.pass) l.all.items ≡ l.yielded)
