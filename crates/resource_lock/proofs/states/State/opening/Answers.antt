use Rattle.std.proofs.Common.{length, replicate, Option, None, refl, ◌∙◌, ap, arith}
use Rattle.std.proofs.lemmas.List.{length-replicate}
use Rattle.resource_lock.proofs.lemmas.Begins.{same_standing, sound_opening}
use Rattle.resource_lock.specs.StateView.{empty_holding}
use Rattle.resource_lock.specs.Counting.{no_counts}
use Rattle.resource_lock.specs.declared.ids.WorkerId.{WorkerId}
use Rattle.resource_lock.proofs.states.State.opening.Goals as goal

pub invariant_of-result : goal.invariant_of-result
invariant_of-result c = sound_opening _ c.args.graph.now
    (same_standing
    c.max_leases.ensures
    c.all.ensures
    (c.in_ok-owners.ensures ∙ ap (λ n. replicate n None) c.locks.ensures)
    (c.in_ok-held.ensures.empty ∙ ap (λ n. replicate n empty_holding) c.workers.ensures)
    c.in_ok-marks.ensures.tasks
    c.in_ok-marks.ensures.actions
    c.in_ok-marks.ensures.units)
    refl
    refl
    (c.in_ok-held.ensures.counts ∙ ap (λ n. replicate n no_counts) c.workers.ensures)
    (λ k d within. omega (arith, c.in_ok-held.ensures.room k d within, ap length c.in_ok-owners.ensures, length-replicate {A = Option WorkerId} c.locks.result None, c.locks.ensures, c.locks-2.ensures))
