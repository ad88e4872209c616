-- The daemons that failed, beside the units that weren't worked out, over the parts of a run.
use Rattle.std.proofs.Common.{◌≡◌, ℕ, ◌+◌, ◌≤◌, List, [], ◌∷◌, ap, ◌∙◌, arith, subst}
use Rattle.std.proofs.lemmas.List.Sums.{sum_by-append, sum_by-cons}
use Rattle.item_actions.specs.declared.outcomes.Outcome.{Outcome}
use Rattle.lock_journal.specs.Names.{Closed, closed_by}
use Rattle.daemon_manager.specs.Counts.{TallyView}
use Rattle.daemon_requirements.specs.declared.work.Isolation.{Isolation}
use Rattle.daemon_requirements.specs.declared.work.Isolation.TheVariants.{InThread, Process}
use Rattle.coordination.specs.declared.rule.Sight.{Sight}
use Rattle.item_work.specs.Tallying.{TalliesFor, one_if_unreal}
use Rattle.build_workers.specs.Failing.{FailsForEach, unreal_by, unreal_in}
use Rattle.build_workers.specs.Kept.{HasClosed}

-- an item adds one failure at most, and none where it was worked out
pub fails_for : (i : Isolation) (mine mine' : TallyView) (before after : ℕ) (o : Outcome) → TalliesFor i mine mine' before after o → mine'.failed ≤ mine.failed + one_if_unreal o
fails_for InThread mine mine' before after o counted = omega (arith, ap (λ (t : TallyView). t.failed) counted)
fails_for (Process asked) mine mine' before after o counted = counted.failed

-- what was closed more
grows : {ds : List Closed} {old new : Sight} → HasClosed ds old new → unreal_by old.worker new.seen.history ≡ unreal_by old.worker old.seen.history + unreal_in ds
grows {ds} {old} {new} closed = ap unreal_in closed.closed ∙ sum_by-append (λ (d : Closed). one_if_unreal d.outcome) (closed_by old.worker old.seen.history) ds

-- no daemon was given back, whatever was closed
pub fails_not : {ds : List Closed} {old new : Sight} (mine : TallyView) → HasClosed ds old new → FailsForEach old new mine mine
fails_not mine closed = let more = grows closed in omega (arith, more)

-- one part after the other
pub fails_then : (a b c : Sight) (m m' m'' : TallyView) → b.worker ≡ a.worker → FailsForEach a b m m' → FailsForEach b c m' m'' → FailsForEach a c m m''
fails_then a b c m m' m'' worker before other =
    let after = subst (λ w. m''.failed + unreal_by w b.seen.history ≤ m'.failed + unreal_by w c.seen.history) worker other in
    omega (arith, before, after)

-- a unit was run, and closed with what it gave
pub fails_closed : (old new : Sight) (m m' : TallyView) (d : Closed) → HasClosed (d ∷ []) old new → m'.failed ≤ m.failed + one_if_unreal d.outcome → FailsForEach old new m m'
fails_closed old new m m' d closed failed = let more = grows closed in let one = sum_by-cons (λ (e : Closed). one_if_unreal e.outcome) d [] in omega (arith, more, one, failed)
