use Rattle.std.proofs.Common.{sym, subst}
use Rattle.daemon_requirements.specs.RequirementsView.{HasDistinctNames}
use Rattle.plan_reader.proofs.Pairs.{pair_shown, distinct_names}
use Rattle.plan_reader.proofs.Loops.{taken_more, taken_all, ended}
use Rattle.plan_reader.proofs.profiles.pairs_of.Goals as goal

pub loop-name-preserved : goal.loop-name-preserved
loop-name-preserved c =
    taken_more pair_shown _ _ (c.in-Some.name, c.in-Some.value) _ _ _ _ c.in-Some.ensures.steps.0 (λ i. record { name = c.from-name.ensures i; value = c.into_text-value.ensures i }) c.in_ok-push.ensures.items c.loop-name.invariant

pub returns-clause-pairs : goal.returns-clause-pairs
returns-clause-pairs c = taken_all pair_shown _ _ _ (ended c.loop-name.name-iterator c.in-None.ensures.steps.0) c.loop-name.invariant

pub returns-clause-distinct : goal.returns-clause-distinct
returns-clause-distinct c =
    subst HasDistinctNames (sym (taken_all pair_shown _ _ _ (ended c.loop-name.name-iterator c.in-None.ensures.steps.0) c.loop-name.invariant))
    (distinct_names c.args.table.items (rw c.deref.ensures.value at (c.rises.ensures c.if-not-rises.false)))
