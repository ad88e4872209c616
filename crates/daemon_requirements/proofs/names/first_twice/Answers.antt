use Rattle.std.proofs.Common.{take_all, subst, ◌∙◌, sym}
use Rattle.daemon_requirements.specs.RequirementsView.{HasDistinctNames}
use Rattle.daemon_requirements.proofs.Twice.{distinct_more, first_place}
use Rattle.daemon_requirements.proofs.names.first_twice.Goals as goal

pub returns-then-has_name : goal.returns-then-has_name
returns-then-has_name c =
    first_place c.args.pairs.now c.loop-place.place c.index-pairs-place.result c.loop-place.invariant c.loop-place-test.true c.index-pairs-place.is
    (sym c.has_name.ensures ∙ c.if-has_name.true)

pub loop-place-preserved : goal.loop-place-preserved
loop-place-preserved c =
    distinct_more c.args.pairs.now c.loop-place.place c.index-pairs-place.result c.loop-place.invariant c.loop-place-test.true c.index-pairs-place.is
    (sym c.has_name.ensures ∙ c.if-has_name.false)

pub returns : goal.returns
returns c = subst HasDistinctNames (take_all c.loop-place.place c.args.pairs.now c.loop-place-test.false) c.loop-place.invariant
