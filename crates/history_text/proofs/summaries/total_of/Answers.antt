use Rattle.std.proofs.Common.{◌≡◌, ◌∙◌, ap, arith}
use Rattle.lock_journal.specs.Closings.{outcome_in}
use Rattle.history_text.specs.Results.{number_in}
use Rattle.history_text.proofs.Counting.{sum_below-next}
use Rattle.history_text.proofs.summaries.total_of.Goals as goal

pub loop-unit-preserved : goal.loop-unit-preserved
loop-unit-preserved c =
    let outcomes = outcome_in c.args.book.now.history in
    let one : c.number_in.result ≡ number_in (outcomes c.loop-unit.unit) = c.number_in.ensures ∙ ap number_in c.outcome_of.ensures in
    record {
      is = omega (arith, one, c.loop-unit.invariant.is, sum_below-next number_in outcomes c.loop-unit.unit);
      few = omega (arith, c.number_in.type_inv, c.loop-unit.invariant.few);
    }
