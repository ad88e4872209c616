use Rattle.std.proofs.Common.{◌≡◌, ◌≤◌, ◌*◌, ◌^◌}
use Rattle.lock_journal.specs.Closings.{outcome_in}
use Rattle.history_text.specs.Results.{number_in, below}
use Rattle.std.specs.List.{sum_by}
use Rattle.history_text.proofs.summaries.total_of.Given as goal

abbrev pub invariant-loop-unit : goal.invariant-loop-unit
invariant-loop-unit l = record {
  is : l.total ≡ sum_by number_in (below l.unit (outcome_in l.book.history));
  few : l.total ≤ l.unit * 2 ^ 64;
}
