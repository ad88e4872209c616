use Rattle.run_spans.proofs.Covering.{covered_holds, holds_covered}
use Rattle.run_spans.proofs.laws.spans_cover_what_holds.Goals as goal

pub returns : goal.returns
returns c = record { covered = covered_holds; holds = holds_covered }
