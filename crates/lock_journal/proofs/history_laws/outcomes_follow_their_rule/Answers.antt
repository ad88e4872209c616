-- Each is a lemma.
use Rattle.lock_journal.proofs.Depth.{deep_enough, outcome_rule}
use Rattle.lock_journal.proofs.InOrder.{outcomes_in_order}
use Rattle.lock_journal.proofs.history_laws.outcomes_follow_their_rule.Goals as goal

pub returns : goal.returns
returns c = record {
  rule = λ g v rank n t ranks below. outcome_rule g v rank ranks n t below;
  depth = λ g v rank n m t ranks a b. deep_enough g v rank ranks n m t a b;
  in_order = λ g v f n t same. outcomes_in_order g f v n t same;
}
