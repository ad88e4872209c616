use Rattle.daemon_requirements.proofs.Membership.{all_among_Decides, same_pair_Decides}
use Rattle.daemon_requirements.proofs.rules.VecPairField.serves.Goals as goal

pub returns-in-SameValues : goal.returns-in-SameValues
returns-in-SameValues c =
    rw (c.in-SameValues.is, c.has_pairs.ensures, c.deref.ensures.value, c.deref-in-SameValues.ensures.value) (all_among_Decides same_pair_Decides _ _)
