use Rattle.ready_work.proofs.Ordering.{numbering}
use Rattle.ready_work.proofs.rank_laws.ranks_give_a_numbering.Goals as goal

pub returns : goal.returns
returns c = numbering
