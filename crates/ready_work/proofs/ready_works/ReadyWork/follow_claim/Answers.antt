use Rattle.ready_work.proofs.OneUnit.{claim_room, index_of_claim}
use Rattle.ready_work.proofs.ready_works.ReadyWork.follow_claim.Goals as goal

pub put_where_kept-requires : goal.put_where_kept-requires
put_where_kept-requires c = claim_room c.requires.4

pub returns : goal.returns
returns c = λ g before s w f. index_of_claim f c.put_where_kept.new.set c.put_where_kept.ensures
