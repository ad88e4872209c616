use Rattle.ready_work.proofs.OneUnit.{close_room, index_of_close}
use Rattle.ready_work.proofs.ready_works.ReadyWork.follow_close.Goals as goal

pub put-requires : goal.put-requires
put-requires c = close_room c.requires.5

pub returns : goal.returns
returns c = λ g before s w to ended f. index_of_close f ended c.put.new.self c.put.ensures.room c.put.ensures.put c.put.ensures.others
