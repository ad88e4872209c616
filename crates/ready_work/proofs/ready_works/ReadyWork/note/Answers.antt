use Rattle.ready_work.proofs.Following.{noted_lock}
use Rattle.ready_work.proofs.ready_works.ReadyWork.note.Goals as goal

pub returns-in-Lock : goal.returns-in-Lock
returns-in-Lock c = noted_lock c.args.graph.now c.args.state.now c.args.change.now c.in-Lock.lock c.args.self.now c.note_lock.new.self c.in-Lock.is c.note_lock.ensures.same (c.note_lock.ensures.free c.args.graph.now c.requires.belongs) c.note_lock.ensures.tasks
