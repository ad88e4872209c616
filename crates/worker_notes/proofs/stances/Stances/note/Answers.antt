use Rattle.std.proofs.Common.{sym}
use Rattle.worker_notes.proofs.Sleeping.{stays}
use Rattle.worker_notes.proofs.stances.Stances.note.Goals as goal

pub returns-in-Away : goal.returns-in-Away
returns-in-Away c = sym (stays c.args.self.now c.args.worker.0 c.args.stance c.in-Away.is (c.is_away.ensures c.if-is_away.true))
