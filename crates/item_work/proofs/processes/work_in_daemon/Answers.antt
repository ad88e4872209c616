use Rattle.item_work.proofs.lemmas.Countings.{no_fault_counted}
use Rattle.item_work.proofs.processes.work_in_daemon.Goals as goal

pub returns-in-Ok-clause-faults : goal.returns-in-Ok-clause-faults
returns-in-Ok-clause-faults g c =
    no_fault_counted c.in-Ok.answered.reply.outcome (g.D.Files.faults c.args.desk.now) (g.D.Files.faults c.ask_daemon.new.desk) c.in-Ok.ensures.reply.worked c.in-Ok.ensures.faults
