use Rattle.lock_transforms.specs.Entry.{replay}
use Rattle.worker_notes.proofs.lemmas.FewMarks.{few_claimed, keeps}
use Rattle.coordination.proofs.laws.workers_run_few_marks.Goals as goal

pub returns-clause-each : goal.returns-clause-each
returns-clause-each c = λ g h w lawful. (keeps g h w lawful).few

pub returns-clause-all : goal.returns-clause-all
returns-clause-all c = λ g h w lawful. few_claimed (replay g h) w (keeps g h w lawful).few
