use Rattle.planned_work.proofs.NeverStuck.{enters_always, fetch_ends, section_ends}
use Rattle.planned_work.proofs.laws.sections_are_never_stuck.Goals as goal

pub returns-clause-enter : goal.returns-clause-enter
returns-clause-enter c = λ old new may h. enters_always old new may h

pub returns-clause-leave : goal.returns-clause-leave
returns-clause-leave c = λ old new is h. section_ends old new is h

pub returns-clause-fetch : goal.returns-clause-fetch
returns-clause-fetch c = λ old new u gave is h. fetch_ends old new u gave is h
