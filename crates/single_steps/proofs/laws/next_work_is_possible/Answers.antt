use Rattle.worker_notes.specs.Offered.{AreTold}
use Rattle.async_tracker.proofs.lemmas.NextWork.{claim_never, parked_claim_never, resume_never, skip_never_waits, start_never}
use Rattle.single_steps.proofs.TaskSteps.{skip_fails}
use Rattle.single_steps.proofs.laws.next_work_is_possible.Goals as goal

pub returns-clause-claim : goal.returns-clause-claim
returns-clause-claim g c = claim_never (AreTold g.O.Offers.tells)

pub returns-clause-start : goal.returns-clause-start
returns-clause-start g c = start_never (AreTold g.O.Offers.tells)

pub returns-clause-skip : goal.returns-clause-skip
returns-clause-skip g c = skip_never_waits (AreTold g.O.Offers.tells)

pub returns-clause-skip_fails : goal.returns-clause-skip_fails
returns-clause-skip_fails g c = skip_fails (AreTold g.O.Offers.tells)

pub returns-clause-parked_claim : goal.returns-clause-parked_claim
returns-clause-parked_claim g c = parked_claim_never (AreTold g.O.Offers.tells)

pub returns-clause-resume : goal.returns-clause-resume
returns-clause-resume g c = resume_never (AreTold g.O.Offers.tells)
