use Rattle.planned_work.proofs.Possible.{claim_never, fetch_never, park_never, parked_claim_never, resume_never, skip_never_waits, start_never, submit_never}
use Rattle.planned_work.proofs.laws.choices_are_never_refused.Goals as goal

pub returns-clause-claim : goal.returns-clause-claim
returns-clause-claim c = λ old new u fits free waits h. claim_never old new u fits free waits h

pub returns-clause-parked_claim : goal.returns-clause-parked_claim
returns-clause-parked_claim c = λ old new a u fits free waits h. parked_claim_never old new a u fits free waits h

pub returns-clause-start : goal.returns-clause-start
returns-clause-start c = λ old new t rests h. start_never old new t rests h

pub returns-clause-skip : goal.returns-clause-skip
returns-clause-skip c = λ old new t h. skip_never_waits old new t h

pub returns-clause-resume : goal.returns-clause-resume
returns-clause-resume c = λ old new p failed by free h. resume_never old new p failed by free h

pub returns-clause-fetch : goal.returns-clause-fetch
returns-clause-fetch c = λ old new t u fits works h. fetch_never old new t u fits works h

pub returns-clause-submit : goal.returns-clause-submit
returns-clause-submit c = λ old new t a fits works none h. submit_never old new t a fits works none h

pub returns-clause-park : goal.returns-clause-park
returns-clause-park c = λ old new t a fits works own h. park_never old new t a fits works own h
