use Rattle.single_steps.proofs.lemmas.After.{from_ok}
use Rattle.async_tracker_tests.proofs.Helping.{can_end}
use Rattle.async_tracker_tests.proofs.async_tracker_tests.go_on.Goals as goal

pub returns-in-Ok-clause-ends : goal.returns-in-Ok-clause-ends
returns-in-Ok-clause-ends g c = λ is. can_end c.args.parked _ _ (from_ok c.resume.result c.in-Ok.field-0 c.in-Ok.is c.resume.ensures.shows) c.requires.helps
