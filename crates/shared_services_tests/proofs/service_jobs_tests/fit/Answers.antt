use Rattle.std.proofs.Common.{arith}
use Rattle.shared_services_tests.proofs.service_jobs_tests.fit.Goals as goal

pub returns-then-jobs-le-MAX_JOBS : goal.returns-then-jobs-le-MAX_JOBS
returns-then-jobs-le-MAX_JOBS c e = record { few = omega (arith, c.if-jobs-le-MAX_JOBS.true); services = c.ask_for_services.ensures e }
