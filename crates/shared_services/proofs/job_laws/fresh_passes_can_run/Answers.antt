use Rattle.shared_services.proofs.Prefixes.{can_run_at_first}
use Rattle.shared_services.proofs.job_laws.fresh_passes_can_run.Goals as goal

pub returns : goal.returns
returns c = λ maxima s locks rests none at_first. can_run_at_first maxima s locks rests none at_first
