use Rattle.std.proofs.Common.{ℕ, List, subst}
use Rattle.coordination.specs.Calls.{WasStopped}
use Rattle.shared_services.specs.Takings.{IsShort}
use Rattle.shared_services.proofs.Stops.{told_stop}
use Rattle.shared_services.proofs.jobs.run_job.Goals as goal

pub returns-in_err-take_uses-clause-stopped : goal.returns-in_err-take_uses-clause-stopped
returns-in_err-take_uses-clause-stopped g c = λ by is.
    subst (λ (asked : List ℕ). WasStopped (λ g' w s. IsShort c.args.table.now asked s) by c.args.pass.now.sight c.take_uses.new.pass.sight) c.deref.ensures.value
    (c.in_err-take_uses.ensures.stopped by (told_stop c.in_err-take_uses.field-0.0 c.from_residual.result by is c.from_residual.ensures.1))
