use Rattle.std.proofs.Common.{◌∙◌, List, sym, subst, take, ◌+◌}
use Rattle.file_access.proofs.lemmas.Counting.{fault_rises}
use Rattle.shared_services.specs.Services.{AreServices}
use Rattle.shared_services.specs.Takings.{HasTheLocks}
use Rattle.shared_services.specs.Worked.{HasRun}
use Rattle.shared_services.specs.declared.jobs.Job.{Job}
use Rattle.shared_services.specs.declared.jobs.JobDone.{JobDone}
use Rattle.shared_services.proofs.ManyJobs.{one_job_more}
use Rattle.shared_services.proofs.Stops.{told_stop}
use Rattle.shared_services.proofs.turns.run_in_turn.Goals as goal

pub run_job-requires-clause-may : goal.run_job-requires-clause-may
run_job-requires-clause-may g c =
    let r = c.loop-job.invariant.2 in
    record {
      locks = subst (HasTheLocks c.args.table.now) (sym r.graph) c.requires.ready.locks;
      rests = r.rests;
      services = subst (λ (j : Job). AreServices c.args.table.now j.uses.items) (sym c.job-item.is) (c.requires.services c.loop-job.job-index c.job-item.result c.loop-job-test.true);
    }

pub loop-job-preserved : goal.loop-job-preserved
loop-job-preserved g c =
    let table = c.args.table.now in
    let before = c.loop-job.invariant in
    let now = c.in_ok-ran.ensures in (
      now.service ∙ before.0,
      now.files ∙ before.1,
      subst (λ (ds : List JobDone). HasRun c.args.table.now (g.F.Files.files c.args.desk.now) (g.F.Files.faults c.args.desk.now) (g.F.Files.faults c.run_job.new.desk) c.args.pass.now.sight (take (c.loop-job.job-index + 1) c.args.jobs.now) c.run_job.new.pass.sight ds) (sym c.in_ok-note.ensures.noted)
          (one_job_more table (g.F.Files.files c.args.desk.now) (g.F.Files.files c.loop-job.desk) (g.F.Files.faults c.args.desk.now) (g.F.Files.faults c.loop-job.desk) (g.F.Files.faults c.run_job.new.desk)
          c.args.jobs.now c.job-item.result c.loop-job.job-index c.job-item.result c.loop-job.done.items c.in_ok-ran.ran c.loop-job-test.true (sym c.job-item.is)
          (subst (λ (j : Job). AreServices c.args.table.now j.uses.items) (sym c.job-item.is) (c.requires.services c.loop-job.job-index c.job-item.result c.loop-job-test.true))
          before.1 before.2 now.ran now.honest now.kept (fault_rises c.in_ok-ran.ran.outcome (g.F.Files.faults c.loop-job.desk) (g.F.Files.faults c.run_job.new.desk) now.counted)),
    )

pub returns-in_err-ran-clause-stopped : goal.returns-in_err-ran-clause-stopped
returns-in_err-ran-clause-stopped g c = λ by is. record {
  place = c.loop-job.job-index;
  inside = c.loop-job-test.true;
  job = c.job-item.result;
  there = c.job-item.is;
  before = c.loop-job.pass.sight;
  counted = g.F.Files.faults c.loop-job.desk;
  earlier = c.loop-job.invariant.2;
  stopped = c.in_err-ran.ensures.stopped by (told_stop c.in_err-ran.field-0.0 c.from_residual.result by is c.from_residual.ensures.1);
}
