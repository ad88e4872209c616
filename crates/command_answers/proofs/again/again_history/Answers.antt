use Rattle.std.proofs.Common.{[], Option, arith, inl, inr, refl, subst}
use Rattle.item_actions.specs.Files.{Folder}
use Rattle.history_check.specs.Driving.{HasDriven, ReadsFor}
use Rattle.command_answers.specs.Again.{AnyRead}
use Rattle.command_answers.specs.Causes.{IsFileCause}
use Rattle.command_answers.proofs.Agains.{any_driven, faults_kept, only_read, source_kept}
use Rattle.command_answers.proofs.lemmas.Reports.{refused_for}
use Rattle.command_answers.proofs.again.again_history.Goals as goal

pub returns-in-Err-clause-driven : goal.returns-in-Err-clause-driven
returns-in-Err-clause-driven g c = inl (record {
  source = refl;
  refused = refused_for (IsFileCause (g.F.Files.files c.args.files.now) (g.F.Files.faults c.args.files.now) (g.F.Files.faults c.read.new.desk) c.args.plan.now) (g.O.Sink.seen c.args.out.now) (g.O.Sink.seen c.told_but_no_memory.new.out)
      c.in-Err.refusal c.told_but_no_memory.result c.told_but_no_memory.ensures.no_memory c.told_but_no_memory.ensures.told c.in-Err.ensures.refused;
})

pub returns-in-Err-clause-reads : goal.returns-in-Err-clause-reads
returns-in-Err-clause-reads g c = (c.read.new.desk, c.read.ensures.keeps, [], refl)

pub returns-clause-input_faults : goal.returns-clause-input_faults
returns-clause-input_faults g c =
    source_kept c.in-Ok.plan (g.I.Source.seen c.args.input.now) (g.I.Source.seen c.drive_input-found.new.input) (g.F.Files.files c.read.new.desk) (ReadsFor g.F.Files.keeps c.read.new.desk c.drive_input-found.new.files)
    c.drive_input-found.result c.drive_input-found.ensures.driven

pub returns-clause-reads : goal.returns-clause-reads
returns-clause-reads g c =
    only_read g.F.Files.keeps c.args.files.now c.read.new.desk c.drive_input-found.new.files c.in-Ok.plan (g.F.Files.files c.read.new.desk) (g.I.Source.seen c.args.input.now) (g.I.Source.seen c.drive_input-found.new.input)
    c.drive_input-found.result c.read.ensures.keeps c.drive_input-found.ensures.driven

pub returns-clause-driven : goal.returns-clause-driven
returns-clause-driven g c = inr (record {
  plan = c.in-Ok.plan;
  named = c.in-Ok.ensures.plan;
  found = c.drive_input-found.result;
  driven = subst (λ (known : Option Folder). HasDriven c.in-Ok.plan (g.I.Source.seen c.args.input.now) (g.I.Source.seen c.drive_input-found.new.input) known AnyRead c.drive_input-found.result) c.read.ensures.files
      (any_driven (ReadsFor g.F.Files.keeps c.read.new.desk c.drive_input-found.new.files) c.in-Ok.plan (g.F.Files.files c.read.new.desk) (g.I.Source.seen c.args.input.now) (g.I.Source.seen c.drive_input-found.new.input)
      c.drive_input-found.result c.drive_input-found.ensures.driven);
  read_at = g.F.Files.faults c.read.new.desk;
  kept = c.read.ensures.count;
  counted = c.drive_input-found.ensures.counted;
  told = c.told_again.ensures;
})

pub returns-clause-file_faults : goal.returns-clause-file_faults
returns-clause-file_faults g c =
    let kept = faults_kept (g.F.Files.faults c.read.new.desk) (g.F.Files.faults c.drive_input-found.new.files) c.drive_input-found.result c.drive_input-found.ensures.counted in
    omega (arith, c.read.ensures.count, kept)
