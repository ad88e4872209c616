use Rattle.std.proofs.Common.{inl, inr, refl}
use Rattle.command_answers.specs.Causes.{IsFileCause}
use Rattle.command_answers.proofs.Checks.{source_count}
use Rattle.command_answers.proofs.lemmas.Reports.{refused_for}
use Rattle.command_answers.proofs.check.check_history.Goals as goal

pub returns-in-Err-clause-checked : goal.returns-in-Err-clause-checked
returns-in-Err-clause-checked g c = inl (record {
  source = refl;
  refused = refused_for (IsFileCause (g.F.Files.files c.args.files.now) (g.F.Files.faults c.args.files.now) (g.F.Files.faults c.read.new.desk) c.args.plan.now) (g.O.Sink.seen c.args.out.now) (g.O.Sink.seen c.told_but_no_memory.new.out)
      c.in-Err.refusal c.told_but_no_memory.result c.told_but_no_memory.ensures.no_memory c.told_but_no_memory.ensures.told c.in-Err.ensures.refused;
})

pub returns-clause-input_faults : goal.returns-clause-input_faults
returns-clause-input_faults g c = source_count c.in-Ok.plan (g.I.Source.seen c.args.input.now) (g.I.Source.seen c.check_input-found.new.input) c.check_input-found.result c.check_input-found.ensures

pub returns-clause-checked : goal.returns-clause-checked
returns-clause-checked g c = inr (record {
  plan = c.in-Ok.plan;
  named = c.in-Ok.ensures.plan;
  found = c.check_input-found.result;
  checked = c.check_input-found.ensures;
  told = c.told_found.ensures;
})
