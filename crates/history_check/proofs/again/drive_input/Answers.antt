use Rattle.std.proofs.Common.{refl}
use Rattle.history_check.specs.Driving.{ReadsFor}
use Rattle.history_check.proofs.Answering.{failed_there, fits_input, no_memory_there, of_input}
use Rattle.history_check.proofs.again.drive_input.Goals as goal

pub returns-in_err-admitted-clause-driven : goal.returns-in_err-admitted-clause-driven
returns-in_err-admitted-clause-driven g c =
    failed_there c.args.plan.now (g.F.Files.files c.args.files.now) (ReadsFor g.F.Files.keeps c.args.files.now c.args.files.now) (g.I.Source.seen c.args.input.now) (g.I.Source.seen c.admit_input.new.input) c.from_residual.result _
    c.from_residual.ensures.1 c.in_err-admitted.ensures refl

pub drive_admitted-requires : goal.drive_admitted-requires
drive_admitted-requires g c = fits_input c.args.plan.now (g.I.Source.seen c.args.input.now) (g.I.Source.seen c.admit_input.new.input) c.in_ok-admitted.admitted c.in_ok-admitted.ensures

pub returns-in-Ok-clause-driven : goal.returns-in-Ok-clause-driven
returns-in-Ok-clause-driven g c =
    of_input c.args.plan.now (g.F.Files.files c.args.files.now) (ReadsFor g.F.Files.keeps c.args.files.now c.drive_admitted.new.files) (g.I.Source.seen c.args.input.now) (g.I.Source.seen c.admit_input.new.input) c.in_ok-admitted.admitted c.in-Ok.again
    c.in_ok-admitted.ensures c.in-Ok.ensures.gone_on

pub returns-in-Err-clause-driven : goal.returns-in-Err-clause-driven
returns-in-Err-clause-driven g c =
    no_memory_there c.args.plan.now (g.F.Files.files c.args.files.now) (ReadsFor g.F.Files.keeps c.args.files.now c.drive_admitted.new.files) (g.I.Source.seen c.args.input.now) (g.I.Source.seen c.admit_input.new.input) c.in_ok-admitted.admitted
    c.in_ok-admitted.ensures c.in-Err.ensures.gone_on
