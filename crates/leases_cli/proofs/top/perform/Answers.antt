use Rattle.std.proofs.Common.{sym, subst}
use Rattle.std.specs.Prelude.{Some}
use Rattle.command_words.specs.declared.commands.Command.{Command}
use Rattle.build_workers.specs.RunDesks.{desks_view}
use Rattle.build_workers.specs.Desks.{desk_view}
use Rattle.command_answers.specs.Answered.{Answered, call_of}
use Rattle.command_answers.specs.Around.{Call, around}
use Rattle.leases_cli.proofs.top.perform.Goals as goal

pub returns-in-Run-clause-answer : goal.returns-in-Run-clause-answer
returns-in-Run-clause-answer g c = λ d.
    let view = desk_view g.D.Files.files g.D.Files.faults g.D.Desk.sends g.D.Desk.sent in
    let source = g.I.Source.seen c.args.input.now in
    let call : Call = call_of (around source (g.O.Sink.seen c.args.out.now) (desks_view view c.args.desks.now.items d)) (around source (g.O.Sink.seen c.run.new.out) (desks_view view c.run.new.desks.items d)) c.run.result in
    subst (λ (command : Command). Answered (Some command) call) (sym c.in-Run.is) (c.run.ensures.answer d source)
