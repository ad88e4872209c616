use Rattle.std.proofs.Common.{◌≡◌, ℕ, Option, Some, ap, drop, min, sym, subst}
use Rattle.std.proofs.Math.Nat.{min-eq_left}
use Rattle.command_words.specs.declared.commands.Command.{Command}
use Rattle.build_workers.specs.RunDesks.{AreAlike, desks_view}
use Rattle.build_workers.specs.Desks.{desk_view}
use Rattle.command_answers.specs.Around.{Call, around, desks_used}
use Rattle.command_answers.specs.Answered.{Answered, book_of, call_of}
use Rattle.leases_cli.specs.declared.top.TheConstants.{DESKS}
use Rattle.command_answers.proofs.lemmas.Commands.{bad_words_answered, no_command, no_memory_answered}
use Rattle.leases_cli.proofs.Desks.{few_used}
use Rattle.command_answers.proofs.lemmas.Completing.{carried_out, no_command_complete, no_memory_complete}
use Rattle.leases_cli.proofs.top.leases.Goals as goal

-- ---- a command was carried out

pub returns-in-Ok-clause-rest : goal.returns-in-Ok-clause-rest
returns-in-Ok-clause-rest g c = subst (λ (command : Option Command). drop (desks_used command) c.perform.new.desks.items ≡ drop (desks_used command) c.args.desks.now.items) (sym c.in-Ok.ensures.ok) c.perform.ensures.rest

pub perform-requires-clause-alike : goal.perform-requires-clause-alike
perform-requires-clause-alike g c = λ lifetimes within. λ d.
    let view = desk_view g.D.Files.files g.D.Files.faults g.D.Desk.sends g.D.Desk.sent in
    let alike : AreAlike (min (desks_used (Some c.in-Ok.command)) DESKS) (desks_view view c.args.desks.now.items d) =
    subst (λ (command : Option Command). AreAlike (min (desks_used command) DESKS) (desks_view view c.args.desks.now.items d)) c.in-Ok.ensures.ok (c.requires.alike d) in
    subst (λ (n : ℕ). AreAlike n (desks_view view c.args.desks.now.items d)) (min-eq_left (few_used c.in-Ok.command c.in-Ok.ensures.bounds)) alike

pub returns-in-Ok-clause-answer : goal.returns-in-Ok-clause-answer
returns-in-Ok-clause-answer g c = λ d.
    let view = desk_view g.D.Files.files g.D.Files.faults g.D.Desk.sends g.D.Desk.sent in
    let call : Call = call_of (around (g.I.Source.seen c.args.input.now) (g.O.Sink.seen c.args.out.now) (desks_view view c.args.desks.now.items d))
    (around (g.I.Source.seen c.perform.new.input) (g.O.Sink.seen c.perform.new.out) (desks_view view c.perform.new.desks.items d)) c.perform.result in
    subst (λ (command : Option Command). Answered command call) (sym c.in-Ok.ensures.ok) (c.perform.ensures.answer d)

pub returns-in-Ok-clause-complete : goal.returns-in-Ok-clause-complete
returns-in-Ok-clause-complete g c = λ d. carried_out c.first_cycle_is_unique.ensures c.in-Ok.command _ _ c.in-Ok.ensures.ok c.in-Ok.ensures.bounds (c.perform.ensures.answer d)

-- ---- the words are no command

pub returns-in-Err-NoCommand-clause-answer : goal.returns-in-Err-NoCommand-clause-answer
returns-in-Err-NoCommand-clause-answer g c = λ d. bad_words_answered _ c.in-Err-NoCommand.field-0 _ c.in-Err-NoCommand.field-0-is c.in-Err-NoCommand.ensures.err (ap book_of c.refuse.ensures.book) c.refuse.ensures.status

pub returns-in-Err-NoCommand-clause-complete : goal.returns-in-Err-NoCommand-clause-complete
returns-in-Err-NoCommand-clause-complete g c = λ d. no_command_complete _ _ (no_command _ c.in-Err-NoCommand.field-0 c.in-Err-NoCommand.field-0-is c.in-Err-NoCommand.ensures.err)

-- ---- there was no memory to read the words

pub returns-in-Err-NoMemory-clause-answer : goal.returns-in-Err-NoMemory-clause-answer
returns-in-Err-NoMemory-clause-answer g c = λ d. no_memory_answered _ _ _ _ _ _ (ap book_of c.without_run.ensures.book) c.without_run.ensures.status

pub returns-in-Err-NoMemory-clause-complete : goal.returns-in-Err-NoMemory-clause-complete
returns-in-Err-NoMemory-clause-complete g c = λ d. no_memory_complete _ _ (ap book_of c.without_run.ensures.book) c.without_run.ensures.status (returns-in-Err-NoMemory-clause-answer g c d)
