use Rattle.std.proofs.Common.{◌≤◌, Vec, length, ap, arith, refl, subst, sym, ◌∙◌}
use Rattle.std.specs.declared.alloc.Global.{Global}
use Rattle.daemon_manager.specs.Asking.{AreAskedFor}
use Rattle.daemon_manager.specs.Counts.{failures, reservations}
use Rattle.daemon_manager.specs.declared.events.Event.{Event}
use Rattle.plan_reader.specs.Units.{plan_units}
use Rattle.run_watch.specs.declared.boards.Watch.{Watch}
use Rattle.build_workers.specs.RunWatching.{IsWatchedRun}
use Rattle.build_workers.specs.RunDesks.{desks_view}
use Rattle.build_workers.specs.Desks.{DeskView, desk_view}
use Rattle.build_workers.specs.Units.{AsksFor}
use Rattle.build_workers.proofs.lemmas.KnownFiles.{still_alike}
use Rattle.build_runner.proofs.lemmas.Within.{asked_nothing, broken_within, run_within}
use Rattle.command_answers.specs.Answered.{book_of, call_of, options_of}
use Rattle.command_answers.specs.Around.{Call, around}
use Rattle.build_workers.proofs.lemmas.FirstDesk.{drop_more}
use Rattle.command_answers.proofs.lemmas.Commands.{some_desk}
use Rattle.command_answers.proofs.lemmas.Reports.{broken_answers, refusal_answers, reported_answers}
use Rattle.command_answers.proofs.lemmas.Reserving.{first_sent}
use Rattle.leases_cli.proofs.top.run.Goals as goal

pub run_plan-requires-clause-alike : goal.run_plan-requires-clause-alike
run_plan-requires-clause-alike g c = λ lifetimes within. λ d.
    let view : g.row.D.Denot → DeskView = desk_view g.D.Files.files g.D.Files.faults g.D.Desk.sends g.D.Desk.sent in
    still_alike c.args.asked.now.threads (desks_view view c.args.desks.now.items d) (desks_view view c.read_first.new.desks.items d) (λ i. sym (c.read_first.ensures.files i d)) (c.requires.alike d)

-- ---- the plan was refused

pub returns-in-Err-clause-rest : goal.returns-in-Err-clause-rest
returns-in-Err-clause-rest g c = drop_more c.args.asked.now.threads c.args.desks.now.items c.read_first.new.desks.items c.requires.bounds.some_thread c.read_first.ensures.rest

pub returns-in-Err-clause-answer : goal.returns-in-Err-clause-answer
returns-in-Err-clause-answer g c = λ d source.
    let view : g.row.D.Denot → DeskView = desk_view g.D.Files.files g.D.Files.faults g.D.Desk.sends g.D.Desk.sent in
    let call : Call = call_of (around source (g.O.Sink.seen c.args.out.now) (desks_view view c.args.desks.now.items d))
    (around source (g.O.Sink.seen c.refuse_plan.new.out) (desks_view view c.read_first.new.desks.items d)) c.refuse_plan.result in
    refusal_answers c.args.asked.now call c.in-Err.refusal (ap book_of c.refuse_plan.ensures.book) c.refuse_plan.ensures.no_memory c.refuse_plan.ensures.told (c.in-Err.ensures.refused d) (λ i. c.read_first.ensures.sent i d)

-- ---- the plan was run

pub report_run-ended-requires-clause-run : goal.report_run-ended-requires-clause-run
report_run-ended-requires-clause-run g c =
    let d = some_desk c.args.desks.now.items (omega (arith, c.requires.desks)) in
    let view : g.row.D.Denot → DeskView = desk_view g.D.Files.files g.D.Files.faults g.D.Desk.sends g.D.Desk.sent in
    (desks_view view c.read_first.new.desks.items d, desks_view view c.run_plan.new.desks.items d, c.in-Ok-run_plan.ensures.run d)

pub returns-in-Ok-run_plan-clause-rest : goal.returns-in-Ok-run_plan-clause-rest
returns-in-Ok-run_plan-clause-rest g c = c.run_plan.ensures.rest ∙ drop_more c.args.asked.now.threads c.args.desks.now.items c.read_first.new.desks.items c.requires.bounds.some_thread c.read_first.ensures.rest

pub returns-in-Ok-run_plan-clause-files : goal.returns-in-Ok-run_plan-clause-files
returns-in-Ok-run_plan-clause-files g c = λ i d. c.run_plan.ensures.files i d ∙ c.read_first.ensures.files i d

pub returns-in-Ok-run_plan-clause-answer : goal.returns-in-Ok-run_plan-clause-answer
returns-in-Ok-run_plan-clause-answer g c = λ d source.
    let view : g.row.D.Denot → DeskView = desk_view g.D.Files.files g.D.Files.faults g.D.Desk.sends g.D.Desk.sent in
    let asked = c.args.asked.now in
    let plan = c.in-Ok.plan in
    let b = c.in-Ok-run_plan.end.book.value in
    let first = desks_view view c.args.desks.now.items d in
    let before = desks_view view c.read_first.new.desks.items d in
    let after = desks_view view c.run_plan.new.desks.items d in
    let call : Call = call_of (around source (g.O.Sink.seen c.args.out.now) first) (around source (g.O.Sink.seen c.report_run-ended.new.out) after) c.report_run-ended.result in
    let run = run_within plan (options_of asked) first before after after
    (λ i. record { files = c.read_first.ensures.files i d; faults = c.read_first.ensures.counts i d; sent = c.read_first.ensures.sent i d }) (λ i. asked_nothing refl) b (c.in-Ok-run_plan.ensures.run d) in
    let count = reservations c.in-Ok-run_plan.end.events.items in
    let few : asked.threads ≤ length c.read_first.new.desks.items = omega (arith, c.requires.bounds.few_threads, c.requires.desks, c.read_first.ensures.places) in
    let reserved = first_sent view c.args.desks.now.items c.read_first.new.desks.items c.run_plan.new.desks.items d asked.threads count few (omega (arith, few, c.run_plan.ensures.places))
    c.run_plan.ensures.rest (λ i. c.read_first.ensures.sent i d) c.in-Ok-run_plan.ensures.reserved in
    let kept = ap (λ (v : Vec Event Global). reservations v.items) c.report_run-ended.ensures.kept.0 in
    let lost = ap (λ (v : Vec Event Global). failures v.items) c.report_run-ended.ensures.kept.0 in
    let units = subst (λ (v : Vec Event Global). AreAskedFor (AsksFor (plan_units plan)) v.items) (sym c.report_run-ended.ensures.kept.0) c.in-Ok-run_plan.ensures.units in
    let watch = subst (λ (v : Vec Watch Global). IsWatchedRun (options_of asked) b v.items) (sym c.report_run-ended.ensures.kept.1) c.in-Ok-run_plan.ensures.watch in
    reported_answers asked call plan b (ap book_of c.report_run-ended.ensures.book) (record { named = c.in-Ok.ensures.plan d; run = run; reserved = omega (arith, reserved, kept); units = units; failed = omega (arith, c.in-Ok-run_plan.ensures.failed, lost); watch = watch }) (c.report_run-ended.ensures.status first after run)

pub returns-in-Err-run_plan-clause-answer : goal.returns-in-Err-run_plan-clause-answer
returns-in-Err-run_plan-clause-answer g c = λ d source.
    let view : g.row.D.Denot → DeskView = desk_view g.D.Files.files g.D.Files.faults g.D.Desk.sends g.D.Desk.sent in
    let asked = c.args.asked.now in
    let plan = c.in-Ok.plan in
    let first = desks_view view c.args.desks.now.items d in
    let before = desks_view view c.read_first.new.desks.items d in
    let after = desks_view view c.run_plan.new.desks.items d in
    let call : Call = call_of (around source (g.O.Sink.seen c.args.out.now) first) (around source (g.O.Sink.seen c.args.out.now) after) c.without_run.result in
    let broken = broken_within plan (options_of asked) first before after after
    (λ i. record { files = c.read_first.ensures.files i d; faults = c.read_first.ensures.counts i d; sent = c.read_first.ensures.sent i d }) (λ i. asked_nothing refl) (c.in-Err-run_plan.ensures.broken_off d) in
    broken_answers asked call (ap book_of c.without_run.ensures.book) c.without_run.ensures.status refl (plan, c.in-Ok.ensures.plan d, broken)

pub returns-in-Err-run_plan-clause-rest : goal.returns-in-Err-run_plan-clause-rest
returns-in-Err-run_plan-clause-rest g c = c.run_plan.ensures.rest ∙ drop_more c.args.asked.now.threads c.args.desks.now.items c.read_first.new.desks.items c.requires.bounds.some_thread c.read_first.ensures.rest
