use Rattle.std.proofs.Common.{◌≡◌, ◌≤◌, refl, arith}
use Rattle.build_workers.specs.Sent.{sent_view}
use Rattle.command_answers.specs.Again.{HasDrivenHistory}
use Rattle.build_workers.proofs.lemmas.FirstDesk.{of_each, of_first}
use Rattle.command_answers.proofs.Agains.{only_reads_send_nothing}
use Rattle.command_answers.proofs.first_desk.again.Goals as goal

pub returns-clause-files : goal.returns-clause-files
returns-clause-files g c = λ i d.
    of_each (λ x y. g.D.Files.files y ≡ g.D.Files.files x) c.args.desks.now.items c.index_mut.result.now c.again_history.new.files i d c.requires c.index_mut.ensures.value (λ x. refl) c.again_history.ensures.files

pub returns-clause-counts : goal.returns-clause-counts
returns-clause-counts g c = λ i d.
    of_each (λ x y. g.D.Files.faults x ≤ g.D.Files.faults y) c.args.desks.now.items c.index_mut.result.now c.again_history.new.files i d c.requires c.index_mut.ensures.value (λ x. omega arith)
    c.again_history.ensures.file_faults

pub returns-clause-sent : goal.returns-clause-sent
returns-clause-sent g c = λ i d.
    let same = only_reads_send_nothing g.D.Files.keeps g.D.Desk.sends g.D.Desk.sent g.met.D.Desk.reads_send_nothing c.index_mut.result.now c.again_history.new.files c.again_history.ensures.reads in
    of_each (λ x y. sent_view g.D.Desk.sends g.D.Desk.sent y ≡ sent_view g.D.Desk.sends g.D.Desk.sent x) c.args.desks.now.items c.index_mut.result.now c.again_history.new.files i d c.requires c.index_mut.ensures.value (λ x. refl)
    same

pub returns-clause-driven : goal.returns-clause-driven
returns-clause-driven g c = λ d.
    of_first
    (λ x y. HasDrivenHistory c.args.plan.now
    (record { source = g.I.Source.seen c.args.input.now; sink = g.O.Sink.seen c.args.out.now; files = g.D.Files.files x; faults = g.D.Files.faults x })
    (record { source = g.I.Source.seen c.again_history.new.input; sink = g.O.Sink.seen c.again_history.new.out; files = g.D.Files.files y; faults = g.D.Files.faults y })
    c.without_run.result.status)
    c.args.desks.now.items c.index_mut.result.now c.again_history.new.files d c.requires c.index_mut.ensures.value (rw c.without_run.ensures.status c.again_history.ensures.driven)
