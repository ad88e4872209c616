use Rattle.std.proofs.Common.{◌≡◌, ◌≤◌, refl, arith}
use Rattle.build_workers.specs.Sent.{sent_view}
use Rattle.command_answers.specs.Check.{HasCheckedHistory}
use Rattle.build_workers.proofs.lemmas.FirstDesk.{of_each, of_first}
use Rattle.build_workers.proofs.lemmas.SentViews.{same_view}
use Rattle.command_answers.proofs.first_desk.check.Goals as goal

pub returns-clause-files : goal.returns-clause-files
returns-clause-files g c = λ i d.
    of_each (λ x y. g.D.Files.files y ≡ g.D.Files.files x) c.args.desks.now.items c.index_mut.result.now c.check_history.new.files i d c.requires c.index_mut.ensures.value (λ x. refl) c.check_history.ensures.files

pub returns-clause-counts : goal.returns-clause-counts
returns-clause-counts g c = λ i d.
    of_each (λ x y. g.D.Files.faults x ≤ g.D.Files.faults y) c.args.desks.now.items c.index_mut.result.now c.check_history.new.files i d c.requires c.index_mut.ensures.value (λ x. omega arith)
    c.check_history.ensures.file_faults

pub returns-clause-sent : goal.returns-clause-sent
returns-clause-sent g c = λ i d.
    let same = g.met.D.Desk.reads_send_nothing c.index_mut.result.now c.check_history.new.files c.check_history.ensures.keeps in
    of_each (λ x y. sent_view g.D.Desk.sends g.D.Desk.sent y ≡ sent_view g.D.Desk.sends g.D.Desk.sent x) c.args.desks.now.items c.index_mut.result.now c.check_history.new.files i d c.requires c.index_mut.ensures.value (λ x. refl)
    (same_view same.0 same.1)

pub returns-clause-checked : goal.returns-clause-checked
returns-clause-checked g c = λ d.
    of_first
    (λ x y. HasCheckedHistory c.args.plan.now
    (record { source = g.I.Source.seen c.args.input.now; sink = g.O.Sink.seen c.args.out.now; files = g.D.Files.files x; faults = g.D.Files.faults x })
    (record { source = g.I.Source.seen c.check_history.new.input; sink = g.O.Sink.seen c.check_history.new.out; files = g.D.Files.files y; faults = g.D.Files.faults y })
    c.without_run.result.status)
    c.args.desks.now.items c.index_mut.result.now c.check_history.new.files d c.requires c.index_mut.ensures.value (rw c.without_run.ensures.status c.check_history.ensures.checked)
