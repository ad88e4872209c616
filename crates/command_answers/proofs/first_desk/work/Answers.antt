use Rattle.std.proofs.Common.{◌≡◌, ◌≤◌, refl, arith}
use Rattle.command_answers.specs.Worker.{HasWorked}
use Rattle.build_workers.proofs.lemmas.FirstDesk.{of_each, of_first}
use Rattle.command_answers.proofs.first_desk.work.Goals as goal

pub returns-clause-files : goal.returns-clause-files
returns-clause-files g c = λ i d.
    of_each (λ x y. g.F.Files.files y ≡ g.F.Files.files x) c.args.desks.now.items c.index_mut.result.now c.serve_worker.new.files i d c.requires c.index_mut.ensures.value (λ x. refl) c.serve_worker.ensures.files

pub returns-clause-counts : goal.returns-clause-counts
returns-clause-counts g c = λ i d.
    of_each (λ x y. g.F.Files.faults x ≤ g.F.Files.faults y) c.args.desks.now.items c.index_mut.result.now c.serve_worker.new.files i d c.requires c.index_mut.ensures.value (λ x. omega arith)
    c.serve_worker.ensures.file_faults

pub returns-clause-worked : goal.returns-clause-worked
returns-clause-worked g c = λ d.
    of_first
    (λ x y. HasWorked
    (record { source = g.I.Source.seen c.args.input.now; sink = g.O.Sink.seen c.args.out.now; files = g.F.Files.files x; faults = g.F.Files.faults x })
    (record { source = g.I.Source.seen c.serve_worker.new.input; sink = g.O.Sink.seen c.serve_worker.new.out; files = g.F.Files.files y; faults = g.F.Files.faults y })
    c.without_run.result.status)
    c.args.desks.now.items c.index_mut.result.now c.serve_worker.new.files d c.requires c.index_mut.ensures.value (rw c.without_run.ensures.status c.serve_worker.ensures.worked)
