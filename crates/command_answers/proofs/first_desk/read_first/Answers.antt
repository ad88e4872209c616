use Rattle.std.proofs.Common.{◌≡◌, ◌≤◌, refl, arith}
use Rattle.std.specs.Prelude.{IfErr, IfOk}
use Rattle.build_workers.specs.Sent.{sent_view}
use Rattle.command_answers.specs.Causes.{IsFileCause, IsFileOf, OrNoMemory}
use Rattle.build_workers.proofs.lemmas.FirstDesk.{of_each, of_first}
use Rattle.build_workers.proofs.lemmas.SentViews.{same_view}
use Rattle.command_answers.proofs.first_desk.read_first.Goals as goal

pub returns-clause-files : goal.returns-clause-files
returns-clause-files g c = λ i d.
    of_each (λ x y. g.D.Files.files y ≡ g.D.Files.files x) c.args.desks.now.items c.index_mut.result.now c.read.new.desk i d c.requires c.index_mut.ensures.value (λ x. refl) c.read.ensures.files

pub returns-clause-counts : goal.returns-clause-counts
returns-clause-counts g c = λ i d.
    of_each (λ x y. g.D.Files.faults x ≤ g.D.Files.faults y) c.args.desks.now.items c.index_mut.result.now c.read.new.desk i d c.requires c.index_mut.ensures.value (λ x. omega arith) c.read.ensures.count

pub returns-clause-sent : goal.returns-clause-sent
returns-clause-sent g c = λ i d.
    let same = g.met.D.Desk.reads_send_nothing c.index_mut.result.now c.read.new.desk c.read.ensures.keeps in
    of_each (λ x y. sent_view g.D.Desk.sends g.D.Desk.sent y ≡ sent_view g.D.Desk.sends g.D.Desk.sent x) c.args.desks.now.items c.index_mut.result.now c.read.new.desk i d c.requires c.index_mut.ensures.value (λ x. refl)
    (same_view same.0 same.1)

pub returns-clause-plan : goal.returns-clause-plan
returns-clause-plan g c = λ d.
    of_first (λ x y. IfOk c.read.result (λ plan. IsFileOf (g.D.Files.files x) c.args.name.now plan)) c.args.desks.now.items c.index_mut.result.now c.read.new.desk d c.requires c.index_mut.ensures.value c.read.ensures.plan

pub returns-clause-refused : goal.returns-clause-refused
returns-clause-refused g c = λ d.
    of_first (λ x y. IfErr c.read.result (λ status. OrNoMemory (IsFileCause (g.D.Files.files x) (g.D.Files.faults x) (g.D.Files.faults y) c.args.name.now status) status))
    c.args.desks.now.items c.index_mut.result.now c.read.new.desk d c.requires c.index_mut.ensures.value c.read.ensures.refused
