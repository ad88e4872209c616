use Rattle.std.proofs.Common.{◌≡◌, ◌<◌, ◌≤◌, ◌+◌, ℕ, List, [], Vec, Ok, length, get_or, map, sym, ap, ◌∙◌, subst, arith}
use Rattle.std.specs.List.{All}
use Rattle.std.specs.declared.alloc.Global.{Global}
use Rattle.lock_journal.specs.Names.{GraphView, BookView}
use Rattle.coordination.specs.Names.{PassView, workers_from}
use Rattle.coordination.specs.declared.services.Opened.{Opened}
use Rattle.coordination.proofs.lemmas.Numbered.{element}
use Rattle.shared_services.specs.Done.{IsHonestJob, faults_of}
use Rattle.shared_services.specs.OneByOne.{OneByOne}
use Rattle.shared_services.specs.Run.{IsRunOfJobs}
use Rattle.shared_services.specs.Shares.{jobs_of}
use Rattle.shared_services.specs.Team.{HasComeBack, HaveRun}
use Rattle.shared_services.specs.Worked.{CanRun}
use Rattle.shared_services.specs.declared.jobs.Job.{Job}
use Rattle.shared_services.specs.declared.jobs.JobDone.{JobDone}
use Rattle.shared_services.specs.declared.runs.JobsEnd.{JobsEnd}
use Rattle.shared_services.proofs.Back.{left_numbers, left_service}
use Rattle.shared_services.proofs.Places.{rise_at_all, same_at_all}
use Rattle.shared_services.proofs.Seated.{if_ok, of_ok}
use Rattle.shared_services.proofs.WholeRun.{all_faults, all_honest, whole}
use Rattle.shared_services.proofs.runs.run_jobs.Goals as goal

pub run_team-done-requires-clause-same : goal.run_team-done-requires-clause-same
run_team-done-requires-clause-same g c κs within =
    let many = ap (λ (o : Opened (Unit {0})). length o.passes.items) c.deref_mut-parts.ensures.value in
    omega (arith, c.deref_mut-parts.result.now.passes.ok.0, many, c.in_ok-opened.ensures.len, c.len-workers.ensures)

pub run_team-done-requires-clause-service : goal.run_team-done-requires-clause-service
run_team-done-requires-clause-service g c κs within =
    subst (λ (o : Opened (Unit {0})). All (λ (p : PassView). p.service ≡ o.service.service) o.passes.items) (sym c.deref_mut-parts.ensures.value) c.in_ok-opened.ensures.service

pub run_team-done-requires-clause-ready : goal.run_team-done-requires-clause-ready
run_team-done-requires-clause-ready g c κs within =
    subst (λ (o : Opened (Unit {0})). All (λ (p : PassView). CanRun c.args.table.now p.sight) o.passes.items) (sym c.deref_mut-parts.ensures.value) c.in_ok-opened.ensures.ready

pub close-book-requires-clause-service : goal.close-book-requires-clause-service
close-book-requires-clause-service g c =
    let D : Type 0 = g.row.F.Denot in
    let n : ℕ = c.len-workers.result in
    let begun : Opened (Unit {0}) = c.deref_mut-parts.result.now in
    let from : c.deref_mut-parts.result.now ≡ c.in_ok-opened.opened.value = c.deref_mut-parts.ensures.value in
    let start = c.in_ok-opened.ensures in
    let team = c.run_team-done.ensures in
    let old : List PassView = c.deref_mut-parts.result.now.passes.items in
    let new : List PassView = c.run_team-done.new.passes.items in
    let before : List D = c.args.desks.now.items in
    let after : List D = c.run_team-done.new.desks.items in
    let desks : length c.args.desks.now.items ≡ c.len-workers.result = omega (arith, c.args.desks.now.ok.0, c.len-workers.ensures) in
    let passes : length c.deref_mut-parts.result.now.passes.items ≡ c.len-workers.result = ap (λ (o : Opened (Unit {0})). length o.passes.items) from ∙ start.len in
    let left : length c.run_team-done.new.passes.items ≡ c.len-workers.result = omega (arith, team.passes, c.len-workers.ensures) in
    let back : (i : ℕ) (p : PassView) (d : g.row.F.Denot) → i < c.len-workers.result → HasComeBack g.F.Files.files g.F.Files.faults (get_or c.deref_mut-parts.result.now.passes.items i p) (get_or c.run_team-done.new.passes.items i p) (get_or c.args.desks.now.items i d) (get_or c.run_team-done.new.desks.items i d) =
    λ i p d low. team.back i p d (omega (arith, low, c.len-workers.ensures)) in
    left_service {D = D} g.F.Files.files g.F.Files.faults n old new before after passes left desks back c.deref_mut-parts.result.now.service
    (subst (λ (o : Opened (Unit {0})). All (λ (p : PassView). p.service ≡ o.service.service) o.passes.items) (sym from) start.service)

pub close-book-requires-clause-workers : goal.close-book-requires-clause-workers
close-book-requires-clause-workers g c =
    let D : Type 0 = g.row.F.Denot in
    let n : ℕ = c.len-workers.result in
    let begun : Opened (Unit {0}) = c.deref_mut-parts.result.now in
    let from : c.deref_mut-parts.result.now ≡ c.in_ok-opened.opened.value = c.deref_mut-parts.ensures.value in
    let start = c.in_ok-opened.ensures in
    let team = c.run_team-done.ensures in
    let old : List PassView = c.deref_mut-parts.result.now.passes.items in
    let new : List PassView = c.run_team-done.new.passes.items in
    let before : List D = c.args.desks.now.items in
    let after : List D = c.run_team-done.new.desks.items in
    let desks : length c.args.desks.now.items ≡ c.len-workers.result = omega (arith, c.args.desks.now.ok.0, c.len-workers.ensures) in
    let passes : length c.deref_mut-parts.result.now.passes.items ≡ c.len-workers.result = ap (λ (o : Opened (Unit {0})). length o.passes.items) from ∙ start.len in
    let left : length c.run_team-done.new.passes.items ≡ c.len-workers.result = omega (arith, team.passes, c.len-workers.ensures) in
    let back : (i : ℕ) (p : PassView) (d : g.row.F.Denot) → i < c.len-workers.result → HasComeBack g.F.Files.files g.F.Files.faults (get_or c.deref_mut-parts.result.now.passes.items i p) (get_or c.run_team-done.new.passes.items i p) (get_or c.args.desks.now.items i d) (get_or c.run_team-done.new.desks.items i d) =
    λ i p d low. team.back i p d (omega (arith, low, c.len-workers.ensures)) in
    let first : map (λ (p : PassView). p.sight.worker.0) c.deref_mut-parts.result.now.passes.items ≡ workers_from 0 c.len-workers.result = ap (λ (o : Opened (Unit {0})). map (λ (p : PassView). p.sight.worker.0) o.passes.items) from ∙ start.workers in
    let numbers = left_numbers {D = D} g.F.Files.files g.F.Files.faults n old new before after passes left desks back first in
    numbers ∙ ap (λ (k : ℕ). workers_from 0 k) (sym (ap (λ (o : Opened (Unit {0})). o.service.book.graph.workers) from ∙ ap (λ (g : GraphView). g.workers) start.graph))

pub returns-clause-files : goal.returns-clause-files
returns-clause-files g c =
    let D : Type 0 = g.row.F.Denot in
    let passes = c.deref_mut-parts.result.now.passes in
    same_at_all {D = D} c.args.desks.now.items c.run_team-done.new.desks.items (omega (arith, c.run_team-done.ensures.desks, c.args.desks.now.ok.0)) g.F.Files.files
    (λ i d low. (c.run_team-done.ensures.back i (element c.deref_mut-parts.result.now.passes.items i (omega (arith, low, c.args.desks.now.ok.0, ap (λ (o : Opened (Unit {0})). length o.passes.items) c.deref_mut-parts.ensures.value, c.in_ok-opened.ensures.len, c.len-workers.ensures))) d (omega (arith, low, c.args.desks.now.ok.0))).known)

pub returns-clause-counts : goal.returns-clause-counts
returns-clause-counts g c =
    let D : Type 0 = g.row.F.Denot in
    rise_at_all {D = D} c.args.desks.now.items c.run_team-done.new.desks.items (omega (arith, c.run_team-done.ensures.desks, c.args.desks.now.ok.0)) g.F.Files.faults
    (λ i d low. (c.run_team-done.ensures.back i (element c.deref_mut-parts.result.now.passes.items i (omega (arith, low, c.args.desks.now.ok.0, ap (λ (o : Opened (Unit {0})). length o.passes.items) c.deref_mut-parts.ensures.value, c.in_ok-opened.ensures.len, c.len-workers.ensures))) d (omega (arith, low, c.args.desks.now.ok.0))).count)

pub returns-clause-run : goal.returns-clause-run
returns-clause-run g c =
    let D : Type 0 = g.row.F.Denot in
    let n : ℕ = c.len-workers.result in
    let begun : Opened (Unit {0}) = c.deref_mut-parts.result.now in
    let from : c.deref_mut-parts.result.now ≡ c.in_ok-opened.opened.value = c.deref_mut-parts.ensures.value in
    let start = c.in_ok-opened.ensures in
    let team = c.run_team-done.ensures in
    let old : List PassView = c.deref_mut-parts.result.now.passes.items in
    let new : List PassView = c.run_team-done.new.passes.items in
    let before : List D = c.args.desks.now.items in
    let after : List D = c.run_team-done.new.desks.items in
    let desks : length c.args.desks.now.items ≡ c.len-workers.result = omega (arith, c.args.desks.now.ok.0, c.len-workers.ensures) in
    let passes : length c.deref_mut-parts.result.now.passes.items ≡ c.len-workers.result = ap (λ (o : Opened (Unit {0})). length o.passes.items) from ∙ start.len in
    let left : length c.run_team-done.new.passes.items ≡ c.len-workers.result = omega (arith, team.passes, c.len-workers.ensures) in
    let back : (i : ℕ) (p : PassView) (d : g.row.F.Denot) → i < c.len-workers.result → HasComeBack g.F.Files.files g.F.Files.faults (get_or c.deref_mut-parts.result.now.passes.items i p) (get_or c.run_team-done.new.passes.items i p) (get_or c.args.desks.now.items i d) (get_or c.run_team-done.new.desks.items i d) =
    λ i p d low. team.back i p d (omega (arith, low, c.len-workers.ensures)) in
    let first : map (λ (p : PassView). p.sight.worker.0) c.deref_mut-parts.result.now.passes.items ≡ workers_from 0 c.len-workers.result = ap (λ (o : Opened (Unit {0})). map (λ (p : PassView). p.sight.worker.0) o.passes.items) from ∙ start.workers in
    let numbers = left_numbers {D = D} g.F.Files.files g.F.Files.faults n old new before after passes left desks back first in
    let fresh : All (λ (p : PassView). p.sight.seen.history ≡ []) c.deref_mut-parts.result.now.passes.items = subst (λ (o : Opened (Unit {0})). All (λ (p : PassView). p.sight.seen.history ≡ []) o.passes.items) (sym from) start.untouched in
    let book = c.close-book.result.value in
    let graph = c.close-book.ensures.graph ∙ (ap (λ (o : Opened (Unit {0})). o.service.book.graph) from ∙ start.graph) in
    let some : 0 < c.len-workers.result = omega (arith, c.requires.some_desk, desks) in
    let did = λ (list : Vec JobDone Global). HaveRun c.args.table.now g.F.Files.files g.F.Files.faults (jobs_of c.len-workers.result c.args.jobs.now) c.deref_mut-parts.result.now.passes.items c.run_team-done.new.passes.items c.args.desks.now.items c.run_team-done.new.desks.items list.items in
    if_ok (λ (e : JobsEnd). (e.book.value ≡ c.close-book.result.value) × (c.run_team-done.result ≡ Ok e.done)) (λ (e : JobsEnd). IsRunOfJobs c.args.table.now (length c.args.desks.now.items) c.args.max_leases c.args.jobs.now e.book.value e.done.items) (λ end is.
    let r = of_ok did c.run_team-done.result end.done is.1 team.ran in
    subst (λ (k : ℕ). IsRunOfJobs c.args.table.now k c.args.max_leases c.args.jobs.now end.book.value end.done.items) (sym desks)
    (subst (λ (b : BookView). IsRunOfJobs c.args.table.now n c.args.max_leases c.args.jobs.now b end.done.items) (sym is.0)
    (whole {D = D} c.args.table.now g.F.Files.files g.F.Files.faults c.args.jobs.now n c.args.max_leases old new before after end.done.items book some desks passes numbers fresh graph c.close-book.ensures.agrees c.close-book.ensures.sound r c.close-book.ensures.rest c.close-book.ensures.together)))
    c.end_of.result c.end_of.ensures

pub returns-clause-honest : goal.returns-clause-honest
returns-clause-honest g c = λ d.
    let D : Type 0 = g.row.F.Denot in
    let n : ℕ = c.len-workers.result in
    let begun : Opened (Unit {0}) = c.deref_mut-parts.result.now in
    let from : c.deref_mut-parts.result.now ≡ c.in_ok-opened.opened.value = c.deref_mut-parts.ensures.value in
    let start = c.in_ok-opened.ensures in
    let team = c.run_team-done.ensures in
    let old : List PassView = c.deref_mut-parts.result.now.passes.items in
    let new : List PassView = c.run_team-done.new.passes.items in
    let before : List D = c.args.desks.now.items in
    let after : List D = c.run_team-done.new.desks.items in
    let desks : length c.args.desks.now.items ≡ c.len-workers.result = omega (arith, c.args.desks.now.ok.0, c.len-workers.ensures) in
    let passes : length c.deref_mut-parts.result.now.passes.items ≡ c.len-workers.result = ap (λ (o : Opened (Unit {0})). length o.passes.items) from ∙ start.len in
    let left : length c.run_team-done.new.passes.items ≡ c.len-workers.result = omega (arith, team.passes, c.len-workers.ensures) in
    let back : (i : ℕ) (p : PassView) (d : g.row.F.Denot) → i < c.len-workers.result → HasComeBack g.F.Files.files g.F.Files.faults (get_or c.deref_mut-parts.result.now.passes.items i p) (get_or c.run_team-done.new.passes.items i p) (get_or c.args.desks.now.items i d) (get_or c.run_team-done.new.desks.items i d) =
    λ i p d low. team.back i p d (omega (arith, low, c.len-workers.ensures)) in
    let first : map (λ (p : PassView). p.sight.worker.0) c.deref_mut-parts.result.now.passes.items ≡ workers_from 0 c.len-workers.result = ap (λ (o : Opened (Unit {0})). map (λ (p : PassView). p.sight.worker.0) o.passes.items) from ∙ start.workers in
    let numbers = left_numbers {D = D} g.F.Files.files g.F.Files.faults n old new before after passes left desks back first in
    let fresh : All (λ (p : PassView). p.sight.seen.history ≡ []) c.deref_mut-parts.result.now.passes.items = subst (λ (o : Opened (Unit {0})). All (λ (p : PassView). p.sight.seen.history ≡ []) o.passes.items) (sym from) start.untouched in
    let book = c.close-book.result.value in
    let graph = c.close-book.ensures.graph ∙ (ap (λ (o : Opened (Unit {0})). o.service.book.graph) from ∙ start.graph) in
    let some : 0 < c.len-workers.result = omega (arith, c.requires.some_desk, desks) in
    let did = λ (list : Vec JobDone Global). HaveRun c.args.table.now g.F.Files.files g.F.Files.faults (jobs_of c.len-workers.result c.args.jobs.now) c.deref_mut-parts.result.now.passes.items c.run_team-done.new.passes.items c.args.desks.now.items c.run_team-done.new.desks.items list.items in
    if_ok (λ (e : JobsEnd). (e.book.value ≡ c.close-book.result.value) × (c.run_team-done.result ≡ Ok e.done)) (λ (e : JobsEnd). OneByOne (λ (j : Job) (k : JobDone). IsHonestJob (g.F.Files.files (get_or c.args.desks.now.items k.worker.0 d)) j k) c.args.jobs.now e.done.items) (λ end is.
    let r = of_ok did c.run_team-done.result end.done is.1 team.ran in
    all_honest {D = D} c.args.table.now g.F.Files.files g.F.Files.faults c.args.jobs.now n c.args.max_leases old new before after end.done.items book some desks passes numbers fresh graph c.close-book.ensures.agrees c.close-book.ensures.sound r d)
    c.end_of.result c.end_of.ensures

pub returns-clause-faults : goal.returns-clause-faults
returns-clause-faults g c = λ i d within few.
    let D : Type 0 = g.row.F.Denot in
    let n : ℕ = c.len-workers.result in
    let begun : Opened (Unit {0}) = c.deref_mut-parts.result.now in
    let from : c.deref_mut-parts.result.now ≡ c.in_ok-opened.opened.value = c.deref_mut-parts.ensures.value in
    let start = c.in_ok-opened.ensures in
    let team = c.run_team-done.ensures in
    let old : List PassView = c.deref_mut-parts.result.now.passes.items in
    let new : List PassView = c.run_team-done.new.passes.items in
    let before : List D = c.args.desks.now.items in
    let after : List D = c.run_team-done.new.desks.items in
    let desks : length c.args.desks.now.items ≡ c.len-workers.result = omega (arith, c.args.desks.now.ok.0, c.len-workers.ensures) in
    let passes : length c.deref_mut-parts.result.now.passes.items ≡ c.len-workers.result = ap (λ (o : Opened (Unit {0})). length o.passes.items) from ∙ start.len in
    let left : length c.run_team-done.new.passes.items ≡ c.len-workers.result = omega (arith, team.passes, c.len-workers.ensures) in
    let back : (i : ℕ) (p : PassView) (d : g.row.F.Denot) → i < c.len-workers.result → HasComeBack g.F.Files.files g.F.Files.faults (get_or c.deref_mut-parts.result.now.passes.items i p) (get_or c.run_team-done.new.passes.items i p) (get_or c.args.desks.now.items i d) (get_or c.run_team-done.new.desks.items i d) =
    λ i p d low. team.back i p d (omega (arith, low, c.len-workers.ensures)) in
    let first : map (λ (p : PassView). p.sight.worker.0) c.deref_mut-parts.result.now.passes.items ≡ workers_from 0 c.len-workers.result = ap (λ (o : Opened (Unit {0})). map (λ (p : PassView). p.sight.worker.0) o.passes.items) from ∙ start.workers in
    let numbers = left_numbers {D = D} g.F.Files.files g.F.Files.faults n old new before after passes left desks back first in
    let fresh : All (λ (p : PassView). p.sight.seen.history ≡ []) c.deref_mut-parts.result.now.passes.items = subst (λ (o : Opened (Unit {0})). All (λ (p : PassView). p.sight.seen.history ≡ []) o.passes.items) (sym from) start.untouched in
    let book = c.close-book.result.value in
    let graph = c.close-book.ensures.graph ∙ (ap (λ (o : Opened (Unit {0})). o.service.book.graph) from ∙ start.graph) in
    let some : 0 < c.len-workers.result = omega (arith, c.requires.some_desk, desks) in
    let did = λ (list : Vec JobDone Global). HaveRun c.args.table.now g.F.Files.files g.F.Files.faults (jobs_of c.len-workers.result c.args.jobs.now) c.deref_mut-parts.result.now.passes.items c.run_team-done.new.passes.items c.args.desks.now.items c.run_team-done.new.desks.items list.items in
    if_ok (λ (e : JobsEnd). (e.book.value ≡ c.close-book.result.value) × (c.run_team-done.result ≡ Ok e.done)) (λ (e : JobsEnd). faults_of (record { 0 = i }) e.done.items + g.F.Files.faults (get_or c.args.desks.now.items i d) ≤ g.F.Files.faults (get_or c.run_team-done.new.desks.items i d)) (λ end is.
    let r = of_ok did c.run_team-done.result end.done is.1 team.ran in
    all_faults {D = D} c.args.table.now g.F.Files.files g.F.Files.faults c.args.jobs.now n c.args.max_leases old new before after end.done.items book some desks passes numbers fresh graph c.close-book.ensures.agrees c.close-book.ensures.sound r i d (omega (arith, within, desks)) few)
    c.end_of.result c.end_of.ensures
