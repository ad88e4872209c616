use Rattle.std.proofs.Common.{◌≡◌, List, Vec, drop, length, map, true, sym, ap, ◌∙◌, subst, arith}
use Rattle.std.specs.List.{All, flat_map}
use Rattle.std.proofs.lemmas.List.{take_at}
use Rattle.std.specs.declared.alloc.Global.{Global}
use Rattle.coordination.specs.Passes.{PassView}
use Rattle.shared_services.specs.Shares.{jobs_of}
use Rattle.shared_services.specs.Worked.{CanRun}
use Rattle.shared_services.specs.declared.workers.Worker.{Worker}
use Rattle.coordination.proofs.lemmas.Numbered.{of_each}
use Rattle.shared_services.proofs.Seated.{all_back, all_ran, as_many, if_both}
use Rattle.shared_services.proofs.runs.run_team.Goals as goal

pub work-requires-clause-workers : goal.work-requires-clause-workers
work-requires-clause-workers g c κs within =
    let W : Type 0 = Worker g.row.F.Denot in
    let many = as_many {W = W} (λ w. w.pass) c.seat.new.team.items c.args.passes.now.items (c.seat.ensures.passes ∙ ap (λ (v : Vec PassView Global). v.items) c.replace.ensures.value) in
    omega (arith, c.as_mut_slice.ensures.len, many, c.seat.new.team.ok.0, c.args.passes.now.ok.0, c.requires.same, c.requires.workers)

pub work-requires-clause-service : goal.work-requires-clause-service
work-requires-clause-service g c κs within =
    let W : Type 0 = Worker g.row.F.Denot in
    let ours : PassView → Type 0 = λ p. p.service ≡ c.args.site.now.service.now.service in
    subst (λ (ws : List W). All (λ w. ours w.pass) ws) (sym c.as_mut_slice.ensures.value) (of_each {W = W} (λ w. w.pass) ours c.seat.new.team.items c.args.passes.now.items (c.seat.ensures.passes ∙ ap (λ (v : Vec PassView Global). v.items) c.replace.ensures.value) c.requires.service)

pub work-requires-clause-ready : goal.work-requires-clause-ready
work-requires-clause-ready g c κs within =
    let W : Type 0 = Worker g.row.F.Denot in
    let can : PassView → Type 0 = λ p. CanRun c.args.site.now.table.now p.sight in
    subst (λ (ws : List W). All (λ w. can w.pass) ws) (sym c.as_mut_slice.ensures.value) (of_each {W = W} (λ w. w.pass) can c.seat.new.team.items c.args.passes.now.items (c.seat.ensures.passes ∙ ap (λ (v : Vec PassView Global). v.items) c.replace.ensures.value) c.requires.ready)

pub returns-clause-back : goal.returns-clause-back
returns-clause-back g c = λ i p d low.
    let W : Type 0 = Worker g.row.F.Denot in
    let D : Type 0 = g.row.F.Denot in
    let old : List W = c.as_mut_slice.result.now in
    let new : List W = c.work.new.team in
    let back = take_at new (drop (length new) c.seat.new.team.items) c.seat.new.team.len (c.work.ensures.len ∙ c.as_mut_slice.ensures.len) in
    all_back {W = W} {D = D} (λ w. w.pass) (λ w. w.desk) (λ w. w.done.items) (λ w. w.ended) old new c.work.ensures.len c.args.desks.now.items c.part.new.desks.items c.args.passes.now.items c.part.new.passes.items
    (ap (λ (l : List W). map (λ w. w.desk) l) c.as_mut_slice.ensures.value ∙ (c.seat.ensures.desks ∙ ap (λ (v : Vec D Global). v.items) c.replace-2.ensures.value)) (sym (c.part.ensures.desks ∙ ap (λ (l : List W). map (λ w. w.desk) l) back))
    (ap (λ (l : List W). map (λ w. w.pass) l) c.as_mut_slice.ensures.value ∙ (c.seat.ensures.passes ∙ ap (λ (v : Vec PassView Global). v.items) c.replace.ensures.value)) (sym (c.part.ensures.passes ∙ ap (λ (l : List W). map (λ w. w.pass) l) back))
    c.args.site.now.table.now g.F.Files.files g.F.Files.faults (jobs_of c.args.site.now.workers c.args.site.now.jobs.now) c.work.ensures.worked i p d (omega (arith, c.args.desks.now.ok.0, low))

pub returns-clause-ran : goal.returns-clause-ran
returns-clause-ran g c =
    let W : Type 0 = Worker g.row.F.Denot in
    let D : Type 0 = g.row.F.Denot in
    let old : List W = c.as_mut_slice.result.now in
    let new : List W = c.work.new.team in
    let team : List W = c.as_slice.result.now in
    let back = take_at new (drop (length new) c.seat.new.team.items) c.seat.new.team.len (c.work.ensures.len ∙ c.as_mut_slice.ensures.len) in
    let is : c.as_slice.result.now ≡ c.work.new.team = c.as_slice.ensures.value ∙ back in
    if_both (λ v. All (λ (w : W). w.ended ≡ true) team) (λ v. v.items ≡ flat_map (λ (w : W). w.done.items) team) _
    (λ v ended joined. all_ran {W = W} {D = D} (λ w. w.pass) (λ w. w.desk) (λ w. w.done.items) (λ w. w.ended) old new c.work.ensures.len c.args.desks.now.items c.part.new.desks.items c.args.passes.now.items c.part.new.passes.items
    (ap (λ (l : List W). map (λ w. w.desk) l) c.as_mut_slice.ensures.value ∙ (c.seat.ensures.desks ∙ ap (λ (v : Vec D Global). v.items) c.replace-2.ensures.value)) (sym (c.part.ensures.desks ∙ ap (λ (l : List W). map (λ w. w.desk) l) back))
    (ap (λ (l : List W). map (λ w. w.pass) l) c.as_mut_slice.ensures.value ∙ (c.seat.ensures.passes ∙ ap (λ (v : Vec PassView Global). v.items) c.replace.ensures.value)) (sym (c.part.ensures.passes ∙ ap (λ (l : List W). map (λ w. w.pass) l) back))
    c.args.site.now.table.now g.F.Files.files g.F.Files.faults (jobs_of c.args.site.now.workers c.args.site.now.jobs.now) c.work.ensures.worked v.items
    (subst (λ (ws : List W). All (λ w. w.ended ≡ true) ws) is ended) (joined ∙ ap (λ (ws : List W). flat_map (λ w. w.done.items) ws) is))
    c.all_done-done.result c.all_done-done.ensures.ended c.all_done-done.ensures.done
