use Rattle.std.proofs.Common.{sym, ap, ◌∙◌, subst}
use Rattle.coordination.specs.declared.rule.Sight.{Sight}
use Rattle.planned_work.specs.Next.{NextIn}
use Rattle.planned_work.specs.Places.{place_of}
use Rattle.planned_work.proofs.Never.{next_answers}
use Rattle.planned_work.proofs.Whole.{leaves_next}
use Rattle.planned_work.proofs.workers.PlanWorker.try_next.Goals as goal

pub next_in-requires-clause-place : goal.next_in-requires-clause-place
next_in-requires-clause-place c = c.place_of-place.ensures ∙ ap place_of (sym c.in-None.ensures.none.0)

pub returns-in-Some-clause-left : goal.returns-in-Some-clause-left
returns-in-Some-clause-left c = (c.in-Some.field-0, c.in-Some.ensures.stopper, c.in-Some.ensures.some)

pub returns-in-None-clause-left : goal.returns-in-None-clause-left
returns-in-None-clause-left c =
    let old = c.args.self.now.pass.sight in
    let n = c.next_in in
    leaves_next old n.new.self.pass.sight c.place_of-place.result n.result.0 (sym c.place_of-place.ensures) (subst (λ (s : Sight). NextIn c.place_of-place.result s n.new.self.pass.sight n.result.0) c.in-None.ensures.none.0 n.ensures.left)

pub returns-in-None-clause-never : goal.returns-in-None-clause-never
returns-in-None-clause-never c =
    let n = c.next_in in
    next_answers c.args.self.now.pass.sight n.new.self.pass.sight c.args.self.now.fit n.result.0 (returns-in-None-clause-left c)
