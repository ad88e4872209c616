use Rattle.std.proofs.Common.{rules, Some, sym, ◌∙◌, subst}
use Rattle.lock_transforms.specs.declared.entries.Closed.{Closed}
use Rattle.planned_work.specs.Done.{TakeUpLeaves}
use Rattle.planned_work.specs.declared.places.Place.TheVariants as places
use Rattle.planned_work.proofs.Never.{done_answers}
use Rattle.planned_work.proofs.Whole.{leaves_done}
use Rattle.planned_work.proofs.workers.PlanWorker.done.Goals as goal

-- an item is closed in the same way: `CloseLeaves (closed_as u gave)` is what `DoneIn` says at either place
pub returns-in-Fetch-clause-left : goal.returns-in-Fetch-clause-left
returns-in-Fetch-clause-left c =
    let t = c.take_up in
    let old = c.args.self.now.pass.sight in
    let left = subst (λ (k : Closed). TakeUpLeaves (Some k) old t.new.self.pass.sight t.result.0) c.closed_as.ensures t.ensures.left in
    leaves_done c.args.gave old t.new.self.pass.sight (places.Fetch c.in-Fetch.unit) t.result.0 (sym c.place_of.ensures ∙ c.in-Fetch.is) left

pub returns-in-Fetch-clause-never : goal.returns-in-Fetch-clause-never
returns-in-Fetch-clause-never c =
    let t = c.take_up in
    done_answers c.args.self.now.pass.sight t.new.self.pass.sight c.args.self.now.fit c.args.gave t.result.0 (returns-in-Fetch-clause-left c)

pub returns-in-Item-clause-never : goal.returns-in-Item-clause-never
returns-in-Item-clause-never c =
    let t = c.close_item in
    done_answers c.args.self.now.pass.sight t.new.self.pass.sight c.args.self.now.fit c.args.gave t.result.0 (search rules)
