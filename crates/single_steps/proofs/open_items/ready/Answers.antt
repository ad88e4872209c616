use Rattle.std.proofs.Common.{◌≡◌, Bool, true, false, not, Option, Some, None, ap, ◌∙◌}
use Rattle.std.specs.Prelude.{is_none, is_some}
use Rattle.resource_lock.specs.Ranges.{items_of}
use Rattle.worker_choices.specs.NextSteps.{first_open}
use Rattle.async_tracker.proofs.lemmas.Resumed.{none_open}
use Rattle.single_steps.proofs.open_items.ready.Goals as goal

none_by : {X : Type 0} (o : Option X) (b : Bool) → is_some o ≡ not b → b ≡ is_none o
none_by None true is = cc
none_by None false is = cc
none_by (Some x) true is = cc
none_by (Some x) false is = cc

pub returns : goal.returns
returns c =
    let book = c.args.book.now in
    none_by c.first_open.result c.is_none.result c.is_none.ensures
    ∙ ap is_none c.first_open.ensures
    ∙ ap (λ a. is_none (first_open book.graph book.state a)) c.action.ensures
    ∙ none_open _ (items_of book.graph c.args.parked.now.action)
