use Rattle.std.proofs.Common.{◌≡◌, false, get_or, refl, sym, ◌∙◌}
use Rattle.std.proofs.lemmas.List.{get_or_default}
use Rattle.task_ordering.proofs.Reached.{reaches_open}
use Rattle.task_ordering.proofs.reaching.Reach.reach.Goals as goal

pub returns-in_ok-push : goal.returns-in_ok-push
returns-in_ok-push c =
    let marks = c.args.self.now.marks.items in
    let unmarked : get_or marks c.args.task false ≡ false = get_or_default marks c.args.task false c.index.result.now c.requires ∙ sym c.index.ensures ∙ c.if-not-index.true in
    reaches_open c.args.self.now _ c.args.task c.requires unmarked refl c.in_ok-push.ensures.items
