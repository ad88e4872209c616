use Rattle.std.proofs.Common.{leb, get_or, ◌∙◌, ap}
use Rattle.resource_lock.specs.GraphView.{no_action}
use Rattle.resource_lock.specs.Ranges.{first_item}
use Rattle.resource_lock.proofs.lemmas.Units.{is_item_from}
use Rattle.resource_lock.proofs.graphs.Graph.is_item.Goals as goal

pub returns : goal.returns
returns c =
    ap (leb c.first_item.result) c.from.ensures
    ∙ ap (λ n. leb n c.args.unit) (c.first_item.ensures ∙ ap (λ actions. first_item (get_or actions c.action_with.result no_action)) c.actions.ensures.value)
    ∙ is_item_from c.args.self.now c.action_with.result c.args.unit c.actions.ensures.fits c.action_with.ensures.action
