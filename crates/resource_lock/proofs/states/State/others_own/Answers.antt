use Rattle.std.proofs.Common.{ltb, sym, ◌∙◌, ap}
use Rattle.resource_lock.proofs.lemmas.Conflicts.{others_counted}
use Rattle.resource_lock.specs.Counting.{counts_of, locks_owned}
use Rattle.resource_lock.proofs.states.State.others_own.Goals as goal

pub returns : goal.returns
returns c =
    ap (λ n. ltb n c.self.inside.owned) (ap (λ counts. counts.locks) c.counts.ensures)
    ∙ ap (ltb (counts_of c.args.self.now c.args.worker).locks) (c.self.invariant.owned ∙ ap locks_owned c.self.view_is)
    ∙ sym (others_counted c.args.worker c.args.self.now.owners)
