use Rattle.std.proofs.Common.{length, get_or, sym, ◌∙◌, ap, arith}
use Rattle.std.proofs.lemmas.Bool.{ltb-true, ltb-false}
use Rattle.resource_lock.proofs.Holding.{counts_found, no_counts_found}
use Rattle.resource_lock.specs.Counting.{counts_of}
use Rattle.resource_lock.proofs.states.State.counts.Goals as goal

pub returns-in-Some : goal.returns-in-Some
returns-in-Some c =
    counts_found c.self.inside c.args.worker c.in-Some.held.now c.self.invariant
    (omega (arith, ltb-true _ _ (sym c.in-Some.ensures.lookup.0), ap length c.deref.ensures.value))
    (c.in-Some.ensures.lookup.1 ∙ ap (λ xs. get_or xs c.args.worker.0 c.in-Some.held.now) c.deref.ensures.value)
    ∙ ap (λ s. counts_of s c.args.worker) c.self.view_is

pub returns-in-None : goal.returns-in-None
returns-in-None c =
    no_counts_found c.self.inside c.args.worker c.self.invariant
    (omega (arith, ltb-false _ _ (sym c.in-None.ensures.lookup.0), ap length c.deref.ensures.value))
    ∙ ap (λ s. counts_of s c.args.worker) c.self.view_is
