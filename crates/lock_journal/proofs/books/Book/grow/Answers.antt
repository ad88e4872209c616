-- the changes noted are forgotten, and the rest is as before
use Rattle.std.proofs.Common.{◌∙◌, ap, arith}
use Rattle.lock_transforms.specs.TentativeView.{TentativeView}
use Rattle.lock_journal.proofs.Given.{sound_forgotten}
use Rattle.lock_journal.proofs.books.Book.grow.Goals as goal

pub invariant_of-self : goal.invariant_of-self
invariant_of-self c =
    sound_forgotten c.self.inside c.settle.new.self c.reserve.new.self c.self.invariant
    (ap (λ (t : TentativeView). t.graph) c.settle.ensures)
    (ap (λ (t : TentativeView). t.state) c.settle.ensures)
    (ap (λ (t : TentativeView). t.made) c.settle.ensures)
    (omega (arith, ap (λ (t : TentativeView). t.room) c.settle.ensures))
    c.reserve.ensures.same.entries
    c.reserve.ensures.same.units

pub invariant_of-self-2 : goal.invariant_of-self-2
invariant_of-self-2 c =
    sound_forgotten c.self.inside c.reserve-2.new.self c.reserve.new.self c.self.invariant
    (c.reserve-2.ensures.same.graph ∙ ap (λ (t : TentativeView). t.graph) c.settle.ensures)
    (c.reserve-2.ensures.same.state ∙ ap (λ (t : TentativeView). t.state) c.settle.ensures)
    (c.reserve-2.ensures.same.made ∙ ap (λ (t : TentativeView). t.made) c.settle.ensures)
    (omega (arith, c.reserve-2.ensures.same.room, ap (λ (t : TentativeView). t.room) c.settle.ensures))
    c.reserve.ensures.same.entries
    c.reserve.ensures.same.units
