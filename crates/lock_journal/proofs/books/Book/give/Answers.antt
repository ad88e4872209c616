use Rattle.std.proofs.Common.{◌≡◌, drop, length, refl, sym, ◌∙◌, ap, arith}
use Rattle.lock_journal.specs.BookView.{BookView}
use Rattle.lock_journal.proofs.Given.{sound_given}
use Rattle.lock_journal.proofs.books.Book.give.Goals as goal

-- the segment is for as many units as the graph has
units : (c : goal.After-give) → c.args.segment.now.units ≡ c.self.inside.tentative.graph.units
units c = (c.if-not-can_give.ensures.can refl).units ∙ ap (λ (b : BookView). b.graph.units) (sym c.self.view_is)

pub invariant_of-self : goal.invariant_of-self
invariant_of-self c = sound_given c.self.inside c.give.new.self c.self.invariant c.give.ensures.entries (c.give.ensures.units ∙ units c)

pub returns-clause-given : goal.returns-clause-given
returns-clause-given c = λ _. record {
  graph = ap (λ (b : BookView). b.graph) c.self.view_is;
  state = ap (λ (b : BookView). b.state) c.self.view_is;
  history = c.give.ensures.entries ∙ ap (λ (b : BookView). b.history) c.self.view_is;
  given = c.give.ensures.given ∙ ap (λ (b : BookView). length b.history) c.self.view_is;
  before = c.give.ensures.before ∙ ap (λ (b : BookView). b.given) c.self.view_is;
  entries = c.give.ensures.cut ∙ ap (λ (b : BookView). drop b.given b.history) c.self.view_is;
  units = c.give.ensures.units' ∙ c.self.invariant.units ∙ sym (units c);
  spare_entries = c.give.ensures.spare_entries;
  spare_changes = omega (arith, c.give.ensures.spare_changes, ap (λ (b : BookView). b.spare_changes) c.self.view_is);
}
