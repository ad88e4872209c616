use Rattle.std.proofs.Common.{◌≡◌, ◌-◌, length, sym, ◌∙◌, ap, subst, arith}
use Rattle.lock_journal.specs.Names.{Fits, prefix_state, TentativeView, all_recalled, IsSound, BookView, changes_left}
use Rattle.ready_work.specs.ReadyWork.{IsIndexOf}
use Rattle.lock_transforms.specs.TentativeView.{settled, with_state}
use Rattle.lock_journal.specs.declared.books.Book.TheInside.{Inside}
use Rattle.lock_journal.specs.declared.shown_entries.Shown.{Shown}
use Rattle.lock_journal.proofs.TakingBack.{back_noted, came_noted, closes_last, few_last, follows_noted, index_noted, left_noted, sound_before, state_before}
use Rattle.lock_journal.proofs.books.Book.take_back.Goals as goal

pub recall-requires : goal.recall-requires
recall-requires c =
    let fits = subst (λ (t : TentativeView). Fits t.graph) c.settle.ensures c.graph.ensures.fits in
    let few = few_last c.self.inside c.entry-last.result c.len.result c.self.invariant c.len.ensures.value c.entry-last.ensures.shown fits c.entry-last.ensures.no_changes in
    omega (arith, few, ap (λ (t : TentativeView). t.room) c.settle.ensures)

pub take_back-requires : goal.take_back-requires
take_back-requires c = (
  state_before c.self.inside,
  came_noted c.self.inside c.entry-last.result c.len.result c.self.invariant c.len.ensures.value c.entry-last.ensures.shown c.entry-last.ensures.no_changes c.recall.new.work
      (c.recall.ensures ∙ ap (λ (t : TentativeView). all_recalled t (changes_left c.entry-last.result.changes)) c.settle.ensures),
)

pub follow-requires : goal.follow-requires
follow-requires c =
    let a : Inside = c.self.inside in
    let last : Shown = c.entry-last.result in
    let none = c.entry-last.ensures.no_changes in
    let back = back_noted a last c.len.result c.self.invariant c.len.ensures.value c.entry-last.ensures.shown none c.recall.new.work c.take_back.new.self
    (c.recall.ensures ∙ ap (λ (t : TentativeView). all_recalled t (changes_left c.entry-last.result.changes)) c.settle.ensures) c.take_back.ensures in (
      a.tentative.state,
      last.worker,
      follows_noted a last c.len.result c.self.invariant c.len.ensures.value c.entry-last.ensures.shown none c.take_back.new.self c.graph-2.result.now c.state.result.now c.made.result.now
          back c.graph-2.ensures.value c.state.ensures.value c.made.ensures,
    )

pub pop-requires-clause-closes : goal.pop-requires-clause-closes
pop-requires-clause-closes c = closes_last c.self.inside c.entry-last.result c.len.result c.self.invariant c.len.ensures.value c.entry-last.ensures.shown

-- the state that is left, while the changes are noted, and once they are forgotten
back : (c : goal.After-pop) → c.take_back.new.self ≡ with_state (all_recalled (settled c.self.inside.tentative) (changes_left c.entry-last.result.changes)) (state_before c.self.inside)
back c =
    back_noted c.self.inside c.entry-last.result c.len.result c.self.invariant c.len.ensures.value c.entry-last.ensures.shown c.entry-last.ensures.no_changes
    c.recall.new.work c.take_back.new.self (c.recall.ensures ∙ ap (λ (t : TentativeView). all_recalled t (changes_left c.entry-last.result.changes)) c.settle.ensures) c.take_back.ensures

left : (c : goal.After-pop) → c.settle-2.new.self ≡ with_state (settled c.self.inside.tentative) (state_before c.self.inside)
left c =
    left_noted c.self.inside c.entry-last.result c.len.result c.self.invariant c.len.ensures.value c.entry-last.ensures.shown
    (subst (λ (t : TentativeView). Fits t.graph) c.settle.ensures c.graph.ensures.fits) c.entry-last.ensures.no_changes
    c.take_back.new.self c.settle-2.new.self (back c) c.settle-2.ensures

pub invariant_of-self : goal.invariant_of-self
invariant_of-self c =
    let a : Inside = c.self.inside in
    let last : Shown = c.entry-last.result in
    let index : IsIndexOf a.tentative.graph (state_before a) c.follow.new.self =
    index_noted a last c.len.result c.self.invariant c.len.ensures.value c.entry-last.ensures.shown c.take_back.new.self c.graph-2.result.now c.state.result.now c.follow.new.self
    (back c) c.graph-2.ensures.value c.state.ensures.value c.follow.ensures in
    subst (λ (t : TentativeView). IsSound (record { tentative = t; history = c.pop.new.self; ready = c.follow.new.self })) (sym (left c))
    (sound_before a last c.len.result c.self.invariant c.len.ensures.value c.entry-last.ensures.shown c.pop.new.self c.follow.new.self c.pop.ensures.entries c.pop.ensures.units index)

pub returns-clause-graph : goal.returns-clause-graph
returns-clause-graph c = ap (λ (t : TentativeView). t.graph) (left c) ∙ ap (λ (l : BookView). l.graph) c.self.view_is

pub returns-clause-state : goal.returns-clause-state
returns-clause-state c =
    ap (λ (t : TentativeView). t.state) (left c)
    ∙ ap (λ (l : BookView). prefix_state l.graph l.history (length l.history - 1)) c.self.view_is

pub returns-clause-spare_changes : goal.returns-clause-spare_changes
returns-clause-spare_changes c =
    omega (arith, ap (λ (l : BookView). l.spare_changes) c.self.view_is, c.pop.ensures.spare_changes, ap (λ (t : TentativeView). t.room) (left c), ap (λ (t : TentativeView). length t.made) (left c))
