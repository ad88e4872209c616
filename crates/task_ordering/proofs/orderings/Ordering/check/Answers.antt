use Rattle.std.proofs.Common.{◌≡◌, ap, subst, ◌∙◌, arith}
use Rattle.ready_work.specs.Rank.{InRange, Dependencies, lists_of}
use Rattle.lock_journal.specs.Shown.{entry_shown}
use Rattle.task_ordering.specs.OrderingView.{OrderingView}
use Rattle.task_ordering.proofs.Checks.{broken, checked_next, kept, early_as, not_early_as}
use Rattle.task_ordering.proofs.orderings.Ordering.check.Goals as goal

pub returns-then-starts_early : goal.returns-then-starts_early
returns-then-starts_early g c =
    let befores : Dependencies = c.args.self.now.befores in
    let is : lists_of c.self.inside.befores.items ≡ befores = ap (λ (o : OrderingView). o.befores) c.self.view_is in
    let range : InRange befores = subst InRange is c.self.invariant in
    let e = entry_shown c.at-entry.result in
    let read : lists_of c.deref.result.now ≡ befores = ap lists_of c.deref.ensures.value ∙ is in
    broken befores range (g.H.Entries.entries c.args.history.now) c.loop-place.place c.loop-place.ended.marks.items e c.at-entry.ensures c.loop-place.invariant
    (early_as (lists_of c.deref.result.now) befores c.loop-place.ended.marks.items e read (c.starts_early.ensures.early c.if-starts_early.true))

pub loop-place-preserved : goal.loop-place-preserved
loop-place-preserved g c =
    let befores : Dependencies = c.args.self.now.befores in
    let is : lists_of c.self.inside.befores.items ≡ befores = ap (λ (o : OrderingView). o.befores) c.self.view_is in
    let range : InRange befores = subst InRange is c.self.invariant in
    let e = entry_shown c.at-entry.result in
    let read : lists_of c.deref.result.now ≡ befores = ap lists_of c.deref.ensures.value ∙ is in
    checked_next befores range (g.H.Entries.entries c.args.history.now) c.loop-place.place c.loop-place.ended.marks.items e c.at-entry.ensures c.loop-place.invariant c.note.new.self.marks.items
    (not_early_as (lists_of c.deref.result.now) befores c.loop-place.ended.marks.items e read (c.starts_early.ensures.none c.if-starts_early.false))
    c.note.ensures.size c.note.ensures.keeps c.note.ensures.marks c.note.ensures.only

pub returns : goal.returns
returns g c = kept c.args.self.now.befores (g.H.Entries.entries c.args.history.now) c.loop-place.place c.loop-place.ended.marks.items (omega (arith, c.loop-place-test.false, c.count-place-end.ensures)) c.loop-place.invariant
