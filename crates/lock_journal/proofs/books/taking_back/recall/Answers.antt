use Rattle.std.proofs.Common.{length, sym, ap, ◌∙◌, arith}
use Rattle.lock_journal.specs.Names.{TentativeView, all_recalled, changes_left}
use Rattle.lock_transforms.proofs.lemmas.Recalled.{recalled_none, recalled_then}
use Rattle.lock_journal.proofs.NextChanges.{next_change, no_change}
use Rattle.lock_journal.proofs.books.taking_back.recall.Goals as goal

pub recall-requires : goal.recall-requires
recall-requires c =
    let first = next_change c.loop-change.change-iterator c.next.new.self c.next.result c.in-Some.change c.in-Some.is c.next.ensures.steps in
    omega (arith, ap length first, c.loop-change.invariant.1)

pub loop-change-preserved : goal.loop-change-preserved
loop-change-preserved c =
    let first = next_change c.loop-change.change-iterator c.next.new.self c.next.result c.in-Some.change c.in-Some.is c.next.ensures.steps in (
      ap (λ (t : TentativeView). all_recalled t (changes_left c.next.new.self)) c.recall.ensures
          ∙ recalled_then c.loop-change.work c.in-Some.change (changes_left c.next.new.self)
          ∙ ap (all_recalled c.loop-change.work) (sym first)
          ∙ c.loop-change.invariant.0,
      omega (arith, ap length first, c.loop-change.invariant.1, ap (λ (t : TentativeView). t.room) c.recall.ensures),
    )

pub returns : goal.returns
returns c =
    sym (recalled_none c.loop-change.work)
    ∙ ap (all_recalled c.loop-change.work) (sym (no_change c.loop-change.change-iterator c.next.new.self c.next.result c.in-None.is c.next.ensures.steps))
    ∙ c.loop-change.invariant.0
