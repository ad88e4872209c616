use Rattle.std.proofs.Common.{sym, ap, ◌∙◌}
use Rattle.std.specs.Str.{bytes_eq}
use Rattle.item_actions.specs.Words.{action_word}
use Rattle.item_actions.specs.declared.action_kinds.TheConstants.ActionKind.{ALL}
use Rattle.item_actions.proofs.Finding.{find_later}
use Rattle.item_actions.proofs.action_kinds.ActionKind.of_word.Goals as goal

pub loop-kind-preserved : goal.loop-kind-preserved
loop-kind-preserved c =
    let word = c.args.word.now in
    c.loop-kind.invariant
    ∙ find_later (λ kind. bytes_eq (action_word kind) word) ALL c.loop-kind.kind-index _ c.loop-kind-test.true
    (sym (ap (λ w. bytes_eq w word) c.word.ensures) ∙ sym c.eq.ensures ∙ c.if-eq.false)
