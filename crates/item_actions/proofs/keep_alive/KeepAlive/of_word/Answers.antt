use Rattle.std.proofs.Common.{sym, ap, ◌∙◌}
use Rattle.std.specs.Str.{bytes_eq}
use Rattle.item_actions.specs.Words.{keep_alive_word}
use Rattle.item_actions.specs.declared.keep_alive.TheConstants.KeepAlive.{ALL}
use Rattle.item_actions.proofs.Finding.{find_later}
use Rattle.item_actions.proofs.keep_alive.KeepAlive.of_word.Goals as goal

pub loop-mode-preserved : goal.loop-mode-preserved
loop-mode-preserved c =
    let word = c.args.word.now in
    c.loop-mode.invariant
    ∙ find_later (λ mode. bytes_eq (keep_alive_word mode) word) ALL c.loop-mode.mode-index _ c.loop-mode-test.true
    (sym (ap (λ w. bytes_eq w word) c.word.ensures) ∙ sym c.eq.ensures ∙ c.if-eq.false)
