use Rattle.std.proofs.Common.{sym, ap, ◌∙◌}
use Rattle.std.specs.Str.{bytes_eq}
use Rattle.resource_lock.specs.Words.{retention_word}
use Rattle.resource_lock.specs.declared.graphs.TheConstants.Retention.{ALL}
use Rattle.resource_lock.proofs.Finding.{find_later}
use Rattle.resource_lock.proofs.graphs.Retention.of_word.Goals as goal

pub loop-retention-preserved : goal.loop-retention-preserved
loop-retention-preserved c =
    let word = c.args.word.now in
    c.loop-retention.invariant
    ∙ find_later (λ retention. bytes_eq (retention_word retention) word) ALL c.loop-retention.retention-index _ c.loop-retention-test.true
    (sym (ap (λ w. bytes_eq w word) c.word.ensures) ∙ sym c.eq.ensures ∙ c.if-eq.false)
