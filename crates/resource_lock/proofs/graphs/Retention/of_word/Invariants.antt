use Rattle.std.proofs.Common.{◌≡◌, drop}
use Rattle.std.specs.List.{find}
use Rattle.std.specs.Str.{bytes_eq}
use Rattle.resource_lock.specs.Words.{retention_word, retention_of}
use Rattle.resource_lock.specs.declared.graphs.TheConstants.Retention.{ALL}
use Rattle.resource_lock.proofs.graphs.Retention.of_word.Given as goal

abbrev pub invariant-loop-retention : goal.invariant-loop-retention
invariant-loop-retention l = retention_of l.word ≡ find (λ retention. bytes_eq (retention_word retention) l.word) (drop l.retention-index ALL)
