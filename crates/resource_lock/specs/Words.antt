-- The words of retentions.
use Rattle.std.specs.Prelude.{ℕ, List, Option, codes}
use Rattle.std.specs.List.{find}
use Rattle.std.specs.Str.{bytes_eq}
use Rattle.resource_lock.specs.declared.graphs.Retention.{Retention}
use Rattle.resource_lock.specs.declared.graphs.Retention.TheVariants.{Retain, Release, ReleaseAndReacquire}
use Rattle.resource_lock.specs.declared.graphs.TheConstants.Retention.{ALL}

abbrev pub retention_word : Retention → List ℕ
retention_word Retain = codes "retain"
retention_word Release = codes "release"
retention_word ReleaseAndReacquire = codes "release_and_reacquire"

-- the retention that has the word
abbrev pub retention_of : List ℕ → Option Retention
retention_of word = find (λ retention. bytes_eq (retention_word retention) word) ALL
