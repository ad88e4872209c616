use Rattle.std.specs.Str.{bytes_eq}
use Rattle.std.proofs.lemmas.Slice.Eq.{bytes_eq-Decides}
use Rattle.resource_lock.specs.Words.{retention_word}
use Rattle.resource_lock.specs.declared.graphs.TheConstants.Retention.{ALL}
use Rattle.resource_lock.proofs.Finding.{found}
use Rattle.resource_lock.proofs.laws.retentions_have_words_of_their_own.Goals as goal

pub returns-clause-spelled : goal.returns-clause-spelled
returns-clause-spelled c = λ word retention is. (bytes_eq-Decides (retention_word retention) word).0 (found (λ r. bytes_eq (retention_word r) word) ALL retention is)
