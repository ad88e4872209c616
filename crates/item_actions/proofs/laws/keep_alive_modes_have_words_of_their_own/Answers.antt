use Rattle.std.specs.Str.{bytes_eq}
use Rattle.std.proofs.lemmas.Slice.Eq.{bytes_eq-Decides}
use Rattle.item_actions.specs.Words.{keep_alive_word}
use Rattle.item_actions.specs.declared.keep_alive.TheConstants.KeepAlive.{ALL}
use Rattle.item_actions.proofs.Finding.{found}
use Rattle.item_actions.proofs.laws.keep_alive_modes_have_words_of_their_own.Goals as goal

pub returns-clause-spelled : goal.returns-clause-spelled
returns-clause-spelled c = λ word mode is. (bytes_eq-Decides (keep_alive_word mode) word).0 (found (λ m. bytes_eq (keep_alive_word m) word) ALL mode is)
