use Rattle.std.specs.Str.{bytes_eq}
use Rattle.std.proofs.lemmas.Slice.Eq.{bytes_eq-Decides}
use Rattle.item_actions.specs.Words.{action_word}
use Rattle.item_actions.specs.declared.action_kinds.TheConstants.ActionKind.{ALL}
use Rattle.item_actions.proofs.Finding.{found}
use Rattle.item_actions.proofs.laws.actions_have_words_of_their_own.Goals as goal

pub returns-clause-spelled : goal.returns-clause-spelled
returns-clause-spelled c = λ word kind is. (bytes_eq-Decides (action_word kind) word).0 (found (λ k. bytes_eq (action_word k) word) ALL kind is)
