use Rattle.std.proofs.Common.{◌≡◌, drop}
use Rattle.std.specs.List.{find}
use Rattle.std.specs.Str.{bytes_eq}
use Rattle.item_actions.specs.Words.{action_word, action_kind_of}
use Rattle.item_actions.specs.declared.action_kinds.TheConstants.ActionKind.{ALL}
use Rattle.item_actions.proofs.action_kinds.ActionKind.of_word.Given as goal

abbrev pub invariant-loop-kind : goal.invariant-loop-kind
invariant-loop-kind l = action_kind_of l.word ≡ find (λ kind. bytes_eq (action_word kind) l.word) (drop l.kind-index ALL)
