use Rattle.std.proofs.Common.{◌≡◌, drop}
use Rattle.std.specs.List.{find}
use Rattle.std.specs.Str.{bytes_eq}
use Rattle.item_actions.specs.Words.{outcome_word, outcome_kind_of}
use Rattle.item_actions.specs.declared.outcome_kinds.TheConstants.OutcomeKind.{ALL}
use Rattle.item_actions.proofs.outcome_kinds.OutcomeKind.of_word.Given as goal

abbrev pub invariant-loop-kind : goal.invariant-loop-kind
invariant-loop-kind l = outcome_kind_of l.word ≡ find (λ kind. bytes_eq (outcome_word kind) l.word) (drop l.kind-index ALL)
