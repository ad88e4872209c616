use Rattle.std.proofs.Common.{◌≡◌, ◌+◌, ◌≤◌, length}
use Rattle.history_text.specs.Reading.{number_after}
use Rattle.history_text.proofs.tokens.read_digits.Given as goal

abbrev pub invariant-loop-rest : goal.invariant-loop-rest
invariant-loop-rest l = record { below : l.number ≤ l.last; reads : number_after (l.last + 1) l.number l.rest ≡ number_after (l.last + 1) l.fn.first l.text }

abbrev pub decreases-loop-rest : goal.decreases-loop-rest
decreases-loop-rest l = length l.rest
