use Rattle.std.proofs.Common.{◌≡◌, length}
use Rattle.history_text.specs.Reading.{after}
use Rattle.history_text.proofs.tokens.text_after.Given as goal

abbrev pub invariant-loop-left : goal.invariant-loop-left
invariant-loop-left l = after l.left l.rest ≡ after l.word l.text

abbrev pub decreases-loop-left : goal.decreases-loop-left
decreases-loop-left l = length l.left
