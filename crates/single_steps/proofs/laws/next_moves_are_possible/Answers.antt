use Rattle.single_steps.proofs.AtOnce.{next_end, next_fetch, next_items, next_wait}
use Rattle.single_steps.proofs.laws.next_moves_are_possible.Goals as goal

pub returns-clause-fetch : goal.returns-clause-fetch
returns-clause-fetch c = λ old book t u fits finds works next. next_fetch old book t fits finds works u next

pub returns-clause-submit : goal.returns-clause-submit
returns-clause-submit c = λ old book t a fits finds works none next. next_items old book t fits finds works a none next

pub returns-clause-park : goal.returns-clause-park
returns-clause-park c = λ old book t a fits finds works own next. next_wait old book t fits finds works a own next

pub returns-clause-end : goal.returns-clause-end
returns-clause-end c = λ old book t fits finds works none next. next_end old book t fits finds works none next
