use Rattle.std.proofs.Common.{◌∙◌, sym, arith}
use Rattle.item_actions.proofs.Words.{last_tells, none_tell}
use Rattle.item_actions.proofs.word_state.can_begin_behind.Goals as goal

pub returns-then-len-eq0 : goal.returns-then-len-eq0
returns-then-len-eq0 c = none_tell c.args.can c.args.piece.now (omega (arith, c.if-len-eq0.true))

pub returns : goal.returns
returns c = c.is_space.ensures ∙ sym (last_tells c.args.can c.args.piece.now (omega (arith, c.if-len-eq0.false)))
