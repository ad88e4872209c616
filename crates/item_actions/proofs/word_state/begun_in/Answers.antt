use Rattle.std.proofs.Common.{arith}
use Rattle.item_actions.proofs.Words.{all_begun, one_less_begun, same_begun}
use Rattle.item_actions.proofs.word_state.begun_in.Goals as goal

pub returns-then-can : goal.returns-then-can
returns-then-can c = all_begun c.words_in-words.result c.args.can c.args.piece.now c.words_in-words.ensures c.if-can.true

pub overflow_sub-result : goal.overflow_sub-result
overflow_sub-result c = omega (arith, one_less_begun c.words_in-words.result c.args.can c.args.piece.now c.words_in-words.ensures c.if-can.false c.if-starts_word.ensures)

pub returns-then-starts_word : goal.returns-then-starts_word
returns-then-starts_word c = omega (arith, one_less_begun c.words_in-words.result c.args.can c.args.piece.now c.words_in-words.ensures c.if-can.false c.if-starts_word.ensures)

pub returns-else-starts_word : goal.returns-else-starts_word
returns-else-starts_word c = same_begun c.words_in-words.result c.args.can c.args.piece.now c.words_in-words.ensures c.if-can.false c.if-starts_word.ensures
