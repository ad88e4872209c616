use Rattle.std.proofs.Common.{◌∙◌}
use Rattle.std.proofs.lemmas.List.{get_or_default}
use Rattle.ready_work.proofs.Words.{flip_other, flip_same}
use Rattle.ready_work.proofs.bits.Bits.flip.Goals as goal

pub returns-then-word-eq0-clause-flipped : goal.returns-then-word-eq0-clause-flipped
returns-then-word-eq0-clause-flipped c = flip_same c.args.self.now.words.items c.args.number c.index-word.result.now c.with_bit_flipped-flipped.result c.requires (c.index-word.ensures ∙ get_or_default c.args.self.now.words.items _ _ 0 c.requires) c.with_bit_flipped-flipped.ensures.flipped

pub returns-then-word-eq0-clause-bits : goal.returns-then-word-eq0-clause-bits
returns-then-word-eq0-clause-bits c = flip_other c.args.self.now.words.items c.args.number c.index-word.result.now c.with_bit_flipped-flipped.result c.requires (c.index-word.ensures ∙ get_or_default c.args.self.now.words.items _ _ 0 c.requires) c.with_bit_flipped-flipped.ensures.others

pub returns-else-word-eq0-clause-flipped : goal.returns-else-word-eq0-clause-flipped
returns-else-word-eq0-clause-flipped c = flip_same c.args.self.now.words.items c.args.number c.index-word.result.now c.with_bit_flipped-flipped.result c.requires (c.index-word.ensures ∙ get_or_default c.args.self.now.words.items _ _ 0 c.requires) c.with_bit_flipped-flipped.ensures.flipped

pub returns-else-word-eq0-clause-bits : goal.returns-else-word-eq0-clause-bits
returns-else-word-eq0-clause-bits c = flip_other c.args.self.now.words.items c.args.number c.index-word.result.now c.with_bit_flipped-flipped.result c.requires (c.index-word.ensures ∙ get_or_default c.args.self.now.words.items _ _ 0 c.requires) c.with_bit_flipped-flipped.ensures.others
