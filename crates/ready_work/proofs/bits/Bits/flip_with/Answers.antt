use Rattle.std.proofs.Common.{◌∙◌, sym, arith}
use Rattle.ready_work.proofs.Sets.{filled_flipped, still_filled}
use Rattle.ready_work.proofs.bits.Bits.flip_with.Goals as goal

pub flip-requires-then-flip : goal.flip-requires-then-flip
flip-requires-then-flip c =
    let within = c.requires.within in
    let size = c.requires.summarized.size in
    omega arith

pub returns-then-flip-clause-summarized : goal.returns-then-flip-clause-summarized
returns-then-flip-clause-summarized c = filled_flipped c.args.self.now.words.items c.flip.new.self.words.items c.args.summary.now.words.items c.flip-then-flip.new.self.words.items c.args.number c.requires.summarized c.flip.ensures.size c.flip-then-flip.ensures.size c.flip.ensures.words c.flip.ensures.flipped (sym c.flip.ensures.empty ∙ c.if-flip.true) c.flip-then-flip.ensures.flipped c.flip-then-flip.ensures.bits

pub returns-else-flip-clause-summarized : goal.returns-else-flip-clause-summarized
returns-else-flip-clause-summarized c = still_filled c.args.self.now.words.items c.flip.new.self.words.items c.args.summary.now.words.items c.args.number c.requires.summarized c.flip.ensures.size c.flip.ensures.words (sym c.flip.ensures.empty ∙ c.if-flip.false)
