use Rattle.std.proofs.Common.{◌+◌, ◌*◌, ◌^◌, ◌<◌, ℕ, w64, subst, sym, arith}
use Rattle.std.specs.Int.{trailing_zeros}
use Rattle.std.proofs.lemmas.Nat.Bits.{bit_at-trailing_zeros}
use Rattle.ready_work.specs.Lowest.{IsFrom, IsLowest}
use Rattle.ready_work.specs.WordBits.{HasBit}
use Rattle.ready_work.proofs.Words.{lowest_of_word, within_words}
use Rattle.ready_work.proofs.bits.Bits.lowest_in.Goals as goal

pub word-requires : goal.word-requires
word-requires c = within_words c.args.self.now.words.items c.args.place c.requires.filled

pub overflow_add-result : goal.overflow_add-result
overflow_add-result c =
    let few = c.requires.few in
    let within = within_words c.args.self.now.words.items c.args.place c.requires.filled in
    let some : 0 < c.word.result = omega (arith, c.word.ensures, c.requires.filled) in
    omega (arith, (bit_at-trailing_zeros w64 c.word.result some c.word.type_inv).0)

pub returns : goal.returns
returns c =
    let words = c.args.self.now.words.items in
    let fits : c.word.result < 2 ^ 64 = c.word.type_inv in
    subst (λ (w : ℕ). IsLowest (IsFrom (c.args.place * 64) (HasBit words)) (c.args.place * 64 + trailing_zeros w64 w)) (sym c.word.ensures)
    (lowest_of_word words c.args.place c.requires.filled (subst (λ (w : ℕ). w < 2 ^ 64) c.word.ensures fits))
