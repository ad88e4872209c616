use Rattle.std.proofs.Common.{◌/◌, ◌%◌, ◌*◌, ◌+◌, ℕ, w64, subst, ◌∙◌, ap, arith}
use Rattle.std.specs.Int.{bit_at, trailing_zeros}
use Rattle.std.proofs.lemmas.List.{get_or_default}
use Rattle.ready_work.specs.Lowest.{IsFrom, IsLowest}
use Rattle.ready_work.specs.WordBits.{HasBit}
use Rattle.ready_work.proofs.Words.{next_bit, none_from, none_past}
use Rattle.ready_work.proofs.bits.Bits.next_in_word.Goals as goal

pub returns-then-place-len-clause-none : goal.returns-then-place-len-clause-none
returns-then-place-len-clause-none c =
    let past = c.if-place-len.true in
    none_past c.args.self.now.words.items c.args.from (omega arith)

pub returns-then-rest-eq0-clause-none : goal.returns-then-rest-eq0-clause-none
returns-then-rest-eq0-clause-none c =
    let e = c.if-rest-eq0.true in
    let inside = c.if-place-len.false in
    let size = c.len.ensures in
    none_from c.args.self.now.words.items c.args.from c.bits_from-rest.result
    (record { below = c.bits_from-rest.ensures.below; from = λ i within le. c.bits_from-rest.ensures.from i within le ∙ ap (λ w. bit_at w i) (c.index.ensures ∙ get_or_default c.args.self.now.words.items _ _ 0 (omega arith)) }) e

pub returns-clause-some : goal.returns-clause-some
returns-clause-some c =
    let ne = c.if-rest-eq0.false in
    let inside = c.if-place-len.false in
    let size = c.len.ensures in
    subst (λ (from : ℕ). IsLowest (IsFrom from (HasBit c.args.self.now.words.items)) (c.args.from / 64 * 64 + trailing_zeros w64 c.bits_from-rest.result)) (omega arith)
    (next_bit c.args.self.now.words.items (c.args.from / 64) (c.args.from % 64) c.bits_from-rest.result (omega arith)
    (record { below = c.bits_from-rest.ensures.below; from = λ i within le. c.bits_from-rest.ensures.from i within le ∙ ap (λ w. bit_at w i) (c.index.ensures ∙ get_or_default c.args.self.now.words.items _ _ 0 (omega arith)) }) (omega arith) c.bits_from-rest.type_inv)
