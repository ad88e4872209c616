use Rattle.std.proofs.Common.{◌%◌, nat_eq, ap, ◌∙◌}
use Rattle.std.specs.Int.{bit_at}
use Rattle.std.proofs.lemmas.List.{get_or_default}
use Rattle.std.proofs.lemmas.Nat.Bits.{shr_and_one}
use Rattle.ready_work.specs.WordBits.{bit_in}
use Rattle.ready_work.proofs.bits.Bits.has.Goals as goal

pub returns : goal.returns
unfolding bit_in
returns c = ap (λ bit. nat_eq bit 1) (shr_and_one c.index.result.now (c.args.number % 64)) ∙ ap (λ w. nat_eq (bit_at w (c.args.number % 64)) 1) (c.index.ensures ∙ get_or_default c.args.self.now.words.items _ _ 0 c.requires)
