use Rattle.std.proofs.Common.{eqb, take, drop, arith, w8}
use Rattle.std.proofs.lemmas.Simd.{bitmask_splat, length-chunk}
use Rattle.item_actions.proofs.places.places_of.Goals as goal

pub returns : goal.returns
returns c =
    let bytes = c.args.bytes.now in
    bitmask_splat w8 eqb (take 32 (drop c.args.at bytes)) 32 c.args.byte (length-chunk c.args.at 32 bytes c.requires) (omega arith)
