use Rattle.std.proofs.Common.{◌≡◌, ◌==◌, ◌+◌, ◌-◌, eqb, ap, ◌∙◌, arith, take, drop, count_by, w8}
use Rattle.std.specs.Int.RustNames.{count_ones}
use Rattle.std.proofs.lemmas.Simd.{ones-mask_l, bitmask_splat, length-chunk}
use Rattle.item_actions.proofs.counting.count_in_block.Goals as goal

pub returns : goal.returns
returns c =
    let bytes = c.args.bytes.now in
    let at = c.args.at in
    let long : 32 ≡ at + 32 - at = omega arith in
    ap count_ones (bitmask_splat w8 eqb (take 32 (drop at bytes)) 32 c.args.byte (length-chunk at 32 bytes c.requires) (omega arith))
    ∙ ones-mask_l (λ b. b == c.args.byte) (take 32 (drop at bytes))
    ∙ ap (λ n. count_by (λ b. b == c.args.byte) (take n (drop at bytes))) long
