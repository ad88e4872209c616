use Rattle.std.proofs.Common.{◌≡◌, ◌∙◌, ◌-◌, length, take, ap, rules}
use Rattle.std.specs.List.{copy_within}
use Rattle.std.specs.Vec.{vec_len}
use Rattle.frame_decoder.proofs.Fronts.{moved_down}
use Rattle.frame_decoder.proofs.decoders.drop_front.Goals as goal

pub returns : goal.returns
returns c =
    let old = c.args.bytes.now in
    let n = c.args.count in
    let long : vec_len old ≡ length old.items = search rules in
    let counted : c.len.result ≡ length old.items = c.len.ensures ∙ long in
    c.truncate.ensures.items ∙ ap (λ len. take (len - n) c.copy_within.new.self.items) counted ∙ ap (take (length old.items - n)) (c.copy_within.ensures.items ∙ ap (λ end. copy_within old.items n end 0) long) ∙ moved_down old.items n
