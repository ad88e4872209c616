use Rattle.std.proofs.Common.{sym, arith}
use Rattle.std.proofs.lemmas.Bool.{le-ltb}
use Rattle.picture_layout.specs.Layout.{scale_of}
use Rattle.picture_layout.specs.Panels.{least_height, height_of, panels_in_format}
use Rattle.picture_layout.specs.declared.layout.Scale.{Scale}
use Rattle.picture_layout.specs.declared.panels.TheConstants.{VIEWED}
use Rattle.std.proofs.Common.{◌≡◌, ◌∙◌, ap}
use Rattle.picture_layout.proofs.Below.{high_at_least}
use Rattle.picture_layout.proofs.panels.is_viewed.Goals as goal

pub returns-then-least_height-ge-VIEWED : goal.returns-then-least_height-ge-VIEWED
returns-then-least_height-ge-VIEWED c =
    let s = scale_of c.args.format c.args.workers c.args.count in
    let least : c.least_height.result ≡ least_height c.args.workers s = c.least_height.ensures ∙ ap (λ (z : Scale). least_height c.args.workers z) c.scale_of.ensures.is in
    sym (le-ltb (height_of (panels_in_format c.args.format c.args.workers c.args.spans.now c.args.count)) VIEWED
    (omega (arith, high_at_least c.args.workers s c.args.spans.now c.args.count, least, c.if-least_height-ge-VIEWED.true)))
