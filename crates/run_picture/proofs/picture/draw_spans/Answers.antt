use Rattle.std.proofs.Common.{◌≡◌, length, map, ap, subst, refl, arith}
use Rattle.std.proofs.lemmas.List.{length-map}
use Rattle.history_text.specs.HistoryView.{entry_read}
use Rattle.run_spans.specs.Levels.{nothing_out}
use Rattle.picture_layout.proofs.Levels.{levels_long}
use Rattle.picture_layout.specs.Panels.{panels_in_format, IsRefused}
use Rattle.picture_layout.specs.declared.panels.LayoutFail.TheVariants.{TooLarge}
use Rattle.run_picture.proofs.Drawing.{too_high}
use Rattle.run_picture.proofs.picture.draw_spans.Goals as goal

pub print_svg-requires-clause-few : goal.print_svg-requires-clause-few
print_svg-requires-clause-few g c =
    omega (arith, c.requires.few, ap length c.requires.levels, levels_long nothing_out (map entry_read c.args.history.now.entries.items), length-map c.args.history.now.entries.items entry_read)

pub overview_of-requires-clause-levels : goal.overview_of-requires-clause-levels
overview_of-requires-clause-levels g c =
    omega (arith, c.requires.few, ap length c.requires.levels, levels_long nothing_out (map entry_read c.args.history.now.entries.items), length-map c.args.history.now.entries.items entry_read)

pub returns-in-Err-TooLarge : goal.returns-in-Err-TooLarge
returns-in-Err-TooLarge g c =
    let h = c.args.history.now in
    let spans = c.args.spans.now in
    let count = c.len-count.result in
    let ps = panels_in_format c.in-Ok.format h.workers spans count in
    let high : IsRefused ps TooLarge = subst (IsRefused ps) c.in-Err-TooLarge.field-0-is c.in-Err-TooLarge.ensures.refused in
    let many : count ≡ length h.entries.items = omega (arith, c.len-count.ensures) in
    (too_high h spans c.in-Ok.format count c.requires.spans many c.in-Ok.ensures high, refl)
