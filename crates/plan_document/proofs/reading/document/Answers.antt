use Rattle.std.proofs.Common.{◌≡◌, ◌==◌, ◌-◌, false, length, suc, rules, arith, ◌∙◌}
use Rattle.std.proofs.lemmas.Grind.{common_steps}
use Rattle.toml.proofs.Turns.{document_none, document_some, lines_bad, lines_end, lines_more, lines_refused}
use Rattle.toml_parser.proofs.StringsLemmas.{gives_err}
use Rattle.toml_parser.specs.Lexical.{skip_blank}
use Rattle.plan_document.proofs.reading.document.Goals as goal

pub each-init : goal.each-init
each-init c = (
  search rules,
  c.without_mark-unread.ensures.within,
  suc (length c.args.text.now),
  omega (arith, c.without_mark-unread.ensures.within),
  rw (c.without_mark-unread.ensures.rest, c.new-root.ensures.empty, c.new-header.ensures.items),
)

pub returns-then-is_empty : goal.returns-then-is_empty
returns-then-is_empty c =
    let (utf8, within, left, short, same) = c.each.invariant in
    let ended : length (skip_blank c.each.unread.now) ≡ 0 = grind (arith, common_steps) in
    rw c.in_ok-close.ensures (document_some c.args.text.now _ (same ∙ lines_end left _ c.each.unread.now (omega arith) ended))

pub returns-in_err-key : goal.returns-in_err-key
returns-in_err-key c =
    let (utf8, within, left, short, same) = c.each.invariant in
    let here = c.skip_blank-here.ensures.rest in
    let goes_on : (length (skip_blank c.each.unread.now) == 0) ≡ false = grind (arith, common_steps) in
    gives_err _ c.from_residual-in_err-key.result _ c.in_err-key.field-0.0 _ c.from_residual-in_err-key.ensures.1 (λ e is. is) λ why.
    document_none c.args.text.now (same ∙ lines_bad left _ c.each.unread.now (omega arith) goes_on (rw here at (c.in_err-key.ensures.value why)))

pub returns-in-Err : goal.returns-in-Err
returns-in-Err c why =
    let (utf8, within, left, short, same) = c.each.invariant in
    let here = c.skip_blank-here.ensures.rest in
    let goes_on : (length (skip_blank c.each.unread.now) == 0) ≡ false = grind (arith, common_steps) in
    let read = rw here at c.in_ok-key.ensures.value in
    document_none c.args.text.now (same ∙ lines_refused left _ c.each.unread.now _ _ (omega arith) goes_on read (c.in-Err.ensures (λ memory. why (c.between.ensures.1 memory))))

pub each-preserved : goal.each-preserved
each-preserved c =
    let (utf8, within, left, short, same) = c.each.invariant in
    let here = c.skip_blank-here.ensures.rest in
    let goes_on : (length (skip_blank c.each.unread.now) == 0) ≡ false = grind (arith, common_steps) in
    let read = rw here at c.in_ok-key.ensures.value in (
      search rules,
      omega (arith, within, c.skip_blank-here.ensures.within, c.in_ok-key.ensures.shorter),
      left - 1,
      omega (arith, short, c.skip_blank-here.ensures.within, c.in_ok-key.ensures.shorter),
      same ∙ lines_more left _ _ c.each.unread.now _ _ (omega arith) goes_on read c.in_default.ensures,
    )
