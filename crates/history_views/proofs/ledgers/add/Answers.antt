use Rattle.std.proofs.Common.{ap, sym, ◌∙◌}
use Rattle.history_views.proofs.Adding.{adds_it}
use Rattle.history_views.proofs.ledgers.add.Goals as goal

pub compare_exchange-found-requires : goal.compare_exchange-found-requires
compare_exchange-found-requires c =
    let h = c.requires.word in
    let offer = c.plain-offer.ensures in
    let pen = c.no_pen-pen.ensures in (
      ap (λ w. w.tracked) h,
      sym (ap (λ w. w.book) h),
      pen.0 ∙ sym (ap (λ w. w.book) h),
      offer.0,
      rw (ap (λ w. w.key) h, pen.1, offer.1, offer.3) (adds_it c.args.token.now.log c.args.book.now c.args.books (sym c.requires.books) c.requires.follows),
    )
