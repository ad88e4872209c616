use Rattle.std.proofs.Common.{◌≡◌, ◌∙◌, ◌+◌, ◌∷◌, [], List, Some, ap, arith, length, length-append, subst, sym}
use Rattle.std.specs.List.{All}
use Rattle.std.proofs.lemmas.List.Elements.{All-push}
use Rattle.history_views.specs.Growing.{ReachView, last_book}
use Rattle.history_views.specs.ShownBooks.{SameHistory, ShownView}
use Rattle.coordination.proofs.shown_services.with_views.Goals as goal

-- the ledger of a view is that of the book, and it has seen the book
abbrev Knows : ShownView → ReachView → Type 0
Knows s v = s.ledger ≡ Some v.ledger

abbrev Saw : ShownView → ReachView → Type 0
Saw s v = SameHistory (last_book v.log) s.book

pub loop-preserved : goal.loop-preserved
loop-preserved g c =
    let inv = c.loop.invariant in
    let s : ShownView = c.loop.shown in
    let vs : List ReachView = c.loop.views.items in
    let items = c.in_ok-push.ensures.items in
    let same = c.view.ensures.same in
    let longer : length c.push.new.self.items ≡ length vs + 1 = ap (λ (l : List ReachView). length l) items ∙ length-append vs (_ ∷ []) in
    let e = c.in_ok-view.ensures in record {
      same = same ∙ inv.same;
      count = omega (arith, longer, inv.count);
      ledger = subst (λ (t : ShownView). All (Knows t) c.push.new.self.items) (sym same) (subst (All (Knows s)) (sym items) (All-push (Knows s) vs _ inv.ledger e.ledger));
      seen = subst (λ (t : ShownView). All (Saw t) c.push.new.self.items) (sym same) (subst (All (Saw s)) (sym items) (All-push (Saw s) vs _ inv.seen e.seen));
    }
