use Rattle.std.proofs.Common.{rules, Option, length, ◌≡◌, ◌∷◌, ◌++◌, ◌+◌, ◌-◌, ◌<◌, ℕ, suc, List, [], map, sym, ap, subst, ◌∙◌, arith, append_assoc, length-append}
use Rattle.std.specs.List.{All}
use Rattle.std.proofs.lemmas.List.Elements.{All-push}
use Rattle.std.proofs.lemmas.List.{map-append}
use Rattle.atomic_table.specs.Table.{Splits}
use Rattle.lock_journal.specs.BookView.{BookView}
use Rattle.coordination.specs.Names.{ArePartsFrom, IsPartOf, PassView, ServiceId, view_in, M, Orderly, sight, sight_of, all_of, one, sights_from}
use Rattle.coordination.specs.declared.rule.Sight.{Sight}
use Rattle.coordination.specs.declared.rule.SeatView.{SeatView}
use Rattle.std.specs.Vec.Iter.{into_iter_items}
use Rattle.worker_notes.specs.declared.parts.WorkerPart.{WorkerPart}
use Rattle.history_views.specs.Growing.{ReachView}
use Rattle.history_views.specs.ShownBooks.{IsTold}
use Rattle.coordination.proofs.PassSteps.{at_badge, badge_is}
use Rattle.coordination.specs.Rule.{first_sight, other_sights}
use Rattle.logbook.specs.Pages.{Book as Ledger}
use Rattle.coordination.proofs.Seating.{splits_it}
use Rattle.coordination.proofs.slots.Slot.seated.Goals as goal

module _ (l : Option Ledger) (book : BookView) (w n : ℕ) (low : w < n) where
  more : n - w ≡ suc (n - (w + 1))
  more = omega arith

  next : suc w ≡ w + 1
  next = omega arith

  -- what the new seat has
  part : (m m' : M) → m.0 ≡ all_of l (sights_from w (n - w) book) → m' ≡ (first_sight m.0, []) → m' ≡ (one l (sight w book), [])
  part m m' view is = is ∙ ap (λ (v : SeatView). (first_sight v, [])) (view ∙ ap (λ (k : ℕ). all_of l (sights_from w k book)) more)

  left : (m m' : M) → m ≡ (all_of l (sights_from w (n - w) book), []) → m' ≡ (other_sights m.0, m.1) → m' ≡ (all_of l (sights_from (w + 1) (n - (w + 1)) book), [])
  left m m' view is =
      is
      ∙ (ap (λ (x : M). (other_sights x.0, x.1)) (view ∙ ap (λ (k : ℕ). (all_of l (sights_from w k book), [])) more)
      ∙ ap (λ (k : ℕ). (all_of l (sights_from k (n - (w + 1)) book), [])) next)

  -- the sights of the passes so far, and those to come
  row : (ss ts : List Sight) (s : Sight) → ts ≡ ss ++ s ∷ [] → s ≡ sight w book → ss ++ sights_from w (n - w) book ≡ sights_from 0 n book → ts ++ sights_from (w + 1) (n - (w + 1)) book ≡ sights_from 0 n book
  row ss ts s longer is all =
      let rest : List Sight = sights_from (suc w) (n - (w + 1)) book in
      ap (λ (k : ℕ). ts ++ sights_from k (n - (w + 1)) book) (sym next)
      ∙ (ap (λ (l : List Sight). l ++ rest) longer
      ∙ (append_assoc ss (s ∷ []) rest
      ∙ (ap (λ (k : Sight). ss ++ k ∷ rest) is
      ∙ (ap (λ (k : ℕ). ss ++ sights_from w k book) (sym more) ∙ all))))

pub split_seat-own-requires : goal.split_seat-own-requires
split_seat-own-requires g c =
    let inv = c.loop-part.invariant in
    let l = c.args.self.now.table.shared.key.kept.value.ledger in
    let book = c.args.self.now.table.shared.key.kept.value.book in
    let w : ℕ = length c.loop-part.passes.items in
    let n : ℕ = book.graph.workers in
    let m : ℕ = n - (w + 1) in
    let id = c.loop-part.seat.id in
    let longer = ap (λ (l : List WorkerPart). length l) c.in-Some.ensures.steps.0 in
    let low : w < n = omega (arith, inv.count, longer) in
    let view : c.loop-part.seat.me.0 ≡ all_of l (sights_from w (suc m) book) = ap (λ (x : M). x.0) inv.view ∙ ap (λ (k : ℕ). all_of l (sights_from w k book)) (more l book w n low) in
    (search rules, search rules, subst (λ (v : SeatView). Splits (Orderly book.graph) id v (other_sights v) (first_sight v)) (sym view) (splits_it book.graph l id w m book))

pub invariant_of-push_reserved : goal.invariant_of-push_reserved
invariant_of-push_reserved g c =
    let inv = c.loop-part.invariant in
    let l = c.args.self.now.table.shared.key.kept.value.ledger in
    let book = c.args.self.now.table.shared.key.kept.value.book in
    let w : ℕ = length c.loop-part.passes.items in
    let n : ℕ = book.graph.workers in
    let steps = c.in-Some.ensures.steps.0 in
    let longer = ap (λ (l : List WorkerPart). length l) steps in
    let low : w < n = omega (arith, inv.count, longer) in
    let at : c.len.result ≡ w = omega (arith, c.len.ensures, c.loop-part.passes.ok.0) in
    let mine = subst (ArePartsFrom w book) steps inv.parts in
    let is = part l book w n low c.loop-part.seat.me c.split_seat-own.result.me (ap (λ (x : M). x.0) inv.view) c.split_seat-own.ensures.4 in
    let me : M = c.split_seat-own.result.me in
    let s : sight_of me.0 ≡ sight w book = ap (λ (x : M). sight_of x.0) is in
    let knows : me.0.ledger ≡ l = ap (λ (x : M). x.0.ledger) is in
    let badge = c.into_badge.ensures.2 in
    let shown : sight_of (view_in c.into_badge.result.views) ≡ sight w book = ap (λ (vs : List SeatView). sight_of (view_in vs)) badge ∙ s in (
      at_badge _ (record { part = c.in-Some.part; reach = c.again.result }) me c.into_badge.result.views
          (record {
            lone = is ∙ (λ i. (one (sym knows i) (sym s i), []));
            worker_is = ap (λ (k : ℕ). record { 0 = k }) at ∙ sym (ap (λ (k : Sight). k.worker) s);
            part_is = subst (λ (k : Sight). IsPartOf k.seen k.worker c.in-Some.part) (sym s) mine.0;
            room = mine.1;
            told = subst (λ (p : Option Ledger × Option ReachView × BookView). IsTold p.0 p.1 p.2) (λ i. (sym knows i, sym c.again.ensures i, (sym s i).seen)) c.requires.told;
          }) badge,
      sym (ap (λ (k : Sight). k.stopped) shown),
      sym (ap (λ (k : Sight). k.stopped_by) shown),
      badge_is c.into_badge.result.views me.0 badge,
    )

pub loop-part-preserved : goal.loop-part-preserved
loop-part-preserved g c =
    let inv = c.loop-part.invariant in
    let l = c.args.self.now.table.shared.key.kept.value.ledger in
    let book = c.args.self.now.table.shared.key.kept.value.book in
    let ps : List PassView = c.loop-part.passes.items in
    let w : ℕ = length ps in
    let n : ℕ = book.graph.workers in
    let steps = c.in-Some.ensures.steps.0 in
    let rest : List WorkerPart = into_iter_items c.next.new.self in
    let longer = ap (λ (l : List WorkerPart). length l) steps in
    let low : w < n = omega (arith, inv.count, longer) in
    let mine = subst (ArePartsFrom w book) steps inv.parts in
    let e = c.split_seat-own.ensures in
    let items = c.push_reserved.ensures.items in
    let next : length c.push_reserved.new.self.items ≡ w + 1 = ap (λ (l : List PassView). length l) items ∙ length-append ps (_ ∷ []) in
    let is = part l book w n low c.loop-part.seat.me c.split_seat-own.result.me (ap (λ (x : M). x.0) inv.view) e.4 in
    let f : PassView → Sight = λ p. p.sight in
    let badge = c.into_badge.ensures in
    let here : ServiceId = record { table = c.args.self.now.table.shared.table_id; ledger = l } in
    let at_home : PassView → Type 0 = λ p. p.service ≡ here in
    let table = badge.0 ∙ (e.3 ∙ (inv.same ∙ c.requires.id)) in
    let ledger = ap (λ (vs : List SeatView). (view_in vs).ledger) badge.2 ∙ ap (λ (x : M). x.0.ledger) is in record {
      same = e.0 ∙ inv.same;
      view = subst (λ (k : ℕ). c.split_seat-own.new.seat.me ≡ (all_of l (sights_from k (n - k) book), [])) (sym next) (left l book w n low c.loop-part.seat.me c.split_seat-own.new.seat.me inv.view e.2);
      row = subst (λ (k : ℕ). map f c.push_reserved.new.self.items ++ sights_from k (n - k) book ≡ sights_from 0 n book) (sym next)
          (row l book w n low (map f ps) (map f c.push_reserved.new.self.items) (sight_of (view_in c.into_badge.result.views)) (ap (λ (l : List PassView). map f l) items ∙ map-append f ps _) (ap (λ (vs : List SeatView). sight_of (view_in vs)) badge.2 ∙ ap (λ (x : M). sight_of x.0) is) inv.row);
      ids = subst (All at_home) (sym items) (All-push at_home ps _ inv.ids (λ i. record { table = table i; ledger = ledger i }));
      count = omega (arith, inv.count, longer, next);
      parts = subst (λ (k : ℕ). ArePartsFrom k book rest) (omega (arith, next)) mine.2;
      room = omega (arith, inv.room, c.push_reserved.ensures.capacity);
    }
