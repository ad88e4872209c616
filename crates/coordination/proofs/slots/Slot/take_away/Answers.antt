use Rattle.std.proofs.Common.{rules, ◌≡◌, ◌∷◌, ◌<◌, ℕ, List, length, map, sym, ap, ◌∙◌, subst, arith, refl}
use Rattle.std.proofs.lemmas.List.{length-map}
use Rattle.atomic_table.specs.Table.{Allows, rest, step}
use mathlib.Core.Option.{none}
use Rattle.lock_journal.specs.BookView.{BookView}
use Rattle.coordination.specs.Names.{KeptView, kept, PassView, M, Orderly, carried_book}
use Rattle.coordination.specs.Rule.{taken_for_good}
use Rattle.coordination.proofs.Closing.{how_many, workers_all}
use Rattle.coordination.proofs.Ended.{closed_by, of_own_graph}
use Rattle.coordination.proofs.Taking.{carries, closes_taken, takes_for_good, workers_taken}
use Rattle.coordination.proofs.slots.Slot.take_away.Goals as goal

pub swap-requires : goal.swap-requires
swap-requires g c =
    let n = c.args.self.now.table.shared.key.kept.value.book.graph in
    let slots = c.args.self.now.table.shared.table_id.slots in
    let ps : List PassView = c.args.passes.items in
    let seat = c.join-seat.result in
    let some_sight : 0 < length (map (λ (p : PassView). p.sight) ps) = omega (arith, length-map ps (λ (p : PassView). p.sight), c.requires.some) in (
      search rules,
      search rules,
      subst (λ (m : M). Allows (Orderly n) slots seat.id m 0 (λ _. 1) (taken_for_good (step slots 0 1 0 none) m)) (sym c.join-seat.ensures.view)
          (takes_for_good n seat.me.0.ledger slots seat.id (map (λ p. p.sight) ps) (workers_all ps ∙ c.requires.all) some_sight),
    )

pub exchange-requires : goal.exchange-requires
exchange-requires g c =
    let m : M = c.join-seat.result.me in
    let t = c.swap.ensures.2.1 in
    let has = carries m c.swap.new.seat.me t in
    (search rules, (kept t.book m.0.ledger, has ∙ ap (λ (l : List (ℕ × KeptView)). (0, kept t.book m.0.ledger) ∷ rest l) (sym has)))

pub returns : goal.returns
returns g c =
    let ps : List PassView = c.args.passes.items in
    let m : M = c.join-seat.result.me in
    let m' : M = c.swap.new.seat.me in
    let t = c.swap.ensures.2.1 in
    let sights = ap (λ (n : M). n.0.sights) c.join-seat.ensures.view in
    let numbers = workers_taken m m' t ps sights in
    let book : c.into_book.result.value ≡ t.book =
    c.into_book.ensures.value ∙ (ap (λ (x : KeptView). x.book) c.keeper.view_is ∙ (sym (ap carried_book c.exchange.ensures.2) ∙ ap carried_book (carries m m' t))) in record {
      workers = ap (λ (b : BookView). b.graph.workers) book ∙ (sym (how_many ps t.book.graph.workers numbers) ∙ how_many ps _ c.requires.all);
      closed = of_own_graph t.book.graph ps c.into_book.result.value
          (closed_by t.book.graph ps _ (kept t.book m.0.ledger) c.into_book.result.value numbers (closes_taken m m' t (map (λ p. p.sight) ps) sights) refl book);
      keeps = c.into_book.ensures.keeps;
    }
