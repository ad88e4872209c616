-- A seat with the sights of all workers takes the book out for good.
use Rattle.std.proofs.Common.{◌≡◌, ℕ, ◌<◌, ◌≤◌, List, [], ◌∷◌, map, length, Option, Some, None, refl, sym, ap, ◌∙◌, subst, arith, length-set, get_or, get_or-set_same}
use Rattle.std.specs.List.{All}
use Rattle.std.proofs.lemmas.List.{get_or-set_other}
use mathlib.Core.Option.{some, none}
use lib.ListN.{get_elem?}
use Rattle.atomic_table.specs.Table.{step, takes, Allows}
use Rattle.atomic_table.proofs.Lists.{set_here}
use Rattle.resource_lock.specs.GraphView.{GraphView}
use Rattle.coordination.specs.Names.{kept, PassView, FitsSight, OutFits, Orderly, M, home_of, all_of, workers_from}
use Rattle.coordination.specs.declared.rule.Sight.{Sight}
use Rattle.coordination.specs.declared.rule.SeatView.{SeatView}
use Rattle.coordination.specs.Rule.{TellsHolder, TakenForGood, taken_for_good}
use Rattle.coordination.proofs.Closing.{Closes, nobody_holds, workers_all}
use Rattle.coordination.proofs.Moves.{inside_of, set_views, there}
use Rattle.logbook.specs.Pages.{Book as Ledger}

pub takes_for_good : (g : GraphView) (l : Option Ledger) (slots id : ℕ) (ss : List Sight) → map (λ s. s.worker.0) ss ≡ workers_from 0 g.workers → 0 < length ss
    → Allows (Orderly g) slots id (all_of l ss, []) 0 (λ _. 1) (taken_for_good (step slots 0 1 0 none) (all_of l ss, []))
takes_for_good g l slots id ss all some_sight s o deep at small =
    let free : o.holder ≡ None = nobody_holds g l id ss all s o at o.holder refl in
    let mine = o.fits id (all_of l ss) at in
    let same : o.ledger ≡ l = sym (o.known id (all_of l ss) at some_sight) in
    let home : get_elem? s.homes 0 ≡ some (some (kept o.book l)) = o.home ∙ (ap (λ (k : Option ℕ). some (home_of k (kept o.book o.ledger))) free ∙ ap (λ (x : Option Ledger). some (some (kept o.book x))) same) in
    let new : SeatView = record { sights = ss; out = Some o.book; ledger = l } in (
      new,
      takes 0 (kept o.book l),
      home,
      record {
        book = o.book;
        ledger = o.ledger;
        mark = o.mark;
        owner = o.owner;
        holder = Some id;
        graph = o.graph;
        sound = o.sound;
        wide = length-set s.words 0 1 ∙ o.wide;
        deep = length-set s.homes 0 none ∙ o.deep;
        busy = subst (λ (n : ℕ). 0 < n) (sym (get_or-set_same s.words 0 1 0 (let p = o.wide in omega arith))) (omega arith);
        mark_is = get_or-set_other s.words 0 1 1 0 (λ (e : 1 ≡ 0). absurd (omega arith)) ∙ o.mark_is;
        named = o.named;
        small = o.small;
        home = set_here s.homes 0 none (let p = o.deep in omega arith);
        inside = inside_of s.views id new (there s.views id (all_of l ss) at);
        fits = set_views (λ j u. All (FitsSight g.workers o.mark o.book o.owner j) u.sights × OutFits (Some id) o.book j u) s.views id new
            (λ j u apart e. ((o.fits j u e).0, ((λ same. absurd (apart same)), (λ _. subst (λ (k : Option ℕ). OutFits k o.book j u) free (o.fits j u e).1))))
            (mine.0, ((λ _. (refl, some_sight)), (λ ne. absurd (ne refl))));
        known = set_views (λ j u. 0 < length u.sights → u.ledger ≡ o.ledger) s.views id new (λ j u apart e. o.known j u e) (λ _. sym same);
      },
      (
        subst (TellsHolder (get_or s.words 0 0)) free o.busy,
        record {
          book = o.book;
          mark = o.mark;
          sound = o.sound;
          all = all ∙ ap (λ (h : GraphView). workers_from 0 h.workers) (sym o.graph);
          named = subst (λ (h : GraphView). o.mark ≤ h.workers) (sym o.graph) o.named;
          agrees = λ k d h. (mine.0 k d h).agrees;
          stops = λ k d h. (mine.0 k d h).stops;
          stopped_by = λ k d h. (mine.0 k d h).stopped_by;
          is = refl;
        },
      ),
    )

module _ (m m' : M) (t : TakenForGood m m') where
  -- it says what the last state says of a service that ends so
  pub closes_taken : (ss : List Sight) → m.0.sights ≡ ss → Closes t.book.graph ss (kept t.book m.0.ledger ∷ [])
  closes_taken ss is = subst (λ (l : List Sight). Closes t.book.graph l (kept t.book m.0.ledger ∷ [])) is (record {
    book = t.book;
    ledger = m.0.ledger;
    mark = t.mark;
    named = t.named;
    graph = refl;
    sound = t.sound;
    slot = refl;
    agrees = t.agrees;
    stops = t.stops;
    stopped_by = t.stopped_by;
  })

  -- the passes that the sights are of
  pub workers_taken : (ps : List PassView) → m.0.sights ≡ map (λ p. p.sight) ps → map (λ p. p.sight.worker.0) ps ≡ workers_from 0 t.book.graph.workers
  workers_taken ps is = sym (workers_all ps) ∙ (ap (map (λ (s : Sight). s.worker.0)) (sym is) ∙ t.all)

  -- what the seat then has is the book
  pub carries : m'.1 ≡ (0, kept t.book m.0.ledger) ∷ []
  carries = ap (λ (n : M). n.1) t.is
