-- Seats that are made, cut in two and joined keep the rule.
use Rattle.std.proofs.Common.{◌≡◌, ◌≢◌, ℕ, zero, suc, eqb, cond, ◌+◌, ◌<◌, ◌≤◌, ◌^◌, List, [], ◌∷◌, length, get_or, set, Option, Some, None, refl, sym, ap, ◌∙◌, ⊎_elim, arith, length-append, length-set, eq-eqb, ne_eqb}
use Rattle.std.specs.List.{All}
use Rattle.std.proofs.lemmas.List.Elements.{All-nil, All-cons, All-head, All-tail, All-append, All-weaker}
use mathlib.Core.Option.{some, some-ne-none}
use lib.ListN.{get_elem?}
use Rattle.atomic_table.specs.Table.{opening, Enters, Splits, Joins}
use Rattle.atomic_table.proofs.Lists.{at_set}
use Rattle.lock_journal.specs.Names.{GraphView, BookView}
use Rattle.coordination.specs.Names.{sight, all_of, sights_from, IsSoundBook, KeptView, FitsSight, OutFits, Orderly, M}
use Rattle.coordination.specs.declared.rule.Sight.{Sight}
use Rattle.coordination.specs.declared.rule.SeatView.{SeatView}
use Rattle.coordination.specs.Sights.{nobody, starting}
use Rattle.logbook.specs.Pages.{Book as Ledger}
use Rattle.coordination.specs.Rule.{both_sights}
use Rattle.worker_notes.proofs.lemmas.Growing.{agrees_self}
use Rattle.coordination.proofs.Moves.{set_views, more_views}

-- the same at another seat
reseat : (n mark : ℕ) (book : BookView) (owner owner' : ℕ → ℕ) (j i : ℕ) (h : Sight) → FitsSight n mark book owner j h → owner' h.worker.0 ≡ i → FitsSight n mark book owner' i h
reseat n mark book owner owner' j i h f at = record { known = f.known; agrees = f.agrees; seated = at; stopped = f.stopped; stops = f.stops; stopped_by = f.stopped_by }

-- the sights that a table starts with
fresh : (n w k : ℕ) (book : BookView) → w + k ≤ n → All (FitsSight n 0 book (λ _. 0) 0) (sights_from w k book)
fresh n w zero book room = All-nil (FitsSight n 0 book (λ _. 0) 0)
fresh n w (suc k) book room =
    All-cons (FitsSight n 0 book (λ _. 0) 0) (sight w book) (sights_from (suc w) k book)
    (record { known = omega arith; agrees = agrees_self (record { 0 = w }) book; seated = refl; stopped = λ e. absurd (cc); stops = λ e. absurd (omega arith); stopped_by = λ x e. absurd (cc) })
    (fresh n (suc w) k book (omega arith))

pub begins : (x : KeptView) → IsSoundBook x.book → x.book.graph.workers < 2 ^ 32 → Orderly x.book.graph (opening (0 ∷ 0 ∷ []) (x ∷ []) (starting x))
begins x sound small =
    let book : BookView = x.book in
    let n : ℕ = book.graph.workers in record {
      book = book;
      ledger = x.ledger;
      mark = 0;
      owner = λ _. 0;
      holder = None;
      graph = refl;
      sound = sound;
      wide = refl;
      deep = refl;
      busy = refl;
      mark_is = refl;
      named = omega arith;
      small = small;
      home = refl;
      inside = λ k e. absurd (cc);
      fits = more_views (λ j u. All (FitsSight n 0 book (λ _. 0) j) u.sights × OutFits None book j u) [] (starting x) (λ j u e. absurd (some-ne-none u (sym e))) (fresh n 0 n book (omega arith), refl);
      known = more_views (λ j u. 0 < length u.sights → u.ledger ≡ x.ledger) [] (starting x) (λ j u e. absurd (some-ne-none u (sym e))) (λ _. refl);
    }

out_nobody : (holder : Option ℕ) (book : BookView) (j : ℕ) (v : SeatView) → v.out ≡ None → ((k : ℕ) → holder ≡ Some k → j ≢ k) → OutFits holder book j v
out_nobody None book j v not far = not
out_nobody (Some k) book j v not far = ((λ e. absurd (far k refl e)), (λ _. not))

pub sits_it : (g : GraphView) (slots : ℕ) → Enters (Orderly g) slots 0 (λ x w. ◌≡◌ {A = M} (w, []) (nobody, []))
sits_it g slots s o deep small = (
  nobody,
  record {
    book = o.book;
    ledger = o.ledger;
    mark = o.mark;
    owner = o.owner;
    holder = o.holder;
    graph = o.graph;
    sound = o.sound;
    wide = o.wide;
    deep = o.deep;
    busy = o.busy;
    mark_is = o.mark_is;
    named = o.named;
    small = o.small;
    home = o.home;
    inside = λ k e. let p = o.inside k e in let long = length-append s.views (nobody ∷ []) in omega arith;
    fits = more_views (λ j u. All (FitsSight g.workers o.mark o.book o.owner j) u.sights × OutFits o.holder o.book j u) s.views nobody o.fits
        (All-nil (FitsSight g.workers o.mark o.book o.owner (length s.views)), out_nobody o.holder o.book (length s.views) nobody refl (λ k is e. let p = o.inside k is in omega arith));
    known = more_views (λ j u. 0 < length u.sights → u.ledger ≡ o.ledger) s.views nobody o.known (λ has. absurd (omega arith));
  },
  refl,
)

-- the workers from w on are not below w
later : (w m x : ℕ) (book : BookView) → x < w → All (λ h. x < h.worker.0) (sights_from w m book)
later w zero x book low = All-nil (λ h. x < h.worker.0)
later w (suc m) x book low = All-cons (λ h. x < h.worker.0) (sight w book) (sights_from (suc w) m book) low (later (suc w) m x book (omega arith))

out_less : (l : Option Ledger) (holder : Option ℕ) (book : BookView) (j : ℕ) (hs ks : List Sight) → OutFits holder book j (all_of l hs) → OutFits holder book j (all_of l ks)
out_less l None book j hs ks f = refl
out_less l (Some k) book j hs ks f = ((λ e. let not = (f.0 e).0 in absurd (cc)), (λ _. refl))

pub splits_it : (g : GraphView) (l : Option Ledger) (id w m : ℕ) (book : BookView)
    → Splits (Orderly g) id (all_of l (sights_from w (suc m) book)) (all_of l (sights_from (suc w) m book)) (all_of l (sight w book ∷ []))
splits_it g l id w m book s o at =
    let left : SeatView = all_of l (sights_from (suc w) m book) in
    let right : SeatView = all_of l (sight w book ∷ []) in
    let new : ℕ = length (set s.views id left) in
    let owner : ℕ → ℕ = λ x. cond (eqb x w) new (o.owner x) in
    let mine = o.fits id (all_of l (sights_from w (suc m) book)) at in
    let first : FitsSight g.workers o.mark o.book o.owner id (sight w book) = All-head (FitsSight g.workers o.mark o.book o.owner id) (sight w book) (sights_from (suc w) m book) mine.0 in
    let rest = All-tail (FitsSight g.workers o.mark o.book o.owner id) (sight w book) (sights_from (suc w) m book) mine.0 in
    let others = later (suc w) m w book (omega arith) in
    let away : (x : ℕ) → x ≢ w → owner x ≡ o.owner x = λ x ne. ap (λ b. cond b new (o.owner x)) (ne_eqb x w ne) in
    let here : owner w ≡ new = ap (λ b. cond b new (o.owner w)) (eq-eqb w w refl) in
    let K : ℕ → SeatView → Type 0 = λ j u. 0 < length u.sights → u.ledger ≡ o.ledger in
    let told : l ≡ o.ledger = o.known id (all_of l (sights_from w (suc m) book)) at (omega arith) in
    let P : ℕ → SeatView → Type 0 = λ j u. All (FitsSight g.workers o.mark o.book owner j) u.sights × OutFits o.holder o.book j u in record {
      book = o.book;
      ledger = o.ledger;
      mark = o.mark;
      owner = owner;
      holder = o.holder;
      graph = o.graph;
      sound = o.sound;
      wide = o.wide;
      deep = o.deep;
      busy = o.busy;
      mark_is = o.mark_is;
      named = o.named;
      small = o.small;
      home = o.home;
      inside = λ k e. let p = o.inside k e in let long = length-append (set s.views id left) (right ∷ []) in let same = length-set s.views id left in omega arith;
      fits = more_views P (set s.views id left) right
          (set_views P s.views id left
          (λ j u apart e. let f = o.fits j u e in (
            All-weaker (FitsSight g.workers o.mark o.book o.owner j) (FitsSight g.workers o.mark o.book owner j)
                (λ k fit. reseat g.workers o.mark o.book o.owner owner j j k fit (away k.worker.0 (λ same. apart (sym fit.seated ∙ (ap o.owner same ∙ first.seated))) ∙ fit.seated)) u.sights f.0,
            f.1,
          )) (
            (λ k d h. let fit = rest k d h in reseat g.workers o.mark o.book o.owner owner id id (get_or (sights_from (suc w) m book) k d) fit
                (away (get_or (sights_from (suc w) m book) k d).worker.0 (λ same. let big = others k d h in absurd (omega arith)) ∙ fit.seated)),
            out_less l o.holder o.book id (sights_from w (suc m) book) (sights_from (suc w) m book) mine.1,
          )) (
            All-cons (FitsSight g.workers o.mark o.book owner new) (sight w book) [] (reseat g.workers o.mark o.book o.owner owner id new (sight w book) first here) (All-nil (FitsSight g.workers o.mark o.book owner new)),
            out_nobody o.holder o.book new right refl (λ k is e. let p = o.inside k is in let same = length-set s.views id left in omega arith),
          );
      known = more_views K (set s.views id left) right (set_views K s.views id left (λ j u apart e. o.known j u e) (λ _. told)) (λ _. told);
    }

out_both : (holder : Option ℕ) (book : BookView) (j : ℕ) (v w : SeatView) → OutFits holder book j v → OutFits holder book j (both_sights v w)
out_both None book j v w f = f
out_both (Some k) book j v w f = ((λ e. let g = f.0 e in let has = g.1 in let long = length-append v.sights w.sights in (g.0, omega arith)), f.1)

out_not : (holder : Option ℕ) (book : BookView) (j : ℕ) (w : SeatView) → w.out ≡ None → OutFits holder book j w → OutFits holder book j nobody
out_not None book j w not f = refl
out_not (Some k) book j w not f = ((λ e. let g = (f.0 e).0 in absurd (cc)), (λ _. refl))

pub joins_it : (g : GraphView) (id other : ℕ) (v w : SeatView) → w.out ≡ None → 0 < length w.sights → Joins (Orderly g) id v other w (both_sights v w) nobody
joins_it g id other v w not has s o at apart at_other =
    let both : SeatView = both_sights v w in
    let owner : ℕ → ℕ = λ x. cond (eqb (o.owner x) other) id (o.owner x) in
    let theirs : get_elem? s.views other ≡ some w = ⊎_elim (λ (t : (other ≡ id) × (both ≡ w)). absurd (apart t.0)) (λ (t : (other ≢ id) × (get_elem? s.views other ≡ some w)). t.1) (at_set s.views id other both w at_other) in
    let f = o.fits id v at in
    let their = o.fits other w theirs in
    let stay : (x j : ℕ) → o.owner x ≡ j → j ≢ other → owner x ≡ j = λ x j is ne. ap (λ b. cond b id (o.owner x)) (ne_eqb (o.owner x) other (λ e. ne (sym is ∙ e))) ∙ is in
    let move : (x : ℕ) → o.owner x ≡ other → owner x ≡ id = λ x is. ap (λ b. cond b id (o.owner x)) (eq-eqb (o.owner x) other is) in
    let P : ℕ → SeatView → Type 0 = λ j u. All (FitsSight g.workers o.mark o.book owner j) u.sights × OutFits o.holder o.book j u in
    let inner : (j : ℕ) (u : SeatView) → get_elem? (set s.views id both) j ≡ some u → j ≢ other → P j u =
    set_views (λ j u. j ≢ other → P j u) s.views id both
    (λ j u far e ne. let q = o.fits j u e in (All-weaker (FitsSight g.workers o.mark o.book o.owner j) (FitsSight g.workers o.mark o.book owner j) (λ k fit. reseat g.workers o.mark o.book o.owner owner j j k fit (stay k.worker.0 j fit.seated ne)) u.sights q.0, q.1))
    (λ ne. (
      All-append (FitsSight g.workers o.mark o.book owner id) v.sights w.sights
          (All-weaker (FitsSight g.workers o.mark o.book o.owner id) (FitsSight g.workers o.mark o.book owner id) (λ k fit. reseat g.workers o.mark o.book o.owner owner id id k fit (stay k.worker.0 id fit.seated ne)) v.sights f.0)
          (All-weaker (FitsSight g.workers o.mark o.book o.owner other) (FitsSight g.workers o.mark o.book owner id) (λ k fit. reseat g.workers o.mark o.book o.owner owner other id k fit (move k.worker.0 fit.seated)) w.sights their.0),
      out_both o.holder o.book id v w f.1,
    )) in
    let K : ℕ → SeatView → Type 0 = λ j u. 0 < length u.sights → u.ledger ≡ o.ledger in record {
      book = o.book;
      ledger = o.ledger;
      mark = o.mark;
      owner = owner;
      holder = o.holder;
      graph = o.graph;
      sound = o.sound;
      wide = o.wide;
      deep = o.deep;
      busy = o.busy;
      mark_is = o.mark_is;
      named = o.named;
      small = o.small;
      home = o.home;
      inside = λ k e. let p = o.inside k e in let one = length-set s.views id both in let two = length-set (set s.views id both) other nobody in omega arith;
      fits = set_views P (set s.views id both) other nobody (λ j u ne e. inner j u e ne) (All-nil (FitsSight g.workers o.mark o.book owner other), out_not o.holder o.book other w not their.1);
      known = set_views K (set s.views id both) other nobody (λ j u ne e. set_views K s.views id both (λ i x far f. o.known i x f) (λ _. o.known other w theirs has) j u e) (λ none. absurd (omega arith));
    }
