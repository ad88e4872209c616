-- Each step keeps the rule.
use Rattle.std.proofs.Common.{◌≡◌, ◌≢◌, ℕ, zero, suc, eqb, ◌+◌, ◌-◌, ◌<◌, ◌≤◌, ◌^◌, List, [], ◌∷◌, ◌++◌, length, get_or, set, Option, Some, None, refl, sym, ap, ◌∙◌, subst, ⊎_elim, arith, length-set, get_or-set_same, eq-eqb, ne_eqb}
use Rattle.std.specs.List.{All}
use Rattle.std.proofs.lemmas.Bool.{false_from_ne_true}
use Rattle.std.proofs.lemmas.List.{get_or-set_other}
use Rattle.std.proofs.lemmas.List.Elements.{All-nil, All-cons, All-head, All-weaker}
use mathlib.Core.Logic.{dite}
use mathlib.Core.Option.{some, none, some-injective, some-ne-none}
use native.Mathlib.Decide.{ℕ_discrete}
use prog.Atomic.{either}
use lib.ListN.{get_elem?}
use Rattle.atomic_table.specs.Table.{State, Step, Act, Valid, carried_after, step, keeps, takes, gives, stepped, Allows}
use Rattle.atomic_table.proofs.Lists.{at_set, set_here, set_again}
use Rattle.lock_journal.specs.Names.{GraphView, WorkerId, BookView}
use Rattle.coordination.specs.Names.{seeing, hearing, one, KnowsNoStop, Agrees, IsSoundBook, KeptView, kept, AddsOwn, FitsSight, OutFits, home_of}
use Rattle.coordination.specs.Names.{Orderly, taken, put_back}
use Rattle.coordination.specs.declared.rule.Sight.{Sight}
use Rattle.coordination.specs.declared.rule.SeatView.{SeatView}
use Rattle.coordination.specs.Sights.{stopping, holding}
use Rattle.logbook.specs.Pages.{Book as Ledger}
use Rattle.coordination.specs.Rule.{TellsHolder, stopped_at, heard, marked}
use Rattle.worker_notes.proofs.lemmas.Growing.{goes_on, agrees_self, agrees_then}

abbrev pub S : Type 0
S = State KeptView SeatView

-- a fact of each seat, after the view of one has changed
pub set_views : (P : ℕ → SeatView → Type 0) (views : List SeatView) (id : ℕ) (w : SeatView) → ((j : ℕ) (u : SeatView) → j ≢ id → get_elem? views j ≡ some u → P j u) → P id w
    → (j : ℕ) (u : SeatView) → get_elem? (set views id w) j ≡ some u → P j u
set_views P views id w others mine j u e =
    ⊎_elim
    (λ (x : (j ≡ id) × (w ≡ u)). subst (λ (y : ℕ × SeatView). P y.0 y.1) (λ i. (sym x.0 i, x.1 i)) mine)
    (λ (x : (j ≢ id) × (get_elem? views j ≡ some u)). others j u x.0 x.1)
    (at_set views id j w u e)

-- the same after a view has come behind the others
pub more_views : (P : ℕ → SeatView → Type 0) (views : List SeatView) (w : SeatView) → ((j : ℕ) (u : SeatView) → get_elem? views j ≡ some u → P j u) → P (length views) w
    → (j : ℕ) (u : SeatView) → get_elem? (views ++ w ∷ []) j ≡ some u → P j u
more_views P [] w others mine zero u e = subst (P 0) (some-injective w u e) mine
more_views P [] w others mine (suc j) u e = absurd (some-ne-none u (sym e))
more_views P (x ∷ xs) w others mine zero u e = others 0 u e
more_views P (x ∷ xs) w others mine (suc j) u e = more_views (λ k. P (suc k)) xs w (λ k v at. others (suc k) v at) mine j u e

pub there : (views : List SeatView) (k : ℕ) (v : SeatView) → get_elem? views k ≡ some v → k < length views
there [] k v e = absurd (some-ne-none v (sym e))
there (x ∷ xs) zero v e = omega arith
there (x ∷ xs) (suc k) v e = let h = there xs k v e in omega arith

pub inside_of : (l : List SeatView) (id : ℕ) (w : SeatView) → id < length l → (k : ℕ) → Some id ≡ Some k → k < length (set l id w)
inside_of l id w h k e = let same : id ≡ k = cc in let long = length-set l id w in omega arith

alone : (n mark : ℕ) (book : BookView) (owner : ℕ → ℕ) (id : ℕ) (h : Sight) → FitsSight n mark book owner id h → All (FitsSight n mark book owner id) (h ∷ [])
alone n mark book owner id h fit = All-cons (FitsSight n mark book owner id) h [] fit (All-nil (FitsSight n mark book owner id))

-- nothing but words that say the same was written
same_views : (g : GraphView) (s : S) (o : Orderly g s) (ws : List ℕ) (id : ℕ) (v : SeatView) → get_elem? s.views id ≡ some v → length ws ≡ 2 → TellsHolder (get_or ws 0 0) o.holder → get_or ws 1 0 ≡ get_or s.words 1 0
    → Orderly g (record { words = ws; homes = s.homes; views = set s.views id v })
same_views g s o ws id v at wide busy second = record {
  book = o.book;
  ledger = o.ledger;
  mark = o.mark;
  owner = o.owner;
  holder = o.holder;
  graph = o.graph;
  sound = o.sound;
  wide = wide;
  deep = o.deep;
  busy = busy;
  mark_is = second ∙ o.mark_is;
  named = o.named;
  small = o.small;
  home = o.home;
  inside = λ j e. let p = o.inside j e in let long = length-set s.views id v in omega arith;
  fits = λ j u e. o.fits j u (subst (λ l. get_elem? l j ≡ some u) (set_again s.views id v at) e);
  known = λ j u e. o.known j u (subst (λ l. get_elem? l j ≡ some u) (set_again s.views id v at) e);
}

-- word 0 was left alone
still_busy : (ws : List ℕ) (n : ℕ) (k : Option ℕ) → get_or ws 0 0 ≡ n → TellsHolder n k → TellsHolder (get_or ws 0 0) k
still_busy ws n k is busy = subst (λ (m : ℕ). TellsHolder m k) (sym is) busy

-- a step that leaves no 0 in word 0
module _ (f : ℕ → ℕ) (rises : (n : ℕ) → 0 < f n) (g : GraphView) (l : Option Ledger) (st : Step KeptView) (id : ℕ) (h : Sight) where
  takes_at : (s : S) (o : Orderly g s) (holder : Option ℕ) → o.holder ≡ holder → get_elem? s.views id ≡ some (one l h)
      → (w : SeatView) × (a : Act KeptView) × Valid s.homes [] a × Orderly g (stepped s 0 (f (get_or s.words 0 0)) id [] w a) × taken st (one l h, []) (get_or s.words 0 0) (w, carried_after [] a)
  takes_at s o None is at =
      let to : ℕ = f (get_or s.words 0 0) in
      let mine = o.fits id (one l h) at in
      let fit : FitsSight g.workers o.mark o.book o.owner id h = All-head (FitsSight g.workers o.mark o.book o.owner id) h [] mine.0 in
      let free : get_or s.words 0 0 ≡ 0 = subst (TellsHolder (get_or s.words 0 0)) is o.busy in
      let same : o.ledger ≡ l = sym (o.known id (one l h) at (omega arith)) in
      let home : get_elem? s.homes 0 ≡ some (some (kept o.book l)) = o.home ∙ (ap (λ (k : Option ℕ). some (home_of k (kept o.book o.ledger))) is ∙ ap (λ (x : Option Ledger). some (some (kept o.book x))) same) in
      let new : Sight = seeing h o.book in (
        holding l new,
        takes 0 (kept o.book l),
        home,
        record {
          book = o.book;
          ledger = o.ledger;
          mark = o.mark;
          owner = o.owner;
          holder = Some id;
          graph = o.graph;
          sound = o.sound;
          wide = length-set s.words 0 to ∙ o.wide;
          deep = length-set s.homes 0 none ∙ o.deep;
          busy = still_busy (set s.words 0 to) to (Some id) (get_or-set_same s.words 0 to 0 (let p = o.wide in omega arith)) (rises (get_or s.words 0 0));
          mark_is = get_or-set_other s.words 0 1 to 0 (λ (e : 1 ≡ 0). absurd (omega arith)) ∙ o.mark_is;
          named = o.named;
          small = o.small;
          home = set_here s.homes 0 none (let p = o.deep in omega arith);
          inside = inside_of s.views id (holding l new) (there s.views id (one l h) at);
          fits = set_views (λ j u. All (FitsSight g.workers o.mark o.book o.owner j) u.sights × OutFits (Some id) o.book j u) s.views id (holding l new)
              (λ j u apart e. ((o.fits j u e).0, ((λ same. absurd (apart same)), (λ _. subst (λ (k : Option ℕ). OutFits k o.book j u) is (o.fits j u e).1)))) (
                alone g.workers o.mark o.book o.owner id new (record { known = fit.known; agrees = agrees_self h.worker o.book; seated = fit.seated; stopped = fit.stopped; stops = fit.stops; stopped_by = fit.stopped_by }),
                ((λ _. (refl, omega arith)), (λ ne. absurd (ne refl))),
              );
          known = set_views (λ j u. 0 < length u.sights → u.ledger ≡ o.ledger) s.views id (holding l new) (λ j u apart e. o.known j u e) (λ _. sym same);
        },
        ((λ _. record { book = o.book; found = record { agrees = fit.agrees; sound = o.sound; known = subst (λ (x : GraphView). h.worker.0 < x.workers) (sym o.graph) fit.known }; is = refl }), (λ ne. absurd (ne free))),
      )
  takes_at s o (Some k) is at =
      let to : ℕ = f (get_or s.words 0 0) in
      let out : 0 < get_or s.words 0 0 = subst (TellsHolder (get_or s.words 0 0)) is o.busy in (
        one l h,
        keeps,
        tt,
        same_views g s o (set s.words 0 to) id (one l h) at (length-set s.words 0 to ∙ o.wide)
            (still_busy (set s.words 0 to) to o.holder (get_or-set_same s.words 0 to 0 (let p = o.wide in omega arith)) (subst (TellsHolder to) (sym is) (rises (get_or s.words 0 0))))
            (get_or-set_other s.words 0 1 to 0 (λ (e : 1 ≡ 0). absurd (omega arith))),
        ((λ free. absurd (omega arith)), (λ _. refl)),
      )

  takes_so : (slots : ℕ) → Allows (Orderly g) slots id (one l h, []) 0 f (taken st (one l h, []))
  takes_so slots s o deep at small = takes_at s o o.holder refl at

marked_free : (n : ℕ) → 0 < either (eqb n 0) 1 n
marked_free zero = omega arith
marked_free (suc n) = subst (λ b. 0 < either b 1 (suc n)) (sym (ne_eqb (suc n) 0 (λ e. absurd (omega arith)))) (omega arith)

-- where it is free it is taken, and else left alone
pub takes_it : (g : GraphView) (l : Option Ledger) (slots id : ℕ) (h : Sight) → Allows (Orderly g) slots id (one l h, []) 0 (λ n. either (eqb n 0) 1 n) (taken (step slots 0 0 1 none) (one l h, []))
takes_it g l slots id h = takes_so (λ n. either (eqb n 0) 1 n) marked_free g l (step slots 0 0 1 none) id h slots

-- the same by a seat that sleeps where it isn't free
pub takes_or_waits : (g : GraphView) (l : Option Ledger) (slots id : ℕ) (h : Sight) → Allows (Orderly g) slots id (one l h, []) 0 (λ _. 2) (taken (step slots 0 2 0 none) (one l h, []))
takes_or_waits g l slots id h = takes_so (λ _. 2) (λ _. omega arith) g l (step slots 0 2 0 none) id h slots

-- what the seat that holds the journal knows of the rule
pub record Held (g : GraphView) (id : ℕ) (h : Sight) (s : S) (o : Orderly g s) : Type 0 where
  pub is : o.holder ≡ Some id
  pub book_is : o.book ≡ h.seen
  pub fit : FitsSight g.workers o.mark o.book o.owner id h

held_at : (g : GraphView) (l : Option Ledger) (id : ℕ) (h : Sight) (s : S) (o : Orderly g s) (holder : Option ℕ) → o.holder ≡ holder → get_elem? s.views id ≡ some (holding l h) → Held g id h s o
held_at g l id h s o None is at = let out : OutFits None o.book id (holding l h) = subst (λ (k : Option ℕ). OutFits k o.book id (holding l h)) is (o.fits id (holding l h) at).1 in absurd (cc)
held_at g l id h s o (Some k) is at =
    let f = o.fits id (holding l h) at in
    let out : OutFits (Some k) o.book id (holding l h) = subst (λ (k : Option ℕ). OutFits k o.book id (holding l h)) is f.1 in
    dite (ℕ_discrete id k)
    (λ same. let found : Some h.seen ≡ Some o.book = (out.0 same).0 in record { is = is ∙ ap Some (sym same); book_is = cc; fit = All-head (FitsSight g.workers o.mark o.book o.owner id) h [] f.0 })
    (λ apart. let not : Some h.seen ≡ None = out.1 apart in absurd (cc))

pub holds_it : (g : GraphView) (l : Option Ledger) (id : ℕ) (h : Sight) (s : S) (o : Orderly g s) → get_elem? s.views id ≡ some (holding l h) → Held g id h s o
holds_it g l id h s o at = held_at g l id h s o o.holder refl at

pub puts_it : (g : GraphView) (l : Option Ledger) (slots id : ℕ) (h : Sight) (book : BookView) → AddsOwn h book
    → Allows (Orderly g) slots id (holding l h, (0, kept book l) ∷ []) 0 (λ _. 0) (λ _. put_back (step slots 0 0 0 none) (holding l h, (0, kept book l) ∷ []) 0)
puts_it g l slots id h book adds s o deep at small =
    let q = holds_it g l id h s o at in
    let new : Sight = seeing h book in
    let same : l ≡ o.ledger = o.known id (holding l h) at (omega arith) in
    let sound : IsSoundBook book = adds.sound (subst IsSoundBook q.book_is o.sound) in
    let graph : book.graph ≡ o.book.graph = adds.graph ∙ sym (ap (λ (b : BookView). b.graph) q.book_is) in
    let history : book.history ≡ o.book.history ++ adds.more = adds.history ∙ sym (ap (λ (b : BookView). b.history ++ adds.more) q.book_is) in
    let other : (k : Sight) → k.worker.0 ≢ h.worker.0 → Agrees k.worker k.seen o.book → Agrees k.worker k.seen book =
    λ k ne a. agrees_then k.worker k.seen o.book book a (goes_on k.worker o.book book adds.more o.sound sound graph history (adds.own k.worker ne)) in (
      one l new,
      gives,
      tt,
      record {
        book = book;
        ledger = o.ledger;
        mark = o.mark;
        owner = o.owner;
        holder = None;
        graph = graph ∙ o.graph;
        sound = sound;
        wide = length-set s.words 0 0 ∙ o.wide;
        deep = length-set s.homes 0 (some (kept book l)) ∙ o.deep;
        busy = get_or-set_same s.words 0 0 0 (let p = o.wide in omega arith);
        mark_is = get_or-set_other s.words 0 1 0 0 (λ (e : 1 ≡ 0). absurd (omega arith)) ∙ o.mark_is;
        named = o.named;
        small = o.small;
        home = set_here s.homes 0 (some (kept book l)) (let p = o.deep in omega arith) ∙ ap (λ (x : Option Ledger). some (some (kept book x))) same;
        inside = λ k e. absurd (cc);
        fits = set_views (λ j u. All (FitsSight g.workers o.mark book o.owner j) u.sights × OutFits None book j u) s.views id (one l new)
            (λ j u apart e. let f = o.fits j u e in (
              All-weaker (FitsSight g.workers o.mark o.book o.owner j) (FitsSight g.workers o.mark book o.owner j)
                  (λ k fit. record {
                    known = fit.known;
                    agrees = other k (λ same. apart (sym fit.seated ∙ (ap o.owner same ∙ q.fit.seated))) fit.agrees;
                    seated = fit.seated;
                    stopped = fit.stopped;
                    stops = fit.stops;
                    stopped_by = fit.stopped_by;
                  })
                  u.sights f.0,
              (subst (λ (k : Option ℕ). OutFits k o.book j u) q.is f.1).1 apart,
            ))
            (alone g.workers o.mark book o.owner id new (record { known = q.fit.known; agrees = agrees_self h.worker book; seated = q.fit.seated; stopped = q.fit.stopped; stops = q.fit.stops; stopped_by = q.fit.stopped_by }), refl);
        known = set_views (λ j u. 0 < length u.sights → u.ledger ≡ o.ledger) s.views id (one l new) (λ j u apart e. o.known j u e) (λ _. same);
      },
      refl,
    )

-- a worker that holds nothing changes its own word on the stop, and the mark
marks : (g : GraphView) (l : Option Ledger) (s : S) (o : Orderly g s) (mark id : ℕ) (h h' : Sight) → get_elem? s.views id ≡ some (one l h) → mark ≤ g.workers → FitsSight g.workers mark o.book o.owner id h'
    → ((j : ℕ) (k : Sight) → j ≢ id → FitsSight g.workers o.mark o.book o.owner j k → FitsSight g.workers mark o.book o.owner j k) → Orderly g (stepped s 1 mark id [] (one l h') keeps)
marks g l s o mark id h h' at named mine others = record {
  book = o.book;
  ledger = o.ledger;
  mark = mark;
  owner = o.owner;
  holder = o.holder;
  graph = o.graph;
  sound = o.sound;
  wide = length-set s.words 1 mark ∙ o.wide;
  deep = o.deep;
  busy = still_busy (set s.words 1 mark) (get_or s.words 0 0) o.holder (get_or-set_other s.words 1 0 mark 0 (λ (e : 0 ≡ 1). absurd (omega arith))) o.busy;
  mark_is = get_or-set_same s.words 1 mark 0 (let p = o.wide in omega arith);
  named = named;
  small = o.small;
  home = o.home;
  inside = λ j e. let p = o.inside j e in let long = length-set s.views id (one l h') in omega arith;
  fits = set_views (λ j u. All (FitsSight g.workers mark o.book o.owner j) u.sights × OutFits o.holder o.book j u) s.views id (one l h')
      (λ j u apart e. let f = o.fits j u e in (All-weaker (FitsSight g.workers o.mark o.book o.owner j) (FitsSight g.workers mark o.book o.owner j) (λ k fit. others j k apart fit) u.sights f.0, f.1))
      (alone g.workers mark o.book o.owner id h' mine, still o.holder (o.fits id (one l h) at).1);
  known = set_views (λ j u. 0 < length u.sights → u.ledger ≡ o.ledger) s.views id (one l h') (λ j u apart e. o.known j u e) (λ _. o.known id (one l h) at (omega arith));
}
  where
    still : (k : Option ℕ) → OutFits k o.book id (one l h) → OutFits k o.book id (one l h')
    still None f = f
    still (Some k) f = ((λ e. ((f.0 e).0, omega arith)), f.1)

fits_at : (g : GraphView) (l : Option Ledger) (s : S) (o : Orderly g s) (id : ℕ) (h : Sight) → get_elem? s.views id ≡ some (one l h) → FitsSight g.workers o.mark o.book o.owner id h
fits_at g l s o id h at = All-head (FitsSight g.workers o.mark o.book o.owner id) h [] (o.fits id (one l h) at).0

hears : (n mark : ℕ) (book : BookView) (owner : ℕ → ℕ) (id : ℕ) (h : Sight) (w : WorkerId) → mark ≡ suc w.0 → FitsSight n mark book owner id h → FitsSight n mark book owner id (hearing h w)
hears n mark book owner id h w is fit = record { known = fit.known; agrees = fit.agrees; seated = fit.seated; stopped = fit.stopped; stops = fit.stops; stopped_by = λ x (e : Some w ≡ Some x). let same : w ≡ x = cc in is ∙ ap (λ (v : WorkerId). suc v.0) same }

-- somebody has stopped the service before
hears_it : (g : GraphView) (l : Option Ledger) (s : S) (o : Orderly g s) (id : ℕ) (h : Sight) → get_elem? s.views id ≡ some (one l h) → get_or s.words 1 0 ≢ 0
    → Orderly g (stepped s 1 (get_or s.words 1 0) id [] (one l (hearing h (marked (get_or s.words 1 0)))) keeps)
hears_it g l s o id h at was =
    let x : ℕ = get_or s.words 1 0 in
    let is : o.mark ≡ x = sym o.mark_is in
    let next : o.mark ≡ suc (x - 1) = omega arith in
    subst (λ m. Orderly g (stepped s 1 m id [] (one l (hearing h (marked x))) keeps)) is
    (marks g l s o o.mark id h (hearing h (marked x)) at o.named (hears g.workers o.mark o.book o.owner id h (marked x) next (fits_at g l s o id h at)) (λ j k _ fit. fit))

-- the mark fits its word, and names a worker where it isn't 0
little_mark : (g : GraphView) (s : S) (o : Orderly g s) → get_or s.words 1 0 < 2 ^ 32
little_mark g s o = let is : get_or s.words 1 0 ≡ o.mark = o.mark_is in let p = o.named in let q = o.small in omega arith

stopper_of : (g : GraphView) (l : Option Ledger) (s : S) (o : Orderly g s) (id : ℕ) (h : Sight) → get_elem? s.views id ≡ some (one l h) → get_or s.words 1 0 ≢ 0 → (marked (get_or s.words 1 0)).0 < h.seen.graph.workers
stopper_of g l s o id h at was =
    let x : ℕ = get_or s.words 1 0 in
    let is : x ≡ o.mark = o.mark_is in
    let low : x - 1 < g.workers = let p = o.named in omega arith in
    subst (λ (y : GraphView). x - 1 < y.workers) (sym o.graph ∙ (fits_at g l s o id h at).agrees.graph) low

pub stops_it : (g : GraphView) (l : Option Ledger) (slots id : ℕ) (h : Sight) → Allows (Orderly g) slots id (one l h, []) 1 (λ x. either (eqb x 0) (h.worker.0 + 1) x) (stopped_at (step slots 1 0 (h.worker.0 + 1) none) (one l h, []))
stops_it g l slots id h s o deep at small =
    let x : ℕ = get_or s.words 1 0 in
    let fit = fits_at g l s o id h at in
    let little = little_mark g s o in
    dite (ℕ_discrete x 0)
    (λ none_yet.
    let free : o.mark ≡ 0 = sym o.mark_is ∙ none_yet in (
      one l (stopping h),
      keeps,
      tt,
      subst (λ b. Orderly g (stepped s 1 (either b (h.worker.0 + 1) x) id [] (one l (stopping h)) keeps)) (sym (eq-eqb x 0 none_yet))
          (marks g l s o (h.worker.0 + 1) id h (stopping h) at (let p = fit.known in omega arith)
          (record { known = fit.known; agrees = fit.agrees; seated = fit.seated; stopped = λ _. omega arith; stops = λ _. refl; stopped_by = λ w e. let f = fit.stopped_by w e in absurd (omega arith) })
          (λ j k apart f. record {
            known = f.known;
            agrees = f.agrees;
            seated = f.seated;
            stopped = λ e. let g = f.stopped e in absurd (omega arith);
            stops = λ e. let same : k.worker.0 ≡ h.worker.0 = omega arith in absurd (apart (sym f.seated ∙ (ap o.owner same ∙ fit.seated)));
            stopped_by = λ w e. let g = f.stopped_by w e in absurd (omega arith);
          })),
      (little, (λ _. refl), (λ ne. absurd (ne none_yet))),
    ))
    (λ was. (
      one l (hearing h (marked x)),
      keeps,
      tt,
      subst (λ b. Orderly g (stepped s 1 (either b (h.worker.0 + 1) x) id [] (one l (hearing h (marked x))) keeps)) (sym (ne_eqb x 0 was)) (hears_it g l s o id h at was),
      (little, (λ e. absurd (was e)), (λ _. record { stopper = stopper_of g l s o id h at was; is = refl })),
    ))

none_where : {X : Type 0} (o : Option X) → ((x : X) → o ≡ Some x → ⊥) → o ≡ None
none_where None other = refl
none_where (Some x) other = absurd (other x refl)

-- where there is no mark, a worker that sits there has set none, and heard of none
no_stop : (n mark : ℕ) (book : BookView) (owner : ℕ → ℕ) (id : ℕ) (h : Sight) → FitsSight n mark book owner id h → mark ≡ 0 → KnowsNoStop h
no_stop n mark book owner id h fit free = (
  false_from_ne_true h.stopped (λ e. let m = fit.stopped e in absurd (omega arith)),
  none_where h.stopped_by (λ w e. let m = fit.stopped_by w e in absurd (omega arith)),
)

pub looks_it : (g : GraphView) (l : Option Ledger) (slots id : ℕ) (h : Sight) → Allows (Orderly g) slots id (one l h, []) 1 (λ x. x) (heard (step slots 1 0 0 none) (one l h, []))
looks_it g l slots id h s o deep at small =
    let x : ℕ = get_or s.words 1 0 in
    let little = little_mark g s o in
    dite (ℕ_discrete x 0)
    (λ none_yet. (
      one l h,
      keeps,
      tt,
      same_views g s o (set s.words 1 x) id (one l h) at (length-set s.words 1 x ∙ o.wide)
          (still_busy (set s.words 1 x) (get_or s.words 0 0) o.holder (get_or-set_other s.words 1 0 x 0 (λ (e : 0 ≡ 1). absurd (omega arith))) o.busy)
          (get_or-set_same s.words 1 x 0 (let p = o.wide in omega arith)),
      (
        little,
        (λ _. (refl, no_stop g.workers o.mark o.book o.owner id h (fits_at g l s o id h at) (sym o.mark_is ∙ none_yet))),
        (λ ne. absurd (ne none_yet)),
      ),
    ))
    (λ was. (one l (hearing h (marked x)), keeps, tt, hears_it g l s o id h at was, (little, (λ e. absurd (was e)), (λ _. record { stopper = stopper_of g l s o id h at was; is = refl }))))
