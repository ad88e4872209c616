-- What the last state says, and what the step that takes the book out for good says.
use Rattle.std.proofs.Common.{◌≡◌, ℕ, zero, suc, ◌+◌, ◌<◌, ◌≤◌, true, List, [], ◌∷◌, map, length, get_or, Option, Some, None, refl, sym, ap, ◌∙◌, subst, arith}
use Rattle.std.specs.List.{All, Any}
use Rattle.std.proofs.lemmas.List.{get_or-map, get_or_default}
use mathlib.Core.Option.{some, some-injective}
use lib.ListN.{get_elem?}
use Rattle.atomic_table.specs.Table.{Final, Seen}
use Rattle.lock_journal.specs.Names.{GraphView, WorkerId, BookView}
use Rattle.resource_lock.proofs.lemmas.Undo.{same_worker}
use Rattle.coordination.specs.Names.{Agrees, IsSoundBook, PassView, KeptView, kept, OutFits, home_of, Orderly, sight, all_of, sights_from}
use Rattle.coordination.specs.Names.{workers_from}
use Rattle.coordination.specs.declared.rule.Sight.{Sight}
use Rattle.coordination.specs.declared.rule.SeatView.{SeatView}
use Rattle.logbook.specs.Pages.{Book as Ledger}
use Rattle.coordination.specs.Sights.{no_book}
use Rattle.coordination.proofs.Moves.{S}

-- what the last state says of each worker, and of the slot
pub record Closes (g : GraphView) (ss : List Sight) (xs : List KeptView) : Type 0 where
  pub book : BookView
  pub ledger : Option Ledger
  pub mark : ℕ
  pub named : mark ≤ g.workers
  pub graph : book.graph ≡ g
  pub sound : IsSoundBook book
  pub slot : get_elem? xs 0 ≡ some (kept book ledger)
  pub agrees : All (λ s. Agrees s.worker s.seen book) ss
  pub stops : All (λ s. mark ≡ suc s.worker.0 → s.stopped ≡ true) ss
  pub stopped_by : All (λ s. (w : WorkerId) → s.stopped_by ≡ Some w → mark ≡ suc w.0) ss

some_at : (views : List SeatView) (k : ℕ) → k < length views → (u : SeatView) × (get_elem? views k ≡ some u)
some_at [] k h = absurd (omega arith)
some_at (x ∷ xs) zero h = (x, refl)
some_at (x ∷ xs) (suc k) h = some_at xs k (omega arith)

workers_at : (w n k d : ℕ) → k < n → get_or (workers_from w n) k d ≡ w + k
workers_at w zero k d h = absurd (omega arith)
workers_at w (suc n) zero d h = omega arith
workers_at w (suc n) (suc k) d h = workers_at (suc w) n k d (omega arith) ∙ omega arith

length_workers : (w n : ℕ) → length (workers_from w n) ≡ n
length_workers w zero = refl
length_workers w (suc n) = let h = length_workers (suc w) n in omega arith

length_map : {X Y : Type 0} (f : X → Y) (xs : List X) → length (map f xs) ≡ length xs
length_map f [] = refl
length_map f (x ∷ xs) = let h = length_map f xs in omega arith

-- each worker is there
pub there_is : (ss : List Sight) (n w : ℕ) → map (λ s. s.worker.0) ss ≡ workers_from 0 n → w < n → (w < length ss) × ((d : Sight) → (get_or ss w d).worker.0 ≡ w)
there_is ss n w all low =
    let long : length ss ≡ n = sym (length_map (λ (s : Sight). s.worker.0) ss) ∙ (ap (λ (l : List ℕ). length l) all ∙ length_workers 0 n) in
    let inside : w < length ss = omega arith in
    (inside, λ d. sym (get_or-map (λ (s : Sight). s.worker.0) ss w d 0 inside) ∙ (ap (λ (l : List ℕ). get_or l w 0) all ∙ (workers_at 0 n w 0 low ∙ omega arith)))

-- where a seat has the sights of all workers, none has the book out
pub nobody_holds : (g : GraphView) (l : Option Ledger) (id : ℕ) (ss : List Sight) → map (λ s. s.worker.0) ss ≡ workers_from 0 g.workers → (s : S) (o : Orderly g s) → get_elem? s.views id ≡ some (all_of l ss)
    → (holder : Option ℕ) → o.holder ≡ holder → holder ≡ None
nobody_holds g l id ss all s o at None is = refl
nobody_holds g l id ss all s o at (Some k) is =
    let u = some_at s.views k (o.inside k is) in
    let f = o.fits k u.0 u.1 in
    let out : OutFits (Some k) o.book k u.0 = subst (λ (j : Option ℕ). OutFits j o.book k u.0) is f.1 in
    let some_sight : 0 < length u.0.sights = (out.0 refl).1 in
    let d : Sight = sight 0 no_book in
    let fit = f.0 0 d some_sight in
    let w : ℕ = (get_or u.0.sights 0 d).worker.0 in
    let mine = there_is ss g.workers w all fit.known in
    let fit' = (o.fits id (all_of l ss) at).0 w d mine.0 in
    let same : id ≡ k = sym fit'.seated ∙ (ap o.owner (mine.1 d) ∙ fit.seated) in
    let holds : OutFits (Some k) o.book id (all_of l ss) = subst (λ (j : Option ℕ). OutFits j o.book id (all_of l ss)) is (o.fits id (all_of l ss) at).1 in
    let not : None ≡ Some o.book = (holds.0 same).0 in absurd (cc)

closing : (g : GraphView) (l : Option Ledger) (id : ℕ) (ss : List Sight) (xs : List KeptView) → map (λ s. s.worker.0) ss ≡ workers_from 0 g.workers → (s : S) (o : Orderly g s) → get_elem? s.views id ≡ some (all_of l ss)
    → ((k : ℕ) (y : KeptView) → get_elem? s.homes k ≡ some (some y) → get_elem? xs k ≡ some y) → Closes g ss xs
closing g l id ss xs all s o at keeps =
    let free = nobody_holds g l id ss all s o at o.holder refl in
    let mine = (o.fits id (all_of l ss) at).0 in record {
      book = o.book;
      ledger = o.ledger;
      mark = o.mark;
      named = o.named;
      graph = o.graph;
      sound = o.sound;
      slot = keeps 0 (kept o.book o.ledger) (o.home ∙ ap (λ (k : Option ℕ). some (home_of k (kept o.book o.ledger))) free);
      agrees = λ k d h. (mine k d h).agrees;
      stops = λ k d h. (mine k d h).stops;
      stopped_by = λ k d h. (mine k d h).stopped_by;
    }

pub closes : (g : GraphView) (l : Option Ledger) (id : ℕ) (v : SeatView) (ss : List Sight) (ws : List ℕ) (xs : List KeptView) → v ≡ all_of l ss → map (λ s. s.worker.0) ss ≡ workers_from 0 g.workers → Final (Seen (Orderly g) id v) ws xs
    → Closes g ss xs
closes g l id v ss ws xs is all f = closing g l id ss xs all f.0 f.1.0 (f.1.1 ∙ ap some is) f.4

-- the same of the passes
pub workers_all : (ps : List PassView) → map (λ s. s.worker.0) (map (λ p. p.sight) ps) ≡ map (λ p. p.sight.worker.0) ps
workers_all [] = refl
workers_all (p ∷ ps) = λ i. p.sight.worker.0 ∷ workers_all ps i

workers_of : (w n : ℕ) (book : BookView) → map (λ (s : Sight). s.worker.0) (sights_from w n book) ≡ workers_from w n
workers_of w zero book = refl
workers_of w (suc n) book = ap (λ (l : List ℕ). w ∷ l) (workers_of (suc w) n book)

-- the workers of new passes, and how many they are
pub workers_first : (ps : List PassView) (n : ℕ) (book : BookView) → map (λ p. p.sight) ps ≡ sights_from 0 n book → map (λ p. p.sight.worker.0) ps ≡ workers_from 0 n
workers_first ps n book is = sym (workers_all ps) ∙ (ap (λ (l : List Sight). map (λ s. s.worker.0) l) is ∙ workers_of 0 n book)

pub how_many : (ps : List PassView) (n : ℕ) → map (λ p. p.sight.worker.0) ps ≡ workers_from 0 n → length ps ≡ n
how_many ps n all = sym (length_map (λ (p : PassView). p.sight.worker.0) ps) ∙ (ap (λ (l : List ℕ). length l) all ∙ length_workers 0 n)

pub length_first : (ps : List PassView) (n : ℕ) (book : BookView) → map (λ p. p.sight) ps ≡ sights_from 0 n book → length ps ≡ n
length_first ps n book is = how_many ps n (workers_first ps n book is)

-- a fact of each sight is one of each pass
of_passes : (P : Sight → Type 0) (ps : List PassView) → All P (map (λ p. p.sight) ps) → (k : ℕ) (d : PassView) → k < length ps → P (get_or ps k d).sight
of_passes P ps all k d h = let f : PassView → Sight = λ p. p.sight in let long = length_map f ps in subst P (at k ps d) (all k d.sight (omega arith))
  where
    at : (k : ℕ) (ps : List PassView) (d : PassView) → get_or (map (λ p. p.sight) ps) k d.sight ≡ (get_or ps k d).sight
    at k [] d = refl
    at zero (p ∷ ps) d = refl
    at (suc k) (p ∷ ps) d = at k ps d

module _ (g : GraphView) (ps : List PassView) (xs : List KeptView) (left : KeptView) (result : BookView) (z : Closes g (map (λ p. p.sight) ps) xs) (took : get_elem? xs 0 ≡ some left) (is : result ≡ left.book) where
  same : z.book ≡ result
  same = ap (λ (x : KeptView). x.book) (some-injective (kept z.book z.ledger) left (sym z.slot ∙ took)) ∙ sym is

  pub graph_is : result.graph ≡ g
  graph_is = sym (ap (λ (b : BookView). b.graph) same) ∙ z.graph

  pub sound_is : IsSoundBook result
  sound_is = subst IsSoundBook same z.sound

  pub passes_agree : All (λ p. Agrees p.sight.worker p.sight.seen result) ps
  passes_agree = λ k d h. subst (Agrees (get_or ps k d).sight.worker (get_or ps k d).sight.seen) same (of_passes (λ (s : Sight). Agrees s.worker s.seen z.book) ps z.agrees k d h)

-- the passes stand in the order of their workers
pub worker_at : (ps : List PassView) (n : ℕ) → map (λ p. p.sight.worker.0) ps ≡ workers_from 0 n → (k : ℕ) (d : PassView) → k < length ps → (get_or ps k d).sight.worker.0 ≡ k
worker_at ps n all k d within =
    let f : PassView → ℕ = λ p. p.sight.worker.0 in
    let low : k < n = omega (arith, how_many ps n all) in
    sym (get_or-map f ps k d 0 within) ∙ (ap (λ (l : List ℕ). get_or l k 0) all ∙ (workers_at 0 n k 0 low ∙ omega arith))

-- whoever a pass heard of is a worker with a pass, which has stopped the service
pub passes_stopped : (g : GraphView) (ps : List PassView) (xs : List KeptView) → map (λ p. p.sight.worker.0) ps ≡ workers_from 0 g.workers → Closes g (map (λ p. p.sight) ps) xs
    → All (λ p. (by : WorkerId) → p.sight.stopped_by ≡ Some by → Any (λ q. (q.sight.worker ≡ by) × (q.sight.stopped ≡ true)) ps) ps
passes_stopped g ps xs all z = λ k d h by heard.
    let mark : z.mark ≡ suc by.0 = of_passes (λ (s : Sight). (w : WorkerId) → s.stopped_by ≡ Some w → z.mark ≡ suc w.0) ps z.stopped_by k d h by heard in
    let within : by.0 < length ps = omega (arith, z.named, how_many ps g.workers all) in
    let worker = worker_at ps g.workers all by.0 d within in
    let stopped = of_passes (λ (s : Sight). z.mark ≡ suc s.worker.0 → s.stopped ≡ true) ps z.stops by.0 d within (mark ∙ ap suc (sym worker)) in
    (by.0, get_or ps by.0 d, within, get_or_default ps by.0 (get_or ps by.0 d) d within, (same_worker (get_or ps by.0 d).sight.worker by worker, stopped))
