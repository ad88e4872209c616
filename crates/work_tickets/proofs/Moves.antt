-- A push and a pop keep the rule.
use Rattle.std.proofs.Common.{◌≡◌, ◌<◌, ℕ, suc, ◌+◌, Bool, List, [], ◌∷◌, ◌++◌, length, get_or, set}
use Rattle.std.proofs.Common.{refl, sym, ap, ◌∙◌, subst, arith, sum_by, count_by, cond}
use Rattle.std.proofs.lemmas.List.Elements.{All-cons, All-nil, All-push, All-set}
use Rattle.std.proofs.lemmas.List.Sums.{sum_by_push}
use mathlib.Core.Option.{some}
use lib.ListN.{get_elem?}
use Rattle.crossbeam_queue.specs.Fifo.{Pushes, Pops}
use Rattle.work_tickets.specs.Lines.{GoesOn, line_of, pushed}
use Rattle.work_tickets.specs.Sights.{one, sight_of, pushing, popping}
use Rattle.work_tickets.specs.Rule.{Orderly, FitsPass, FitsSight, has_popped, has_pushed, total_of, places}
use Rattle.work_tickets.specs.declared.rule.Line.{Line}
use Rattle.work_tickets.specs.declared.rule.Sight.{Sight}
use Rattle.work_tickets.specs.declared.rule.PassView.{PassView}
use Rattle.work_tickets.proofs.Beginnings.{prefix_length}
use Rattle.work_tickets.proofs.Totals.{at_all, total_one, total_set}
use Rattle.work_tickets.proofs.GoingOn.{goes_on_self, goes_on_trans, place_more, places_same, popped_more, popped_on, pushed_on}
use Rattle.work_tickets.proofs.Counting.{count_place_more}
use Rattle.work_tickets.proofs.Together.{found}

-- who fits a line fits it when it has gone on
fits_on : (seats : ℕ) (old new : Line) → GoesOn old new → (v : PassView) → FitsPass seats old v → FitsPass seats new v
fits_on seats old new on v f = record {
  known = f.known;
  sights = λ k d h. let s = f.sights k d h in record {
    knows = s.knows;
    goes_on = goes_on_trans (get_or v.sights k d).line old new s.goes_on on;
    pushes = s.pushes;
    pops = s.pops;
  };
}

one_fits : (seats : ℕ) (line : Line) (s : Sight) → FitsSight seats line s → FitsPass seats line (one s)
one_fits seats line s f = record { known = λ h. absurd (omega arith); sights = All-cons (FitsSight seats line) s [] f (All-nil (FitsSight seats line)) }

module _ (views : List PassView) (port : ℕ) (s t : Sight) (at : get_elem? views port ≡ some (one s)) where
  -- one seat stays one seat
  uncut_same : sum_by (λ u. u.uncut) (set views port (one t)) ≡ sum_by (λ u. u.uncut) views
  uncut_same = omega (arith, total_set (λ u. u.uncut) views port (one s) (one t) at)

  seats_same : sum_by (λ u. length u.sights) (set views port (one t)) ≡ sum_by (λ u. length u.sights) views
  seats_same = omega (arith, total_set (λ u. length u.sights) views port (one s) (one t) at)

  module _ (list_of : Sight → List ℕ) (sort : ℕ → Bool) where
    abbrev count : Sight → ℕ
    count r = count_by sort (list_of r)

    counted : total_of list_of sort (set views port (one t)) + count s ≡ total_of list_of sort views + count t
    counted =
        let set_one = total_set (λ u. sum_by (λ r. count_by sort (list_of r)) u.sights) views port (one s) (one t) at in
        omega (arith, set_one, total_one count s, total_one count t)

    total_same : list_of t ≡ list_of s → total_of list_of sort (set views port (one t)) ≡ total_of list_of sort views
    total_same same = omega (arith, counted, ap (λ (l : List ℕ). count_by sort l) same)

    total_more : (n m : ℕ) → list_of t ≡ list_of s ++ n ∷ [] → m ≡ suc n → total_of list_of sort views ≡ count_by sort (places n)
        → total_of list_of sort (set views port (one t)) ≡ count_by sort (places m)
    total_more n m longer next before =
        let mine = ap (λ (l : List ℕ). count_by sort l) longer ∙ sum_by_push (λ x. cond (sort x) 1 0) (list_of s) n in
        let places_more = ap (λ (k : ℕ). count_by sort (places k)) next ∙ count_place_more sort n in
        omega (arith, counted, mine, places_more, before)

pushes_one : (n port : ℕ) (s : Sight) (x : ℕ) → Pushes Orderly n port (one s) x (has_pushed n (one s) x)
pushes_one n port s x queued views room o at =
    let line = line_of o.popped queued in
    let after = line_of o.popped (queued ++ x ∷ []) in
    let on = pushed_on o.popped queued x in
    let mine : FitsSight o.seats line s = (at_all (FitsPass o.seats line) views port (one s) o.fits at).sights 0 s (omega arith) in
    let t = pushing s line x in
    let more = place_more o.popped queued x in
    let far = prefix_length (pushed s.line) (pushed line) mine.goes_on.pushed in
    let far_popped = prefix_length s.line.popped o.popped mine.goes_on.popped in
    let fits : FitsSight o.seats after t = record {
      knows = mine.knows;
      goes_on = goes_on_self after;
      pushes = All-push (λ place. place < length (pushed after)) s.pushes (length (pushed line))
          (λ k d h. let below = mine.pushes k d h in omega (arith, below, far, more)) (omega (arith, more));
      pops = λ k d h. let below = mine.pops k d h in omega (arith, below, far_popped);
    } in (
      one t,
      record {
        popped = o.popped;
        seats = o.seats;
        fits = All-set (FitsPass o.seats after) views port (one t) (one_fits o.seats after t fits)
            (λ k d h. fits_on o.seats line after on (get_or views k d) (o.fits k d h));
        parts = omega (arith, o.parts, uncut_same views port s t at, seats_same views port s t at);
        pushes = λ sort. total_more views port s t at (λ r. r.pushes) sort (length (pushed line)) (length (pushed after)) refl more (o.pushes sort);
        pops = λ sort. total_same views port s t at (λ r. r.pops) sort refl ∙ o.pops sort;
      },
      (refl, record { line = line; found = found queued views o port s at; room = room; sight = refl }),
    )

pub pushes : (n port : ℕ) (v : PassView) (x : ℕ) → v ≡ one (sight_of v) → Pushes Orderly n port v x (has_pushed n v x)
pushes n port v x lone = subst (λ (u : PassView). Pushes Orderly n port u x (has_pushed n u x)) (sym lone) (pushes_one n port (sight_of v) x)

pops_one : (port : ℕ) (s : Sight) → Pops Orderly port (one s) (has_popped (one s))
pops_one port s x rest views o at =
    let line = line_of o.popped (x ∷ rest) in
    let after = line_of (o.popped ++ x ∷ []) rest in
    let on = popped_on o.popped rest x in
    let mine : FitsSight o.seats line s = (at_all (FitsPass o.seats line) views port (one s) o.fits at).sights 0 s (omega arith) in
    let t = popping s line x rest in
    let more = popped_more o.popped x in
    let same = places_same o.popped rest x in
    let far = prefix_length (pushed s.line) (pushed line) mine.goes_on.pushed in
    let far_popped = prefix_length s.line.popped o.popped mine.goes_on.popped in
    let fits : FitsSight o.seats after t = record {
      knows = mine.knows;
      goes_on = goes_on_self after;
      pushes = λ k d h. let below = mine.pushes k d h in omega (arith, below, far, same);
      pops = All-push (λ place. place < length after.popped) s.pops (length o.popped)
          (λ k d h. let below = mine.pops k d h in omega (arith, below, far_popped, more)) (omega (arith, more));
    } in (
      one t,
      record {
        popped = o.popped ++ x ∷ [];
        seats = o.seats;
        fits = All-set (FitsPass o.seats after) views port (one t) (one_fits o.seats after t fits)
            (λ k d h. fits_on o.seats line after on (get_or views k d) (o.fits k d h));
        parts = omega (arith, o.parts, uncut_same views port s t at, seats_same views port s t at);
        pushes = λ sort. total_same views port s t at (λ r. r.pushes) sort refl
            ∙ (o.pushes sort ∙ ap (λ (k : ℕ). count_by sort (places k)) (sym same));
        pops = λ sort. total_more views port s t at (λ r. r.pops) sort (length o.popped) (length after.popped) refl more (o.pops sort);
      },
      (refl, record { line = line; rest = rest; found = found (x ∷ rest) views o port s at; first = refl; sight = refl }),
    )

pub pops : (port : ℕ) (v : PassView) → v ≡ one (sight_of v) → Pops Orderly port v (has_popped v)
pops port v lone = subst (λ (u : PassView). Pops Orderly port u (has_popped u)) (sym lone) (pops_one port (sight_of v))
