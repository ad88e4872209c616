-- How seats are made and joined keeps the rule.
use Rattle.std.proofs.Common.{◌≡◌, ◌<◌, ◌≤◌, ℕ, suc, ◌+◌, ◌-◌, List, [], ◌∷◌, ◌++◌, length, set}
use Rattle.std.proofs.Common.{refl, sym, ap, ◌∙◌, subst, arith, sum_by, count_by, length-append}
use Rattle.std.specs.List.{All}
use Rattle.std.proofs.lemmas.List.Elements.{All-append, All-cons, All-nil, All-push, All-set}
use Rattle.std.proofs.lemmas.List.Sums.{sum_by-append, sum_by_push}
use mathlib.Core.Option.{some}
use lib.ListN.{get_elem?}
use Rattle.crossbeam_queue.specs.Fifo.{Forks, Merges}
use Rattle.crossbeam_queue.proofs.Lists.{set_else}
use Rattle.work_tickets.specs.Lines.{line_of, pushed}
use Rattle.work_tickets.specs.Sights.{both_views, first_keeper, fresh, keeper, keeper_of_more, keeper_of_rest, nobody, one, sight_of}
use Rattle.work_tickets.specs.Rule.{Orderly, FitsPass, FitsSight}
use Rattle.work_tickets.specs.declared.rule.Line.{Line}
use Rattle.work_tickets.specs.declared.rule.Sight.{Sight}
use Rattle.work_tickets.specs.declared.rule.PassView.{PassView}
use Rattle.work_tickets.proofs.Totals.{all_set_only, at_all, total_both, total_one, total_set}

no_sights_fit : (seats : ℕ) (line : Line) (ss : List Sight) → length ss ≡ 0 → All (FitsSight seats line) ss
no_sights_fit seats line ss none_left k d h = absurd (omega arith)

keeper_fits : (seats uncut : ℕ) (line : Line) → FitsPass seats line (keeper seats uncut)
keeper_fits seats uncut line = record { known = λ h. refl; sights = All-nil (FitsSight seats line) }

nobody_fits : (seats : ℕ) (line : Line) → FitsPass seats line nobody
nobody_fits seats line = record { known = λ h. absurd (omega arith); sights = All-nil (FitsSight seats line) }

fresh_fits : (seats : ℕ) (line : Line) → FitsPass seats line (one (fresh seats))
fresh_fits seats line =
    let sight : FitsSight seats line (fresh seats) = record {
      knows = refl;
      goes_on = record { popped = (line.popped, refl); pushed = (pushed line, refl) };
      pushes = All-nil (λ place. place < 0);
      pops = All-nil (λ place. place < 0);
    } in record { known = λ h. absurd (omega arith); sights = All-cons (FitsSight seats line) (fresh seats) [] sight (All-nil (FitsSight seats line)) }

pub begins : Orderly [] (first_keeper ∷ [])
begins = record {
  popped = [];
  seats = 1;
  fits = All-cons (FitsPass 1 (line_of [] [])) first_keeper [] (keeper_fits 1 1 (line_of [] [])) (All-nil (FitsPass 1 (line_of [] [])));
  parts = omega arith;
  pushes = λ sort. refl;
  pops = λ sort. refl;
}

-- a total after a pass has been cut in two
cut_total : (f : PassView → ℕ) (views : List PassView) (port : ℕ) (v left right : PassView) → get_elem? views port ≡ some v
    → sum_by f (set views port left ++ right ∷ []) + f v ≡ sum_by f views + f left + f right
cut_total f views port v left right at = omega (arith, total_set f views port v left at, sum_by_push f (set views port left) right)

counts_one : (port k : ℕ) → 0 < k → Forks Orderly port (keeper k k) (keeper (suc k) (suc k)) nobody
counts_one port k some_seat queued views o at =
    let line = line_of o.popped queued in
    let v = keeper k k in
    let left = keeper (suc k) (suc k) in
    let known : k ≡ o.seats = (at_all (FitsPass o.seats line) views port v o.fits at).known some_seat in
    let uncut = cut_total (λ u. u.uncut) views port v left nobody at in
    let seats = cut_total (λ u. length u.sights) views port v left nobody at in
    let part : PassView → ℕ = λ u. u.uncut + length u.sights in
    let most : sum_by part views ≤ part v = omega (
      arith,
      total_both (λ (u : PassView). u.uncut)
          (λ (u : PassView). length u.sights) views,
      o.parts,
      known,
    ) in
    let idle : (u : PassView) → part u ≡ 0 → FitsPass (suc o.seats) line u = λ u none_left. record {
      known = λ h. absurd (omega (arith, none_left, h));
      sights = no_sights_fit (suc o.seats) line u.sights (omega (arith, none_left));
    } in
    let new : FitsPass (suc o.seats) line left = subst (λ (n : ℕ). FitsPass (suc n) line left) known (keeper_fits (suc k) (suc k) line) in record {
      popped = o.popped;
      seats = suc o.seats;
      fits = All-push (FitsPass (suc o.seats) line) (set views port left) nobody
          (all_set_only part (FitsPass (suc o.seats) line) idle views port v left at most new) (nobody_fits (suc o.seats) line);
      parts = omega (arith, o.parts, uncut, seats);
      pushes = λ sort. omega (arith, cut_total (λ u. sum_by (λ s. count_by sort s.pushes) u.sights) views port v left nobody at, o.pushes sort);
      pops = λ sort. omega (arith, cut_total (λ u. sum_by (λ s. count_by sort s.pops) u.sights) views port v left nobody at, o.pops sort);
    }

pub counts : (port k : ℕ) (v : PassView) → 0 < k → v ≡ keeper k k → Forks Orderly port v (keeper_of_more v) nobody
counts port k v some_seat is = subst (λ (u : PassView). Forks Orderly port u (keeper_of_more u) nobody) (sym is) (counts_one port k some_seat)

cuts_one : (port seats k : ℕ) → Forks Orderly port (keeper seats (suc k)) (keeper seats k) (one (fresh seats))
cuts_one port n k queued views o at =
    let line = line_of o.popped queued in
    let v = keeper n (suc k) in
    let left = keeper n k in
    let right = one (fresh n) in
    let known : n ≡ o.seats = (at_all (FitsPass o.seats line) views port v o.fits at).known (omega arith) in
    let uncut = cut_total (λ u. u.uncut) views port v left right at in
    let seats = cut_total (λ u. length u.sights) views port v left right at in
    let kept_fits : FitsPass o.seats line left = subst (λ (m : ℕ). FitsPass m line left) known (keeper_fits n k line) in
    let new_fits : FitsPass o.seats line right = subst (λ (m : ℕ). FitsPass m line right) known (fresh_fits n line) in record {
      popped = o.popped;
      seats = o.seats;
      fits = All-push (FitsPass o.seats line) (set views port left) right (All-set (FitsPass o.seats line) views port left kept_fits o.fits) new_fits;
      parts = omega (arith, o.parts, uncut, seats);
      pushes = λ sort. omega (
        arith,
        cut_total (λ u. sum_by (λ s. count_by sort s.pushes) u.sights) views port v left right at,
        total_one (λ s. count_by sort s.pushes) (fresh n),
        o.pushes sort,
      );
      pops = λ sort. omega (
        arith,
        cut_total (λ u. sum_by (λ s. count_by sort s.pops) u.sights) views port v left right at,
        total_one (λ s. count_by sort s.pops) (fresh n),
        o.pops sort,
      );
    }

pub cuts : (port seats left : ℕ) (v : PassView) → 0 < left → v ≡ keeper seats left → Forks Orderly port v (keeper_of_rest v) (one (fresh v.seats))
cuts port seats left v some_left is =
    let k : ℕ = left - 1 in
    let one_more : v ≡ keeper seats (suc k) = is ∙ ap (λ (n : ℕ). keeper seats n) (omega arith) in
    let less : suc k - 1 ≡ k = omega arith in
    subst (λ (u : PassView). Forks Orderly port u (keeper_of_rest u) (one (fresh u.seats))) (sym one_more)
    (subst (λ (m : ℕ). Forks Orderly port (keeper seats (suc k)) (keeper seats m) (one (fresh seats))) (sym less) (cuts_one port seats k))

module _ (f : Sight → ℕ) (views : List PassView) (port other : ℕ) (v : PassView) (s : Sight) (at : get_elem? views port ≡ some v)
    (at' : get_elem? (set views port (both_views v (one s))) other ≡ some (one s)) where
  abbrev g : PassView → ℕ
  g u = sum_by f u.sights

  joined_total : sum_by (λ (u : PassView). sum_by f u.sights) (set (set views port (both_views v (one s))) other nobody)
      ≡ sum_by (λ (u : PassView). sum_by f u.sights) views
  joined_total =
      let first = total_set g views port v (both_views v (one s)) at in
      let second = total_set g (set views port (both_views v (one s))) other (one s) nobody at' in
      let both = sum_by-append f v.sights (s ∷ []) in omega (arith, first, second, both)

joins_one : (port : ℕ) (v : PassView) (other : ℕ) (s : Sight) → Merges Orderly port v other (one s) (both_views v (one s)) nobody
joins_one port v other s queued views o at apart at' =
    let line = line_of o.popped queued in
    let both = both_views v (one s) in
    let there : get_elem? views other ≡ some (one s) = sym (set_else views port other both apart) ∙ at' in
    let its = at_all (FitsPass o.seats line) views port v o.fits at in
    let mine = at_all (FitsPass o.seats line) views other (one s) o.fits there in
    let both_fit : FitsPass o.seats line both = record {
      known = λ h. its.known (omega (arith, h));
      sights = All-append (FitsSight o.seats line) v.sights (s ∷ []) its.sights mine.sights;
    } in
    let uncut = total_set (λ u. u.uncut) views port v both at in
    let uncut' = total_set (λ u. u.uncut) (set views port both) other (one s) nobody at' in
    let seats = total_set (λ u. length u.sights) views port v both at in
    let seats' = total_set (λ u. length u.sights) (set views port both) other (one s) nobody at' in
    let long = length-append v.sights (s ∷ []) in record {
      popped = o.popped;
      seats = o.seats;
      fits = All-set (FitsPass o.seats line) (set views port both) other nobody (nobody_fits o.seats line)
          (All-set (FitsPass o.seats line) views port both both_fit o.fits);
      parts = omega (arith, o.parts, uncut, uncut', seats, seats', long);
      pushes = λ sort. joined_total (λ r. count_by sort r.pushes) views port other v s at at' ∙ o.pushes sort;
      pops = λ sort. joined_total (λ r. count_by sort r.pops) views port other v s at at' ∙ o.pops sort;
    }

pub joins : (port : ℕ) (v : PassView) (other : ℕ) (w : PassView) → w ≡ one (sight_of w) → Merges Orderly port v other w (both_views v w) nobody
joins port v other w lone = subst (λ (u : PassView). Merges Orderly port v other u (both_views v u) nobody) (sym lone) (joins_one port v other (sight_of w))
