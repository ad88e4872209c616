-- What a pass knows that has the sights of all seats.
use Rattle.std.proofs.Common.{◌≡◌, ◌<◌, ℕ, Bool, List, [], ◌∷◌, ◌++◌, length, refl, sym, ap, ◌∙◌, subst, arith, sum_by, count_by}
use Rattle.std.specs.List.{All, Any}
use mathlib.Core.Option.{some}
use lib.ListN.{get_elem?}
use Rattle.crossbeam_queue.specs.Fifo.{Learns}
use Rattle.work_tickets.specs.Lines.{GoesOn, line_of, pushed}
use Rattle.work_tickets.specs.Sights.{all_of, one, sight_of}
use Rattle.work_tickets.specs.Calls.{Finds}
use Rattle.work_tickets.specs.Together.{ComeTo}
use Rattle.work_tickets.specs.Rule.{Orderly, FitsPass, FitsSight, come_to, finds, total_of, places}
use Rattle.work_tickets.specs.declared.rule.Line.{Line}
use Rattle.work_tickets.specs.declared.rule.Sight.{Sight}
use Rattle.work_tickets.specs.declared.rule.PassView.{PassView}
use Rattle.work_tickets.proofs.Beginnings.{prefix_whole, rest_same}
use Rattle.work_tickets.proofs.Totals.{at_all, total_only}
use Rattle.work_tickets.proofs.Counting.{each_once, one_knows, only}

no_sights : (f : Sight → ℕ) (v : PassView) → length v.sights ≡ 0 → sum_by f v.sights ≡ 0
no_sights f v none_left = empty v.sights none_left
  where
    empty : (ss : List Sight) → length ss ≡ 0 → sum_by f ss ≡ 0
    empty [] e = refl
    empty (s ∷ ss) e = absurd (omega arith)

module _ (queued : List ℕ) (views : List PassView) (o : Orderly queued views) (port : ℕ) (v : PassView) (at : get_elem? views port ≡ some v)
    (all : length v.sights ≡ o.seats) (some_seat : 0 < length v.sights) where
  abbrev line : Line
  line = line_of o.popped queued

  its : All (FitsSight o.seats line) v.sights
  its = (at_all (FitsPass o.seats line) views port v o.fits at).sights

  -- no other pass has a seat
  its_own : (list_of : Sight → List ℕ) (sort : ℕ → Bool) → total_of list_of sort views ≡ sum_by (λ s. count_by sort (list_of s)) v.sights
  its_own list_of sort =
      let count : Sight → ℕ = λ s. count_by sort (list_of s) in
      total_only (λ u. length u.sights) (λ u. sum_by count u.sights) (no_sights count) views port v at (omega (arith, all, o.parts))

  pushes_own : (sort : ℕ → Bool) → sum_by (λ s. count_by sort s.pushes) v.sights ≡ count_by sort (places (length (pushed line)))
  pushes_own sort = sym (its_own (λ s. s.pushes) sort) ∙ o.pushes sort

  pops_own : (sort : ℕ → Bool) → sum_by (λ s. count_by sort s.pops) v.sights ≡ count_by sort (places (length o.popped))
  pops_own sort = sym (its_own (λ s. s.pops) sort) ∙ o.pops sort

  last_push : Any (λ s. pushed s.line ≡ pushed line) v.sights
  last_push =
      let who = one_knows (λ s. s.pushes) (λ s. length (pushed s.line)) (length (pushed line)) v.sights some_seat (λ k d h. (its k d h).pushes) pushes_own in
      let on : GoesOn who.1.line line = subst (λ (s : Sight). GoesOn s.line line) who.3 (its who.0 who.1 who.2).goes_on in
      (who.0, who.1, who.2, who.3, prefix_whole (pushed who.1.line) (pushed line) on.pushed who.4)

  last_pop : Any (λ s. s.line.popped ≡ o.popped) v.sights
  last_pop =
      let who = one_knows (λ s. s.pops) (λ s. length s.line.popped) (length o.popped) v.sights some_seat (λ k d h. (its k d h).pops) pops_own in
      let on : GoesOn who.1.line line = subst (λ (s : Sight). GoesOn s.line line) who.3 (its who.0 who.1 who.2).goes_on in
      (who.0, who.1, who.2, who.3, prefix_whole who.1.line.popped o.popped on.popped who.4)

  pub together : ComeTo v.sights
  together = record {
    line = line;
    goes_on = λ k d h. (its k d h).goes_on;
    last_push = last_push;
    last_pop = last_pop;
    pushes = each_once (length (pushed line)) (λ s. s.pushes) v.sights pushes_own;
    pops = each_once (length o.popped) (λ s. s.pops) v.sights pops_own;
  }

-- a line with the same pops and pushes is the same
same_line : (a b : Line) → a.popped ≡ b.popped → pushed a ≡ pushed b → a ≡ b
same_line a b popped_same pushed_same =
    let queued_same = rest_same a.popped a.queued b.queued (pushed_same ∙ ap (λ l. l ++ b.queued) (sym popped_same)) in
    λ i. line_of (popped_same i) (queued_same i)

-- what the one seat of a pass finds
pub found : (queued : List ℕ) (views : List PassView) (o : Orderly queued views) (port : ℕ) (s : Sight) → get_elem? views port ≡ some (one s)
    → Finds s (line_of o.popped queued)
found queued views o port s at =
    let fits = at_all (FitsPass o.seats (line_of o.popped queued)) views port (one s) o.fits at in
    let mine : FitsSight o.seats (line_of o.popped queued) s = fits.sights 0 s (omega arith) in record {
      goes_on = mine.goes_on;
      alone = λ lone.
          let all : 1 ≡ o.seats = sym lone ∙ mine.knows in
          let push = only (λ t. pushed t.line ≡ o.popped ++ queued) s (last_push queued views o port (one s) at all (omega arith)) in
          let pop = only (λ t. t.line.popped ≡ o.popped) s (last_pop queued views o port (one s) at all (omega arith)) in
          same_line (line_of o.popped queued) s.line (sym pop) (sym push);
    }

pub learns_line : (port : ℕ) (v : PassView) → v ≡ one (sight_of v) → Learns Orderly port v (finds v)
learns_line port v lone queued views o at = (o.popped, found queued views o port (sight_of v) (at ∙ ap some lone))

-- a pass that has as many sights as the first of them says there are seats
pub learns_end : (port : ℕ) (v : PassView) (s : Sight) (ss : List Sight) → v ≡ all_of (s ∷ ss) → length (s ∷ ss) ≡ s.seats
    → Learns Orderly port v (come_to v)
learns_end port v s ss is all = subst (λ (u : PassView). Learns Orderly port u (come_to u)) (sym is) (λ queued views o at.
    let fits = at_all (FitsPass o.seats (line_of o.popped queued)) views port (all_of (s ∷ ss)) o.fits at in
    let its : FitsSight o.seats (line_of o.popped queued) s = fits.sights 0 s (omega arith) in
    together queued views o port (all_of (s ∷ ss)) at (all ∙ its.knows) (omega arith))
