-- What a run's workers did, said of all desks and of the plan.
use Rattle.std.proofs.Common.{◌≡◌, ℕ, ◌<◌, ◌≤◌, Bool, true, List, [], ◌++◌, ◌+◌, length, get_or, map, take, drop, sym, ap, ◌∙◌, arith, subst, length-append, length-drop}
use Rattle.std.specs.List.{All}
use Rattle.std.specs.Prelude.{sum_by}
use Rattle.std.proofs.lemmas.List.{drop_at, get_or-take, length-take-le}
use Rattle.daemon_manager.specs.Counts.{TalliesView}
use Rattle.coordination.specs.Names.{PassView, workers_from}
use Rattle.build_runner.specs.Books.{AreBack, Leaves}
use Rattle.build_workers.specs.RunDesks.{AreAlike, desks_view, known_by}
use Rattle.build_workers.specs.Desks.{DeskView}
use Rattle.build_workers.specs.Site.{SiteView}
use Rattle.build_runner.specs.Worked.{HasComeToTheEnd, TookPart, WasThere}
use Rattle.build_runner.proofs.AtTheEnd.{come_as, comes_to_the_end, was_there}
use Rattle.build_workers.proofs.lemmas.KnownFiles.{known_or_none}
use Rattle.coordination.proofs.lemmas.Numbered.{element, same_numbers}
use Rattle.build_runner.proofs.Places.{place_within, rise, stay}
use Rattle.build_runner.proofs.Tallied.{with_the_rest}

-- The first n desks of the old ones worked, and each pass of one of them came of one that was opened.
module _ {D : Type 0} (view : D → DeskView) (s : SiteView) (n : ℕ) (ended : Bool) (old mine worked : List D) (passes left : List PassView)
    (enough : n ≤ length old) (mine_are : mine ≡ take n old) (opened : length passes ≡ n) (long : length worked ≡ n) (left_long : length left ≡ n)
    (each : (i : ℕ) (p : PassView) (d : D) → i < n → TookPart s (view (get_or mine i d)) (view (get_or worked i d)) (get_or passes i p) (get_or left i p) ended) where
  within : (i : ℕ) → i < n → i < length mine
  within i low = let e = ap (λ (l : List D). length l) mine_are ∙ length-take-le n old enough in omega (arith, e, low)

  pub left_service : All (λ (p : PassView). p.service ≡ s.service.service) left
  left_service = λ i p low. let l : i < n = omega (arith, left_long, low) in (each i p (element mine i (within i l)) l).at.service

  pub left_numbers : map (λ (p : PassView). p.sight.worker.0) passes ≡ workers_from 0 n → map (λ (p : PassView). p.sight.worker.0) left ≡ workers_from 0 n
  left_numbers are =
      same_numbers passes left (left_long ∙ sym opened) (λ i p low. let l : i < n = omega (arith, opened, low) in (each i p (element mine i (within i l)) l).step.keeps.worker) ∙ are

  module _ (new : List D) (is : new ≡ worked ++ drop n old) where
    all_files : (i : ℕ) (d : D) → (view (get_or new i d)).files ≡ (view (get_or old i d)).files
    all_files = stay old worked new n long is (λ d. (view d).files) (λ i d low. (each i (element passes i (omega (arith, opened, low))) d low).step.files ∙ ap (λ (l : List D). (view (get_or l i d)).files) mine_are)

    all_counts : (i : ℕ) (d : D) → (view (get_or old i d)).faults ≤ (view (get_or new i d)).faults
    all_counts = rise old worked new n long is (λ d. (view d).faults) (λ i d low. let e = ap (λ (l : List D). (view (get_or l i d)).faults) mine_are in let k = (each i (element passes i (omega (arith, opened, low))) d low).step.keeps.count in omega (arith, e, k))

    pub all_back : AreBack view n old new
    all_back = record {
      places = let e = ap (λ (l : List D). length l) is in omega (arith, e, length-append worked (drop n old), length-drop n old, long, enough);
      files = all_files;
      counts = all_counts;
      rest = ap (λ (l : List D). drop n l) is ∙ drop_at worked (drop n old) n long;
    }

    -- what they reserved, with those that didn't work
    pub all_leave : (before after : TalliesView) → after.parts ≡ before.parts
        → sum_by (λ (d : D). (view d).sent.count) worked + before.reserved ≤ sum_by (λ (d : D). (view d).sent.count) mine + after.reserved → Leaves view n old new before after
    all_leave before after parts reserved = record {
      back = all_back;
      parts = parts;
      reserved =
          let firsts : sum_by (λ (d : D). (view d).sent.count) mine ≡ sum_by (λ (d : D). (view d).sent.count) (take n old) = ap (λ (l : List D). sum_by (λ (d : D). (view d).sent.count) l) mine_are in
          with_the_rest (λ (d : D). (view d).sent.count) n old worked new is before.reserved after.reserved (omega (arith, firsts, reserved));
    }

    -- a worker whose pass had seen no entry, and what is known of its desk
    module _ (none : All (λ (p : PassView). p.sight.seen.history ≡ []) passes) where
      begun : (i : ℕ) (p : PassView) → i < n → (get_or passes i p).sight.seen.history ≡ []
      begun i p low = none i p (omega (arith, opened, low))

      was : (i : ℕ) (d : D) → i < n → view (get_or mine i d) ≡ view (get_or old i d)
      was i d low = ap (λ (l : List D). view (get_or l i d)) mine_are ∙ ap view (get_or-take n old i d low)

      now : (i : ℕ) (d : D) → i < n → view (get_or worked i d) ≡ view (get_or new i d)
      now i d low = ap view (sym (place_within old worked new n long is i d low))

      pub all_come : (d : D) → AreAlike n (desks_view view old d) → ended ≡ true
          → (i : ℕ) (p : PassView) → i < n → HasComeToTheEnd (known_by n (desks_view view old d)) s.units (view (get_or old i d)) (view (get_or new i d)) (get_or left i p)
      all_come d alike at_end i p low =
          come_as (known_or_none n (desks_view view old d) alike i low)
          (subst (λ (v : DeskView). HasComeToTheEnd v.files s.units v (view (get_or new i d)) (get_or left i p)) (was i d low)
          (subst (λ (v : DeskView). HasComeToTheEnd (view (get_or mine i d)).files s.units (view (get_or mine i d)) v (get_or left i p)) (now i d low)
          (comes_to_the_end (each i p d low) at_end (begun i p low))))

      pub all_were_there : (d : D) (i : ℕ) (p : PassView) → i < n → WasThere s.units (view (get_or old i d)) (view (get_or new i d)) (get_or left i p)
      all_were_there d i p low =
          subst (λ (v : DeskView). WasThere s.units v (view (get_or new i d)) (get_or left i p)) (was i d low)
          (subst (λ (v : DeskView). WasThere s.units (view (get_or mine i d)) v (get_or left i p)) (now i d low)
          (was_there (each i p d low) (begun i p low)))
