-- From the workers, each with its pass and its desk, to the passes and the desks.
use Rattle.std.proofs.Common.{◌≡◌, ℕ, ◌<◌, Bool, true, List, length, get_or, map, sym, ap, ◌∙◌, arith}
use Rattle.std.specs.List.{All}
use Rattle.std.proofs.lemmas.List.{get_or-map, length-map}
use Rattle.coordination.specs.Passes.{PassView}
use Rattle.build_workers.specs.Site.{SiteView}
use Rattle.build_workers.specs.Desks.{DeskView}
use Rattle.build_runner.specs.Worked.{TookPart}
use Rattle.build_workers.specs.Worked.{HasWorked}
use Rattle.build_workers.specs.WorkerView.{WorkerView}
use Rattle.coordination.proofs.lemmas.Numbered.{element}
use Rattle.build_workers.proofs.lemmas.Weaker.{proceeds_weaker}

took_part : {s : SiteView} {old new : WorkerView} → HasWorked s old new → TookPart s old.desk new.desk old.pass new.pass new.ended
took_part worked = record { at = worked.step.of.at; step = worked.step.proceeds; finished = worked.finished }

part_weaker : {s : SiteView} {a b : DeskView} {old new : PassView} {more less : Bool} → (less ≡ true → more ≡ true) → TookPart s a b old new more → TookPart s a b old new less
part_weaker weaker k = record { at = k.at; step = proceeds_weaker weaker k.step; finished = λ is. k.finished (weaker is) }

-- Each worker had a pass and a desk, and they are in their places again.
module _ {D : Type 0} (view : D → DeskView) (old new : List WorkerView) (long : length new ≡ length old) (mine desks : List D) (passes left : List PassView)
    (mine_are : map (λ w. w.desk) old ≡ map view mine) (desks_are : map view desks ≡ map (λ w. w.desk) new)
    (passes_are : map (λ w. w.pass) old ≡ passes) (left_are : left ≡ map (λ w. w.pass) new) where
  count : length old ≡ length mine
  count = sym (length-map old (λ (w : WorkerView). w.desk)) ∙ (ap (λ (l : List DeskView). length l) mine_are ∙ length-map mine view)

  pub long_again : length desks ≡ length new
  long_again = sym (length-map desks view) ∙ (ap (λ (l : List DeskView). length l) desks_are ∙ length-map new (λ (w : WorkerView). w.desk))

  -- what each did, said of the desks and the passes
  pub each_worked : (s : SiteView) (r : Bool) → (r ≡ true → All (λ w. w.ended ≡ true) new) → ((i : ℕ) (w : WorkerView) → i < length old → HasWorked s (get_or old i w) (get_or new i w))
      → (i : ℕ) (p : PassView) (d : D) → i < length mine → TookPart s (view (get_or mine i d)) (view (get_or desks i d)) (get_or passes i p) (get_or left i p) r
  each_worked s r all each i p d low =
      let l : i < length old = omega (arith, count, low) in
      let m : i < length new = omega (arith, long, l) in
      let n : i < length desks = omega (arith, long_again, m) in
      let w : WorkerView = element old i l in
      let was : view (get_or mine i d) ≡ (get_or old i w).desk =
      sym (get_or-map view mine i d (view d) low) ∙ (ap (λ (ds : List DeskView). get_or ds i (view d)) (sym mine_are) ∙ get_or-map (λ (v : WorkerView). v.desk) old i w (view d) l) in
      let now : view (get_or desks i d) ≡ (get_or new i w).desk =
      sym (get_or-map view desks i d (view d) n) ∙ (ap (λ (ds : List DeskView). get_or ds i (view d)) desks_are ∙ get_or-map (λ (v : WorkerView). v.desk) new i w (view d) m) in
      let before : get_or passes i p ≡ (get_or old i w).pass = ap (λ (ps : List PassView). get_or ps i p) (sym passes_are) ∙ get_or-map (λ (v : WorkerView). v.pass) old i w p l in
      let after : get_or left i p ≡ (get_or new i w).pass = ap (λ (ps : List PassView). get_or ps i p) left_are ∙ get_or-map (λ (v : WorkerView). v.pass) new i w p m in
      rw (was, now, before, after) (part_weaker (λ is. all is i w m) (took_part (each i w l)))
