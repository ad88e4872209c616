-- Desks that a run left as they were.
use Rattle.std.proofs.Common.{◌≡◌, ◌≤◌, ℕ, List, drop, get_or, length, ap, refl, ◌∙◌, arith}
use Rattle.daemon_manager.specs.Counts.{TalliesView}
use Rattle.build_runner.specs.Books.{AreBack, Leaves}
use Rattle.build_workers.specs.Desks.{DeskView}
use Rattle.build_workers.proofs.lemmas.FirstDesk.{drop_more}

pub are_back : {D : Type 0} (view : D → DeskView) (n : ℕ) (desks : List D) → AreBack view n desks desks
are_back view n desks = record { places = refl; files = λ i d. refl; counts = λ i d. omega arith; rest = refl }

pub leaves_all : {D : Type 0} (view : D → DeskView) (n : ℕ) (desks : List D) (tallies : TalliesView) → Leaves view n desks desks tallies tallies
leaves_all view n desks tallies = record { back = are_back view n desks; parts = refl; reserved = omega arith }

-- the desks are back, and then the first of them asked nothing more of a daemon
pub back_again : {D : Type 0} (view : D → DeskView) (n : ℕ) (old worked new : List D) → 1 ≤ n → AreBack view n old worked → length new ≡ length worked
    → ((i : ℕ) (d : D) → view (get_or new i d) ≡ view (get_or worked i d)) → drop 1 new ≡ drop 1 worked → AreBack view n old new
back_again view n old worked new some back places same rest = record {
  places = places ∙ back.places;
  files = λ i d. ap (λ (v : DeskView). v.files) (same i d) ∙ back.files i d;
  counts = λ i d. let e = ap (λ (v : DeskView). v.faults) (same i d) in let k = back.counts i d in omega (arith, e, k);
  rest = drop_more n worked new some rest ∙ back.rest;
}
