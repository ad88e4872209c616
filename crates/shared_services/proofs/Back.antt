-- The passes that a run's workers give back.
use Rattle.std.proofs.Common.{◌≡◌, ◌<◌, ℕ, List, length, get_or, map, Option, sym, ◌∙◌, arith}
use Rattle.std.specs.List.{All}
use Rattle.item_actions.specs.Files.{Folder}
use Rattle.coordination.specs.Names.{CoordinationView, PassView, workers_from}
use Rattle.coordination.proofs.lemmas.Numbered.{element, same_numbers}
use Rattle.shared_services.specs.Team.{HasComeBack}

module _ {D : Type 0} (files : D → Option Folder) (faults : D → ℕ) (n : ℕ) (old new : List PassView) (before after : List D)
    (opened : length old ≡ n) (left : length new ≡ n) (desks : length before ≡ n)
    (back : (i : ℕ) (p : PassView) (d : D) → i < n → HasComeBack files faults (get_or old i p) (get_or new i p) (get_or before i d) (get_or after i d)) where
  pub left_service : (c : CoordinationView) → All (λ (p : PassView). p.service ≡ c.service) old → All (λ (p : PassView). p.service ≡ c.service) new
  left_service c all = λ i p low. let l : i < n = omega (arith, left, low) in (back i p (element before i (omega (arith, desks, l))) l).service ∙ all i p (omega (arith, opened, l))

  pub left_numbers : map (λ (p : PassView). p.sight.worker.0) old ≡ workers_from 0 n → map (λ (p : PassView). p.sight.worker.0) new ≡ workers_from 0 n
  left_numbers are =
      same_numbers old new (left ∙ sym opened) (λ i p low. let l : i < n = omega (arith, opened, low) in (back i p (element before i (omega (arith, desks, l))) l).worker) ∙ are
