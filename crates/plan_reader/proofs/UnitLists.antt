-- The units of parts, one part after the other.
use Rattle.std.proofs.Common.{◌≡◌, ℕ, ◌≤◌, List, [], ◌∷◌, ◌++◌, length, map, take, Option, refl, sym, ap, ◌∙◌}
use Rattle.std.specs.List.{flat_map}
use Rattle.std.proofs.lemmas.List.{append_assoc, take_all}
use Rattle.std.proofs.lemmas.List.Folds.{flat_map-map}
use Rattle.daemon_requirements.specs.declared.work.Work.{Work}
use Rattle.plan_reader.specs.PlanView.{work_view}
use Rattle.plan_reader.specs.Units.{PlannedUnit, fetch_units, item_unit}

-- all parts were gone through
pub all_parts : {X Y A : Type 0} (f : Y → List A) (v : X → Y) (xs : List X) (ys : List Y) (i : ℕ) → length xs ≤ i → map v xs ≡ ys → flat_map (λ x. f (v x)) (take i xs) ≡ flat_map f ys
all_parts f v xs ys i past is = ap (flat_map (λ x. f (v x))) (take_all i xs past) ∙ (sym (flat_map-map f v xs) ∙ ap (flat_map f) is)

planned : (works : List Work) → map (λ w. item_unit (work_view w)) works ≡ map item_unit (map work_view works)
planned [] = refl
planned (w ∷ works) = ap (λ us. item_unit (work_view w) ∷ us) (planned works)

-- the items stand behind the fetch
pub behind_fetch : (before after : List PlannedUnit) (f : Option (List ℕ)) (works seen : List Work) → after ≡ before ++ fetch_units f → seen ≡ works
    → after ++ map (λ w. item_unit (work_view w)) seen ≡ before ++ (fetch_units f ++ map item_unit (map work_view works))
behind_fetch before after f works seen grown is =
    rw (grown, is) (append_assoc before (fetch_units f) (map (λ w. item_unit (work_view w)) works) ∙ ap (λ us. before ++ (fetch_units f ++ us)) (planned works))
