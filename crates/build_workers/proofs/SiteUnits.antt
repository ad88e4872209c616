-- The units of a site, found by their numbers.
use Rattle.std.proofs.Common.{◌≡◌, ℕ, ◌<◌, List, length, get_or, map, None, Some, refl, sym, ◌∙◌, ap, subst, arith}
use Rattle.std.specs.Prelude.{Option, option_and_then, slice_get}
use Rattle.std.specs.List.{All}
use Rattle.std.proofs.lemmas.List.{get_or-map, length-map}
use Rattle.std.proofs.lemmas.Option.{get_or_from_slice_get, slice_get_within}
use Rattle.daemon_requirements.specs.RequirementsView.{RequirementsView}
use Rattle.daemon_requirements.specs.declared.work.Isolation.{Isolation}
use Rattle.daemon_requirements.specs.declared.work.Isolation.TheVariants.{InThread, Process}
use Rattle.daemon_requirements.specs.declared.work.Work.{Work}
use Rattle.item_work.specs.Sends.{MayAskFor}
use Rattle.plan_reader.specs.PlanView.{WorkView, process_of, work_view}
use Rattle.plan_reader.specs.Units.{PlannedUnit, fetch_unit, item_unit, unit_view}
use Rattle.build_workers.specs.Units.{AllMayAsk, HasFileName}
use Rattle.plan_reader.specs.declared.units.UnitWork.{UnitWork}
use Rattle.build_workers.proofs.Keeping.{some_or_none}

module _ (us : List UnitWork) (u : ℕ) (planned : PlannedUnit) (is : slice_get (map unit_view us) u ≡ Some planned) where
  pub unit_within : u < length us
  unit_within = omega (arith, slice_get_within (map unit_view us) u planned is, length-map us unit_view)

  pub unit_is : (d : UnitWork) → unit_view (get_or us u d) ≡ planned
  unit_is d = sym (get_or-map unit_view us u d (unit_view d) unit_within) ∙ get_or_from_slice_get (map unit_view us) u planned (unit_view d) is

  pub unit_named : All HasFileName (map unit_view us) → HasFileName planned
  unit_named named = subst HasFileName (get_or_from_slice_get (map unit_view us) u planned planned is) (named u planned (slice_get_within (map unit_view us) u planned is))

-- a fetch is no item
pub is_no_item : {file : List ℕ} {w : WorkView} → fetch_unit file ≡ item_unit w → ⊥
is_no_item {w = w} is = some_or_none None w.action (sym (ap (λ (p : PlannedUnit). p.action) is)) refl

-- an item may ask for what it asks for, where all units may
pub may_ask : (units : List PlannedUnit) (asks : ℕ → RequirementsView → Type 0) → AllMayAsk asks units → (u : ℕ) (w : Work)
    → slice_get units u ≡ Some (item_unit (work_view w)) → MayAskFor (asks u) w.isolation
may_ask units asks may u w is = at w.isolation refl
  where
    at : (i : Isolation) → w.isolation ≡ i → MayAskFor (asks u) i
    at InThread here = tt
    at (Process asked) here = may u asked (ap (λ (o : Option PlannedUnit). option_and_then (λ (unit : PlannedUnit). unit.process) o) is ∙ ap process_of here)
