-- Why a service over a plan isn't opened, and why it isn't ended.
use Rattle.std.specs.Prelude.{ℕ, ◌≡◌, ◌<◌, Bool, true, false, not, List, length, map, ⊤}
use Rattle.std.specs.List.{All, list_any}
use Rattle.resource_lock.specs.Fits.{Fits}
use Rattle.coordination.specs.Sights.{workers_from}
use Rattle.planned_work.specs.Graphs.{WhyNoGraph, graph_of_plan}
use Rattle.planned_work.specs.declared.opening.OpenRefusal.TheVariants as opened
use Rattle.wakhurmi_c.specs.declared.plan_answers.PlanAnswer.{PlanAnswer}
use Rattle.wakhurmi_c.specs.declared.plan_answers.PlanAnswer.TheVariants.{BadNumber, Cycle, Empty, Full, NoMemory}
use Rattle.wakhurmi_c.specs.declared.plan_handles.PlanHandle.{PlanHandle}
use Rattle.wakhurmi_c.specs.declared.planned_handles.PlannedHandle.{PlannedHandle}

-- no graph of these numbers fits, or a task has no rank, or a handle isn't as it has to be
abbrev pub WhyUnopened : PlanHandle → List PlannedHandle → ℕ → PlanAnswer → Type 0
WhyUnopened plan handles max_leases Empty = plan.full ≡ false
WhyUnopened plan handles max_leases Full = list_any (λ h. h.full) handles ≡ true
WhyUnopened plan handles max_leases BadNumber = Fits (graph_of_plan plan.held.plan (length handles) max_leases) → ⊥
WhyUnopened plan handles max_leases Cycle = WhyNoGraph plan.held.plan (length handles) max_leases opened.Cycle
WhyUnopened plan handles max_leases NoMemory = ⊤
WhyUnopened plan handles max_leases _ = ⊥

-- As many handles as their service has workers, in order.
pub record AreWhole (handles : List PlannedHandle) : Type 0 where
  pub some : 0 < length handles
  pub numbers : map (λ h. h.held.worker.pass.sight.worker.0) handles ≡ workers_from 0 (length handles)
  pub workers : All (λ h. h.held.worker.workers ≡ length handles) handles

-- Why a service isn't ended by these handles, with a book's handle that is full or empty.
abbrev pub WhyUnfinished : List PlannedHandle → Bool → PlanAnswer → Type 0
WhyUnfinished handles full Full = full ≡ true
WhyUnfinished handles full Empty = list_any (λ h. not h.full) handles ≡ true
WhyUnfinished handles full BadNumber = AreWhole handles → ⊥
WhyUnfinished handles full NoMemory = ⊤
WhyUnfinished handles full _ = ⊥
