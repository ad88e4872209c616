-- What was opened, as a run begins.
use Rattle.std.proofs.Common.{◌≡◌, ℕ, List, Option, length, map, ap, ◌∙◌}
use Rattle.resource_lock.specs.GraphView.{GraphView}
use Rattle.coordination.specs.Names.{CoordinationView, PassView, workers_from}
use Rattle.plan_reader.specs.PlanView.{PlanView}
use Rattle.plan_reader.specs.Units.{PlannedUnit}
use Rattle.build_runner.specs.Prepared.{IsOpenedOn, IsPrepared}
use Rattle.build_workers.specs.declared.kits.Kit.{Kit}
use Rattle.build_workers.specs.declared.options.RunOptions.{RunOptions}
use Rattle.build_runner.specs.declared.prepared.OpenedRun.{OpenedRun}

-- what was opened is so
abbrev pub IsBegun : {R : Type 0} → GraphView → OpenedRun R → Type 0
IsBegun g o = IsOpenedOn g o.service o.passes.items

-- as many passes as workers, with their numbers
pub pass_count : {plan : PlanView} {options : RunOptions} {g : GraphView} {us : List PlannedUnit} {c : CoordinationView} {ps : List PassView} {kits : List Kit} {looks : Option ℕ}
    → IsPrepared plan options g us c ps kits looks → (c : CoordinationView) (ps : List PassView) → IsOpenedOn g c ps → length ps ≡ options.workers
pass_count start c ps opened = opened.passes ∙ ap (λ (g : GraphView). g.workers) start.graph

pub pass_numbers : {plan : PlanView} {options : RunOptions} {g : GraphView} {us : List PlannedUnit} {c : CoordinationView} {ps : List PassView} {kits : List Kit} {looks : Option ℕ}
    → IsPrepared plan options g us c ps kits looks → (c : CoordinationView) (ps : List PassView) → IsOpenedOn g c ps → map (λ pass. pass.sight.worker.0) ps ≡ workers_from 0 options.workers
pass_numbers start c ps opened = opened.workers ∙ ap (λ (g : GraphView). workers_from 0 g.workers) start.graph
