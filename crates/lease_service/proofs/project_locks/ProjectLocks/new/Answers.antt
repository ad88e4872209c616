use Rattle.std.proofs.Common.{◌<◌, ◌^◌, length, string_bytes, sym, ap, ◌∙◌, subst, ℕ}
use Rattle.std.proofs.lemmas.List.{length-map, take_all}
use Rattle.lease_service.proofs.Names.{inserted}
use Rattle.lease_service.proofs.project_locks.ProjectLocks.new.Goals as goal

pub loop-project-preserved : goal.loop-project-preserved
loop-project-preserved c =
    inserted c.args.projects.now c.loop-project.names.keys c.insert.new.self.keys c.loop-project.project-index c.project-item.result c.in_ok-from_str.field-0 c.loop-project-test.true c.requires.distinct c.loop-project.invariant (c.in_ok-from_str.ensures.ok ∙ (c.as_str.ensures ∙ c.project-item.is)) c.in_ok-insert.ensures.keys

pub invariant_of-result : goal.invariant_of-result
invariant_of-result c =
    let all = c.loop-project.invariant ∙ take_all _ _ c.loop-project-test.false in
    subst (λ (n : ℕ). n < 2 ^ 32) (sym (ap length all) ∙ length-map c.loop-project.names.keys string_bytes) c.requires.few

pub returns-clause-projects : goal.returns-clause-projects
returns-clause-projects c = c.loop-project.invariant ∙ take_all _ _ c.loop-project-test.false
