use Rattle.std.proofs.Common.{option_map, ap, sym, ◌∙◌}
use Rattle.ready_work.specs.Rank.{lists_of}
use Rattle.plan_document.specs.View.{view}
use Rattle.plan_reader.proofs.Near.{dependencies_known, one_is_refused}
use Rattle.plan_reader.proofs.read.known_dependencies.Goals as goal

pub dependencies_of-requires : goal.dependencies_of-requires
dependencies_of-requires c = ap (λ names. names.tasks) c.requires.names

pub unreachable-requires : goal.unreachable-requires
unreachable-requires c =
    one_is_refused (view c.args.document.now) (sym (ap (option_map (λ rows. lists_of rows.items)) c.in-None.is) ∙ c.in_ok-dependencies.ensures) c.in_ok-check-in-None.ensures.ok

pub returns-clause-ok : goal.returns-clause-ok
returns-clause-ok c =
    (dependencies_known (view c.args.document.now) _ (sym (ap (option_map (λ rows. lists_of rows.items)) c.in-Some.is) ∙ c.in_ok-dependencies.ensures)).0
