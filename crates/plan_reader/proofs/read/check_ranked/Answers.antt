use Rattle.std.proofs.Common.{◌≡◌, length, ap, sym, subst, ◌∙◌, arith, None}
use Rattle.std.proofs.lemmas.List.{length-map}
use Rattle.ready_work.specs.Rank.{InRange, IsFirstCycle}
use Rattle.plan_document.specs.View.{view}
use Rattle.plan_table.specs.declared.refusals.Part.TheVariants.{Task}
use Rattle.plan_table.specs.Keys.{tasks_of}
use Rattle.plan_reader.specs.Names.{names_in, dependency_numbers}
use Rattle.plan_reader.specs.Reading.{AnswersRanks}
use Rattle.plan_reader.proofs.Answering.{in_range, cycle_refused, refused_behind, accepted, passed_on}
use Rattle.plan_reader.proofs.PlaceNumbers.{few_places}
use Rattle.plan_reader.proofs.read.check_ranked.Goals as goal

pub check_ranks-requires-clause-in_range : goal.check_ranks-requires-clause-in_range
check_ranks-requires-clause-in_range c = subst InRange (sym c.requires.dependencies) (in_range (view c.args.document.now))

pub check_ranks-requires-clause-numbered : goal.check_ranks-requires-clause-numbered
check_ranks-requires-clause-numbered c =
    let d = view c.args.document.now in
    let rows = c.args.dependencies.now in
    let long : length rows ≡ length (tasks_of d) = sym (length-map rows (λ v. v.items)) ∙ ap length c.requires.dependencies ∙ length-map (tasks_of d) (dependency_numbers (names_in d).tasks) in
    omega (arith, long, few_places d Task c.requires.numbered)

pub returns-in_err-check_ranks-clause-err : goal.returns-in_err-check_ranks-clause-err
returns-in_err-check_ranks-clause-err c =
    passed_on (AnswersRanks (view c.args.document.now)) _ _ c.from_residual.ensures.1
    (cycle_refused (view c.args.document.now) _ _ c.requires.dependencies c.in_err-check_ranks.ensures.err)

pub returns-clause-accepted : goal.returns-clause-accepted
returns-clause-accepted c =
    let ranked = subst (λ g. IsFirstCycle g None) c.requires.dependencies c.in_ok-check_ranks.ensures.ok in
    accepted (view c.args.document.now) _ c.requires.before ranked c.check_behind.ensures.ok

pub returns-clause-err : goal.returns-clause-err
returns-clause-err c =
    let ranked = subst (λ g. IsFirstCycle g None) c.requires.dependencies c.in_ok-check_ranks.ensures.ok in
    refused_behind (view c.args.document.now) _ ranked c.check_behind.ensures.err
