use Rattle.std.proofs.Common.{refl, ap, sym, ◌∙◌, Some}
use Rattle.plan_document.specs.View.{view}
use Rattle.plan_document.specs.declared.values.Value.{Value}
use Rattle.plan_table.proofs.TakenOut.{found, none_found, others_stay}
use Rattle.plan_table.proofs.taking.take_member.Goals as goal

pub returns-in-Some-clause-value : goal.returns-in-Some-clause-value
returns-in-Some-clause-value c =
    ap (λ (v : Value). Some (view v)) c.replace.ensures.value ∙ found c.args.key.now c.args.members.now c.in-Some.place c.index_mut-entry.result.now (rw c.as_slice.ensures.value at (sym c.in-Some.ensures.place)) c.index_mut-entry.ensures.value

pub returns-in-Some-clause-others : goal.returns-in-Some-clause-others
returns-in-Some-clause-others c =
    others_stay c.args.key.now c.args.members.now _ c.in-Some.place c.index_mut-entry.result.now c.replace.new.dest (rw c.as_slice.ensures.value at (sym c.in-Some.ensures.place)) c.index_mut-entry.ensures.value refl

pub returns-in-None-clause-value : goal.returns-in-None-clause-value
returns-in-None-clause-value c = none_found c.args.key.now c.args.members.now (rw c.as_slice.ensures.value at (sym c.in-None.ensures.place))
