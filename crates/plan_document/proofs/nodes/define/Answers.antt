use Rattle.std.proofs.Common.{string_bytes}
use Rattle.toml.proofs.Turns.{at_key_err, at_key_new, at_key_ok, decodes_err}
use Rattle.plan_document.specs.Reading.{definition_view}
use Rattle.plan_document.proofs.Slots.{slot_found, slot_missing, slot_written}
use Rattle.plan_document.proofs.nodes.define.Goals as goal

pub returns-in_err-place-in-Some : goal.returns-in_err-place-in-Some
returns-in_err-place-in-Some c =
    let looked = rw c.as_str.ensures.value at c.get_mut.ensures.value in
    let there = slot_found (string_bytes c.args.key) c.args.nodes.now c.get_mut.result c.in-Some.place c.in-Some.is looked in
    decodes_err _ c.from_residual.result _ c.in_err-place-in-Some.field-0.0 _ c.from_residual.ensures.1 (λ e same. same) λ why.
    at_key_err _ (definition_view c.args.what) _ _ there (rw c.take-old.ensures at (c.in_err-place-in-Some.ensures why))

pub returns-in-None : goal.returns-in-None
returns-in-None c =
    let looked = rw c.as_str.ensures.value at c.get_mut.ensures.value in
    let missing = slot_missing (string_bytes c.args.key) c.args.nodes.now c.get_mut.result c.in-None.is looked in
    rw (at_key_new _ (definition_view c.args.what) _ missing) (rw (c.first_node.ensures, c.get_mut.follows.holds-at-none) at c.insert.ensures)

pub returns-in_ok-place-in-Some : goal.returns-in_ok-place-in-Some
returns-in_ok-place-in-Some c =
    let looked = rw c.as_str.ensures.value at c.get_mut.ensures.value in
    let there = slot_found (string_bytes c.args.key) c.args.nodes.now c.get_mut.result c.in-Some.place c.in-Some.is looked in
    let new = c.in_ok-place-in-Some.field-0 in
    let after = slot_written (string_bytes c.args.key) c.args.nodes.now (c.get_mut.follows.lender new) new (rw c.as_str.ensures.value at (c.get_mut.follows.holds new).0) in
    at_key_ok _ (definition_view c.args.what) _ _ _ _ there (rw c.take-old.ensures at c.in_ok-place-in-Some.ensures) after
