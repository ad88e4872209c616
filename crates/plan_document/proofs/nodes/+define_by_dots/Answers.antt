use Rattle.std.proofs.Common.{◌≡◌, string_bytes, refl, arith}
use Rattle.std.proofs.lemmas.Grind.{common_steps}
use Rattle.toml.proofs.Turns.{decodes_err, path_view-front, path_view-none, along_dots_err, along_dots_new, along_dots_new_err, along_dots_ok}
use Rattle.toml.specs.Tables.{along_dots, at_key}
use Rattle.plan_document.specs.Reading.{definition_view, nodes_view}
use Rattle.plan_document.specs.declared.nodes.Origin.TheVariants.{Dotted}
use Rattle.plan_document.proofs.Slots.{slot_found, slot_missing, slot_written}
use Rattle.plan_document.proofs.Views.{node_view-Table}
use Rattle.plan_document.proofs.nodes.+define_by_dots.Goals as goal

pub define_by_dots-returns-in_default : goal.define_by_dots-returns-in_default
unfolding along_dots
define_by_dots-returns-in_default t c = rw (path_view-none c.args.dots.now c.in_default.len_below) c.define.ensures

pub define_by_dots-returns-in_err-define_by_dots-in-None :
    goal.define_by_dots-returns-in_err-define_by_dots-in-None
define_by_dots-returns-in_err-define_by_dots-in-None t c =
    let path = path_view-front c.args.dots.now c.part-item.result _ c.in-len1-up.len_at_least c.part-item.is in
    let looked = rw c.as_str.ensures.value at c.get_mut.ensures.value in
    let missing = slot_missing (string_bytes c.part-item.result) c.args.nodes.now c.get_mut.result c.in-None.is looked in
    decodes_err _ c.from_residual.result _ c.in_err-define_by_dots-in-None.field-0.0 _ c.from_residual.ensures.1 (λ e same. same) λ why.
    rw path (along_dots_new_err _ _ (at_key (string_bytes c.args.key) (definition_view c.args.what)) _ missing (rw c.new-fresh.ensures.empty at (c.in_err-define_by_dots-in-None.ensures why)))

pub define_by_dots-returns-in_err-place-in-Some : goal.define_by_dots-returns-in_err-place-in-Some
define_by_dots-returns-in_err-place-in-Some t c =
    let path = path_view-front c.args.dots.now c.part-item.result _ c.in-len1-up.len_at_least c.part-item.is in
    let looked = rw c.as_str.ensures.value at c.get_mut.ensures.value in
    let there = slot_found (string_bytes c.part-item.result) c.args.nodes.now c.get_mut.result c.in-Some.place c.in-Some.is looked in
    decodes_err _ c.from_residual-in_err-place-in-Some.result _ c.in_err-place-in-Some.field-0.0 _ c.from_residual-in_err-place-in-Some.ensures.1 (λ e same. same) λ why.
    rw path (along_dots_err _ _ (at_key (string_bytes c.args.key) (definition_view c.args.what)) _ _ there (rw c.take-old.ensures at (c.in_err-place-in-Some.ensures why)))

pub define_by_dots-returns-in_ok-clone-in-None : goal.define_by_dots-returns-in_ok-clone-in-None
define_by_dots-returns-in_ok-clone-in-None t c =
    let path = path_view-front c.args.dots.now c.part-item.result _ c.in-len1-up.len_at_least c.part-item.is in
    let looked = rw c.as_str.ensures.value at c.get_mut.ensures.value in
    let missing = slot_missing (string_bytes c.part-item.result) c.args.nodes.now c.get_mut.result c.in-None.is looked in
    let copied : string_bytes c.in_ok-clone-in-None.field-0 ≡ string_bytes c.part-item.result = grind (arith, common_steps) in
    let new = along_dots_new (string_bytes c.part-item.result) _ (at_key (string_bytes c.args.key) (definition_view c.args.what)) (nodes_view c.args.nodes.now) _ _ missing (rw c.new-fresh.ensures.empty at c.in_ok-define_by_dots-in-None.ensures) refl in
    rw (path, new) (rw (copied, node_view-Table Dotted c.define_by_dots.new.nodes, c.get_mut.follows.holds-at-none) at c.insert.ensures)

pub define_by_dots-returns-in_ok-place-in-Some : goal.define_by_dots-returns-in_ok-place-in-Some
define_by_dots-returns-in_ok-place-in-Some t c =
    let path = path_view-front c.args.dots.now c.part-item.result _ c.in-len1-up.len_at_least c.part-item.is in
    let looked = rw c.as_str.ensures.value at c.get_mut.ensures.value in
    let there = slot_found (string_bytes c.part-item.result) c.args.nodes.now c.get_mut.result c.in-Some.place c.in-Some.is looked in
    let new = c.in_ok-place-in-Some.field-0 in
    let after = slot_written (string_bytes c.part-item.result) c.args.nodes.now (c.get_mut.follows.lender new) new (rw c.as_str.ensures.value at (c.get_mut.follows.holds new).0) in
    rw path (along_dots_ok _ _ (at_key (string_bytes c.args.key) (definition_view c.args.what)) _ _ _ _ there (rw c.take-old.ensures at c.in_ok-place-in-Some.ensures) after)
