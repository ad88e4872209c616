use Rattle.std.proofs.Common.{◌≡◌, ◌+◌, ◌∷◌, [], ◌++◌, append_assoc, append-nil, sym, ap, ◌∙◌, arith}
use Rattle.std.proofs.lemmas.Grind.{common_steps}
use Rattle.toml.proofs.Views.{node_size, nodes_size}
use Rattle.toml.specs.Tables.{close}
use Rattle.plan_document.specs.Reading.{entries_view, node_view, nodes_view}
use Rattle.plan_document.specs.View.{in_table}
use Rattle.plan_document.proofs.Views.{NodeEntry, close_each, items_view-push, one_more, node_size-among, node_view-Table, node_view-Tables, view-Table}
use Rattle.plan_document.proofs.nodes.+close.Goals as goal

pub close-close_node-requires : goal.close-close_node-requires
close-close_node-requires t c =
    let (done, all, rows) = c.nodes.invariant in
    let e : NodeEntry = (c.in-Some.key, c.in-Some.node) in
    let next : c.nodes.key-iterator ≡ e ∷ c.next.new.self = grind (arith, common_steps) in
    let whole = ap (λ es. nodes_size (entries_view es)) (all ∙ ap (λ es. done ++ es) next) in
    (omega (arith, c.decreases, whole, node_size-among done c.next.new.self e), tt)

pub close-nodes-preserved : goal.close-nodes-preserved
close-nodes-preserved t c =
    let (done, all, rows) = c.nodes.invariant in
    let e : NodeEntry = (c.in-Some.key, c.in-Some.node) in
    let next : c.nodes.key-iterator ≡ e ∷ c.next.new.self = grind (arith, common_steps) in (
      done ++ e ∷ [],
      all ∙ ap (λ es. done ++ es) next ∙ sym (append_assoc done (e ∷ []) c.next.new.self),
      rw (c.in_ok-push.ensures.items, one_more c.nodes.entries.items done e c.in_ok-value.value rows c.in_ok-value.ensures),
    )

pub close-returns : goal.close-returns
close-returns t c =
    let (done, all, rows) = c.nodes.invariant in
    let whole = all ∙ ap (λ es. done ++ es) c.in-None.ensures.steps.0 ∙ append-nil done in
    ap in_table rows ∙ sym (close_each done) ∙ ap (λ es. close (entries_view es)) (sym whole)

pub close_node-close-requires : goal.close_node-close-requires
close_node-close-requires t c =
    let size : node_size (node_view c.args.node) ≡ 1 + nodes_size (nodes_view c.in-Table.entries) = rw (c.in-Table.is, node_view-Table c.in-Table.field-0 c.in-Table.entries) in
    (omega (arith, c.decreases, size), tt)

pub close_node-with_element-requires : goal.close_node-with_element-requires
close_node-with_element-requires t c =
    let size : node_size (node_view c.args.node) ≡ 1 + nodes_size (nodes_view c.in-Tables.last) = rw (c.in-Tables.is, node_view-Tables c.in-Tables.complete c.in-Tables.last) in
    (omega (arith, c.decreases, size), tt)

pub with_element-returns : goal.with_element-returns
with_element-returns t c =
    rw (c.in_ok-push.ensures.items, items_view-push c.args.complete.items _, view-Table c.in_ok-element.element, c.in_ok-element.ensures)
