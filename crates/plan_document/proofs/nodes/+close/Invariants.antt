use Rattle.std.proofs.Common.{◌≡◌, ◌+◌, ◌*◌, ◌++◌, List, map}
use Rattle.toml.proofs.Views.{node_size, nodes_size}
use Rattle.plan_document.specs.Reading.{node_view, nodes_view}
use Rattle.plan_document.specs.View.{view}
use Rattle.plan_document.proofs.Views.{NodeEntry, closed_entry}
use Rattle.plan_document.proofs.nodes.+close.Given as goal

abbrev pub decreases-close : goal.decreases-close
decreases-close l = 4 * nodes_size (nodes_view l.nodes) + 2

abbrev pub decreases-close_node : goal.decreases-close_node
decreases-close_node l = 4 * node_size (node_view l.node) + 1

abbrev pub decreases-with_element : goal.decreases-with_element
decreases-with_element l = 4 * nodes_size (nodes_view l.last) + 3

-- The row has the entries that were gone through, and the others are still to come.
abbrev pub invariant-close-nodes : goal.invariant-close-nodes
invariant-close-nodes l =
    (done : List NodeEntry) × (l.fn.nodes.entries ≡ done ++ l.key-iterator)
    × (map (λ e. (e.0, view e.1)) l.entries.items ≡ map closed_entry done)
