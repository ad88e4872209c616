use Rattle.std.proofs.Common.{◌≡◌, ℕ, ◌+◌, ◌*◌, ◌<◌, ◌≤◌, length}
use denote.Shadow.{shadow}
use denote.Text.{Utf8}
use Rattle.toml.specs.Data.{no_items}
use Rattle.toml.specs.Parse.{items, members, val}
use Rattle.toml.specs.Tables.{no_nodes}
use Rattle.plan_document.specs.Reading.{nodes_view}
use Rattle.plan_document.specs.View.{array_view}
use Rattle.plan_document.proofs.inner_values.+value.Given as goal

abbrev pub decreases-value : goal.decreases-value
decreases-value l = 2 * l.levels

abbrev pub decreases-items : goal.decreases-items
decreases-items l = 2 * l.levels + 1

abbrev pub decreases-entries : goal.decreases-entries
decreases-entries l = 2 * l.levels + 1

-- By the grammar, what is read of the whole is what is read of the rest behind what was found.
abbrev pub invariant-items-each : goal.invariant-items-each
invariant-items-each l =
    shadow (Utf8 l.unread) × (length l.unread ≤ length l.fn.text)
    × ((n : ℕ) → length l.fn.text < n → (left : ℕ) × (length l.unread < left)
    × (items (val l.fn.levels) n no_items l.fn.text ≡ items (val l.fn.levels) left (array_view l.read) l.unread))

abbrev pub decreases-items-each : goal.decreases-items-each
decreases-items-each l = length l.unread

abbrev pub invariant-entries-each : goal.invariant-entries-each
invariant-entries-each l =
    shadow (Utf8 l.unread) × (length l.unread ≤ length l.fn.text)
    × ((n : ℕ) → length l.fn.text < n → (left : ℕ) × (length l.unread < left)
    × (members (val l.fn.levels) n no_nodes l.fn.text ≡ members (val l.fn.levels) left (nodes_view l.read) l.unread))

abbrev pub decreases-entries-each : goal.decreases-entries-each
decreases-entries-each l = length l.unread
