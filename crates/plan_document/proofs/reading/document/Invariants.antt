use Rattle.std.proofs.Common.{◌≡◌, ℕ, ◌<◌, ◌≤◌, [], length, suc}
use denote.Shadow.{shadow}
use denote.Text.{Utf8}
use Rattle.toml.specs.Parse.{lines, skip_bom}
use Rattle.toml.specs.Tables.{no_nodes}
use Rattle.toml_parser.specs.Reading.{path_view}
use Rattle.plan_document.specs.Reading.{nodes_view}
use Rattle.plan_document.proofs.reading.document.Given as goal

-- By the grammar, the document of the whole is that of the rest behind what is defined so far.
abbrev pub invariant-each : goal.invariant-each
invariant-each l =
    shadow (Utf8 l.unread) × (length l.unread ≤ length l.fn.text) × (left : ℕ) × (length l.unread < left)
    × (lines (suc (length l.fn.text)) (no_nodes, []) (skip_bom l.fn.text) ≡ lines left (nodes_view l.root, path_view l.header.items) l.unread)

abbrev pub decreases-each : goal.decreases-each
decreases-each l = length l.unread
