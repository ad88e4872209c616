use Rattle.std.proofs.Common.{◌≡◌, ◌≤◌, ◌-◌, ◌++◌, [], map}
use Rattle.picture_layout.specs.Panels.{panel_view, panels_from, last_shown}
use Rattle.picture_layout.proofs.Carrying.{Carries}
use Rattle.picture_layout.proofs.panels.panels_from.Given as goal

abbrev pub invariant-loop-place : goal.invariant-loop-place
invariant-loop-place l =
    (map panel_view l.panels.items ++ panels_from (l.scale.panels - l.place) l.workers l.scale l.spans l.end l.spacing.gap l.first l.top
    ≡ panels_from l.scale.panels l.workers l.scale l.spans l.end l.spacing.gap 1 l.spacing.begin)
    × Carries l.spans l.first (last_shown [] (map panel_view l.panels.items)) l.rest
    × (l.first ≤ l.end)
