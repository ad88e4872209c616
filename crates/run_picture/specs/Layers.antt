-- The bars of the workers' rows, layer by layer.
use Rattle.std.specs.Prelude.{List, [], ◌++◌, ℕ}
use Rattle.std.specs.List.{flat_map}
use Rattle.lock_journal.specs.Names.{TaskOf, ActionOf, UnitOf, Entry}
use Rattle.run_spans.specs.declared.spans.Span.{Span}
use Rattle.run_spans.specs.declared.subjects.Subject.{Subject}
use Rattle.run_spans.specs.declared.subjects.Subject.TheVariants as subjects
use Rattle.run_picture.specs.WorkerBars.{task_text, lane_area, parked_bar, blocked_bar, lease_bar}
use Rattle.run_picture.specs.ItemBars.{item_text}
use Rattle.run_picture.specs.declared.worker_bars.Layer.{Layer}
use Rattle.run_picture.specs.declared.worker_bars.Layer.TheVariants.{Tasks, Parked, Blocked, Leases, Items}
use Rattle.picture_layout.specs.declared.layout.Layout.{Layout}

-- the bar of a span, by its subject, where it is of the layer
abbrev pub bar_of : Layer → Layout → List Entry → Span → Subject → List ℕ
bar_of Tasks f es s (subjects.Running (TaskOf n)) = task_text f s n
bar_of Parked f es s (subjects.Running (ActionOf n)) = parked_bar (lane_area f s) s n
bar_of Blocked f es s (subjects.Blocked w) = blocked_bar (lane_area f s) s
bar_of Leases f es s (subjects.Lease w) = lease_bar (lane_area f s) s
bar_of Items f es s (subjects.Running (UnitOf u)) = item_text f es s u
bar_of _ f es s _ = []

abbrev pub bar_text : Layer → Layout → List Entry → Span → List ℕ
bar_text layer f es s = bar_of layer f es s s.subject

-- from below to above
unfoldable pub bars_text : Layout → List Entry → List Span → List ℕ
bars_text f es spans =
    flat_map (bar_text Tasks f es) spans ++ flat_map (bar_text Parked f es) spans ++ flat_map (bar_text Blocked f es) spans
    ++ flat_map (bar_text Leases f es) spans ++ flat_map (bar_text Items f es) spans
