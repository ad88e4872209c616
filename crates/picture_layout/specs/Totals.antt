-- What the head of a picture counts.
use Rattle.std.specs.Prelude.{ℕ, max, Bool, true, false, ◌&&◌, List, [], ◌∷◌, is_some}
use Rattle.std.specs.List.{sum_by}
use Rattle.resource_lock.specs.Change.{same_mark}
use Rattle.resource_lock.specs.declared.marks.Mark.{Mark}
use Rattle.resource_lock.specs.declared.marks.MarkId.TheVariants.{Task as TaskOf, Unit as UnitOf}
use Rattle.lock_transforms.specs.Entry.{Entry}
use Rattle.lock_transforms.specs.declared.entries.Kind.{Kind}
use Rattle.lock_transforms.specs.declared.entries.Kind.TheVariants.{Skip}
use Rattle.run_spans.specs.declared.levels.Level.{Level}
use Rattle.run_spans.specs.declared.spans.Span.{Span}
use Rattle.run_spans.specs.declared.subjects.Subject.{Subject}
use Rattle.run_spans.specs.declared.subjects.Subject.TheVariants.{Running}
use Rattle.picture_layout.specs.declared.totals.Peaks.{Peaks}

abbrev pub runs_task : Subject → Bool
runs_task (Running (TaskOf n)) = true
runs_task _ = false

abbrev pub runs_unit : Subject → Bool
runs_unit (Running (UnitOf n)) = true
runs_unit _ = false

abbrev pub is_task : Span → Mark → Bool
is_task s mark = runs_task s.subject && same_mark s.mark mark

abbrev pub is_unit : Span → Bool
is_unit s = runs_unit s.subject

abbrev pub ended_with : Span → Mark → Bool
ended_with s mark = is_unit s && same_mark s.mark mark

abbrev pub is_skip : Kind → Bool
is_skip (Skip t) = true
is_skip _ = false

abbrev pub skips : Entry → Bool
skips e = is_some e.changes && is_skip e.kind

abbrev pub most_queued : List Level → ℕ
most_queued [] = 0
most_queued (v ∷ vs) = max v.queued (most_queued vs)

abbrev pub most_out : List Level → ℕ
most_out [] = 0
most_out (v ∷ vs) = max v.out (most_out vs)

-- what the scales of the curves reach to
abbrev pub peaks_of : List Level → Peaks
peaks_of vs = record { out = max (most_out vs) 1; queued = most_queued vs }

abbrev pub queue_scale : Peaks → ℕ
queue_scale p = max p.out p.queued

abbrev pub total_out : List Level → ℕ
total_out vs = sum_by (λ v. v.out) vs
