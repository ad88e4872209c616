-- After which entries a worker has a lease, and after which it has one, or is parked or blocked.
use Rattle.std.specs.Prelude.{ℕ, nat_le, nat_lt, nat_eq, max, Bool, true, false, ◌&&◌, List, [], ◌∷◌, map, if◌then◌else◌}
use Rattle.std.specs.List.{list_any, range_with_len}
use Rattle.resource_lock.specs.declared.marks.MarkId.TheVariants.{Action as ActionOf}
use Rattle.run_spans.specs.declared.spans.Span.{Span}
use Rattle.run_spans.specs.declared.subjects.Subject.{Subject}
use Rattle.run_spans.specs.declared.subjects.Subject.TheVariants.{Lease, Blocked, Running}
use Rattle.picture_layout.specs.declared.occupancy.Occupancy.{Occupancy}
use Rattle.picture_layout.specs.declared.occupancy.Occupancy.TheVariants.{Engaged}

abbrev pub tells : Occupancy → Subject → Bool
tells occupancy (Lease w) = true
tells Engaged (Blocked w) = true
tells Engaged (Running (ActionOf n)) = true
tells _ _ = false

-- the span tells it of the worker, and of the entry
abbrev pub is_of : Occupancy → ℕ → Span → Bool
is_of occupancy w s = nat_eq s.worker.0 w && tells occupancy s.subject

abbrev pub covers : ℕ → Span → Bool
covers k s = nat_le s.from k && nat_lt k s.until

-- one of the spans tells it of the worker after the entry
abbrev pub stands_after : Occupancy → ℕ → List Span → ℕ → Bool
stands_after occupancy w spans k = list_any (λ s. is_of occupancy w s && covers k s) spans

-- the same after each of so many entries, in order
abbrev pub standing : Occupancy → ℕ → List Span → ℕ → List Bool
standing occupancy w spans count = map (stands_after occupancy w spans) (range_with_len 1 count)

-- behind which entry the last of some spans ends that tell it of the worker, or a later one
abbrev pub reach_over : Occupancy → ℕ → ℕ → List Span → ℕ
reach_over occupancy w reach [] = reach
reach_over occupancy w reach (s ∷ ss) = reach_over occupancy w (if is_of occupancy w s then max s.until reach else reach) ss
