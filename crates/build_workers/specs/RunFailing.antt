-- How many units the workers of a run closed that weren't worked out.
use Rattle.std.specs.Prelude.{ℕ, List, sum_by}
use Rattle.std.specs.List.{range_with_len}
use Rattle.lock_transforms.specs.Entry.{Entry}
use Rattle.build_workers.specs.Failing.{unreal_by}

-- how many such units the first workers closed: those that ended as a fault or without memory
abbrev pub unreal_of : ℕ → List Entry → ℕ
unreal_of workers entries = sum_by (λ i. unreal_by (record { 0 = i }) entries) (range_with_len 0 workers)
