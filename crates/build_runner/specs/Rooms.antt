-- Room that a run takes before it begins.
use Rattle.std.specs.Prelude.{ℕ, ◌≡◌, ◌≤◌, [], Vec, vec_capacity}
use Rattle.std.specs.declared.alloc.Global.{Global}

-- there is room for so many, and nothing there yet
abbrev pub IsEmptyFor : {X : Type 0} → ℕ → Vec X Global → Type 0
IsEmptyFor n v = (v.items ≡ []) × (n ≤ vec_capacity v)
