-- What a set has to do with the numbers of which something holds.
use Rattle.std.specs.Prelude.{ℕ, ◌≡◌, ◌≢◌, ◌⊎◌, ◌↔◌, ◌≤◌, Bool, true, false, Option, None, Some}
use Rattle.ready_work.specs.NumberSetView.{NumberSetView, has, room_of}

-- whether a number is a member says whether it holds of it
abbrev pub IsRightAt : (ℕ → Type 0) → NumberSetView → ℕ → Type 0
IsRightAt P set k = (has set k ≡ true) ↔ P k

-- The members are the numbers of which it holds, but for numbers that are left open.
pub record IsSetOf (P Open : ℕ → Type 0) (set : NumberSetView) : Type 0 where
  pub each : (k : ℕ) → Open k ⊎ IsRightAt P set k

abbrev pub NoNumber : ℕ → Type 0
NoNumber k = ⊥

-- The numbers from this one on aren't members yet; the members below are those of which it holds.
pub record IsSetBelow (P : ℕ → Type 0) (n : ℕ) (set : NumberSetView) : Type 0 where
  pub each : (k : ℕ) → ((n ≤ k) × (has set k ≡ false)) ⊎ IsRightAt P set k

-- The set is right at the numbers that were seen, and as before or right at others.
pub record Looks (P Seen : ℕ → Type 0) (old new : NumberSetView) : Type 0 where
  pub room : room_of new ≡ room_of old
  pub seen : (k : ℕ) → Seen k → IsRightAt P new k
  pub kept : (k : ℕ) → (has new k ≡ has old k) ⊎ IsRightAt P new k

-- There is no such set before and after, or it looked at these numbers.
abbrev pub LooksWhereKept : (ℕ → Type 0) → (ℕ → Type 0) → Option NumberSetView → Option NumberSetView → Type 0
LooksWhereKept P Seen None None = Unit {0}
LooksWhereKept P Seen (Some old) (Some new) = Looks P Seen old new
LooksWhereKept P Seen None (Some new) = ⊥
LooksWhereKept P Seen (Some old) None = ⊥

-- There is no such set before and after, or the number was made a member of it, or none.
abbrev pub PutsWhereKept : ℕ → Bool → Option NumberSetView → Option NumberSetView → Type 0
PutsWhereKept n b None None = Unit {0}
PutsWhereKept n b (Some old) (Some new) = (room_of new ≡ room_of old) × (has new n ≡ b) × ((k : ℕ) → k ≢ n → has new k ≡ has old k)
PutsWhereKept n b None (Some new) = ⊥
PutsWhereKept n b (Some old) None = ⊥

-- The set is right for what holds now at the numbers that were seen, and wherever it was right for what held before.
pub record Moves (Before Now Seen : ℕ → Type 0) (old new : NumberSetView) : Type 0 where
  pub room : room_of new ≡ room_of old
  pub seen : (k : ℕ) → Seen k → IsRightAt Now new k
  pub kept : (k : ℕ) → IsRightAt Before old k → IsRightAt Now new k

-- both have the same members, and room for the same numbers
pub record SameNumbers (old new : NumberSetView) : Type 0 where
  pub room : room_of new ≡ room_of old
  pub members : (k : ℕ) → has new k ≡ has old k
