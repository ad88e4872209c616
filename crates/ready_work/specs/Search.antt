-- What the search for ranks keeps.
use Rattle.std.specs.Prelude.{◌≡◌, ◌≢◌, ◌⊎◌, ◌<◌, ◌≤◌, ◌+◌, ℕ, Bool, true, false, not, List, length, slice_index_or}
use Rattle.std.specs.Prelude.{Contains, count_by}
use Rattle.ready_work.specs.declared.rank_search.Search.{Search}
use Rattle.ready_work.specs.Rank.{Dependencies, after, Ranked}

abbrev pub is_marked : Search → ℕ → Bool
is_marked s t = slice_index_or s.ranked.items t false

abbrev pub next_of : Search → ℕ → ℕ
next_of s t = slice_index_or s.next.items t 0

-- the task that t waits for
abbrev pub awaited : Dependencies → Search → ℕ → ℕ
awaited d s t = slice_index_or (after d t) (next_of s t) 0

-- the marks are right, and each task's names before its next one are marked
pub record IsSoundSearch (d : Dependencies) (s : Search) : Type 0 where
  pub marks : length s.ranked.items ≡ length d
  pub places : length s.next.items ≡ length d
  pub stacked : (k : ℕ) → k < length s.stack.items → slice_index_or s.stack.items k 0 < length d
  pub sound : (t : ℕ) → t < length d → is_marked s t ≡ true → Ranked d t
  pub within : (t : ℕ) → t < length d → next_of s t ≤ length (after d t)
  pub passed : (t k : ℕ) → t < length d → k < next_of s t → is_marked s (slice_index_or (after d t) k 0) ≡ true

-- the task waits for one that has no mark, or that stands on the stack
abbrev pub Waits : Dependencies → Search → ℕ → Type 0
Waits d s t = (next_of s t < length (after d t)) × ((is_marked s (awaited d s t) ≡ false) ⊎ Contains s.stack.items (awaited d s t))

-- how much is left to do
abbrev pub work_left : Search → ℕ
work_left s = count_by not s.ranked.items + length s.stack.items

-- new is old after a look at task t
pub record LooksAt (d : Dependencies) (t : ℕ) (old new : Search) : Type 0 where
  pub keeps : (u : ℕ) → is_marked old u ≡ true → is_marked new u ≡ true
  pub waits : is_marked new t ≡ false → Waits d new t
  pub others : (u : ℕ) → u ≢ t → (next_of new u ≡ next_of old u) × (is_marked new u ≡ is_marked old u)
  pub stack : (u : ℕ) → Contains old.stack.items u → Contains new.stack.items u
  pub pushed : is_marked old t ≡ false → is_marked new t ≡ true → Contains new.stack.items t
  pub work : work_left new ≤ work_left old

-- each task without a mark waits, up to task n
abbrev pub WaitBelow : ℕ → Dependencies → Search → Type 0
WaitBelow n d s = (t : ℕ) → t < n → is_marked s t ≡ false → Waits d s t

-- the task waits for u, and stands in the list
pub record IsListed (d : Dependencies) (s : Search) (u : ℕ) (list : List ℕ) (t : ℕ) : Type 0 where
  pub low : next_of s t < length (after d t)
  pub is : awaited d s t ≡ u
  pub listed : Contains list t

-- each task without a mark waits, or stands in the list of those that wait for u
abbrev pub WaitOrListed : Dependencies → Search → ℕ → List ℕ → Type 0
WaitOrListed d s u list = (t : ℕ) → t < length d → is_marked s t ≡ false → Waits d s t ⊎ IsListed d s u list t
