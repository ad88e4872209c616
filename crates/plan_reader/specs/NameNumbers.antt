-- Names that stand in an order, and their numbers.
use Rattle.std.specs.Prelude.{ℕ, ◌≡◌, zero, suc, Bool, if◌then◌else◌, ◌+◌, List, [], map, take, length, slice_index_or, Option, None, Some}
use Rattle.std.specs.Prelude.{unwrap_or, position}
use Rattle.std.specs.Borrow.{Bor}
use Rattle.std.specs.List.{list_any}
use Rattle.std.specs.Str.{bytes_eq}
use Rattle.std.specs.Ordering.{nat_cmp}
use Rattle.std.specs.Cmp.Lexicographic.{slice_cmp}
use Rattle.std.specs.BTreeMap.{BTreeMap, get_by}
use Rattle.plan_table.specs.Forms.{Text}

abbrev pub texts : List (Bor (List ℕ)) → List Text
texts = map (λ s. s.now)

abbrev pub has_name : List Text → Text → Bool
has_name names t = list_any (bytes_eq t) names

-- ---- a name that stood before

abbrev pub is_repeat : List Text → ℕ → Bool
is_repeat names i = has_name (take i names) (slice_index_or names i [])

-- the least of the n numbers from i on that passes
abbrev pub least_from : (ℕ → Bool) → ℕ → ℕ → Option ℕ
least_from test i zero = None
least_from test i (suc n) = if test i then Some i else least_from test (i + 1) n

abbrev pub first_repeat : List Text → Option ℕ
first_repeat names = least_from (is_repeat names) 0 (length names)

-- ---- numbers

-- the number of a name, where it is there
abbrev pub number_of : List Text → Text → ℕ
number_of names t = unwrap_or (position (bytes_eq t) names) 0

-- each name has the number of its place, and no other text has one
abbrev pub AreNumbered : List Text → BTreeMap (Bor (List ℕ)) ℕ → Type 0
AreNumbered names numbers = (t : Text) → get_by (λ k. slice_cmp nat_cmp t k.now) numbers ≡ position (bytes_eq t) names
