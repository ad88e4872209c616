-- Lists of numbers that are linked in one row.
use Rattle.std.specs.Prelude.{ℕ, suc, ◌≤◌, ◌<◌, ◌==◌, if◌then◌else◌, List, [], ◌∷◌, length, map, reverse, slice_index_or}
use Rattle.std.specs.List.{All}
use Rattle.ready_work.specs.Rank.{Dependencies}
use Rattle.ready_work.specs.declared.linked_lists.Link.{Link}

abbrev pub no_link : Link
no_link = record { number = 0; next = 0 }

-- the list that begins with the link of this number, counted from 1, of these links in reverse
abbrev pub linked : List Link → ℕ → List ℕ
linked [] n = []
linked (l ∷ ls) n = if n == suc (length ls) then l.number ∷ linked ls l.next else linked ls n

-- the list that begins with the link of this number
abbrev pub list_from : List Link → ℕ → List ℕ
list_from links n = linked (reverse links) n

-- the lists that begin with these
abbrev pub lists_by : List Link → List ℕ → Dependencies
lists_by links firsts = map (list_from links) firsts

-- behind each link comes one that stands before it
abbrev pub AreNextsBefore : List Link → Type 0
AreNextsBefore links = (i : ℕ) → i < length links → (slice_index_or links i no_link).next ≤ i

pub record AreLinked (links : List Link) (firsts : List ℕ) : Type 0 where
  pub nexts : AreNextsBefore links
  pub firsts_within : All (λ n. n ≤ length links) firsts
