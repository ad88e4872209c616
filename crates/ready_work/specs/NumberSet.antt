-- What the fields of a `NumberSet` stand for, and what holds of them.
use Rattle.std.specs.Prelude.{ℕ, ◌*◌, ◌==◌, List, length}
use Rattle.ready_work.specs.WordBits.{bit_in, Summarizes}
use Rattle.ready_work.specs.NumberSetView.{NumberSetView, set_where}
use Rattle.ready_work.specs.declared.number_sets.NumberSet.TheInside.{Inside}

-- the numbers whose bits are set
abbrev pub set_in : List ℕ → NumberSetView
set_in words = set_where (λ k. bit_in words k == 1) (64 * length words)

abbrev pub number_set_view : Inside → NumberSetView
number_set_view set = set_in set.members.words.items

-- each level is the summary of the level below
pub record IsSummarized (set : Inside) : Type 0 where
  pub members : Summarizes set.members.words.items set.filled.words.items
  pub filled : Summarizes set.filled.words.items set.blocks.words.items
