-- What is known of the steps from one of them on.
use Rattle.std.specs.Prelude.{ℕ, ◌≡◌, List, reverse}
use Rattle.std.specs.Ordering.{nat_cmp}
use Rattle.std.specs.BTreeMap.{get}
use Rattle.run_spans.specs.Steps.{Step}
use Rattle.run_spans.specs.Spans.{first_saying, spans_in}
use Rattle.run_spans.specs.declared.spans.Tail.{Tail}

-- the spans of these steps, the last one first, and where each subject is spoken of first
pub record IsTail (end : ℕ) (xs : List Step) (t : Tail) : Type 0 where
  pub spans : t.spans.items ≡ reverse (spans_in end xs)
  pub firsts : (q : ℕ) → get nat_cmp t.firsts q ≡ first_saying xs q
