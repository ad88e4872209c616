use Rattle.std.proofs.Common.{ℕ, List, length, sym, ap, ◌∙◌}
use Rattle.resource_lock.proofs.NumberRanges.{length-lists_from}
use Rattle.resource_lock.proofs.number_lists.NumberLists.len.Goals as goal

pub returns : goal.returns
returns c =
    c.len.ensures ∙ c.self.inside.ends.ok.0 ∙ sym (length-lists_from c.self.inside.numbers.items 0 c.self.inside.ends.items) ∙ ap (λ (d : List (List ℕ)). length d) c.self.view_is
