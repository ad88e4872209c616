use Rattle.std.proofs.Common.{List, sym, ap, ◌∙◌}
use Rattle.std.proofs.lemmas.List.{length-map}
use Rattle.ready_work.specs.LinkedLists.{list_from, lists_by}
use Rattle.ready_work.specs.Rank.{after}
use Rattle.ready_work.specs.declared.linked_lists.Link.{Link}
use Rattle.ready_work.proofs.Links.{all_empty}
use Rattle.ready_work.proofs.linked_lists.LinkedLists.empty.Goals as goal

pub returns-clause-count : goal.returns-clause-count
returns-clause-count c = length-map c.in_ok-firsts.firsts.items (list_from c.new.result.items) ∙ sym c.in_ok-firsts.firsts.ok.0 ∙ c.in_ok-firsts.ensures.len

pub returns-clause-empty : goal.returns-clause-empty
returns-clause-empty c = λ u.
    ap (λ (ls : List Link). after (lists_by ls c.in_ok-firsts.firsts.items) u) c.new.ensures.items ∙ all_empty c.in_ok-firsts.firsts.items u
