use Rattle.std.proofs.Common.{◌≡◌, ◌∙◌, sym, length, nat_lt}
use Rattle.std.specs.List.{list_all}
use Rattle.std.proofs.lemmas.List.{length-map}
use Rattle.std.proofs.lemmas.List.Folds.{list_all-map}
use Rattle.ready_work.specs.Rank.{lists_of}
use Rattle.ready_work.proofs.lemmas.Ranges.{in_range}
use Rattle.state_tests.proofs.task_ranks_tests.are_in_range.Goals as goal

pub returns : goal.returns
returns c = λ is.
    let d = lists_of c.args.lists.now in
    let size : length d ≡ length c.args.lists.now = length-map c.args.lists.now (λ row. row.items) in
    in_range d (rw size (list_all-map (λ list. list_all (λ number. nat_lt number (length c.args.lists.now)) list) (λ row. row.items) c.args.lists.now ∙ sym c.are_all_below.ensures ∙ is))
