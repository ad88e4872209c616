-- Names in range, by a test.
use Rattle.std.proofs.Common.{◌≡◌, true, [], length, nat_lt}
use Rattle.std.specs.List.{list_all}
use Rattle.std.proofs.lemmas.Bool.{ltb-true}
use Rattle.std.proofs.lemmas.List.Sums.{AllPass-from_list_all}
use Rattle.ready_work.specs.Rank.{Dependencies, InRange}

pub in_range : (d : Dependencies) → list_all (λ list. list_all (λ number. nat_lt number (length d)) list) d ≡ true → InRange d
in_range d test t k low lt = ltb-true _ _ (AllPass-from_list_all _ _ (AllPass-from_list_all _ d test t [] low) k 0 lt)
