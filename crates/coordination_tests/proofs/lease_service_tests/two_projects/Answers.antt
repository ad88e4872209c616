use Rattle.std.proofs.Common.{◌≡◌, false}
use Rattle.std.specs.List.{IsDistinct}
use Rattle.std.specs.Str.{bytes_eq}
use Rattle.coordination_tests.proofs.lease_service_tests.two_projects.Goals as goal

pub new-requires-clause-distinct : goal.new-requires-clause-distinct
unfolding IsDistinct
new-requires-clause-distinct c =
    let apart : bytes_eq c.in_ok-from_str.field-0 c.in_ok-from_str-2.field-0 ≡ false = λ i. bytes_eq (c.in_ok-from_str.ensures i) (c.in_ok-from_str-2.ensures i) in
    ((apart, tt), (tt, tt))
