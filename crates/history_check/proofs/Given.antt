-- The bytes that may be taken of an input.
use Rattle.std.proofs.Common.{◌≡◌, ℕ, ◌+◌, ◌-◌, ◌≤◌, List, ◌++◌, length, take, Option, Some, None, sym, ap, ◌∙◌, arith}
use Rattle.std.proofs.Math.Seq.{take-append-add}
use Rattle.std.specs.Io.KnownBytes.{Consumes}
use Rattle.history_check.specs.Checking.{all_given}
use Rattle.history_check.specs.declared.inputs.TheConstants.{MAX_INPUT_BYTES}

pub first_bytes : (input came : List ℕ) (left : Option (List ℕ)) → Consumes (Some input) left came → length came ≤ MAX_INPUT_BYTES → all_given came left ≡ take MAX_INPUT_BYTES input
first_bytes input came None taken few = absurd taken
first_bytes input came (Some bytes) taken few =
    let split : length came + (MAX_INPUT_BYTES - length came) ≡ MAX_INPUT_BYTES = omega (arith, few) in
    sym (ap (take MAX_INPUT_BYTES) taken ∙ (ap (λ n. take n (came ++ bytes)) (sym split) ∙ take-append-add came bytes (MAX_INPUT_BYTES - length came)))
