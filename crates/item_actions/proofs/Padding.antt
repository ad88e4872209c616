-- How a needle is kept.
use Rattle.std.proofs.Common.{ℕ, ◌≤◌, ◌++◌, List, length, drop, replicate, ap, ◌∙◌, sym}
use Rattle.std.proofs.Math.Seq.{take-append_seam}
use Rattle.std.proofs.lemmas.List.{drop-replicate}
use Rattle.item_actions.specs.Needles.{padded, IsPadded}

-- bytes copied to the front of an array of zeros
pub copied_in : (bytes : List ℕ) → 1 ≤ length bytes → length bytes ≤ 64 → IsPadded record { bytes = bytes ++ drop (length bytes) (replicate 64 0); len = length bytes }
copied_in bytes some few = record {
  some = some;
  few = few;
  zeros = ap padded (take-append_seam bytes (drop (length bytes) (replicate 64 0)))
      ∙ (λ i. record { bytes = bytes ++ sym (drop-replicate (length bytes) 64 0) i; len = length bytes });
}
