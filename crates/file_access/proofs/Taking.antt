-- What a source takes of a reader that reads ahead.
use Rattle.std.proofs.Common.{ℕ, List, [], Option, refl, sym, append-nil, arith}
use Rattle.std.specs.Io.KnownBytes.{Keeps}
use Rattle.std.proofs.KnownBytes.{Consumes-nil, Consumes-kept}
use Rattle.file_access.specs.Ahead.{TakesAhead}

-- nothing was taken
pub none_ahead : (old new : Option (List ℕ)) (was : List ℕ) (most : ℕ) → Keeps old new → TakesAhead old new was was most 0
none_ahead old new was most kept = record {
  piece = [];
  taken = Consumes-kept old old new [] (Consumes-nil old) kept;
  line = sym (append-nil was);
  long = refl;
  few = omega arith;
  one_line = λ k from to. absurd (omega (arith, to));
}
