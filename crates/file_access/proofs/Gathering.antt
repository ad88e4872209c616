-- What was read of a file stands after what was gathered before.
use Rattle.std.proofs.Common.{◌≡◌, ℕ, ◌+◌, ◌≤◌, List, ◌++◌, Option, length, take, drop, length-drop, length-take-le, ap, ◌∙◌, arith}
use Rattle.std.proofs.Math.Seq.{take-add}
use Rattle.std.specs.Io.KnownBytes.{Consumes, IsAtEnd}
use Rattle.file_access.specs.Gathers.{Gathers}

pub gathers_next : (before after : Option (List ℕ)) (old room new : List ℕ) (filled count : ℕ)
    → take filled room ≡ old
    → take filled new ≡ take filled room
    → filled + count ≤ length new
    → Consumes before after (take count (drop filled new))
    → (count ≡ 0 → IsAtEnd after)
    → Gathers before after old (take (filled + count) new) count
gathers_next before after old room new filled count view front fits taken end =
    let piece = take count (drop filled new) in
    record {
      piece = piece;
      gathered = take-add filled count new ∙ ap (λ l. l ++ piece) (front ∙ view);
      count_of = length-take-le count (drop filled new) (omega (arith, length-drop filled new, fits));
      taken = taken;
      end = end;
    }
