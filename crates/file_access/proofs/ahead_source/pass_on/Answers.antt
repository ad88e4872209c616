use Rattle.std.proofs.Common.{ℕ, ◌≡◌, List, [], Option, Result, Ok, Err, subst, take, length-take-le}
use Rattle.std.specs.Prelude.{IsErrAnd}
use Rattle.std.specs.Io.KnownBytes.{Consumes}
use Rattle.std.specs.Io.BufRead.{FillKeeps}
use Rattle.std.proofs.KnownBytes.{Consumes-nil, Consumes-kept}
use Rattle.std.proofs.BufReadLemmas.{Consumes_shown}
use Rattle.file_access.specs.Ahead.{GivesAhead}
use Rattle.file_access.proofs.ahead_source.pass_on.Goals as goal

-- there was no memory, and nothing was taken
lost : {E : Type 0} (P : E → Type 0) (old new : Option (List ℕ)) (was is : List ℕ) (most : ℕ) (r : Result ℕ E) → IsErrAnd r P → Consumes old new [] → is ≡ was → GivesAhead old new was is most r
lost P old new was is most (Ok n) never none same = absurd never
lost P old new was is most (Err e) failed none same = (none, same)

pub returns-in_err-extend_from_slice : goal.returns-in_err-extend_from_slice
returns-in_err-extend_from_slice g c =
    lost _ _ _ _ _ c.args.most c.from_residual.result c.from_residual.ensures.1
    (Consumes-kept _ _ _ [] (Consumes-nil _) c.fill_buf.follows.holds-at-none.0) c.in_err-extend_from_slice.ensures.items

pub returns : goal.returns
returns g c =
    let rested = c.fill_buf.follows.lender-at-none in
    let filled = subst (FillKeeps _ (g.R.Read.remaining rested) (g.R.BufRead.consumable_len rested)) c.in-Ok.is c.fill_buf.follows.holds-at-none in
    let moved = Consumes_shown _ _ _ _ c.in-Ok.shown.now c.through_line_end-count.result c.through_line_end-count.ensures.within c.in-Ok.ensures.front c.in-Ok.ensures.end filled.0 filled.1 c.consume.ensures.bytes in
    record {
      piece = take c.through_line_end-count.result c.in-Ok.shown.now;
      taken = moved.0;
      line = c.in_ok-extend_from_slice.ensures.items;
      long = length-take-le c.through_line_end-count.result c.in-Ok.shown.now c.through_line_end-count.ensures.within;
      few = c.through_line_end-count.ensures.few;
      one_line = c.through_line_end-count.ensures.one_line;
    }
