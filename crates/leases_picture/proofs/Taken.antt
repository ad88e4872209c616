-- What was taken so far of an input.
use Rattle.std.proofs.Common.{ℕ, ◌≡◌, ◌+◌, ◌≤◌, ◌<◌, List, [], ◌++◌, length, length-append, Result, Ok, Err, sym, ap, subst, ◌∙◌, arith, append-nil, inl, inr}
use Rattle.std.specs.Io.KnownBytes.{Consumes, IsAtEnd}
use Rattle.std.proofs.KnownBytes.{Consumes-trans}
use Rattle.file_access.specs.SinkView.{Rises}
use Rattle.file_access.specs.SourceView.{SourceView}
use Rattle.leases_picture.specs.Taking.{Grows, EndsThere, TakesPiece, TakesAll, HasFailed}
use Rattle.leases_picture.specs.declared.reading.ReadFail.{ReadFail}
use Rattle.leases_picture.specs.declared.reading.ReadFail.TheVariants.{SourceFault, NoMemory}
use Rattle.std.specs.Prelude.{Bool, true, false, IsErrAnd, IfErr}
use Rattle.leases_picture.specs.declared.reading.TheConstants.{MAX_INPUT_BYTES}

pub record TakenSoFar (start now : SourceView) (text : List ℕ) : Type 0 where
  pub taken : Consumes start.left now.left text
  pub faults : start.faults ≤ now.faults
  pub few : length text ≤ MAX_INPUT_BYTES

pub taken_more : (start mid now : SourceView) (was is : List ℕ) (most : ℕ) → TakenSoFar start mid was → Grows most mid now was is → length was + most ≤ MAX_INPUT_BYTES → TakenSoFar start now is
taken_more start mid now was is most so_far more room =
    let long : length is ≡ length was + length more.piece = ap length more.text ∙ length-append was more.piece in
    record {
      taken = subst (Consumes start.left now.left) (sym more.text) (Consumes-trans start.left mid.left now.left was more.piece so_far.taken more.taken);
      faults = omega (arith, so_far.faults, more.faults);
      few = omega (arith, long, room, more.few);
    }

pub taken_to_end : (start mid now : SourceView) (was is : List ℕ) → TakenSoFar start mid was → EndsThere mid now was is → Consumes start.left now.left is
taken_to_end start mid now was is so_far end =
    subst (Consumes start.left now.left) (append-nil was ∙ sym end.text) (Consumes-trans start.left mid.left now.left was [] so_far.taken end.taken)

abbrev taken_by : ReadFail → Result Bool ReadFail
taken_by fail = Err fail

abbrev came : Bool → Result Bool ReadFail
came some = Ok some

failed_at : (start mid now : SourceView) (was is : List ℕ) (most : ℕ) (fail : ReadFail) → TakenSoFar start mid was → TakesPiece most mid now was is (taken_by fail) → HasFailed start now fail
failed_at start mid now was is most SourceFault so_far takes = omega (arith, so_far.faults, takes)
failed_at start mid now was is most NoMemory so_far takes = omega (arith, so_far.faults, takes)

pub failed_then : {A : Type 0} (start mid now : SourceView) (was is : List ℕ) (most : ℕ) (r : Result A ReadFail) (fail : ReadFail) → TakenSoFar start mid was → IsErrAnd r (λ f. f ≡ fail) → TakesPiece most mid now was is (taken_by fail) → IfErr r (λ f. HasFailed start now f)
failed_then start mid now was is most (Ok x) fail so_far never takes = absurd never
failed_then start mid now was is most (Err f) fail so_far same takes = subst (HasFailed start now) (sym same) (failed_at start mid now was is most fail so_far takes)

pub more_then : (start mid now : SourceView) (was is : List ℕ) (most : ℕ) (some : Bool) → some ≡ true → TakenSoFar start mid was → TakesPiece most mid now was is (came some) → length was + most ≤ MAX_INPUT_BYTES → TakenSoFar start now is
more_then start mid now was is most some came_some so_far takes room =
    taken_more start mid now was is most so_far (subst (λ (b : Bool). TakesPiece most mid now was is (came b)) came_some takes).0 room

pub longer : (mid now : SourceView) (was is : List ℕ) (most : ℕ) (some : Bool) → some ≡ true → TakesPiece most mid now was is (came some) → length was < length is
longer mid now was is most some came_some takes = (subst (λ (b : Bool). TakesPiece most mid now was is (came b)) came_some takes).1

pub ended_then : (start mid now : SourceView) (was is : List ℕ) (most : ℕ) (some : Bool) → some ≡ false → TakenSoFar start mid was → TakesPiece most mid now was is (came some) → TakesAll start now is
ended_then start mid now was is most some none so_far takes =
    let end : EndsThere mid now was is = subst (λ (b : Bool). TakesPiece most mid now was is (came b)) none takes in
    record { taken = taken_to_end start mid now was is so_far end; faults = omega (arith, so_far.faults, end.faults); all = inl end.all }

pub full_then : (start now : SourceView) (text : List ℕ) → TakenSoFar start now text → MAX_INPUT_BYTES ≤ length text → TakesAll start now text
full_then start now text so_far full = record { taken = so_far.taken; faults = so_far.faults; all = inr (omega (arith, so_far.few, full)) }
