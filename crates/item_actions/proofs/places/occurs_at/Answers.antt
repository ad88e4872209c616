use Rattle.std.proofs.Common.{◌≡◌, ◌+◌, ◌-◌, length, take, drop, ap, sym, ◌∙◌, arith}
use Rattle.std.proofs.lemmas.Slice.Eq.{slice_eq-Decides}
use Rattle.std.proofs.lemmas.Bool.Decides.{Decides-eqb, same_from_decides}
use Rattle.memchr.proofs.lemmas.MatchLemmas.{OccursAt-part, OccursAt-from_part, OccursAt-true, occurs_at-true}
use Rattle.item_actions.proofs.places.occurs_at.Goals as goal

pub returns : goal.returns
returns c =
    let bytes = c.args.bytes.now in
    let needle = c.args.needle.now in
    let place = c.args.place in
    let long : place + length needle - place ≡ length needle = omega arith in
    let same = slice_eq-Decides Decides-eqb (take (place + length needle - place) (drop place bytes)) needle _ c.eq.ensures in
    same_from_decides _ _ (
      λ h. OccursAt-from_part bytes needle place (omega arith) (ap (λ n. take n (drop place bytes)) (sym long) ∙ same.0 h),
      λ h. same.1 (ap (λ n. take n (drop place bytes)) long ∙ OccursAt-part bytes needle place h),
    )
    (OccursAt-true bytes needle place, occurs_at-true bytes needle place)
