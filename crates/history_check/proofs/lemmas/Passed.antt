-- Lines that are passed over before a history.
use Rattle.std.proofs.Common.{◌≡◌, ℕ, List, [], ◌∷◌, ◌++◌, refl, sym, ap, ◌∙◌, append_assoc, append-nil}
use Rattle.std.specs.List.{AllByRecursion, concat}
use Rattle.history_check.specs.Naming.{IsOtherLine, ArePassedOver}

pub none_passed : ArePassedOver []
none_passed = record { lines = []; others = tt; is = refl }

all_more : (lines : List (List ℕ)) (line : List ℕ) → AllByRecursion IsOtherLine lines → IsOtherLine line → AllByRecursion IsOtherLine (lines ++ line ∷ [])
all_more [] line all other = (other, tt)
all_more (l ∷ lines) line all other = (all.0, all_more lines line all.1 other)

concat_more : (lines : List (List ℕ)) (line : List ℕ) → concat (lines ++ line ∷ []) ≡ concat lines ++ line
concat_more [] line = append-nil line
concat_more (l ∷ lines) line = ap (λ bs. l ++ bs) (concat_more lines line) ∙ sym (append_assoc l (concat lines) line)

pub one_passed : (passed line : List ℕ) → ArePassedOver passed → IsOtherLine line → ArePassedOver (passed ++ line)
one_passed passed line over other = record {
  lines = over.lines ++ line ∷ [];
  others = all_more over.lines line over.others other;
  is = ap (λ bs. bs ++ line) over.is ∙ sym (concat_more over.lines line);
}
