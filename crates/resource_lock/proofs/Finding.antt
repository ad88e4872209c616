-- The search for the retention that a word names.
use Rattle.std.proofs.Common.{◌≡◌, ℕ, ◌+◌, ◌<◌, inl, inr, Bool, true, false, cond, List, [], ◌∷◌, drop, length, get_or, Some, None, sym, ap, ◌∙◌}
use Rattle.std.specs.List.{find}
use Rattle.std.specs.Prelude.{unwrap_or}
use Rattle.std.proofs.lemmas.Bool.{cases_Bool}
use Rattle.std.proofs.lemmas.List.{at_drop_more}

-- an element that fails is passed over
pub find_later : {X : Type 0} (p : X → Bool) (xs : List X) (i : ℕ) (x : X) → i < length xs → p (get_or xs i x) ≡ false → find p (drop i xs) ≡ find p (drop (i + 1) xs)
find_later p xs i x within fails = at_drop_more (find p) xs i x within ∙ ap (λ b. cond b (Some (get_or xs i x)) (find p (drop (i + 1) xs))) fails

-- what is found passes
pub found : {X : Type 0} (p : X → Bool) (xs : List X) (x : X) → find p xs ≡ Some x → p x ≡ true
found {X} p [] x e = let none : None ≡ Some x = e in cc
found p (y ∷ ys) x e =
    elim (cases_Bool (p y)) [
      | inl passes ↦
          let here : Some y ≡ Some x = sym (ap (λ b. cond b (Some y) (find p ys)) passes) ∙ e in
          ap p (sym (ap (λ o. unwrap_or o y) here)) ∙ passes
      | inr fails ↦ found p ys x (sym (ap (λ b. cond b (Some y) (find p ys)) fails) ∙ e)
    ]
