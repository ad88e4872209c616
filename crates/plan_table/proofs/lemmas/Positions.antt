-- The first position in a list that is pushed to.
use Rattle.std.proofs.Common.{◌≡◌, ℕ, suc, ◌+◌, Bool, true, false, cond, ◌||◌, is_some, List, [], ◌∷◌, ◌++◌, length, Option, Some, None, option_map, refl, ap, sym, ◌∙◌, position}
use Rattle.std.specs.Option.{option_or}
use Rattle.std.specs.List.{list_any}
use Rattle.plan_document.proofs.Positions.{position_cons}

module _ {X : Type 0} (p : X → Bool) where
  pub position_push : (xs : List X) (y : X) → position p (xs ++ y ∷ []) ≡ option_or (position p xs) (cond (p y) (Some (length xs)) None)
  position_push [] y = position_cons p y []
  position_push (x ∷ xs) y = position_cons p x (xs ++ y ∷ []) ∙ ap (λ o. cond (p x) (Some 0) (option_map suc o)) (position_push xs y) ∙ by (p x) (position p xs) (p y) ∙ ap (λ o. option_or o (cond (p y) (Some (suc (length xs))) None)) (sym (position_cons p x xs))
    where
      by : (b : Bool) (o : Option ℕ) (c : Bool) → cond b (Some 0) (option_map suc (option_or o (cond c (Some (length xs)) None))) ≡ option_or (cond b (Some 0) (option_map suc o)) (cond c (Some (suc (length xs))) None)
      by true o c = refl
      by false (Some i) c = refl
      by false None true = refl
      by false None false = refl

  pub position_any : (xs : List X) → is_some (position p xs) ≡ list_any p xs
  position_any [] = refl
  position_any (x ∷ xs) = ap is_some (position_cons p x xs) ∙ by (p x) (position p xs) ∙ ap (λ b. p x || b) (position_any xs)
    where
      by : (b : Bool) (o : Option ℕ) → is_some (cond b (Some 0) (option_map suc o)) ≡ (b || is_some o)
      by true o = refl
      by false (Some i) = refl
      by false None = refl
