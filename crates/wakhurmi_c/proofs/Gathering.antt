-- Handles that are emptied one after the other.
use Rattle.std.proofs.Common.{◌≡◌, ◌<◌, ◌+◌, ◌∷◌, ◌++◌, [], ℕ, List, drop, get_or, length, map, take, arith, sym, ap, ◌∙◌, subst, get_or-drop, drop-drop}
use Rattle.std.specs.Prelude.{set}
use Rattle.std.specs.List.{All}
use Rattle.std.proofs.lemmas.List.{drop-set-lt, map-append, take_more, take_more_set}
use Rattle.std.proofs.lemmas.List.Elements.{All-map, All-push, All-take}

module _ {X : Type 0} where
  -- lists that are the same from a place on have the same element there, and are the same behind it
  pub same_at : (xs ys : List X) (i : ℕ) (d : X) → drop i xs ≡ drop i ys → get_or xs i d ≡ get_or ys i d
  same_at xs ys i d same =
      let here : i + 0 ≡ i = omega arith in
      subst (λ (k : ℕ). get_or xs k d ≡ get_or ys k d) here (sym (get_or-drop i xs 0 d) ∙ (ap (λ l. get_or l 0 d) same ∙ get_or-drop i ys 0 d))

  pub same_behind : (xs ys : List X) (i : ℕ) (x : X) → drop i xs ≡ drop i ys → drop (i + 1) (set xs i x) ≡ drop (i + 1) ys
  same_behind xs ys i x same =
      let low : i < i + 1 = omega arith in
      drop-set-lt (i + 1) xs i x low ∙ (sym (drop-drop 1 i xs) ∙ (ap (drop 1) same ∙ drop-drop 1 i ys))

  -- one more of them is so
  pub all_more : (P : X → Type 0) (xs : List X) (i : ℕ) (x : X) → i < length xs → All P (take i xs) → P x → All P (take (i + 1) (set xs i x))
  all_more P xs i x low all here = subst (All P) (sym (take_more_set xs i x low)) (All-push P (take i xs) x all here)

  pub map_more : {Y : Type 0} (f : X → Y) (xs : List X) (ys longer : List Y) (i : ℕ) (d : X) (y : Y) → i < length xs → ys ≡ map f (take i xs) → longer ≡ ys ++ y ∷ [] → y ≡ f (get_or xs i d)
      → longer ≡ map f (take (i + 1) xs)
  map_more f xs ys longer i d y low same is here =
      is ∙ ((λ j. same j ++ here j ∷ []) ∙ (sym (map-append f (take i xs) (get_or xs i d ∷ [])) ∙ ap (map f) (sym (take_more xs i d low))))

-- what is so of each mapped element of a list is so of each of a beginning of it
pub all_front : {X Y : Type 0} (f : X → Y) (P : Y → Type 0) (xs : List X) (i : ℕ) → All (λ x. P (f x)) xs → All P (map f (take i xs))
all_front f P xs i all = All-map P f (take i xs) (All-take (λ x. P (f x)) i xs all)
