-- Totals over lists of which one element changes.
use Rattle.std.proofs.Common.{◌≡◌, ◌<◌, ◌≤◌, ℕ, zero, suc, ◌+◌, List, [], ◌∷◌, ◌++◌, length, get_or, set}
use Rattle.std.proofs.Common.{refl, sym, ap, ◌∙◌, subst, arith, sum_by, length-append}
use Rattle.std.specs.List.{All, Any}
use Rattle.std.proofs.lemmas.List.Sums.{sum_by-cons}
use Rattle.std.proofs.lemmas.List.Elements.{All-cons, All-head, All-nil, All-tail}
use Rattle.std.proofs.Math.Seq.{get_or-append_seam}
use mathlib.Core.Option.{some, some-injective, some-ne-none}
use lib.ListN.{get_elem?}

module _ {X : Type 0} where
  pub at_all : (P : X → Type 0) (xs : List X) (i : ℕ) (v : X) → All P xs → get_elem? xs i ≡ some v → P v
  at_all P [] i v all e = absurd (some-ne-none v (sym e))
  at_all P (x ∷ xs) zero v all e = subst P (some-injective x v e) (All-head P x xs all)
  at_all P (x ∷ xs) (suc i) v all e = at_all P xs i v (All-tail P x xs all) e

  pub all_among : (P : X → Type 0) (xs ys zs : List X) (y : X) → xs ≡ zs ++ y ∷ ys → All P xs → P y
  all_among P xs ys zs y is all =
      let long : length xs ≡ length zs + suc (length ys) = ap (λ (l : List X). length l) is ∙ length-append zs (y ∷ ys) in
      subst P (ap (λ (l : List X). get_or l (length zs) y) is ∙ get_or-append_seam zs y ys y) (all (length zs) y (omega arith))

  pub total_set : (f : X → ℕ) (xs : List X) (i : ℕ) (v w : X) → get_elem? xs i ≡ some v → sum_by f (set xs i w) + f v ≡ sum_by f xs + f w
  total_set f [] i v w e = absurd (some-ne-none v (sym e))
  total_set f (x ∷ xs) zero v w e =
      let same : f x ≡ f v = ap f (some-injective x v e) in omega (arith, same, sum_by-cons f w xs, sum_by-cons f x xs)
  total_set f (x ∷ xs) (suc i) v w e =
      let rest = total_set f xs i v w e in omega (arith, rest, sum_by-cons f x (set xs i w), sum_by-cons f x xs)

  pub total_one : (f : X → ℕ) (x : X) → sum_by f (x ∷ []) ≡ f x
  total_one f x = sum_by-cons f x [] ∙ omega arith

  pub total_both : (f g : X → ℕ) (xs : List X) → sum_by (λ x. f x + g x) xs ≡ sum_by f xs + sum_by g xs
  total_both f g [] = omega arith
  total_both f g (x ∷ xs) =
      let rest = total_both f g xs in omega (arith, rest, sum_by-cons (λ y. f y + g y) x xs, sum_by-cons f x xs, sum_by-cons g x xs)

  -- what one has is no more than all have
  pub total_least : (f : X → ℕ) (xs : List X) (i : ℕ) (v : X) → get_elem? xs i ≡ some v → f v ≤ sum_by f xs
  total_least f [] i v e = absurd (some-ne-none v (sym e))
  total_least f (x ∷ xs) zero v e =
      let same : f x ≡ f v = ap f (some-injective x v e) in omega (arith, same, sum_by-cons f x xs)
  total_least f (x ∷ xs) (suc i) v e = let rest = total_least f xs i v e in omega (arith, rest, sum_by-cons f x xs)

  -- where all have nothing of m, each has nothing
  nothing : (m : X → ℕ) (P : X → Type 0) → ((x : X) → m x ≡ 0 → P x) → (xs : List X) → sum_by m xs ≡ 0 → All P xs
  nothing m P idle [] none_left = All-nil P
  nothing m P idle (x ∷ xs) none_left =
      let cons = sum_by-cons m x xs in
      All-cons P x xs (idle x (omega (arith, cons, none_left))) (nothing m P idle xs (omega (arith, cons, none_left)))

  -- Where one has all of m, each other has nothing of it.
  pub all_set_only : (m : X → ℕ) (P : X → Type 0) → ((x : X) → m x ≡ 0 → P x) → (xs : List X) (i : ℕ) (v w : X)
      → get_elem? xs i ≡ some v → sum_by m xs ≤ m v → P w → All P (set xs i w)
  all_set_only m P idle [] i v w e most p = absurd (some-ne-none v (sym e))
  all_set_only m P idle (x ∷ xs) zero v w e most p =
      let same : m x ≡ m v = ap m (some-injective x v e) in
      All-cons P w xs p (nothing m P idle xs (omega (arith, same, most, sum_by-cons m x xs)))
  all_set_only m P idle (x ∷ xs) (suc i) v w e most p =
      let cons = sum_by-cons m x xs in
      let least = total_least m xs i v e in
      All-cons P x (set xs i w) (idle x (omega (arith, cons, least, most))) (all_set_only m P idle xs i v w e (omega (arith, cons, most)) p)

  -- so whoever has all of m has all of what comes with it
  zero_total : (m f : X → ℕ) → ((x : X) → m x ≡ 0 → f x ≡ 0) → (xs : List X) → sum_by m xs ≡ 0 → sum_by f xs ≡ 0
  zero_total m f idle [] none_left = refl
  zero_total m f idle (x ∷ xs) none_left =
      let cons = sum_by-cons m x xs in
      let here = idle x (omega (arith, cons, none_left)) in
      let rest = zero_total m f idle xs (omega (arith, cons, none_left)) in omega (arith, here, rest, sum_by-cons f x xs)

  pub total_only : (m f : X → ℕ) → ((x : X) → m x ≡ 0 → f x ≡ 0) → (xs : List X) (i : ℕ) (v : X)
      → get_elem? xs i ≡ some v → sum_by m xs ≤ m v → sum_by f xs ≡ f v
  total_only m f idle [] i v e most = absurd (some-ne-none v (sym e))
  total_only m f idle (x ∷ xs) zero v e most =
      let same : m x ≡ m v = ap m (some-injective x v e) in
      let same' : f x ≡ f v = ap f (some-injective x v e) in
      let rest = zero_total m f idle xs (omega (arith, same, most, sum_by-cons m x xs)) in omega (arith, same', rest, sum_by-cons f x xs)
  total_only m f idle (x ∷ xs) (suc i) v e most =
      let cons = sum_by-cons m x xs in
      let least = total_least m xs i v e in
      let here = idle x (omega (arith, cons, least, most)) in
      let rest = total_only m f idle xs i v e (omega (arith, cons, most)) in omega (arith, here, rest, sum_by-cons f x xs)

  -- where there is something in all, someone has something
  pub someone : (f : X → ℕ) (xs : List X) → 0 < sum_by f xs → Any (λ x. 0 < f x) xs
  someone f [] some_left = absurd (omega arith)
  someone f (x ∷ xs) some_left = who (f x) refl (someone f xs)
    where
      who : (n : ℕ) → f x ≡ n → (0 < sum_by f xs → Any (λ y. 0 < f y) xs) → Any (λ y. 0 < f y) (x ∷ xs)
      who zero is behind = let rest = behind (omega (arith, is, some_left, sum_by-cons f x xs)) in (suc rest.0, rest.1, omega (arith, rest.2), rest.3, rest.4)
      who (suc n) is behind = (0, x, omega arith, refl, omega (arith, is))
