-- What all workers reserved, beside what their desks sent.
use Rattle.std.proofs.Common.{◌≡◌, ℕ, suc, ◌+◌, ◌<◌, ◌≤◌, List, [], ◌∷◌, ◌++◌, length, get_or, map, take, drop, refl, sym, ap, ◌∙◌, arith}
use Rattle.std.specs.Prelude.{sum_by}
use Rattle.std.proofs.lemmas.List.{take-append-drop}
use Rattle.std.proofs.lemmas.List.Sums.{sum_by-append, sum_by-cons}

-- what each of two lists has of two numbers, added up
pub in_sum : {W : Type 0} (f g : W → ℕ) (old new : List W) → length new ≡ length old
    → ((i : ℕ) (w : W) → i < length old → f (get_or new i w) + g (get_or old i w) ≤ f (get_or old i w) + g (get_or new i w))
    → sum_by f new + sum_by g old ≤ sum_by f old + sum_by g new
in_sum f g [] [] long each = omega arith
in_sum f g [] (x ∷ new) long each = absurd (omega (arith, long))
in_sum f g (y ∷ old) [] long each = absurd (omega (arith, long))
in_sum f g (y ∷ old) (x ∷ new) long each =
    let first : f x + g y ≤ f y + g x = each 0 x (omega arith) in
    let rest : sum_by f new + sum_by g old ≤ sum_by f old + sum_by g new = in_sum f g old new (omega (arith, long)) (λ i w low. each (suc i) w (omega (arith, low))) in
    omega (arith, first, rest, sum_by-cons f x new, sum_by-cons f y old, sum_by-cons g x new, sum_by-cons g y old)

-- what is the same of each is the same of all
pub same_sum : {D : Type 0} (f : D → ℕ) (old new : List D) → length new ≡ length old → ((i : ℕ) (d : D) → f (get_or new i d) ≡ f (get_or old i d)) → sum_by f new ≡ sum_by f old
same_sum f [] [] long each = refl
same_sum f [] (x ∷ new) long each = absurd (omega (arith, long))
same_sum f (y ∷ old) [] long each = absurd (omega (arith, long))
same_sum f (y ∷ old) (x ∷ new) long each =
    let first : f x ≡ f y = each 0 x in
    let rest : sum_by f new ≡ sum_by f old = same_sum f old new (omega (arith, long)) (λ i d. each (suc i) d) in
    omega (arith, first, rest, sum_by-cons f x new, sum_by-cons f y old)

-- a sum over what each is made of
pub sum_of_parts : {W D : Type 0} (part : W → D) (f : D → ℕ) (ws : List W) (ds : List D) → map part ws ≡ ds → sum_by f ds ≡ sum_by (λ w. f (part w)) ws
sum_of_parts part f ws ds is = ap (sum_by f) (sym is) ∙ over part f ws
  where
    over : {W D : Type 0} (part : W → D) (f : D → ℕ) (ws : List W) → sum_by f (map part ws) ≡ sum_by (λ w. f (part w)) ws
    over part f [] = refl
    over part f (w ∷ ws) = let rest = over part f ws in omega (arith, rest, sum_by-cons f (part w) (map part ws), sum_by-cons (λ w. f (part w)) w ws)

-- the first n of the old desks worked, and lie in front of the others again
pub with_the_rest : {D : Type 0} (f : D → ℕ) (n : ℕ) (old worked new : List D) → new ≡ worked ++ drop n old → (before after : ℕ)
    → sum_by f worked + before ≤ sum_by f (take n old) + after → sum_by f new + before ≤ sum_by f old + after
with_the_rest f n old worked new back before after h =
    let whole : sum_by f old ≡ sum_by f (take n old) + sum_by f (drop n old) = ap (sum_by f) (sym (take-append-drop n old)) ∙ sum_by-append f (take n old) (drop n old) in
    let now : sum_by f new ≡ sum_by f worked + sum_by f (drop n old) = ap (sum_by f) back ∙ sum_by-append f worked (drop n old) in
    omega (arith, h, whole, now)
