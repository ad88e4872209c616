-- Loops that push what each element gives.
use Rattle.std.proofs.Common.{◌≡◌, ◌<◌, ◌≤◌, ◌+◌, ℕ, Bool, true, List, [], ◌∷◌, ◌++◌, map, length, take, get_or, append_assoc, ap, sym, ◌∙◌}
use Rattle.std.proofs.lemmas.Bool.{and_parts}
use Rattle.std.proofs.lemmas.List.{append-nil, map-append, take_all, take_more, nil_from_length}
use Rattle.std.specs.List.{list_all}
use Rattle.std.specs.Vec.Iter.{into_iter_items, into_iter_len}
use Rattle.std.specs.declared.vec.IntoIter.{IntoIter}

-- ---- over elements that are borrowed

pub mapped_more : {X Y : Type 0} (f : X → Y) (xs : List X) (i : ℕ) (x : X) (y : Y) (done made : List Y) → i < length xs → x ≡ get_or xs i x → y ≡ f x → made ≡ done ++ y ∷ [] → done ≡ map f (take i xs)
    → made ≡ map f (take (i + 1) xs)
mapped_more f xs i x y done made within is gives pushed so_far =
    pushed
    ∙ ap (λ z. done ++ z ∷ []) (gives ∙ ap f is)
    ∙ ap (λ ys. ys ++ f (get_or xs i x) ∷ []) so_far
    ∙ sym (ap (map f) (take_more xs i x within) ∙ map-append f (take i xs) (get_or xs i x ∷ []))

-- the same of what is seen of the elements that are pushed
pub seen_more : {X Y W : Type 0} (see : W → Y) (f : X → Y) (xs : List X) (i : ℕ) (x : X) (w : W) (done made : List W) → i < length xs → x ≡ get_or xs i x → see w ≡ f x → made ≡ done ++ w ∷ []
    → map see done ≡ map f (take i xs) → map see made ≡ map f (take (i + 1) xs)
seen_more see f xs i x w done made within is gives pushed so_far =
    mapped_more f xs i x (see w) (map see done) (map see made) within is gives (ap (map see) pushed ∙ map-append see done (w ∷ [])) so_far

pub mapped_all : {X Y : Type 0} (f : X → Y) (xs : List X) (i : ℕ) (done : List Y) → length xs ≤ i → done ≡ map f (take i xs) → done ≡ map f xs
mapped_all f xs i done past so_far = so_far ∙ ap (map f) (take_all i xs past)

-- the same where what is seen of a pushed element is the element
pub shown_more : {X W : Type 0} (see : W → X) (xs : List X) (i : ℕ) (x : X) (w : W) (done made : List W) → i < length xs → x ≡ get_or xs i x → see w ≡ x → made ≡ done ++ w ∷ []
    → map see done ≡ take i xs → map see made ≡ take (i + 1) xs
shown_more see xs i x w done made within is shown pushed so_far =
    ap (map see) pushed
    ∙ map-append see done (w ∷ [])
    ∙ ap (λ y. map see done ++ y ∷ []) (shown ∙ is)
    ∙ ap (λ ys. ys ++ get_or xs i x ∷ []) so_far
    ∙ sym (take_more xs i x within)

-- ---- over elements that are taken

pub taken_more : {X Y : Type 0} (f : X → Y) (s t : List X) (x : X) (y : Y) (done made all : List Y) → s ≡ x ∷ t → y ≡ f x → made ≡ done ++ y ∷ [] → done ++ map f s ≡ all → made ++ map f t ≡ all
taken_more f s t x y done made all step gives pushed so_far =
    ap (λ ys. ys ++ map f t) pushed
    ∙ append_assoc done (y ∷ []) (map f t)
    ∙ ap (λ z. done ++ (z ∷ map f t)) gives
    ∙ ap (λ xs. done ++ map f xs) (sym step)
    ∙ so_far

-- the same of what is seen of the elements that are pushed
pub seen_taken_more : {X Y W : Type 0} (see : W → Y) (f : X → Y) (s t : List X) (x : X) (w : W) (done made : List W) (all : List Y) → s ≡ x ∷ t → see w ≡ f x → made ≡ done ++ w ∷ []
    → map see done ++ map f s ≡ all → map see made ++ map f t ≡ all
seen_taken_more see f s t x w done made all step gives pushed so_far =
    taken_more f s t x (see w) (map see done) (map see made) all step gives (ap (map see) pushed ∙ map-append see done (w ∷ [])) so_far

-- where none is left
pub ended : {X Z : Type 0} (it : IntoIter X Z) → into_iter_len it ≡ 0 → into_iter_items it ≡ []
ended it e = nil_from_length (into_iter_items it) (sym it.rest.ok.0 ∙ e)

pub taken_all : {X Y : Type 0} (f : X → Y) (s : List X) (done all : List Y) → s ≡ [] → done ++ map f s ≡ all → done ≡ all
taken_all f s done all none so_far = sym (append-nil done) ∙ ap (λ xs. done ++ map f xs) (sym none) ∙ so_far

-- a test of all elements that are left
pub first_passes : {X : Type 0} (p : X → Bool) (s t : List X) (x : X) → s ≡ x ∷ t → list_all p s ≡ true → p x ≡ true
first_passes p s t x step all = (and_parts (p x) (list_all p t) (ap (list_all p) (sym step) ∙ all)).0

pub rest_passes : {X : Type 0} (p : X → Bool) (s t : List X) (x : X) → s ≡ x ∷ t → list_all p s ≡ true → list_all p t ≡ true
rest_passes p s t x step all = (and_parts (p x) (list_all p t) (ap (list_all p) (sym step) ∙ all)).1
