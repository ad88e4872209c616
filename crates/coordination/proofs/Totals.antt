-- What the workers have each comes to what all have together.
use Rattle.std.proofs.Common.{◌≡◌, ℕ, zero, suc, eqb, cond, ◌+◌, ◌<◌, ◌≤◌, Bool, true, false, List, [], ◌∷◌, ◌++◌, map, length, count_by, sum_by, inl, inr, refl, sym, ap, ◌∙◌, arith, eq-eqb, ne_eqb}
use Rattle.std.proofs.lemmas.Bool.{cases_lt}
use Rattle.std.specs.List.{All}
use Rattle.std.proofs.lemmas.List.Elements.{All-head, All-tail}
use Rattle.std.proofs.lemmas.List.Sums.{sum_by-append, sum_by-cons}
use Rattle.lock_journal.specs.Names.{WorkerId, Entry, Closed, closed_at, closed_by, closed_in}
use Rattle.coordination.specs.Names.{entry_count_of, workers_from}
use Rattle.coordination.specs.Together.{closed_by_all}

-- a sum by its recursion
abbrev pub total : {X : Type 0} → (X → ℕ) → List X → ℕ
total f [] = 0
total f (x ∷ xs) = f x + total f xs

pub is_total : {X : Type 0} (f : X → ℕ) (xs : List X) → sum_by f xs ≡ total f xs
is_total f [] = refl
is_total f (x ∷ xs) = sum_by-cons f x xs ∙ ap (λ (n : ℕ). f x + n) (is_total f xs)

pub total-same : {X : Type 0} (f g : X → ℕ) (xs : List X) → All (λ x. f x ≡ g x) xs → total f xs ≡ total g xs
total-same f g [] same = refl
total-same f g (x ∷ xs) same =
    let here : f x ≡ g x = All-head (λ x. f x ≡ g x) x xs same in
    let rest : total f xs ≡ total g xs = total-same f g xs (All-tail (λ x. f x ≡ g x) x xs same) in omega arith

pub total-map : {X Y : Type 0} (f : Y → ℕ) (g : X → Y) (xs : List X) → total f (map g xs) ≡ total (λ x. f (g x)) xs
total-map f g [] = refl
total-map f g (x ∷ xs) = ap (λ (n : ℕ). f (g x) + n) (total-map f g xs)

total-none : {X : Type 0} (xs : List X) → total (λ _. 0) xs ≡ 0
total-none [] = refl
total-none {X} (x ∷ xs) = let rest : total {X = X} (λ _. 0) xs ≡ 0 = total-none xs in omega arith

total-plus : {X : Type 0} (f g : X → ℕ) (xs : List X) → total (λ x. f x + g x) xs ≡ total f xs + total g xs
total-plus f g [] = refl
total-plus f g (x ∷ xs) = let rest : total (λ x. f x + g x) xs ≡ total f xs + total g xs = total-plus f g xs in omega arith

total-ones : {X : Type 0} (xs : List X) → total (λ _. 1) xs ≡ length xs
total-ones [] = refl
total-ones (x ∷ xs) = let rest : total (λ _. 1) xs ≡ length xs = total-ones xs in omega arith

-- one of the workers is this one
not_among : (v x w n : ℕ) → v < w → total (λ k. cond (eqb v k) x 0) (workers_from w n) ≡ 0
not_among v x w zero low = refl
not_among v x w (suc n) low =
    let here : cond (eqb v w) x 0 ≡ 0 = ap (λ b. cond b x 0) (ne_eqb v w (λ same. absurd (omega arith))) in
    let rest = not_among v x (suc w) n (omega arith) in omega arith

among : (v x w n : ℕ) → w ≤ v → v < w + n → total (λ k. cond (eqb v k) x 0) (workers_from w n) ≡ x
among v x w zero low high = absurd (omega arith)
among v x w (suc n) low high =
    elim (cases_lt w v) [
      | inl before ↦
          let here : cond (eqb v w) x 0 ≡ 0 = ap (λ b. cond b x 0) (ne_eqb v w (λ same. absurd (omega arith))) in
          let rest = among v x (suc w) n (omega arith) (omega arith) in omega arith
      | inr after ↦
          let same : v ≡ w = omega arith in
          let here : cond (eqb v w) x 0 ≡ x = ap (λ b. cond b x 0) (eq-eqb v w same) in
          let rest = not_among v x (suc w) n (omega arith) in omega arith
    ]

-- what the entries of a worker weigh
abbrev pub weight_of : (Entry → ℕ) → ℕ → List Entry → ℕ
weight_of weight w h = total (λ e. cond (eqb e.worker.0 w) (weight e) 0) h

-- together they weigh what all entries do
pub spread : (weight : Entry → ℕ) (n : ℕ) (h : List Entry) → All (λ e. e.worker.0 < n) h → total (λ w. weight_of weight w h) (workers_from 0 n) ≡ total weight h
spread weight n [] known = total-none (workers_from 0 n)
spread weight n (e ∷ h) known =
    let one : total (λ w. cond (eqb e.worker.0 w) (weight e) 0) (workers_from 0 n) ≡ weight e = among e.worker.0 (weight e) 0 n (omega arith) (let low = All-head (λ (x : Entry). x.worker.0 < n) e h known in omega arith) in
    let rest : total (λ w. weight_of weight w h) (workers_from 0 n) ≡ total weight h = spread weight n h (All-tail (λ (x : Entry). x.worker.0 < n) e h known) in
    total-plus (λ w. cond (eqb e.worker.0 w) (weight e) 0) (λ w. weight_of weight w h) (workers_from 0 n) ∙ (λ i. one i + rest i)

-- each entry weighs 1
pub one_each : (w : WorkerId) (h : List Entry) → entry_count_of w h ≡ weight_of (λ _. 1) w.0 h
one_each w h = is_total (λ (e : Entry). cond (eqb e.worker.0 w.0) 1 0) h

pub all_ones : (h : List Entry) → total (λ (e : Entry). 1) h ≡ length h
all_ones h = total-ones h

-- each entry weighs the closings of a sort
abbrev pub sorted : (Closed → Bool) → Entry → ℕ
sorted sort e = count_by sort (closed_in e.changes e.kind)

count_where : (sort : Closed → Bool) (b : Bool) (ds : List Closed) → count_by sort (cond b ds []) ≡ cond b (count_by sort ds) 0
count_where sort true ds = refl
count_where sort false ds = refl

pub closed_each : (sort : Closed → Bool) (w : WorkerId) (h : List Entry) → count_by sort (closed_by w h) ≡ weight_of (sorted sort) w.0 h
closed_each sort w [] = refl
closed_each sort w (e ∷ h) =
    let both : count_by sort (closed_at w e ++ closed_by w h) ≡ count_by sort (closed_at w e) + count_by sort (closed_by w h) = sum_by-append (λ (d : Closed). cond (sort d) 1 0) (closed_at w e) (closed_by w h) in
    both ∙ (λ i. count_where sort (eqb e.worker.0 w.0) (closed_in e.changes e.kind) i + closed_each sort w h i)

pub closed_all : (sort : Closed → Bool) (h : List Entry) → total (sorted sort) h ≡ count_by sort (closed_by_all h)
closed_all sort [] = refl
closed_all sort (e ∷ h) =
    let both : count_by sort (closed_in e.changes e.kind ++ closed_by_all h) ≡ sorted sort e + count_by sort (closed_by_all h) = sum_by-append (λ (d : Closed). cond (sort d) 1 0) (closed_in e.changes e.kind) (closed_by_all h) in
    ap (λ (n : ℕ). sorted sort e + n) (closed_all sort h) ∙ sym both
