-- Passes by the numbers of their workers.
use Rattle.std.proofs.Common.{◌≡◌, ℕ, zero, suc, ◌+◌, ◌<◌, List, [], ◌∷◌, length, get_or, map, refl, sym, ap, ◌∙◌, subst, arith}
use Rattle.std.specs.List.{All}
use Rattle.std.proofs.lemmas.List.{get_or-map, length-map, ext_get_or}
use Rattle.resource_lock.specs.declared.ids.WorkerId.{WorkerId}
use Rattle.coordination.specs.Names.{PassView, workers_from}

-- an element, whatever the default
pub element : {X : Type 0} (xs : List X) (i : ℕ) → i < length xs → X
element [] i low = absurd (omega (arith, low))
element (x ∷ xs) i low = get_or (x ∷ xs) i x

-- what holds of each part holds of the part of each
pub of_each : {W V : Type 0} (part : W → V) (P : V → Type 0) (ws : List W) (vs : List V) → map part ws ≡ vs → All P vs → All (λ w. P (part w)) ws
of_each part P ws vs is all k d low =
    let l : k < length (map part ws) = omega (arith, length-map ws part, low) in
    subst P (get_or-map part ws k d (part d) low) (subst (All P) (sym is) all k (part d) l)

at_number : (w n i d : ℕ) → i < n → get_or (workers_from w n) i d ≡ w + i
at_number w zero i d low = absurd (omega (arith, low))
at_number w (suc n) zero d low = omega arith
at_number w (suc n) (suc i) d low = let l : i < n = omega arith in let k = at_number (suc w) n i d l in omega arith

numbers_count : (w n : ℕ) → length (workers_from w n) ≡ n
numbers_count w zero = refl
numbers_count w (suc n) = let e = numbers_count (suc w) n in omega arith

pub passes_count : (ps : List PassView) (n : ℕ) → map (λ (p : PassView). p.sight.worker.0) ps ≡ workers_from 0 n → length ps ≡ n
passes_count ps n are = sym (length-map ps (λ (p : PassView). p.sight.worker.0)) ∙ (ap (λ (l : List ℕ). length l) are ∙ numbers_count 0 n)

pub worker_at : (ps : List PassView) (n i : ℕ) (d : PassView) → map (λ (p : PassView). p.sight.worker.0) ps ≡ workers_from 0 n → i < n → (get_or ps i d).sight.worker ≡ record { 0 = i }
worker_at ps n i d are low =
    let count = passes_count ps n are in
    let l : i < length ps = omega (arith, count, low) in
    let e : (get_or ps i d).sight.worker.0 ≡ i = sym (get_or-map (λ (p : PassView). p.sight.worker.0) ps i d 0 l) ∙ (ap (λ (l : List ℕ). get_or l i 0) are ∙ (at_number 0 n i 0 low ∙ add-zero i)) in
    ap (λ (k : ℕ). record { 0 = k }) e
  where
    add-zero : (i : ℕ) → 0 + i ≡ i
    add-zero i = omega arith

-- passes with the same workers have the same numbers
pub same_numbers : (old new : List PassView) → length new ≡ length old → ((i : ℕ) (p : PassView) → i < length old → (get_or new i p).sight.worker ≡ (get_or old i p).sight.worker) → map (λ (p : PassView). p.sight.worker.0) new ≡ map (λ (p : PassView). p.sight.worker.0) old
same_numbers old new long same = ext_get_or 0 (map f new) (map f old) (length-map new f ∙ (long ∙ sym (length-map old f))) at
  where
    f : PassView → ℕ
    f p = p.sight.worker.0

    at : (i : ℕ) → i < length (map f new) → get_or (map f new) i 0 ≡ get_or (map f old) i 0
    at i low =
        let l : i < length new = omega (arith, length-map new f, low) in
        let m : i < length old = omega (arith, l, long) in
        let p : PassView = element new i l in
        get_or-map f new i p 0 l ∙ (ap (λ (w : WorkerId). w.0) (same i p m) ∙ sym (get_or-map f old i p 0 m))
