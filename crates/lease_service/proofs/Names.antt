-- Names that are numbered in their order.
use Rattle.std.proofs.Common.{◌≡◌, ◌+◌, ◌<◌, ℕ, zero, suc, Bool, false, cond, not, ◌||◌, List, Option, [], ◌∷◌, ◌++◌, map, length, take, get_or, arith, refl, ap, sym, ◌∙◌, Global, String, string_bytes}
use Rattle.std.specs.Cmp.{IsEquivalence}
use Rattle.std.specs.List.{IsDistinct, list_any, position, position_or_len}
use Rattle.std.specs.Str.{bytes_eq}
use Rattle.std.specs.Option.{option_map}
use Rattle.std.proofs.lemmas.Cmp.{nat_list_eq_equiv}
use Rattle.std.proofs.lemmas.List.{length-map, map-append, take_more}
use Rattle.std.proofs.lemmas.Map.Keys.{apart_from_distinct, IsDistinct-tail}
use Rattle.resource_lock.specs.ProjectLocks.{project_lock}
use Rattle.lease_service.specs.ProjectLocks.{ProjectLocksView, lock_of, project_locks_view}
use Rattle.lease_service.specs.declared.project_locks.ProjectLocks.TheInside.{Inside}

module _ {X Y : Type 0} (p : Y → Bool) (h : X → Y) where
  any_of_map : (xs : List X) → list_any p (map h xs) ≡ list_any (λ x. p (h x)) xs
  any_of_map [] = refl
  any_of_map (x ∷ xs) = ap (λ b. p (h x) || b) (any_of_map xs)

  place_of_map : (xs : List X) → position_or_len p (map h xs) ≡ position_or_len (λ x. p (h x)) xs
  place_of_map [] = refl
  place_of_map (x ∷ xs) = ap (λ n. cond (not (p (h x))) (1 + n) 0) (place_of_map xs)

  pub position_of_map : (xs : List X) → position p (map h xs) ≡ position (λ x. p (h x)) xs
  position_of_map xs = rw (place_of_map xs, length-map xs h) refl

-- of distinct keys, none before a place is that of the place
pub none_before : {K : Type 0} {R : K → K → Bool} → IsEquivalence R → (ks : List K) (i : ℕ) (d : K) → i < length ks → IsDistinct R ks → list_any (R (get_or ks i d)) (take i ks) ≡ false
none_before o [] i d within distinct = absurd (omega arith)
none_before o (k ∷ ks) zero d within distinct = refl
none_before {K} {R} o (k ∷ ks) (suc i) d within distinct =
    ap (λ b. b || list_any (R (get_or ks i d)) (take i ks)) (o.symm (get_or ks i d) k ∙ apart_from_distinct R (k ∷ ks) 0 (suc i) d distinct (omega arith) within)
    ∙ none_before o ks i d (omega arith) (IsDistinct-tail R k ks distinct)

-- one more name goes last
pub inserted : (names : List (List ℕ)) (keys new : List (String Global)) (i : ℕ) (d : List ℕ) (key : String Global) → i < length names → IsDistinct bytes_eq names → map string_bytes keys ≡ take i names → string_bytes key ≡ get_or names i d
    → new ≡ cond (list_any (λ k. bytes_eq (string_bytes key) (string_bytes k)) keys) keys (keys ++ key ∷ []) → map string_bytes new ≡ take (i + 1) names
inserted names keys new i d key within distinct so_far is made =
    let fresh : list_any (λ (k : String Global). bytes_eq (string_bytes key) (string_bytes k)) keys ≡ false =
    sym (any_of_map (bytes_eq (string_bytes key)) string_bytes keys)
    ∙ (λ j. list_any (bytes_eq (is j)) (so_far j))
    ∙ none_before nat_list_eq_equiv names i d within distinct in
    ap (map string_bytes) (made ∙ ap (λ b. cond b keys (keys ++ key ∷ [])) fresh)
    ∙ map-append string_bytes keys (key ∷ [])
    ∙ (λ j. so_far j ++ is j ∷ [])
    ∙ sym (take_more names i d within)

-- the lock of a name that is found at a place, or nowhere
pub lock_found : (locks : ProjectLocksView) (inside : Inside) (name shown : List ℕ) (r : Option ℕ) → project_locks_view inside ≡ locks → shown ≡ name
    → r ≡ position (λ k. bytes_eq shown (string_bytes k)) inside.names.keys → option_map (project_lock inside.parallel) r ≡ lock_of locks name
lock_found locks inside name shown r view same found =
    ap (option_map (project_lock inside.parallel)) (found ∙ sym (position_of_map (bytes_eq shown) string_bytes inside.names.keys))
    ∙ (λ j. lock_of (view j) (same j))
