-- Numbers of names are in range.
use Rattle.std.proofs.Common.{◌≡◌, ◌==◌, ℕ, ◌+◌, ◌<◌, ◌≤◌, suc, Bool, true, false, not, cond, List, [], ◌∷◌, ◌++◌, map, length, unwrap_or, nat_lt, Some, None, refl, arith, length-append}
use Rattle.std.specs.List.{All, list_any, position_or_len}
use Rattle.std.specs.Str.{bytes_eq}
use Rattle.std.proofs.lemmas.Bool.{true≢false, ltb-true}
use Rattle.std.proofs.lemmas.List.Elements.{All-nil, All-cons, All-append, All-map}
use Rattle.indexmap.specs.IndexSet.{insert_key, insert_all}
use Rattle.plan_table.specs.Forms.{Text}
use Rattle.plan_reader.specs.NameNumbers.{has_name, number_of}
use Rattle.plan_reader.specs.Names.{once}

unnumbered : (n m : ℕ) (b : Bool) → 0 < m → (b ≡ true → n < m) → unwrap_or (cond b (Some n) None) 0 < m
unnumbered n m true some lt = lt refl
unnumbered n m false some lt = some

pub number_within : (names : List Text) (t : Text) → 0 < length names → number_of names t < length names
number_within names t some =
    let place = position_or_len (bytes_eq t) names in
    unnumbered place (length names) (nat_lt place (length names)) some (ltb-true place (length names))

pub some_name : (names : List Text) (t : Text) → not (has_name names t) ≡ false → 0 < length names
some_name [] t h = absurd (true≢false h)
some_name (n ∷ names) t h = omega arith

-- ---- once each

abbrev pub insert : List ℕ → ℕ → List ℕ
insert = insert_key (λ m n. m == n)

long_insert : (ks : List ℕ) (k : ℕ) (b : Bool) → length (cond b ks (ks ++ k ∷ [])) ≤ length ks + 1
long_insert ks k true = omega arith
long_insert ks k false = omega (arith, length-append ks (k ∷ []))

long_all : (ks ns : List ℕ) → length (insert_all (λ m n. m == n) ks ns) ≤ length ks + length ns
long_all ks [] = omega arith
long_all ks (n ∷ ns) = omega (arith, long_all (insert ks n) ns, long_insert ks n (list_any (λ k. n == k) ks))

pub length-once : (ns : List ℕ) → length (once ns) ≤ length ns
length-once ns = omega (arith, long_all [] ns)

one_more : (P : ℕ → Type 0) (ks : List ℕ) (k : ℕ) (b : Bool) → All P ks → P k → All P (cond b ks (ks ++ k ∷ []))
one_more P ks k true all p = all
one_more P ks k false all p = All-append P ks (k ∷ []) all (All-cons P k [] p (All-nil P))

all_inserted : (P : ℕ → Type 0) (ks ns : List ℕ) → All P ks → All P ns → All P (insert_all (λ m n. m == n) ks ns)
all_inserted P ks [] all new = all
all_inserted P ks (n ∷ ns) all new =
    all_inserted P (insert ks n) ns (one_more P ks n (list_any (λ k. n == k) ks) all (new 0 n (omega arith))) (λ k d within. new (suc k) d (omega arith))

pub All-once : (P : ℕ → Type 0) (ns : List ℕ) → All P ns → All P (once ns)
All-once P ns all = all_inserted P [] ns (All-nil P) all

-- the numbers of names are in range
pub numbers_within : (names ts : List Text) → 0 < length names → All (λ n. n < length names) (once (map (number_of names) ts))
numbers_within names ts some = All-once (λ n. n < length names) (map (number_of names) ts) (All-map (λ n. n < length names) (number_of names) ts (λ k d within. number_within names _ some))
