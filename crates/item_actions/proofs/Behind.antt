-- What is counted behind a place is what the bytes from there on give by themselves.
use Rattle.std.proofs.Common.{◌≡◌, ℕ, zero, suc, ◌+◌, ◌-◌, ◌<◌, ◌≤◌, Bool, true, false, cond, ◌&&◌, leb, List, ◌∷◌, length, take, drop, refl, sym, ap, ◌∙◌, arith, length-drop}
use Rattle.std.specs.Str.{bytes_eq}
use Rattle.std.proofs.lemmas.Bool.Decides.{nat_tests}
use Rattle.std.proofs.lemmas.List.{drop-drop}
use Rattle.memchr.specs.Find.{OccursAt, occurs_at, match_len, matches_from, matches}
use Rattle.memchr.proofs.lemmas.MatchLemmas.{matches-none, matches-first}
use Rattle.item_actions.specs.Bytes.{occurrences}

same_length : (found : Bool) (i j : ℕ) (xs others ys rest : List ℕ) → length xs ≡ length ys → length others ≡ length rest
    → length (cond found (i ∷ xs) others) ≡ length (cond found (j ∷ ys) rest)
same_length true i j xs others ys rest e d = ap suc e
same_length false i j xs others ys rest e d = d

module _ (bytes needle : List ℕ) (p : ℕ) (within : p ≤ length bytes) where
  occurs_behind : (i : ℕ) → occurs_at bytes needle (p + i) ≡ occurs_at (drop p bytes) needle i
  occurs_behind i =
      let left = length-drop p bytes in
      let fits : leb (p + i + length needle) (length bytes) ≡ leb (i + length needle) (length (drop p bytes)) = grind (arith, nat_tests) in
      (λ j. fits j && bytes_eq (take (length needle) (sym (drop-drop i p bytes) j)) needle)

  found_behind : (s i n : ℕ) → length (matches_from bytes needle s (p + i) n) ≡ length (matches_from (drop p bytes) needle s i n)
  unfolding matches_from
  found_behind s i zero = refl
  found_behind (suc s) i (suc n) =
      let next : p + i + 1 ≡ p + (i + 1) = omega arith in
      ap (λ k. length (matches_from bytes needle s k n)) next ∙ found_behind s (i + 1) n
  found_behind zero i (suc n) =
      let rest = drop p bytes in
      let past = match_len needle - 1 in
      let next : p + i + 1 ≡ p + (i + 1) = omega arith in
      (λ j. length (cond (occurs_behind i j) ((p + i) ∷ matches_from bytes needle past (p + i + 1) n) (matches_from bytes needle 0 (p + i + 1) n)))
      ∙ same_length (occurs_at rest needle i) (p + i) i (matches_from bytes needle past (p + i + 1) n) (matches_from bytes needle 0 (p + i + 1) n)
      (matches_from rest needle past (i + 1) n) (matches_from rest needle 0 (i + 1) n)
      (ap (λ k. length (matches_from bytes needle past k n)) next ∙ found_behind past (i + 1) n)
      (ap (λ k. length (matches_from bytes needle 0 k n)) next ∙ found_behind 0 (i + 1) n)

  counted_behind : length (matches bytes needle p) ≡ occurrences needle (drop p bytes)
  unfolding occurrences
  counted_behind =
      let same : p ≡ p + 0 = omega arith in
      let left : length bytes + 1 - p ≡ length (drop p bytes) + 1 - 0 = omega (arith, length-drop p bytes) in
      (λ j. length (matches_from bytes needle 0 (same j) (left j))) ∙ found_behind 0 0 (length (drop p bytes) + 1 - 0)

pub nowhere : (needle bytes : List ℕ) → ((k : ℕ) → ¬ OccursAt bytes needle k) → occurrences needle bytes ≡ 0
unfolding occurrences
nowhere needle bytes none = ap length (matches-none bytes needle 0 (λ k low high. none k))

starts_list : (needle bytes : List ℕ) → occurrences needle bytes ≡ length (matches bytes needle 0)
unfolding occurrences
starts_list needle bytes = refl

pub first : (needle bytes : List ℕ) (k : ℕ) → 1 ≤ length needle → OccursAt bytes needle k → ((i : ℕ) → i < k → ¬ OccursAt bytes needle i)
    → occurrences needle bytes ≡ 1 + occurrences needle (drop (k + length needle) bytes)
first needle bytes k some occurs before =
    let behind : k + match_len needle ≡ k + length needle = omega arith in
    let rest : length (matches bytes needle (k + match_len needle)) ≡ occurrences needle (drop (k + length needle) bytes) =
    ap (λ p. length (matches bytes needle p)) behind ∙ counted_behind bytes needle (k + length needle) occurs.fits in
    let one : length (matches bytes needle 0) ≡ suc (length (matches bytes needle (k + match_len needle))) =
    ap length (matches-first bytes needle 0 k (record { low = omega arith; high = omega (arith, occurs.fits); before = λ i low high. before i high }) occurs) in
    omega (arith, starts_list needle bytes, one, rest)
