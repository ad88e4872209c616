-- How much of a needle agrees with the bytes from a place on.
use Rattle.std.proofs.Common.{◌≡◌, ℕ, zero, suc, ◌+◌, ◌*◌, ◌/◌, ◌%◌, ◌<◌, ◌≤◌, min, Bool, true, false, cond, ◌&&◌, eqb, List, [], ◌∷◌, length, take, drop, map, get_or, count_by, refl, sym, ap, ◌∙◌, arith, ⊎_elim, bit_and}
use Rattle.std.specs.List.{range_with_len}
use Rattle.std.specs.Int.Bits.{and_step}
use Rattle.std.specs.Simd.Lanes.{mask_l}
use Rattle.std.proofs.lemmas.Bool.{and_from, and_parts, eqb-true, eq-eqb, cases_eq}
use Rattle.std.proofs.lemmas.Bool.Decides.{same_from_decides}
use Rattle.std.proofs.lemmas.List.{ext_get_or, get_or-map, length-map}
use Rattle.std.proofs.lemmas.List.FromFn.{length-map-range_with_len, get_or-map-range_with_len}
use Rattle.std.proofs.lemmas.Simd.{length-chunk, get_or-chunk}
use Rattle.memchr.specs.Find.{occurs_at}
use Rattle.memchr.proofs.lemmas.MatchLemmas.{OccursAt-true, occurs_at-true}
use Rattle.item_actions.specs.Bytes.{agrees}
use Rattle.item_actions.proofs.Counts.{count_range-same, count_by-stricter}

both_bits : (a b : Bool) → ◌≡◌ {A = ℕ} (min (cond a 1 0) (cond b 1 0)) (cond (a && b) 1 0)
both_bits true true = refl
both_bits true false = refl
both_bits false true = refl
both_bits false false = refl

half : (a : Bool) (m : ℕ) → (cond a 1 0 + 2 * m) / 2 ≡ m
half true m = omega arith
half false m = omega arith

lowest : (a : Bool) (m : ℕ) → (cond a 1 0 + 2 * m) % 2 ≡ cond a 1 0
lowest true m = omega arith
lowest false m = omega arith

-- a mask of those that pass both tests
both_masks : (p q : ℕ → Bool) (xs : List ℕ) → bit_and (mask_l (map p xs)) (mask_l (map q xs)) ≡ mask_l (map (λ x. p x && q x) xs)
both_masks p q [] = refl
both_masks p q (x ∷ xs) =
    let m = mask_l (map p xs) in
    let n = mask_l (map q xs) in
    let order : bit_and m n * 2 + cond (p x && q x) 1 0 ≡ cond (p x && q x) 1 0 + 2 * bit_and m n = omega arith in
    and_step (cond (p x) 1 0 + 2 * m) (cond (q x) 1 0 + 2 * n)
    ∙ (λ i. bit_and (half (p x) m i) (half (q x) n i) * 2 + min (lowest (p x) m i) (lowest (q x) n i))
    ∙ ap (λ k. bit_and m n * 2 + k) (both_bits (p x) (q x))
    ∙ order
    ∙ ap (λ k. cond (p x && q x) 1 0 + 2 * k) (both_masks p q xs)

module _ (bytes needle : List ℕ) where
  -- one byte more
  agrees-next : (n p : ℕ) → (agrees bytes needle n p && eqb (get_or bytes (p + n) 0) (get_or needle n 0)) ≡ agrees bytes needle (n + 1) p
  agrees-next n p =
      let more : suc n ≡ n + 1 = omega arith in
      ap (λ m. agrees bytes needle m p) more

  reads_from : (n p : ℕ) → agrees bytes needle n p ≡ true → (j : ℕ) → j < n → get_or bytes (p + j) 0 ≡ get_or needle j 0
  reads_from zero p agree j below = absurd (omega arith)
  reads_from (suc n) p agree j below =
      let parts = and_parts _ _ agree in
      ⊎_elim
      (λ last. ap (λ k. get_or bytes (p + k) 0) last ∙ eqb-true _ _ parts.1 ∙ ap (λ k. get_or needle k 0) (sym last))
      (λ other. reads_from n p parts.0 j (omega arith))
      (cases_eq j n)

  from_reads : (n p : ℕ) → ((j : ℕ) → j < n → get_or bytes (p + j) 0 ≡ get_or needle j 0) → agrees bytes needle n p ≡ true
  from_reads zero p reads = refl
  from_reads (suc n) p reads = and_from _ _ (from_reads n p (λ j below. reads j (omega arith))) (eq-eqb _ _ (reads n (omega arith)))

  module _ (at n : ℕ) (within : n < length needle) (room : at + 31 + length needle ≤ length bytes) where
    seen_at : map (λ b. eqb b (get_or needle n 0)) (take 32 (drop (at + n) bytes)) ≡ map (λ p. eqb (get_or bytes (p + n) 0) (get_or needle n 0)) (range_with_len at 32)
    seen_at =
        let long : length (take 32 (drop (at + n) bytes)) ≡ 32 = length-chunk (at + n) 32 bytes (omega arith) in
        let mapped : length (map (λ b. eqb b (get_or needle n 0)) (take 32 (drop (at + n) bytes))) ≡ length (take 32 (drop (at + n) bytes)) = length-map (take 32 (drop (at + n) bytes)) (λ b. eqb b (get_or needle n 0)) in
        ext_get_or false _ _ (mapped ∙ long ∙ sym (length-map-range_with_len (λ p. eqb (get_or bytes (p + n) 0) (get_or needle n 0)) at 32)) (λ i below.
        let inside : i < 32 = omega (arith, mapped, long) in
        let place : at + n + i ≡ at + i + n = omega arith in
        get_or-map _ _ i 0 false (omega arith)
        ∙ ap (λ b. eqb b (get_or needle n 0)) (get_or-chunk (at + n) 32 bytes i 0 inside ∙ ap (λ p. get_or bytes p 0) place)
        ∙ sym (get_or-map-range_with_len (λ p. eqb (get_or bytes (p + n) 0) (get_or needle n 0)) at 32 i (at + i) false inside refl))

    pub mask-next : bit_and (mask_l (map (agrees bytes needle n) (range_with_len at 32))) (mask_l (map (λ b. eqb b (get_or needle n 0)) (take 32 (drop (at + n) bytes))))
        ≡ mask_l (map (agrees bytes needle (n + 1)) (range_with_len at 32))
    mask-next =
        ap (λ ms. bit_and (mask_l (map (agrees bytes needle n) (range_with_len at 32))) (mask_l ms)) seen_at
        ∙ both_masks (agrees bytes needle n) (λ p. eqb (get_or bytes (p + n) 0) (get_or needle n 0)) (range_with_len at 32)
        ∙ ap (λ f. mask_l (map f (range_with_len at 32))) (λ i p. agrees-next n p i)

  module _ (at n : ℕ) (room : at + 31 + length needle ≤ length bytes) where
    -- where all of the needle agrees, it stands
    pub counted_whole : length needle ≤ n → n ≤ length needle → count_by (agrees bytes needle n) (range_with_len at 32) ≡ count_by (occurs_at bytes needle) (range_with_len at 32)
    counted_whole low high =
        let all : n ≡ length needle = omega arith in
        ap (λ m. count_by (agrees bytes needle m) (range_with_len at 32)) all
        ∙ count_range-same (agrees bytes needle (length needle)) (occurs_at bytes needle) at 32 (λ p from to. same_from_decides _ _
        (λ agree. record { fits = omega arith; reads = reads_from (length needle) p agree }, λ occurs. from_reads (length needle) p occurs.reads)
        (OccursAt-true bytes needle p, occurs_at-true bytes needle p))

    -- where a part of it agrees nowhere, it stands nowhere
    pub counted_none : n ≤ length needle → count_by (agrees bytes needle n) (range_with_len at 32) ≡ 0 → 0 ≡ count_by (occurs_at bytes needle) (range_with_len at 32)
    counted_none le none =
        omega (arith, count_by-stricter (agrees bytes needle n) (occurs_at bytes needle) (λ p occurs. from_reads n p (λ j below. (OccursAt-true bytes needle p occurs).reads j (omega arith))) (range_with_len at 32), none)
