-- The laws of digests: two lower-case hexadecimal digits a byte.
use Rattle.std.proofs.Common.{append_assoc, append-nil, ◌≡◌, ℕ, ◌+◌, ◌-◌, ◌*◌, ◌/◌, ◌%◌, ◌<◌, ◌≤◌, suc, zero, List, [], ◌∷◌, ◌++◌, length, Option, Some, None, Bool, true, false, refl, sym, ap, subst, ◌∙◌, arith, nat_lt, nat_le, ◌&&◌, cond, inl, inr, ◌⊎◌}
use Rattle.std.specs.Fmt.{digit_glyph}
use Rattle.std.specs.List.{flat_map, AllByRecursion}
use Rattle.std.proofs.lemmas.Bool.{and_parts, and_from, leb-true, le-leb, lt-ltb, le-ltb, ltb-true, ltb-false}
use Rattle.std.proofs.Common.{take}
use Rattle.std.specs.List.{slice_set}
use Rattle.std.proofs.lemmas.List.{take_more_set, take_all}
use Rattle.history_text.specs.Text.{hex_text}
use Rattle.history_text.specs.Reading.{◌>>=◌, is_digit, digit_value, byte_at, bytes_at, with_front}
use Rattle.history_text.proofs.Numbers.{chosen, digit_is, digit_from}
use Rattle.history_text.proofs.Words.{some_is, none_some, bind_some}

glyph_low : (d : ℕ) → d < 10 → digit_glyph false d ≡ 48 + d
glyph_low d few = ap (λ b. cond b (48 + d) (87 + d)) (lt-ltb d 10 few)

glyph_high : (d : ℕ) → 10 ≤ d → digit_glyph false d ≡ 87 + d
glyph_high d many = ap (λ b. cond b (48 + d) (87 + d)) (le-ltb d 10 many)

record IsGlyph (c v : ℕ) : Type 0 where
  is : c ≡ digit_glyph false v
  few : v < 16

value_taken : (c v : ℕ) → digit_value c ≡ Some v → IsGlyph c v
value_taken c v e = at (chosen (is_digit c) _ _ _ e)
  where
    low : is_digit c ≡ true → c - 48 ≡ v → IsGlyph c v
    low d same =
        let range : (48 ≤ c) × (c ≤ 57) = digit_from c d in
        let few : v < 10 = omega (arith, same) in
        let back : c ≡ 48 + v = omega (arith, same) in
        record { is = back ∙ sym (glyph_low v few); few = omega arith }

    high : nat_le 97 c && nat_le c 102 ≡ true → c - 87 ≡ v → IsGlyph c v
    high d same =
        let from : 97 ≤ c = leb-true 97 c (and_parts (nat_le 97 c) (nat_le c 102) d).0 in
        let to : c ≤ 102 = leb-true c 102 (and_parts (nat_le 97 c) (nat_le c 102) d).1 in
        let many : 10 ≤ v = omega (arith, same) in
        let back : c ≡ 87 + v = omega (arith, same) in
        record { is = back ∙ sym (glyph_high v many); few = omega (arith, same) }

    rest : (((nat_le 97 c && nat_le c 102 ≡ true) × (Some (c - 87) ≡ Some v)) ⊎ ((nat_le 97 c && nat_le c 102 ≡ false) × (None ≡ Some v))) → IsGlyph c v
    rest (inl h) = high h.0 (some_is h.1)
    rest (inr h) = absurd (none_some h.1)

    at : (((is_digit c ≡ true) × (Some (c - 48) ≡ Some v)) ⊎ ((is_digit c ≡ false) × (cond (nat_le 97 c && nat_le c 102) (Some (c - 87)) None ≡ Some v))) → IsGlyph c v
    at (inl h) = low h.0 (some_is h.1)
    at (inr h) = rest (chosen (nat_le 97 c && nat_le c 102) _ _ _ h.1)

no_digit_high : (c : ℕ) → 58 ≤ c → is_digit c ≡ false
no_digit_high c big = at (is_digit c) refl
  where
    at : (b : Bool) → is_digit c ≡ b → is_digit c ≡ false
    at true s = absurd (let range : (48 ≤ c) × (c ≤ 57) = digit_from c s in omega arith)
    at false s = s

value_again : (v : ℕ) → v < 16 → digit_value (digit_glyph false v) ≡ Some v
value_again v few = at (nat_lt v 10) refl
  where
    low : v < 10 → digit_value (48 + v) ≡ Some v
    low small =
        let back : 48 + v - 48 ≡ v = omega arith in
        ap (λ b. cond b (Some (48 + v - 48)) (cond (nat_le 97 (48 + v) && nat_le (48 + v) 102) (Some (48 + v - 87)) None)) (digit_is v small) ∙ ap (λ x. Some x) back

    high : 10 ≤ v → digit_value (87 + v) ≡ Some v
    high many =
        let back : 87 + v - 87 ≡ v = omega arith in
        let letter : nat_le 97 (87 + v) && nat_le (87 + v) 102 ≡ true = and_from _ _ (le-leb 97 (87 + v) (omega arith)) (le-leb (87 + v) 102 (omega arith)) in
        ap (λ b. cond b (Some (87 + v - 48)) (cond (nat_le 97 (87 + v) && nat_le (87 + v) 102) (Some (87 + v - 87)) None)) (no_digit_high (87 + v) (omega arith))
        ∙ (ap (λ b. cond b (Some (87 + v - 87)) None) letter ∙ ap (λ x. Some x) back)

    at : (b : Bool) → nat_lt v 10 ≡ b → digit_value (digit_glyph false v) ≡ Some v
    at true s = ap digit_value (glyph_low v (ltb-true v 10 s)) ∙ low (ltb-true v 10 s)
    at false s = ap digit_value (glyph_high v (ltb-false v 10 s)) ∙ high (ltb-false v 10 s)

record ByteRead (text : List ℕ) (y : ℕ × List ℕ) : Type 0 where
  is : text ≡ hex_text y.0 ++ y.1
  few : y.0 < 256

byte_taken : (text : List ℕ) (y : ℕ × List ℕ) → byte_at text ≡ Some y → ByteRead text y
byte_taken [] y e = absurd (none_some e)
byte_taken (c ∷ []) y e = absurd (none_some e)
byte_taken (c ∷ d ∷ text) y e =
    let high = bind_some (digit_value c) _ y e in
    let low = bind_some (digit_value d) _ y high.2 in
    let a = value_taken c high.0 high.1 in
    let b = value_taken d low.0 low.1 in
    let few_high : high.0 < 16 = a.few in
    let few_low : low.0 < 16 = b.few in
    let front : high.0 ≡ (high.0 * 16 + low.0) / 16 = omega arith in
    let back : low.0 ≡ (high.0 * 16 + low.0) % 16 = omega arith in
    subst (λ z. ByteRead (c ∷ d ∷ text) z) (some_is low.2) (record {
      is = ap (λ x. x ∷ d ∷ text) (a.is ∙ ap (digit_glyph false) front) ∙ ap (λ x. digit_glyph false ((high.0 * 16 + low.0) / 16) ∷ x ∷ text) (b.is ∙ ap (digit_glyph false) back);
      few = omega arith;
    })

byte_again : (b : ℕ) (rest : List ℕ) → b < 256 → byte_at (hex_text b ++ rest) ≡ Some (b, rest)
byte_again b rest few =
    let whole : b / 16 * 16 + b % 16 ≡ b = omega arith in
    ap (λ r. r >>= λ high. digit_value (digit_glyph false (b % 16)) >>= λ low. Some (high * 16 + low, rest)) (value_again (b / 16) (omega arith))
    ∙ (ap (λ r. r >>= λ low. Some (b / 16 * 16 + low, rest)) (value_again (b % 16) (omega arith))
    ∙ ap (λ x. Some (x, rest)) whole)

pub record BytesRead (n : ℕ) (text : List ℕ) (y : List ℕ × List ℕ) : Type 0 where
  pub is : text ≡ flat_map hex_text y.0 ++ y.1
  pub length : length y.0 ≡ n
  pub bytes : AllByRecursion (λ b. b < 256) y.0

pub bytes_taken : (n : ℕ) (text : List ℕ) (y : List ℕ × List ℕ) → bytes_at n text ≡ Some y → BytesRead n text y
bytes_taken zero text y e = subst (λ z. BytesRead zero text z) (some_is e) (record { is = refl; length = refl; bytes = tt })
bytes_taken (suc n) text y e =
    let one = bind_some (byte_at text) _ y e in
    let more = bind_some (bytes_at n one.0.1) _ y one.2 in
    let a = byte_taken text one.0 one.1 in
    let b = bytes_taken n one.0.1 more.0 more.1 in
    subst (λ z. BytesRead (suc n) text z) (some_is more.2) (record {
      is = a.is ∙ ap (λ l. hex_text one.0.0 ++ l) b.is;
      length = ap (λ k. suc k) b.length;
      bytes = (a.few, b.bytes);
    })

pub bytes_again : (bs rest : List ℕ) → AllByRecursion (λ b. b < 256) bs → bytes_at (length bs) (flat_map hex_text bs ++ rest) ≡ Some (bs, rest)
bytes_again [] rest few = refl
bytes_again (b ∷ bs) rest few =
    ap (λ r. r >>= λ x. bytes_at (length bs) x.1 >>= λ xs. Some (x.0 ∷ xs.0, xs.1)) (byte_again b (flat_map hex_text bs ++ rest) few.0)
    ∙ ap (λ r. r >>= λ xs. Some (b ∷ xs.0, xs.1)) (bytes_again bs rest few.1)

pub front_none : (r : Option (List ℕ × List ℕ)) → with_front [] r ≡ r
front_none None = refl
front_none (Some x) = refl

turn_left : (i : ℕ) → i < 32 → 32 - i ≡ suc (32 - (i + 1))
turn_left i within = omega arith

chosen_byte : (front : List ℕ) (i : ℕ) (text : List ℕ) (r : Option (ℕ × List ℕ)) → i < 32 → r ≡ byte_at text
    → with_front front (bytes_at (32 - i) text) ≡ with_front front (r >>= λ b. bytes_at (32 - (i + 1)) b.1 >>= λ bs. Some (b.0 ∷ bs.0, bs.1))
chosen_byte front i text r within e =
    ap (λ n. with_front front (bytes_at n text)) (turn_left i within)
    ∙ ap (λ r. with_front front (r >>= λ b. bytes_at (32 - (i + 1)) b.1 >>= λ bs. Some (b.0 ∷ bs.0, bs.1))) (sym e)

pub bytes_wrong : (front : List ℕ) (i : ℕ) (text : List ℕ) → i < 32 → None ≡ byte_at text → with_front front (bytes_at (32 - i) text) ≡ None
bytes_wrong front i text within e = chosen_byte front i text None within e

behind : (front : List ℕ) (b : ℕ) (r : Option (List ℕ × List ℕ)) → with_front front (r >>= λ bs. Some (b ∷ bs.0, bs.1)) ≡ with_front (front ++ b ∷ []) r
behind front b None = refl
behind front b (Some x) = ap (λ l. Some (l, x.1)) (sym (append_assoc front (b ∷ []) x.0))

pub bytes_more : (digest : List ℕ) (i : ℕ) (text more : List ℕ) (b : ℕ) → i < 32 → length digest ≡ 32 → Some (b, more) ≡ byte_at text
    → with_front (take (i + 1) (slice_set digest i b)) (bytes_at (32 - (i + 1)) more) ≡ with_front (take i digest) (bytes_at (32 - i) text)
bytes_more digest i text more b within long e =
    ap (λ l. with_front l (bytes_at (32 - (i + 1)) more)) (take_more_set digest i b (omega (arith, long)))
    ∙ (sym (behind (take i digest) b (bytes_at (32 - (i + 1)) more))
    ∙ sym (chosen_byte (take i digest) i text (Some (b, more)) within e))
