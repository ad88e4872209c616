-- A set of numbers by its words and their summary.
use Rattle.std.proofs.Common.{◌≡◌, ◌≢◌, ℕ, ◌+◌, ◌-◌, ◌*◌, ◌/◌, ◌^◌, ◌<◌, ◌≤◌, Bool, true, false, not, ◌||◌, eqb, Option, None, Some, List, length, get_or, refl, sym, ◌∙◌, subst, ap, arith, ◌⊎◌, inl, inr}
use Rattle.std.proofs.lemmas.List.{get_or_past}
use Rattle.std.proofs.lemmas.List.FromFn.{get_or-map-range_with_len, length-map-range_with_len}
use Rattle.std.proofs.lemmas.Bool.{cases_eq, cases_lt, eq-eqb, eqb-false, eqb-true, ne_eqb, or_cases, or_parts, false_from_ne_true, true≢false}
use Rattle.std.specs.Prelude.{IfNone}
use Rattle.ready_work.specs.WordBits.{bit_in, HasBit, IsInWord, Summarizes}
use Rattle.ready_work.specs.Lowest.{IsFrom, IsLowest, IsNone, NoneBelow}
use Rattle.ready_work.specs.NumberSet.{set_in}
use Rattle.ready_work.specs.NumberSetView.{has, room_of, set_where, IsMember}
use Rattle.ready_work.proofs.Words.{NoneBefore, bit_below_2, bit_of_zero, in_range, lowest_in_next, none_in, none_in_all}

-- words that are all 0
pub summarizes_none : (words summary : List ℕ) → length words ≤ 2 ^ 26 → length summary ≤ 2 ^ 26 → length words ≤ 64 * length summary → ((i : ℕ) → get_or words i 0 ≡ 0) → ((i : ℕ) → get_or summary i 0 ≡ 0) → Summarizes words summary
summarizes_none words summary few few_summaries size none clear = record {
  few = few;
  few_summaries = few_summaries;
  size = size;
  filled = λ i bit. absurd (none_in summary i (clear (i / 64)) bit);
  noted = λ i some. absurd (omega (arith, some, none i));
}

-- ---- the members of a view

pub room_where : (passes : ℕ → Bool) (n : ℕ) → room_of (set_where passes n) ≡ n
unfolding set_where
room_where passes n = length-map-range_with_len passes 0 n

pub has_where : (passes : ℕ → Bool) (n k : ℕ) → k < n → has (set_where passes n) k ≡ passes k
unfolding set_where
has_where passes n k lt = get_or-map-range_with_len passes 0 n k k false lt (omega arith)

pub none_where : (passes : ℕ → Bool) (n k : ℕ) → n ≤ k → has (set_where passes n) k ≡ false
none_where passes n k past = get_or_past (set_where passes n).members k false (omega (arith, past, room_where passes n))

pub same_where : (old new : ℕ → Bool) (m n k : ℕ) → m ≡ n → new k ≡ old k → has (set_where new n) k ≡ has (set_where old m) k
same_where old new m n k size same = at (cases_lt k n)
  where
    at : (k < n) ⊎ (n ≤ k) → has (set_where new n) k ≡ has (set_where old m) k
    at (inl lt) = has_where new n k lt ∙ same ∙ sym (has_where old m k (omega arith))
    at (inr past) = none_where new n k past ∙ sym (none_where old m k (omega arith))

pub nowhere : (passes : ℕ → Bool) (n : ℕ) → ((k : ℕ) → passes k ≡ false) → (k : ℕ) → has (set_where passes n) k ≡ false
nowhere passes n none k = at (cases_lt k n)
  where
    at : (k < n) ⊎ (n ≤ k) → has (set_where passes n) k ≡ false
    at (inl lt) = has_where passes n k lt ∙ none k
    at (inr past) = none_where passes n k past

pub has_set : (words : List ℕ) (k : ℕ) → has (set_in words) k ≡ eqb (bit_in words k) 1
has_set words k = at (cases_lt k (64 * length words))
  where
    at : (k < 64 * length words) ⊎ (64 * length words ≤ k) → has (set_in words) k ≡ eqb (bit_in words k) 1
    at (inl lt) = has_where (λ i. eqb (bit_in words i) 1) (64 * length words) k lt
    at (inr past) = none_where (λ i. eqb (bit_in words i) 1) (64 * length words) k past ∙ sym (ne_eqb (bit_in words k) 1 (λ bit. in_range words k (omega arith) bit))

pub room_set : (words : List ℕ) → room_of (set_in words) ≡ 64 * length words
room_set words = room_where (λ i. eqb (bit_in words i) 1) (64 * length words)

pub none_has : (words : List ℕ) → ((i : ℕ) → get_or words i 0 ≡ 0) → (k : ℕ) → has (set_in words) k ≡ false
none_has words none k = has_set words k ∙ ne_eqb (bit_in words k) 1 (λ bit. none_in words k (none (k / 64)) bit)

-- a bit that was turned round makes a member none, or none a member
pub flip_member : (old new : List ℕ) (k : ℕ) → bit_in new k ≡ 1 - bit_in old k → has (set_in new) k ≡ not (has (set_in old) k)
flip_member old new k flipped = has_set new k ∙ at (cases_eq (bit_in old k) 1) ∙ ap not (sym (has_set old k))
  where
    at : (bit_in old k ≡ 1) ⊎ (bit_in old k ≡ 1 → ⊥) → eqb (bit_in new k) 1 ≡ not (eqb (bit_in old k) 1)
    at (inl e) = ne_eqb (bit_in new k) 1 (λ f. absurd (omega (arith, e, f, flipped))) ∙ ap not (sym (eq-eqb (bit_in old k) 1 e))
    at (inr ne) = eq-eqb (bit_in new k) 1 (omega (arith, ne, flipped, bit_below_2 old k)) ∙ ap not (sym (ne_eqb (bit_in old k) 1 ne))

pub same_member : (old new : List ℕ) (k : ℕ) → bit_in new k ≡ bit_in old k → has (set_in new) k ≡ has (set_in old) k
same_member old new k same = has_set new k ∙ ap (λ bit. eqb bit 1) same ∙ sym (has_set old k)

-- ---- a bit that was turned round

-- the word was not 0, and still isn't
pub still_filled : (old new summary : List ℕ) (n : ℕ) → Summarizes old summary → length new ≡ length old → ((i : ℕ) → i ≢ n / 64 → get_or new i 0 ≡ get_or old i 0) → (eqb (get_or old (n / 64) 0) 0 || eqb (get_or new (n / 64) 0) 0) ≡ false → Summarizes new summary
still_filled old new summary n is size others full = record {
  few = let few = is.few in omega arith;
  few_summaries = is.few_summaries;
  size = let fits = is.size in omega arith;
  filled = λ i bit. filled i bit (cases_eq i (n / 64));
  noted = λ i some. noted i some (cases_eq i (n / 64));
}
  where
    parts : (eqb (get_or old (n / 64) 0) 0 ≡ false) × (eqb (get_or new (n / 64) 0) 0 ≡ false)
    parts = or_parts (eqb (get_or old (n / 64) 0) 0) (eqb (get_or new (n / 64) 0) 0) full

    was : 0 < get_or old (n / 64) 0
    was = let some = eqb-false (get_or old (n / 64) 0) 0 parts.0 in omega arith

    still : 0 < get_or new (n / 64) 0
    still = let some = eqb-false (get_or new (n / 64) 0) 0 parts.1 in omega arith

    filled : (i : ℕ) → HasBit summary i → (i ≡ n / 64) ⊎ (i ≡ n / 64 → ⊥) → 0 < get_or new i 0
    filled i bit (inl e) = subst (λ j. 0 < get_or new j 0) (sym e) still
    filled i bit (inr ne) = omega (arith, is.filled i bit, others i ne)

    noted : (i : ℕ) → 0 < get_or new i 0 → (i ≡ n / 64) ⊎ (i ≡ n / 64 → ⊥) → HasBit summary i
    noted i some (inl e) = is.noted i (subst (λ j. 0 < get_or old j 0) (sym e) was)
    noted i some (inr ne) = is.noted i (omega (arith, some, others i ne))

-- the word was 0, or is 0 now, and its bit of the summary was turned round too
pub filled_flipped : (old new summary turned : List ℕ) (n : ℕ) → Summarizes old summary → length new ≡ length old → length turned ≡ length summary → ((i : ℕ) → i ≢ n / 64 → get_or new i 0 ≡ get_or old i 0) → bit_in new n ≡ 1 - bit_in old n → (eqb (get_or old (n / 64) 0) 0 || eqb (get_or new (n / 64) 0) 0) ≡ true → bit_in turned (n / 64) ≡ 1 - bit_in summary (n / 64) → ((i : ℕ) → i ≢ n / 64 → bit_in turned i ≡ bit_in summary i) → Summarizes new turned
filled_flipped old new summary turned n is size turned_size others flipped empty round rest = record {
  few = let few = is.few in omega arith;
  few_summaries = let few = is.few_summaries in omega arith;
  size = let fits = is.size in omega arith;
  filled = λ i bit. filled i bit (cases_eq i (n / 64));
  noted = λ i some. noted i some (cases_eq i (n / 64));
}
  where
    -- its bit of the summary was clear, so the word was 0
    made : bit_in summary (n / 64) ≡ 0 → (get_or old (n / 64) 0 ≡ 0) ⊎ (get_or old (n / 64) 0 ≡ 0 → ⊥) → (get_or new (n / 64) 0 ≡ 0) ⊎ (get_or new (n / 64) 0 ≡ 0 → ⊥) → 0 < get_or new (n / 64) 0
    made clear _ (inr some) = omega (arith, some)
    made clear (inl was) (inl zero) = absurd (omega (arith, flipped, bit_of_zero old n was, bit_of_zero new n zero))
    made clear (inr some) (inl zero) = absurd (omega (arith, clear, is.noted (n / 64) (omega (arith, some))))

    filled : (i : ℕ) → HasBit turned i → (i ≡ n / 64) ⊎ (i ≡ n / 64 → ⊥) → 0 < get_or new i 0
    filled i bit (inl e) = subst (λ j. 0 < get_or new j 0) (sym e) (made (omega (arith, bit, ap (bit_in turned) e, round, bit_below_2 summary (n / 64))) (cases_eq (get_or old (n / 64) 0) 0) (cases_eq (get_or new (n / 64) 0) 0))
    filled i bit (inr ne) = omega (arith, is.filled i (sym (rest i ne) ∙ bit), others i ne)

    unset : get_or old (n / 64) 0 ≡ 0 → HasBit summary (n / 64) → ⊥
    unset was bit = absurd (omega (arith, was, is.filled (n / 64) bit))

    set_now : 0 < get_or new (n / 64) 0 → (eqb (get_or old (n / 64) 0) 0 ≡ true) ⊎ (eqb (get_or new (n / 64) 0) 0 ≡ true) → (bit_in summary (n / 64) ≡ 1) ⊎ (bit_in summary (n / 64) ≡ 1 → ⊥) → HasBit turned (n / 64)
    set_now some (inl was) (inl bit) = absurd (unset (eqb-true (get_or old (n / 64) 0) 0 was) bit)
    set_now some (inl was) (inr clear) = omega (arith, clear, round, bit_below_2 summary (n / 64))
    set_now some (inr zero) _ = absurd (omega (arith, some, eqb-true (get_or new (n / 64) 0) 0 zero))

    noted : (i : ℕ) → 0 < get_or new i 0 → (i ≡ n / 64) ⊎ (i ≡ n / 64 → ⊥) → HasBit turned i
    noted i some (inl e) = ap (bit_in turned) e ∙ set_now (subst (λ j. 0 < get_or new j 0) e some) (or_cases (eqb (get_or old (n / 64) 0) 0) (eqb (get_or new (n / 64) 0) 0) empty) (cases_eq (bit_in summary (n / 64)) 1)
    noted i some (inr ne) = rest i ne ∙ is.noted i (omega (arith, some, others i ne))

-- ---- the next member

-- the words between a number's own and the next that the summary has a bit of have no bit
pub none_before_filled : (words summary : List ℕ) (from i : ℕ) → Summarizes words summary → IsNone (IsFrom from (IsInWord words (from / 64))) → NoneBelow (IsFrom (from / 64 + 1) (HasBit summary)) i → NoneBefore words from i
none_before_filled words summary from i is none least k lt has = at (cases_eq (k / 64) (from / 64))
  where
    filled : k / 64 ≢ from / 64 → (get_or words (k / 64) 0 ≡ 0) ⊎ (get_or words (k / 64) 0 ≡ 0 → ⊥) → ⊥
    filled ne (inl zero) = none_in words k zero has.such
    filled ne (inr some) = let past = has.past in least (k / 64) lt (record { past = omega arith; such = is.noted (k / 64) (omega arith) })

    at : (k / 64 ≡ from / 64) ⊎ (k / 64 ≡ from / 64 → ⊥) → ⊥
    at (inl e) = none.none k (record { past = has.past; such = record { place = e; bit = has.such } })
    at (inr ne) = filled ne (cases_eq (get_or words (k / 64) 0) 0)

-- the lowest bit of the next word that the summary has a bit of
pub lowest_filled : (words summary : List ℕ) (from i n : ℕ) → Summarizes words summary → IsNone (IsFrom from (IsInWord words (from / 64))) → IsLowest (IsFrom (from / 64 + 1) (HasBit summary)) i → IsLowest (IsFrom (i * 64) (HasBit words)) n → IsLowest (IsFrom from (HasBit words)) n
lowest_filled words summary from i n is none place low =
    let past = place.is.past in
    lowest_in_next words from i n (omega arith) (none_before_filled words summary from i is none place.least) low

-- no word has a bit where the summary has no more
pub none_filled : (words summary : List ℕ) (from : ℕ) → Summarizes words summary → IsNone (IsFrom from (IsInWord words (from / 64))) → IsNone (IsFrom (from / 64 + 1) (HasBit summary)) → IsNone (IsFrom from (HasBit words))
none_filled words summary from is none no_place =
    none_in_all words from (length words) (omega arith) (none_before_filled words summary from (length words) is none (λ k lt has. no_place.none k has))

pub number_fits : (words summary : List ℕ) (n : ℕ) → Summarizes words summary → HasBit words n → n < 2 ^ 32
number_fits words summary n is bit = at (cases_lt (n / 64) (length words))
  where
    at : (n / 64 < length words) ⊎ (length words ≤ n / 64) → n < 2 ^ 32
    at (inl lt) = let few = is.few in omega arith
    at (inr past) = absurd (in_range words n past bit)

pub member_bit : (words : List ℕ) (k : ℕ) → has (set_in words) k ≡ true → HasBit words k
member_bit words k member = eqb-true (bit_in words k) 1 (sym (has_set words k) ∙ member)

pub bit_member : (words : List ℕ) (k : ℕ) → HasBit words k → has (set_in words) k ≡ true
bit_member words k bit = has_set words k ∙ eq-eqb (bit_in words k) 1 bit

pub lowest_member : (words : List ℕ) (from n : ℕ) → IsLowest (IsFrom from (HasBit words)) n → IsLowest (IsFrom from (IsMember (set_in words))) n
lowest_member words from n low = record {
  is = record { past = low.is.past; such = bit_member words n low.is.such };
  least = λ k lt is. low.least k lt (record { past = is.past; such = member_bit words k is.such });
}

pub no_member : (words : List ℕ) (from : ℕ) → IsNone (IsFrom from (HasBit words)) → IsNone (IsFrom from (IsMember (set_in words)))
no_member words from none = record { none = λ k is. none.none k (record { past = is.past; such = member_bit words k is.such }) }

-- whether the next bit is the number's own
pub own_bit : (words : List ℕ) (from n : ℕ) → IsLowest (IsFrom from (HasBit words)) n → eqb n from ≡ has (set_in words) from
own_bit words from n low = at (cases_eq n from)
  where
    above : (n ≡ from → ⊥) → has (set_in words) from ≡ true → ⊥
    above ne member = let past = low.is.past in low.least from (omega (arith, past, ne)) (record { past = omega arith; such = member_bit words from member })

    at : (n ≡ from) ⊎ (n ≡ from → ⊥) → eqb n from ≡ has (set_in words) from
    at (inl e) = eq-eqb n from e ∙ sym (bit_member words from (subst (HasBit words) e low.is.such))
    at (inr ne) = ne_eqb n from ne ∙ sym (false_from_ne_true (has (set_in words) from) (above ne))

pub no_own_bit : (words : List ℕ) (from : ℕ) → IsNone (IsFrom from (IsInWord words (from / 64))) → false ≡ has (set_in words) from
no_own_bit words from none = sym (false_from_ne_true (has (set_in words) from) (λ member. none.none from (record { past = omega arith; such = record { place = refl; bit = member_bit words from member } })))

-- from 0 on all numbers are there
pub lowest_from_0 : (Such : ℕ → Type 0) (n : ℕ) → IsLowest (IsFrom 0 Such) n → IsLowest Such n
lowest_from_0 Such n low = record { is = low.is.such; least = λ k lt is. low.least k lt (record { past = omega arith; such = is }) }

pub none_from_0 : (Such : ℕ → Type 0) → IsNone (IsFrom 0 Such) → IsNone Such
none_from_0 Such none = record { none = λ k is. none.none k (record { past = omega arith; such = is }) }

-- what holds is a fact for no number too
pub if_none : (Fact : Type 0) (o : Option ℕ) → Fact → IfNone o Fact
if_none Fact None is = is
if_none Fact (Some n) is = tt

pub none_then : {P Q : Type 0} (o : Option ℕ) → (P → Q) → IfNone o P → IfNone o Q
none_then None next is = next is
none_then (Some n) next is = tt

-- no number that doesn't fit is a member
pub none_unfit : (words summary : List ℕ) (from : ℕ) → Summarizes words summary → 2 ^ 32 ≤ from → IsNone (IsFrom from (IsMember (set_in words)))
none_unfit words summary from is past = record {
  none = λ k at.
      let few = is.few in
      let le = at.past in
      true≢false (sym at.such ∙ none_where (λ i. eqb (bit_in words i) 1) (64 * length words) k (omega arith));
}
