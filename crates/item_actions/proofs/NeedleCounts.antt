-- Needles by pieces, from the two laws of their count.
use Rattle.std.proofs.Common.{◌≡◌, ℕ, zero, suc, inl, inr, ◌+◌, ◌-◌, ◌<◌, ◌≤◌, ◌^◌, ◌++◌, ◌⊎◌, List, [], max, min, length, get_or, take, drop, refl, sym, ap, subst, ◌∙◌, arith, ⊎_elim, length-drop, length-append, length-take-le, append_assoc, take-append-drop}
use Rattle.std.proofs.lemmas.Bool.{cases_Bool, cases_eq, cases_lt, false≢true}
use Rattle.std.proofs.lemmas.List.{append-nil, drop-drop, drop-append-le, drop_min, get_or-drop, take_rest}
use Rattle.std.proofs.Math.ListN.{get_or-append}
use Rattle.std.proofs.Math.Seq.{drop-append-add}
use Rattle.memchr.specs.Find.{Nowhere, NoneBefore, OccursAt, occurs_at}
use Rattle.memchr.proofs.lemmas.MatchLemmas.{OccursAt-true, occurs_at-true}
use Rattle.item_actions.specs.Bytes.{FirstIsAlone, occurrences}
use Rattle.item_actions.specs.NeedleMatches.{CountsOn}

abbrev pub NowhereLaw : Type 0
NowhereLaw = (needle bytes : List ℕ) → ((k : ℕ) → ¬ OccursAt bytes needle k) → occurrences needle bytes ≡ 0

abbrev pub FirstLaw : Type 0
FirstLaw = (needle bytes : List ℕ) (k : ℕ) → 1 ≤ length needle → OccursAt bytes needle k → ((i : ℕ) → i < k → ¬ OccursAt bytes needle i)
    → occurrences needle bytes ≡ 1 + occurrences needle (drop (k + length needle) bytes)

-- the first place where the needle stands
record IsFirstAt (needle bytes : List ℕ) (k : ℕ) : Type 0 where
  here : OccursAt bytes needle k
  before : (i : ℕ) → i < k → ¬ OccursAt bytes needle i

module _ (needle : List ℕ) where
  within_drop : (xs : List ℕ) (m k : ℕ) → m ≤ length xs → OccursAt (drop m xs) needle k → OccursAt xs needle (m + k)
  within_drop xs m k le h =
      record {
        fits = omega (arith, h.fits, length-drop m xs);
        reads = λ j l.
            let place : m + k + j ≡ m + (k + j) = omega arith in
            ap (λ n. get_or xs n 0) place ∙ sym (get_or-drop m xs (k + j) 0) ∙ h.reads j l;
      }

  behind_drop : (xs : List ℕ) (m k : ℕ) → m ≤ k → OccursAt xs needle k → OccursAt (drop m xs) needle (k - m)
  behind_drop xs m k le h =
      record {
        fits = omega (arith, h.fits, length-drop m xs);
        reads = λ j l.
            let place : m + (k - m + j) ≡ k + j = omega arith in
            get_or-drop m xs (k - m + j) 0 ∙ ap (λ n. get_or xs n 0) place ∙ h.reads j l;
      }

  front_occurs : (xs ys : List ℕ) (k : ℕ) → OccursAt xs needle k → OccursAt (xs ++ ys) needle k
  front_occurs xs ys k h =
      record {
        fits = omega (arith, h.fits, length-append xs ys);
        reads = λ j l. get_or-append xs ys 0 (k + j) (omega (arith, h.fits)) ∙ h.reads j l;
      }

  occurs_in_front : (xs ys : List ℕ) (k : ℕ) → k + length needle ≤ length xs → OccursAt (xs ++ ys) needle k → OccursAt xs needle k
  occurs_in_front xs ys k fits h =
      record {
        fits = fits;
        reads = λ j l. sym (get_or-append xs ys 0 (k + j) (omega arith)) ∙ h.reads j l;
      }

  first_below : (xs : List ℕ) (n : ℕ) → ((k : ℕ) × IsFirstAt needle xs k) ⊎ ((i : ℕ) → i < n → ¬ OccursAt xs needle i)
  first_below xs zero = inr (λ i l. absurd (omega arith))
  first_below xs (suc n) = ⊎_elim
      (λ found. inl found)
      (λ none. ⊎_elim
      (λ yes. inl (n, record { here = OccursAt-true xs needle n yes; before = none }))
      (λ no. inr (λ i l occurs. ⊎_elim
      (λ same. false≢true (sym no ∙ occurs_at-true xs needle n (subst (λ k. OccursAt xs needle k) same occurs)))
      (λ other. none i (omega arith) occurs)
      (cases_eq i n)))
      (cases_Bool (occurs_at xs needle n)))
      (first_below xs n)

  first_or_none : (xs : List ℕ) → ((k : ℕ) × IsFirstAt needle xs k) ⊎ ((i : ℕ) → ¬ OccursAt xs needle i)
  first_or_none xs = ⊎_elim (λ found. inl found) (λ none. inr (λ i occurs. none i (omega (arith, occurs.fits)) occurs)) (first_below xs (length xs + 1))

  module _ (some : 1 ≤ length needle) (nowhere : NowhereLaw) (first : FirstLaw) where
    -- a needle is counted from the first place on, so places where it doesn't stand can be left out
    skip : (m : ℕ) (xs : List ℕ) → m ≤ length xs → ((i : ℕ) → i < m → ¬ OccursAt xs needle i) → occurrences needle xs ≡ occurrences needle (drop m xs)
    skip m xs le none = ⊎_elim
        (λ found.
        let k = found.0 in
        let at = found.1 in
        let low : m ≤ k = ⊎_elim (λ below. absurd (none k below at.here)) (λ from. from) (cases_lt k m) in
        let place : m + (k - m + length needle) ≡ k + length needle = omega arith in
        first needle xs k some at.here at.before
        ∙ ap (λ n. 1 + occurrences needle (drop n xs)) (sym place)
        ∙ ap (λ l. 1 + occurrences needle l) (sym (drop-drop (k - m + length needle) m xs))
        ∙ sym (first needle (drop m xs) (k - m) some (behind_drop xs m k low at.here) (λ i below occurs. at.before (m + i) (omega arith) (within_drop xs m i le occurs))))
        (λ never. nowhere needle xs never ∙ sym (nowhere needle (drop m xs) (λ k occurs. never (m + k) (within_drop xs m k le occurs))))
        (first_or_none xs)

    -- no more are found than there are bytes
    few_within : (f : ℕ) (xs : List ℕ) → length xs ≤ f → occurrences needle xs ≤ length xs
    few_within zero xs le = ⊎_elim
        (λ found. absurd (omega (arith, found.1.here.fits)))
        (λ never. omega (arith, nowhere needle xs never))
        (first_or_none xs)
    few_within (suc f) xs le = ⊎_elim
        (λ found.
        let k = found.0 in
        let rest = drop (k + length needle) xs in
        let shorter = length-drop (k + length needle) xs in
        omega (arith, first needle xs k some found.1.here found.1.before, few_within f rest (omega (arith, found.1.here.fits, shorter)), shorter, found.1.here.fits))
        (λ never. omega (arith, nowhere needle xs never))
        (first_or_none xs)

    few : (xs : List ℕ) → occurrences needle xs ≤ length xs
    few xs = few_within (length xs) xs (omega arith)

    -- nothing counted yet
    pub counts_none : (bytes : List ℕ) → CountsOn needle bytes 0 0
    counts_none bytes = record { within = omega arith; counted = λ rest. omega arith }

    -- one more, where a search from place `end` found it
    pub counts_more : (bytes : List ℕ) (found end place : ℕ) → CountsOn needle bytes found end → OccursAt (drop end bytes) needle place
        → ((i : ℕ) → i < place → ¬ OccursAt (drop end bytes) needle i) → CountsOn needle bytes (found + 1) (end + (place + length needle))
    counts_more bytes found end place h here before =
        let xs = drop end bytes in
        let long = length-drop end bytes in
        let le = h.within in
        record {
          within = omega (arith, here.fits, long);
          counted = λ rest.
              let one = first needle (xs ++ rest) place some (front_occurs xs rest place here)
              (λ i below occurs. before i below (occurs_in_front xs rest i (omega (arith, here.fits)) occurs)) in
              let parts : drop (place + length needle) (xs ++ rest) ≡ drop (end + (place + length needle)) bytes ++ rest =
              drop-append-le (place + length needle) xs rest here.fits ∙ ap (λ l. l ++ rest) (drop-drop (place + length needle) end bytes) in
              let left = ap (occurrences needle) parts in
              omega (arith, h.counted rest, one, left);
        }

    -- where the needle stands nowhere behind place `end`, only the last bytes can be a part of one
    pub counts_end : (bytes : List ℕ) (found end start : ℕ) → start ≡ length bytes + 1 - length needle → CountsOn needle bytes found end
        → ((i : ℕ) → ¬ OccursAt (drop end bytes) needle i) → CountsOn needle bytes found (max end start)
    counts_end bytes found end start is h none =
        let xs = drop end bytes in
        let m = max end start - end in
        let le = h.within in
        let place : end + m ≡ max end start = omega arith in
        let long = length-drop end bytes in
        let fits : m ≤ length xs = omega (arith, long) in
        record {
          within = omega arith;
          counted = λ rest.
              let skipped = skip m (xs ++ rest) (omega (arith, fits, length-append xs rest)) (λ i below occurs. none i (occurs_in_front xs rest i (omega (arith, long)) occurs)) in
              let parts : drop m (xs ++ rest) ≡ drop (max end start) bytes ++ rest =
              drop-append-le m xs rest fits ∙ ap (λ l. l ++ rest) (drop-drop m end bytes ∙ ap (λ n. drop n bytes) place) in
              let left = ap (occurrences needle) parts in
              omega (arith, h.counted rest, skipped, left);
        }

    -- one more, as a search of the rest found it
    pub counts_next : (bytes hay sought : List ℕ) (found end place : ℕ) → CountsOn needle bytes found end → hay ≡ take (length bytes - end) (drop end bytes) → sought ≡ needle
        → NoneBefore (OccursAt hay sought) 0 (length hay + 1) place × OccursAt hay sought place → CountsOn needle bytes (found + 1) (end + (place + length needle))
    counts_next bytes hay sought found end place h is same at =
        let rest : hay ≡ drop end bytes = is ∙ take_rest bytes end in
        let moved : (k : ℕ) → OccursAt (drop end bytes) needle k → OccursAt hay sought k = (λ k o. subst (λ l. OccursAt l sought k) (sym rest) (subst (λ n. OccursAt (drop end bytes) n k) (sym same) o)) in
        counts_more bytes found end place h (subst (λ n. OccursAt (drop end bytes) n place) same (subst (λ l. OccursAt l sought place) rest at.1))
        (λ i below occurs. at.0.before i (omega arith) below (moved i occurs))

    -- the last bytes, where the search of the rest found none
    pub counts_last : (bytes hay sought : List ℕ) (found end start top : ℕ) → CountsOn needle bytes found end → hay ≡ take (length bytes - end) (drop end bytes) → sought ≡ needle
        → Nowhere (OccursAt hay sought) 0 (length hay + 1) → start ≡ length bytes + 1 - length needle → top ≡ max end start → CountsOn needle bytes found top
    counts_last bytes hay sought found end start top h is same none begins ends =
        let rest : hay ≡ drop end bytes = is ∙ take_rest bytes end in
        let moved : (k : ℕ) → OccursAt (drop end bytes) needle k → OccursAt hay sought k = (λ k o. subst (λ l. OccursAt l sought k) (sym rest) (subst (λ n. OccursAt (drop end bytes) n k) (sym same) o)) in
        subst (λ n. CountsOn needle bytes found n) (sym ends)
        (counts_end bytes found end start begins h (λ k occurs. none k (omega arith) (omega (arith, (moved k occurs).fits)) (moved k occurs)))

    -- behind a place where it stands, a needle of which no two overlap doesn't stand before its end
    not_within : FirstIsAlone needle → (bytes rest : List ℕ) (k start i : ℕ) → OccursAt bytes needle k → k < start → start + i < k + length needle
        → ¬ OccursAt (drop start bytes ++ rest) needle i
    not_within alone bytes rest k start i here after before occurs =
        let j = start + i - k in
        let place : i + 0 ≡ i = omega arith in
        let back : start + i ≡ k + j = omega arith in
        let inside : i < length (drop start bytes) = omega (arith, length-drop start bytes, here.fits) in
        let there : get_or (drop start bytes ++ rest) (i + 0) 0 ≡ get_or needle 0 0 = occurs.reads 0 (omega arith) in
        alone j (omega arith) (omega arith)
        (sym (here.reads j (omega arith)) ∙ ap (λ n. get_or bytes n 0) (sym back) ∙ sym (get_or-drop start bytes i 0) ∙ sym (get_or-append (drop start bytes) rest 0 i inside)
        ∙ ap (λ n. get_or (drop start bytes ++ rest) n 0) (sym place) ∙ there)

    alone_never : (bytes : List ℕ) → ((i : ℕ) → ¬ OccursAt bytes needle i) → CountsOn needle bytes (occurrences needle bytes) (length bytes + 1 - length needle)
    alone_never bytes never =
        let start = length bytes + 1 - length needle in
        let all : max 0 start ≡ start = omega arith in
        subst (λ n. CountsOn needle bytes n start) (sym (nowhere needle bytes never))
        (subst (λ n. CountsOn needle bytes 0 n) all (counts_end bytes 0 0 start refl (counts_none bytes) never))

    alone_within : FirstIsAlone needle → (f : ℕ) (bytes : List ℕ) → length bytes ≤ f → CountsOn needle bytes (occurrences needle bytes) (length bytes + 1 - length needle)
    alone_within alone zero bytes le = alone_never bytes (λ i occurs. absurd (omega (arith, occurs.fits)))
    alone_within alone (suc f) bytes le = ⊎_elim
        (λ found.
        let k = found.0 in
        let at = found.1 in
        let past = k + length needle in
        let others = drop past bytes in
        let long = length-drop past bytes in
        let fits = at.here.fits in
        let start = length bytes + 1 - length needle in
        let later = length others + 1 - length needle in
        let end = past + later in
        let m = end - start in
        let le_end : start + m ≡ end = omega (arith, long) in
        let whole = first needle bytes k some at.here at.before in
        let ih = alone_within alone f others (omega (arith, long, fits)) in
        let one = counts_more bytes 0 0 k (counts_none bytes) at.here at.before in
        record {
          within = omega arith;
          counted = λ rest.
              let ys = drop start bytes ++ rest in
              let wide = length-drop start bytes in
              let inside : m ≤ length (drop start bytes) = omega (arith, wide, long, fits) in
              let skipped = skip m ys (omega (arith, inside, length-append (drop start bytes) rest))
              (λ i below. not_within alone bytes rest k start i at.here (omega (arith, fits)) (omega (arith, long, fits))) in
              let parts : drop m ys ≡ drop end bytes ++ rest =
              drop-append-le m (drop start bytes) rest inside ∙ ap (λ l. l ++ rest) (drop-drop m start bytes ∙ ap (λ n. drop n bytes) le_end) in
              let same : drop later others ++ rest ≡ drop end bytes ++ rest = ap (λ l. l ++ rest) (drop-drop later past bytes) in
              let left = ap (occurrences needle) parts in
              let right = ap (occurrences needle) same in
              let behind : 0 + past ≡ past = omega arith in
              let begin = ap (λ n. occurrences needle (drop n bytes ++ rest)) behind in
              omega (arith, whole, one.counted rest, begin, ih.counted rest, skipped, left, right);
        })
        (λ never. alone_never bytes never)
        (first_or_none bytes)

    -- a needle of which no two overlap may be counted at once
    pub counts_alone : FirstIsAlone needle → (bytes : List ℕ) (found start : ℕ) → found ≡ occurrences needle bytes → start ≡ length bytes + 1 - length needle
        → CountsOn needle bytes found start
    counts_alone alone bytes found start counted is =
        let h = alone_within alone (length bytes) bytes (omega arith) in
        subst (λ n. CountsOn needle bytes n start) (sym counted) (subst (λ n. CountsOn needle bytes (occurrences needle bytes) n) (sym is) h)

    -- bytes more, joined to the tail of those before
    pub counted_joined : (bytes tail more joined : List ℕ) (before found end sum : ℕ) → joined ≡ tail ++ more → length bytes + length more < 2 ^ 64
        → CountsOn needle joined found end → sum ≡ min (before + found) (2 ^ 64 - 1)
        → ((rest : List ℕ) → occurrences needle (bytes ++ rest) ≡ before + occurrences needle (tail ++ rest))
        → (rest : List ℕ) → occurrences needle ((bytes ++ more) ++ rest) ≡ sum + occurrences needle (drop end joined ++ rest)
    counted_joined bytes tail more joined before found end sum is fits on summed h rest =
        let through : (xs : List ℕ) → occurrences needle ((bytes ++ more) ++ xs) ≡ before + (found + occurrences needle (drop end joined ++ xs)) =
        (λ xs. ap (occurrences needle) (append_assoc bytes more xs) ∙ h (more ++ xs)
        ∙ ap (λ l. before + occurrences needle l) (sym (append_assoc tail more xs) ∙ ap (λ l. l ++ xs) (sym is))
        ∙ ap (λ n. before + n) (on.counted xs)) in
        let none = append-nil (bytes ++ more) in
        let whole = ap length none in
        omega (arith, through rest, through [], few ((bytes ++ more) ++ []), whole, length-append bytes more)

    -- the state after bytes more
    pub joined_counts : (bytes tail more joined own new : List ℕ) (before found end sum : ℕ) → own ≡ needle → joined ≡ tail ++ more → length bytes + length more < 2 ^ 64
        → CountsOn own joined found end → sum ≡ min (before + found) (2 ^ 64 - 1) → new ≡ take (length joined - end) (drop end joined)
        → ((rest : List ℕ) → occurrences needle (bytes ++ rest) ≡ before + occurrences needle (tail ++ rest))
        → (rest : List ℕ) → occurrences needle ((bytes ++ more) ++ rest) ≡ sum + occurrences needle (new ++ rest)
    joined_counts bytes tail more joined own new before found end sum same is fits on summed ends h rest =
        counted_joined bytes tail more joined before found end sum is fits (subst (λ n. CountsOn n joined found end) same on) summed h rest
        ∙ ap (λ l. sum + occurrences needle (l ++ rest)) (sym (ends ∙ take_rest joined end))

-- the end of what is joined lies in the latter part, where it isn't longer
pub tail_within : (front back tail : List ℕ) (k : ℕ) → tail ≡ drop k (front ++ back) → length tail ≤ length back → drop (length back - length tail) back ≡ tail
tail_within front back tail k is few =
    let long = ap length is in
    let all = length-drop k (front ++ back) in
    let sum = length-append front back in
    let n = k - length front in
    ⊎_elim
    (λ short. absurd (omega arith))
    (λ past.
    let place : length front + n ≡ k = omega arith in
    let least : length back - length tail ≡ min n (length back) = omega arith in
    ap (λ m. drop m back) least ∙ drop_min n back ∙ sym (drop-append-add front back n) ∙ ap (λ m. drop m (front ++ back)) place ∙ sym is)
    (cases_lt k (length front))

-- what begins with that end in a piece is the end and the rest of the piece
pub from_tail : (front piece tail : List ℕ) (overlap k from : ℕ) → overlap ≤ length piece → tail ≡ drop k (front ++ take overlap piece) → length tail ≤ overlap
    → from ≡ overlap - length tail → drop from piece ≡ tail ++ drop overlap piece
from_tail front piece tail overlap k from le is few place =
    let long = length-take-le overlap piece le in
    let begins : drop (length (take overlap piece) - length tail) (take overlap piece) ≡ tail = tail_within front (take overlap piece) tail k is (omega arith) in
    let same : length (take overlap piece) - length tail ≡ from = omega arith in
    ap (drop from) (sym (take-append-drop overlap piece))
    ∙ drop-append-le from (take overlap piece) (drop overlap piece) (omega arith)
    ∙ ap (λ l. l ++ drop overlap piece) (ap (λ n. drop n (take overlap piece)) (sym same) ∙ begins)

-- where the tail is shorter than the needle, all that was found is what the whole has
pub found_all : (needle bytes tail : List ℕ) (found : ℕ) → NowhereLaw → length tail < length needle
    → ((rest : List ℕ) → occurrences needle (bytes ++ rest) ≡ found + occurrences needle (tail ++ rest)) → found ≡ occurrences needle bytes
found_all needle bytes tail found nowhere short h =
    let whole = ap (occurrences needle) (append-nil bytes) in
    let end = append-nil tail in
    let long = ap length end in
    let none = nowhere needle (tail ++ []) (λ k occurs. absurd (omega (arith, occurs.fits, long))) in
    omega (arith, h [], whole, none)
