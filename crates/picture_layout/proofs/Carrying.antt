-- What a panel shows is found among what the panel above shows, and the spans that begin in it.
use Rattle.std.proofs.Common.{◌≡◌, ◌≤◌, ◌<◌, ℕ, ◌+◌, List, [], ◌∷◌, ◌++◌, Bool, true, false, cond, refl, sym, ap, subst, ◌∙◌, append_assoc, append-nil, arith, take, drop, length, get_or}
use Rattle.std.specs.Prelude.{nat_lt, ◌&&◌}
use Rattle.std.specs.List.{filter, AllByRecursion}
use Rattle.std.proofs.lemmas.Bool.{lt-ltb, le-ltb, ltb-true, ltb-false, and_from, and_parts, and_left}
use Rattle.std.proofs.lemmas.List.{at_drop_more, at_drop_all, take_more}
use Rattle.std.proofs.lemmas.List.Elements.{filter-append}
use Rattle.run_spans.specs.declared.spans.Span.{Span}
use Rattle.picture_layout.specs.Panels.{touches, Rising, begun_before, begun_from}
use Rattle.picture_layout.proofs.Rising.{rising_lower}

-- both together are all
parted_cons : (b : Bool) (s : Span) (xs ys zs : List Span) → zs ≡ xs ++ ys → s ∷ zs ≡ cond b (s ∷ xs) [] ++ cond b ys (s ∷ zs)
parted_cons true s xs ys zs is = ap (λ l. s ∷ l) is
parted_cons false s xs ys zs is = refl

pub parted : (b : ℕ) (ss : List Span) → ss ≡ begun_before b ss ++ begun_from b ss
parted b [] = refl
parted b (s ∷ ss) = parted_cons (nat_lt s.from b) s (begun_before b ss) (begun_from b ss) ss (parted b ss)

abbrev pub AllBefore : ℕ → List Span → Type 0
AllBefore b ss = AllByRecursion (λ (s : Span). s.from < b) ss

before_cons : (c : Bool) (b : ℕ) (s : Span) (ss : List Span) → nat_lt s.from b ≡ c → AllBefore b ss → AllBefore b (cond c (s ∷ ss) [])
before_cons true b s ss is all = (ltb-true s.from b is, all)
before_cons false b s ss is all = tt

pub all_before : (b : ℕ) (ss : List Span) → AllBefore b (begun_before b ss)
all_before b [] = tt
all_before b (s ∷ ss) = before_cons (nat_lt s.from b) b s (begun_before b ss) refl (all_before b ss)

from_cons : (c : Bool) (b : ℕ) (s : Span) (ss rest : List Span) → nat_lt s.from b ≡ c → Rising s.from ss → Rising b rest → Rising b (cond c rest (s ∷ ss))
from_cons true b s ss rest is r more = more
from_cons false b s ss rest is r more = (ltb-false s.from b is, r)

pub from_rises : (n b : ℕ) (ss : List Span) → Rising n ss → Rising b (begun_from b ss)
from_rises n b [] r = tt
from_rises n b (s ∷ ss) r = from_cons (nat_lt s.from b) b s ss (begun_from b ss) refl r.1 (from_rises s.from b ss r.1)

-- a panel shows nothing of what begins behind it
filter_out : {X : Type 0} (p : X → Bool) (x : X) (xs : List X) → p x ≡ false → filter p (x ∷ xs) ≡ filter p xs
filter_out p x xs is = ap (λ b. cond b (x ∷ filter p xs) (filter p xs)) is

filter_in : {X : Type 0} (p : X → Bool) (x : X) (xs : List X) → p x ≡ true → filter p (x ∷ xs) ≡ x ∷ filter p xs
filter_in p x xs is = ap (λ b. cond b (x ∷ filter p xs) (filter p xs)) is

none_shown : (f b : ℕ) (ss : List Span) → Rising b ss → filter (touches f b) ss ≡ []
none_shown f b [] r = refl
none_shown f b (s ∷ ss) r =
    let not_yet : touches f b s ≡ false = and_left (nat_lt s.from b && nat_lt f s.until) (nat_lt s.from s.until) (and_left (nat_lt s.from b) (nat_lt f s.until) (le-ltb s.from b r.0)) in
    filter_out (touches f b) s ss not_yet ∙ none_shown f b ss (rising_lower b s.from ss r.0 r.1)

-- where each that passes the second test passes the first
left_out : {X : Type 0} (p q : X → Bool) (x : X) (xs : List X) (c : Bool) → p x ≡ c → q x ≡ false → filter q (filter p (x ∷ xs)) ≡ filter q (filter p xs)
left_out p q x xs true so is = ap (filter q) (filter_in p x xs so) ∙ filter_out q x (filter p xs) is
left_out p q x xs false so is = ap (filter q) (filter_out p x xs so)

within_cons : {X : Type 0} (p q : X → Bool) (x : X) (xs : List X) (b : Bool) → q x ≡ b → (q x ≡ true → p x ≡ true) → filter q (filter p xs) ≡ filter q xs
    → filter q (filter p (x ∷ xs)) ≡ filter q (x ∷ xs)
within_cons p q x xs true is also rest = ap (filter q) (filter_in p x xs (also is)) ∙ (filter_in q x (filter p xs) is ∙ (ap (λ l. x ∷ l) rest ∙ sym (filter_in q x xs is)))
within_cons p q x xs false is also rest = left_out p q x xs (p x) refl is ∙ (rest ∙ sym (filter_out q x xs is))

within : {X : Type 0} (p q : X → Bool) (xs : List X) → AllByRecursion (λ (x : X). q x ≡ true → p x ≡ true) xs → filter q (filter p xs) ≡ filter q xs
within p q [] all = refl
within p q (x ∷ xs) all = within_cons p q x xs (q x) refl all.0 (within p q xs all.1)

touching : (f b : ℕ) (s : Span) → s.from < b → f < s.until → s.from < s.until → touches f b s ≡ true
touching f b s begun reaches some =
    and_from (nat_lt s.from b && nat_lt f s.until) (nat_lt s.from s.until) (and_from (nat_lt s.from b) (nat_lt f s.until) (lt-ltb s.from b begun) (lt-ltb f s.until reaches)) (lt-ltb s.from s.until some)

record Touching (f b : ℕ) (s : Span) : Type 0 where
  begun : s.from < b
  reaches : f < s.until
  some : s.from < s.until

touched : (f b : ℕ) (s : Span) → touches f b s ≡ true → Touching f b s
touched f b s is =
    let both = and_parts (nat_lt s.from b && nat_lt f s.until) (nat_lt s.from s.until) is in
    let front = and_parts (nat_lt s.from b) (nat_lt f s.until) both.0 in
    record { begun = ltb-true s.from b front.0; reaches = ltb-true f s.until front.1; some = ltb-true s.from s.until both.1 }

-- what the panel below shows would be shown by one that begins above
begins_above : (f b c : ℕ) (ss : List Span) → f ≤ b → AllByRecursion (λ (s : Span). touches b c s ≡ true → touches f c s ≡ true) ss
begins_above f b c [] less = tt
begins_above f b c (s ∷ ss) less = (λ is. let t = touched b c s is in touching f c s t.begun (omega (arith, less, t.reaches)) t.some, begins_above f b c ss less)

-- and what began above was shown there
shown_above : (f b c : ℕ) (ss : List Span) → f ≤ b → AllBefore b ss → AllByRecursion (λ (s : Span). touches b c s ≡ true → touches f b s ≡ true) ss
shown_above f b c [] less all = tt
shown_above f b c (s ∷ ss) less all = (λ is. let t = touched b c s is in touching f b s all.0 (omega (arith, less, t.reaches)) t.some, shown_above f b c ss less all.1)

shown_before_cons : (f b : ℕ) (s : Span) (ss : List Span) (c : Bool) → touches f b s ≡ c → AllBefore b (filter (touches f b) ss) → AllBefore b (filter (touches f b) (s ∷ ss))
shown_before_cons f b s ss true is all = subst (AllBefore b) (sym (filter_in (touches f b) s ss is)) ((touched f b s is).begun, all)
shown_before_cons f b s ss false is all = subst (AllBefore b) (sym (filter_out (touches f b) s ss is)) all

shown_before : (f b : ℕ) (ss : List Span) → AllBefore b (filter (touches f b) ss)
shown_before f b [] = tt
shown_before f b (s ∷ ss) = shown_before_cons f b s ss (touches f b s) refl (shown_before f b ss)

before_more : (a b : ℕ) (ss : List Span) → a ≤ b → AllBefore a ss → AllBefore b ss
before_more a b [] less all = tt
before_more a b (s ∷ ss) less all = (omega (arith, less, all.0), before_more a b ss less all.1)

before_both : (b : ℕ) (xs ys : List Span) → AllBefore b xs → AllBefore b ys → AllBefore b (xs ++ ys)
before_both b [] ys all more = more
before_both b (x ∷ xs) ys all more = (all.0, before_both b xs ys all.1 more)

-- What panels from an entry on show is found among some spans that begin before it, and the rest.
pub record Carries (spans : List Span) (first : ℕ) (before rest : List Span) : Type 0 where
  pub same : (b : ℕ) → filter (touches first b) (before ++ rest) ≡ filter (touches first b) spans
  pub begun : AllByRecursion (λ (s : Span). s.from < first) before
  pub rising : Rising first rest

pub carries_all : (spans : List Span) → Rising 1 spans → Carries spans 1 [] spans
carries_all spans r = record { same = λ b. refl; begun = tt; rising = r }

-- all that is left is what begins before an entry, and what doesn't
panels_of_rest : (b : ℕ) (before rest : List Span) → before ++ rest ≡ (before ++ begun_before b rest) ++ begun_from b rest
panels_of_rest b before rest = ap (λ l. before ++ l) (parted b rest) ∙ sym (append_assoc before (begun_before b rest) (begun_from b rest))

found_in : (f b : ℕ) (before rest : List Span) → Rising f rest → filter (touches f b) (before ++ rest) ≡ filter (touches f b) (before ++ begun_before b rest)
found_in f b before rest r =
    ap (filter (touches f b)) (panels_of_rest b before rest)
    ∙ (filter-append (touches f b) (before ++ begun_before b rest) (begun_from b rest)
    ∙ (ap (λ l. filter (touches f b) (before ++ begun_before b rest) ++ l) (none_shown f b (begun_from b rest) (from_rises f b rest r))
    ∙ append-nil (filter (touches f b) (before ++ begun_before b rest))))

pub shows_all : {spans before rest : List Span} {first : ℕ} (b : ℕ) → Carries spans first before rest
    → filter (touches first b) (before ++ begun_before b rest) ≡ filter (touches first b) spans
shows_all {spans} {before} {rest} {first} b c = sym (found_in first b before rest c.rising) ∙ c.same b

pub carries_on : {spans before rest : List Span} {first : ℕ} (b : ℕ) → first ≤ b → Carries spans first before rest
    → Carries spans b (filter (touches first b) (before ++ begun_before b rest)) (begun_from b rest)
carries_on {spans} {before} {rest} {first} b less c = record {
  same = λ e.
      filter-append (touches b e) (filter (touches first b) (before ++ begun_before b rest)) (begun_from b rest)
      ∙ (ap (λ l. l ++ filter (touches b e) (begun_from b rest))
      (within (touches first b) (touches b e) (before ++ begun_before b rest)
      (shown_above first b e (before ++ begun_before b rest) less (before_both b before (begun_before b rest) (before_more first b before less c.begun) (all_before b rest))))
      ∙ (sym (filter-append (touches b e) (before ++ begun_before b rest) (begun_from b rest))
      ∙ (sym (ap (filter (touches b e)) (panels_of_rest b before rest))
      ∙ (sym (within (touches first e) (touches b e) (before ++ rest) (begins_above first b e (before ++ rest) less))
      ∙ (ap (filter (touches b e)) (c.same e)
      ∙ within (touches first e) (touches b e) spans (begins_above first b e spans less))))));
  begun = shown_before first b (before ++ begun_before b rest);
  rising = from_rises first b rest c.rising;
}

-- one more that begins before an entry, and the first that doesn't
before_step : (b : ℕ) (s : Span) (ss : List Span) → s.from < b → begun_before b (s ∷ ss) ≡ s ∷ begun_before b ss
before_step b s ss less = ap (λ c. cond c (s ∷ begun_before b ss) []) (lt-ltb s.from b less)

from_step : (b : ℕ) (s : Span) (ss : List Span) → s.from < b → begun_from b (s ∷ ss) ≡ begun_from b ss
from_step b s ss less = ap (λ c. cond c (begun_from b ss) (s ∷ ss)) (lt-ltb s.from b less)

before_stop : (b : ℕ) (s : Span) (ss : List Span) → b ≤ s.from → begun_before b (s ∷ ss) ≡ []
before_stop b s ss least = ap (λ c. cond c (s ∷ begun_before b ss) []) (le-ltb s.from b least)

from_stop : (b : ℕ) (s : Span) (ss : List Span) → b ≤ s.from → begun_from b (s ∷ ss) ≡ s ∷ ss
from_stop b s ss least = ap (λ c. cond c (begun_from b ss) (s ∷ ss)) (le-ltb s.from b least)

-- the spans up to a place begin before the entry
pub record PartedAt (b : ℕ) (ss : List Span) (i : ℕ) : Type 0 where
  pub within : i ≤ length ss
  pub before : take i ss ++ begun_before b (drop i ss) ≡ begun_before b ss
  pub from : begun_from b (drop i ss) ≡ begun_from b ss

pub parted_on : (b : ℕ) (ss : List Span) (i : ℕ) (s : Span) → PartedAt b ss i → i < length ss → (get_or ss i s).from < b → PartedAt b ss (i + 1)
parted_on b ss i s at some less = record {
  within = omega (arith, some);
  before =
      ap (λ l. l ++ begun_before b (drop (i + 1) ss)) (take_more ss i s some)
      ∙ (append_assoc (take i ss) (get_or ss i s ∷ []) (begun_before b (drop (i + 1) ss))
      ∙ (ap (λ l. take i ss ++ l) (sym (before_step b (get_or ss i s) (drop (i + 1) ss) less) ∙ sym (at_drop_more (begun_before b) ss i s some))
      ∙ at.before));
  from = sym (from_step b (get_or ss i s) (drop (i + 1) ss) less) ∙ (sym (at_drop_more (begun_from b) ss i s some) ∙ at.from);
}

-- at the first that doesn't, or behind all
stop_before : (b : ℕ) (ss : List Span) (i : ℕ) (s : Span) → i < length ss → b ≤ (get_or ss i s).from → begun_before b (drop i ss) ≡ []
stop_before b ss i s some least = at_drop_more (begun_before b) ss i s some ∙ before_stop b (get_or ss i s) (drop (i + 1) ss) least

stop_from : (b : ℕ) (ss : List Span) (i : ℕ) (s : Span) → i < length ss → b ≤ (get_or ss i s).from → begun_from b (drop i ss) ≡ drop i ss
stop_from b ss i s some least = at_drop_more (begun_from b) ss i s some ∙ (from_stop b (get_or ss i s) (drop (i + 1) ss) least ∙ sym (at_drop_more (λ l. l) ss i s some))

pub before_here : (b : ℕ) (ss : List Span) (i : ℕ) (s : Span) → PartedAt b ss i → i < length ss → b ≤ (get_or ss i s).from → take i ss ≡ begun_before b ss
before_here b ss i s at some least = sym (append-nil (take i ss)) ∙ (ap (λ l. take i ss ++ l) (sym (stop_before b ss i s some least)) ∙ at.before)

pub from_here : (b : ℕ) (ss : List Span) (i : ℕ) (s : Span) → PartedAt b ss i → i < length ss → b ≤ (get_or ss i s).from → drop i ss ≡ begun_from b ss
from_here b ss i s at some least = sym (stop_from b ss i s some least) ∙ at.from

pub before_end : (b : ℕ) (ss : List Span) (i : ℕ) → PartedAt b ss i → length ss ≤ i → take i ss ≡ begun_before b ss
before_end b ss i at past = sym (append-nil (take i ss)) ∙ (ap (λ l. take i ss ++ l) (sym (at_drop_all (begun_before b) ss i past)) ∙ at.before)

pub from_end : (b : ℕ) (ss : List Span) (i : ℕ) → PartedAt b ss i → length ss ≤ i → drop i ss ≡ begun_from b ss
from_end b ss i at past = at_drop_all (λ l. l) ss i past ∙ (sym (at_drop_all (begun_from b) ss i past) ∙ at.from)
