-- After which entries spans tell something of a worker is found in one walk along them.
use Rattle.std.proofs.Common.{◌≡◌, ◌≤◌, ◌<◌, ℕ, ◌+◌, List, [], ◌∷◌, Bool, true, false, cond, refl, sym, ap, ap₂, subst, ◌∙◌, arith}
use Rattle.std.specs.Prelude.{nat_lt, max, ◌&&◌, ◌||◌}
use Rattle.std.proofs.Math.Bool.{or_assoc, or-false}
use Rattle.std.proofs.lemmas.Bool.{lt-ltb, le-ltb, le-leb, lt-leb, ltb-true, ltb-false}
use Rattle.std.proofs.lemmas.List.Folds.{list_any-append}
use Rattle.run_spans.specs.declared.spans.Span.{Span}
use Rattle.picture_layout.specs.Panels.{Rising, begun_before, begun_from}
use Rattle.picture_layout.specs.Occupancy.{is_of, covers, stands_after, reach_over}
use Rattle.picture_layout.specs.declared.occupancy.Occupancy.{Occupancy}
use Rattle.picture_layout.proofs.Carrying.{parted, AllBefore, all_before, from_rises}
use Rattle.picture_layout.proofs.Rising.{rising_lower}

-- an entry lies before the larger of two where it lies before one of them
before_max : (k a b : ℕ) → nat_lt k (max a b) ≡ (nat_lt k b || nat_lt k a)
before_max k a b = at (nat_lt k b) refl
  where
    at : (p : Bool) → nat_lt k b ≡ p → nat_lt k (max a b) ≡ (nat_lt k b || nat_lt k a)
    at true is = lt-ltb k (max a b) (let less : k < b = ltb-true k b is in omega (arith, less)) ∙ sym (ap (λ q. q || nat_lt k a) is)
    at false is =
        let past : b ≤ k = ltb-false k b is in
        or_else (nat_lt k a) refl past ∙ sym (ap (λ q. q || nat_lt k a) is)
      where
        or_else : (q : Bool) → nat_lt k a ≡ q → b ≤ k → nat_lt k (max a b) ≡ nat_lt k a
        or_else true less past = lt-ltb k (max a b) (let l : k < a = ltb-true k a less in omega (arith, l)) ∙ sym less
        or_else false most past = le-ltb k (max a b) (let l : a ≤ k = ltb-false k a most in omega (arith, l, past)) ∙ sym most

-- one more span that begins up to the entry
one_reaches : (mine : Bool) (k reach : ℕ) (s : Span) → s.from ≤ k → nat_lt k (cond mine (max s.until reach) reach) ≡ (nat_lt k reach || (mine && covers k s))
one_reaches true k reach s begun =
    before_max k s.until reach ∙ ap (λ b. nat_lt k reach || b) (sym (ap (λ b. b && nat_lt k s.until) (le-leb s.from k begun)))
one_reaches false k reach s begun = sym (or-false (nat_lt k reach))

-- where all begin up to the entry, how far they reach tells it
pub reach_tells : (occupancy : Occupancy) (w k b reach : ℕ) (ss : List Span) → b ≤ k + 1 → AllBefore b ss
    → nat_lt k (reach_over occupancy w reach ss) ≡ (nat_lt k reach || stands_after occupancy w ss k)
reach_tells occupancy w k b reach [] few all = sym (or-false (nat_lt k reach))
reach_tells occupancy w k b reach (s ∷ ss) few all =
    reach_tells occupancy w k b (cond (is_of occupancy w s) (max s.until reach) reach) ss few all.1
    ∙ (ap (λ q. q || stands_after occupancy w ss k) (one_reaches (is_of occupancy w s) k reach s (omega (arith, few, all.0)))
    ∙ or_assoc (nat_lt k reach) (is_of occupancy w s && covers k s) (stands_after occupancy w ss k))

-- what begins behind an entry tells nothing of it
not_yet : (mine : Bool) (k : ℕ) (s : Span) → k < s.from → (mine && covers k s) ≡ false
not_yet true k s less = ap (λ b. b && nat_lt k s.until) (lt-leb s.from k less)
not_yet false k s less = refl

pub none_begun : (occupancy : Occupancy) (w k : ℕ) (ss : List Span) → Rising (k + 1) ss → stands_after occupancy w ss k ≡ false
none_begun occupancy w k [] r = refl
none_begun occupancy w k (s ∷ ss) r =
    ap (λ b. b || stands_after occupancy w ss k) (not_yet (is_of occupancy w s) k s (omega (arith, r.0)))
    ∙ none_begun occupancy w k ss (rising_lower (k + 1) s.from ss r.0 r.1)

-- Of the entries from one on it is told by how far the spans reach that have begun, and by the rest.
pub record Swept (occupancy : Occupancy) (w : ℕ) (spans : List Span) (before reach : ℕ) (rest : List Span) : Type 0 where
  pub tells : (k : ℕ) → before < k → stands_after occupancy w spans k ≡ (nat_lt k reach || stands_after occupancy w rest k)
  pub rising : Rising (before + 1) rest

pub swept_none : (occupancy : Occupancy) (w : ℕ) (spans : List Span) → Rising 1 spans → Swept occupancy w spans 0 0 spans
swept_none occupancy w spans r = record { tells = λ k less. sym (ap (λ b. b || stands_after occupancy w spans k) (le-ltb k 0 (omega arith))); rising = r }

told_on : (occupancy : Occupancy) (w : ℕ) (spans : List Span) (before reach : ℕ) (rest : List Span) (k : ℕ) → Swept occupancy w spans before reach rest → before < k
    → stands_after occupancy w spans k ≡ (nat_lt k (reach_over occupancy w reach (begun_before (before + 1 + 1) rest)) || stands_after occupancy w (begun_from (before + 1 + 1) rest) k)
told_on occupancy w spans before reach rest k s less =
    let b = before + 1 + 1 in
    let begun = begun_before b rest in
    let later = begun_from b rest in
    s.tells k less
    ∙ (ap (λ l. nat_lt k reach || stands_after occupancy w l k) (parted b rest)
    ∙ (ap (λ q. nat_lt k reach || q) (list_any-append (λ (x : Span). is_of occupancy w x && covers k x) begun later)
    ∙ (sym (or_assoc (nat_lt k reach) (stands_after occupancy w begun k) (stands_after occupancy w later k))
    ∙ ap (λ q. q || stands_after occupancy w later k) (sym (reach_tells occupancy w k b reach begun (omega (arith, less)) (all_before b rest))))))

pub swept_on : (occupancy : Occupancy) (w : ℕ) (spans : List Span) {before reach : ℕ} {rest : List Span} (next : ℕ) (begun later : List Span) → Swept occupancy w spans before reach rest
    → begun ≡ begun_before (before + 1 + 1) rest → later ≡ begun_from (before + 1 + 1) rest → next ≡ reach_over occupancy w reach begun → Swept occupancy w spans (before + 1) next later
swept_on occupancy w spans {before} {reach} {rest} next begun later s at from is =
    let b = before + 1 + 1 in
    let far : next ≡ reach_over occupancy w reach (begun_before b rest) = is ∙ ap (λ ss. reach_over occupancy w reach ss) at in
    record {
      tells = λ k less.
          told_on occupancy w spans before reach rest k s (omega (arith, less))
          ∙ ap₂ (λ r ss. nat_lt k r || stands_after occupancy w ss k) (sym far) (sym from);
      rising = subst (λ ss. Rising b ss) (sym from) (from_rises (before + 1) b rest s.rising);
    }

-- so the entry at hand is told by how far those reach that have begun
pub told_here : (occupancy : Occupancy) (w : ℕ) (spans : List Span) {before reach : ℕ} {rest : List Span} (next : ℕ) (begun : List Span) → Swept occupancy w spans before reach rest
    → begun ≡ begun_before (before + 1 + 1) rest → next ≡ reach_over occupancy w reach begun → nat_lt (before + 1) next ≡ stands_after occupancy w spans (before + 1)
told_here occupancy w spans {before} {reach} {rest} next begun s at is =
    let b = before + 1 + 1 in
    let far : next ≡ reach_over occupancy w reach (begun_before b rest) = is ∙ ap (λ ss. reach_over occupancy w reach ss) at in
    sym (told_on occupancy w spans before reach rest (before + 1) s (omega arith)
    ∙ (ap (λ q. nat_lt (before + 1) (reach_over occupancy w reach (begun_before b rest)) || q) (none_begun occupancy w (before + 1) (begun_from b rest) (from_rises (before + 1) b rest s.rising))
    ∙ (or-false (nat_lt (before + 1) (reach_over occupancy w reach (begun_before b rest)))
    ∙ ap (λ r. nat_lt (before + 1) r) (sym far))))
