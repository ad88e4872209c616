-- Sets of numbers of which something holds, as numbers are looked at.
use Rattle.std.proofs.Common.{◌≡◌, ◌≢◌, ℕ, ◌+◌, ◌<◌, ◌≤◌, Bool, true, false, refl, sym, ap, ◌∙◌, subst, arith, ◌⊎◌, inl, inr}
use Rattle.std.specs.Prelude.{◌↔◌, IfSome, Option, None, Some}
use Rattle.std.proofs.lemmas.Bool.{cases_eq, true≢false}
use Rattle.ready_work.specs.NumberSetView.{NumberSetView, has, room_of}
use Rattle.ready_work.specs.Sets.{IsRightAt, IsSetOf, IsSetBelow, Looks, LooksWhereKept, Moves, NoNumber, PutsWhereKept, SameNumbers}

-- one number was put where it belongs
pub looks_put : (P : ℕ → Type 0) (t : ℕ) (b : Bool) (old new : NumberSetView) → room_of new ≡ room_of old → has new t ≡ b → ((k : ℕ) → k ≢ t → has new k ≡ has old k) → ((b ≡ true) ↔ P t) → Looks P (λ k. k ≡ t) old new
looks_put P t b old new room put others means = record {
  room = room;
  seen = λ k e. subst (IsRightAt P new) (sym e) right;
  kept = λ k. kept k (cases_eq k t);
}
  where
    right : IsRightAt P new t
    right = (λ h. means.0 (sym put ∙ h), λ p. put ∙ means.1 p)

    kept : (k : ℕ) → (k ≡ t) ⊎ (k ≡ t → ⊥) → (has new k ≡ has old k) ⊎ IsRightAt P new k
    kept k (inl e) = inr (subst (IsRightAt P new) (sym e) right)
    kept k (inr ne) = inl (others k ne)

-- nothing was looked at
pub looks_nowhere : (P Seen : ℕ → Type 0) (set : NumberSetView) → ((k : ℕ) → Seen k → ⊥) → Looks P Seen set set
looks_nowhere P Seen set none = record { room = refl; seen = λ k s. absurd (none k s); kept = λ k. inl refl }

-- the members stay, and then stay again
pub same_then : (old mid new : NumberSetView) → SameNumbers old mid → SameNumbers mid new → SameNumbers old new
same_then old mid new first second = record { room = second.room ∙ first.room; members = λ k. second.members k ∙ first.members k }

-- a number was put, and put back
pub put_back : (before mid after : NumberSetView) (n : ℕ) → has before n ≡ has after n → room_of mid ≡ room_of before → ((k : ℕ) → k ≢ n → has mid k ≡ has before k) → room_of after ≡ room_of mid → ((k : ℕ) → k ≢ n → has after k ≡ has mid k) → SameNumbers before after
put_back before mid after n same mid_room mid_others after_room after_others = record { room = after_room ∙ mid_room; members = λ k. at k (cases_eq k n) }
  where
    at : (k : ℕ) → (k ≡ n) ⊎ (k ≡ n → ⊥) → has after k ≡ has before k
    at k (inl e) = ap (has after) e ∙ sym same ∙ ap (has before) (sym e)
    at k (inr ne) = after_others k ne ∙ mid_others k ne

pub set_same : (P Open : ℕ → Type 0) (old new : NumberSetView) → SameNumbers old new → IsSetOf P Open old → IsSetOf P Open new
set_same P Open old new same is = record { each = λ k. at k (is.each k) }
  where
    at : (k : ℕ) → Open k ⊎ IsRightAt P old k → Open k ⊎ IsRightAt P new k
    at k (inl o) = inl o
    at k (inr right) = inr (λ h. right.0 (sym (same.members k) ∙ h), λ p. same.members k ∙ right.1 p)

-- what was right stays right
carried : (P : ℕ → Type 0) (old new : NumberSetView) (k : ℕ) → (has new k ≡ has old k) ⊎ IsRightAt P new k → IsRightAt P old k → IsRightAt P new k
carried P old new k (inl same) right = (λ h. right.0 (sym same ∙ h), λ p. same ∙ right.1 p)
carried P old new k (inr right) _ = right

-- numbers were looked at, and then others
pub looks_then : (P A B Both : ℕ → Type 0) (old mid new : NumberSetView) → ((k : ℕ) → Both k → A k ⊎ B k) → Looks P A old mid → Looks P B mid new → Looks P Both old new
looks_then P A B Both old mid new cover first second = record {
  room = second.room ∙ first.room;
  seen = λ k both. seen k (cover k both);
  kept = λ k. kept k (first.kept k) (second.kept k);
}
  where
    seen : (k : ℕ) → A k ⊎ B k → IsRightAt P new k
    seen k (inl a) = carried P mid new k (second.kept k) (first.seen k a)
    seen k (inr b) = second.seen k b

    kept : (k : ℕ) → (has mid k ≡ has old k) ⊎ IsRightAt P mid k → (has new k ≡ has mid k) ⊎ IsRightAt P new k → (has new k ≡ has old k) ⊎ IsRightAt P new k
    kept k (inl same) (inl also) = inl (also ∙ same)
    kept k (inl same) (inr right) = inr right
    kept k (inr right) also = inr (carried P mid new k also right)

pub looks_fewer : (P A B : ℕ → Type 0) (old new : NumberSetView) → ((k : ℕ) → B k → A k) → Looks P A old new → Looks P B old new
looks_fewer P A B old new fewer looks = record { room = looks.room; seen = λ k b. looks.seen k (fewer k b); kept = looks.kept }

-- what was left open and then looked at is right
pub set_looked : (P Before Seen After : ℕ → Type 0) (old new : NumberSetView) → ((k : ℕ) → Before k → Seen k ⊎ After k) → Looks P Seen old new → IsSetOf P Before old → IsSetOf P After new
set_looked P Before Seen After old new cover looks is = record { each = λ k. at k (is.each k) }
  where
    seen : (k : ℕ) → Seen k ⊎ After k → After k ⊎ IsRightAt P new k
    seen k (inl s) = inr (looks.seen k s)
    seen k (inr a) = inl a

    at : (k : ℕ) → Before k ⊎ IsRightAt P old k → After k ⊎ IsRightAt P new k
    at k (inl b) = seen k (cover k b)
    at k (inr right) = inr (carried P old new k (looks.kept k) right)

-- a set of the numbers of which something holds is one of those of which the same holds, but where that differs
pub set_moved : (P Q Open : ℕ → Type 0) (set : NumberSetView) → ((k : ℕ) → Open k ⊎ (P k ↔ Q k)) → IsSetOf P NoNumber set → IsSetOf Q Open set
set_moved P Q Open set same is = record { each = λ k. at k (same k) (is.each k) }
  where
    at : (k : ℕ) → Open k ⊎ (P k ↔ Q k) → NoNumber k ⊎ IsRightAt P set k → Open k ⊎ IsRightAt Q set k
    at k (inl open') _ = inl open'
    at k (inr eq) (inl none) = absurd none
    at k (inr eq) (inr right) = inr (λ h. eq.0 (right.0 h), λ q. right.1 (eq.1 q))

-- ---- a set that is kept or isn't

pub kept_looks_nowhere : (P Seen : ℕ → Type 0) (set : Option NumberSetView) → ((k : ℕ) → Seen k → ⊥) → LooksWhereKept P Seen set set
kept_looks_nowhere P Seen None none = tt
kept_looks_nowhere P Seen (Some set) none = looks_nowhere P Seen set none

pub kept_put : (P : ℕ → Type 0) (t : ℕ) (b : Bool) (old new : Option NumberSetView) → PutsWhereKept t b old new → ((b ≡ true) ↔ P t) → LooksWhereKept P (λ k. k ≡ t) old new
kept_put P t b None None puts means = tt
kept_put P t b None (Some new) puts means = absurd puts
kept_put P t b (Some old) None puts means = absurd puts
kept_put P t b (Some old) (Some new) puts means = looks_put P t b old new puts.0 puts.1 puts.2 means

pub kept_looked : (P Before Seen After : ℕ → Type 0) (old new : Option NumberSetView) → ((k : ℕ) → Before k → Seen k ⊎ After k) → LooksWhereKept P Seen old new → IfSome old (IsSetOf P Before) → IfSome new (IsSetOf P After)
kept_looked P Before Seen After None None cover looks is = tt
kept_looked P Before Seen After None (Some new) cover looks is = absurd looks
kept_looked P Before Seen After (Some old) None cover looks is = tt
kept_looked P Before Seen After (Some old) (Some new) cover looks is = set_looked P Before Seen After old new cover looks is

pub kept_room : (P Seen : ℕ → Type 0) (n : ℕ) (old new : Option NumberSetView) → LooksWhereKept P Seen old new → IfSome old (λ set. n ≤ room_of set) → IfSome new (λ set. n ≤ room_of set)
kept_room P Seen n None None looks enough = tt
kept_room P Seen n None (Some new) looks enough = absurd looks
kept_room P Seen n (Some old) None looks enough = tt
kept_room P Seen n (Some old) (Some new) looks enough = let room = looks.room in omega (arith, enough)

-- ---- what holds of numbers changes too

-- numbers were looked at, of those for which what holds has changed
pub moves_seen : (P Q A B : ℕ → Type 0) (old new : NumberSetView) → ((k : ℕ) → B k → A k) → ((k : ℕ) → A k ⊎ (P k ↔ Q k)) → Looks Q A old new → Moves P Q B old new
moves_seen P Q A B old new into known looks = record { room = looks.room; seen = λ k b. looks.seen k (into k b); kept = λ k right. at k right (known k) (looks.kept k) }
  where
    at : (k : ℕ) → IsRightAt P old k → A k ⊎ (P k ↔ Q k) → (has new k ≡ has old k) ⊎ IsRightAt Q new k → IsRightAt Q new k
    at k right (inl a) _ = looks.seen k a
    at k right (inr eq) (inl same) = (λ h. eq.0 (right.0 (sym same ∙ h)), λ q. same ∙ right.1 (eq.1 q))
    at k right (inr eq) (inr now) = now

pub moves_looked : (P A : ℕ → Type 0) (old new : NumberSetView) → Looks P A old new → Moves P P A old new
moves_looked P A old new looks = record { room = looks.room; seen = looks.seen; kept = λ k right. carried P old new k (looks.kept k) right }

pub set_moves : (P Q Before Seen After : ℕ → Type 0) (old new : NumberSetView) → ((k : ℕ) → Before k → Seen k ⊎ After k) → Moves P Q Seen old new → IsSetOf P Before old → IsSetOf Q After new
set_moves P Q Before Seen After old new cover moves is = record { each = λ k. at k (is.each k) }
  where
    seen : (k : ℕ) → Seen k ⊎ After k → After k ⊎ IsRightAt Q new k
    seen k (inl s) = inr (moves.seen k s)
    seen k (inr a) = inl a

    at : (k : ℕ) → Before k ⊎ IsRightAt P old k → After k ⊎ IsRightAt Q new k
    at k (inl b) = seen k (cover k b)
    at k (inr right) = inr (moves.kept k right)

-- ---- all numbers are looked at, one after another

pub none_below : (P : ℕ → Type 0) (set : NumberSetView) → ((k : ℕ) → has set k ≡ false) → IsSetBelow P 0 set
none_below P set none = record { each = λ k. inl (omega arith, none k) }

pub one_below : (P : ℕ → Type 0) (n : ℕ) (old new : NumberSetView) → Looks P (λ k. k ≡ n) old new → IsSetBelow P n old → IsSetBelow P (n + 1) new
one_below P n old new looks is = record { each = λ k. at k (cases_eq k n) (is.each k) }
  where
    from : (k : ℕ) → n + 1 ≤ k → has old k ≡ false → (has new k ≡ has old k) ⊎ IsRightAt P new k → ((n + 1 ≤ k) × (has new k ≡ false)) ⊎ IsRightAt P new k
    from k le none (inl same) = inl (le, same ∙ none)
    from k le none (inr right) = inr right

    at : (k : ℕ) → (k ≡ n) ⊎ (k ≡ n → ⊥) → ((n ≤ k) × (has old k ≡ false)) ⊎ IsRightAt P old k → ((n + 1 ≤ k) × (has new k ≡ false)) ⊎ IsRightAt P new k
    at k (inl e) _ = inr (looks.seen k e)
    at k (inr ne) (inl open') = let le = open'.0 in from k (omega arith) open'.1 (looks.kept k)
    at k (inr ne) (inr right) = inr (carried P old new k (looks.kept k) right)

-- none is left behind the last
pub all_below : (P : ℕ → Type 0) (n : ℕ) (set : NumberSetView) → ((k : ℕ) → P k → k < n) → IsSetBelow P n set → IsSetOf P NoNumber set
all_below P n set within is = record { each = λ k. inr (at k (is.each k)) }
  where
    at : (k : ℕ) → ((n ≤ k) × (has set k ≡ false)) ⊎ IsRightAt P set k → IsRightAt P set k
    at k (inl open') = (λ h. absurd (true≢false (sym h ∙ open'.1)), λ p. let lt = within k p in let le = open'.0 in absurd (omega arith))
    at k (inr right) = right
