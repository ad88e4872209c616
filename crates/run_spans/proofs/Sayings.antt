-- Where a subject is spoken of first, and what the last says.
use Rattle.std.proofs.Common.{◌≡◌, ℕ, ◌<◌, ◌≤◌, Bool, true, false, cond, List, [], ◌∷◌, ◌++◌, Option, Some, None, refl, ap, subst}
use Rattle.std.specs.Prelude.{nat_eq}
use Rattle.std.specs.List.{AllByRecursion}
use Rattle.resource_lock.specs.declared.ids.WorkerId.{WorkerId}
use Rattle.run_spans.specs.Steps.{Step}
use Rattle.run_spans.specs.Spans.{first_saying, saying, step_key}
use Rattle.run_spans.specs.Covering.{holder, held_by}
use Rattle.run_spans.specs.declared.spans.Saying.{Saying}

-- steps of entries up to k, and behind k
abbrev pub AreUpTo : ℕ → List Step → Type 0
AreUpTo k xs = AllByRecursion (λ x. x.entry ≤ k) xs

abbrev pub AreBehind : ℕ → List Step → Type 0
AreBehind k xs = AllByRecursion (λ x. k < x.entry) xs

silent_here : (e : Bool) (s : Saying) (xs : List Step) (q : ℕ) (y was : Option WorkerId) → (first_saying xs q ≡ None → holder xs q was ≡ was)
    → cond e (Some s) (first_saying xs q) ≡ None → holder xs q (cond e y was) ≡ was
silent_here true s xs q y was more h = absurd (cc)
silent_here false s xs q y was more h = more h

-- where nothing is said, what held holds
pub silent : (xs : List Step) (q : ℕ) (was : Option WorkerId) → first_saying xs q ≡ None → holder xs q was ≡ was
silent [] q was h = refl
silent (x ∷ xs) q was h = silent_here (nat_eq q (step_key x)) (saying x) xs q (held_by x) was (silent xs q was) h

heard_here : (e : Bool) (t s : Saying) (xs : List Step) (q : ℕ) (y a b : Option WorkerId) → (first_saying xs q ≡ Some s → holder xs q a ≡ holder xs q b)
    → cond e (Some t) (first_saying xs q) ≡ Some s → holder xs q (cond e y a) ≡ holder xs q (cond e y b)
heard_here true t s xs q y a b more h = refl
heard_here false t s xs q y a b more h = more h

-- where something is said, what held before doesn't matter
pub heard : (xs : List Step) (q : ℕ) (s : Saying) (a b : Option WorkerId) → first_saying xs q ≡ Some s → holder xs q a ≡ holder xs q b
heard [] q s a b h = absurd (cc)
heard (x ∷ xs) q s a b h = heard_here (nat_eq q (step_key x)) (saying x) s xs q (held_by x) a b (heard xs q s a b) h

abbrev entry_or : Option Saying → ℕ
entry_or None = 0
entry_or (Some s) = s.entry

within_here : (e : Bool) (t s : Saying) (rest : Option Saying) (P : ℕ → Type 0) → P t.entry → (rest ≡ Some s → P s.entry) → cond e (Some t) rest ≡ Some s → P s.entry
within_here true t s rest P here more h = let same : t.entry ≡ s.entry = ap (λ (o : Option Saying). entry_or o) h in subst P same here
within_here false t s rest P here more h = more h

-- what is said is said in one of the steps
pub said_within : (P : ℕ → Type 0) (xs : List Step) (q : ℕ) (s : Saying) → AllByRecursion (λ x. P x.entry) xs → first_saying xs q ≡ Some s → P s.entry
said_within P [] q s all h = absurd (cc)
said_within P (x ∷ xs) q s all h = within_here (nat_eq q (step_key x)) (saying x) s (first_saying xs q) P all.0 (said_within P xs q s all.1) h

append_here : (e : Bool) (t : Saying) (a b c : Option Saying) → (a ≡ None → b ≡ c) → cond e (Some t) a ≡ None → cond e (Some t) b ≡ c
append_here true t a b c more h = absurd (cc)
append_here false t a b c more h = more h

-- what is said first, in front of others
pub said_behind : (xs ys : List Step) (q : ℕ) → first_saying xs q ≡ None → first_saying (xs ++ ys) q ≡ first_saying ys q
said_behind [] ys q h = refl
said_behind (x ∷ xs) ys q h = append_here (nat_eq q (step_key x)) (saying x) (first_saying xs q) (first_saying (xs ++ ys) q) (first_saying ys q) (said_behind xs ys q) h

before_here : (e : Bool) (t s : Saying) (a b : Option Saying) → (a ≡ Some s → b ≡ Some s) → cond e (Some t) a ≡ Some s → cond e (Some t) b ≡ Some s
before_here true t s a b more h = h
before_here false t s a b more h = more h

pub said_before : (xs ys : List Step) (q : ℕ) (s : Saying) → first_saying xs q ≡ Some s → first_saying (xs ++ ys) q ≡ Some s
said_before [] ys q s h = absurd (cc)
said_before (x ∷ xs) ys q s h = before_here (nat_eq q (step_key x)) (saying x) s (first_saying xs q) (first_saying (xs ++ ys) q) (said_before xs ys q s) h
