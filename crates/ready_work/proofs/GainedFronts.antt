-- Lists of dependents that grow at their fronts.
use Rattle.std.proofs.Common.{◌≡◌, ◌≢◌, ◌⊎◌, ◌<◌, ◌+◌, ℕ, List, [], ◌∷◌, ◌++◌, cond, eqb, length, set, refl, ap, sym, ◌∙◌, arith, inl, inr, Contains, subst, get_or-set_same, get_or-set_other, length-set}
use Rattle.std.proofs.lemmas.Bool.{cases_eq, eq-eqb, ne_eqb}
use Rattle.std.proofs.lemmas.List.Sums.{sum_by-cons, sum_by_push}
use Rattle.std.proofs.lemmas.List.Elements.{Contains-append_cases, Contains-append_left, Contains-append_right, Contains-push, Contains-push_cases}
use Rattle.ready_work.specs.Rank.{Dependencies, after}
use Rattle.ready_work.specs.DependentLists.{AddsDependent, times}

abbrev pub gains : Dependencies → ℕ → ℕ → Dependencies
gains d u t = set d u (t ∷ after d u)

gains_here : (d : Dependencies) (u t : ℕ) → u < length d → after (gains d u t) u ≡ t ∷ after d u
gains_here d u t lt = get_or-set_same d u (t ∷ after d u) [] lt

gains_other : (d : Dependencies) (u t v : ℕ) → v ≢ u → after (gains d u t) v ≡ after d v
gains_other d u t v ne = get_or-set_other d u v (t ∷ after d u) [] ne

gains_keeps : (d : Dependencies) (u t v x : ℕ) → u < length d → Contains (after d v) x → Contains (after (gains d u t) v) x
gains_keeps d u t v x lt found = elim (cases_eq v u) [
  | inl same ↦ rw (same, gains_here d u t lt) (Contains-append_right (t ∷ []) (after d u) x (rw same at found))
  | inr other ↦ rw (gains_other d u t v other) found
]

gains_has : (d : Dependencies) (u t : ℕ) → u < length d → Contains (after (gains d u t) u) t
gains_has d u t lt = rw (gains_here d u t lt) (Contains-append_left (t ∷ []) (after d u) t (Contains-push [] t))

-- a number of one more at the front is that one or one of the others
front_or_behind : (t x : ℕ) (xs : List ℕ) → Contains (t ∷ xs) x → Contains xs x ⊎ (t ≡ x)
front_or_behind t x xs found = elim (Contains-append_cases (t ∷ []) xs x found) [
  | inl front ↦ elim (Contains-push_cases [] t x front) [
    | inl none ↦ absurd (omega (arith, none.1))
    | inr is ↦ inr is
  ]
  | inr behind ↦ inl behind
]

gains_only : (d : Dependencies) (u t v x : ℕ) → u < length d → Contains (after (gains d u t) v) x → Contains (after d v) x ⊎ ((x ≡ t) × (u ≡ v))
gains_only d u t v x lt found = elim (cases_eq v u) [
  | inl same ↦
      elim (front_or_behind t x (after d u) (rw (gains_here d u t lt) at (rw same at found))) [
        | inl before ↦ inl (rw same before)
        | inr now ↦ inr (sym now, sym same)
      ]
  | inr other ↦ inl (rw (gains_other d u t v other) at found)
]

-- ---- how often a task stands among the dependents

times_front : (y n : ℕ) (xs : List ℕ) → times (y ∷ xs) n ≡ cond (eqb y n) 1 0 + times xs n
times_front y n xs = sum_by-cons (λ x. cond (eqb x n) 1 0) y xs

times_front_same : (y n : ℕ) (xs : List ℕ) → y ≡ n → times (y ∷ xs) n ≡ 1 + times xs n
times_front_same y n xs is = times_front y n xs ∙ ap (λ b. cond b 1 0 + times xs n) (eq-eqb y n is)

times_front_other : (y n : ℕ) (xs : List ℕ) → y ≢ n → times (y ∷ xs) n ≡ times xs n
times_front_other y n xs ne = times_front y n xs ∙ ap (λ b. cond b 1 0 + times xs n) (ne_eqb y n ne) ∙ omega arith

times_push : (xs : List ℕ) (y n : ℕ) → times (xs ++ y ∷ []) n ≡ times xs n + cond (eqb y n) 1 0
times_push xs y n = sum_by_push (λ x. cond (eqb x n) 1 0) xs y

times_push_same : (xs : List ℕ) (y n : ℕ) → y ≡ n → times (xs ++ y ∷ []) n ≡ times xs n + 1
times_push_same xs y n is = times_push xs y n ∙ ap (λ b. times xs n + cond b 1 0) (eq-eqb y n is)

times_push_other : (xs : List ℕ) (y n : ℕ) → y ≢ n → times (xs ++ y ∷ []) n ≡ times xs n
times_push_other xs y n ne = times_push xs y n ∙ ap (λ b. times xs n + cond b 1 0) (ne_eqb y n ne) ∙ omega arith

-- one more name, counted
gains_times : (old now : Dependencies) (names : List ℕ) (u task v : ℕ) → u < length now → AddsDependent old now names task → times (after (gains now u task) v) task ≡ times (after old v) task + times (names ++ u ∷ []) v
gains_times old now names u task v lt a = elim (cases_eq v u) [
  | inl same ↦ rw (same, gains_here now u task lt) (let p = a.gained u in omega (arith, times_front_same task task (after now u) refl, times_push_same names u u refl, p))
  | inr other ↦ rw (gains_other now u task v other) (let p = a.gained v in omega (arith, times_push_other names u v (λ e. other (sym e)), p))
]

gains_others : (old now : Dependencies) (names : List ℕ) (u task v x : ℕ) → u < length now → x ≢ task → AddsDependent old now names task → times (after (gains now u task) v) x ≡ times (after old v) x
gains_others old now names u task v x lt ne a = elim (cases_eq v u) [
  | inl same ↦ rw (same, gains_here now u task lt) (times_front_other task x (after now u) (λ e. ne (sym e)) ∙ a.others u x ne)
  | inr other ↦ rw (gains_other now u task v other) (a.others v x ne)
]

-- one more name
pub adds_at_front : (old now : Dependencies) (names : List ℕ) (u task : ℕ) → u < length now → AddsDependent old now names task → AddsDependent old (gains now u task) (names ++ u ∷ []) task
adds_at_front old now names u task lt a = record {
  size = length-set now u (task ∷ after now u) ∙ a.size;
  keeps = λ v x found. gains_keeps now u task v x lt (a.keeps v x found);
  adds = λ v named. elim (Contains-push_cases names u v named) [
    | inl before ↦ gains_keeps now u task v task lt (a.adds v before)
    | inr is ↦ subst (λ w. Contains (after (gains now u task) w) task) is (gains_has now u task lt)
  ];
  only = λ v x found. elim (gains_only now u task v x lt found) [
    | inl before ↦ elim (a.only v x before) [
      | inl old_one ↦ inl old_one
      | inr new_one ↦ inr (new_one.0, Contains-append_left names (u ∷ []) v new_one.1)
    ]
    | inr new_one ↦ inr (new_one.0, subst (λ w. Contains (names ++ u ∷ []) w) new_one.1 (Contains-push names u))
  ];
  gained = λ v. gains_times old now names u task v lt a;
  others = λ v x ne. gains_others old now names u task v x lt ne a;
}
