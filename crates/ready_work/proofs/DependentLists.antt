-- Lists of dependents, as graphs.
use Rattle.std.proofs.Common.{◌≡◌, ◌≢◌, ◌⊎◌, ◌<◌, ◌≤◌, ◌+◌, ℕ, zero, suc, List, [], ◌∷◌, ◌++◌, cond, length, get_or, set, take, eqb, refl, ap, sym, ◌∙◌, arith, inl, inr, Contains, subst, Vec, Global, get_or-set_same, get_or-set_other, length-set}
use Rattle.std.proofs.lemmas.Bool.{cases_eq, cases_lt, eq-eqb, ne_eqb}
use Rattle.std.proofs.lemmas.List.{get_or-map, get_or-take, map-set}
use Rattle.std.proofs.lemmas.List.Sums.{sum_by_push}
use Rattle.std.proofs.lemmas.List.Elements.{Contains-append_left, Contains-push, Contains-push_cases}
use Rattle.ready_work.specs.Rank.{Dependencies, after, lists_of}
use Rattle.ready_work.specs.DependentLists.{AddsDependent, ListsDependents, times}

pub pushed_at : (rows : List (Vec ℕ Global)) (at task : ℕ) (old new : Vec ℕ Global) → at < length rows → old ≡ get_or rows at old → new.items ≡ old.items ++ task ∷ []
    → lists_of (set rows at new) ≡ set (lists_of rows) at (after (lists_of rows) at ++ task ∷ [])
pushed_at rows at task old new lt read made =
    let here : after (lists_of rows) at ≡ (get_or rows at old).items = get_or-map (λ row. row.items) rows at old [] lt in
    let same : (get_or rows at old).items ≡ old.items = ap (λ (v : Vec ℕ Global). v.items) (sym read) in
    map-set (λ row. row.items) rows at new ∙ rw (here, same, made) refl

abbrev pub gains : Dependencies → ℕ → ℕ → Dependencies
gains d u t = set d u (after d u ++ t ∷ [])

gains_here : (d : Dependencies) (u t : ℕ) → u < length d → after (gains d u t) u ≡ after d u ++ t ∷ []
gains_here d u t lt = get_or-set_same d u (after d u ++ t ∷ []) [] lt

gains_other : (d : Dependencies) (u t v : ℕ) → v ≢ u → after (gains d u t) v ≡ after d v
gains_other d u t v ne = get_or-set_other d u v (after d u ++ t ∷ []) [] ne

gains_keeps : (d : Dependencies) (u t v x : ℕ) → u < length d → Contains (after d v) x → Contains (after (gains d u t) v) x
gains_keeps d u t v x lt found = elim (cases_eq v u) [
  | inl same ↦ rw (same, gains_here d u t lt) (Contains-append_left (after d u) (t ∷ []) x (rw same at found))
  | inr other ↦ rw (gains_other d u t v other) found
]

gains_has : (d : Dependencies) (u t : ℕ) → u < length d → Contains (after (gains d u t) u) t
gains_has d u t lt = rw (gains_here d u t lt) (Contains-push (after d u) t)

gains_only : (d : Dependencies) (u t v x : ℕ) → u < length d → Contains (after (gains d u t) v) x → Contains (after d v) x ⊎ ((x ≡ t) × (u ≡ v))
gains_only d u t v x lt found = elim (cases_eq v u) [
  | inl same ↦
      elim (Contains-push_cases (after d u) t x (rw (gains_here d u t lt) at (rw same at found))) [
        | inl before ↦ inl (rw same before)
        | inr now ↦ inr (sym now, sym same)
      ]
  | inr other ↦ inl (rw (gains_other d u t v other) at found)
]

-- ---- how often a task stands among the dependents

times_push : (xs : List ℕ) (y n : ℕ) → times (xs ++ y ∷ []) n ≡ times xs n + cond (eqb y n) 1 0
times_push xs y n = sum_by_push (λ x. cond (eqb x n) 1 0) xs y

times_push_same : (xs : List ℕ) (y n : ℕ) → y ≡ n → times (xs ++ y ∷ []) n ≡ times xs n + 1
times_push_same xs y n is = times_push xs y n ∙ ap (λ b. times xs n + cond b 1 0) (eq-eqb y n is)

times_push_other : (xs : List ℕ) (y n : ℕ) → y ≢ n → times (xs ++ y ∷ []) n ≡ times xs n
times_push_other xs y n ne = times_push xs y n ∙ ap (λ b. times xs n + cond b 1 0) (ne_eqb y n ne) ∙ omega arith

-- one more name, counted
gains_times : (old now : Dependencies) (names : List ℕ) (u task v : ℕ) → u < length now → AddsDependent old now names task → times (after (gains now u task) v) task ≡ times (after old v) task + times (names ++ u ∷ []) v
gains_times old now names u task v lt a = elim (cases_eq v u) [
  | inl same ↦ rw (same, gains_here now u task lt) (let p = a.gained u in omega (arith, times_push_same (after now u) task task refl, times_push_same names u u refl, p))
  | inr other ↦ rw (gains_other now u task v other) (let p = a.gained v in omega (arith, times_push_other names u v (λ e. other (sym e)), p))
]

gains_others : (old now : Dependencies) (names : List ℕ) (u task v x : ℕ) → u < length now → x ≢ task → AddsDependent old now names task → times (after (gains now u task) v) x ≡ times (after old v) x
gains_others old now names u task v x lt ne a = elim (cases_eq v u) [
  | inl same ↦ rw (same, gains_here now u task lt) (times_push_other (after now u) task x (λ e. ne (sym e)) ∙ a.others u x ne)
  | inr other ↦ rw (gains_other now u task v other) (a.others v x ne)
]

-- one more name
pub adds_next : (old now : Dependencies) (names : List ℕ) (u task : ℕ) → u < length now → AddsDependent old now names task → AddsDependent old (gains now u task) (names ++ u ∷ []) task
adds_next old now names u task lt a = record {
  size = length-set now u (after now u ++ task ∷ []) ∙ a.size;
  keeps = λ v x found. gains_keeps now u task v x lt (a.keeps v x found);
  adds = λ v named. elim (Contains-push_cases names u v named) [
    | inl before ↦ gains_keeps now u task v task lt (a.adds v before)
    | inr is ↦ subst (λ w. Contains (after (gains now u task) w) task) is (gains_has now u task lt)
  ];
  only = λ v x found. elim (gains_only now u task v x lt found) [
    | inl before ↦ elim (a.only v x before) [
      | inl old_one ↦ inl old_one
      | inr new_one ↦ inr (new_one.0, Contains-append_left names (u ∷ []) v new_one.1)
    ]
    | inr new_one ↦ inr (new_one.0, subst (λ w. Contains (names ++ u ∷ []) w) new_one.1 (Contains-push names u))
  ];
  gained = λ v. gains_times old now names u task v lt a;
  others = λ v x ne. gains_others old now names u task v x lt ne a;
}

-- ---- the first tasks

taken_same : (d : Dependencies) (n x : ℕ) → x < n → after (take n d) x ≡ after d x
taken_same d n x lt = get_or-take n d x [] lt

taken_past : (d : Dependencies) (n x : ℕ) → n ≤ x → after (take n d) x ≡ []
taken_past [] zero x past = refl
taken_past [] (suc n) x past = refl
taken_past (row ∷ d) zero x past = refl
taken_past (row ∷ d) (suc n) zero past = absurd (omega (arith, past))
taken_past (row ∷ d) (suc n) (suc x) past = taken_past d n x (omega (arith, past))

none_plus : (n u : ℕ) → times [] u + n ≡ n
none_plus n u = omega arith

next_as_often : (d dependents new : Dependencies) (i u x : ℕ) → ListsDependents d i dependents → AddsDependent dependents new (after d i) i → (x ≡ i) ⊎ (x ≡ i → ⊥) → (x < i) ⊎ (i ≤ x) → times (after new u) x ≡ times (after (take (i + 1) d) x) u
next_as_often d dependents new i u x l a (inl same) _ = rw same (a.gained u ∙ ap (λ n. n + times (after d i) u) (l.as_often u i ∙ ap (λ xs. times xs u) (taken_past d i i (omega arith))) ∙ none_plus (times (after d i) u) u ∙ ap (λ xs. times xs u) (sym (taken_same d (i + 1) i (omega arith))))
next_as_often d dependents new i u x l a (inr other) (inl lt) = a.others u x other ∙ l.as_often u x ∙ ap (λ xs. times xs u) (taken_same d i x lt ∙ sym (taken_same d (i + 1) x (omega (arith, lt))))
next_as_often d dependents new i u x l a (inr other) (inr past) = a.others u x other ∙ l.as_often u x ∙ ap (λ xs. times xs u) (taken_past d i x past ∙ sym (taken_past d (i + 1) x (omega (arith, past, other))))

-- one more task
pub lists_next : (d dependents new : Dependencies) (i : ℕ) → ListsDependents d i dependents → AddsDependent dependents new (after d i) i → ListsDependents d (i + 1) new
lists_next d dependents new i l a = record {
  size = a.size ∙ l.size;
  sound = λ u x found. elim (a.only u x found) [
    | inl before ↦ (omega (arith, (l.sound u x before).0), (l.sound u x before).1)
    | inr now ↦ (omega (arith, now.0), rw (now.0) (now.1))
  ];
  complete = λ u x low named. elim (cases_eq x i) [
    | inl same ↦ rw same (a.adds u (rw same at named))
    | inr other ↦ a.keeps u x (l.complete u x (omega (arith, low, other)) named)
  ];
  as_often = λ u x. next_as_often d dependents new i u x l a (cases_eq x i) (cases_lt x i);
}

-- at the last task
pub lists_all : (d dependents : Dependencies) (i n : ℕ) → i ≤ n → n ≤ i → ListsDependents d i dependents → ListsDependents d n dependents
lists_all d dependents i n low high l =
    let same : i ≡ n = omega (arith, low, high) in
    subst (λ (k : ℕ). ListsDependents d k dependents) same l
