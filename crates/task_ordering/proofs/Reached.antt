-- The tasks to run are reached, each with what it needs.
use Rattle.std.proofs.Common.{◌≡◌, ◌≢◌, ◌⊎◌, ◌<◌, ◌+◌, ◌-◌, take, ℕ, Bool, true, false, not, cond, List, [], ◌∷◌, ◌++◌, length, get_or, set, sym, ap, ◌∙◌, arith, inl, inr, Contains, subst, length-append, length-set, get_or-set_same, get_or-set_other}
use Rattle.std.specs.Prelude.{count_by}
use Rattle.std.specs.List.{All}
use Rattle.std.proofs.lemmas.Bool.{cases_eq, cases_lt, both_ways}
use Rattle.std.proofs.lemmas.List.{get_or_past}
use Rattle.std.proofs.lemmas.List.Elements.{Contains-append_left, Contains-append_right, Contains-push, Contains-push_cases}
use Rattle.std.proofs.lemmas.List.Sums.{sum_by-set}
use Rattle.task_ordering.specs.Marks.{IsMarked, MarksExactly}
use Rattle.task_ordering.specs.Tasks.{after, finalized_by, Needs, IsToRun, is_asked, is_needed}
use Rattle.task_ordering.specs.Reach.{Reaches, IsSoundReach}
use Rattle.task_ordering.specs.declared.tasks.OrderTask.{OrderTask}
use Rattle.task_ordering.specs.declared.reaching.Reach.{Reach}

pub marked_below : (marks : List Bool) (t : ℕ) → IsMarked marks t → t < length marks
marked_below marks t m = elim (cases_lt t (length marks)) [
  | inl low ↦ low
  | inr past ↦ absurd (both_ways (get_or marks t false) (get_or_past marks t false past) m)
]

-- one open place fewer
pub fewer_open : (xs : List Bool) (i : ℕ) → i < length xs → get_or xs i false ≡ false → count_by not (set xs i true) + 1 ≡ count_by not xs
fewer_open xs i lt h =
    let f : Bool → ℕ = λ b. cond (not b) 1 0 in
    let e = sum_by-set f xs i true false lt in
    omega (arith, rw h at e)

pub only_one : (t u : ℕ) → Contains (t ∷ []) u → t ≡ u
only_one t u c = elim (Contains-push_cases [] t u c) [ inl none ↦ absurd (omega (arith, none.1)) | inr is ↦ is ]

pub in_one : (t : ℕ) → Contains (t ∷ []) t
in_one t = Contains-push [] t

pub nothing_in : (xs : List ℕ) (t : ℕ) → xs ≡ [] → Contains xs t → ⊥
nothing_in xs t empty c = let none : Contains [] t = subst (λ (ys : List ℕ). Contains ys t) empty c in omega (arith, none.1)

module _ (old new : Reach) (t : ℕ) (lt : t < length old.marks.items) (open_before : get_or old.marks.items t false ≡ false) (marked : new.marks.items ≡ set old.marks.items t true) (pushed : new.stack.items ≡ old.stack.items ++ t ∷ []) where
  here : IsMarked new.marks.items t
  here = ap (λ (xs : List Bool). get_or xs t false) marked ∙ get_or-set_same old.marks.items t true false lt

  other : (u : ℕ) → u ≢ t → get_or new.marks.items u false ≡ get_or old.marks.items u false
  other u ne = ap (λ (xs : List Bool). get_or xs u false) marked ∙ get_or-set_other old.marks.items t u true false ne

  on_stack : Contains new.stack.items t
  on_stack = subst (λ (xs : List ℕ). Contains xs t) (sym pushed) (Contains-push old.stack.items t)

  pub reaches_open : Reaches old new (t ∷ [])
  reaches_open = record {
    size = ap length marked ∙ length-set old.marks.items t true;
    keeps = λ u h. elim (cases_eq u t) [ inl same ↦ subst (λ (v : ℕ). IsMarked new.marks.items v) (sym same) here | inr ne ↦ other u ne ∙ h ];
    marks = λ u c. subst (λ (v : ℕ). IsMarked new.marks.items v) (only_one t u c) here;
    only = λ u h. elim (cases_eq u t) [
      | inl same ↦ inr (subst (λ (v : ℕ). Contains (t ∷ []) v) (sym same) (in_one t), subst (λ (v : ℕ). Contains new.stack.items v) (sym same) on_stack)
      | inr ne ↦ inl (sym (other u ne) ∙ h)
    ];
    stack = λ u c. subst (λ (xs : List ℕ). Contains xs u) (sym pushed) (Contains-append_left old.stack.items (t ∷ []) u c);
    stacked = λ u c. elim (Contains-push_cases old.stack.items t u (subst (λ (xs : List ℕ). Contains xs u) pushed c)) [
      | inl before ↦ inl before
      | inr is ↦ inr (subst (λ (v : ℕ). IsMarked new.marks.items v) is here)
    ];
    work =
        let counted : count_by not new.marks.items + 1 ≡ count_by not old.marks.items = rw marked (fewer_open old.marks.items t lt open_before) in
        let long : length new.stack.items ≡ length old.stack.items + 1 = rw pushed (length-append old.stack.items (t ∷ [])) in
        omega (arith, counted, long);
  }

-- one more task
pub reaches_more : (a b c : Reach) (xs : List ℕ) (t : ℕ) → Reaches a b xs → Reaches b c (t ∷ []) → Reaches a c (xs ++ t ∷ [])
reaches_more a b c xs t p q = record {
  size = q.size ∙ p.size;
  keeps = λ u h. q.keeps u (p.keeps u h);
  marks = λ u found. elim (Contains-push_cases xs t u found) [
    | inl before ↦ q.keeps u (p.marks u before)
    | inr is ↦ subst (λ (v : ℕ). IsMarked c.marks.items v) is (q.marks t (in_one t))
  ];
  only = λ u h. elim (q.only u h) [
    | inl before ↦ elim (p.only u before) [
      | inl first ↦ inl first
      | inr now ↦ inr (Contains-append_left xs (t ∷ []) u now.0, q.stack u now.1)
    ]
    | inr now ↦ inr (Contains-append_right xs (t ∷ []) u now.0, now.1)
  ];
  stack = λ u found. q.stack u (p.stack u found);
  stacked = λ u found. elim (q.stacked u found) [
    | inl before ↦ elim (p.stacked u before) [ inl first ↦ inl first | inr marked ↦ inr (q.keeps u marked) ]
    | inr marked ↦ inr marked
  ];
  work = q.work ∙ p.work;
}

-- those asked for are reached first
pub sound_begun : (tasks : List OrderTask) (asked : List ℕ) (s0 s1 : Reach) → length s0.marks.items ≡ length tasks → ((t : ℕ) → get_or s0.marks.items t false ≡ false) → s0.stack.items ≡ []
    → Reaches s0 s1 asked → IsSoundReach tasks asked s1
sound_begun tasks asked s0 s1 size none empty r = record {
  size = r.size ∙ size;
  sound = λ t m. elim (r.only t m) [ inl before ↦ absurd (both_ways (get_or s0.marks.items t false) (none t) before) | inr now ↦ is_asked t now.0 ];
  begun = r.marks;
  stacked = λ t c. elim (r.stacked t c) [ inl before ↦ absurd (nothing_in s0.stack.items t empty before) | inr marked ↦ marked ];
  needed = λ t m. elim (r.only t m) [ inl before ↦ absurd (both_ways (get_or s0.marks.items t false) (none t) before) | inr now ↦ inl now.1 ];
}

-- u is taken off the stack, and what it needs is reached
module _ (tasks : List OrderTask) (asked : List ℕ) (s s0 s1 s2 : Reach) (u : ℕ) (sound : IsSoundReach tasks asked s) (same : s0.marks.items ≡ s.marks.items) (was : s.stack.items ≡ s0.stack.items ++ u ∷ []) where
  pub popped_marked : IsMarked s.marks.items u
  popped_marked = sound.stacked u (subst (λ (xs : List ℕ). Contains xs u) (sym was) (Contains-push s0.stack.items u))

  pub popped_below : u < length tasks
  popped_below = omega (arith, marked_below s.marks.items u popped_marked, sound.size)

  u_runs : IsToRun tasks asked u
  u_runs = sound.sound u popped_marked

  module _ (r1 : Reaches s0 s1 (after tasks u)) (r2 : Reaches s1 s2 (finalized_by tasks u)) where
    kept : (t : ℕ) → IsMarked s.marks.items t → IsMarked s2.marks.items t
    kept t m = r2.keeps t (r1.keeps t (subst (λ (xs : List Bool). IsMarked xs t) (sym same) m))

    before : (t : ℕ) → IsMarked s0.marks.items t → IsMarked s.marks.items t
    before t m = subst (λ (xs : List Bool). IsMarked xs t) same m

    u_needs : (v : ℕ) → Needs tasks u v → IsMarked s2.marks.items v
    u_needs v (inl comes) = r2.keeps v (r1.marks v comes)
    u_needs v (inr finalizes) = r2.marks v finalizes

    needed_before : (t : ℕ) → Contains s.stack.items t ⊎ ((v : ℕ) → Needs tasks t v → IsMarked s.marks.items v) → Contains s2.stack.items t ⊎ ((v : ℕ) → Needs tasks t v → IsMarked s2.marks.items v)
    needed_before t (inl on) = elim (Contains-push_cases s0.stack.items u t (subst (λ (xs : List ℕ). Contains xs t) was on)) [
      | inl still ↦ inl (r2.stack t (r1.stack t still))
      | inr is ↦ inr (λ v needs. u_needs v (subst (λ (w : ℕ). Needs tasks w v) (sym is) needs))
    ]
    needed_before t (inr done) = inr (λ v needs. kept v (done v needs))

    pub sound_step : IsSoundReach tasks asked s2
    sound_step = record {
      size = r2.size ∙ r1.size ∙ ap length same ∙ sound.size;
      sound = λ t m. elim (r2.only t m) [
        | inl m1 ↦ elim (r1.only t m1) [ inl m0 ↦ sound.sound t (before t m0) | inr now ↦ is_needed u t u_runs (inl now.0) ]
        | inr now ↦ is_needed u t u_runs (inr now.0)
      ];
      begun = λ t c. kept t (sound.begun t c);
      stacked = λ t c. elim (r2.stacked t c) [
        | inl c1 ↦ elim (r1.stacked t c1) [
          | inl c0 ↦ kept t (sound.stacked t (subst (λ (xs : List ℕ). Contains xs t) (sym was) (Contains-append_left s0.stack.items (u ∷ []) t c0)))
          | inr m ↦ r2.keeps t m
        ]
        | inr m ↦ m
      ];
      needed = λ t m. elim (r2.only t m) [
        | inl m1 ↦ elim (r1.only t m1) [ inl m0 ↦ needed_before t (sound.needed t (before t m0)) | inr now ↦ inl (r2.stack t now.1) ]
        | inr now ↦ inl now.1
      ];
    }

-- where the stack is empty, each task to run has its mark
reached : (tasks : List OrderTask) (asked : List ℕ) (s : Reach) → IsSoundReach tasks asked s → s.stack.items ≡ [] → (t : ℕ) → IsToRun tasks asked t → IsMarked s.marks.items t
reached tasks asked s sound empty t (is_asked _ c) = sound.begun t c
reached tasks asked s sound empty t (is_needed u _ runs needs) = elim (sound.needed u (reached tasks asked s sound empty u runs)) [
  | inl on ↦ absurd (nothing_in s.stack.items u empty on)
  | inr all ↦ all t needs
]

pub marks_reached : (tasks : List OrderTask) (asked : List ℕ) (s : Reach) → IsSoundReach tasks asked s → s.stack.items ≡ [] → MarksExactly (length tasks) (IsToRun tasks asked) s.marks.items
marks_reached tasks asked s sound empty = record { size = sound.size; sound = sound.sound; complete = reached tasks asked s sound empty }

pub nothing_left : (old new : List ℕ) → old ≡ new ++ [] → new ≡ take (0 - 1) old → old ≡ []
nothing_left old new a b = a ∙ ap (λ xs. xs ++ []) b

-- numbers of tasks are in range of the marks
pub names_below : (tasks count : ℕ) (names all : List ℕ) → count ≡ tasks → names ≡ all → All (λ u. u < tasks) all → All (λ u. u < count) names
names_below tasks count names all size is below = rw (size, is) below
