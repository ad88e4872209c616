-- What stands before what, pair by pair.
use Rattle.std.proofs.Common.{◌≡◌, ◌≢◌, ◌⊎◌, ◌<◌, ◌≤◌, ◌+◌, ℕ, Bool, List, [], ◌∷◌, ◌++◌, length, get_or, set, take, refl, sym, ap, ◌∙◌, arith, inl, inr, Contains, subst, Vec, Global, get_or-set_same, get_or-set_other, length-set}
use Rattle.std.proofs.lemmas.Bool.{cases_eq, cases_lt}
use Rattle.std.proofs.lemmas.List.{get_or-map, length-map, map-set, take_more}
use Rattle.std.proofs.lemmas.List.Elements.{Contains-append_left, Contains-push, Contains-push_cases}
use Rattle.ready_work.specs.Rank.{Dependencies, lists_of, after as listed}
use Rattle.task_ordering.specs.Marks.{IsMarked}
use Rattle.task_ordering.specs.Tasks.{after, must_after, finalized_by}
use Rattle.task_ordering.specs.Befores.{IsListedBefore, AddsPairs, HasBoth, TellsBefore}
use Rattle.task_ordering.specs.declared.tasks.OrderTask.{OrderTask}
use Rattle.task_ordering.proofs.Reached.{marked_below}

pub pairs_same : (old new : Dependencies) (P Q : ℕ → ℕ → Type 0) → ((a b : ℕ) → P a b → Q a b) → ((a b : ℕ) → Q a b → P a b) → AddsPairs old new P → AddsPairs old new Q
pairs_same old new P Q to from p = record {
  size = p.size;
  keeps = p.keeps;
  adds = λ a b q. p.adds a b (from a b q);
  only = λ a b h. elim (p.only a b h) [ inl before ↦ inl before | inr now ↦ inr (to a b now) ];
}

pub pairs_more : (d0 d1 d2 : Dependencies) (P Q : ℕ → ℕ → Type 0) → AddsPairs d0 d1 P → AddsPairs d1 d2 Q → AddsPairs d0 d2 (λ a b. P a b ⊎ Q a b)
pairs_more d0 d1 d2 P Q p q = record {
  size = q.size ∙ p.size;
  keeps = λ a b h. q.keeps a b (p.keeps a b h);
  adds = λ a b h. elim h [ inl first ↦ q.keeps a b (p.adds a b first) | inr second ↦ q.adds a b second ];
  only = λ a b h. elim (q.only a b h) [
    | inl before ↦ elim (p.only a b before) [ inl old ↦ inl old | inr first ↦ inr (inl first) ]
    | inr second ↦ inr (inr second)
  ];
}

-- the list of b gains a number
module _ (d : Dependencies) (b a : ℕ) (low : b < length d) where
  abbrev gains : Dependencies
  gains = set d b (listed d b ++ a ∷ [])

  gains_here : listed gains b ≡ listed d b ++ a ∷ []
  gains_here = get_or-set_same d b (listed d b ++ a ∷ []) [] low

  gains_other : (y : ℕ) → y ≢ b → listed gains y ≡ listed d y
  gains_other y ne = get_or-set_other d b y (listed d b ++ a ∷ []) [] ne

  one_pair : AddsPairs d gains (λ x y. (x ≡ a) × (y ≡ b))
  one_pair = record {
    size = length-set d b (listed d b ++ a ∷ []);
    keeps = λ x y h. elim (cases_eq y b) [
      | inl same ↦
          let at_b : Contains (listed d b) x = subst (λ (v : ℕ). Contains (listed d v) x) same h in
          subst (λ (v : ℕ). Contains (listed gains v) x) (sym same) (subst (λ (xs : List ℕ). Contains xs x) (sym gains_here) (Contains-append_left (listed d b) (a ∷ []) x at_b))
      | inr ne ↦ subst (λ (xs : List ℕ). Contains xs x) (sym (gains_other y ne)) h
    ];
    adds = λ x y is.
        let here : Contains (listed gains b) a = subst (λ (xs : List ℕ). Contains xs a) (sym gains_here) (Contains-push (listed d b) a) in
        subst (λ (v : ℕ). Contains (listed gains y) v) (sym is.0) (subst (λ (w : ℕ). Contains (listed gains w) a) (sym is.1) here);
    only = λ x y h. elim (cases_eq y b) [
      | inl same ↦
          let at_b : Contains (listed d b ++ a ∷ []) x = subst (λ (xs : List ℕ). Contains xs x) gains_here (subst (λ (v : ℕ). Contains (listed gains v) x) same h) in
          elim (Contains-push_cases (listed d b) a x at_b) [
            | inl before ↦ inl (subst (λ (v : ℕ). Contains (listed d v) x) (sym same) before)
            | inr is ↦ inr (sym is, same)
          ]
      | inr ne ↦ inl (subst (λ (xs : List ℕ). Contains xs x) (gains_other y ne) h)
    ];
  }

pub pushed_pair : (rows : List (Vec ℕ Global)) (b a : ℕ) (old new : Vec ℕ Global) → b < length rows → old ≡ get_or rows b old → new.items ≡ old.items ++ a ∷ []
    → AddsPairs (lists_of rows) (lists_of (set rows b new)) (λ x y. (x ≡ a) × (y ≡ b))
pushed_pair rows b a old new lt read made =
    let d = lists_of rows in
    let low : b < length d = omega (arith, lt, length-map rows (λ row. row.items)) in
    let here : listed d b ≡ (get_or rows b old).items = get_or-map (λ row. row.items) rows b old [] lt in
    let same : (get_or rows b old).items ≡ old.items = ap (λ (v : Vec ℕ Global). v.items) (sym read) in
    let written : lists_of (set rows b new) ≡ set d b (listed d b ++ a ∷ []) = map-set (λ row. row.items) rows b new ∙ rw (here, same, made) refl in
    subst (λ (e : Dependencies). AddsPairs d e (λ x y. (x ≡ a) × (y ≡ b))) (sym written) (one_pair d b a low)

-- only pairs of tasks that run are wanted
pub both_run : (marks : List Bool) (d new : Dependencies) (a b : ℕ) → IsMarked marks a → IsMarked marks b → AddsPairs d new (λ x y. (x ≡ a) × (y ≡ b)) → AddsPairs d new (λ x y. HasBoth marks x y × (x ≡ a) × (y ≡ b))
both_run marks d new a b ma mb p =
    pairs_same d new _ _ (λ x y is. (record { first = subst (λ (v : ℕ). IsMarked marks v) (sym is.0) ma; second = subst (λ (v : ℕ). IsMarked marks v) (sym is.1) mb }, is.0, is.1)) (λ x y h. (h.1, h.2)) p

-- one more of a list
taken_cases : (xs : List ℕ) (i x : ℕ) → i < length xs → Contains (take (i + 1) xs) x → Contains (take i xs) x ⊎ (x ≡ get_or xs i 0)
taken_cases xs i x lt c = elim (Contains-push_cases (take i xs) (get_or xs i 0) x (subst (λ (ys : List ℕ). Contains ys x) (take_more xs i 0 lt) c)) [ inl before ↦ inl before | inr is ↦ inr (sym is) ]

taken_before : (xs : List ℕ) (i x : ℕ) → i < length xs → Contains (take i xs) x → Contains (take (i + 1) xs) x
taken_before xs i x lt c = subst (λ (ys : List ℕ). Contains ys x) (sym (take_more xs i 0 lt)) (Contains-append_left (take i xs) (get_or xs i 0 ∷ []) x c)

taken_here : (xs : List ℕ) (i x : ℕ) → i < length xs → x ≡ get_or xs i 0 → Contains (take (i + 1) xs) x
taken_here xs i x lt is = subst (λ (v : ℕ). Contains (take (i + 1) xs) v) (sym is) (subst (λ (ys : List ℕ). Contains ys (get_or xs i 0)) (sym (take_more xs i 0 lt)) (Contains-push (take i xs) (get_or xs i 0)))

pub firsts_more : (marks : List Bool) (d0 d1 d2 : Dependencies) (xs : List ℕ) (i b : ℕ) → i < length xs → AddsPairs d0 d1 (λ x y. HasBoth marks x y × Contains (take i xs) x × (y ≡ b))
    → AddsPairs d1 d2 (λ x y. HasBoth marks x y × (x ≡ get_or xs i 0) × (y ≡ b)) → AddsPairs d0 d2 (λ x y. HasBoth marks x y × Contains (take (i + 1) xs) x × (y ≡ b))
firsts_more marks d0 d1 d2 xs i b lt p q =
    pairs_same d0 d2 _ _
    (λ x y h. elim h [ inl first ↦ (first.0, taken_before xs i x lt first.1, first.2) | inr now ↦ (now.0, taken_here xs i x lt now.1, now.2) ])
    (λ x y h. elim (taken_cases xs i x lt h.1) [ inl before ↦ inl (h.0, before, h.2) | inr now ↦ inr (h.0, now, h.2) ])
    (pairs_more d0 d1 d2 _ _ p q)

pub seconds_more : (marks : List Bool) (d0 d1 d2 : Dependencies) (xs : List ℕ) (i a : ℕ) → i < length xs → AddsPairs d0 d1 (λ x y. HasBoth marks x y × (x ≡ a) × Contains (take i xs) y)
    → AddsPairs d1 d2 (λ x y. HasBoth marks x y × (x ≡ a) × (y ≡ get_or xs i 0)) → AddsPairs d0 d2 (λ x y. HasBoth marks x y × (x ≡ a) × Contains (take (i + 1) xs) y)
seconds_more marks d0 d1 d2 xs i a lt p q =
    pairs_same d0 d2 _ _
    (λ x y h. elim h [ inl first ↦ (first.0, first.1, taken_before xs i y lt first.2) | inr now ↦ (now.0, now.1, taken_here xs i y lt now.2) ])
    (λ x y h. elim (taken_cases xs i y lt h.2) [ inl before ↦ inl (h.0, h.1, before) | inr now ↦ inr (h.0, h.1, now) ])
    (pairs_more d0 d1 d2 _ _ p q)

-- a list of one of the first k tasks says so
abbrev pub SaysBelow : List OrderTask → ℕ → ℕ → ℕ → Type 0
SaysBelow tasks k a b = ((b < k) × Contains (after tasks b) a) ⊎ (((b < k) × Contains (must_after tasks b) a) ⊎ ((a < k) × Contains (finalized_by tasks a) b))

pub record TellsBelow (tasks : List OrderTask) (to_run : List Bool) (k : ℕ) (d : Dependencies) : Type 0 where
  pub size : length d ≡ length tasks
  pub marked : (a b : ℕ) → IsListedBefore d a b → HasBoth to_run a b
  pub sound : (a b : ℕ) → IsListedBefore d a b → SaysBelow tasks k a b
  pub complete : (a b : ℕ) → HasBoth to_run a b → SaysBelow tasks k a b → IsListedBefore d a b

module _ (tasks : List OrderTask) (to_run : List Bool) (k : ℕ) (d d1 d2 d3 : Dependencies) (told : TellsBelow tasks to_run k d)
    (p1 : AddsPairs d d1 (λ x y. HasBoth to_run x y × Contains (after tasks k) x × (y ≡ k))) (p2 : AddsPairs d1 d2 (λ x y. HasBoth to_run x y × Contains (must_after tasks k) x × (y ≡ k)))
    (p3 : AddsPairs d2 d3 (λ x y. HasBoth to_run x y × (x ≡ k) × Contains (finalized_by tasks k) y)) where
  kept : (a b : ℕ) → IsListedBefore d a b → IsListedBefore d3 a b
  kept a b h = p3.keeps a b (p2.keeps a b (p1.keeps a b h))

  wider : (a b : ℕ) → SaysBelow tasks k a b → SaysBelow tasks (k + 1) a b
  wider a b (inl comes) = inl (omega (arith, comes.0), comes.1)
  wider a b (inr (inl must)) = inr (inl (omega (arith, must.0), must.1))
  wider a b (inr (inr finalizes)) = inr (inr (omega (arith, finalizes.0), finalizes.1))

  told_now : (a b : ℕ) → HasBoth to_run a b → SaysBelow tasks (k + 1) a b → IsListedBefore d3 a b
  told_now a b both (inl comes) = elim (cases_lt b k) [
    | inl low ↦ kept a b (told.complete a b both (inl (low, comes.1)))
    | inr high ↦
        let same : b ≡ k = omega (arith, high, comes.0) in
        p3.keeps a b (p2.keeps a b (p1.adds a b (both, subst (λ (t : ℕ). Contains (after tasks t) a) same comes.1, same)))
  ]
  told_now a b both (inr (inl must)) = elim (cases_lt b k) [
    | inl low ↦ kept a b (told.complete a b both (inr (inl (low, must.1))))
    | inr high ↦
        let same : b ≡ k = omega (arith, high, must.0) in
        p3.keeps a b (p2.adds a b (both, subst (λ (t : ℕ). Contains (must_after tasks t) a) same must.1, same))
  ]
  told_now a b both (inr (inr finalizes)) = elim (cases_lt a k) [
    | inl low ↦ kept a b (told.complete a b both (inr (inr (low, finalizes.1))))
    | inr high ↦
        let same : a ≡ k = omega (arith, high, finalizes.0) in
        p3.adds a b (both, same, subst (λ (t : ℕ). Contains (finalized_by tasks t) b) same finalizes.1)
  ]

  pub tells_next : TellsBelow tasks to_run (k + 1) d3
  tells_next = record {
    size = p3.size ∙ p2.size ∙ p1.size ∙ told.size;
    marked = λ a b h. elim (p3.only a b h) [
      | inl h2 ↦ elim (p2.only a b h2) [ inl h1 ↦ elim (p1.only a b h1) [ inl h0 ↦ told.marked a b h0 | inr now ↦ now.0 ] | inr now ↦ now.0 ]
      | inr now ↦ now.0
    ];
    sound = λ a b h. elim (p3.only a b h) [
      | inl h2 ↦ elim (p2.only a b h2) [
        | inl h1 ↦ elim (p1.only a b h1) [
          | inl h0 ↦ wider a b (told.sound a b h0)
          | inr now ↦ inl (omega (arith, now.2), subst (λ (t : ℕ). Contains (after tasks t) a) (sym now.2) now.1)
        ]
        | inr now ↦ inr (inl (omega (arith, now.2), subst (λ (t : ℕ). Contains (must_after tasks t) a) (sym now.2) now.1))
      ]
      | inr now ↦ inr (inr (omega (arith, now.1), subst (λ (t : ℕ). Contains (finalized_by tasks t) b) (sym now.1) now.2))
    ];
    complete = told_now;
  }

-- all tasks have told
pub tells_all : (tasks : List OrderTask) (to_run : List Bool) (k : ℕ) (d : Dependencies) → length to_run ≡ length tasks → length tasks ≤ k → TellsBelow tasks to_run k d → TellsBefore tasks to_run d
tells_all tasks to_run k d size end told = record {
  size = told.size;
  marked = told.marked;
  sound = λ a b h. elim (told.sound a b h) [
    | inl comes ↦ inl comes.1
    | inr rest ↦ elim rest [ inl must ↦ inr (inl must.1) | inr finalizes ↦ inr (inr finalizes.1) ]
  ];
  complete = λ a b both says.
      let low_a : a < k = omega (arith, marked_below to_run a both.first, size, end) in
      let low_b : b < k = omega (arith, marked_below to_run b both.second, size, end) in
      told.complete a b both (elim says [
        | inl comes ↦ inl (low_b, comes)
        | inr rest ↦ elim rest [ inl must ↦ inr (inl (low_b, must)) | inr finalizes ↦ inr (inr (low_a, finalizes)) ]
      ]);
}
