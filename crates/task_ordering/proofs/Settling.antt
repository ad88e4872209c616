-- A task is looked at, and a task is placed, over the state's lists.
use Rattle.std.proofs.Common.{◌≡◌, ◌≢◌, ◌⊎◌, ◌<◌, ◌≤◌, ◌+◌, ℕ, Bool, false, List, [], ◌∷◌, ◌++◌, length, get_or, set, drop, sym, ap, ◌∙◌, arith, inl, inr, Contains, subst, length-set, length-drop, get_or-set_same, get_or-set_other}
use Rattle.std.specs.Prelude.{All}
use Rattle.std.proofs.lemmas.Bool.{cases_eq, cases_lt, both_ways}
use Rattle.std.proofs.lemmas.List.{drop_more, get_or_default}
use Rattle.std.proofs.lemmas.List.Elements.{Contains-get_or, Contains-append_cases}
use Rattle.ready_work.specs.NumberSetView.{has, room_of}
use Rattle.ready_work.specs.Rank.{Dependencies, after, InRange}
use Rattle.task_ordering.specs.Marks.{IsMarked}
use Rattle.task_ordering.specs.Befores.{IsListedBefore}
use Rattle.task_ordering.specs.Placed.{IsFront, MarksPlaced, AreBefores}
use Rattle.task_ordering.specs.Placing.{IsPlaced, next_of, IsInReady, IsSoundPlacing, IsSettled, AreSettled, AreSettledOrListed, LooksAt}
use Rattle.task_ordering.specs.declared.placing.Placing.{Placing}
use Rattle.task_ordering.proofs.Reached.{marked_below, only_one}

-- a task before another is one of the tasks
pub befores_below : (to_run : List Bool) (d : Dependencies) → AreBefores to_run d → (t k : ℕ) → k < length (after d t) → get_or (after d t) k 0 < length d
befores_below to_run d are t k lt = omega (arith, marked_below to_run (get_or (after d t) k 0) (are.marked (get_or (after d t) k 0) t (Contains-get_or (after d t) k 0 lt)).first, are.size)

pub in_range : (to_run : List Bool) (d : Dependencies) → AreBefores to_run d → InRange d
in_range to_run d are t k _ lt = befores_below to_run d are t k lt

-- new is old after the befores of t up to a place were found to be placed
pub record Advances (to_run : List Bool) (d : Dependencies) (old new : Placing) (t place : ℕ) : Type 0 where
  pub here : t < length d
  pub marked : IsMarked to_run t
  pub unplaced : IsPlaced old t → ⊥
  pub placed : new.placed.items ≡ old.placed.items
  pub order : new.order.items ≡ old.order.items
  pub next : new.next.items ≡ set old.next.items t place
  pub low : next_of old t ≤ place
  pub high : place ≤ length (after d t)
  pub between : (k : ℕ) → next_of old t ≤ k → k < place → IsPlaced old (get_or (after d t) k 0)
  pub room : room_of new.ready ≡ room_of old.ready
  pub others : (u : ℕ) → u ≢ t → has new.ready u ≡ has old.ready u
  pub ready : IsInReady new t → place ≡ length (after d t)
  pub settled : IsInReady new t ⊎ ((place < length (after d t)) × (IsPlaced old (get_or (after d t) place 0) → ⊥))

module _ (to_run : List Bool) (d : Dependencies) (old new : Placing) (t place : ℕ) (s : IsSoundPlacing to_run d old) (m : Advances to_run d old new t place) where
  next_here : next_of new t ≡ place
  next_here =
      let lt : t < length old.next.items = omega (arith, m.here, s.places) in
      ap (λ (xs : List ℕ). get_or xs t 0) m.next ∙ get_or-set_same old.next.items t place 0 lt

  next_other : (u : ℕ) → u ≢ t → next_of new u ≡ next_of old u
  next_other u ne = ap (λ (xs : List ℕ). get_or xs u 0) m.next ∙ get_or-set_other old.next.items t u place 0 ne

  now_placed : (u : ℕ) → IsPlaced old u → IsPlaced new u
  now_placed u h = subst (λ (xs : List Bool). IsMarked xs u) (sym m.placed) h

  was_placed : (u : ℕ) → IsPlaced new u → IsPlaced old u
  was_placed u h = subst (λ (xs : List Bool). IsMarked xs u) m.placed h

  passed_now : (u k : ℕ) → k < next_of new u → IsPlaced new (get_or (after d u) k 0)
  passed_now u k lt = now_placed (get_or (after d u) k 0) (elim (cases_eq u t) [
    | inl same ↦
        let lt_t : k < next_of new t = subst (λ (v : ℕ). k < next_of new v) same lt in
        subst (λ (v : ℕ). IsPlaced old (get_or (after d v) k 0)) (sym same) (elim (cases_lt k (next_of old t)) [
          | inl before ↦ s.passed t k before
          | inr from ↦ m.between k from (omega (arith, lt_t, next_here))
        ])
    | inr ne ↦ s.passed u k (omega (arith, lt, next_other u ne))
  ])

  within_now : (u : ℕ) → next_of new u ≤ length (after d u)
  within_now u = elim (cases_eq u t) [
    | inl same ↦ subst (λ (v : ℕ). next_of new v ≤ length (after d v)) (sym same) (omega (arith, next_here, m.high))
    | inr ne ↦ omega (arith, next_other u ne, s.within u)
  ]

  pub sound_advanced : IsSoundPlacing to_run d new
  sound_advanced = record {
    marks = ap length m.placed ∙ s.marks;
    places = ap length m.next ∙ length-set old.next.items t place ∙ s.places;
    room = omega (arith, m.room, s.room);
    front = subst (λ (xs : List ℕ). IsFront (IsMarked to_run) (IsListedBefore d) xs) (sym m.order) s.front;
    placed = subst (λ (xs : List ℕ). MarksPlaced xs new.placed.items) (sym m.order) (subst (λ (xs : List Bool). MarksPlaced old.order.items xs) (sym m.placed) s.placed);
    within = within_now;
    passed = passed_now;
    ready_to_run = λ u h. elim (cases_eq u t) [ inl same ↦ subst (λ (v : ℕ). IsMarked to_run v) (sym same) m.marked | inr ne ↦ s.ready_to_run u (sym (m.others u ne) ∙ h) ];
    ready_unplaced = λ u h p. elim (cases_eq u t) [
      | inl same ↦ m.unplaced (was_placed t (subst (λ (v : ℕ). IsPlaced new v) same p))
      | inr ne ↦ s.ready_unplaced u (sym (m.others u ne) ∙ h) (was_placed u p)
    ];
    ready_passed = λ u h. elim (cases_eq u t) [
      | inl same ↦ subst (λ (v : ℕ). next_of new v ≡ length (after d v)) (sym same) (next_here ∙ m.ready (subst (λ (v : ℕ). IsInReady new v) same h))
      | inr ne ↦ next_other u ne ∙ s.ready_passed u (sym (m.others u ne) ∙ h)
    ];
  }

  pub looks_advanced : LooksAt d old new t
  looks_advanced = record {
    placed = m.placed;
    order = m.order;
    settled = elim (m.settled) [
      | inl in_set ↦ inr (inl in_set)
      | inr waits ↦ inr (inr (record {
        within = omega (arith, waits.0, next_here);
        unplaced = λ p. waits.1 (was_placed (get_or (after d t) place 0) (subst (λ (k : ℕ). IsPlaced new (get_or (after d t) k 0)) next_here p));
      }))
    ];
    others = λ u ne. (next_other u ne, m.others u ne);
  }

-- a look at one task leaves the others as they were
still_settled : (d : Dependencies) (old new : Placing) (t u : ℕ) → LooksAt d old new t → u ≢ t → IsSettled d old u → IsSettled d new u
still_settled d old new t u look ne (inl p) = inl (subst (λ (xs : List Bool). IsMarked xs u) (sym look.placed) p)
still_settled d old new t u look ne (inr (inl in_set)) = inr (inl ((look.others u ne).1 ∙ in_set))
still_settled d old new t u look ne (inr (inr w)) =
    let same : next_of new u ≡ next_of old u = (look.others u ne).0 in
    inr (inr (record {
      within = omega (arith, same, w.within);
      unplaced = λ p. w.unplaced (subst (λ (k : ℕ). IsPlaced old (get_or (after d u) k 0)) same (subst (λ (xs : List Bool). IsMarked xs (get_or (after d u) (next_of new u) 0)) look.placed p));
    }))

-- an element of the rest of a list is the first of the rest, or stands behind it
in_rest : (list : List ℕ) (i t : ℕ) → i < length list → Contains (drop i list) t → (t ≡ get_or list i 0) ⊎ Contains (drop (i + 1) list) t
in_rest list i t lt found =
    let c : Contains ((get_or list i 0 ∷ []) ++ drop (i + 1) list) t = subst (λ (xs : List ℕ). Contains xs t) (drop_more list i 0 lt) found in
    elim (Contains-append_cases (get_or list i 0 ∷ []) (drop (i + 1) list) t c) [ inl first ↦ inl (sym (only_one (get_or list i 0) t first)) | inr rest ↦ inr rest ]

pub listed_next : (to_run : List Bool) (d : Dependencies) (old new : Placing) (list : List ℕ) (i : ℕ) → i < length list → LooksAt d old new (get_or list i 0)
    → AreSettledOrListed to_run d old (drop i list) → AreSettledOrListed to_run d new (drop (i + 1) list)
listed_next to_run d old new list i lt look before u marked = elim (cases_eq u (get_or list i 0)) [
  | inl same ↦ inl (subst (λ (v : ℕ). IsSettled d new v) (sym same) look.settled)
  | inr ne ↦ elim (before u marked) [
    | inl settled ↦ inl (still_settled d old new (get_or list i 0) u look ne settled)
    | inr listed ↦ elim (in_rest list i u lt listed) [ inl first ↦ absurd (ne first) | inr rest ↦ inr rest ]
  ]
]

pub none_listed : (n : ℕ) (to_run : List Bool) (d : Dependencies) (s : Placing) (list : List ℕ) (i : ℕ) → length list ≤ i → AreSettledOrListed to_run d s (drop i list) → AreSettled n to_run d s
none_listed n to_run d s list i end settled u _ marked = elim (settled u marked) [
  | inl is ↦ is
  | inr listed ↦ absurd (omega (arith, listed.1, length-drop i list, end))
]

-- the tasks before a task are in range of the marks
pub befores_in : (to_run : List Bool) (d : Dependencies) (t : ℕ) (all : List ℕ) (placed : List Bool) → AreBefores to_run d → all ≡ after d t → length placed ≡ length d → All (λ u. u < length placed) all
befores_in to_run d t all placed are is size k x lt =
    let low_k : k < length (after d t) = omega (arith, lt, ap length is) in
    let here : get_or all k x ≡ get_or (after d t) k 0 = ap (λ (xs : List ℕ). get_or xs k x) is ∙ get_or_default (after d t) k x 0 low_k in
    let below : get_or (after d t) k 0 < length d = befores_below to_run d are t k low_k in
    omega (arith, here, below, size)

-- from what the code reads; the befores of t up to the place are placed
module _ (to_run : List Bool) (d : Dependencies) (old new : Placing) (t place : ℕ) (all : List ℕ) (marks : List Bool) (mark : Bool) (from : ℕ) (s : IsSoundPlacing to_run d old) (are : AreBefores to_run d)
    (runs : IsMarked to_run t) (read : mark ≡ get_or old.placed.items t mark) (unmarked : mark ≡ false) (read_next : from ≡ get_or old.next.items t from) (is_all : all ≡ after d t) (is_marks : marks ≡ old.placed.items)
    (low : from ≤ place) (high : place ≤ length all) (passed : (k : ℕ) → from ≤ k → k < place → IsMarked marks (get_or all k 0))
    (same_placed : new.placed.items ≡ old.placed.items) (same_order : new.order.items ≡ old.order.items) (next : new.next.items ≡ set old.next.items t place) where
  here : t < length d
  here = omega (arith, marked_below to_run t runs, are.size)

  is_from : next_of old t ≡ from
  is_from =
      let lt : t < length old.next.items = omega (arith, here, s.places) in
      get_or_default old.next.items t 0 from lt ∙ sym read_next

  is_unplaced : IsPlaced old t → ⊥
  is_unplaced p =
      let lt : t < length old.placed.items = omega (arith, here, s.marks) in
      both_ways (get_or old.placed.items t false) (get_or_default old.placed.items t false mark lt ∙ (sym read ∙ unmarked)) p

  long : length all ≡ length (after d t)
  long = ap length is_all

  were_passed : (k : ℕ) → next_of old t ≤ k → k < place → IsPlaced old (get_or (after d t) k 0)
  were_passed k above lt = rw (← is_all, ← is_marks) (passed k (omega (arith, above, is_from)) lt)

  -- it waits for the one at the place
  pub advances_waiting : (place ≡ length all → ⊥) → (place < length all → get_or marks (get_or all place 0) false ≡ false) → new.ready ≡ old.ready → Advances to_run d old new t place
  advances_waiting ne unplaced same_ready = record {
    here = here;
    marked = runs;
    unplaced = is_unplaced;
    placed = same_placed;
    order = same_order;
    next = next;
    low = omega (arith, low, is_from);
    high = omega (arith, high, long);
    between = were_passed;
    room = ap room_of same_ready;
    others = λ u _. ap (λ set. has set u) same_ready;
    ready = λ h.
        let passed_all : next_of old t ≡ length (after d t) = s.ready_passed t (ap (λ set. has set t) (sym same_ready) ∙ h) in
        omega (arith, passed_all, is_from, low, high, long);
    settled =
        let lt : place < length all = omega (arith, high, ne) in
        let waited : get_or old.placed.items (get_or (after d t) place 0) false ≡ false = rw (← is_all, ← is_marks) (unplaced lt) in
        inr (omega (arith, lt, long), both_ways (get_or old.placed.items (get_or (after d t) place 0) false) waited);
  }
