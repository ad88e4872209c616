-- A task gets its mark, over the state's lists.
use Rattle.std.proofs.Common.{◌≡◌, ◌≢◌, ◌<◌, ◌≤◌, ◌+◌, ℕ, Bool, true, false, not, cond, List, [], ◌∷◌, ◌++◌, length, get_or, set, ap, sym, ◌∙◌, arith, inl, inr, get_or-set_same, get_or-set_other, length-set, length-append}
use Rattle.std.proofs.lemmas.Bool.{cases_eq, cases_lt, both_ways}
use Rattle.std.proofs.lemmas.List.{get_or_default}
use Rattle.std.proofs.Math.ListN.{get_or-append}
use Rattle.std.proofs.Math.Seq.{get_or-append_seam}
use Rattle.std.proofs.lemmas.List.Elements.{Contains-append_left}
use Rattle.std.proofs.lemmas.List.Sums.{sum_by-set}
use Rattle.std.specs.Prelude.{count_by}
use Rattle.ready_work.specs.declared.rank_search.Search.{Search}
use Rattle.ready_work.specs.Rank.{Dependencies, after, InRange, Ranked, ranked}
use Rattle.ready_work.specs.Search.{is_marked, next_of, IsSoundSearch, LooksAt, work_left}

-- one open place fewer
fewer_open : (xs : List Bool) (i : ℕ) → i < length xs → get_or xs i false ≡ false → count_by not (set xs i true) + 1 ≡ count_by not xs
fewer_open xs i lt h =
    let f : Bool → ℕ = λ b. cond (not b) 1 0 in
    let e = sum_by-set f xs i true false lt in
    omega (arith, rw h at e)

-- new is old with a mark on t, whose names are all marked
pub record Marks (d : Dependencies) (old new : Search) (t p : ℕ) : Type 0 where
  pub here : t < length d
  pub unmarked : is_marked old t ≡ false
  pub ranked : new.ranked.items ≡ set old.ranked.items t true
  pub next : new.next.items ≡ set old.next.items t p
  pub stack : new.stack.items ≡ old.stack.items ++ t ∷ []
  pub all : p ≡ length (after d t)
  pub between : (k : ℕ) → next_of old t ≤ k → k < p → is_marked old (get_or (after d t) k 0) ≡ true

module _ (d : Dependencies) (old new : Search) (t p : ℕ) (range : InRange d) (s : IsSoundSearch d old) (m : Marks d old new t p) where
  marked_here : is_marked new t ≡ true
  marked_here =
      let lt : t < length old.ranked.items = rw s.marks m.here in
      rw m.ranked (get_or-set_same old.ranked.items t true false lt)

  marked_other : (u : ℕ) → u ≢ t → is_marked new u ≡ is_marked old u
  marked_other u ne = rw m.ranked (get_or-set_other old.ranked.items t u true false ne)

  kept : (u : ℕ) → is_marked old u ≡ true → is_marked new u ≡ true
  kept u h = elim (cases_eq u t) [ inl same ↦ rw same marked_here | inr other ↦ marked_other u other ∙ h ]

  next_here : next_of new t ≡ p
  next_here =
      let lt : t < length old.next.items = rw s.places m.here in
      rw m.next (get_or-set_same old.next.items t p 0 lt)

  next_other : (u : ℕ) → u ≢ t → next_of new u ≡ next_of old u
  next_other u ne = rw m.next (get_or-set_other old.next.items t u p 0 ne)

  all_marked : (k : ℕ) → k < length (after d t) → is_marked old (get_or (after d t) k 0) ≡ true
  all_marked k lt = elim (cases_lt k (next_of old t)) [
    | inl below ↦ s.passed t k m.here below
    | inr above ↦ m.between k above (rw m.all lt)
  ]

  ranked_here : Ranked d t
  ranked_here = ranked t (λ u found.
      let same : get_or (after d t) found.0 0 ≡ u = get_or_default (after d t) found.0 0 u found.1 ∙ found.2 in
      let low : u < length d = rw (← same) (range t found.0 m.here found.1) in
      s.sound u low (rw (← same) (all_marked found.0 found.1)))

  stacked_new : (k : ℕ) → k < length new.stack.items → get_or new.stack.items k 0 < length d
  stacked_new k lt = elim (cases_lt k (length old.stack.items)) [
    | inl below ↦
        let e : get_or new.stack.items k 0 ≡ get_or old.stack.items k 0 = rw m.stack (get_or-append old.stack.items (t ∷ []) 0 k below) in
        rw e (s.stacked k below)
    | inr above ↦
        let long : length new.stack.items ≡ length old.stack.items + 1 = rw m.stack (length-append old.stack.items (t ∷ [])) in
        let at : k ≡ length old.stack.items = omega arith in
        let e : get_or new.stack.items k 0 ≡ t = rw (m.stack, at) (get_or-append_seam old.stack.items t [] 0) in
        rw e m.here
  ]

  pub sound_marked : IsSoundSearch d new
  sound_marked = record {
    marks = rw m.ranked (length-set old.ranked.items t true ∙ s.marks);
    places = rw m.next (length-set old.next.items t p ∙ s.places);
    stacked = stacked_new;
    sound = λ u lt h. elim (cases_eq u t) [
      | inl same ↦ rw same ranked_here
      | inr other ↦ s.sound u lt (sym (marked_other u other) ∙ h)
    ];
    within = λ u lt. elim (cases_eq u t) [
      | inl same ↦ rw (same, next_here) (omega (arith, m.all))
      | inr other ↦ rw (next_other u other) (s.within u lt)
    ];
    passed = λ u k lt below. elim (cases_eq u t) [
      | inl same ↦
          let low : k < length (after d t) = omega (arith, rw same at below, next_here, m.all) in
          rw same (kept _ (all_marked k low))
      | inr other ↦ kept _ (s.passed u k lt (rw (next_other u other) at below))
    ];
  }

  work : work_left new ≤ work_left old
  work =
      let lt : t < length old.ranked.items = rw s.marks m.here in
      let counted : count_by not new.ranked.items + 1 ≡ count_by not old.ranked.items = rw m.ranked (fewer_open old.ranked.items t lt m.unmarked) in
      let long : length new.stack.items ≡ length old.stack.items + 1 = rw m.stack (length-append old.stack.items (t ∷ [])) in
      omega (arith, counted, long)

  pub looks_marked : LooksAt d t old new
  looks_marked = record {
    keeps = kept;
    waits = λ h. absurd (both_ways (is_marked new t) h marked_here);
    others = λ u ne. (next_other u ne, marked_other u ne);
    stack = λ u found. rw m.stack (Contains-append_left old.stack.items (t ∷ []) u found);
    pushed = λ a b. rw m.stack (length old.stack.items, omega (arith, length-append old.stack.items (t ∷ [])), get_or-append_seam old.stack.items t [] t);
    work = work;
  }

-- the same from what the code reads
pub marks_from : (d : Dependencies) (old new : Search) (t p : ℕ) (names : List ℕ) (marks : List Bool) (from : ℕ) (mark : Bool) → t < length d → mark ≡ get_or old.ranked.items t mark → mark ≡ false
    → from ≡ get_or old.next.items t from → length old.next.items ≡ length d → names ≡ after d t → marks ≡ old.ranked.items → p ≡ length names
    → ((k : ℕ) → from ≤ k → k < p → get_or marks (get_or names k 0) false ≡ true)
    → new.ranked.items ≡ set old.ranked.items t true → new.next.items ≡ set old.next.items t p → new.stack.items ≡ old.stack.items ++ t ∷ [] → Marks d old new t p
marks_from d old new t p names marks from mark here read is_open read_next places is_names is_marks all between written placed stack =
    let low : t < length old.next.items = rw places here in
    let at : next_of old t ≡ from = get_or_default old.next.items t 0 from low ∙ sym read_next in
    record {
      here = here;
      unmarked = sym (rw is_open at read);
      ranked = written;
      next = placed;
      stack = stack;
      all = all ∙ ap length is_names;
      between = λ k a b. rw (← is_names, ← is_marks) (between k (rw at at a) b);
    }
