-- The answer to a document is the first refusal that holds of it.
use Rattle.std.proofs.Common.{◌≡◌, ℕ, ◌+◌, ◌<◌, ◌≤◌, true, List, [], ◌∷◌, length, Option, Some, None, refl, sym, subst, ◌∙◌, inl, inr, arith}
use Rattle.std.specs.Option.{option_or}
use Rattle.std.proofs.lemmas.Bool.{cases_eq, cases_lt}
use Rattle.std.proofs.lemmas.List.{length-map}
use Rattle.std.proofs.lemmas.Option.{none-some}
use Rattle.toml.specs.Data.{Data}
use Rattle.ready_work.specs.Rank.{IsFirstCycle}
use Rattle.plan_table.specs.declared.refusals.Part.TheVariants.{Task}
use Rattle.plan_table.specs.declared.refusals.Place.{Place}
use Rattle.plan_table.specs.declared.refusals.Which.{Which}
use Rattle.plan_table.specs.declared.refusals.PlanRefusal.{PlanRefusal}
use Rattle.plan_table.specs.declared.refusals.PlanRefusal.TheVariants as refusal
use Rattle.plan_table.specs.First.{cause_number, part_number, place_of, excess_number, IsEarlier, IsBefore, IsFirst, IsFirstOf, FirstAt, holds_on, TableHolds}
use Rattle.plan_table.specs.Keys.{tasks_of}
use Rattle.plan_table.specs.Search.{first_of, place_at, table_refusal}
use Rattle.plan_table.proofs.lemmas.FirstAnswers.{option_or_none, option_or_some}
use Rattle.plan_table.proofs.lemmas.FirstLaws.{is_first_refusal}
use Rattle.plan_reader.specs.declared.rows.Row.{Row}
use Rattle.plan_reader.specs.declared.rows.Row.TheVariants.{NoSuchProject, NoSuchTask, ReleaseNotLast, ClassLoader, TooMany, BadRequirements}
use Rattle.plan_reader.specs.First.{HasTwice, HasNoRank, passes_limit, DocumentHolds, refusal_in}
use Rattle.plan_reader.specs.Names.{names_in, dependency_numbers, dependencies_of}
use Rattle.plan_reader.specs.Planned.{plan_of}
use Rattle.plan_reader.specs.Reading.{Answer, answer_to, AnswersRanks, AnswersBy}
use Rattle.plan_reader.specs.Search.{refusal_of, table_at, row_refusal, rows_before, rows_behind, rows_refusal, twice_refusal, refusal_before, refusal_behind, cycle_at}
use Rattle.plan_reader.proofs.FirstRows.{RowHolds, row_nowhere, row_first, FirstLimit, first_limit_at}
use Rattle.plan_reader.proofs.FirstTwice.{twice_nowhere, twice_first}
use Rattle.plan_reader.proofs.Seen.{row_number, seen, tabled, table_seen, name_seen, row_seen, rank_seen, limit_seen, few_causes}

-- nothing holds whose cause stands before the n-th
abbrev Clear : Data → ℕ → Type 0
Clear d n = (s : PlanRefusal) → DocumentHolds d s → n ≤ cause_number s

-- what holds with the n-th cause holds thus at its place
abbrev Says : Data → ℕ → (Place → Type 0) → Type 0
Says d n Holds = (s : PlanRefusal) → cause_number s ≡ n → DocumentHolds d s → Holds (place_of s)

module _ (d : Data) where
  one_more : (n : ℕ) (Holds : Place → Type 0) → Says d n Holds → ((p : Place) → Holds p → ⊥) → Clear d n → Clear d (n + 1)
  one_more n Holds says none clear s h =
      elim (cases_eq (cause_number s) n) [
        | inl same ↦ absurd (none (place_of s) (says s same h))
        | inr other ↦ omega (arith, clear s h, other)
      ]

  -- of one cause, the first place decides
  first_placed : (n : ℕ) (Holds : Place → Type 0) (r : PlanRefusal) (p : Place) → cause_number r ≡ n → place_of r ≡ p → excess_number r ≡ 0 → DocumentHolds d r
      → Says d n Holds → Clear d n → FirstAt Holds p → IsFirst (DocumentHolds d) r
  first_placed n Holds r p number place plain here says clear first = record { here = here; before = before }
    where
      before : (s : PlanRefusal) → IsBefore s r → DocumentHolds d s → ⊥
      before s (inl lt) h = absurd (omega (arith, lt, number, clear s h))
      before s (inr (same, inl earlier)) h = first.before (place_of s) (subst (IsEarlier (place_of s)) place earlier) (says s (same ∙ number) h)
      before s (inr (same, inr (there, less))) h = absurd (omega (arith, less, plain))

  -- of one place, the first limit
  first_limited : (p : Place) (w : Which) → Clear d 12 → FirstAt (RowHolds d TooMany) p → FirstLimit d p w → IsFirst (DocumentHolds d) (refusal.TooMany w p)
  first_limited p w clear first limit = record { here = limit.here; before = before }
    where
      before : (s : PlanRefusal) → IsBefore s (refusal.TooMany w p) → DocumentHolds d s → ⊥
      before s (inl lt) h = absurd (omega (arith, lt, clear s h))
      before s (inr (same, inl earlier)) h = first.before (place_of s) earlier (row_seen d s TooMany same (seen d s h))
      before s (inr (same, inr (there, less))) h =
          let (v, number, over) = limit_seen d s same (seen d s h) in
          limit.before v (omega (arith, number, less)) (subst (λ q. holds_on d q (passes_limit v q.part) ≡ true) there over)

  -- ---- rows

  row_says : (r : Row) → Says d (row_number r) (RowHolds d r)
  row_says r s same h = row_seen d s r same (seen d s h)

  first_of_row : (r : Row) (p : Place) → Clear d (row_number r) → FirstAt (RowHolds d r) p → IsFirst (DocumentHolds d) (refusal_of r (table_at d p) p)
  first_of_row NoSuchProject p clear first = first_placed 7 (RowHolds d NoSuchProject) (refusal.NoSuchProject p) p refl refl refl first.here (row_says NoSuchProject) clear first
  first_of_row NoSuchTask p clear first = first_placed 8 (RowHolds d NoSuchTask) (refusal.NoSuchTask p) p refl refl refl first.here (row_says NoSuchTask) clear first
  first_of_row ReleaseNotLast p clear first = first_placed 10 (RowHolds d ReleaseNotLast) (refusal.ReleaseNotLast p) p refl refl refl first.here (row_says ReleaseNotLast) clear first
  first_of_row ClassLoader p clear first = first_placed 11 (RowHolds d ClassLoader) (refusal.ClassLoader p) p refl refl refl first.here (row_says ClassLoader) clear first
  first_of_row TooMany p clear first = first_limited p _ clear first (first_limit_at d p first.here)
  first_of_row BadRequirements p clear first = first_placed 13 (RowHolds d BadRequirements) (refusal.BadRequirements p) p refl refl refl first.here (row_says BadRequirements) clear first

  -- the rows have the numbers from n up to m
  Run : List Row → ℕ → ℕ → Type 0
  Run [] n m = n ≡ m
  Run (r ∷ rs) n m = (row_number r ≡ n) × Run rs (n + 1) m

  rows_clear : (rs : List Row) (n m : ℕ) → Run rs n m → Clear d n → first_of (row_refusal d) rs ≡ None → Clear d m
  unfolding Run
  rows_clear [] n m is clear none = subst (Clear d) is clear
  rows_clear (r ∷ rs) n m (is, more) clear none =
      let (here, later) = option_or_none (row_refusal d r) (first_of (row_refusal d) rs) none in
      rows_clear rs (n + 1) m more (one_more n (RowHolds d r) (subst (λ k. Says d k (RowHolds d r)) is (row_says r)) (row_nowhere d r here) clear) later

  rows_first : (rs : List Row) (n m : ℕ) (x : PlanRefusal) → Run rs n m → Clear d n → first_of (row_refusal d) rs ≡ Some x → IsFirst (DocumentHolds d) x
  unfolding Run
  rows_first [] n m x is clear e = absurd (none-some x e)
  rows_first (r ∷ rs) n m x (is, more) clear e =
      elim (option_or_some (row_refusal d r) (first_of (row_refusal d) rs) x e) [
        | inl here ↦
            let (p, made, first) = row_first d r x here in
            subst (IsFirst (DocumentHolds d)) made (first_of_row r p (subst (Clear d) (sym is) clear) first)
        | inr later ↦
            rows_first rs (n + 1) m x more (one_more n (RowHolds d r) (subst (λ k. Says d k (RowHolds d r)) is (row_says r)) (row_nowhere d r later.0) clear) later.1
      ]

  run_before : Run rows_before 7 9
  unfolding Run
  run_before = (refl, (refl, refl))

  run_behind : Run rows_behind 10 14
  unfolding Run
  run_behind = (refl, (refl, (refl, (refl, refl))))

  -- ---- tables

  tables_clear : table_refusal d ≡ None → Clear d 6
  tables_clear none s h = elim (cases_lt (cause_number s) 6) [
    | inl low ↦ absurd (subst (IsFirstOf (TableHolds d)) none (is_first_refusal d) s (table_seen d s low (seen d s h)))
    | inr high ↦ high
  ]

  tables_first : (r : PlanRefusal) → table_refusal d ≡ Some r → IsFirst (DocumentHolds d) r
  tables_first r e = record { here = (tabled d r first.here).0; before = before }
    where
      first : IsFirst (TableHolds d) r
      first = subst (IsFirstOf (TableHolds d)) e (is_first_refusal d)

      not_behind : (s : PlanRefusal) → IsBefore s r → cause_number s ≤ cause_number r
      not_behind s (inl lt) = omega (arith, lt)
      not_behind s (inr (same, near)) = omega (arith, same)

      before : (s : PlanRefusal) → IsBefore s r → DocumentHolds d s → ⊥
      before s b h = first.before s b (table_seen d s (omega (arith, not_behind s b, (tabled d r first.here).1)) (seen d s h))

  -- ---- names

  name_says : Says d 6 (HasTwice d)
  name_says s same h = name_seen d s same (seen d s h)

  names_clear : twice_refusal d ≡ None → Clear d 6 → Clear d 7
  names_clear none = one_more 6 (HasTwice d) name_says (twice_nowhere d none)

  names_first : (r : PlanRefusal) → twice_refusal d ≡ Some r → Clear d 6 → IsFirst (DocumentHolds d) r
  names_first r e clear =
      let (p, made, first) = twice_first d r e in
      subst (IsFirst (DocumentHolds d)) made (first_placed 6 (HasTwice d) (refusal.Twice p) p refl refl refl first.here name_says clear first)

  -- ---- ranks

  rank_says : Says d 9 (HasNoRank d)
  rank_says s same h = rank_seen d s same (seen d s h)

  task_count : length (dependencies_of d) ≡ length (tasks_of d)
  task_count = length-map (tasks_of d) (dependency_numbers (names_in d).tasks)

  ranks_clear : IsFirstCycle (dependencies_of d) None → Clear d 9 → Clear d 10
  ranks_clear ranked = one_more 9 (HasNoRank d) rank_says (λ p h. h.2 (ranked p.number (omega (arith, h.1, task_count))))

  first_cycle_at : (t : ℕ) → IsFirstCycle (dependencies_of d) (Some t) → FirstAt (HasNoRank d) (place_at Task t)
  first_cycle_at t (within, unranked, others) = record { here = (refl, omega (arith, within, task_count), unranked); before = before }
    where
      before : (q : Place) → IsEarlier q (place_at Task t) → HasNoRank d q → ⊥
      before q (inl lt) h = absurd (omega (arith, subst (λ p. part_number p < 2) h.0 lt))
      before q (inr (same, lt)) h = h.2 (others q.number lt)

  ranks_first : (t : ℕ) → IsFirstCycle (dependencies_of d) (Some t) → Clear d 9 → IsFirst (DocumentHolds d) (cycle_at t)
  ranks_first t cycle clear =
      let first = first_cycle_at t cycle in
      first_placed 9 (HasNoRank d) (cycle_at t) (place_at Task t) refl refl refl first.here rank_says clear first

  -- ---- the whole

  nothing_holds : Clear d 14 → (s : PlanRefusal) → DocumentHolds d s → ⊥
  nothing_holds clear s h = absurd (omega (arith, clear s h, few_causes d s (seen d s h)))

  abbrev Firsts : Answer → Type 0
  Firsts answer = IsFirstOf (DocumentHolds d) (refusal_in answer)

  behind_first : (o : Option PlanRefusal) → refusal_behind d ≡ o → Clear d 10 → Firsts (answer_to o (plan_of d))
  behind_first None e clear = nothing_holds (rows_clear rows_behind 10 14 run_behind clear e)
  behind_first (Some r) e clear = rows_first rows_behind 10 14 r run_behind clear e

  ranked_first : (answer : Answer) → AnswersRanks d answer → Clear d 9 → Firsts answer
  ranked_first answer (None, ranked, e) clear = subst Firsts (sym e) (behind_first (refusal_behind d) refl (ranks_clear ranked clear))
  ranked_first answer (Some t, cycle, e) clear = subst Firsts (sym e) (ranks_first t cycle clear)

  before_first : (r : PlanRefusal) → refusal_before d ≡ Some r → IsFirst (DocumentHolds d) r
  before_first r e =
      elim (option_or_some (table_refusal d) _ r e) [
        | inl table ↦ tables_first r table
        | inr (none, later) ↦ elim (option_or_some (twice_refusal d) (rows_refusal rows_before d) r later) [
          | inl twice ↦ names_first r twice (tables_clear none)
          | inr (once, row) ↦ rows_first rows_before 7 9 r run_before (names_clear once (tables_clear none)) row
        ]
      ]

  before_clear : refusal_before d ≡ None → Clear d 9
  before_clear none =
      let (table, later) = option_or_none (table_refusal d) (option_or (twice_refusal d) (rows_refusal rows_before d)) none in
      let (once, rows) = option_or_none (twice_refusal d) (rows_refusal rows_before d) later in
      rows_clear rows_before 7 9 run_before (names_clear once (tables_clear table)) rows

  pub first_of_document : (answer : Answer) → AnswersBy (refusal_before d) d answer → IsFirstOf (DocumentHolds d) (refusal_in answer)
  first_of_document answer = by (refusal_before d) refl
    where
      by : (o : Option PlanRefusal) → refusal_before d ≡ o → AnswersBy o d answer → Firsts answer
      by None e a = ranked_first answer a (before_clear e)
      by (Some r) e a = subst Firsts (sym a) (before_first r e)
