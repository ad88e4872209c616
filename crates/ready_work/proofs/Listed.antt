-- Those that waited for a task are looked at, one after the other.
use Rattle.std.proofs.Common.{◌≡◌, ◌≢◌, ◌⊎◌, ◌<◌, ◌≤◌, ◌+◌, ℕ, zero, suc, true, false, List, [], ◌∷◌, length, get_or, drop, ap, sym, ◌∙◌, arith, inl, inr, Contains, subst, length-drop}
use Rattle.std.proofs.lemmas.Bool.{cases_eq, cases_Bool, both_ways}
use Rattle.std.proofs.lemmas.List.{drop_more, get_or_default}
use Rattle.ready_work.specs.declared.rank_search.Search.{Search}
use Rattle.ready_work.specs.Rank.{Dependencies, after, Ranked, ranked}
use Rattle.ready_work.specs.Search.{is_marked, next_of, awaited, LooksAt, Waits, WaitBelow, WaitOrListed}

module _ (d : Dependencies) (s : ℕ) (old new : Search) (look : LooksAt d s old new) where
  -- the task that a task waits for has no mark or stands on the stack, after the look as before it
  still_open : (v : ℕ) → (is_marked old v ≡ false) ⊎ Contains old.stack.items v → (is_marked new v ≡ false) ⊎ Contains new.stack.items v
  still_open v (inr found) = inr (look.stack v found)
  still_open v (inl open_old) = elim (cases_eq v s) [
    | inl same ↦ elim (cases_Bool (is_marked new v)) [
      | inl marked ↦ inr (rw same (look.pushed (rw same at open_old) (rw same at marked)))
      | inr still ↦ inl still
    ]
    | inr other ↦ inl ((look.others v other).1 ∙ open_old)
  ]

  same_awaited : (t : ℕ) → t ≢ s → awaited d new t ≡ awaited d old t
  same_awaited t ne = ap (λ i. get_or (after d t) i 0) (look.others t ne).0

  pub still_waits : (t : ℕ) → t ≢ s → Waits d old t → Waits d new t
  still_waits t ne w = (rw ((look.others t ne).0) (w.0), rw (same_awaited t ne) (still_open (awaited d old t) w.1))

-- an element of a list is the first, or one of the rest
in_cons : (x : ℕ) (xs : List ℕ) (t k : ℕ) → k < length (x ∷ xs) → get_or (x ∷ xs) k t ≡ t → (t ≡ x) ⊎ Contains xs t
in_cons x xs t zero lt e = inl (sym e)
in_cons x xs t (suc k) lt e = inr (k, omega arith, e)

first_or_rest : (list : List ℕ) (i : ℕ) (t : ℕ) → i < length list → Contains (drop i list) t → (t ≡ get_or list i 0) ⊎ Contains (drop (i + 1) list) t
first_or_rest list i t lt found =
    let cons : Contains (get_or list i 0 ∷ drop (i + 1) list) t = subst (λ (xs : List ℕ). Contains xs t) (drop_more list i 0 lt) found in
    in_cons (get_or list i 0) (drop (i + 1) list) t cons.0 cons.1 cons.2

pub listed_step : (d : Dependencies) (popped : ℕ) (list : List ℕ) (i : ℕ) (old new : Search) → i < length list → LooksAt d (get_or list i 0) old new
    → WaitOrListed d old popped (drop i list) → WaitOrListed d new popped (drop (i + 1) list)
listed_step d popped list i old new lt look before = λ t low unmarked.
    elim (cases_eq t (get_or list i 0)) [
      | inl same ↦ inl (rw same (look.waits (rw same at unmarked)))
      | inr other ↦
          elim (before t low (sym (look.others t other).1 ∙ unmarked)) [
            | inl w ↦ inl (still_waits d (get_or list i 0) old new look t other w)
            | inr l ↦ inr (record {
              low = rw ((look.others t other).0) l.low;
              is = ap (λ j. get_or (after d t) j 0) (look.others t other).0 ∙ l.is;
              listed = elim (first_or_rest list i t lt l.listed) [ inl first ↦ absurd (other first) | inr rest ↦ rest ];
            })
          ]
    ]

pub none_listed : (d : Dependencies) (popped n : ℕ) (list : List ℕ) (i : ℕ) (s : Search) → n ≡ length d → length list ≤ i → WaitOrListed d s popped (drop i list) → WaitBelow n d s
none_listed d popped n list i s size end waits = λ t low unmarked.
    elim (waits t (rw size at low) unmarked) [
      | inl w ↦ w
      | inr l ↦ absurd (omega (arith, l.listed.1, length-drop i list, end))
    ]

-- where the stack is empty, each task with a rank has its mark
pub all_marked : (d : Dependencies) (s : Search) → s.stack.items ≡ [] → WaitBelow (length d) d s → ((t k : ℕ) → t < length d → k < length (after d t) → get_or (after d t) k 0 < length d)
    → (t : ℕ) → Ranked d t → t < length d → is_marked s t ≡ true
all_marked d s empty waits range t (ranked _ below) low =
    elim (cases_Bool (is_marked s t)) [
      | inl is_one ↦ is_one
      | inr unmarked ↦
          let w : Waits d s t = waits t low unmarked in
          let v : ℕ = awaited d s t in
          let named : Contains (after d t) v = (next_of s t, w.0, get_or_default (after d t) (next_of s t) v 0 w.0) in
          let marked : is_marked s v ≡ true = all_marked d s empty waits range v (below v named) (range t (next_of s t) low w.0) in
          elim (w.1) [
            | inl still ↦ absurd (both_ways (is_marked s v) still marked)
            | inr found ↦
                let none : Contains [] v = subst (λ (xs : List ℕ). Contains xs v) empty found in
                absurd (omega (arith, none.1))
          ]
    ]
