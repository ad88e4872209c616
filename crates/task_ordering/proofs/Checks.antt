-- A history is looked through, entry by entry.
use Rattle.std.proofs.Common.{◌≡◌, ◌⊎◌, ◌<◌, ◌≤◌, ◌+◌, ℕ, Bool, true, false, List, [], ◌∷◌, ◌++◌, length, get_or, take, refl, sym, ap, ◌∙◌, arith, inl, inr, Contains, subst, Option, None, Some}
use Rattle.std.specs.Prelude.{slice_get}
use Rattle.std.proofs.lemmas.Bool.{cases_lt, both_ways}
use Rattle.std.proofs.lemmas.List.{get_or_default, get_or_past, take_more}
use Rattle.std.proofs.lemmas.List.Elements.{Contains-append_left, Contains-push, Contains-push_cases}
use Rattle.std.proofs.lemmas.Option.{slice_get_within, get_or_from_slice_get}
use Rattle.lock_transforms.specs.Entry.{Entry}
use Rattle.ready_work.specs.Lowest.{IsLowest, IsNone}
use Rattle.ready_work.specs.Rank.{Dependencies, InRange, after}
use Rattle.task_ordering.specs.Marks.{IsMarked}
use Rattle.task_ordering.specs.Befores.{IsListedBefore}
use Rattle.task_ordering.specs.Checking.{ended_by, started_by, HasEnded, IsEarly, StartsEarly}

-- the first k entries start no task too early, and the tasks that they end have a mark
pub record HasChecked (befores : Dependencies) (history : List Entry) (k : ℕ) (ended : List Bool) : Type 0 where
  pub size : length ended ≡ length befores
  pub sound : (t : ℕ) → IsMarked ended t → HasEnded (take k history) t
  pub complete : (t : ℕ) → t < length befores → HasEnded (take k history) t → IsMarked ended t
  pub none : (n : ℕ) → IsEarly befores history n → k < n

-- a task that stands before another is a task
first_below : (befores : Dependencies) → InRange befores → (first task : ℕ) → IsListedBefore befores first task → first < length befores
first_below befores range first task h =
    let low : task < length befores = elim (cases_lt task (length befores)) [
      | inl lt ↦ lt
      | inr past ↦
          let empty : after befores task ≡ [] = get_or_past befores task [] past in
          absurd (omega (arith, h.1, ap length empty))
    ] in
    let is : get_or (after befores task) h.0 0 ≡ first = get_or_default (after befores task) h.0 0 first h.1 ∙ h.2 in
    let below : get_or (after befores task) h.0 0 < length befores = range task h.0 low h.1 in
    omega (arith, is, below)

module _ (befores : Dependencies) (range : InRange befores) (history : List Entry) (k : ℕ) (ended : List Bool) (e : Entry) (at : slice_get history k ≡ Some e) (c : HasChecked befores history k ended) where
  -- the entry that starts a task too early is the first one
  pub broken : StartsEarly befores ended e → IsLowest (IsEarly befores history) (k + 1)
  broken s = record {
    is = record {
      place = k;
      number = refl;
      entry = e;
      at = at;
      task = s.task;
      starts = s.starts;
      first = s.first;
      before = s.before;
      unended = λ h. both_ways (get_or ended s.first false) s.unmarked (c.complete s.first (first_below befores range s.first s.task s.before) h);
    };
    least = λ n lt early. let past : k < n = c.none n early in omega (arith, past, lt);
  }

  not_true : (b : Bool) → (b ≡ true → ⊥) → b ≡ false
  not_true true none = absurd (none refl)
  not_true false none = refl

  one_more : take (k + 1) history ≡ take k history ++ e ∷ []
  one_more =
      let lt : k < length history = slice_get_within history k e at in
      take_more history k e lt ∙ ap (λ x. take k history ++ x ∷ []) (get_or_from_slice_get history k e e at)

  -- an entry at the place k would start its task too early by the marks
  early_here : (n : ℕ) (early : IsEarly befores history n) → early.place ≡ k → StartsEarly befores ended e
  early_here n early same =
      let is : Some early.entry ≡ Some e = sym early.at ∙ ap (slice_get history) same ∙ at in
      let is_e : early.entry ≡ e = from_some early.entry e is in
      record {
        task = early.task;
        starts = subst (λ (x : Entry). started_by x ≡ Some early.task) is_e early.starts;
        first = early.first;
        before = early.before;
        unmarked = not_true (get_or ended early.first false) (λ m. early.unended (subst (λ (j : ℕ). HasEnded (take j history) early.first) (sym same) (c.sound early.first m)));
      }
    where
      unwrapped : Entry → Option Entry → Entry
      unwrapped d None = d
      unwrapped d (Some x) = x

      from_some : (x y : Entry) → Some x ≡ Some y → x ≡ y
      from_some x y is = ap (unwrapped x) is

  module _ (new : List Bool) (none_early : StartsEarly befores ended e → ⊥) (size : length new ≡ length ended) (keeps : (t : ℕ) → IsMarked ended t → IsMarked new t)
      (marks : (t : ℕ) → t < length ended → ended_by e ≡ Some t → IsMarked new t) (only : (t : ℕ) → IsMarked new t → IsMarked ended t ⊎ (ended_by e ≡ Some t)) where
    more : (t : ℕ) → HasEnded (take k history) t → HasEnded (take (k + 1) history) t
    more t h = record {
      entry = h.entry;
      among = subst (λ (es : List Entry). Contains es h.entry) (sym one_more) (Contains-append_left (take k history) (e ∷ []) h.entry h.among);
      ends = h.ends;
    }

    now_ended : (t : ℕ) → ended_by e ≡ Some t → HasEnded (take (k + 1) history) t
    now_ended t is = record { entry = e; among = subst (λ (es : List Entry). Contains es e) (sym one_more) (Contains-push (take k history) e); ends = is }

    pub checked_next : HasChecked befores history (k + 1) new
    checked_next = record {
      size = size ∙ c.size;
      sound = λ t m. elim (only t m) [ inl before ↦ more t (c.sound t before) | inr now ↦ now_ended t now ];
      complete = λ t lt h. elim (Contains-push_cases (take k history) e h.entry (subst (λ (es : List Entry). Contains es h.entry) one_more h.among)) [
        | inl before ↦ keeps t (c.complete t lt (record { entry = h.entry; among = before; ends = h.ends }))
        | inr is ↦ marks t (omega (arith, lt, c.size)) (ap ended_by is ∙ h.ends)
      ];
      none = λ n early.
          let past : k < n = c.none n early in
          elim (cases_lt (k + 1) n) [
            | inl beyond ↦ beyond
            | inr here ↦
                let same : early.place ≡ k = omega (arith, past, here, early.number) in
                absurd (none_early (early_here n early same))
          ];
    }

pub kept : (befores : Dependencies) (history : List Entry) (k : ℕ) (ended : List Bool) → length history ≤ k → HasChecked befores history k ended → IsNone (IsEarly befores history)
kept befores history k ended end c = record {
  none = λ n early.
      let past : k < n = c.none n early in
      let lt : early.place < length history = slice_get_within history early.place early.entry early.at in
      omega (arith, past, lt, end, early.number);
}

-- the same over the lists that the code reads
pub early_as : (read d : Dependencies) (marks : List Bool) (e : Entry) → read ≡ d → StartsEarly read marks e → StartsEarly d marks e
early_as read d marks e is s = subst (λ (befores : Dependencies). StartsEarly befores marks e) is s

pub not_early_as : (read d : Dependencies) (marks : List Bool) (e : Entry) → read ≡ d → (StartsEarly read marks e → ⊥) → StartsEarly d marks e → ⊥
not_early_as read d marks e is none s = none (subst (λ (befores : Dependencies). StartsEarly befores marks e) (sym is) s)
