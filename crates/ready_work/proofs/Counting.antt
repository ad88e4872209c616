-- Counts of those that tasks come after.
use Rattle.std.proofs.Common.{◌≡◌, ◌≢◌, ℕ, zero, ◌+◌, ◌<◌, ◌≤◌, Bool, true, false, not, ◌&&◌, ◌||◌, eqb, List, [], ◌∷◌, length, get_or, set, take, refl, sym, ◌∙◌, ap, subst, arith, ◌⊎◌, inl, inr}
use Rattle.std.specs.Prelude.{Contains}
use Rattle.std.specs.List.{All, count_by, list_all, list_any}
use Rattle.std.proofs.lemmas.Bool.{and_from, and_parts, cases_eq, cases_lt, eq-eqb, ne_eqb, or_cases, or_left, or_right, true≢false}
use Rattle.std.proofs.lemmas.List.{get_or-set_other, get_or-set_same, get_or_past, length-set}
use Rattle.std.proofs.lemmas.List.Elements.{All-head, All-tail}
use Rattle.std.proofs.lemmas.List.Sums.{sum_by-cons, sum_by-take-le}
use Rattle.resource_lock.proofs.lemmas.Lists.{one_if}
use Rattle.resource_lock.specs.Fits.{Fits}
use Rattle.resource_lock.specs.GraphView.{GraphView, GraphTaskView, no_task, task_of}
use Rattle.resource_lock.specs.declared.limits.TheConstants.{MAX_AFTER}
use Rattle.ready_work.specs.DependentLists.{times}
use Rattle.ready_work.specs.Rank.{Dependencies, after}
use Rattle.ready_work.specs.Dependents.{AreDependents}
use Rattle.ready_work.specs.DependencyCounts.{count_of, is_counted, weight, CanPut, IsOfSize, AreCountsOf, PutsCount}
use Rattle.ready_work.specs.declared.dependency_counts.DependencyCounts.{DependencyCounts}
use Rattle.ready_work.proofs.AfterLists.{all_within}
use Rattle.ready_work.proofs.Members.{contains_more}
use Rattle.ready_work.proofs.Places.{no_more, one_more}

-- ---- the counts as a list of tasks is gone through

pub record Raised (tasks old new : List ℕ) : Type 0 where
  pub size : length new ≡ length old
  pub each : (k : ℕ) → get_or new k 0 ≡ get_or old k 0 + times tasks k

pub record Lowered (tasks old new : List ℕ) : Type 0 where
  pub size : length new ≡ length old
  pub each : (k : ℕ) → get_or new k 0 + times tasks k ≡ get_or old k 0

pub raised_none : (tasks old : List ℕ) → Raised (take 0 tasks) old old
raised_none tasks old = record { size = refl; each = λ k. omega arith }

pub lowered_none : (tasks old : List ℕ) → Lowered (take 0 tasks) old old
lowered_none tasks old = record { size = refl; each = λ k. omega arith }

pub raised_next : (tasks old now : List ℕ) (i v : ℕ) → i < length tasks → get_or tasks i 0 < length old → v ≡ get_or now (get_or tasks i 0) 0 + 1 → Raised (take i tasks) old now → Raised (take (i + 1) tasks) old (set now (get_or tasks i 0) v)
raised_next tasks old now i v lt within made is = record { size = length-set now (get_or tasks i 0) v ∙ is.size; each = λ k. at k (cases_eq k (get_or tasks i 0)) }
  where
    at : (k : ℕ) → (k ≡ get_or tasks i 0) ⊎ (k ≡ get_or tasks i 0 → ⊥) → get_or (set now (get_or tasks i 0) v) k 0 ≡ get_or old k 0 + times (take (i + 1) tasks) k
    at k (inl e) =
        let so = is.each k in
        let same : get_or (set now (get_or tasks i 0) v) k 0 ≡ v = ap (λ j. get_or (set now (get_or tasks i 0) v) j 0) e ∙ get_or-set_same now (get_or tasks i 0) v 0 (omega (arith, within, is.size)) in
        omega (arith, same, made, ap (λ j. get_or now j 0) e, so, one_more tasks i k lt (sym e))
    at k (inr ne) = let so = is.each k in omega (arith, get_or-set_other now (get_or tasks i 0) k v 0 ne, so, no_more tasks i k lt (λ e. ne (sym e)))

pub lowered_next : (tasks old now : List ℕ) (i v : ℕ) → i < length tasks → get_or tasks i 0 < length old → v + 1 ≡ get_or now (get_or tasks i 0) 0 → Lowered (take i tasks) old now → Lowered (take (i + 1) tasks) old (set now (get_or tasks i 0) v)
lowered_next tasks old now i v lt within made is = record { size = length-set now (get_or tasks i 0) v ∙ is.size; each = λ k. at k (cases_eq k (get_or tasks i 0)) }
  where
    at : (k : ℕ) → (k ≡ get_or tasks i 0) ⊎ (k ≡ get_or tasks i 0 → ⊥) → get_or (set now (get_or tasks i 0) v) k 0 + times (take (i + 1) tasks) k ≡ get_or old k 0
    at k (inl e) =
        let so = is.each k in
        let same : get_or (set now (get_or tasks i 0) v) k 0 ≡ v = ap (λ j. get_or (set now (get_or tasks i 0) v) j 0) e ∙ get_or-set_same now (get_or tasks i 0) v 0 (omega (arith, within, is.size)) in
        omega (arith, same, made, ap (λ j. get_or now j 0) e, so, one_more tasks i k lt (sym e))
    at k (inr ne) = let so = is.each k in omega (arith, get_or-set_other now (get_or tasks i 0) k v 0 ne, so, no_more tasks i k lt (λ e. ne (sym e)))

-- there is one more place of the task than before it
pub times_before : (tasks : List ℕ) (i : ℕ) → i < length tasks → times (take i tasks) (get_or tasks i 0) + 1 ≤ times tasks (get_or tasks i 0)
times_before tasks i lt = omega (arith, one_more tasks i (get_or tasks i 0) lt refl, sum_by-take-le (λ x. one_if (eqb x (get_or tasks i 0))) tasks (i + 1))

-- ---- a dependency_counts after a task was put

pub puts_same : (row : List ℕ) (task : ℕ) (b : Bool) (dependency_counts : DependencyCounts) → is_counted dependency_counts task ≡ b → PutsCount row task b dependency_counts dependency_counts
puts_same row task b dependency_counts known = record { size = refl; counts_size = refl; put = known; others = λ k ne. refl; counts = λ k. ap (λ c. count_of dependency_counts k + weight c (times row k)) known }

pub puts_risen : (row : List ℕ) (task : ℕ) (b : Bool) (old new : DependencyCounts) → task < length old.counted.items → is_counted old task ≡ false → b ≡ true → new.counted.items ≡ set old.counted.items task b → Raised row old.counts.items new.counts.items → PutsCount row task b old new
puts_risen row task b old new within was is made risen = record {
  size = ap length made ∙ length-set old.counted.items task b;
  counts_size = risen.size;
  put = ap (λ bs. get_or bs task false) made ∙ get_or-set_same old.counted.items task b false within;
  others = λ k ne. ap (λ bs. get_or bs k false) made ∙ get_or-set_other old.counted.items task k b false ne;
  counts = λ k. omega (arith, risen.each k, ap (λ c. weight c (times row k)) was, ap (λ c. weight c (times row k)) is);
}

pub puts_lowered : (row : List ℕ) (task : ℕ) (b : Bool) (old new : DependencyCounts) → task < length old.counted.items → is_counted old task ≡ true → b ≡ false → new.counted.items ≡ set old.counted.items task b → Lowered row old.counts.items new.counts.items → PutsCount row task b old new
puts_lowered row task b old new within was is made lowered = record {
  size = ap length made ∙ length-set old.counted.items task b;
  counts_size = lowered.size;
  put = ap (λ bs. get_or bs task false) made ∙ get_or-set_same old.counted.items task b false within;
  others = λ k ne. ap (λ bs. get_or bs k false) made ∙ get_or-set_other old.counted.items task k b false ne;
  counts = λ k. omega (arith, lowered.each k, ap (λ c. weight c (times row k)) was, ap (λ c. weight c (times row k)) is);
}

-- what stands there is a member
pub contains_times : (xs : List ℕ) (k : ℕ) → 0 < times xs k → Contains xs k
contains_times [] k some = absurd (omega (arith, some))
contains_times (x ∷ xs) k some = at (cases_eq x k) (contains_times xs k)
  where
    at : (x ≡ k) ⊎ (x ≡ k → ⊥) → (0 < times xs k → Contains xs k) → Contains (x ∷ xs) k
    at (inl e) rest = (zero, omega arith, e)
    at (inr ne) rest = contains_more x xs k (rest (omega (arith, some, sum_by-cons (λ y. one_if (eqb y k)) x xs, ap one_if (ne_eqb x k ne))))

-- ---- tests and counts

counted_cons : (p : ℕ → Bool) (x : ℕ) (xs : List ℕ) → count_by p (x ∷ xs) ≡ one_if (p x) + count_by p xs
counted_cons p x xs = sum_by-cons (λ y. one_if (p y)) x xs

pub count_eq : (p q : ℕ → Bool) (n : ℕ) → ((k : ℕ) → k < n → p k ≡ q k) → (xs : List ℕ) → All (λ k. k < n) xs → count_by p xs ≡ count_by q xs
count_eq p q n same [] within = refl
count_eq p q n same (x ∷ xs) within = omega (arith, counted_cons p x xs, counted_cons q x xs, ap one_if (same x (All-head (λ k. k < n) x xs within)), count_eq p q n same xs (All-tail (λ k. k < n) x xs within))

count_all : (p q : ℕ → Bool) → ((k : ℕ) → p k ≡ q k) → (xs : List ℕ) → count_by p xs ≡ count_by q xs
count_all p q same [] = refl
count_all p q same (x ∷ xs) = omega (arith, counted_cons p x xs, counted_cons q x xs, ap one_if (same x), count_all p q same xs)

-- a number that is counted now and wasn't
count_more : (p q : ℕ → Bool) (t : ℕ) → ((k : ℕ) → k ≢ t → q k ≡ p k) → p t ≡ false → q t ≡ true → (xs : List ℕ) → count_by q xs ≡ count_by p xs + times xs t
count_more p q t same was is [] = refl
count_more p q t same was is (x ∷ xs) = at (cases_eq x t) (count_more p q t same was is xs)
  where
    at : (x ≡ t) ⊎ (x ≡ t → ⊥) → count_by q xs ≡ count_by p xs + times xs t → count_by q (x ∷ xs) ≡ count_by p (x ∷ xs) + times (x ∷ xs) t
    at (inl e) rest = omega (arith, counted_cons p x xs, counted_cons q x xs, counted_cons (λ y. eqb y t) x xs, ap one_if (ap p e ∙ was), ap one_if (ap q e ∙ is), ap one_if (eq-eqb x t e), rest)
    at (inr ne) rest = omega (arith, counted_cons p x xs, counted_cons q x xs, counted_cons (λ y. eqb y t) x xs, ap one_if (same x ne), ap one_if (ne_eqb x t ne), rest)

-- a number that is counted is so at each of its places
times_counted : (q : ℕ → Bool) (t : ℕ) → q t ≡ true → (xs : List ℕ) → times xs t ≤ count_by q xs
times_counted q t is [] = omega arith
times_counted q t is (x ∷ xs) = at (cases_eq x t) (times_counted q t is xs)
  where
    at : (x ≡ t) ⊎ (x ≡ t → ⊥) → times xs t ≤ count_by q xs → times (x ∷ xs) t ≤ count_by q (x ∷ xs)
    at (inl e) rest = omega (arith, counted_cons q x xs, counted_cons (λ y. eqb y t) x xs, ap one_if (ap q e ∙ is), ap one_if (eq-eqb x t e), rest)
    at (inr ne) rest = omega (arith, counted_cons q x xs, counted_cons (λ y. eqb y t) x xs, ap one_if (ne_eqb x t ne), rest)

few : (b : Bool) → one_if b ≤ 1
few true = omega arith
few false = omega arith

times_uncounted : (q : ℕ → Bool) (t : ℕ) → q t ≡ false → (xs : List ℕ) → count_by q xs + times xs t ≤ length xs
times_uncounted q t isn [] = omega arith
times_uncounted q t isn (x ∷ xs) = at (cases_eq x t) (times_uncounted q t isn xs)
  where
    at : (x ≡ t) ⊎ (x ≡ t → ⊥) → count_by q xs + times xs t ≤ length xs → count_by q (x ∷ xs) + times (x ∷ xs) t ≤ length (x ∷ xs)
    at (inl e) rest = omega (arith, counted_cons q x xs, counted_cons (λ y. eqb y t) x xs, ap one_if (ap q e ∙ isn), ap one_if (eq-eqb x t e), rest)
    at (inr ne) rest = omega (arith, counted_cons q x xs, counted_cons (λ y. eqb y t) x xs, ap one_if (ne_eqb x t ne), few (q x), rest)

-- no number that fails the test is one that all pass
pub all_from_none : (q : ℕ → Bool) (xs : List ℕ) → count_by (λ k. not (q k)) xs ≡ 0 → list_all q xs ≡ true
all_from_none q [] none = refl
all_from_none q (x ∷ xs) none = at (q x) refl (all_from_none q xs)
  where
    at : (b : Bool) → q x ≡ b → (count_by (λ k. not (q k)) xs ≡ 0 → list_all q xs ≡ true) → (q x && list_all q xs) ≡ true
    at true e rest = and_from (q x) (list_all q xs) e (rest (omega (arith, none, counted_cons (λ k. not (q k)) x xs, ap (λ b. one_if (not b)) e)))
    at false e rest = absurd (omega (arith, none, counted_cons (λ k. not (q k)) x xs, ap (λ b. one_if (not b)) e))

pub none_from_all : (q : ℕ → Bool) (xs : List ℕ) → list_all q xs ≡ true → count_by (λ k. not (q k)) xs ≡ 0
none_from_all q [] all = refl
none_from_all q (x ∷ xs) all = let parts = and_parts (q x) (list_all q xs) all in omega (arith, counted_cons (λ k. not (q k)) x xs, ap (λ b. one_if (not b)) parts.0, none_from_all q xs parts.1)

pub any_from_some : (q : ℕ → Bool) (xs : List ℕ) → 0 < count_by q xs → list_any q xs ≡ true
any_from_some q [] some = absurd (omega (arith, some))
any_from_some q (x ∷ xs) some = at (q x) refl (any_from_some q xs)
  where
    at : (b : Bool) → q x ≡ b → (0 < count_by q xs → list_any q xs ≡ true) → (q x || list_any q xs) ≡ true
    at true e rest = or_left (q x) (list_any q xs) e
    at false e rest = or_right (q x) (list_any q xs) (rest (omega (arith, some, counted_cons q x xs, ap one_if e)))

pub some_from_any : (q : ℕ → Bool) (xs : List ℕ) → list_any q xs ≡ true → 0 < count_by q xs
some_from_any q [] any = absurd (true≢false (sym any))
some_from_any q (x ∷ xs) any = at (or_cases (q x) (list_any q xs) any) (some_from_any q xs)
  where
    at : (q x ≡ true) ⊎ (list_any q xs ≡ true) → (list_any q xs ≡ true → 0 < count_by q xs) → 0 < count_by q (x ∷ xs)
    at (inl e) rest = omega (arith, counted_cons q x xs, ap one_if e)
    at (inr any') rest = omega (arith, counted_cons q x xs, rest any')

-- ---- a dependency_counts of a graph

pub no_counts : (g : GraphView) (dependency_counts : DependencyCounts) → ((t : ℕ) → is_counted dependency_counts t ≡ false) → ((t : ℕ) → count_of dependency_counts t ≡ 0) → AreCountsOf g dependency_counts
no_counts g dependency_counts none zero' = record { each = λ t. zero' t ∙ sym (count_all (is_counted dependency_counts) (λ k. false) none (task_of g t).after ∙ nothing (task_of g t).after) }
  where
    nothing : (xs : List ℕ) → count_by (λ (k : ℕ). false) xs ≡ 0
    nothing [] = refl
    nothing (x ∷ xs) = omega (arith, counted_cons (λ k. false) x xs, nothing xs)

few_after : (g : GraphView) → Fits g → (k : ℕ) → length (task_of g k).after ≤ MAX_AFTER
few_after g fits k = at (cases_lt k (length g.tasks))
  where
    at : (k < length g.tasks) ⊎ (length g.tasks ≤ k) → length (task_of g k).after ≤ MAX_AFTER
    at (inl lt) = fits.few_after k no_task lt
    at (inr past) = omega (arith, ap (λ (t : GraphTaskView). length t.after) (get_or_past g.tasks k no_task past))

pub can_put : (g : GraphView) (all : Dependencies) (t : ℕ) (dependency_counts : DependencyCounts) → Fits g → AreDependents g all → IsOfSize (length g.tasks) dependency_counts → AreCountsOf g dependency_counts → t < length g.tasks → CanPut (after all t) t dependency_counts
can_put g all t dependency_counts fits are size is lt = record {
  within = omega (arith, size.counted, lt);
  in_range = subst (λ n. All (λ k. k < n) (after all t)) (sym size.counts) (all_within g all t are);
  falls = λ counted k. omega (arith, are.as_often t k, is.each k, times_counted (is_counted dependency_counts) t counted (task_of g k).after);
  rises = λ counted k. omega (arith, are.as_often t k, is.each k, times_uncounted (is_counted dependency_counts) t counted (task_of g k).after, few_after g fits k);
}

pub counts_put : (g : GraphView) (all : Dependencies) (t : ℕ) (counted : Bool) (old new : DependencyCounts) → AreDependents g all → PutsCount (after all t) t counted old new → AreCountsOf g old → AreCountsOf g new
counts_put g all t counted old new are puts is = record { each = λ k. each k (is_counted old t) counted refl refl }
  where
    as_before : is_counted new t ≡ is_counted old t → (k : ℕ) → (k ≡ t) ⊎ (k ≡ t → ⊥) → is_counted new k ≡ is_counted old k
    as_before at_task k (inl e) = ap (is_counted new) e ∙ at_task ∙ ap (is_counted old) (sym e)
    as_before at_task k (inr ne) = puts.others k ne

    same : (k : ℕ) → is_counted new t ≡ is_counted old t → count_of new k ≡ count_of old k → count_of new k ≡ count_by (is_counted new) (task_of g k).after
    same k at_task counts = counts ∙ is.each k ∙ sym (count_all (is_counted new) (is_counted old) (λ j. as_before at_task j (cases_eq j t)) (task_of g k).after)

    each : (k : ℕ) (was now : Bool) → is_counted old t ≡ was → counted ≡ now → count_of new k ≡ count_by (is_counted new) (task_of g k).after
    each k true true o c = same k (puts.put ∙ c ∙ sym o) (omega (arith, puts.counts k, ap (λ b. weight b (times (after all t) k)) o, ap (λ b. weight b (times (after all t) k)) c))
    each k false false o c = same k (puts.put ∙ c ∙ sym o) (omega (arith, puts.counts k, ap (λ b. weight b (times (after all t) k)) o, ap (λ b. weight b (times (after all t) k)) c))
    each k false true o c = omega (arith, puts.counts k, ap (λ b. weight b (times (after all t) k)) o, ap (λ b. weight b (times (after all t) k)) c, is.each k, are.as_often t k, count_more (is_counted old) (is_counted new) t puts.others o (puts.put ∙ c) (task_of g k).after)
    each k true false o c = omega (arith, puts.counts k, ap (λ b. weight b (times (after all t) k)) o, ap (λ b. weight b (times (after all t) k)) c, is.each k, are.as_often t k, count_more (is_counted new) (is_counted old) t (λ j ne. sym (puts.others j ne)) (puts.put ∙ c) o (task_of g k).after)
