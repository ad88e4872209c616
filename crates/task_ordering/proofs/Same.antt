-- Orders of a set and of its marks are the same.
use Rattle.std.proofs.Common.{◌≡◌, ◌⊎◌, ℕ, Bool, false, List, length, get_or, inl, inr, Contains, sym, ◌∙◌}
use Rattle.std.proofs.lemmas.Bool.{both_ways, cases_Bool}
use Rattle.ready_work.specs.Rank.{Dependencies}
use Rattle.task_ordering.specs.Marks.{IsMarked, MarksExactly, IsFirstUnplaced}
use Rattle.task_ordering.specs.Orders.{HasRank, has_rank, IsOrder, IsLeastOrder}
use Rattle.task_ordering.specs.Tasks.{IsToRun, IsBefore}
use Rattle.task_ordering.specs.Befores.{IsListedBefore, TellsBefore}
use Rattle.task_ordering.specs.Placed.{AreAllPlaced, AreBefores}
use Rattle.task_ordering.specs.Refusals.{AreNamed, IsAccepted, IsLowestUnranked, HasRankAmong}
use Rattle.task_ordering.specs.declared.tasks.OrderTask.{OrderTask}
use Rattle.task_ordering.proofs.Fronts.{least_order, ranked_placed}

rank_same : (M M' : ℕ → Type 0) (B B' : ℕ → ℕ → Type 0) → ((t : ℕ) → M t → M' t) → ((a b : ℕ) → B' a b → B a b) → (t : ℕ) → HasRank M B t → HasRank M' B' t
rank_same M M' B B' to back t (has_rank _ member before) = has_rank t (to t member) (λ u is. rank_same M M' B B' to back u (before u (back u t is)))

order_same : (M M' : ℕ → Type 0) (B B' : ℕ → ℕ → Type 0) → ((t : ℕ) → M t → M' t) → ((t : ℕ) → M' t → M t) → ((a b : ℕ) → B' a b → B a b) → (xs : List ℕ) → IsOrder M B xs → IsOrder M' B' xs
order_same M M' B B' to from back xs o = record {
  only = λ t c. to t (o.only t c);
  all = λ t m. o.all t (from t m);
  once = o.once;
  earlier = λ a b j k before. o.earlier a b j k (back a b before);
}

module _ (tasks : List OrderTask) (asked : List ℕ) (to_run : List Bool) (d : Dependencies) (named : AreNamed tasks asked) (marks : MarksExactly (length tasks) (IsToRun tasks asked) to_run) (tells : TellsBefore tasks to_run d) where
  listed_before : (a b : ℕ) → IsListedBefore d a b → IsBefore tasks asked a b
  listed_before a b h = record {
    first = marks.sound a (tells.marked a b h).first;
    second = marks.sound b (tells.marked a b h).second;
    says = tells.sound a b h;
  }

  before_listed : (a b : ℕ) → IsBefore tasks asked a b → IsListedBefore d a b
  before_listed a b before = tells.complete a b (record { first = marks.complete a before.first; second = marks.complete b before.second }) before.says

  pub befores_are : (a b : ℕ) → (IsListedBefore d a b → IsBefore tasks asked a b) × (IsBefore tasks asked a b → IsListedBefore d a b)
  befores_are a b = (listed_before a b, before_listed a b)

  pub are_befores : AreBefores to_run d
  are_befores = record { size = size; marked = tells.marked }
    where
      size : length d ≡ length to_run
      size = tells.size ∙ sym marks.size

  module _ (placed : List Bool) (xs : List ℕ) (all : AreAllPlaced to_run d placed xs) where
    ranked : (t : ℕ) → Contains xs t → HasRankAmong tasks asked t
    ranked t c = rank_same (IsMarked to_run) (IsToRun tasks asked) (IsListedBefore d) (IsBefore tasks asked) marks.sound before_listed t (all.front.ranked t c)

    is_placed : (t : ℕ) → Contains xs t ⊎ (Contains xs t → ⊥)
    is_placed t = elim (cases_Bool (get_or placed t false)) [
      | inl mark ↦ inl (all.marks.sound t mark)
      | inr none ↦ inr (λ c. both_ways (get_or placed t false) none (all.marks.complete t c))
    ]

    placed_ranked : (t : ℕ) → HasRankAmong tasks asked t → Contains xs t
    placed_ranked t rank =
        ranked_placed (IsMarked to_run) (IsListedBefore d) xs all.none is_placed t
        (rank_same (IsToRun tasks asked) (IsMarked to_run) (IsBefore tasks asked) (IsListedBefore d) marks.complete listed_before t rank)

    module _ (each : (t : ℕ) → IsMarked to_run t → IsMarked placed t) where
      stands : (t : ℕ) → IsMarked to_run t → Contains xs t
      stands t m = all.marks.sound t (each t m)

      pub accepted : IsAccepted tasks asked
      accepted = record { named = named; ranked = λ t runs. ranked t (stands t (marks.complete t runs)) }

      pub least : IsLeastOrder (IsToRun tasks asked) (IsBefore tasks asked) xs
      least =
          let l : IsLeastOrder (IsMarked to_run) (IsListedBefore d) xs = least_order (IsMarked to_run) (IsListedBefore d) xs all.front stands in
          record {
            order = order_same (IsMarked to_run) (IsToRun tasks asked) (IsListedBefore d) (IsBefore tasks asked) marks.sound marks.complete before_listed xs l.order;
            least = λ ys o. l.least ys (order_same (IsToRun tasks asked) (IsMarked to_run) (IsBefore tasks asked) (IsListedBefore d) marks.complete marks.sound listed_before ys o);
          }

    pub unranked : (t : ℕ) → IsFirstUnplaced to_run placed t → IsLowestUnranked tasks asked t
    unranked t first = record {
      is_to_run = marks.sound t first.is_to_run;
      unranked = λ rank. both_ways (get_or placed t false) first.unplaced (all.marks.complete t (placed_ranked t rank));
      before = λ u lt runs. ranked u (all.marks.sound u (first.before u lt (marks.complete u runs)));
    }
