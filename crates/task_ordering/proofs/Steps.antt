-- The lowest ready task is placed, until none is ready.
use Rattle.std.proofs.Common.{◌≡◌, ◌≢◌, ◌⊎◌, ◌<◌, ◌≤◌, ◌+◌, ℕ, Bool, true, false, not, List, [], ◌∷◌, ◌++◌, length, get_or, refl, sym, ap, ◌∙◌, arith, inl, inr, Contains, subst, length-set, get_or-set_same, get_or-set_other}
use Rattle.std.specs.Prelude.{count_by, All}
use Rattle.std.proofs.lemmas.Bool.{cases_eq, cases_lt, both_ways}
use Rattle.std.proofs.lemmas.List.{get_or_default}
use Rattle.std.proofs.lemmas.List.Elements.{Contains-append_left, Contains-push, Contains-push_cases, Contains-get_or}
use Rattle.ready_work.specs.NumberSetView.{has, room_of, IsMember}
use Rattle.ready_work.specs.Lowest.{IsLowest, IsNone}
use Rattle.ready_work.specs.Rank.{Dependencies, after}
use Rattle.ready_work.specs.DependentLists.{ListsDependents}
use Rattle.task_ordering.specs.Marks.{IsMarked}
use Rattle.task_ordering.specs.Befores.{IsListedBefore}
use Rattle.task_ordering.specs.Placed.{IsFront, IsReady, MarksPlaced, AreBefores, AreAllPlaced}
use Rattle.task_ordering.specs.Placing.{IsPlaced, next_of, IsInReady, IsSoundPlacing, IsSettled, AreSettled, AreSettledOrListed, Places, unplaced_count}
use Rattle.task_ordering.specs.declared.placing.Placing.{Placing}
use Rattle.task_ordering.proofs.Fronts.{front_push, no_front}
use Rattle.task_ordering.proofs.Reached.{marked_below, fewer_open, nothing_in}

-- nothing is placed
pub sound_fresh : (to_run : List Bool) (d : Dependencies) (s : Placing) (n : ℕ) → n ≡ length d → length s.placed.items ≡ n → length s.next.items ≡ n → n ≤ room_of s.ready → s.order.items ≡ []
    → ((t : ℕ) → get_or s.placed.items t false ≡ false) → ((t : ℕ) → get_or s.next.items t 0 ≡ 0) → ((t : ℕ) → has s.ready t ≡ false) → IsSoundPlacing to_run d s
sound_fresh to_run d s n size marks places room empty unplaced first none = record {
  marks = marks ∙ size;
  places = places ∙ size;
  room = omega (arith, size, room);
  front = subst (λ (xs : List ℕ). IsFront (IsMarked to_run) (IsListedBefore d) xs) (sym empty) (no_front (IsMarked to_run) (IsListedBefore d));
  placed = record {
    sound = λ t m. absurd (both_ways (get_or s.placed.items t false) (unplaced t) m);
    complete = λ t c. absurd (nothing_in s.order.items t empty c);
  };
  within = λ t. omega (arith, first t);
  passed = λ t k lt. absurd (omega (arith, lt, first t));
  ready_to_run = λ t h. absurd (both_ways (has s.ready t) (none t) h);
  ready_unplaced = λ t h p. both_ways (has s.ready t) (none t) h;
  ready_passed = λ t h. absurd (both_ways (has s.ready t) (none t) h);
}

module _ (to_run : List Bool) (d : Dependencies) (are : AreBefores to_run d) (s : Placing) (sound : IsSoundPlacing to_run d s) where
  abbrev Ready : ℕ → Type 0
  Ready t = IsReady (IsMarked to_run) (IsListedBefore d) s.order.items t

  pub ready_from : (t : ℕ) → IsInReady s t → Ready t
  ready_from t h = record {
    member = sound.ready_to_run t h;
    fresh = λ c. sound.ready_unplaced t h (sound.placed.complete t c);
    after = λ u found.
        let low : found.0 < next_of s t = omega (arith, found.1, sound.ready_passed t h) in
        let is : get_or (after d t) found.0 0 ≡ u = get_or_default (after d t) found.0 0 u found.1 ∙ found.2 in
        sound.placed.sound u (subst (λ (v : ℕ). IsPlaced s v) is (sound.passed t found.0 low));
  }

  module _ (n : ℕ) (size : n ≡ length d) (settled : AreSettled n to_run d s) where
    pub ready_in_set : (t : ℕ) → Ready t → IsInReady s t
    ready_in_set t r =
        let low : t < n = omega (arith, marked_below to_run t r.member, are.size, size) in
        elim (settled t low r.member) [
          | inl placed ↦ absurd (r.fresh (sound.placed.sound t placed))
          | inr rest ↦ elim rest [
            | inl in_set ↦ in_set
            | inr w ↦ absurd (w.unplaced (sound.placed.complete (get_or (after d t) (next_of s t) 0) (r.after (get_or (after d t) (next_of s t) 0) (Contains-get_or (after d t) (next_of s t) 0 w.within))))
          ]
        ]

    pub all_placed : IsNone (IsMember s.ready) → AreAllPlaced to_run d s.placed.items s.order.items
    all_placed none = record {
      size = sound.marks ∙ are.size;
      front = sound.front;
      marks = sound.placed;
      none = λ t r. none.none t (ready_in_set t r);
    }

    module _ (t : ℕ) (lowest : IsLowest (IsMember s.ready) t) where
      least : (u : ℕ) → Ready u → t ≤ u
      least u r = elim (cases_lt u t) [ inl below ↦ absurd (lowest.least u below (ready_in_set u r)) | inr above ↦ above ]

      pub lowest_below : t < length d
      lowest_below = omega (arith, marked_below to_run t (sound.ready_to_run t lowest.is), are.size)

      unmarked : get_or s.placed.items t false ≡ false
      unmarked = not_true (get_or s.placed.items t false) (sound.ready_unplaced t lowest.is)
        where
          not_true : (b : Bool) → (b ≡ true → ⊥) → b ≡ false
          not_true true none = absurd (none refl)
          not_true false none = refl

      module _ (new : Placing) (p : Places s new t) where
        here : IsPlaced new t
        here =
            let lt : t < length s.placed.items = omega (arith, lowest_below, sound.marks) in
            ap (λ (xs : List Bool). get_or xs t false) p.placed ∙ get_or-set_same s.placed.items t true false lt

        other : (u : ℕ) → u ≢ t → get_or new.placed.items u false ≡ get_or s.placed.items u false
        other u ne = ap (λ (xs : List Bool). get_or xs u false) p.placed ∙ get_or-set_other s.placed.items t u true false ne

        kept : (u : ℕ) → IsPlaced s u → IsPlaced new u
        kept u h = elim (cases_eq u t) [ inl same ↦ subst (λ (v : ℕ). IsPlaced new v) (sym same) here | inr ne ↦ other u ne ∙ h ]

        same_next : (u : ℕ) → next_of new u ≡ next_of s u
        same_next u = ap (λ (xs : List ℕ). get_or xs u 0) p.next

        -- what is still ready was so before, and isn't t
        was_ready : (u : ℕ) → IsInReady new u → (u ≢ t) × IsInReady s u
        was_ready u h = elim (cases_eq u t) [
          | inl same ↦ absurd (both_ways (has new.ready t) p.ready (subst (λ (v : ℕ). IsInReady new v) same h))
          | inr ne ↦ (ne, sym (p.others u ne) ∙ h)
        ]

        marks_placed : MarksPlaced new.order.items new.placed.items
        marks_placed = subst (λ (xs : List ℕ). MarksPlaced xs new.placed.items) (sym p.order) (record {
          sound = λ u m. elim (cases_eq u t) [
            | inl same ↦ subst (λ (v : ℕ). Contains (s.order.items ++ t ∷ []) v) (sym same) (Contains-push s.order.items t)
            | inr ne ↦ Contains-append_left s.order.items (t ∷ []) u (sound.placed.sound u (sym (other u ne) ∙ m))
          ];
          complete = λ u c. elim (Contains-push_cases s.order.items t u c) [
            | inl before ↦ kept u (sound.placed.complete u before)
            | inr is ↦ subst (λ (v : ℕ). IsPlaced new v) is here
          ];
        })

        pub sound_placed : IsSoundPlacing to_run d new
        sound_placed = record {
          marks = ap length p.placed ∙ length-set s.placed.items t true ∙ sound.marks;
          places = ap length p.next ∙ sound.places;
          room = omega (arith, p.room, sound.room);
          front = subst (λ (xs : List ℕ). IsFront (IsMarked to_run) (IsListedBefore d) xs) (sym p.order)
              (front_push (IsMarked to_run) (IsListedBefore d) (λ a b h. (are.marked a b h).first) s.order.items t sound.front (ready_from t lowest.is) least);
          placed = marks_placed;
          within = λ u. omega (arith, same_next u, sound.within u);
          passed = λ u k lt. kept (get_or (after d u) k 0) (sound.passed u k (omega (arith, lt, same_next u)));
          ready_to_run = λ u h. sound.ready_to_run u (was_ready u h).1;
          ready_unplaced = λ u h m. sound.ready_unplaced u (was_ready u h).1 (sym (other u (was_ready u h).0) ∙ m);
          ready_passed = λ u h. same_next u ∙ sound.ready_passed u (was_ready u h).1;
        }

        pub fewer_unplaced : unplaced_count new < unplaced_count s
        fewer_unplaced =
            let lt : t < length s.placed.items = omega (arith, lowest_below, sound.marks) in
            let counted : count_by not new.placed.items + 1 ≡ count_by not s.placed.items = rw (p.placed) (fewer_open s.placed.items t lt unmarked) in
            omega (arith, counted)

        module _ (dependents : Dependencies) (lists : ListsDependents d n dependents) where
          -- who waited for t stands among its dependents
          settled_or_listed : (u : ℕ) → u < n → IsSettled d s u → IsSettled d new u ⊎ Contains (after dependents t) u
          settled_or_listed u low (inl placed) = inl (inl (kept u placed))
          settled_or_listed u low (inr (inl in_set)) = elim (cases_eq u t) [
            | inl same ↦ inl (inl (subst (λ (v : ℕ). IsPlaced new v) (sym same) here))
            | inr ne ↦ inl (inr (inl (p.others u ne ∙ in_set)))
          ]
          settled_or_listed u low (inr (inr w)) =
              let v : ℕ = get_or (after d u) (next_of s u) 0 in
              let named : Contains (after d u) v = Contains-get_or (after d u) (next_of s u) 0 w.within in
              elim (cases_eq v t) [
                | inl same ↦ inr (lists.complete t u low (subst (λ (x : ℕ). Contains (after d u) x) same named))
                | inr ne ↦ inl (inr (inr (record {
                  within = omega (arith, same_next u, w.within);
                  unplaced = λ m. w.unplaced (sym (other v ne) ∙ subst (λ (k : ℕ). IsPlaced new (get_or (after d u) k 0)) (same_next u) m);
                })))
              ]

          pub listed_placed : AreSettledOrListed to_run d new (after dependents t)
          listed_placed u marked =
              let low : u < n = omega (arith, marked_below to_run u marked, are.size, size) in
              settled_or_listed u low (settled u low marked)

          pub dependents_run : All (IsMarked to_run) (after dependents t)
          dependents_run k x lt =
              let u : ℕ = get_or (after dependents t) k x in
              let c : Contains (after dependents t) u = (k, lt, get_or_default (after dependents t) k u x lt) in
              (are.marked t u (lists.sound t u c).1).second
