-- The states that a history leads to, entry by entry.
use Rattle.std.proofs.Common.{◌≡◌, ◌<◌, ◌≤◌, ◌+◌, ◌-◌, ◌⊎◌, ℕ, zero, suc, List, [], ◌∷◌, ◌++◌, length, take, drop, inl, inr, refl, sym, ap, ◌∙◌, subst, arith}
use Rattle.std.proofs.Math.Seq.{take-append-add, take-length}
use Rattle.std.proofs.lemmas.Bool.{cases_lt}
use Rattle.std.proofs.lemmas.List.{append_assoc, take-append-drop, take-append-le}
use Rattle.lock_journal.specs.Names.{GraphView, WorkerId, Lawful, Entry, prefix_state, replay, NoneOf, SameFor, opening_of, StateView}
use Rattle.lock_journal.proofs.lemmas.Growing.{lawful-front, same_by_own}
use Rattle.shared_services.specs.Done.{OwnsOneOfEach}
use Rattle.coordination.specs.Holds.{HoldsNothing}
use Rattle.coordination.specs.declared.rule.Sight.{Sight}
use Rattle.shared_services.specs.Takings.{HasTheLocks}
use Rattle.shared_services.specs.Worked.{AlwaysOneOfEach, CanRun}
use Rattle.shared_services.proofs.Owning.{owns_none_of}

none_in_front : (w : WorkerId) (n : ℕ) (h : List Entry) → NoneOf w h → NoneOf w (take n h)
none_in_front w zero h none = tt
none_in_front w (suc n) [] none = tt
none_in_front w (suc n) (e ∷ h) none = (none.0, none_in_front w n h none.1)

-- entries of others change nothing of it
pub always_others : (maxima : List ℕ) (g : GraphView) (h between : List Entry) (w : WorkerId) → Lawful g (h ++ between) → NoneOf w between → AlwaysOneOfEach maxima g h w → AlwaysOneOfEach maxima g (h ++ between) w
always_others maxima g h between w lawful none always n = at (cases_lt n (length h))
  where
    at : (n < length h) ⊎ (length h ≤ n) → OwnsOneOfEach maxima (prefix_state g (h ++ between) n) w
    at (inl low) = subst (λ (es : List Entry). OwnsOneOfEach maxima (replay g es) w) (sym (take-append-le n h between (omega (arith, low)))) (always n)
    at (inr high) =
        let k : ℕ = n - length h in
        let is : length h + (n - length h) ≡ n = omega (arith, high) in
        let front : take n (h ++ between) ≡ h ++ take (n - length h) between = ap (λ (m : ℕ). take m (h ++ between)) (sym is) ∙ take-append-add h between (n - length h) in
        let whole : OwnsOneOfEach maxima (replay g h) w = subst (λ (es : List Entry). OwnsOneOfEach maxima (replay g es) w) (take-length h) (always (length h)) in
        let parts : (h ++ take (n - length h) between) ++ drop (n - length h) between ≡ h ++ between =
        append_assoc h (take (n - length h) between) (drop (n - length h) between) ∙ ap (λ (es : List Entry). h ++ es) (take-append-drop (n - length h) between) in
        let lawful_front : Lawful g (h ++ take (n - length h) between) = lawful-front g (h ++ take (n - length h) between) (drop (n - length h) between) (subst (Lawful g) (sym parts) lawful) in
        let same : SameFor w (replay g h) (replay g (h ++ take (n - length h) between)) = same_by_own g h (take (n - length h) between) w lawful_front (none_in_front w (n - length h) between none) in
        subst (λ (es : List Entry). OwnsOneOfEach maxima (replay g es) w) (sym front)
        (λ service a b of_a of_b own_a own_b. whole service a b of_a of_b (sym (same.owns a) ∙ own_a) (sym (same.owns b) ∙ own_b))

take_none : (n : ℕ) → take {A = Entry} n [] ≡ []
take_none zero = refl
take_none (suc n) = refl

-- nor does an entry after which it is so
pub always_push : (maxima : List ℕ) (g : GraphView) (h : List Entry) (e : Entry) (w : WorkerId) → AlwaysOneOfEach maxima g h w → OwnsOneOfEach maxima (replay g (h ++ e ∷ [])) w → AlwaysOneOfEach maxima g (h ++ e ∷ []) w
always_push maxima g h e w always last n = at (cases_lt (length h) n)
  where
    at : (length h < n) ⊎ (n ≤ length h) → OwnsOneOfEach maxima (prefix_state g (h ++ e ∷ []) n) w
    at (inr low) = subst (λ (es : List Entry). OwnsOneOfEach maxima (replay g es) w) (sym (take-append-le n h (e ∷ []) low)) (always n)
    at (inl high) =
        let j : ℕ = n - suc (length h) in
        let is : length h + suc (n - suc (length h)) ≡ n = omega (arith, high) in
        let front : take n (h ++ e ∷ []) ≡ h ++ e ∷ [] =
        ap (λ (m : ℕ). take m (h ++ e ∷ [])) (sym is) ∙ take-append-add h (e ∷ []) (suc (n - suc (length h))) ∙ ap (λ (es : List Entry). h ++ e ∷ es) (take_none (n - suc (length h))) in
        subst (λ (es : List Entry). OwnsOneOfEach maxima (replay g es) w) (sym front) last

-- before any entry a worker that has nothing owns no lock
pub can_run_at_first : (maxima : List ℕ) (s : Sight) → HasTheLocks maxima s.seen.graph → HoldsNothing s → s.seen.history ≡ [] → s.seen.state ≡ opening_of s.seen.graph → CanRun maxima s
can_run_at_first maxima s locks rests none at_first = record {
  locks = locks;
  rests = rests;
  sound = record { lawful = subst (Lawful s.seen.graph) (sym none) tt; replays = at_first ∙ ap (λ (h : List Entry). replay s.seen.graph h) (sym none) };
  always = λ n. subst (λ (h : List Entry). OwnsOneOfEach maxima (prefix_state s.seen.graph h n) s.worker) (sym none)
      (subst (λ (h : List Entry). OwnsOneOfEach maxima (replay s.seen.graph h) s.worker) (sym (take_none n))
      (subst (λ (t : StateView). OwnsOneOfEach maxima t s.worker) at_first (owns_none_of maxima s.seen.state s.worker rests.locks)));
}
