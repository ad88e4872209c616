-- Honest closings agree with the answers.
use Rattle.std.proofs.Common.{◌≡◌, ℕ, ◌==◌, ◌⊎◌, true, false, cond, List, [], ◌∷◌, ◌++◌, Option, Some, None, refl, sym, ap, ◌∙◌, subst, inl, inr}
use Rattle.std.specs.List.{AllByRecursion}
use Rattle.std.proofs.lemmas.Bool.{cases_Bool, eqb-true, eq-eqb}
use Rattle.lock_journal.specs.Names.{Change, WorkerId, Closed, Kind, Close, Unblock, closing_of, where_finished, closings, Entry, answers}
use Rattle.lock_journal.specs.Names.{IsHonestWorker, closed_of, closed_in, closed_by, GivesClosedOutcomes}
use Rattle.item_actions.specs.declared.outcomes.Outcome.{Outcome}
use Rattle.item_actions.specs.declared.outcomes.Outcome.TheVariants.{Fault, NoMemory}
use Rattle.item_actions.specs.Value.{IsHonest}
use Rattle.lock_journal.specs.Answers.{answer_by}
use Rattle.lock_journal.proofs.Ranges.{each-append}

-- each closed unit was closed honestly
abbrev pub AreHonest : (ℕ → Outcome) → List Entry → Type 0
AreHonest value h = (u : ℕ) (o : Outcome) → closings h u ≡ o ∷ [] → IsHonest o (value u)

answer_is : (o value : Outcome) → IsHonest o value → answer_by (o ∷ []) value ≡ o
answer_is Fault value h = refl
answer_is NoMemory value h = refl
answer_is _ value (inl e) = sym e
answer_is _ value (inr (inl e)) = cc e
answer_is _ value (inr (inr e)) = cc e

pub answers_agree : (value : ℕ → Outcome) (h : List Entry) → AreHonest value h → GivesClosedOutcomes (answers value h) h
answers_agree value h honest = λ u o e. ap (λ os. answer_by os (value u)) e ∙ answer_is o (value u) (honest u o e)

left_of : {X : Type 0} (P : X → Type 0) (xs ys : List X) → AllByRecursion P (xs ++ ys) → AllByRecursion P xs
left_of P [] ys h = tt
left_of P (x ∷ xs) ys h = (h.0, left_of P xs ys h.1)

right_of : {X : Type 0} (P : X → Type 0) (xs ys : List X) → AllByRecursion P (xs ++ ys) → AllByRecursion P ys
right_of P [] ys h = h
right_of P (x ∷ xs) ys h = right_of P xs ys h.1

-- one closing
one_closing : (value : ℕ → Outcome) (u : ℕ) (d : Closed) → IsHonest d.outcome (value d.unit) → AllByRecursion (λ o. IsHonest o (value u)) (cond (d.unit == u) (d.outcome ∷ []) [])
one_closing value u d h = at (cases_Bool (d.unit == u))
  where
    at : ((d.unit == u) ≡ true) ⊎ ((d.unit == u) ≡ false) → AllByRecursion (λ o. IsHonest o (value u)) (cond (d.unit == u) (d.outcome ∷ []) [])
    at (inl e) = rw e (subst (λ n. IsHonest d.outcome (value n)) (eqb-true d.unit u e) h, tt)
    at (inr e) = rw e tt

one_kind : (value : ℕ → Outcome) (u : ℕ) (k : Kind) → AllByRecursion (λ d. IsHonest d.outcome (value d.unit)) (closed_of k) → AllByRecursion (λ o. IsHonest o (value u)) (closing_of u k)
one_kind value u (Close d) h = one_closing value u d h.0
one_kind value u (Unblock (Some d)) h = one_closing value u d h.0
one_kind value u _ h = tt

one_entry : (value : ℕ → Outcome) (u : ℕ) (o : Option (List Change)) (k : Kind) → AllByRecursion (λ d. IsHonest d.outcome (value d.unit)) (closed_in o k) → AllByRecursion (λ o. IsHonest o (value u)) (where_finished o (closing_of u k))
one_entry value u None k h = tt
one_entry value u (Some cs) k h = one_kind value u k h

each_closing : (value : ℕ → Outcome) (h : List Entry) (u : ℕ) → ((w : WorkerId) → IsHonestWorker value h w) → AllByRecursion (λ o. IsHonest o (value u)) (closings h u)
each_closing value [] u f = tt
each_closing value (e ∷ h) u f =
    let P : Closed → Type 0 = λ d. IsHonest d.outcome (value d.unit) in
    let own = left_of P (cond (e.worker.0 == e.worker.0) (closed_in e.changes e.kind) []) (closed_by e.worker h) (f e.worker) in
    let own' = subst (λ b. AllByRecursion P (cond b (closed_in e.changes e.kind) [])) (eq-eqb e.worker.0 e.worker.0 refl) own in
    each-append (λ o. IsHonest o (value u)) (where_finished e.changes (closing_of u e.kind)) (closings h u)
    (one_entry value u e.changes e.kind own')
    (each_closing value h u (λ w. right_of P (cond (e.worker.0 == w.0) (closed_in e.changes e.kind) []) (closed_by w h) (f w)))

-- Where each worker is honest, the history is.
pub honest_by_workers : (value : ℕ → Outcome) (h : List Entry) → ((w : WorkerId) → IsHonestWorker value h w) → AreHonest value h
honest_by_workers value h f = λ u o e. (subst (λ os. AllByRecursion (λ o. IsHonest o (value u)) os) e (each_closing value h u f)).0
