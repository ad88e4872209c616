-- Where all items of an action have ended, and what its worker waits for then.
use Rattle.std.proofs.Common.{◌≡◌, ℕ, Bool, true, List, [], ◌∷◌, ◌++◌, Option, None, Some, refl, sym, ap, ◌∙◌, subst}
use Rattle.std.specs.Prelude.{is_none}
use Rattle.std.specs.List.{list_all}
use Rattle.std.proofs.lemmas.Bool.{and_from, and_parts, false≢true}
use Rattle.lock_journal.specs.Names.{GraphView, items_of, StateView, mark_of, Mark, Waiting, Queued, Running, Passed, Failed, Skipped, MarkId, UnitOf}
use Rattle.lock_journal.specs.Names.{IsDisabled, BookView, Entry, replay, Lawful, has_ended, Resume, IsEnded}
use Rattle.lock_journal.proofs.lemmas.Growing.{marks_stay}
use Rattle.worker_choices.specs.NextSteps.{first_open}
use Rattle.coordination.specs.Names.{Finds, IsSoundBook, HasLooked, IsAnswered}
use Rattle.coordination.specs.declared.rule.Sight.{Sight}
use Rattle.async_tracker.specs.ParkedView.{ParkedView}
use Rattle.async_tracker.specs.Shows.{IsFree, IsParkedBy}
use Rattle.async_tracker.proofs.lemmas.Resumed.{none_open, waits_to_take}
use Rattle.single_steps.specs.Waits.{CannotResume, IsFirstOpen}

none_from : {X : Type 0} (o : Option X) → is_none o ≡ true → o ≡ None
none_from None is = refl
none_from (Some x) is = absurd (false≢true is)

ended_is : (m : Mark) → has_ended m ≡ true → IsEnded m
ended_is Passed h = tt
ended_is Failed h = tt
ended_is Skipped h = tt
ended_is Waiting h = absurd (false≢true h)
ended_is Queued h = absurd (false≢true h)
ended_is (Running v) h = absurd (false≢true h)

all_on : {X : Type 0} (p q : X → Bool) → ((x : X) → p x ≡ true → q x ≡ true) → (xs : List X) → list_all p xs ≡ true → list_all q xs ≡ true
all_on p q f [] h = refl
all_on p q f (x ∷ xs) h = let parts = and_parts _ _ h in and_from _ _ (f x parts.0) (all_on p q f xs parts.1)

-- a mark that has ended in what the pass saw is the same in every book that is found
ended_found : (old : Sight) (book : BookView) (m : MarkId) → IsSoundBook old.seen → Finds old.worker old.seen book → has_ended (mark_of old.seen.state m) ≡ true → has_ended (mark_of book.state m) ≡ true
ended_found old book m sound found h =
    let g : GraphView = old.seen.graph in
    let between : List Entry = found.agrees.between in
    let lawful : Lawful g (old.seen.history ++ between) = subst (Lawful g) found.agrees.history (subst (λ (k : GraphView). Lawful k book.history) found.agrees.graph found.sound.lawful) in
    let now : book.state ≡ replay g (old.seen.history ++ between) = found.sound.replays ∙ (λ i. replay (found.agrees.graph i) (found.agrees.history i)) in
    let ended : has_ended (mark_of (replay g old.seen.history) m) ≡ true = ap (λ (s : StateView). has_ended (mark_of s m)) (sym sound.replays) ∙ h in
    ap (λ (s : StateView). has_ended (mark_of s m)) now ∙ (ap has_ended (marks_stay g old.seen.history between m lawful (ended_is _ ended)) ∙ ended)

pub none_open_found : (old : Sight) (book : BookView) (a : ℕ) → IsSoundBook old.seen → Finds old.worker old.seen book → first_open old.seen.graph old.seen.state a ≡ None → first_open book.graph book.state a ≡ None
none_open_found old book a sound found none =
    let before : list_all (λ u. has_ended (mark_of old.seen.state (UnitOf u))) (items_of old.seen.graph a) ≡ true = sym (none_open _ (items_of old.seen.graph a)) ∙ ap is_none none in
    let after : list_all (λ u. has_ended (mark_of book.state (UnitOf u))) (items_of old.seen.graph a) ≡ true =
    all_on (λ u. has_ended (mark_of old.seen.state (UnitOf u))) (λ u. has_ended (mark_of book.state (UnitOf u))) (λ u h. ended_found old book (UnitOf u) sound found h) (items_of old.seen.graph a) before in
    subst (λ (g : GraphView). first_open g book.state a ≡ None) (sym found.agrees.graph) (none_from _ (none_open _ (items_of old.seen.graph a) ∙ after))

pub looked_none : {old new : Sight} (a : ℕ) → IsSoundBook old.seen → first_open old.seen.graph old.seen.state a ≡ None → HasLooked old new → IsAnswered (IsFirstOpen a) None old new
looked_none {old} a sound none looked = record { book = looked.book; found = looked.found; answer = sym (none_open_found old looked.book a sound looked.found none); sight = looked.sight }

pub cannot_resume : (old : Sight) (book : BookView) (p : ParkedView) → IsSoundBook old.seen → Finds old.worker old.seen book → IsParkedBy old p → IsFree old → first_open old.seen.graph old.seen.state p.action ≡ None
    → IsDisabled (Resume p.action) book.graph old.worker book.state → CannotResume p.action book.graph old.worker book.state
cannot_resume old book p sound found by free none disabled =
    let open_none : first_open book.graph book.state p.action ≡ None = none_open_found old book p.action sound found none in
    (open_none, waits_to_take old book p found by free open_none disabled)
