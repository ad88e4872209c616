-- What a call of `next` gives of changes.
use Rattle.std.proofs.Common.{◌≡◌, List, [], ◌∷◌, ◌++◌, Option, Some, None, append_assoc, append-nil, sym, ap, ◌∙◌, subst}
use Rattle.std.specs.Iterator.{YieldsFirst}
use Rattle.lock_journal.specs.Names.{Change, changes_left}
use Rattle.lock_journal.specs.declared.shown_changes.Changes.{Changes}

-- the first of those that were left
pub next_change : (s t : Changes) (r : Option Change) (x : Change) → r ≡ Some x → YieldsFirst changes_left s r t → changes_left s ≡ x ∷ changes_left t
next_change s t r x is steps = subst (λ (o : Option Change). YieldsFirst changes_left s o t) is steps

-- none, where none was left
pub no_change : (s t : Changes) (r : Option Change) → r ≡ None → YieldsFirst changes_left s r t → changes_left s ≡ []
no_change s t r is steps = (subst (λ (o : Option Change). YieldsFirst changes_left s o t) is steps).0

-- those so far, with one more
pub one_more : (all before : List Change) (s t : Changes) (r : Option Change) (x : Change) → all ≡ before ++ changes_left s → r ≡ Some x → YieldsFirst changes_left s r t
    → all ≡ (before ++ x ∷ []) ++ changes_left t
one_more all before s t r x so_far is steps =
    so_far ∙ ap (λ (cs : List Change). before ++ cs) (next_change s t r x is steps) ∙ sym (append_assoc before (x ∷ []) (changes_left t))

-- those so far are all
pub all_given : (all before : List Change) (s t : Changes) (r : Option Change) → all ≡ before ++ changes_left s → r ≡ None → YieldsFirst changes_left s r t → all ≡ before
all_given all before s t r so_far is steps = so_far ∙ ap (λ (cs : List Change). before ++ cs) (no_change s t r is steps) ∙ append-nil before
