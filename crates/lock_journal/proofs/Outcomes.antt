-- A unit's outcome after one more entry.
use Rattle.std.proofs.Common.{◌≡◌, ℕ, List, [], ◌∷◌, ◌++◌, refl, sym, ◌∙◌, ap, append_assoc}
use Rattle.std.proofs.lemmas.List.{append-nil}
use Rattle.item_actions.specs.declared.outcomes.Outcome.{Outcome}
use Rattle.item_actions.specs.declared.outcomes.Outcome.TheVariants as outcomes
use Rattle.lock_journal.specs.Names.{Entry, closing_of, where_finished, closings, last_or, outcome_in}

pub last_or-append : (o : Outcome) (ps qs : List Outcome) → last_or o (ps ++ qs) ≡ last_or (last_or o ps) qs
last_or-append o [] qs = refl
last_or-append o (p ∷ ps) qs = last_or-append p ps qs

pub closings-push : (h : List Entry) (e : Entry) (u : ℕ) → closings (h ++ e ∷ []) u ≡ closings h u ++ where_finished e.changes (closing_of u e.kind)
closings-push [] e u = append-nil (where_finished e.changes (closing_of u e.kind))
closings-push (f ∷ h) e u =
    ap (λ os. where_finished f.changes (closing_of u f.kind) ++ os) (closings-push h e u)
    ∙ sym (append_assoc (where_finished f.changes (closing_of u f.kind)) (closings h u) (where_finished e.changes (closing_of u e.kind)))

pub outcome_in-push : (h : List Entry) (e : Entry) (u : ℕ) → outcome_in (h ++ e ∷ []) u ≡ last_or (outcome_in h u) (where_finished e.changes (closing_of u e.kind))
outcome_in-push h e u =
    ap (last_or outcomes.Skipped) (closings-push h e u)
    ∙ last_or-append outcomes.Skipped (closings h u) (where_finished e.changes (closing_of u e.kind))
