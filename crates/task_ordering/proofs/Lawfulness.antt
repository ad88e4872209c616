-- Entries are admitted one by one.
use Rattle.std.proofs.Common.{◌≡◌, ◌+◌, ◌≤◌, ℕ, List, [], ◌∷◌, ◌++◌, cond, true, false, None, Some, length, take, ap, refl, sym, subst, ◌∙◌}
use Rattle.std.specs.Prelude.{slice_get}
use Rattle.std.proofs.lemmas.List.{take_all, take_more}
use Rattle.std.proofs.lemmas.Option.{slice_get_within, get_or_from_slice_get}
use Rattle.lock_journal.specs.Names.{GraphView, StateView, Allowed, Lawful, Entry, entry, replay, HasAdmitted, IsRefused, BookView, changes_left}
use Rattle.lock_journal.specs.Shown.{entry_shown}
use Rattle.lock_journal.specs.declared.shown_entries.Shown.{Shown}
use Rattle.task_ordering.specs.Entries.{IsFirstUnlawful}

-- a finished entry is its worker's and kind's, with its changes
pub shown_finished : (s : Shown) → s.failed ≡ false → entry s.worker s.kind (Some (changes_left s.changes)) ≡ entry_shown s
shown_finished s finished = ap (λ b. entry s.worker s.kind (cond b None (Some (changes_left s.changes)))) (sym finished)

pub shown_failed : (s : Shown) → s.failed ≡ true → entry s.worker s.kind None ≡ entry_shown s
shown_failed s failed = ap (λ b. entry s.worker s.kind (cond b None (Some (changes_left s.changes)))) (sym failed)

module _ (es : List Entry) (k : ℕ) where
  one_more : (e : Entry) → slice_get es k ≡ Some e → take (k + 1) es ≡ take k es ++ e ∷ []
  one_more e at =
      let lt = slice_get_within es k e at in
      take_more es k e lt ∙ ap (λ x. take k es ++ x ∷ []) (get_or_from_slice_get es k e e at)

  -- the entry at the place k
  module _ (s : Shown) (at : slice_get es k ≡ Some (entry_shown s)) (old new : BookView) (before : old.history ≡ take k es) where
    pub admitted_next : HasAdmitted old new (entry_shown s) → new.history ≡ take (k + 1) es
    admitted_next h = h.history ∙ ap (λ x. x ++ entry_shown s ∷ []) before ∙ sym (one_more (entry_shown s) at)

    module _ (g : GraphView) (graph : old.graph ≡ g) (replays : old.state ≡ replay old.graph old.history) where
      leads_to : old.state ≡ replay g (take k es)
      leads_to = replays ∙ ap (replay old.graph) before ∙ ap (λ (x : GraphView). replay x (take k es)) graph

      pub first_refused : Lawful old.graph old.history → IsRefused old new (entry_shown s) → IsFirstUnlawful g es (k + 1)
      first_refused lawful r = record {
        place = k;
        number = refl;
        entry = entry_shown s;
        at = at;
        lawful = subst (λ (x : GraphView). Lawful x (take k es)) graph (subst (λ (h : List Entry). Lawful old.graph h) before lawful);
        refused = λ allowed. r.not_allowed
            (subst (λ (x : StateView). Allowed old.graph x (entry_shown s)) (sym leads_to) (subst (λ (x : GraphView). Allowed x (replay g (take k es)) (entry_shown s)) (sym graph) allowed));
      }

  pub all_lawful : (g : GraphView) (b : BookView) → b.graph ≡ g → b.history ≡ take k es → length es ≤ k → Lawful b.graph b.history → Lawful g es
  all_lawful g b graph before end lawful =
      subst (λ (h : List Entry). Lawful g h) (before ∙ take_all k es end) (subst (λ (x : GraphView). Lawful x b.history) graph lawful)
