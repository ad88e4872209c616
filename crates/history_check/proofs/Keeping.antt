-- What admits entries, by what a book or a state under change says.
use Rattle.std.proofs.Common.{◌≡◌, ℕ, List, [], ◌∷◌, length, length-append, Some, ap, ◌∙◌}
use Rattle.lock_journal.specs.Names.{GraphView, StateView, opening_of, Entry, TentativeView, BookView, HasAdmitted, IsRefused}
use Rattle.lock_journal.specs.BookView.{SameBook}
use Rattle.history_check.specs.AdmitterView.{AdmitterView, Admits, IsOpened, Refuses, book_admits}
use Rattle.history_check.specs.Reached.{reached_view}

pub book_opened : (g : GraphView) (b : BookView) → b.graph ≡ g → b.state ≡ opening_of g → b.history ≡ [] → IsOpened g (book_admits b)
book_opened g b graph state none = record { graph = graph; state = state; entries = ap length none; kept = none }

pub book_admitted : (old new : BookView) (e : Entry) → HasAdmitted old new e → Admits (book_admits old) (book_admits new) e
book_admitted old new e a = record {
  graph = a.graph;
  allowed = a.allowed;
  state = a.state;
  entries = ap length a.history ∙ length-append old.history (e ∷ []);
  kept = ap (λ es. Some es) a.history;
}

abbrev kept_as : GraphView → StateView → List Entry → AdmitterView
kept_as g s es = record { graph = g; state = s; entries = length es; kept = Some es }

same_kept : (old new : BookView) → new.graph ≡ old.graph → new.state ≡ old.state → new.history ≡ old.history → book_admits new ≡ book_admits old
same_kept old new graph state history =
    ap (λ (g : GraphView). kept_as g new.state new.history) graph
    ∙ (ap (λ (s : StateView). kept_as old.graph s new.history) state ∙ ap (λ (es : List Entry). kept_as old.graph old.state es) history)

pub book_refused : (old new : BookView) (e : Entry) → IsRefused old new e → Refuses (book_admits old) (book_admits new) e
book_refused old new e r = record { refused = r.not_allowed; same = same_kept old new r.graph r.state r.history }

pub book_same : (old new : BookView) → SameBook old new → book_admits new ≡ book_admits old
book_same old new same = same_kept old new same.graph same.state same.history

-- a state that is as before shows the same
pub reached_same : (t u : TentativeView) (n : ℕ) → u.graph ≡ t.graph → u.state ≡ t.state → reached_view u n ≡ reached_view t n
reached_same t u n graph state =
    ap (λ (g : GraphView). reached_view (record u { graph = g }) n) graph ∙ ap (λ (s : StateView). reached_view (record u { graph = t.graph; state = s }) n) state
