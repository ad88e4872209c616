-- A book that is run, and its history, which is shown.
use Rattle.std.proofs.Common.{◌≡◌, ◌-◌, Option, None, Some, IfSome, List, [], ◌∷◌, ◌++◌, length, take, refl, ap, sym, ◌∙◌, arith, length-append}
use Rattle.lock_journal.specs.Names.{Entry, replay, BookView}
use Rattle.history_views.specs.Growing.{IsLater, ReachView, last_book}
use Rattle.history_views.specs.ShownBooks.{IsOnStage, IsTaken, IsUnchanged, SameHistory}

-- a book with one entry more goes on from what was shown
pub goes_on : (shown old new : BookView) (e : Entry) → SameHistory shown old → new.graph ≡ old.graph → new.history ≡ old.history ++ e ∷ [] → IsLater shown new
goes_on shown old new e same graph history = record {
  graph = graph ∙ same.graph;
  history = (e ∷ [], ap (λ h. h ++ e ∷ []) (sym same.history) ∙ sym history);
}

take_whole : (h more : List Entry) → take (length h) (h ++ more) ≡ h
take_whole [] more = refl
take_whole (x ∷ h) more = ap (λ l. x ∷ l) (take_whole h more)

take_push : (h : List Entry) (e : Entry) → take (length (h ++ e ∷ []) - 1) (h ++ e ∷ []) ≡ h
take_push h e =
    let n : length (h ++ e ∷ []) - 1 ≡ length h = omega (arith, length-append h (e ∷ [])) in
    ap (λ k. take k (h ++ e ∷ [])) n ∙ take_whole h (e ∷ [])

-- a book whose new entry was taken back is as before
pub as_before : (old mid new : BookView) (e : Entry) → old.state ≡ replay old.graph old.history → mid.graph ≡ old.graph → mid.history ≡ old.history ++ e ∷ [] → IsTaken mid new → IsUnchanged old new
as_before old mid new e replays graph history taken =
    let back : take (length mid.history - 1) mid.history ≡ old.history = ap (λ h. take (length h - 1) h) history ∙ take_push old.history e in record {
      graph = taken.graph ∙ graph;
      state = taken.state ∙ ((λ i. replay (graph i) (back i)) ∙ sym replays);
      history = taken.history ∙ back;
    }

pub still_same : (shown old new : BookView) → SameHistory shown old → new.graph ≡ old.graph → new.history ≡ old.history → SameHistory shown new
still_same shown old new same graph history = record { graph = graph ∙ same.graph; history = history ∙ same.history }

-- the same where there is a stage, or none
pub goes_on_stage : (stage : Option ReachView) (old new : BookView) (e : Entry) → IsOnStage stage old → new.graph ≡ old.graph → new.history ≡ old.history ++ e ∷ [] → IfSome stage (λ s. IsLater (last_book s.log) new)
goes_on_stage None old new e on graph history = tt
goes_on_stage (Some s) old new e on graph history = goes_on (last_book s.log) old new e on graph history

pub still_on_stage : (stage : Option ReachView) (old new : BookView) → IsOnStage stage old → new.graph ≡ old.graph → new.history ≡ old.history → IsOnStage stage new
still_on_stage None old new on graph history = tt
still_on_stage (Some s) old new on graph history = still_same (last_book s.log) old new on graph history
