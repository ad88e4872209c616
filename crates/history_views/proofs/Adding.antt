-- The exchange that adds a book keeps the rule of the ledger.
use Rattle.std.proofs.Common.{◌≡◌, ℕ, ◌+◌, ◌<◌, ◌==◌, Bool, true, false, List, [], ◌∷◌, ◌++◌, length, refl, ap, sym, subst, arith, inl, length-append, None}
use Rattle.std.proofs.lemmas.List.{append-nil}
use Rattle.std.proofs.lemmas.Bool.Decides.{nat_tests}
use mathlib.Core.List.{IsPrefix}
use prog.Atomic.{either}
use Rattle.logbook.specs.Pages.{Cell, cell, keeps, no_nib, step, Moves, Goes}
use Rattle.lock_journal.specs.BookView.{BookView}
use Rattle.history_views.specs.Growing.{Adds, IsChain, IsKept, MayFollow}
use Rattle.history_views.proofs.Chains.{chain_push, is_whole}

abbrev shown : List BookView → List BookView
shown log = []

abbrev moved : List BookView → List BookView → ℕ → Type 0
moved xs ys n = Unit {0}

goes : (log v : List BookView) (b : BookView) (old : ℕ) → length v ≡ old → MayFollow v b → IsChain log → IsPrefix v log → (found : Bool) → (length log == old) ≡ found
    → Goes IsKept shown moved 0 (v, (no_nib, None)) (λ n. either (n == old) (old + 1) n) (Adds (step 0 old (old + 1) b) (v, (no_nib, None))) ((length log, true) ∷ (0, true) ∷ []) log
goes log v b old long may chain begins true is =
    let here : length log ≡ old = grind (arith, nat_tests) in
    let same : v ≡ log = is_whole v log begins (omega arith) in
    let chain' : IsChain (log ++ b ∷ []) = chain_push log b (subst (λ l. MayFollow l b) same may) in
    let n : either (length log == old) (old + 1) (length log) ≡ length (log ++ b ∷ []) = rw is (omega (arith, length-append log (b ∷ []))) in (
      keeps,
      b ∷ [],
      None,
      tt,
      record { words = ap (λ (k : ℕ). (k, true) ∷ (0, true) ∷ []) n; chain = chain' },
      inl (refl, refl),
      rw is (ap (λ l. l ++ b ∷ []) (sym same)),
    )
goes log v b old long may chain begins false is =
    let all : log ++ [] ≡ log = append-nil log in
    let n : either (length log == old) (old + 1) (length log) ≡ length (log ++ []) = rw is (ap length (sym all)) in (
      keeps,
      [],
      None,
      tt,
      record { words = ap (λ (k : ℕ). (k, true) ∷ (0, true) ∷ []) n; chain = subst IsChain (sym all) chain },
      inl (refl, refl),
      rw is tt,
    )

-- Whatever the ledger is, the exchange adds the book to all that was known, or finds that there are more.
pub adds_it : (v : List BookView) (b : BookView) (old : ℕ) → length v ≡ old → MayFollow v b
    → Moves IsKept shown moved 0 (v, (no_nib, None)) (λ n. either (n == old) (old + 1) n) (Adds (step 0 old (old + 1) b) (v, (no_nib, None)))
adds_it v b old long may cs log kept begins away =
    let P : List Cell → Type 0 = λ c. (0 < length c) × ((cell c 0).1 ≡ true) × Goes IsKept shown moved 0 (v, (no_nib, None)) (λ n. either (n == old) (old + 1) n) (Adds (step 0 old (old + 1) b) (v, (no_nib, None))) c log in
    subst P (sym kept.words) (omega arith, refl, goes log v b old long may kept.chain begins (length log == old) refl)
