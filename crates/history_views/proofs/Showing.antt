-- Each step on the board keeps its rule.
use Rattle.std.proofs.Common.{◌≡◌, ◌≢◌, ℕ, zero, suc, List, [], ◌∷◌, ◌++◌, Option, Some, None, Result, Ok, Err, IsOk, MatchResult, fold, set, refl, sym, ap, ◌∙◌, subst, ⊎_elim, true≢false}
use Rattle.std.specs.List.{All}
use Rattle.std.proofs.lemmas.List.Elements.{All-head, All-tail, All-nil}
use mathlib.Core.Option.{some, some-injective, some-ne-none}
use lib.ListN.{get_elem?}
use Rattle.left_right.specs.Register.{Admits, Forks, Merges, Turns, TurnsAt}
use Rattle.atomic_table.proofs.Lists.{at_set, at_snoc}
use Rattle.logbook.specs.Pages.{Book}
use Rattle.history_views.specs.Boards.{AreOf, IsLast, IsOf, Names, Writes}
use Rattle.history_views.specs.Growing.{ReachView}

-- one that is set, among others
set_of : (r : ReachView) (views : List (Option ReachView)) (id : ℕ) (w : Option ReachView) → AreOf r views → IsOf r.ledger w → AreOf r (set views id w)
set_of r views id w all mine j u e = ⊎_elim (λ (t : (j ≡ id) × (w ≡ u)). subst (IsOf r.ledger) t.1 mine) (λ (t : (j ≢ id) × (get_elem? views j ≡ some u)). all j u t.1) (at_set views id j w u e)

snoc_of : (r : ReachView) (views : List (Option ReachView)) (w : Option ReachView) → AreOf r views → IsOf r.ledger w → AreOf r (views ++ w ∷ [])
snoc_of r views w all mine j u e = ⊎_elim (all j u) (λ (same : w ≡ u). subst (IsOf r.ledger) same mine) (at_snoc views w u j e)

pub admits : Admits AreOf None
admits r views all = snoc_of r views None all tt

moved : (old new : ReachView) (v : Option ReachView) → new.ledger ≡ old.ledger → IsOf old.ledger v → IsOf new.ledger v
moved old new v same = subst (λ l. IsOf l v) (sym same)

-- something else of the ledger is shown
pub shows_it : (id : ℕ) (v : Option ReachView) (x y : ReachView) → y.ledger ≡ x.ledger → TurnsAt AreOf id v x y (λ v x y w. w ≡ Some y)
shows_it id v x y same views all at = (Some y, set_of y views id (Some y) (λ j u e. moved x y u same (all j u e)) refl, refl)

-- whoever knows the ledger reads something of it
pub looks_it : (id : ℕ) (v : Option ReachView) → Turns AreOf id v (λ x. x) (λ v x y w. (w ≡ v) × IsOf y.ledger v)
looks_it id v x views all at = (v, set_of x views id v all (all id v at), (refl, all id v at))

pub tells_it : (id : ℕ) (v : Option ReachView) → Forks AreOf id v v v
tells_it id v x views all at = snoc_of x (set views id v) v (set_of x views id v all (all id v at)) (all id v at)

pub hears_it : (id : ℕ) (v : Option ReachView) (other : ℕ) (w : Option ReachView) → Merges AreOf id v other w w None
hears_it id v other w x views all at apart there =
    let told : IsOf x.ledger w = ⊎_elim (λ (t : (other ≡ id) × (w ≡ w)). absurd (apart t.0)) (λ (t : (other ≢ id) × (get_elem? views other ≡ some w)). all other w t.1) (at_set views id other w w there) in
    set_of x (set views id w) other None (set_of x views id w all told) tt

-- what is shown after operations of the ledger is of it
pub folds_of : (ledger : Book) (x : ReachView) (ops : List ReachView) → x.ledger ≡ ledger → All (λ r. r.ledger ≡ ledger) ops → (fold (λ (s op : ReachView). op) x ops).ledger ≡ ledger
folds_of ledger x [] is all = is
folds_of ledger x (op ∷ ops) is all = folds_of ledger op ops (All-head (λ r. r.ledger ≡ ledger) op ops all) (All-tail (λ r. r.ledger ≡ ledger) op ops all)

-- who knows one ledger and reads one of it reads one of that ledger
pub reads_of : (ledger : Book) (v : Option ReachView) (y : ReachView) → Names ledger v → IsOf y.ledger v → y.ledger ≡ ledger
reads_of ledger None y names is = absurd names
reads_of ledger (Some r) y names is = sym is ∙ names

-- nobody but the writer is there at first, and it doesn't know yet
pub begins_of : (r : ReachView) → AreOf r (None ∷ [])
begins_of r zero v e = subst (IsOf r.ledger) (some-injective None v e) tt
begins_of r (suc j) v e = absurd (some-ne-none v (sym e))

-- the ledger of what is shown next
pub next_of : (ledger : Book) (x next : ReachView) (ops : List ReachView) → x.ledger ≡ ledger → All (λ r. r.ledger ≡ ledger) ops → next ≡ fold (λ (s op : ReachView). op) x ops → next.ledger ≡ ledger
next_of ledger x next ops is all same = ap (λ r. r.ledger) same ∙ folds_of ledger x ops is all

-- a writer after a showing
pub shown_writes : (ledger : Book) (x next : ReachView) (v : Option ReachView) (ops left : List ReachView) → x.ledger ≡ ledger → All (λ r. r.ledger ≡ ledger) ops → next ≡ fold (λ (s op : ReachView). op) x ops → v ≡ Some next → left ≡ []
    → Writes ledger v next left
shown_writes ledger x next v ops left is all same known none =
    let of : next.ledger ≡ ledger = next_of ledger x next ops is all same in record {
      knows = subst (Names ledger) (sym known) of;
      shows = of;
      pending = subst (All (λ r. r.ledger ≡ ledger)) (sym none) (All-nil (λ r. r.ledger ≡ ledger));
    }

pub published : {U E : Type 0} (ledger : Book) (x next : ReachView) (v w : Option ReachView) (ops left : List ReachView) (r : Result U E) → Writes ledger v x ops → IsOk r
    → MatchResult r (λ _. (next ≡ fold (λ (s op : ReachView). op) x ops) × (left ≡ [])) (λ _. (next ≡ x) × (left ≡ ops)) → MatchResult r (λ _. w ≡ Some next) (λ _. w ≡ v) → Writes ledger w next left
published ledger x next v w ops left (Ok u) old ok values rule = shown_writes ledger x next w ops left old.shows old.pending values.0 rule values.1
published ledger x next v w ops left (Err e) old ok values rule = absurd (true≢false (sym ok))

fold_last : (x r : ReachView) (front : List ReachView) → fold (λ (s op : ReachView). op) x (front ++ r ∷ []) ≡ r
fold_last x r [] = refl
fold_last x r (op ∷ ops) = fold_last op r ops

-- what was to be shown last is shown
pub shows_last : {U E : Type 0} (x next r : ReachView) (ops left : List ReachView) (res : Result U E) → IsOk res
    → MatchResult res (λ _. (next ≡ fold (λ (s op : ReachView). op) x ops) × (left ≡ [])) (λ _. (next ≡ x) × (left ≡ ops)) → IsLast r ops → next ≡ r
shows_last x next r ops left (Ok u) ok values last = values.0 ∙ (ap (fold (λ (s op : ReachView). op) x) last.1 ∙ fold_last x r last.0)
shows_last x next r ops left (Err e) ok values last = absurd (true≢false (sym ok))
