-- Books of one history, one after another.
use Rattle.std.proofs.Common.{◌≡◌, ◌<◌, ◌≤◌, ℕ, nat_lt, true, false, List, [], ◌∷◌, ◌++◌, length, refl, ap, sym, ◌∙◌, subst, arith, append_assoc, length-append}
use Rattle.std.specs.List.{All}
use Rattle.std.proofs.lemmas.Bool.Decides.{nat_tests}
use Rattle.std.proofs.lemmas.List.Elements.{All-nil, All-cons, All-head, All-tail, All-push, All-weaker}
use mathlib.Core.List.{IsPrefix}
use Rattle.lock_journal.specs.BookView.{BookView}
use Rattle.history_views.specs.Growing.{IsChain, IsLater, MayFollow, last_book}

begins_self : {A : Type 0} (xs : List A) → IsPrefix xs xs
begins_self [] = ([], refl)
begins_self (x ∷ xs) = let r = begins_self xs in (r.0, ap (λ l. x ∷ l) r.1)

begins_then : {A : Type 0} (xs ys zs : List A) → IsPrefix xs ys → IsPrefix ys zs → IsPrefix xs zs
begins_then xs ys zs p q = (p.0 ++ q.0, sym (append_assoc xs p.0 q.0) ∙ (ap (λ l. l ++ q.0) p.1 ∙ q.1))

-- of two beginnings of one list the shorter begins the longer
begins_longer : {A : Type 0} (xs ys zs : List A) → IsPrefix xs zs → IsPrefix ys zs → length xs ≤ length ys → IsPrefix xs ys
begins_longer [] ys zs p q le = (ys, refl)
begins_longer (x ∷ xs) [] zs p q le = absurd (omega arith)
begins_longer (x ∷ xs) (y ∷ ys) [] p q le = absurd (cc (p.1))
begins_longer (x ∷ xs) (y ∷ ys) (z ∷ zs) p q le =
    let same : x ≡ y = cc (p.1, q.1) in
    let rest = begins_longer xs ys zs (p.0, cc (p.1)) (q.0, cc (q.1)) (omega arith) in
    (rest.0, cc (same, rest.1))

-- a beginning as long as the whole is the whole
pub is_whole : {A : Type 0} (xs ys : List A) → IsPrefix xs ys → length ys ≤ length xs → xs ≡ ys
is_whole [] [] p le = refl
is_whole [] (y ∷ ys) p le = absurd (omega arith)
is_whole (x ∷ xs) [] p le = absurd (cc (p.1))
is_whole (x ∷ xs) (y ∷ ys) p le =
    let rest = is_whole xs ys (p.0, cc (p.1)) (omega arith) in cc (p.1, rest)

pub later_self : (b : BookView) → IsLater b b
later_self b = record { graph = refl; history = begins_self b.history }

pub later_then : (a b c : BookView) → IsLater a b → IsLater b c → IsLater a c
later_then a b c p q = record { graph = q.graph ∙ p.graph; history = begins_then a.history b.history c.history p.history q.history }

-- of two beginnings of a book the one with no more entries begins the other
later_of : (a b top : BookView) → IsLater a top → IsLater b top → length a.history ≤ length b.history → IsLater a b
later_of a b top p q le = record { graph = sym q.graph ∙ p.graph; history = begins_longer a.history b.history top.history p.history q.history le }

all_begin : (P : BookView → Type 0) (xs ys : List BookView) → IsPrefix xs ys → All P ys → All P xs
all_begin P [] ys p all = All-nil P
all_begin P (x ∷ xs) [] p all = absurd (cc (p.1))
all_begin P (x ∷ xs) (y ∷ ys) p all =
    let same : y ≡ x = cc (p.1) in
    All-cons P x xs (subst P same (All-head P y ys all)) (all_begin P xs ys (p.0, cc (p.1)) (All-tail P y ys all))

-- what is so of all is so of the last
last_in : (P : BookView → Type 0) (log : List BookView) → 0 < length log → All P log → P (last_book log)
last_in P [] some all = absurd (omega arith)
last_in P (b ∷ []) some all = All-head P b [] all
last_in P (b ∷ c ∷ bs) some all = last_in P (c ∷ bs) (omega arith) (All-tail P b (c ∷ bs) all)

pub last_push : (log : List BookView) (b : BookView) → last_book (log ++ b ∷ []) ≡ b
last_push [] b = refl
last_push (x ∷ []) b = refl
last_push (x ∷ y ∷ log) b = last_push (y ∷ log) b

pub some_push : (log : List BookView) (b : BookView) → 0 < length (log ++ b ∷ [])
some_push log b = omega (arith, length-append log (b ∷ []))

-- a book that may follow goes behind the others
pub follow_push : (log : List BookView) (b : BookView) → MayFollow log b → MayFollow (log ++ b ∷ []) b
follow_push log b may = All-push (λ c. IsLater c b) log b may (later_self b)

pub chain_push : (log : List BookView) (b : BookView) → MayFollow log b → IsChain (log ++ b ∷ [])
chain_push log b may = subst (MayFollow (log ++ b ∷ [])) (sym (last_push log b)) (follow_push log b may)

-- what goes on from the last one goes on from all
pub follows_last : (log : List BookView) (b : BookView) → IsChain log → IsLater (last_book log) b → MayFollow log b
follows_last log b chain later = All-weaker (λ c. IsLater c (last_book log)) (λ c. IsLater c b) (λ c h. later_then c (last_book log) b h later) log chain

-- of what two know of one ledger, the one with no more entries begins the other
pub reaches : (a b both : List BookView) → 0 < length a → 0 < length b → IsPrefix a both → IsPrefix b both → IsChain both
    → length (last_book a).history ≤ length (last_book b).history → IsLater (last_book a) (last_book b)
reaches a b both some_a some_b first second chain le =
    let P : BookView → Type 0 = λ c. IsLater c (last_book both) in
    later_of (last_book a) (last_book b) (last_book both) (last_in P a some_a (all_begin P a both first chain)) (last_in P b some_b (all_begin P b both second chain)) le

pub below : (m n : ℕ) → nat_lt m n ≡ true → m ≤ n
below m n is = let less : m < n = grind (arith, nat_tests) in omega (arith, less)

pub not_below : (m n : ℕ) → nat_lt m n ≡ false → n ≤ m
not_below m n is = grind (arith, nat_tests)
