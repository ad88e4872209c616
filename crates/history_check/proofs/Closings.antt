-- The closings of a history, entry by entry.
use Rattle.std.proofs.Common.{◌≡◌, ℕ, suc, ◌+◌, ◌<◌, List, [], ◌∷◌, ◌++◌, length, take, drop, get_or, Option, Some, None, sym, ap, subst, ◌∙◌, append-nil}
use Rattle.std.specs.Prelude.{slice_get}
use Rattle.std.proofs.Math.Seq.{drop-cons}
use Rattle.std.proofs.lemmas.Grind.{flat_map-append}
use Rattle.std.proofs.lemmas.List.{take_more, take-append-drop}
use Rattle.std.proofs.lemmas.Option.{slice_get_within, get_or_from_slice_get}
use Rattle.lock_journal.specs.Names.{GraphView, StateView, opening_of, Change, Allowed, IsKindOf, Lawful, lawful_from, Entry, effect, replay_from}
use Rattle.lock_journal.specs.Names.{Closed, Kind, Start, Skip, Submit, Park, Resume, Claim, Close, Block, Unblock, End, Acquire, HandBack, closed_in}
use Rattle.history_check.specs.Truth.{ClosesBehind, closing_at, closings_in}

-- a history about one of its entries
pub parts : (es : List Entry) (n : ℕ) (e : Entry) → slice_get es n ≡ Some e → es ≡ take n es ++ e ∷ drop (suc n) es
parts es n e is =
    let within : n < length es = slice_get_within es n e is in
    sym (take-append-drop n es) ∙ ap (λ xs. take n es ++ xs) (drop-cons es n e within ∙ ap (λ x. x ∷ drop (suc n) es) (get_or_from_slice_get es n e e is))

pub one_more : (es : List Entry) (n : ℕ) (e : Entry) → slice_get es n ≡ Some e → closings_in (take (n + 1) es) ≡ closings_in (take n es) ++ closing_at e
one_more es n e is =
    let more : take (n + 1) es ≡ take n es ++ e ∷ [] = take_more es n e (slice_get_within es n e is) ∙ ap (λ x. take n es ++ x ∷ []) (get_or_from_slice_get es n e e is) in
    ap closings_in more ∙ (flat_map-append closing_at (take n es) (e ∷ []) ∙ ap (λ ds. closings_in (take n es) ++ ds) (append-nil (closing_at e)))

-- an entry that closes nothing adds nothing
pub none_more : (es : List Entry) (n : ℕ) (e : Entry) → slice_get es n ≡ Some e → closing_at e ≡ [] → closings_in (take (n + 1) es) ≡ closings_in (take n es)
none_more es n e is none = one_more es n e is ∙ (ap (λ ds. closings_in (take n es) ++ ds) none ∙ append-nil (closings_in (take n es)))

pub closed_more : (es : List Entry) (n : ℕ) (e : Entry) (d : Closed) → slice_get es n ≡ Some e → closing_at e ≡ d ∷ [] → closings_in (take (n + 1) es) ≡ closings_in (take n es) ++ d ∷ []
closed_more es n e d is one = one_more es n e is ∙ ap (λ ds. closings_in (take n es) ++ ds) one

pub closes_there : (es : List Entry) (n : ℕ) (e : Entry) (d : Closed) → slice_get es n ≡ Some e → closing_at e ≡ d ∷ [] → ClosesBehind es (take n es) d
closes_there es n e d is one = record { entry = e; behind = drop (suc n) es; is = parts es n e is; closes = one }

-- ---- the units are the graph's

head_is : (c d : Closed) → c ∷ [] ≡ d ∷ [] → c ≡ d
head_is c d e = ap (λ ds. get_or ds 0 c) e

closes_one_of : (g : GraphView) (changes : Option (List Change)) (k : Kind) (d : Closed) → IsKindOf g k → closed_in changes k ≡ d ∷ [] → d.unit < g.units
closes_one_of g None k d fits is = absurd (cc is)
closes_one_of g (Some cs) (Close c) d fits is = subst (λ (x : Closed). x.unit < g.units) (head_is c d is) fits.0
closes_one_of g (Some cs) (Unblock (Some c)) d fits is = subst (λ (x : Closed). x.unit < g.units) (head_is c d is) fits.0
closes_one_of g (Some cs) (Unblock None) d fits is = absurd (cc is)
closes_one_of g (Some cs) (Start t) d fits is = absurd (cc is)
closes_one_of g (Some cs) (Skip t) d fits is = absurd (cc is)
closes_one_of g (Some cs) (Submit a) d fits is = absurd (cc is)
closes_one_of g (Some cs) (Park a) d fits is = absurd (cc is)
closes_one_of g (Some cs) (Resume a) d fits is = absurd (cc is)
closes_one_of g (Some cs) (Claim u) d fits is = absurd (cc is)
closes_one_of g (Some cs) (Block u) d fits is = absurd (cc is)
closes_one_of g (Some cs) (End t) d fits is = absurd (cc is)
closes_one_of g (Some cs) Acquire d fits is = absurd (cc is)
closes_one_of g (Some cs) HandBack d fits is = absurd (cc is)

allowed_behind : (g : GraphView) (s : StateView) (front : List Entry) (e : Entry) (behind : List Entry) → lawful_from g s (front ++ e ∷ behind) → Allowed g (replay_from s front) e
allowed_behind g s [] e behind lawful = lawful.0
allowed_behind g s (x ∷ front) e behind lawful = allowed_behind g (effect s x) front e behind lawful.1

-- a lawful history closes units of its graph
pub closes_unit : (g : GraphView) (es : List Entry) (n : ℕ) (e : Entry) (d : Closed) → Lawful g es → slice_get es n ≡ Some e → closing_at e ≡ d ∷ [] → d.unit < g.units
closes_unit g es n e d lawful is one =
    let allowed = allowed_behind g (opening_of g) (take n es) e (drop (suc n) es) (subst (Lawful g) (parts es n e is) lawful) in
    closes_one_of g e.changes e.kind d allowed.kind one
