-- Segments in turn are one history.
use Rattle.std.proofs.Common.{◌≡◌, ℕ, ◌+◌, ◌≤◌, List, [], ◌∷◌, ◌++◌, length, take, drop, sym, ◌∙◌, ap, arith}
use Rattle.std.specs.List.{All}
use Rattle.std.proofs.lemmas.List.{append_assoc, drop-append-le, drop-drop, length-append, length-drop, take-append-drop, take-append-le}
use Rattle.std.proofs.lemmas.List.Elements.{All-head, All-tail}
use Rattle.std.proofs.Math.Seq.{take-length}
use Rattle.lock_journal.specs.Names.{GraphView, opening_of, Entry, replay, replay_from, BookView, GivesTo, SegmentView}
use Rattle.lock_journal.specs.Giving.{AreInTurn, IsCutFrom, joined}
use Rattle.lock_journal.proofs.lemmas.Replays.{replay_from-append}

-- what the history has from n entries on
joined_from : (h : List Entry) (n : ℕ) (ss : List SegmentView) → AreInTurn n ss → All (IsCutFrom h) ss → joined ss ++ drop (n + length (joined ss)) h ≡ drop n h
joined_from h n [] turn cuts = let none : n + 0 ≡ n = omega arith in ap (λ m. drop m h) none
joined_from h n (s ∷ ss) turn cuts =
    let k : ℕ = length s.entries in
    let cut : s.entries ≡ take k (drop s.before h) = All-head (IsCutFrom h) s ss cuts in
    let mine : s.entries ≡ take k (drop n h) = cut ∙ ap (λ m. take k (drop m h)) turn.0 in
    let end : n + length (s.entries ++ joined ss) ≡ n + k + length (joined ss) = omega (arith, length-append s.entries (joined ss)) in
    append_assoc s.entries (joined ss) (drop (n + length (s.entries ++ joined ss)) h)
    ∙ ap (λ m. s.entries ++ (joined ss ++ drop m h)) end
    ∙ ap (λ es. s.entries ++ es) (joined_from h (n + k) ss turn.1 (All-tail (IsCutFrom h) s ss cuts))
    ∙ ap (λ es. es ++ drop (n + k) h) mine
    ∙ ap (λ es. take k (drop n h) ++ es) (sym (drop-drop k n h))
    ∙ take-append-drop k (drop n h)

pub joined_whole : (h : List Entry) (ss : List SegmentView) → AreInTurn 0 ss → All (IsCutFrom h) ss → joined ss ++ drop (length (joined ss)) h ≡ h
joined_whole h ss turn cuts =
    let same : length (joined ss) ≡ 0 + length (joined ss) = omega arith in
    ap (λ m. joined ss ++ drop m h) same ∙ joined_from h 0 ss turn cuts

pub replayed_in_turn : (g : GraphView) (h : List Entry) (ss : List SegmentView) → AreInTurn 0 ss → All (IsCutFrom h) ss
    → replay_from (replay g (joined ss)) (drop (length (joined ss)) h) ≡ replay g h
replayed_in_turn g h ss turn cuts = sym (replay_from-append (opening_of g) (joined ss) (drop (length (joined ss)) h)) ∙ ap (replay g) (joined_whole h ss turn cuts)

pub cut_later : (h later : List Entry) (s : SegmentView) → s.before + length s.entries ≤ length h → IsCutFrom h s → IsCutFrom (h ++ later) s
cut_later h later s within cut =
    let k : ℕ = length s.entries in
    let long : k ≤ length (drop s.before h) = omega (arith, within, length-drop s.before h) in
    cut ∙ sym (ap (take k) (drop-append-le s.before h later (omega (arith, within))) ∙ take-append-le k (drop s.before h) later long)

pub given_cut : (old new : BookView) (s s' : SegmentView) → GivesTo old new s s' → IsCutFrom new.history s'
given_cut old new s s' gives =
    let same : drop s'.before new.history ≡ s'.entries =
    ap (λ n. drop n new.history) gives.before ∙ ap (drop old.given) gives.history ∙ sym gives.entries in
    sym (take-length s'.entries) ∙ ap (take (length s'.entries)) (sym same)

pub given_turn : (old new : BookView) (s s' : SegmentView) → GivesTo old new s s' → old.given ≤ length old.history → new.given ≡ s'.before + length s'.entries
given_turn old new s s' gives within = omega (arith, within, gives.given, gives.before, ap length gives.entries, length-drop old.given old.history)
