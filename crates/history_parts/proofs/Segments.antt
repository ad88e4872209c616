-- The lines of a history's segments in turn are lines of the history.
use Rattle.std.proofs.Common.{◌≡◌, ℕ, ◌+◌, Bool, Option, List, [], ◌∷◌, ◌++◌, length, drop, sym, ap, ◌∙◌, append_assoc, length-append, arith}
use Rattle.std.specs.List.{All, flat_map}
use Rattle.std.proofs.lemmas.List.{drop-drop, take-append-drop}
use Rattle.std.proofs.lemmas.List.Elements.{All-head, All-tail}
use Rattle.lock_journal.specs.Names.{Entry, SegmentView}
use Rattle.lock_journal.specs.Giving.{AreInTurn, IsCutFrom, joined}
use Rattle.history_text.specs.Text.{end_text, entry_text, head_text, history_text, numbered, segment_lines}
use Rattle.history_text.proofs.lemmas.Numbering.{numbered-append}

-- the lines of the entries behind the first n
abbrev lines_behind : List Entry → ℕ → List ℕ
lines_behind h n = numbered entry_text (n + 1) (drop n h)

-- a segment's lines, and those behind them
cut_lines : (h : List Entry) (s : SegmentView) → IsCutFrom h s → segment_lines s ++ lines_behind h (s.before + length s.entries) ≡ lines_behind h s.before
cut_lines h s cut =
    let n = s.before in
    let k = length s.entries in
    let whole : s.entries ++ drop (n + k) h ≡ drop n h =
    ap (λ (es : List Entry). s.entries ++ es) (sym (drop-drop k n h)) ∙ (ap (λ (es : List Entry). es ++ drop k (drop n h)) cut ∙ take-append-drop k (drop n h)) in
    let number : n + k + 1 ≡ n + 1 + k = omega arith in
    ap (λ m. segment_lines s ++ numbered entry_text m (drop (n + k) h)) number
    ∙ (sym (numbered-append entry_text (n + 1) s.entries (drop (n + k) h)) ∙ ap (numbered entry_text (n + 1)) whole)

lines_from : (h : List Entry) (ss : List SegmentView) (n : ℕ) → AreInTurn n ss → All (IsCutFrom h) ss → flat_map segment_lines ss ++ lines_behind h (n + length (joined ss)) ≡ lines_behind h n
lines_from h [] n turn cuts = let same : n + 0 ≡ n = omega arith in ap (lines_behind h) same
lines_from h (s ∷ ss) n turn cuts =
    let k = length s.entries in
    let long : n + length (joined (s ∷ ss)) ≡ n + k + length (joined ss) = omega (arith, length-append s.entries (joined ss)) in
    ap (λ m. flat_map segment_lines (s ∷ ss) ++ lines_behind h m) long
    ∙ (append_assoc (segment_lines s) (flat_map segment_lines ss) (lines_behind h (n + k + length (joined ss)))
    ∙ (ap (λ l. segment_lines s ++ l) (lines_from h ss (n + k) turn.1 (All-tail (IsCutFrom h) s ss cuts))
    ∙ (ap (λ m. segment_lines s ++ lines_behind h (m + k)) (sym turn.0) ∙ (cut_lines h s (All-head (IsCutFrom h) s ss cuts) ∙ ap (lines_behind h) turn.0))))

module _ (h : List Entry) (ss : List SegmentView) (turn : AreInTurn 0 ss) (cuts : All (IsCutFrom h) ss) where
  pub lines_in_turn : flat_map segment_lines ss ++ numbered entry_text (length (joined ss) + 1) (drop (length (joined ss)) h) ≡ numbered entry_text 1 h
  lines_in_turn = let same : length (joined ss) ≡ 0 + length (joined ss) = omega arith in ap (λ m. flat_map segment_lines ss ++ lines_behind h m) same ∙ lines_from h ss 0 turn cuts

  pub text_in_turn : (workers max_leases : ℕ) (parallel : Bool) (locks : Option ℕ)
      → head_text workers max_leases parallel locks ++ flat_map segment_lines ss ++ numbered entry_text (length (joined ss) + 1) (drop (length (joined ss)) h) ++ end_text (length h) ≡ history_text workers max_leases parallel locks h
  text_in_turn workers max_leases parallel locks =
      let head = head_text workers max_leases parallel locks in
      ap (λ l. l ++ end_text (length h)) (append_assoc head (flat_map segment_lines ss) (lines_behind h (length (joined ss))) ∙ ap (λ l. head ++ l) lines_in_turn)
