-- What stands in a part of a text stands in the text.
use Rattle.std.proofs.Common.{ℕ, ◌+◌, List, [], ◌∷◌, ◌++◌, sym, ap, ◌∙◌, append_assoc, append-nil, codes}
use Rattle.std.specs.List.{AllByRecursion, flat_map}
use Rattle.history_text.specs.HistoryView.{HistoryView}
use Rattle.history_text.specs.Text.{numbered}
use Rattle.run_spans.specs.Levels.{levels_of, nothing_out}
use Rattle.run_spans.specs.Spans.{spans_of}
use Rattle.picture_layout.specs.Panels.{height_of}
use Rattle.run_picture.specs.Laws.{HasPart}
use Rattle.run_picture.specs.Picture.{panels_text, head_text, whole_text, totals_of, ticks_of, picture_text, format_in, panels_in}

pub part_itself : (t : List ℕ) → HasPart t t
part_itself t = record { before = []; behind = []; is = sym (append-nil t) }

pub part_behind : (a : List ℕ) {t part : List ℕ} → HasPart t part → HasPart (a ++ t) part
part_behind a {t} {part} has = record {
  before = a ++ has.before;
  behind = has.behind;
  is =
      ap (λ l. a ++ l) (has.is ∙ append_assoc has.before part has.behind)
      ∙ (sym (append_assoc a has.before (part ++ has.behind)) ∙ sym (append_assoc (a ++ has.before) part has.behind));
}

pub part_before : (b : List ℕ) {t part : List ℕ} → HasPart t part → HasPart (t ++ b) part
part_before b {t} {part} has = record {
  before = has.before;
  behind = has.behind ++ b;
  is = ap (λ l. l ++ b) has.is ∙ append_assoc (has.before ++ part) has.behind b;
}

pub part_within : {t part inner : List ℕ} → HasPart t part → HasPart part inner → HasPart t inner
part_within {t} {part} {inner} has within =
    let there : HasPart (has.before ++ part ++ has.behind) inner = part_before has.behind (part_behind has.before within) in
    record { before = there.before; behind = there.behind; is = has.is ∙ there.is }

-- each line of a list has its part
pub lines_have : {X : Type 0} (line : ℕ → X → List ℕ) (part : X → List ℕ) (n : ℕ) (xs : List X) → ((k : ℕ) (x : X) → HasPart (line k x) (part x))
    → AllByRecursion (λ (x : X). HasPart (numbered line n xs) (part x)) xs
lines_have line part n [] has = tt
lines_have {X} line part n (x ∷ xs) has = (part_before (numbered line (n + 1) xs) (has n x), below xs (lines_have line part (n + 1) xs has))
  where
    below : (ys : List X) → AllByRecursion (λ (y : X). HasPart (numbered line (n + 1) xs) (part y)) ys → AllByRecursion (λ (y : X). HasPart (line n x ++ numbered line (n + 1) xs) (part y)) ys
    below [] all = tt
    below (y ∷ ys) all = (part_behind (line n x) all.0, below ys all.1)

-- the panels of a picture stand in it
pub panels_in_picture : (h : HistoryView) → HasPart (picture_text h) (panels_text h (levels_of nothing_out h.entries) (panels_in h))
panels_in_picture h =
    let levels = levels_of nothing_out h.entries in
    let spans = spans_of h.entries in
    let ps = panels_in h in
    part_before (codes "</g>\n</svg>\n") (part_before (flat_map (ticks_of h) ps) (part_before (codes "<g>\n")
    (part_behind (head_text h (format_in h).plot (height_of ps) (totals_of h levels spans) ++ whole_text h levels spans ps) (part_itself (panels_text h levels ps)))))
