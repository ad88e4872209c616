-- Which histories are drawn.
use Rattle.std.proofs.Common.{◌≡◌, ◌≤◌, ◌<◌, ◌^◌, ℕ, List, length, map, None, sym, ap, ap₂, subst, ◌∙◌, arith, inl, inr}
use Rattle.std.proofs.lemmas.List.{length-map}
use Rattle.history_text.specs.HistoryView.{entry_read, history_view}
use Rattle.history_text.specs.declared.read_histories.History.{History}
use Rattle.run_spans.specs.Spans.{spans_of}
use Rattle.run_spans.specs.declared.spans.Span.{Span}
use Rattle.picture_layout.specs.Panels.{panels_in_format, format_of, panels_of, height_of}
use Rattle.picture_layout.specs.declared.layout.Format.{Format}
use Rattle.run_picture.specs.Picture.{format_in, panels_in, stray_from, IsDrawable, IsTooLarge}

pub same_format : (h : History) (spans : List Span) (count : ℕ) → spans ≡ spans_of (map entry_read h.entries.items) → count ≡ length h.entries.items
    → format_of h.workers spans count ≡ format_in (history_view h)
same_format h spans count is many = ap₂ (λ (ss : List Span) n. format_of h.workers ss n) is (many ∙ sym (length-map h.entries.items entry_read))

same_panels : (h : History) (spans : List Span) (t : Format) (count : ℕ) → spans ≡ spans_of (map entry_read h.entries.items) → count ≡ length h.entries.items
    → t ≡ format_of h.workers spans count → panels_in_format t h.workers spans count ≡ panels_in (history_view h)
same_panels h spans t count is many wide =
    ap (λ (t : Format). panels_in_format t h.workers spans count) wide ∙ ap₂ (λ (ss : List Span) n. panels_of h.workers ss n) is (many ∙ sym (length-map h.entries.items entry_read))

pub drawable : (h : History) (spans : List Span) (t : Format) (count : ℕ) → spans ≡ spans_of (map entry_read h.entries.items) → count ≡ length h.entries.items
    → length h.entries.items < 2 ^ 30 → stray_from h.workers 1 (map entry_read h.entries.items) ≡ None → t ≡ format_of h.workers spans count
    → height_of (panels_in_format t h.workers spans count) < 2 ^ 32 → IsDrawable (history_view h)
drawable h spans t count is many few rows wide low = record {
  few = omega (arith, few, length-map h.entries.items entry_read);
  rows = rows;
  low = subst (λ ps. height_of ps < 2 ^ 32) (same_panels h spans t count is many wide) low;
}

pub too_high : (h : History) (spans : List Span) (t : Format) (count : ℕ) → spans ≡ spans_of (map entry_read h.entries.items) → count ≡ length h.entries.items
    → t ≡ format_of h.workers spans count → 2 ^ 32 ≤ height_of (panels_in_format t h.workers spans count) → IsTooLarge (history_view h)
too_high h spans t count is many wide high = inr (subst (λ ps. 2 ^ 32 ≤ height_of ps) (same_panels h spans t count is many wide) high)

pub too_many : (h : History) → 2 ^ 30 ≤ length h.entries.items → IsTooLarge (history_view h)
too_many h many = inl (omega (arith, many, length-map h.entries.items entry_read))
