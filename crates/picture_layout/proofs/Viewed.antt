-- The formats are tried one after another.
use Rattle.std.proofs.Common.{◌≡◌, ◌<◌, ℕ, ◌+◌, Bool, true, false, cond, List, length, get_or, drop, sym, ap, ◌∙◌}
use Rattle.std.specs.Prelude.{nat_lt}
use Rattle.std.proofs.lemmas.List.{at_drop_more}
use Rattle.run_spans.specs.declared.spans.Span.{Span}
use Rattle.picture_layout.specs.Panels.{panels_in_format, format_from, height_of}
use Rattle.picture_layout.specs.declared.layout.Format.{Format}
use Rattle.picture_layout.specs.declared.panels.TheConstants.{VIEWED}

here : (ts : List Format) (i : ℕ) (d : Format) (workers : ℕ) (spans : List Span) (count : ℕ) (b : Bool) → i < length ts → b ≡ nat_lt (height_of (panels_in_format (get_or ts i d) workers spans count)) VIEWED
    → format_from (drop i ts) workers spans count ≡ cond b (get_or ts i d) (format_from (drop (i + 1) ts) workers spans count)
here ts i d workers spans count b within viewed =
    at_drop_more (λ l. format_from l workers spans count) ts i d within
    ∙ ap (λ c. cond c (get_or ts i d) (format_from (drop (i + 1) ts) workers spans count)) (sym viewed)

-- one whose picture is low enough is taken
pub taken : (ts : List Format) (i : ℕ) (d : Format) (workers : ℕ) (spans : List Span) (count : ℕ) (b : Bool) → i < length ts → b ≡ nat_lt (height_of (panels_in_format (get_or ts i d) workers spans count)) VIEWED
    → b ≡ true → get_or ts i d ≡ format_from (drop i ts) workers spans count
taken ts i d workers spans count b within viewed low =
    sym (here ts i d workers spans count b within viewed ∙ ap (λ c. cond c (get_or ts i d) (format_from (drop (i + 1) ts) workers spans count)) low)

-- another is passed over
pub passed : (ts : List Format) (i : ℕ) (d : Format) (workers : ℕ) (spans : List Span) (count : ℕ) (b : Bool) → i < length ts → b ≡ nat_lt (height_of (panels_in_format (get_or ts i d) workers spans count)) VIEWED
    → b ≡ false → format_from (drop (i + 1) ts) workers spans count ≡ format_from (drop i ts) workers spans count
passed ts i d workers spans count b within viewed high =
    sym (here ts i d workers spans count b within viewed ∙ ap (λ c. cond c (get_or ts i d) (format_from (drop (i + 1) ts) workers spans count)) high)
