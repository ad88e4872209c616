-- The whole picture, as a function of the history.
use Rattle.std.specs.Prelude.{ℕ, ◌≡◌, ◌≤◌, ◌<◌, ◌^◌, ◌⊎◌, Result, Ok, Err, Option, Some, None, ◌+◌, ◌-◌, ◌*◌, ◌/◌, nat_le, nat_lt, max}
use Rattle.std.specs.Prelude.{List, [], ◌∷◌, ◌++◌, length}
use Rattle.std.specs.Prelude.{take, drop, codes, decimal}
use Rattle.std.specs.Prelude.{count_by, if◌then◌else◌}
use Rattle.std.specs.List.{flat_map}
use Rattle.file_access.specs.SinkView.{SinkView, Wrote, Broke}
use Rattle.lock_journal.specs.Names.{Passed, Failed, Entry}
use Rattle.history_text.specs.Text.{numbered}
use Rattle.history_text.specs.HistoryView.{HistoryView}
use Rattle.run_spans.specs.Levels.{levels_of, nothing_out}
use Rattle.run_spans.specs.Spans.{spans_of}
use Rattle.run_spans.specs.declared.levels.Level.{Level}
use Rattle.run_spans.specs.declared.spans.Span.{Span}
use Rattle.run_picture.specs.Axis.{axis_text, worker_rows_text}
use Rattle.run_picture.specs.Curve.{curve_text}
use Rattle.picture_layout.specs.Layout.{rows_bottom, right_of}
use Rattle.run_picture.specs.Header.{opening_text, desc_text, title_text, second_text}
use Rattle.run_picture.specs.Layers.{bars_text}
use Rattle.run_picture.specs.LockRows.{lock_rows_text}
use Rattle.run_picture.specs.Overview.{overview_text}
use Rattle.picture_layout.specs.Overview.{RunView, run_of}
use Rattle.picture_layout.specs.Panels.{PanelView, format_of, panels_of, height_of}
use Rattle.run_picture.specs.Shapes.{number_words, text_begin, down}
use Rattle.run_picture.specs.Ticks.{marks_of}
use Rattle.picture_layout.specs.Totals.{is_task, is_unit, ended_with, skips, peaks_of, total_out}
use Rattle.run_picture.specs.declared.picture.DrawFail.{DrawFail}
use Rattle.run_picture.specs.declared.picture.DrawFail.TheVariants.{NoMemory, SinkFault, TooLarge, NoWorker}
use Rattle.picture_layout.specs.declared.layout.Format.{Format}
use Rattle.picture_layout.specs.declared.layout.Layout.{Layout}
use Rattle.run_picture.specs.declared.header.Totals.{Totals}
use Rattle.run_picture.specs.declared.style.TheConstants.{CLASSES, PATTERNS, LEGEND}

-- those of a panel, of one for each entry
abbrev pub within : {X : Type 0} → Layout → List X → List X
within f xs = take (f.behind - f.first) (drop (f.first - 1) xs)

-- the average of so many numbers with this total, in hundredths
abbrev pub average_of : ℕ → ℕ → ℕ
average_of total count = (total * 200 + max count 1) / (2 * max count 1)

abbrev pub totals_of : HistoryView → List Level → List Span → Totals
totals_of h levels spans = record {
  passed = count_by (λ s. is_task s Passed) spans;
  failed = count_by (λ s. is_task s Failed) spans;
  skipped = count_by skips h.entries;
  units = count_by is_unit spans;
  failed_units = count_by (λ s. ended_with s Failed) spans;
  hundredths = average_of (total_out levels) (length levels);
}

unfoldable pub style_text : List ℕ
style_text = CLASSES.now ++ PATTERNS.now

unfoldable pub legend_text : List ℕ
legend_text = LEGEND.now

-- how wide a picture is whose plot has a width
abbrev pub width_of : ℕ → ℕ
width_of plot = 76 + plot + 14

unfoldable pub head_text : HistoryView → ℕ → ℕ → Totals → List ℕ
head_text h plot height totals =
    opening_text (width_of plot) height ++ desc_text h.workers h.max h.parallel h.locks ++ style_text
    ++ title_text h.workers h.max (length h.entries) ++ second_text totals ++ legend_text

abbrev pub heading_text : ℕ → Layout → List ℕ
heading_text n f =
    text_begin (codes "w") 8 (f.top - 15) ++ decimal n ++ number_words (codes ": entries ") f.first
    ++ number_words (codes " to ") (f.behind - 1) ++ codes "</text>\n"

-- where there are several panels, each has a heading
abbrev pub heading_where : ℕ → ℕ → Layout → List ℕ
heading_where count n f = if nat_lt 1 count then heading_text n f else []

unfoldable pub panel_curve : ℕ → List Level → Layout → List ℕ
panel_curve max_leases levels f = curve_text f max_leases (peaks_of levels) (within f levels)

-- the line where a panel ends
unfoldable pub edge_text : Layout → List ℕ
edge_text f = down (codes "o") (right_of f) f.top (rows_bottom f)

abbrev pub panel_text : HistoryView → List Level → PanelView → List ℕ
panel_text h levels p =
    axis_text p.layout ++ panel_curve h.max levels p.layout ++ worker_rows_text p.layout
    ++ bars_text p.layout h.entries p.shown ++ lock_rows_text p ++ edge_text p.layout

abbrev pub panel_with_heading : HistoryView → List Level → ℕ → ℕ → PanelView → List ℕ
panel_with_heading h levels count n p = heading_where count n p.layout ++ panel_text h levels p

abbrev pub panels_text : HistoryView → List Level → List PanelView → List ℕ
panels_text h levels ps = numbered (panel_with_heading h levels (length ps)) 1 ps

-- a tick for each entry of each panel, and with it what the entry itself shows
abbrev pub ticks_of : HistoryView → PanelView → List ℕ
ticks_of h p = numbered (marks_of p.layout) p.layout.first (within p.layout h.entries)

-- the whole run by what it shows, where there are several panels
unfoldable pub run_text : HistoryView → List Level → List PanelView → RunView → List ℕ
run_text h levels ps v = overview_text h.workers h.max (peaks_of levels) (length h.entries) ps v

abbrev pub whole_by : HistoryView → List Level → List PanelView → RunView → List ℕ
whole_by h levels ps v = if nat_lt 1 (length ps) then run_text h levels ps v else []

abbrev pub whole_text : HistoryView → List Level → List Span → List PanelView → List ℕ
whole_text h levels spans ps = whole_by h levels ps (run_of h.workers (peaks_of levels) levels spans (length h.entries))

abbrev pub svg_text : HistoryView → Format → List Level → List Span → List PanelView → List ℕ
svg_text h t levels spans ps =
    head_text h t.plot (height_of ps) (totals_of h levels spans) ++ whole_text h levels spans ps ++ panels_text h levels ps
    ++ codes "<g>\n" ++ flat_map (ticks_of h) ps ++ codes "</g>\n</svg>\n"

abbrev pub format_in : HistoryView → Format
format_in h = format_of h.workers (spans_of h.entries) (length h.entries)

abbrev pub panels_in : HistoryView → List PanelView
panels_in h = panels_of h.workers (spans_of h.entries) (length h.entries)

abbrev pub picture_text : HistoryView → List ℕ
picture_text h = svg_text h (format_in h) (levels_of nothing_out h.entries) (spans_of h.entries) (panels_in h)

-- the number of the first entry of a worker that the head doesn't have, of entries that are numbered from n on
abbrev pub stray_from : ℕ → ℕ → List Entry → Option ℕ
stray_from workers n [] = None
stray_from workers n (e ∷ es) = if nat_le workers e.worker.0 then Some n else stray_from workers (n + 1) es

-- it has fewer entries, each of a worker that has a row, and its picture is less high
pub record IsDrawable (h : HistoryView) : Type 0 where
  pub few : length h.entries < 2 ^ 30
  pub rows : stray_from h.workers 1 h.entries ≡ None
  pub low : height_of (panels_in h) < 2 ^ 32

abbrev pub IsTooLarge : HistoryView → Type 0
IsTooLarge h = (2 ^ 30 ≤ length h.entries) ⊎ (2 ^ 32 ≤ height_of (panels_in h))

-- what drawing a history answers, and did
abbrev pub IsDrawn : HistoryView → SinkView → SinkView → Result (Unit {0}) DrawFail → Type 0
IsDrawn h old new (Ok _) = IsDrawable h × Wrote old new (picture_text h)
IsDrawn h old new (Err SinkFault) = IsDrawable h × Broke old new (picture_text h)
IsDrawn h old new (Err TooLarge) = IsTooLarge h × (new ≡ old)
IsDrawn h old new (Err (NoWorker n)) = (stray_from h.workers 1 h.entries ≡ Some n) × (new ≡ old)
IsDrawn h old new (Err NoMemory) = new ≡ old
