-- A tick for each entry, whose title is the entry's line.
use Rattle.std.specs.Prelude.{ℕ, ◌+◌, ◌-◌, ◌/◌, ◌%◌, nat_le, max, List, [], ◌++◌, codes, decimal, is_some, if◌then◌else◌}
use Rattle.lock_journal.specs.Names.{Entry, Kind, Skip}
use Rattle.history_text.specs.Text.{kind_text, effect_text}
use Rattle.picture_layout.specs.Layout.{x_of, row_y, rows_of}
use Rattle.run_picture.specs.Shapes.{number_words, rect_begin}
use Rattle.picture_layout.specs.declared.layout.Layout.{Layout}
use Rattle.run_picture.specs.declared.shapes.Area.{Area}

-- the line of an entry, without its end
unfoldable pub line_of : ℕ → Entry → List ℕ
line_of n e = decimal n ++ number_words (codes " w") e.worker.0 ++ (codes " " ++ kind_text e.kind) ++ codes " | " ++ effect_text e.changes

-- what one is told where one points at it
abbrev pub line_title : ℕ → Entry → List ℕ
line_title n e = codes "><title>" ++ line_of n e ++ codes "</title>"

abbrev pub tick_area : Layout → ℕ → ℕ → Area
tick_area f n w = record { x = x_of f n; y = row_y f w + (rows_of f.workers).tick_y; width = max (f.per / 2) 1; height = (rows_of f.workers).tick_height }

abbrev pub tick_bar : Area → ℕ → Entry → List ℕ
tick_bar a n e = rect_begin (codes "t") a ++ line_title n e ++ codes "</rect>\n"

abbrev pub cross_at : ℕ → ℕ → ℕ → Entry → List ℕ
cross_at x y n e =
    number_words (codes "<path class=\"s\" d=\"M") x ++ number_words (codes " ") y
    ++ codes "l6 6m0-6l-6 6\"" ++ line_title n e ++ codes "</path>\n"

-- where the entry failed
unfoldable pub cross_text : Layout → ℕ → Entry → List ℕ
cross_text f n e = cross_at (x_of f n) (row_y f e.worker.0 + (rows_of f.workers).lane_y + (rows_of f.workers).lane_height / 2 - 3) n e

-- skips beside each other lie apart: where an entry has no room for a gap, every other one begins lower
abbrev pub skip_step : Layout → ℕ → ℕ
skip_step f n = if nat_le f.per 1 then n % 2 else 0

abbrev pub skip_area : Layout → ℕ → ℕ → Area
skip_area f n w = record {
  x = x_of f n;
  y = row_y f w + (rows_of f.workers).task_y + skip_step f n;
  width = max (f.per - 1) 1;
  height = (rows_of f.workers).task_height - skip_step f n;
}

abbrev pub skip_bar : Area → ℕ → ℕ → ℕ → List ℕ
skip_bar a n w t =
    rect_begin (codes "n") a ++ number_words (codes "><title>task ") t ++ number_words (codes " is skipped by w") w
    ++ number_words (codes ", entry ") n ++ codes "</title></rect>\n"

-- where the entry skips a task
abbrev pub skip_where : Layout → ℕ → ℕ → Kind → List ℕ
skip_where f n w (Skip t) = skip_bar (skip_area f n w) n w t
skip_where f n w _ = []

-- what an entry shows beside its tick: a finished one, and one that failed
abbrev pub more_marks : Layout → ℕ → Entry → List ℕ
more_marks f n e = if is_some e.changes then skip_where f n e.worker.0 e.kind else cross_text f n e

abbrev pub marks_of : Layout → ℕ → Entry → List ℕ
marks_of f n e = tick_bar (tick_area f n e.worker.0) n e ++ more_marks f n e
