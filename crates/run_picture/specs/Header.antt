-- The head of a picture.
use Rattle.std.specs.Prelude.{ℕ, ◌/◌, ◌%◌, nat_eq, Bool, Option, List, [], ◌++◌, codes, decimal, if◌then◌else◌}
use Rattle.history_text.specs.Text.{locks_text, parallel_text}
use Rattle.run_picture.specs.Shapes.{number_words}
use Rattle.run_picture.specs.declared.header.Totals.{Totals}

-- a number, and a word that gets an s but for one
abbrev pub many_text : ℕ → List ℕ → List ℕ
many_text n word = decimal n ++ word ++ (if nat_eq n 1 then [] else codes "s")

abbrev pub size_text : List ℕ → ℕ → List ℕ → ℕ → List ℕ
size_text word width between height = number_words word width ++ number_words between height

unfoldable pub opening_text : ℕ → ℕ → List ℕ
opening_text width height =
    size_text (codes "<svg xmlns=\"http://www.w3.org/2000/svg\" viewBox=\"0 0 ") width (codes " ") height
    ++ size_text (codes "\" width=\"") width (codes "\" height=\"") height
    ++ codes "\" font-family=\"DejaVu Sans, Verdana, Arial, sans-serif\">\n"
    ++ size_text (codes "<rect class=\"z\" width=\"") width (codes "\" height=\"") height ++ codes "\"/>\n"

unfoldable pub desc_text : ℕ → ℕ → Bool → Option ℕ → List ℕ
desc_text workers max_leases parallel locks =
    number_words (codes "<desc>workers ") workers ++ number_words (codes " max ") max_leases
    ++ codes " parallel " ++ parallel_text parallel ++ locks_text locks ++ codes "</desc>\n"

unfoldable pub title_text : ℕ → ℕ → ℕ → List ℕ
title_text workers max_leases count =
    codes "<text class=\"title\" x=\"8\" y=\"25\">" ++ many_text workers (codes " worker") ++ codes ", at most " ++ many_text max_leases (codes " lease")
    ++ number_words (codes ", ") count ++ codes " entries</text>\n"

-- hundredths as a decimal fraction of two places
abbrev pub average_text : ℕ → List ℕ
average_text h = decimal (h / 100) ++ codes "." ++ decimal (h / 10 % 10) ++ decimal (h % 10)

unfoldable pub second_text : Totals → List ℕ
second_text t =
    number_words (codes "<text class=\"second\" x=\"8\" y=\"42\">tasks: ") t.passed ++ number_words (codes " passed, ") t.failed
    ++ number_words (codes " failed, ") t.skipped ++ number_words (codes " skipped.  units: ") t.units
    ++ number_words (codes " worked on, ") t.failed_units ++ codes " failed.  leases out: " ++ average_text t.hundredths
    ++ codes " on average.  Colours say who, shapes say what.  The axis counts entries: a history has no times.</text>\n"
