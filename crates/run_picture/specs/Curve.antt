-- The curve of leases out, with the queued items over it.
use Rattle.std.specs.Prelude.{ℕ, ◌+◌, ◌-◌, ◌/◌, ◌^◌, nat_le, min, List, ◌++◌, codes, decimal, if◌then◌else◌}
use Rattle.history_text.specs.Text.{numbered}
use Rattle.run_spans.specs.declared.levels.Level.{Level}
use Rattle.picture_layout.specs.Layout.{x_of, right_of, base_of, curve_height}
use Rattle.run_picture.specs.Shapes.{number_words, text_begin, across, label, label_number}
use Rattle.picture_layout.specs.Totals.{queue_scale}
use Rattle.picture_layout.specs.declared.layout.Layout.{Layout}
use Rattle.picture_layout.specs.declared.totals.Peaks.{Peaks}

-- to a height, and over the entry k
abbrev pub stair : Layout → ℕ → ℕ → List ℕ
stair f k height = number_words (codes "V") (base_of f - height) ++ number_words (codes "H") (x_of f (min (k + 1) (2 ^ 64 - 1)))

abbrev pub out_stair : Layout → ℕ → ℕ → Level → List ℕ
out_stair f most k v = stair f k (curve_height v.out most)

abbrev pub queue_stair : Layout → ℕ → ℕ → Level → List ℕ
queue_stair f most k v = stair f k (curve_height v.queued most)

abbrev pub leases_text : Layout → ℕ → List Level → List ℕ
leases_text f most levels =
    number_words (codes "<path class=\"c\" d=\"M76 ") (base_of f) ++ numbered (out_stair f most) f.first levels
    ++ number_words (codes "V") (base_of f) ++ codes "\"><title>leases out after each entry</title></path>\n"

abbrev pub queue_text : Layout → ℕ → ℕ → List Level → List ℕ
queue_text f queued most levels =
    number_words (codes "<path class=\"q\" d=\"M76 ") (base_of f) ++ numbered (queue_stair f most) f.first levels
    ++ number_words (codes "\"><title>items queued after each entry, ") queued ++ codes " at most in the run</title></path>\n"

-- up to where the curve goes, beside the maximum of leases
abbrev pub scale_top : ℕ → ℕ → ℕ → List ℕ
scale_top y out max_leases = text_begin (codes "e") 70 y ++ decimal out ++ number_words (codes " of max ") max_leases ++ codes "</text>\n"

-- a dashed line at the maximum of leases, where the scale reaches so far, and else a line where it ends
abbrev pub max_line : Layout → ℕ → ℕ → List ℕ
max_line f max_leases out =
    if nat_le max_leases out then across (codes "h") 76 (base_of f - curve_height max_leases out) (right_of f)
    else across (codes "f") 76 f.top (right_of f)

abbrev pub scale_text : Layout → ℕ → Peaks → List ℕ
scale_text f max_leases p =
    max_line f max_leases p.out ++ across (codes "o") 76 (base_of f) (right_of f)
    ++ scale_top (f.top + 4) p.out max_leases ++ label (codes "x") 70 (f.top + 22) (codes "leases out")
    ++ label_number (codes "y") 70 (f.top + 36) (codes "queued /") (queue_scale p) ++ label (codes "e") 70 (f.top + 49) (codes "0")

-- by the peaks of the run: no curve is cut
abbrev pub curve_text : Layout → ℕ → Peaks → List Level → List ℕ
curve_text f max_leases p levels = leases_text f p.out levels ++ queue_text f p.queued (queue_scale p) levels ++ scale_text f max_leases p
