-- The curves of a picture show the leases of the states.
use Rattle.std.proofs.Common.{◌≡◌, ◌≤◌, ◌<◌, ℕ, zero, suc, ◌+◌, ◌-◌, ◌*◌, ◌/◌, ◌^◌, List, [], ◌∷◌, ◌++◌, length, take, drop, get_or, refl, sym, ap, ap₂, subst, ◌∙◌, arith, codes, decimal}
use Rattle.std.specs.Prelude.{min, max, All}
use Rattle.std.specs.List.{AllByRecursion}
use Rattle.std.proofs.lemmas.List.{length-take, length-drop, get_or-take, get_or-drop, take_more, take_all}
use Rattle.std.proofs.lemmas.List.Elements.{All-from_recursion}
use Rattle.lock_journal.specs.Names.{Fits, GraphView, StateView, leases_out, Lawful, Entry, prefix_state}
use Rattle.history_text.specs.HistoryView.{HistoryView}
use Rattle.history_text.specs.Text.{numbered}
use Rattle.run_spans.specs.Levels.{levels_of, nothing_out, units_queued}
use Rattle.run_spans.specs.Spans.{spans_of}
use Rattle.run_spans.specs.declared.levels.Level.{Level}
use Rattle.run_spans.specs.declared.spans.Span.{Span}
use Rattle.run_spans.proofs.Counted.{levels_are_leases}
use Rattle.run_spans.proofs.Queued.{levels_are_queued}
use Rattle.run_picture.specs.Axis.{axis_text, worker_rows_text}
use Rattle.run_picture.specs.Curve.{stair, out_stair, queue_stair, leases_text, queue_text, scale_text, curve_text}
use Rattle.run_picture.specs.Layers.{bars_text}
use Rattle.run_picture.specs.Laws.{HasPart, HasCurves, most_of, curve_step, leases_scale, units_scale}
use Rattle.picture_layout.specs.Layout.{scale_of, x_of, rows_bottom, curve_height}
use Rattle.run_picture.specs.LockRows.{lock_rows_text}
use Rattle.picture_layout.specs.Panels.{PanelView, panel_of, panels_from, heading, first_top}
use Rattle.run_picture.specs.Picture.{within, panel_curve, panel_with_heading, panels_text, heading_where, edge_text, picture_text, format_in, panels_in, IsDrawable}
use Rattle.picture_layout.specs.Totals.{most_out, most_queued, peaks_of, queue_scale}
use Rattle.picture_layout.specs.declared.layout.Layout.{Layout}
use Rattle.picture_layout.specs.declared.totals.Peaks.{Peaks}
use Rattle.picture_layout.proofs.Levels.{levels_long}
use Rattle.run_picture.proofs.Parts.{part_itself, part_before, part_behind, part_within, lines_have, panels_in_picture}

-- the texts of a list's numbers are those of its members where each is
numbered_alike : {X Y : Type 0} (f : ℕ → X → List ℕ) (g : ℕ → List ℕ) (n : ℕ) (xs : List X) (ys : List Y) (x : X) → length xs ≡ length ys
    → ((i : ℕ) → i < length xs → f (n + i) (get_or xs i x) ≡ g (n + i)) → numbered f n xs ≡ numbered (λ k (y : Y). g k) n ys
numbered_alike f g n [] [] x long same = refl
numbered_alike f g n [] (b ∷ ys) x long same = absurd (omega (arith, long))
numbered_alike f g n (a ∷ xs) [] x long same = absurd (omega (arith, long))
numbered_alike f g n (a ∷ xs) (b ∷ ys) x long same =
    let here : n + 0 ≡ n = omega arith in
    ap₂ (λ s t. s ++ t) (sym (ap (λ k. f k a) here) ∙ (same 0 (omega arith) ∙ ap g here))
    (numbered_alike f g (n + 1) xs ys x (omega (arith, long)) (λ i less.
    let next : n + 1 + i ≡ n + suc i = omega arith in
    ap (λ k. f k (get_or xs i x)) next ∙ (same (suc i) (omega (arith, less)) ∙ sym (ap g next))))

-- a panel's entries are entries of the run
abbrev IsWithin : Layout → ℕ → Type 0
IsWithin f end = (1 ≤ f.first) × (f.first ≤ f.behind) × (f.behind ≤ end)

-- what is counted after each entry is what its state has
abbrev Counts : GraphView → List Entry → (Level → ℕ) → (StateView → ℕ) → Type 0
Counts g es field count = (k : ℕ) → k < length es → field (get_or (levels_of nothing_out es) k nothing_out) ≡ count (prefix_state g es (k + 1))

steps_same : (g : GraphView) (es : List Entry) (field : Level → ℕ) (count : StateView → ℕ) (f : Layout) (most : ℕ) → Counts g es field count → length es < 2 ^ 30 → IsWithin f (length es + 1)
    → numbered (λ k v. stair f k (curve_height (field v) most)) f.first (within f (levels_of nothing_out es)) ≡ numbered (λ k (e : Entry). curve_step count g es f most k) f.first (within f es)
steps_same g es field count f most counts few inside =
    let levels = levels_of nothing_out es in
    let long : length levels ≡ length es = levels_long nothing_out es in
    let number = f.behind - f.first in
    let one = length-take number (drop (f.first - 1) levels) in
    let two = length-take number (drop (f.first - 1) es) in
    let three = length-drop (f.first - 1) levels in
    let four = length-drop (f.first - 1) es in
    numbered_alike (λ k (v : Level). stair f k (curve_height (field v) most)) (curve_step count g es f most) f.first (within f levels) (within f es) nothing_out (omega (arith, one, two, three, four, long)) (λ i less.
    let k = f.first + i in
    let short : i < number = omega (arith, less, one) in
    let place : f.first - 1 + i < length es = omega (arith, less, one, three, long) in
    let read : get_or (within f levels) i nothing_out ≡ get_or levels (f.first - 1 + i) nothing_out =
    get_or-take number (drop (f.first - 1) levels) i nothing_out short ∙ get_or-drop (f.first - 1) levels i nothing_out in
    let number_is : f.first - 1 + i + 1 ≡ k = omega (arith, inside.0) in
    let counted : field (get_or (within f levels) i nothing_out) ≡ count (prefix_state g es k) =
    ap field read ∙ (counts (f.first - 1 + i) place ∙ ap (λ n. count (prefix_state g es n)) number_is) in
    let far : min (k + 1) (2 ^ 64 - 1) ≡ k + 1 = omega (arith, place, few, inside.0) in
    ap₂ (λ (o m : ℕ). codes "V" ++ decimal (f.top + 48 - 48 * min o most / most) ++ (codes "H" ++ decimal (x_of f m))) counted far)

-- the most of what is counted
leases_more : (vs : List Level) (v : Level) → most_out (vs ++ v ∷ []) ≡ max (most_out vs) v.out
leases_more [] v = omega arith
leases_more (w ∷ vs) v = let rest = leases_more vs v in omega (arith, rest)

units_more : (vs : List Level) (v : Level) → most_queued (vs ++ v ∷ []) ≡ max (most_queued vs) v.queued
units_more [] v = omega arith
units_more (w ∷ vs) v = let rest = units_more vs v in omega (arith, rest)

most_up_to : (g : GraphView) (es : List Entry) (field : Level → ℕ) (count : StateView → ℕ) (most : List Level → ℕ) → Counts g es field count → most [] ≡ 0
    → ((vs : List Level) (v : Level) → most (vs ++ v ∷ []) ≡ max (most vs) (field v)) → (k : ℕ) → k ≤ length es → most (take k (levels_of nothing_out es)) ≡ most_of count g es k
most_up_to g es field count most counts none more zero within = none
most_up_to g es field count most counts none more (suc k) within =
    let levels = levels_of nothing_out es in
    let last = get_or levels k nothing_out in
    let at : suc k ≡ k + 1 = omega arith in
    let front : take (k + 1) levels ≡ take k levels ++ last ∷ [] = take_more levels k nothing_out (omega (arith, within, levels_long nothing_out es)) in
    let counted : field last ≡ count (prefix_state g es (suc k)) = counts k (omega (arith, within)) ∙ ap (λ n. count (prefix_state g es n)) (sym at) in
    ap (λ n. most (take n levels)) at ∙ (ap most front ∙ (more (take k levels) last
    ∙ ap₂ (λ (a b : ℕ). max a b) (most_up_to g es field count most counts none more k (omega (arith, within))) counted))

most_is : (g : GraphView) (es : List Entry) (field : Level → ℕ) (count : StateView → ℕ) (most : List Level → ℕ) → Counts g es field count → most [] ≡ 0
    → ((vs : List Level) (v : Level) → most (vs ++ v ∷ []) ≡ max (most vs) (field v)) → most (levels_of nothing_out es) ≡ most_of count g es (length es)
most_is g es field count most counts none more =
    let levels = levels_of nothing_out es in
    let all : take (length es) levels ≡ levels = take_all (length es) levels (omega (arith, levels_long nothing_out es)) in
    ap most (sym all) ∙ most_up_to g es field count most counts none more (length es) (omega arith)

leases_counted : (g : GraphView) (es : List Entry) → Fits g → Lawful g es → Counts g es (λ v. v.out) leases_out
leases_counted g es fits lawful k within = levels_are_leases g es k fits lawful within

units_counted : (g : GraphView) (es : List Entry) → Fits g → Lawful g es → Counts g es (λ v. v.queued) units_queued
units_counted g es fits lawful k within = levels_are_queued g es k fits lawful within

leases_scale_is : (g : GraphView) (es : List Entry) → Fits g → Lawful g es → (peaks_of (levels_of nothing_out es)).out ≡ leases_scale g es
leases_scale_is g es fits lawful = ap (λ (n : ℕ). max n 1) (most_is g es (λ v. v.out) leases_out most_out (leases_counted g es fits lawful) refl leases_more)

units_scale_is : (g : GraphView) (es : List Entry) → Fits g → Lawful g es → queue_scale (peaks_of (levels_of nothing_out es)) ≡ units_scale g es
units_scale_is g es fits lawful =
    ap₂ (λ (a b : ℕ). max a b) (leases_scale_is g es fits lawful) (most_is g es (λ v. v.queued) units_queued most_queued (units_counted g es fits lawful) refl units_more)

-- the panels of a picture
panels_within : (n workers : ℕ) (s : _) (spans : List Span) (end gap first top : ℕ) → 1 ≤ first → first ≤ end
    → AllByRecursion (λ (p : PanelView). IsWithin p.layout end) (panels_from n workers s spans end gap first top)
panels_within zero workers s spans end gap first top some less = tt
panels_within (suc n) workers s spans end gap first top some less =
    let behind = min (first + s.size) end in
    let next = rows_bottom (panel_of workers s spans first behind top).layout + gap in
    let inside : IsWithin (panel_of workers s spans first behind top).layout end = (some, omega (arith, less), omega arith) in
    (inside, panels_within n workers s spans end gap behind next (omega (arith, some, less)) (omega arith))

-- the curves that a panel draws stand in it
curves_in_panel : (h : HistoryView) (levels : List Level) (count n : ℕ) (p : PanelView)
    → HasPart (panel_with_heading h levels count n p) (curve_text p.layout h.max (peaks_of levels) (within p.layout levels))
unfolding panel_curve
curves_in_panel h levels count n p =
    part_behind (heading_where count n p.layout)
    (part_before (edge_text p.layout) (part_before (lock_rows_text p) (part_before (bars_text p.layout h.entries p.shown) (part_before (worker_rows_text p.layout)
    (part_behind (axis_text p.layout) (part_itself (curve_text p.layout h.max (peaks_of levels) (within p.layout levels))))))))

leases_in_curves : (f : Layout) (max_leases : ℕ) (p : Peaks) (levels : List Level)
    → HasPart (curve_text f max_leases p levels) (codes "<path class=\"c\" d=\"M76 " ++ decimal (f.top + 48) ++ numbered (out_stair f p.out) f.first levels)
leases_in_curves f max_leases p levels =
    let path = codes "<path class=\"c\" d=\"M76 " ++ decimal (f.top + 48) ++ numbered (out_stair f p.out) f.first levels in
    part_before (scale_text f max_leases p) (part_before (queue_text f p.queued (queue_scale p) levels)
    (part_before (codes "\"><title>leases out after each entry</title></path>\n") (part_before (codes "V" ++ decimal (f.top + 48)) (part_itself path))))

units_in_curves : (f : Layout) (max_leases : ℕ) (p : Peaks) (levels : List Level)
    → HasPart (curve_text f max_leases p levels) (codes "<path class=\"q\" d=\"M76 " ++ decimal (f.top + 48) ++ numbered (queue_stair f (queue_scale p)) f.first levels)
units_in_curves f max_leases p levels =
    let path = codes "<path class=\"q\" d=\"M76 " ++ decimal (f.top + 48) ++ numbered (queue_stair f (queue_scale p)) f.first levels in
    part_before (scale_text f max_leases p) (part_behind (leases_text f p.out levels)
    (part_before (codes " at most in the run</title></path>\n") (part_before (codes "\"><title>items queued after each entry, " ++ decimal p.queued) (part_itself path))))

curves_of_panel : (g : GraphView) (h : HistoryView) (p : PanelView) → Fits g → Lawful g h.entries → length h.entries < 2 ^ 30 → IsWithin p.layout (length h.entries + 1)
    → HasPart (picture_text h) (curve_text p.layout h.max (peaks_of (levels_of nothing_out h.entries)) (within p.layout (levels_of nothing_out h.entries))) → HasCurves g h p
curves_of_panel g h p fits lawful few inside has =
    let es = h.entries in
    let f = p.layout in
    let levels = levels_of nothing_out es in
    let leases : numbered (out_stair f (peaks_of levels).out) f.first (within f levels) ≡ numbered (λ k (e : Entry). curve_step leases_out g es f (leases_scale g es) k) f.first (within f es) =
    ap (λ m. numbered (out_stair f m) f.first (within f levels)) (leases_scale_is g es fits lawful)
    ∙ steps_same g es (λ v. v.out) leases_out f (leases_scale g es) (leases_counted g es fits lawful) few inside in
    let units : numbered (queue_stair f (queue_scale (peaks_of levels))) f.first (within f levels) ≡ numbered (λ k (e : Entry). curve_step units_queued g es f (units_scale g es) k) f.first (within f es) =
    ap (λ m. numbered (queue_stair f m) f.first (within f levels)) (units_scale_is g es fits lawful)
    ∙ steps_same g es (λ v. v.queued) units_queued f (units_scale g es) (units_counted g es fits lawful) few inside in
    record {
      leases = subst (λ l. HasPart (picture_text h) (codes "<path class=\"c\" d=\"M76 " ++ decimal (f.top + 48) ++ l)) leases
          (part_within has (leases_in_curves f h.max (peaks_of levels) (within f levels)));
      queued = subst (λ l. HasPart (picture_text h) (codes "<path class=\"q\" d=\"M76 " ++ decimal (f.top + 48) ++ l)) units
          (part_within has (units_in_curves f h.max (peaks_of levels) (within f levels)));
    }

each_curve : (g : GraphView) (h : HistoryView) (ps : List PanelView) → Fits g → Lawful g h.entries → length h.entries < 2 ^ 30
    → AllByRecursion (λ (p : PanelView). IsWithin p.layout (length h.entries + 1)) ps
    → AllByRecursion (λ (p : PanelView). HasPart (panels_text h (levels_of nothing_out h.entries) (panels_in h))
    (curve_text p.layout h.max (peaks_of (levels_of nothing_out h.entries)) (within p.layout (levels_of nothing_out h.entries)))) ps
    → AllByRecursion (λ (p : PanelView). HasCurves g h p) ps
each_curve g h [] fits lawful few inside has = tt
each_curve g h (p ∷ ps) fits lawful few inside has =
    (curves_of_panel g h p fits lawful few inside.0 (part_within (panels_in_picture h) has.0), each_curve g h ps fits lawful few inside.1 has.1)

pub curves_are_shown : (g : GraphView) (h : HistoryView) → Fits g → Lawful g h.entries → IsDrawable h → All (HasCurves g h) (panels_in h)
curves_are_shown g h fits lawful drawable =
    let levels = levels_of nothing_out h.entries in
    let count = length h.entries in
    let s = scale_of (format_in h) h.workers count in
    All-from_recursion (HasCurves g h) (panels_in h)
    (each_curve g h (panels_in h) fits lawful drawable.few
    (panels_within s.panels h.workers s (spans_of h.entries) (count + 1) (30 + heading s) 1 (first_top h.workers s) (omega arith) (omega arith))
    (lines_have (panel_with_heading h levels (length (panels_in h))) (λ p. curve_text p.layout h.max (peaks_of levels) (within p.layout levels)) 1 (panels_in h)
    (λ n p. curves_in_panel h levels (length (panels_in h)) n p)))
