-- What holds in a state is shown by a bar of the picture.
use Rattle.std.proofs.Common.{◌≡◌, ◌≤◌, ◌<◌, ℕ, zero, suc, ◌+◌, ◌-◌, ◌^◌, inl, inr, List, [], ◌∷◌, ◌++◌, Bool, true, false, cond, Some, length, refl, sym, ap, subst, ◌∙◌, arith, codes, decimal}
use Rattle.std.specs.Prelude.{Option, None, min, nat_lt, ◌&&◌, All}
use Rattle.std.specs.List.{AllByRecursion, filter, flat_map}
use Rattle.std.proofs.lemmas.Bool.{lt-ltb, and_from, true≢false}
use Rattle.std.proofs.lemmas.List.Elements.{All-from_recursion}
use Rattle.lock_journal.specs.Names.{GraphView, holding_of, mark_of, has_parked, Change, LockId, WorkerId, Mark, ActionOf, Lawful, Entry}
use Rattle.lock_journal.specs.Names.{prefix_state}
use Rattle.resource_lock.specs.declared.marks.Mark.TheVariants as marks
use Rattle.history_text.specs.Fitting.{EntriesFit, EffectFits, ChangesFit}
use Rattle.history_text.specs.HistoryView.{HistoryView}
use Rattle.run_spans.specs.Covering.{Covered}
use Rattle.run_spans.specs.Levels.{levels_of, nothing_out}
use Rattle.run_spans.specs.Spans.{spans_in, spans_of, span_with, first_saying, step_key}
use Rattle.run_spans.specs.Standing.{IsShort, holder_in, if_so, runner}
use Rattle.run_spans.specs.Steps.{Step, steps_of, steps_from, changes_in}
use Rattle.run_spans.specs.Subjects.{begins, key_of, subject_of}
use Rattle.run_spans.specs.declared.levels.Level.{Level}
use Rattle.run_spans.specs.declared.spans.Span.{Span}
use Rattle.run_spans.specs.declared.subjects.Subject.{Subject}
use Rattle.run_spans.specs.declared.subjects.Subject.TheVariants as subjects
use Rattle.run_spans.proofs.Keys.{one_key}
use Rattle.run_spans.proofs.Standing.{short_of, state_is_covered}
use Rattle.picture_layout.specs.Layout.{scale_of, row_y, rows_of, rows_bottom, lock_height}
use Rattle.picture_layout.specs.Panels.{PanelView, panel_of, panels_from, heading, first_top, touches}
use Rattle.picture_layout.specs.declared.layout.Layout.{Layout}
use Rattle.run_picture.specs.Axis.{axis_text, worker_rows_text}
use Rattle.run_picture.specs.Laws.{HasPart, IsShown, IsShownInRow, Shows}
use Rattle.run_picture.specs.Layers.{bar_text, bar_of, bars_text}
use Rattle.run_picture.specs.LockRows.{has_row, lane_bar, lock_y, lane_y, lock_name, parked_where, parked_by, owned_where, owned_by, owned_lock, parked_lock, lock_bar, owned_area, owner_label, folded_text, lock_rows_text}
use Rattle.run_picture.specs.Picture.{panel_curve, panel_with_heading, panels_text, heading_where, edge_text, picture_text, format_in, panels_in}
use Rattle.run_picture.specs.Shapes.{number_words, hued, titled, rect_text}
use Rattle.run_picture.specs.Titles.{over_text}
use Rattle.run_picture.specs.WorkerMarks.{marks_text}
use Rattle.run_picture.specs.declared.worker_bars.Layer.{Layer}
use Rattle.run_picture.specs.declared.worker_bars.Layer.TheVariants as layers
use Rattle.run_picture.proofs.Parts.{part_itself, part_before, part_behind, part_within, lines_have, panels_in_picture}

-- each span tells of a subject with short numbers
abbrev AllShort : List Span → Type 0
AllShort ss = AllByRecursion (λ (s : Span). IsShort s.subject) ss

abbrev StepsShort : List Step → Type 0
StepsShort xs = AllByRecursion (λ (x : Step). IsShort (subject_of x.worker x.change)) xs

begun_short : (end : ℕ) (x : Step) (o : Option _) → IsShort (subject_of x.worker x.change) → IsShort (span_with end x o).subject
begun_short end x None short = short
begun_short end x (Some s) short = short

one_short : (b : Bool) (s : Span) (ss : List Span) → IsShort s.subject → AllShort ss → AllShort (cond b (s ∷ ss) ss)
one_short true s ss short all = (short, all)
one_short false s ss short all = all

spans_short : (end : ℕ) (xs : List Step) → StepsShort xs → AllShort (spans_in end xs)
spans_short end [] all = tt
spans_short end (x ∷ xs) all =
    let o = first_saying xs (step_key x) in
    one_short (begins x.change) (span_with end x o) (spans_in end xs) (begun_short end x o all.0) (spans_short end xs all.1)

changes_short : (n : ℕ) (w : WorkerId) (cs : List Change) (ys : List Step) → w.0 < 2 ^ 32 → ChangesFit w cs → StepsShort ys → StepsShort (steps_of n w cs ++ ys)
changes_short n w [] ys few fits rest = rest
changes_short n w (c ∷ cs) ys few fits rest = (short_of w c few fits.0, changes_short n w cs ys few fits.1 rest)

effect_fits : (w : WorkerId) (cs : Option (List Change)) → EffectFits w cs → ChangesFit w (changes_in cs)
effect_fits w None fits = tt
effect_fits w (Some cs) fits = fits

steps_short : (n : ℕ) (es : List Entry) → EntriesFit es → StepsShort (steps_from n es)
steps_short n [] fits = tt
steps_short n (e ∷ es) fits =
    changes_short n e.worker (changes_in e.changes) (steps_from (n + 1) es) fits.0.worker (effect_fits e.worker e.changes fits.0.effect) (steps_short (n + 1) es fits.1)

-- A span that covers the entry is drawn among others.
record Drawn (draw : Span → List ℕ) (t : Subject) (w : WorkerId) (k : ℕ) (text : List ℕ) : Type 0 where
  span : Span
  subject : span.subject ≡ t
  worker : span.worker ≡ w
  begun : span.from ≤ k
  lasts : k < span.until
  stands : HasPart text (draw span)

drawn_in : {draw : Span → List ℕ} {t : Subject} {w : WorkerId} {k : ℕ} {text whole : List ℕ} → HasPart whole text → Drawn draw t w k text → Drawn draw t w k whole
drawn_in part d = record { span = d.span; subject = d.subject; worker = d.worker; begun = d.begun; lasts = d.lasts; stands = part_within part d.stands }

more_drawn : (b : Bool) (draw : Span → List ℕ) (t : Subject) (w : WorkerId) (k : ℕ) (s : Span) (ss : List Span) → Drawn draw t w k (flat_map draw ss) → Drawn draw t w k (flat_map draw (cond b (s ∷ ss) ss))
more_drawn true draw t w k s ss d = drawn_in (part_behind (draw s) (part_itself (flat_map draw ss))) d
more_drawn false draw t w k s ss d = d

first_drawn : (b : Bool) (draw : Span → List ℕ) (s : Span) (ss : List Span) → b ≡ true → HasPart (flat_map draw (cond b (s ∷ ss) ss)) (draw s)
first_drawn true draw s ss is = part_before (flat_map draw ss) (part_itself (draw s))
first_drawn false draw s ss is = absurd (true≢false (sym is))

found : (draw : Span → List ℕ) (first behind : ℕ) (t : Subject) (w : WorkerId) (k : ℕ) (ss : List Span) → IsShort t → AllShort ss → first ≤ k → k < behind → Covered (key_of t) w k ss
    → Drawn draw t w k (flat_map draw (filter (touches first behind) ss))
found draw first behind t w k [] short all from to none = absurd none
found draw first behind t w k (s ∷ ss) short all from to (inl c) =
    let touching : touches first behind s ≡ true =
    and_from (nat_lt s.from behind && nat_lt first s.until) (nat_lt s.from s.until)
    (and_from (nat_lt s.from behind) (nat_lt first s.until) (lt-ltb s.from behind (omega (arith, c.from, to))) (lt-ltb first s.until (omega (arith, c.until, from))))
    (lt-ltb s.from s.until (omega (arith, c.from, c.until))) in
    record {
      span = s;
      subject = one_key s.subject t all.0 short c.subject;
      worker = c.worker;
      begun = c.from;
      lasts = c.until;
      stands = first_drawn (touches first behind s) draw s (filter (touches first behind) ss) touching;
    }
found draw first behind t w k (s ∷ ss) short all from to (inr more) =
    more_drawn (touches first behind s) draw t w k s (filter (touches first behind) ss) (found draw first behind t w k ss short all.1 from to more)

-- what a panel draws of its spans stands in it
bars_in_panel : (h : HistoryView) (levels : List Level) (count n : ℕ) (p : PanelView) → HasPart (panel_with_heading h levels count n p) (bars_text p.layout h.entries p.shown)
bars_in_panel h levels count n p =
    part_behind (heading_where count n p.layout)
    (part_before (edge_text p.layout) (part_before (lock_rows_text p)
    (part_behind (axis_text p.layout ++ panel_curve h.max levels p.layout ++ worker_rows_text p.layout) (part_itself (bars_text p.layout h.entries p.shown)))))

locks_in_panel : (h : HistoryView) (levels : List Level) (count n : ℕ) (p : PanelView) → HasPart (panel_with_heading h levels count n p) (lock_rows_text p)
locks_in_panel h levels count n p =
    part_behind (heading_where count n p.layout)
    (part_before (edge_text p.layout)
    (part_behind (axis_text p.layout ++ panel_curve h.max levels p.layout ++ worker_rows_text p.layout ++ bars_text p.layout h.entries p.shown) (part_itself (lock_rows_text p))))

abbrev layer : Layer → Layout → List Entry → List Span → List ℕ
layer l f es ss = flat_map (bar_text l f es) ss

parked_layer : (f : Layout) (es : List Entry) (ss : List Span) → HasPart (bars_text f es ss) (layer layers.Parked f es ss)
unfolding bars_text
parked_layer f es ss =
    part_before (layer layers.Items f es ss) (part_before (layer layers.Leases f es ss) (part_before (layer layers.Blocked f es ss)
    (part_behind (layer layers.Tasks f es ss) (part_itself (layer layers.Parked f es ss)))))

blocked_layer : (f : Layout) (es : List Entry) (ss : List Span) → HasPart (bars_text f es ss) (layer layers.Blocked f es ss)
unfolding bars_text
blocked_layer f es ss =
    part_before (layer layers.Items f es ss) (part_before (layer layers.Leases f es ss)
    (part_behind (layer layers.Tasks f es ss ++ layer layers.Parked f es ss) (part_itself (layer layers.Blocked f es ss))))

leases_layer : (f : Layout) (es : List Entry) (ss : List Span) → HasPart (bars_text f es ss) (layer layers.Leases f es ss)
unfolding bars_text
leases_layer f es ss =
    part_before (layer layers.Items f es ss)
    (part_behind (layer layers.Tasks f es ss ++ layer layers.Parked f es ss ++ layer layers.Blocked f es ss) (part_itself (layer layers.Leases f es ss)))

parked_rows : (p : PanelView) → HasPart (lock_rows_text p) (flat_map (parked_where p) p.shown)
unfolding lock_rows_text
parked_rows p =
    part_before (folded_text p.layout) (part_before (flat_map (owned_where p) p.shown) (part_behind (flat_map (lock_name p) p.locks) (part_itself (flat_map (parked_where p) p.shown))))

owned_rows : (p : PanelView) → HasPart (lock_rows_text p) (flat_map (owned_where p) p.shown)
unfolding lock_rows_text
owned_rows p =
    part_before (folded_text p.layout) (part_behind (flat_map (lock_name p) p.locks ++ flat_map (parked_where p) p.shown) (part_itself (flat_map (owned_where p) p.shown)))

-- how one span is drawn
shown_lease : (text : List ℕ) (f : Layout) (es : List Entry) (w : WorkerId) (k : ℕ) → Drawn (bar_text layers.Leases f es) (subjects.Lease w) w k text
    → IsShownInRow text f w (hued (codes "m") w.0) (codes "w" ++ decimal w.0 ++ codes " has a lease") k
shown_lease text f es w k d = record {
  over = d.span;
  begun = d.begun;
  lasts = d.lasts;
  stands = subst (λ l. HasPart text l) (as_lease d.span d.subject d.worker) d.stands;
}
  where
    as_lease : (s : Span) → s.subject ≡ subjects.Lease w → s.worker ≡ w → bar_text layers.Leases f es s
        ≡ titled (hued (codes "m") w.0) (lane_bar f s (row_y f w.0 + (rows_of f.workers).lane_y) (rows_of f.workers).lane_height) (codes "w" ++ decimal w.0 ++ codes " has a lease" ++ over_text s)
    as_lease s is of =
        ap (λ (t : Subject). bar_of layers.Leases f es s t) is
        ∙ ap (λ (v : WorkerId). titled (hued (codes "m") v.0) (lane_bar f s (row_y f v.0 + (rows_of f.workers).lane_y) (rows_of f.workers).lane_height)
        (codes "w" ++ decimal v.0 ++ codes " has a lease" ++ over_text s)) of

shown_blocked : (text : List ℕ) (f : Layout) (es : List Entry) (w : WorkerId) (k : ℕ) → Drawn (bar_text layers.Blocked f es) (subjects.Blocked w) w k text
    → IsShownInRow text f w (codes "b") (codes "w" ++ decimal w.0 ++ codes " is blocked") k
shown_blocked text f es w k d = record {
  over = d.span;
  begun = d.begun;
  lasts = d.lasts;
  stands = subst (λ l. HasPart text l) (as_blocked d.span d.subject d.worker) d.stands;
}
  where
    as_blocked : (s : Span) → s.subject ≡ subjects.Blocked w → s.worker ≡ w → bar_text layers.Blocked f es s
        ≡ titled (codes "b") (lane_bar f s (row_y f w.0 + (rows_of f.workers).lane_y) (rows_of f.workers).lane_height) (codes "w" ++ decimal w.0 ++ codes " is blocked" ++ over_text s)
    as_blocked s is of =
        ap (λ (t : Subject). bar_of layers.Blocked f es s t) is
        ∙ ap (λ (v : WorkerId). titled (codes "b") (lane_bar f s (row_y f v.0 + (rows_of f.workers).lane_y) (rows_of f.workers).lane_height)
        (codes "w" ++ decimal v.0 ++ codes " is blocked" ++ over_text s)) of

shown_parked : (text : List ℕ) (f : Layout) (es : List Entry) (w : WorkerId) (n k : ℕ) → Drawn (bar_text layers.Parked f es) (subjects.Running (ActionOf n)) w k text
    → IsShownInRow text f w (hued (codes "k") w.0) (number_words (codes "w") w.0 ++ number_words (codes " is parked at action ") n) k
shown_parked text f es w n k d = record {
  over = d.span;
  begun = d.begun;
  lasts = d.lasts;
  stands = subst (λ l. HasPart text l) (as_parked d.span d.subject d.worker) d.stands;
}
  where
    as_parked : (s : Span) → s.subject ≡ subjects.Running (ActionOf n) → s.worker ≡ w → bar_text layers.Parked f es s
        ≡ titled (hued (codes "k") w.0) (lane_bar f s (row_y f w.0 + (rows_of f.workers).lane_y) (rows_of f.workers).lane_height)
        (number_words (codes "w") w.0 ++ number_words (codes " is parked at action ") n ++ over_text s)
    as_parked s is of =
        ap (λ (t : Subject). bar_of layers.Parked f es s t) is
        ∙ ap (λ (v : WorkerId). titled (hued (codes "k") v.0) (lane_bar f s (row_y f v.0 + (rows_of f.workers).lane_y) (rows_of f.workers).lane_height)
        (number_words (codes "w") v.0 ++ number_words (codes " is parked at action ") n ++ over_text s)) of

shown_parked_lock : (text : List ℕ) (p : PanelView) (w : WorkerId) (l : LockId) (k : ℕ) → has_row p l.0 ≡ true → Drawn (parked_where p) (subjects.Parked w l) w k text
    → IsShown text p.layout (hued (codes "m") w.0) (number_words (codes "lock ") l.0 ++ number_words (codes " is parked by w") w.0) (lane_y p l.0 w.0) 2 k
unfolding parked_lock
shown_parked_lock text p w l k row d = record {
  over = d.span;
  begun = d.begun;
  lasts = d.lasts;
  stands = subst (λ t. HasPart text t) (as_parked d.span d.subject d.worker) d.stands;
}
  where
    as_parked : (s : Span) → s.subject ≡ subjects.Parked w l → s.worker ≡ w → parked_where p s
        ≡ titled (hued (codes "m") w.0) (lane_bar p.layout s (lane_y p l.0 w.0) 2) (number_words (codes "lock ") l.0 ++ number_words (codes " is parked by w") w.0 ++ over_text s)
    as_parked s is of =
        ap (λ (t : Subject). parked_by t p s) is ∙ (ap (λ b. cond b (parked_lock p w.0 l.0 s) []) row
        ∙ ap (λ (v : WorkerId). titled (hued (codes "m") v.0) (lane_bar p.layout s (lane_y p l.0 w.0) 2) (number_words (codes "lock ") l.0 ++ number_words (codes " is parked by w") v.0 ++ over_text s)) of)

shown_owned_lock : (text : List ℕ) (p : PanelView) (w : WorkerId) (l : LockId) (k : ℕ) → has_row p l.0 ≡ true → Drawn (owned_where p) (subjects.Owned l) w k text
    → IsShown text p.layout (hued (codes "m") w.0) (number_words (codes "lock ") l.0 ++ number_words (codes " is owned by w") w.0) (lock_y p l.0 + 1) (lock_height p.layout - 3) k
unfolding owned_lock
shown_owned_lock text p w l k row d = record {
  over = d.span;
  begun = d.begun;
  lasts = d.lasts;
  stands = part_within (subst (λ t. HasPart text t) (as_owned d.span d.subject) d.stands) (bar_in d.span d.worker);
}
  where
    as_owned : (s : Span) → s.subject ≡ subjects.Owned l → owned_where p s ≡ owned_lock p l.0 s
    as_owned s is = ap (λ (t : Subject). owned_by t p s) is ∙ ap (λ b. cond b (owned_lock p l.0 s) []) row

    bar_of_span : Span → List ℕ
    bar_of_span s = titled (hued (codes "m") w.0) (lane_bar p.layout s (lock_y p l.0 + 1) (lock_height p.layout - 3)) (number_words (codes "lock ") l.0 ++ number_words (codes " is owned by w") w.0 ++ over_text s)

    same_bar : (s : Span) → s.worker ≡ w → lock_bar l.0 (codes " is owned by w") s (owned_area p l.0 s) ≡ bar_of_span s
    same_bar s of = ap (λ (v : WorkerId). titled (hued (codes "m") v.0) (lane_bar p.layout s (lock_y p l.0 + 1) (lock_height p.layout - 3)) (number_words (codes "lock ") l.0 ++ number_words (codes " is owned by w") v.0 ++ over_text s)) of

    bar_in : (s : Span) → s.worker ≡ w → HasPart (owned_lock p l.0 s) (bar_of_span s)
    bar_in s of =
        let a = owned_area p l.0 s in
        subst (λ t. HasPart (owned_lock p l.0 s) t) (same_bar s of)
        (part_before (owner_label p.layout a s.worker.0) (part_before (marks_text s.worker.0 a)
        (part_before (rect_text (hued (codes "d") s.worker.0) (record { x = a.x; y = a.y; width = 1; height = a.height })) (part_itself (lock_bar l.0 (codes " is owned by w") s a)))))

-- a subject that holds after an entry of a panel is drawn among the panel's spans
panel_draws : (g : GraphView) (h : HistoryView) (p : PanelView) (draw : Span → List ℕ) (t : Subject) (w : WorkerId) (k : ℕ) → EntriesFit h.entries → Lawful g h.entries → IsShort t
    → p.shown ≡ filter (touches p.layout.first p.layout.behind) (spans_of h.entries) → p.layout.behind ≤ length h.entries + 1 → p.layout.first ≤ k → k < p.layout.behind
    → holder_in (prefix_state g h.entries k) t ≡ Some w → Drawn draw t w k (flat_map draw p.shown)
panel_draws g h p draw t w k fits lawful short shows within from to holds =
    let es = h.entries in
    let covered = state_is_covered g es k t w fits lawful short (omega (arith, within, to)) holds in
    subst (λ ss. Drawn draw t w k (flat_map draw ss)) (sym shows)
    (found draw p.layout.first p.layout.behind t w k (spans_of es) short (spans_short (length es + 1) (steps_from 1 es) (steps_short 1 es fits)) from to covered)

runner_is : (m : Mark) (w : WorkerId) → m ≡ marks.Running w → runner m ≡ Some w
runner_is m w is = ap runner is

so_held : (b : Bool) (w : WorkerId) → b ≡ true → if_so b w ≡ Some w
so_held b w is = ap (λ c. if_so c w) is

shows_panel : (g : GraphView) (h : HistoryView) (p : PanelView) (k : ℕ) (w : WorkerId) → EntriesFit h.entries → Lawful g h.entries
    → p.shown ≡ filter (touches p.layout.first p.layout.behind) (spans_of h.entries) → p.layout.behind ≤ length h.entries + 1
    → HasPart (picture_text h) (bars_text p.layout h.entries p.shown) → HasPart (picture_text h) (lock_rows_text p)
    → w.0 < 2 ^ 32 → p.layout.first ≤ k → k < p.layout.behind → Shows g h p k w
shows_panel g h p k w fits lawful shows within bars locks few from to =
    let es = h.entries in
    let f = p.layout in
    let s = prefix_state g es k in
    record {
      lease = λ is. shown_lease (picture_text h) f es w k
          (drawn_in (part_within bars (leases_layer f es p.shown))
          (panel_draws g h p (bar_text layers.Leases f es) (subjects.Lease w) w k fits lawful (omega arith, few) shows within from to (so_held (holding_of s w).lease w is)));
      blocked = λ is. shown_blocked (picture_text h) f es w k
          (drawn_in (part_within bars (blocked_layer f es p.shown))
          (panel_draws g h p (bar_text layers.Blocked f es) (subjects.Blocked w) w k fits lawful (omega arith, few) shows within from to (so_held (holding_of s w).blocked w is)));
      parked = λ n short is. shown_parked (picture_text h) f es w n k
          (drawn_in (part_within bars (parked_layer f es p.shown))
          (panel_draws g h p (bar_text layers.Parked f es) (subjects.Running (ActionOf n)) w k fits lawful (omega arith, short) shows within from to (runner_is (mark_of s (ActionOf n)) w is)));
      owned_lock = λ l short row is. shown_owned_lock (picture_text h) p w l k row
          (drawn_in (part_within locks (owned_rows p))
          (panel_draws g h p (owned_where p) (subjects.Owned l) w k fits lawful (omega arith, short) shows within from to is));
      parked_lock = λ l short row is. shown_parked_lock (picture_text h) p w l k row
          (drawn_in (part_within locks (parked_rows p))
          (panel_draws g h p (parked_where p) (subjects.Parked w l) w k fits lawful (few, short) shows within from to (so_held (has_parked s w l) w is)));
    }

-- what each panel shows is found by its entries, which end with the last of all
abbrev ShowsOwn : List Span → ℕ → PanelView → Type 0
ShowsOwn spans end p = (p.shown ≡ filter (touches p.layout.first p.layout.behind) spans) × (p.layout.behind ≤ end)

panels_show : (n workers : ℕ) (s : _) (spans : List Span) (end gap first top : ℕ) → AllByRecursion (ShowsOwn spans end) (panels_from n workers s spans end gap first top)
panels_show zero workers s spans end gap first top = tt
panels_show (suc n) workers s spans end gap first top =
    let behind = min (first + s.size) end in
    let within : behind ≤ end = omega arith in
    ((refl, within), panels_show n workers s spans end gap behind (rows_bottom (panel_of workers s spans first behind top).layout + gap))

each_shows : (g : GraphView) (h : HistoryView) (ps : List PanelView) → EntriesFit h.entries → Lawful g h.entries
    → AllByRecursion (ShowsOwn (spans_of h.entries) (length h.entries + 1)) ps
    → AllByRecursion (λ (p : PanelView). HasPart (panels_text h (levels_of nothing_out h.entries) (panels_in h)) (bars_text p.layout h.entries p.shown)) ps
    → AllByRecursion (λ (p : PanelView). HasPart (panels_text h (levels_of nothing_out h.entries) (panels_in h)) (lock_rows_text p)) ps
    → AllByRecursion (λ (p : PanelView). (k : ℕ) (w : WorkerId) → w.0 < 2 ^ 32 → p.layout.first ≤ k → k < p.layout.behind → Shows g h p k w) ps
each_shows g h [] fits lawful shows bars locks = tt
each_shows g h (p ∷ ps) fits lawful shows bars locks =
    let all = panels_in_picture h in
    let here : (k : ℕ) (w : WorkerId) → w.0 < 2 ^ 32 → p.layout.first ≤ k → k < p.layout.behind → Shows g h p k w =
    λ k w few from to. shows_panel g h p k w fits lawful shows.0.0 shows.0.1 (part_within all bars.0) (part_within all locks.0) few from to in
    (here, each_shows g h ps fits lawful shows.1 bars.1 locks.1)

pub states_are_shown : (g : GraphView) (h : HistoryView) → EntriesFit h.entries → Lawful g h.entries
    → All (λ p. (k : ℕ) (w : WorkerId) → w.0 < 2 ^ 32 → p.layout.first ≤ k → k < p.layout.behind → Shows g h p k w) (panels_in h)
states_are_shown g h fits lawful =
    let levels = levels_of nothing_out h.entries in
    let count = length h.entries in
    let s = scale_of (format_in h) h.workers count in
    let ps = panels_in h in
    All-from_recursion (λ p. (k : ℕ) (w : WorkerId) → w.0 < 2 ^ 32 → p.layout.first ≤ k → k < p.layout.behind → Shows g h p k w) ps
    (each_shows g h ps fits lawful
    (panels_show s.panels h.workers s (spans_of h.entries) (count + 1) (30 + heading s) 1 (first_top h.workers s))
    (lines_have (panel_with_heading h levels (length ps)) (λ p. bars_text p.layout h.entries p.shown) 1 ps (λ n p. bars_in_panel h levels (length ps) n p))
    (lines_have (panel_with_heading h levels (length ps)) lock_rows_text 1 ps (λ n p. locks_in_panel h levels (length ps) n p)))
