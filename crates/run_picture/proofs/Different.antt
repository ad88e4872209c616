-- Two histories never give one picture.
use Rattle.std.proofs.Common.{◌≡◌, ℕ, ◌<◌, ◌^◌, Option, Some, None, IfSome, List, ◌∷◌, ◌++◌, Bool, true, false, refl, sym, ap, ◌∙◌, append_assoc, arith, decimal, codes, length, get_or}
use Rattle.std.specs.List.{flat_map}
use Rattle.std.proofs.lemmas.Fmt.{decimal_injective}
use Rattle.std.proofs.lemmas.List.{append_cancel_left}
use Rattle.history_text.specs.Text.{locks_text, parallel_text}
use Rattle.history_text.specs.Fitting.{HeadFits}
use Rattle.history_text.specs.HistoryView.{HistoryView}
use Rattle.history_text.specs.Grammar.{HistoryFits}
use Rattle.run_spans.specs.Levels.{levels_of, nothing_out}
use Rattle.run_spans.specs.Spans.{spans_of}
use Rattle.run_picture.specs.Header.{opening_text, desc_text, title_text, second_text}
use Rattle.run_picture.specs.Laws.{layout_at}
use Rattle.picture_layout.specs.Panels.{height_of}
use Rattle.run_picture.specs.Picture.{head_text, style_text, legend_text, panels_text, ticks_of, width_of, format_in, panels_in, picture_text, totals_of, whole_text}
use Rattle.picture_layout.specs.declared.layout.Folding.TheVariants.{Unfolded}
use Rattle.picture_layout.specs.declared.layout.Layout.{Layout}
use Rattle.run_picture.proofs.Marked.{calm, calm_both, calm_ticks, last_mark}
use Rattle.run_picture.proofs.Telling.{foot, ticks_by, same_number, same_ticks}
use Rattle.run_picture.proofs.Ticking.{all_ticks}

-- the whole run, where it is drawn
abbrev whole_in : HistoryView → List ℕ
whole_in h = whole_text h (levels_of nothing_out h.entries) (spans_of h.entries) (panels_in h)

-- what stands above the ticks
unfoldable above : HistoryView → List ℕ
above h = head_text h (format_in h).plot (height_of (panels_in h)) (totals_of h (levels_of nothing_out h.entries) (spans_of h.entries))
    ++ whole_in h ++ panels_text h (levels_of nothing_out h.entries) (panels_in h)

no_layout : Layout
no_layout = record { first = 0; behind = 0; per = 0; top = 0; workers = 0; locks = 0; lanes = 0; folded = 0; folding = Unfolded }

abbrev ticks_in : HistoryView → List ℕ
ticks_in h = ticks_by (λ n. layout_at no_layout (panels_in h) n) 1 h.entries

nested_ticks : (a g t f : List ℕ) → a ++ g ++ t ++ f ≡ a ++ (g ++ (t ++ f))
nested_ticks a g t f = simp append_assoc

picture_form : (h : HistoryView) → picture_text h ≡ above h ++ (codes "<g>\n" ++ (ticks_in h ++ foot))
unfolding above
picture_form h =
    let ticks : flat_map (ticks_of h) (panels_in h) ≡ ticks_in h = all_ticks h no_layout in
    nested_ticks (above h) (codes "<g>\n") (flat_map (ticks_of h) (panels_in h)) foot ∙ ap (λ l. above h ++ (codes "<g>\n" ++ (l ++ foot))) ticks

calm_foot : (h : HistoryView) → calm (ticks_in h ++ foot) ≡ true
calm_foot h = calm_both (ticks_in h) foot (calm_ticks (λ n. layout_at no_layout (panels_in h) n) 1 h.entries) refl

same_entries : (h k : HistoryView) → HistoryFits h → HistoryFits k → picture_text h ≡ picture_text k → h.entries ≡ k.entries
same_entries h k a b is =
    same_ticks (λ n. layout_at no_layout (panels_in h) n) (λ n. layout_at no_layout (panels_in k) n) 1 h.entries k.entries a.entries b.entries
    (last_mark (above h) (above k) (ticks_in h ++ foot) (ticks_in k ++ foot) (calm_foot h) (calm_foot k) (sym (picture_form h) ∙ (is ∙ picture_form k)))

-- the settings stand in front
nested_opening : (a b c d e f k x h r : List ℕ) → ((a ++ x) ++ (b ++ h)) ++ ((c ++ x) ++ (d ++ h)) ++ e ++ ((f ++ x) ++ (d ++ h)) ++ k ++ r
    ≡ a ++ (x ++ (b ++ (h ++ (c ++ (x ++ (d ++ (h ++ (e ++ (f ++ (x ++ (d ++ (h ++ (k ++ r)))))))))))))
nested_opening a b c d e f k x h r = simp append_assoc

opening_form : (width height : ℕ) (r : List ℕ) → opening_text width height ++ r
    ≡ codes "<svg xmlns=\"http://www.w3.org/2000/svg\" viewBox=\"0 0 " ++ (decimal width ++ (codes " " ++ (decimal height
    ++ (codes "\" width=\"" ++ (decimal width ++ (codes "\" height=\"" ++ (decimal height
    ++ (codes "\" font-family=\"DejaVu Sans, Verdana, Arial, sans-serif\">\n" ++ (codes "<rect class=\"z\" width=\"" ++ (decimal width
    ++ (codes "\" height=\"" ++ (decimal height ++ (codes "\"/>\n" ++ r)))))))))))))
unfolding opening_text
opening_form width height r =
    nested_opening (codes "<svg xmlns=\"http://www.w3.org/2000/svg\" viewBox=\"0 0 ") (codes " ") (codes "\" width=\"") (codes "\" height=\"")
    (codes "\" font-family=\"DejaVu Sans, Verdana, Arial, sans-serif\">\n") (codes "<rect class=\"z\" width=\"") (codes "\"/>\n") (decimal width) (decimal height) r

same_opening : (v w m n : ℕ) (r s : List ℕ) → opening_text v m ++ r ≡ opening_text w n ++ s → r ≡ s
same_opening v w m n r s is =
    let a = same_number v w _ _ refl refl (append_cancel_left (codes "<svg xmlns=\"http://www.w3.org/2000/svg\" viewBox=\"0 0 ") _ _ (sym (opening_form v m r) ∙ (is ∙ opening_form w n s))) in
    let b = same_number m n _ _ refl refl (append_cancel_left (codes " ") _ _ a.rest) in
    let c = same_number v w _ _ refl refl (append_cancel_left (codes "\" width=\"") _ _ b.rest) in
    let d = same_number m n _ _ refl refl (append_cancel_left (codes "\" height=\"") _ _ c.rest) in
    let font = append_cancel_left (codes "\" font-family=\"DejaVu Sans, Verdana, Arial, sans-serif\">\n") _ _ d.rest in
    let e = same_number v w _ _ refl refl (append_cancel_left (codes "<rect class=\"z\" width=\"") _ _ font) in
    let f = same_number m n _ _ refl refl (append_cancel_left (codes "\" height=\"") _ _ e.rest) in
    append_cancel_left (codes "\"/>\n") _ _ f.rest

nested_desc : (a w b m c p k d r : List ℕ) → (a ++ w) ++ (b ++ m) ++ c ++ p ++ k ++ d ++ r ≡ a ++ (w ++ (b ++ (m ++ (c ++ (p ++ (k ++ (d ++ r)))))))
nested_desc a w b m c p k d r = simp append_assoc

desc_form : (w m : ℕ) (p : Bool) (l : Option ℕ) (r : List ℕ) → desc_text w m p l ++ r
    ≡ codes "<desc>workers " ++ (decimal w ++ (codes " max " ++ (decimal m ++ (codes " parallel " ++ (parallel_text p ++ (locks_text l ++ (codes "</desc>\n" ++ r)))))))
unfolding desc_text
desc_form w m p l r = nested_desc (codes "<desc>workers ") (decimal w) (codes " max ") (decimal m) (codes " parallel ") (parallel_text p) (locks_text l) (codes "</desc>\n") r

record SameParallel (p q : Bool) (r s : List ℕ) : Type 0 where
  parallel : p ≡ q
  rest : r ≡ s

same_parallel : (p q : Bool) (r s : List ℕ) → parallel_text p ++ r ≡ parallel_text q ++ s → SameParallel p q r s
same_parallel true true r s is = record { parallel = refl; rest = append_cancel_left (codes "yes") r s is }
same_parallel false false r s is = record { parallel = refl; rest = append_cancel_left (codes "no") r s is }
same_parallel true false r s is = absurd (let first : 121 ≡ 110 = ap (λ (l : List ℕ). get_or l 0 0) is in omega (arith, first))
same_parallel false true r s is = absurd (let first : 110 ≡ 121 = ap (λ (l : List ℕ). get_or l 0 0) is in omega (arith, first))

-- the number of locks stands in front of a `<`
same_locks : (l k : Option ℕ) (r s : List ℕ) → IfSome l (λ n. n < 2 ^ 32) → IfSome k (λ n. n < 2 ^ 32) → locks_text l ++ (60 ∷ r) ≡ locks_text k ++ (60 ∷ s) → l ≡ k
same_locks None None r s a b is = refl
same_locks (Some l) (Some k) r s a b is =
    ap (λ n. Some n) (decimal_injective l k (omega (arith, a)) (omega (arith, b)) (same_number l k (60 ∷ r) (60 ∷ s) refl refl (append_cancel_left (codes " locks ") _ _ is)).front)
same_locks None (Some k) r s a b is = absurd (let first : 60 ≡ 32 = ap (λ (l : List ℕ). get_or l 0 0) is in omega (arith, first))
same_locks (Some l) None r s a b is = absurd (let first : 32 ≡ 60 = ap (λ (l : List ℕ). get_or l 0 0) is in omega (arith, first))

record SameSettings (w v m n : ℕ) (p q : Bool) (l k : Option ℕ) : Type 0 where
  workers : w ≡ v
  leases : m ≡ n
  parallel : p ≡ q
  locks : l ≡ k

same_desc : (w v m n : ℕ) (p q : Bool) (l k : Option ℕ) (r s : List ℕ) → HeadFits w m l → HeadFits v n k → desc_text w m p l ++ r ≡ desc_text v n q k ++ s → SameSettings w v m n p q l k
same_desc w v m n p q l k r s a b is =
    let workers = same_number w v _ _ refl refl (append_cancel_left (codes "<desc>workers ") _ _ (sym (desc_form w m p l r) ∙ (is ∙ desc_form v n q k s))) in
    let leases = same_number m n _ _ refl refl (append_cancel_left (codes " max ") _ _ workers.rest) in
    let parallel = same_parallel p q _ _ (append_cancel_left (codes " parallel ") _ _ leases.rest) in
    record {
      workers = decimal_injective w v (omega (arith, a.few_workers)) (omega (arith, b.few_workers)) workers.front;
      leases = decimal_injective m n (omega (arith, a.few_leases)) (omega (arith, b.few_leases)) leases.front;
      parallel = parallel.parallel;
      locks = same_locks l k _ _ a.few_locks b.few_locks parallel.rest;
    }

-- what stands behind the settings
unfoldable behind_of : HistoryView → List ℕ
behind_of h =
    style_text ++ (title_text h.workers h.max (length h.entries) ++ (second_text (totals_of h (levels_of nothing_out h.entries) (spans_of h.entries)) ++ (legend_text
    ++ (whole_in h ++ (panels_text h (levels_of nothing_out h.entries) (panels_in h) ++ (codes "<g>\n" ++ (flat_map (ticks_of h) (panels_in h) ++ foot)))))))

nested_front : (a b c d e f w g h i j : List ℕ) → (a ++ b ++ c ++ d ++ e ++ f) ++ w ++ g ++ h ++ i ++ j ≡ a ++ (b ++ (c ++ (d ++ (e ++ (f ++ (w ++ (g ++ (h ++ (i ++ j)))))))))
nested_front a b c d e f w g h i j = simp append_assoc

front_form : (h : HistoryView) → picture_text h ≡ opening_text (width_of (format_in h).plot) (height_of (panels_in h)) ++ (desc_text h.workers h.max h.parallel h.locks ++ behind_of h)
unfolding head_text behind_of
front_form h =
    nested_front (opening_text (width_of (format_in h).plot) (height_of (panels_in h))) (desc_text h.workers h.max h.parallel h.locks) style_text (title_text h.workers h.max (length h.entries))
    (second_text (totals_of h (levels_of nothing_out h.entries) (spans_of h.entries))) legend_text (whole_in h) (panels_text h (levels_of nothing_out h.entries) (panels_in h))
    (codes "<g>\n") (flat_map (ticks_of h) (panels_in h)) foot

same_settings : (h k : HistoryView) → HistoryFits h → HistoryFits k → picture_text h ≡ picture_text k → SameSettings h.workers k.workers h.max k.max h.parallel k.parallel h.locks k.locks
same_settings h k a b is =
    same_desc h.workers k.workers h.max k.max h.parallel k.parallel h.locks k.locks (behind_of h) (behind_of k) a.head b.head
    (same_opening (width_of (format_in h).plot) (width_of (format_in k).plot) (height_of (panels_in h)) (height_of (panels_in k)) _ _ (sym (front_form h) ∙ (is ∙ front_form k)))

history_is : (h k : HistoryView) → SameSettings h.workers k.workers h.max k.max h.parallel k.parallel h.locks k.locks → h.entries ≡ k.entries → h ≡ k
history_is h k same es =
    ap (λ n. record { workers = n; max = h.max; parallel = h.parallel; locks = h.locks; entries = h.entries }) same.workers
    ∙ (ap (λ n. record { workers = k.workers; max = n; parallel = h.parallel; locks = h.locks; entries = h.entries }) same.leases
    ∙ (ap (λ p. record { workers = k.workers; max = k.max; parallel = p; locks = h.locks; entries = h.entries }) same.parallel
    ∙ (ap (λ n. record { workers = k.workers; max = k.max; parallel = k.parallel; locks = n; entries = h.entries }) same.locks
    ∙ ap (λ l. record { workers = k.workers; max = k.max; parallel = k.parallel; locks = k.locks; entries = l }) es)))

pub one_history : (h k : HistoryView) → HistoryFits h → HistoryFits k → picture_text h ≡ picture_text k → h ≡ k
one_history h k a b is = history_is h k (same_settings h k a b is) (same_entries h k a b is)
