use Rattle.std.proofs.Common.{◌≡◌, ℕ, ◌+◌, ◌-◌, ◌<◌, suc, List, [], ◌∷◌, length, get_or, map, sym, ap, ◌∙◌, arith}
use Rattle.std.proofs.lemmas.List.{get_or-map, length-map}
use Rattle.run_spans.specs.declared.spans.Span.{Span}
use Rattle.picture_layout.specs.Panels.{PanelView, panel_view, last_shown}
use Rattle.picture_layout.proofs.panels.shown_last.Goals as goal

last_there : (shown : List Span) (ps : List PanelView) (i : ℕ) (d : PanelView) → length ps ≡ i + 1 → last_shown shown ps ≡ (get_or ps i d).shown
last_there shown [] i d long = absurd (omega (arith, long))
last_there shown (p ∷ []) i d long =
    let here : 0 ≡ i = omega (arith, long) in
    ap (λ j. (get_or (p ∷ []) j d).shown) here
last_there shown (p ∷ q ∷ ps) i d long =
    let before : length (q ∷ ps) ≡ i - 1 + 1 = omega (arith, long) in
    let here : suc (i - 1) ≡ i = omega (arith, long) in
    last_there p.shown (q ∷ ps) (i - 1) d before ∙ ap (λ j. (get_or (p ∷ q ∷ ps) j d).shown) here

pub returns-in-len1-up : goal.returns-in-len1-up
returns-in-len1-up c =
    let panels = c.args.panels.now in
    let last = c.last-item.result in
    let some : length panels - 1 < length panels = omega (arith, c.in-len1-up.len_at_least) in
    let long : length (map panel_view panels) ≡ length panels - 1 + 1 = omega (arith, c.in-len1-up.len_at_least, length-map panels panel_view) in
    c.deref.ensures.value
    ∙ (ap (λ p. p.shown.items) (c.last-item.is)
    ∙ (ap (λ (p : PanelView). p.shown) (sym (get_or-map panel_view panels (length panels - 1) last (panel_view last) some))
    ∙ sym (last_there [] (map panel_view panels) (length panels - 1) (panel_view last) long)))
