-- One more panel below those above it, and how far down they go.
use Rattle.std.proofs.Common.{◌≡◌, ℕ, suc, zero, ◌+◌, ◌-◌, ◌*◌, ◌<◌, ◌≤◌, ◌^◌, List, [], ◌∷◌, ◌++◌, Bool, true, false, sym, ap, ap₂, subst, ◌∙◌, append_assoc, arith, suc-mul, refl}
use Rattle.std.specs.Prelude.{min, nat_le, nat_lt, if◌then◌else◌, Result, Ok, Err, IfErr, IsErrAnd}
use Rattle.std.specs.List.{filter}
use Rattle.run_spans.specs.declared.spans.Span.{Span}
use Rattle.picture_layout.specs.Layout.{rows_bottom, rows_of, run_row_height, locks_y}
use Rattle.picture_layout.specs.Panels.{PanelView, least_height, heading, first_top, panels_with, panel_of, panel_with, panels_from, last_bottom, last_shown, height_of, touches, IsRefused, IsRefusedPanel, begun_before, begun_from}
use Rattle.picture_layout.specs.declared.layout.Layout.{Layout}
use Rattle.picture_layout.specs.declared.layout.Scale.{Scale}
use Rattle.picture_layout.specs.declared.panels.LayoutFail.{LayoutFail}
use Rattle.picture_layout.specs.declared.panels.LayoutFail.TheVariants.{NoMemory, TooLarge}
use Rattle.picture_layout.proofs.Carrying.{Carries, shows_all, carries_on}

-- the panels from a place on are its panel, and those below
pub one_more : (n i workers : ℕ) (s : Scale) (spans : List Span) (end gap first top : ℕ) → i < n
    → panels_from (n - i) workers s spans end gap first top
    ≡ panel_of workers s spans first (min (first + s.size) end) top
    ∷ panels_from (n - (i + 1)) workers s spans end gap (min (first + s.size) end) (rows_bottom (panel_of workers s spans first (min (first + s.size) end) top).layout + gap)
one_more n i workers s spans end gap first top less =
    let more : n - i ≡ suc (n - (i + 1)) = omega (arith, less) in
    ap (λ (k : ℕ). panels_from k workers s spans end gap first top) more

pub one_panel : (i workers : ℕ) (s : Scale) (spans : List Span) (end gap first behind top top' : ℕ) (ps : List PanelView) (p : PanelView)
    → i < s.panels → behind ≡ min (first + s.size) end → p ≡ panel_of workers s spans first behind top → top' ≡ rows_bottom p.layout + gap
    → (ps ++ p ∷ []) ++ panels_from (s.panels - (i + 1)) workers s spans end gap behind top' ≡ ps ++ panels_from (s.panels - i) workers s spans end gap first top
one_panel i workers s spans end gap first behind top top' ps p less at is below =
    let q = panel_of workers s spans first (min (first + s.size) end) top in
    let same : p ≡ q = is ∙ ap (λ b. panel_of workers s spans first b top) at in
    let under : top' ≡ rows_bottom q.layout + gap = below ∙ ap (λ (q : PanelView). rows_bottom q.layout + gap) same in
    append_assoc ps (p ∷ []) (panels_from (s.panels - (i + 1)) workers s spans end gap behind top')
    ∙ ap (λ (l : List PanelView). ps ++ l)
    (ap₂ (λ (q : PanelView) (l : List PanelView). q ∷ l) same (ap₂ (λ b t. panels_from (s.panels - (i + 1)) workers s spans end gap b t) at under)
    ∙ sym (one_more s.panels i workers s spans end gap first top less))

pub last_shown_there : (shown : List Span) (ps : List PanelView) (p : PanelView) → last_shown shown (ps ++ p ∷ []) ≡ p.shown
last_shown_there shown [] p = refl
last_shown_there shown (q ∷ ps) p = last_shown_there q.shown ps p

-- rows go down from their top, and each lock and each lane has one
pub rows_below : (f : Layout) → f.top ≤ rows_bottom f
rows_below f = omega arith

higher : (locks lanes y : ℕ) (b : Bool) → locks + lanes ≤ y + locks * (if b then 14 else 10) + lanes * 3
higher locks lanes y true = omega arith
higher locks lanes y false = omega arith

pub counted_below : (f : Layout) → f.locks + f.lanes ≤ rows_bottom f
counted_below f = omega (arith, higher f.locks f.lanes (locks_y f) (nat_le f.locks 20))

-- the last panel ends below the first
down_to_last : (n workers : ℕ) (s : Scale) (spans : List Span) (end gap first top bottom : ℕ) → bottom ≤ top → bottom ≤ last_bottom bottom (panels_from n workers s spans end gap first top)
down_to_last zero workers s spans end gap first top bottom less = omega arith
down_to_last (suc n) workers s spans end gap first top bottom less =
    let behind = min (first + s.size) end in
    let here = rows_bottom (panel_of workers s spans first behind top).layout in
    let next : here ≤ last_bottom here (panels_from n workers s spans end gap behind (here + gap)) = down_to_last n workers s spans end gap behind (here + gap) here (omega arith) in
    let mine : top ≤ here = rows_below (panel_of workers s spans first behind top).layout in
    omega (arith, next, mine, less)

-- each is as high as its curve, its axis and its workers' rows at least
together : (n workers : ℕ) (s : Scale) (spans : List Span) (end gap first top bottom : ℕ) → bottom ≤ top
    → bottom + n * (82 + workers * (rows_of workers).height) ≤ last_bottom bottom (panels_from n workers s spans end gap first top)
together zero workers s spans end gap first top bottom less = omega (arith, less)
together (suc n) workers s spans end gap first top bottom less =
    let behind = min (first + s.size) end in
    let here = rows_bottom (panel_of workers s spans first behind top).layout in
    let deep = 82 + workers * (rows_of workers).height in
    let next : here + n * deep ≤ last_bottom here (panels_from n workers s spans end gap behind (here + gap)) = together n workers s spans end gap behind (here + gap) here (omega arith) in
    let mine : top + deep ≤ here = omega arith in
    let more : suc n * deep ≡ n * deep + deep = suc-mul n deep in
    omega (arith, next, mine, less, more)

begins_low : (b : Bool) (y : ℕ) → 56 ≤ (if b then 240 + y else 86)
begins_low true y = omega arith
begins_low false y = omega arith

pub high_at_least : (workers : ℕ) (s : Scale) (spans : List Span) (count : ℕ) → least_height workers s ≤ height_of (panels_with workers s spans count)
high_at_least workers s spans count =
    omega (arith, together s.panels workers s spans (count + 1) (30 + heading s) 1 (first_top workers s) 56 (begins_low (nat_lt 1 s.panels) (workers * run_row_height workers)))

last_append : (bottom : ℕ) (ps qs : List PanelView) → last_bottom bottom (ps ++ qs) ≡ last_bottom (last_bottom bottom ps) qs
last_append bottom [] qs = refl
last_append bottom (p ∷ ps) qs = last_append (rows_bottom p.layout) ps qs

-- where a panel goes down so far, the picture does
pub too_high : (i workers : ℕ) (s : Scale) (spans : List Span) (end gap first top : ℕ) (ps all : List PanelView) → i < s.panels
    → ps ++ panels_from (s.panels - i) workers s spans end gap first top ≡ all
    → 2 ^ 32 ≤ rows_bottom (panel_of workers s spans first (min (first + s.size) end) top).layout → 2 ^ 32 ≤ height_of all
too_high i workers s spans end gap first top ps all less is high =
    let behind = min (first + s.size) end in
    let here = rows_bottom (panel_of workers s spans first behind top).layout in
    let rest = panels_from (s.panels - (i + 1)) workers s spans end gap behind (here + gap) in
    let next : here ≤ last_bottom here rest = down_to_last (s.panels - (i + 1)) workers s spans end gap behind (here + gap) here (omega arith) in
    let whole : last_bottom here rest ≡ last_bottom 56 all =
    sym (last_append 56 ps (panel_of workers s spans first behind top ∷ rest)
    ) ∙ (ap (λ l. last_bottom 56 (ps ++ l)) (sym (one_more s.panels i workers s spans end gap first top less)) ∙ ap (last_bottom 56) is) in
    omega (arith, next, whole, high)

-- the panel at hand is that of all spans
pub panel_is : (workers : ℕ) (s : Scale) {spans before rest : List Span} {first : ℕ} (behind top place : ℕ) (begun shown : List Span) (p : PanelView) → Carries spans first before rest
    → begun ≡ begun_before behind rest → shown ≡ filter (touches first behind) (before ++ begun) → place ≡ top → p ≡ panel_with workers s first behind place shown
    → p ≡ panel_of workers s spans first behind top
panel_is workers s {spans} {before} {rest} {first} behind top place begun shown p carries at is here panel =
    let all : shown ≡ filter (touches first behind) spans = is ∙ (ap (λ l. filter (touches first behind) (before ++ l)) at ∙ shows_all behind carries) in
    panel ∙ ap₂ (λ t l. panel_with workers s first behind t l) here all

-- and what it shows is carried on
pub carried : {spans before rest : List Span} {first : ℕ} (behind : ℕ) (begun later shown : List Span) (ps : List PanelView) (p : PanelView) → first ≤ behind → Carries spans first before rest
    → begun ≡ begun_before behind rest → later ≡ begun_from behind rest → shown ≡ filter (touches first behind) (before ++ begun) → p.shown ≡ shown
    → Carries spans behind (last_shown [] (ps ++ p ∷ [])) later
carried {spans} {before} {rest} {first} behind begun later shown ps p less carries at from is panel =
    let mine : filter (touches first behind) (before ++ begun_before behind rest) ≡ last_shown [] (ps ++ p ∷ []) =
    sym (ap (λ l. filter (touches first behind) (before ++ l)) at) ∙ (sym is ∙ (sym panel ∙ sym (last_shown_there [] ps p))) in
    subst (λ l. Carries spans behind (last_shown [] (ps ++ p ∷ [])) l) (sym from)
    (subst (λ l. Carries spans behind l (begun_from behind rest)) mine (carries_on behind less carries))

-- why no panels are laid out
pub refused_so : {A : Type 0} (ps : List PanelView) (r : Result A LayoutFail) (fail : LayoutFail) → IsErrAnd r (λ f. f ≡ fail) → IsRefused ps fail → IfErr r (λ f. IsRefused ps f)
refused_so ps (Ok x) fail never why = absurd never
refused_so ps (Err f) fail same why = subst (IsRefused ps) (sym same) why

pub for_memory : (ps : List PanelView) (fail : LayoutFail) → fail ≡ NoMemory → IsRefused ps fail
for_memory ps fail is = subst (IsRefused ps) (sym is) tt

pub for_height : (ps : List PanelView) (fail : LayoutFail) → fail ≡ TooLarge → 2 ^ 32 ≤ height_of ps → IsRefused ps fail
for_height ps fail is high = subst (IsRefused ps) (sym is) high

-- the panel at hand would have too many locks, or lanes
pub for_locks : (i workers : ℕ) (s : Scale) (spans : List Span) (end gap first behind top : ℕ) (ps all : List PanelView) (p : PanelView) (fail : LayoutFail) → i < s.panels
    → ps ++ panels_from (s.panels - i) workers s spans end gap first top ≡ all → behind ≡ min (first + s.size) end → p ≡ panel_of workers s spans first behind top
    → IsRefusedPanel p fail → IsRefused all fail
for_locks i workers s spans end gap first behind top ps all p NoMemory less is at panel why = tt
for_locks i workers s spans end gap first behind top ps all p TooLarge less is at panel why =
    let q = panel_of workers s spans first (min (first + s.size) end) top in
    let same : p ≡ q = panel ∙ ap (λ b. panel_of workers s spans first b top) at in
    let many : 2 ^ 32 ≤ q.layout.locks + q.layout.lanes = subst (λ (x : PanelView). 2 ^ 32 ≤ x.layout.locks + x.layout.lanes) same why in
    too_high i workers s spans end gap first top ps all less is (omega (arith, many, counted_below q.layout))

-- the panel at hand would begin too far down
pub for_place : (i workers : ℕ) (s : Scale) (spans : List Span) (end gap first top : ℕ) (ps all : List PanelView) (fail : LayoutFail) → i < s.panels
    → ps ++ panels_from (s.panels - i) workers s spans end gap first top ≡ all → fail ≡ TooLarge → 2 ^ 32 ≤ top → IsRefused all fail
for_place i workers s spans end gap first top ps all fail less is large high =
    let q = panel_of workers s spans first (min (first + s.size) end) top in
    for_height all fail large (too_high i workers s spans end gap first top ps all less is (omega (arith, high, rows_below q.layout)))
