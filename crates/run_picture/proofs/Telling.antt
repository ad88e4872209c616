-- Two histories never give one picture: the lines of the entries, and the settings, are read off it.
use Rattle.std.proofs.Common.{◌≡◌, ◌<◌, ℕ, ◌+◌, List, [], ◌∷◌, ◌++◌, Bool, true, false, not, cond, Some, refl, sym, ap, ap₂, subst, ◌∙◌, append_assoc, arith, decimal, codes, get_or, drop}
use Rattle.std.specs.Prelude.{is_some}
use Rattle.std.specs.List.{list_all, AllByRecursion}
use Rattle.std.proofs.lemmas.Bool.{and_from, and_parts, true≢false, le-leb}
use Rattle.std.proofs.lemmas.List.{append_cancel_left}
use Rattle.lock_journal.specs.Names.{Entry, Kind}
use Rattle.lock_transforms.specs.declared.entries.Kind.TheVariants as kinds
use Rattle.history_text.specs.Text.{entry_text, numbered, kind_text, effect_text}
use Rattle.history_text.specs.Fitting.{EntryFits}
use Rattle.history_text.specs.Reading.{is_digit, entry_at}
use Rattle.history_text.proofs.lemmas.Spelled.{decimal_passes, entry_read_back}
use Rattle.history_text.proofs.lemmas.Splits.{SameParts}
use Rattle.run_picture.specs.Laws.{is_plain}
use Rattle.run_picture.specs.Shapes.{area_text}
use Rattle.run_picture.specs.Ticks.{line_of, tick_area, skip_area, skip_bar, skip_where, cross_at, cross_text, more_marks, marks_of}
use Rattle.picture_layout.specs.declared.layout.Layout.{Layout}
use Rattle.run_picture.specs.declared.shapes.Area.{Area}
use Rattle.run_picture.proofs.Plain.{line_plain}

-- the text doesn't go on with what passes a test
abbrev stops : (ℕ → Bool) → List ℕ → Bool
stops q [] = true
stops q (c ∷ r) = not (q c)

passes_not : (q : ℕ → Bool) (c : ℕ) → q c ≡ true → not (q c) ≡ true → ⊥
passes_not q c passes fails = true≢false (sym fails ∙ ap not passes)

same_front : (q : ℕ → Bool) (xs ys r s : List ℕ) → list_all q xs ≡ true → list_all q ys ≡ true → stops q r ≡ true → stops q s ≡ true → xs ++ r ≡ ys ++ s → SameParts xs ys r s
same_front q [] [] r s a b c d e = record { front = refl; rest = e }
same_front q [] (y ∷ ys) r s a b c d e = absurd (passes_not q y (and_parts (q y) (list_all q ys) b).0 (subst (λ l. stops q l ≡ true) e c))
same_front q (x ∷ xs) [] r s a b c d e = absurd (passes_not q x (and_parts (q x) (list_all q xs) a).0 (subst (λ l. stops q l ≡ true) (sym e) d))
same_front q (x ∷ xs) (y ∷ ys) r s a b c d e =
    let first : x ≡ y = ap (λ (l : List ℕ). get_or l 0 0) e in
    let others : xs ++ r ≡ ys ++ s = ap (λ (l : List ℕ). drop 1 l) e in
    let more = same_front q xs ys r s (and_parts (q x) (list_all q xs) a).1 (and_parts (q y) (list_all q ys) b).1 c d others in
    record { front = ap₂ (λ z l. z ∷ l) first more.front; rest = more.rest }

digit_is : (d : ℕ) → d < 10 → is_digit (48 + d) ≡ true
digit_is d few = and_from _ _ (le-leb 48 (48 + d) (omega arith)) (le-leb (48 + d) 57 (omega arith))

some_is : {A : Type 0} {x y : A} → Some x ≡ Some y → x ≡ y
some_is e = cc

digits_of_number : (n : ℕ) → list_all is_digit (decimal n) ≡ true
digits_of_number n = decimal_passes is_digit digit_is n

pub same_number : (m n : ℕ) (r s : List ℕ) → stops is_digit r ≡ true → stops is_digit s ≡ true → decimal m ++ r ≡ decimal n ++ s → SameParts (decimal m) (decimal n) r s
same_number m n r s c d e = same_front is_digit (decimal m) (decimal n) r s (digits_of_number m) (digits_of_number n) c d e

-- behind a place
nested_area : (a b c d e f g h q r : List ℕ) → (a ++ b) ++ (c ++ d) ++ (e ++ f) ++ (g ++ h) ++ q ++ r ≡ a ++ (b ++ (c ++ (d ++ (e ++ (f ++ (g ++ (h ++ (q ++ r))))))))
nested_area a b c d e f g h q r = simp append_assoc

area_form : (a : Area) (r : List ℕ) → area_text a ++ r
    ≡ codes "\" x=\"" ++ (decimal a.x ++ (codes "\" y=\"" ++ (decimal a.y ++ (codes "\" width=\"" ++ (decimal a.width ++ (codes "\" height=\"" ++ (decimal a.height ++ (codes "\"" ++ r))))))))
area_form a r = nested_area (codes "\" x=\"") (decimal a.x) (codes "\" y=\"") (decimal a.y) (codes "\" width=\"") (decimal a.width) (codes "\" height=\"") (decimal a.height) (codes "\"") r

same_area : (a b : Area) (r s : List ℕ) → area_text a ++ r ≡ area_text b ++ s → r ≡ s
same_area a b r s e =
    let x = same_number a.x b.x _ _ refl refl (append_cancel_left (codes "\" x=\"") _ _ (sym (area_form a r) ∙ (e ∙ area_form b s))) in
    let y = same_number a.y b.y _ _ refl refl (append_cancel_left (codes "\" y=\"") _ _ x.rest) in
    let w = same_number a.width b.width _ _ refl refl (append_cancel_left (codes "\" width=\"") _ _ y.rest) in
    let h = same_number a.height b.height _ _ refl refl (append_cancel_left (codes "\" height=\"") _ _ w.rest) in
    append_cancel_left (codes "\"") _ _ h.rest

-- what an entry shows beside its tick
nested_skip : (a b c d e f g h q r : List ℕ) → a ++ b ++ (c ++ d) ++ (e ++ f) ++ (g ++ h) ++ q ++ r ≡ a ++ (b ++ (c ++ (d ++ (e ++ (f ++ (g ++ (h ++ (q ++ r))))))))
nested_skip a b c d e f g h q r = simp append_assoc

skip_form : (a : Area) (n w t : ℕ) (r : List ℕ) → skip_bar a n w t ++ r
    ≡ (codes "<rect class=\"" ++ codes "n") ++ (area_text a ++ (codes "><title>task " ++ (decimal t ++ (codes " is skipped by w" ++ (decimal w ++ (codes ", entry " ++ (decimal n ++ (codes "</title></rect>\n" ++ r))))))))
skip_form a n w t r =
    nested_skip (codes "<rect class=\"" ++ codes "n") (area_text a) (codes "><title>task ") (decimal t) (codes " is skipped by w") (decimal w) (codes ", entry ") (decimal n) (codes "</title></rect>\n") r

same_skip : (a b : Area) (n w t : ℕ) (r s : List ℕ) → skip_bar a n w t ++ r ≡ skip_bar b n w t ++ s → r ≡ s
same_skip a b n w t r s e =
    let behind = same_area a b _ _ (append_cancel_left (codes "<rect class=\"" ++ codes "n") _ _ (sym (skip_form a n w t r) ∙ (e ∙ skip_form b n w t s))) in
    let task = append_cancel_left (decimal t) _ _ (append_cancel_left (codes "><title>task ") _ _ behind) in
    let worker = append_cancel_left (decimal w) _ _ (append_cancel_left (codes " is skipped by w") _ _ task) in
    append_cancel_left (codes "</title></rect>\n") _ _ (append_cancel_left (decimal n) _ _ (append_cancel_left (codes ", entry ") _ _ worker))

nested_cross : (a b c d e f g h q r : List ℕ) → (a ++ b) ++ (c ++ d) ++ e ++ (f ++ g ++ h) ++ q ++ r ≡ a ++ (b ++ (c ++ (d ++ (e ++ (f ++ (g ++ (h ++ (q ++ r))))))))
nested_cross a b c d e f g h q r = simp append_assoc

cross_form : (x y n : ℕ) (e : Entry) (r : List ℕ) → cross_at x y n e ++ r
    ≡ codes "<path class=\"s\" d=\"M" ++ (decimal x ++ (codes " " ++ (decimal y ++ (codes "l6 6m0-6l-6 6\"" ++ (codes "><title>" ++ (line_of n e ++ (codes "</title>" ++ (codes "</path>\n" ++ r))))))))
cross_form x y n e r = nested_cross (codes "<path class=\"s\" d=\"M") (decimal x) (codes " ") (decimal y) (codes "l6 6m0-6l-6 6\"") (codes "><title>") (line_of n e) (codes "</title>") (codes "</path>\n") r

same_cross : (x y v z n : ℕ) (e : Entry) (r s : List ℕ) → cross_at x y n e ++ r ≡ cross_at v z n e ++ s → r ≡ s
same_cross x y v z n e r s is =
    let across = same_number x v _ _ refl refl (append_cancel_left (codes "<path class=\"s\" d=\"M") _ _ (sym (cross_form x y n e r) ∙ (is ∙ cross_form v z n e s))) in
    let down = same_number y z _ _ refl refl (append_cancel_left (codes " ") _ _ across.rest) in
    let line = append_cancel_left (codes "><title>") _ _ (append_cancel_left (codes "l6 6m0-6l-6 6\"") _ _ down.rest) in
    append_cancel_left (codes "</path>\n") _ _ (append_cancel_left (codes "</title>") _ _ (append_cancel_left (line_of n e) _ _ line))

same_skip_where : (f g : Layout) (n w : ℕ) (k : Kind) (r s : List ℕ) → skip_where f n w k ++ r ≡ skip_where g n w k ++ s → r ≡ s
same_skip_where f g n w (kinds.Skip t) r s e = same_skip (skip_area f n w) (skip_area g n w) n w t r s e
same_skip_where f g n w (kinds.Start t) r s e = e
same_skip_where f g n w (kinds.End t) r s e = e
same_skip_where f g n w (kinds.Submit a) r s e = e
same_skip_where f g n w (kinds.Park a) r s e = e
same_skip_where f g n w (kinds.Resume a) r s e = e
same_skip_where f g n w (kinds.Claim u) r s e = e
same_skip_where f g n w (kinds.Close d) r s e = e
same_skip_where f g n w (kinds.Block u) r s e = e
same_skip_where f g n w (kinds.Unblock d) r s e = e
same_skip_where f g n w kinds.Acquire r s e = e
same_skip_where f g n w kinds.HandBack r s e = e

same_cross_text : (f g : Layout) (n : ℕ) (e : Entry) (r s : List ℕ) → cross_text f n e ++ r ≡ cross_text g n e ++ s → r ≡ s
unfolding cross_text
same_cross_text f g n e r s is = same_cross _ _ _ _ n e r s is

same_more : (f g : Layout) (n : ℕ) (e : Entry) (r s : List ℕ) → more_marks f n e ++ r ≡ more_marks g n e ++ s → r ≡ s
same_more f g n e r s is = at (is_some e.changes) is
  where
    at : (b : Bool) → cond b (skip_where f n e.worker.0 e.kind) (cross_text f n e) ++ r ≡ cond b (skip_where g n e.worker.0 e.kind) (cross_text g n e) ++ s → r ≡ s
    at true is = same_skip_where f g n e.worker.0 e.kind r s is
    at false is = same_cross_text f g n e r s is

-- an entry is read off its marks
nested_line : (a b c d e f g h : List ℕ) → a ++ b ++ c ++ d ++ e ++ f ++ g ++ h ≡ a ++ (b ++ c) ++ (d ++ e) ++ f ++ g ++ h
nested_line a b c d e f g h = simp append_assoc

line_form : (n : ℕ) (e : Entry) → entry_text n e ≡ line_of n e ++ codes "\n"
unfolding line_of
line_form n e = nested_line (decimal n) (codes " w") (decimal e.worker.0) (codes " ") (kind_text e.kind) (codes " | ") (effect_text e.changes) (codes "\n")

nested_marks : (a b c d e f g r : List ℕ) → a ++ b ++ (c ++ d ++ e) ++ f ++ g ++ r ≡ a ++ (b ++ (c ++ (d ++ (e ++ (f ++ (g ++ r))))))
nested_marks a b c d e f g r = simp append_assoc

marks_form : (f : Layout) (n : ℕ) (e : Entry) (r : List ℕ) → marks_of f n e ++ r
    ≡ (codes "<rect class=\"" ++ codes "t") ++ (area_text (tick_area f n e.worker.0) ++ (codes "><title>" ++ (line_of n e ++ (codes "</title>" ++ (codes "</rect>\n" ++ (more_marks f n e ++ r))))))
marks_form f n e r =
    nested_marks (codes "<rect class=\"" ++ codes "t") (area_text (tick_area f n e.worker.0)) (codes "><title>") (line_of n e) (codes "</title>") (codes "</rect>\n") (more_marks f n e) r

same_entry : (n : ℕ) (d e : Entry) → EntryFits d → EntryFits e → line_of n d ≡ line_of n e → d ≡ e
same_entry n d e fits fits' is =
    let texts : entry_text n d ++ [] ≡ entry_text n e ++ [] = ap (λ l. l ++ []) (line_form n d ∙ (ap (λ l. l ++ codes "\n") is ∙ sym (line_form n e))) in
    ap (λ (y : Entry × List ℕ). y.0) (some_is (sym (entry_read_back n d [] fits) ∙ (ap (entry_at n) texts ∙ entry_read_back n e [] fits')))

record SameEntry (d e : Entry) (r s : List ℕ) : Type 0 where
  entry : d ≡ e
  rest : r ≡ s

same_marks : (f g : Layout) (n : ℕ) (d e : Entry) (r s : List ℕ) → EntryFits d → EntryFits e → marks_of f n d ++ r ≡ marks_of g n e ++ s → SameEntry d e r s
same_marks f g n d e r s fits fits' is =
    let behind = same_area (tick_area f n d.worker.0) (tick_area g n e.worker.0) _ _ (append_cancel_left (codes "<rect class=\"" ++ codes "t") _ _ (sym (marks_form f n d r) ∙ (is ∙ marks_form g n e s))) in
    let lines = same_front is_plain (line_of n d) (line_of n e) _ _ (line_plain n d) (line_plain n e) refl refl (append_cancel_left (codes "><title>") _ _ behind) in
    let same = same_entry n d e fits fits' lines.front in
    let more : more_marks f n d ++ r ≡ more_marks g n e ++ s = append_cancel_left (codes "</rect>\n") _ _ (append_cancel_left (codes "</title>") _ _ lines.rest) in
    record { entry = same; rest = same_more f g n d r s (more ∙ ap (λ x. more_marks g n x ++ s) (sym same)) }

abbrev pub foot : List ℕ
foot = codes "</g>\n</svg>\n"

-- the foot is no mark
no_mark : (f : Layout) (n : ℕ) (e : Entry) (r : List ℕ) → foot ≡ marks_of f n e ++ r → ⊥
no_mark f n e r is =
    let second : 47 ≡ 114 = ap (λ (l : List ℕ). get_or l 1 0) (is ∙ marks_form f n e r) in
    absurd (omega (arith, second))

abbrev pub ticks_by : (ℕ → Layout) → ℕ → List Entry → List ℕ
ticks_by f n es = numbered (λ m e. marks_of (f m) m e) n es

pub same_ticks : (f g : ℕ → Layout) (n : ℕ) (ds es : List Entry) → AllByRecursion EntryFits ds → AllByRecursion EntryFits es → ticks_by f n ds ++ foot ≡ ticks_by g n es ++ foot → ds ≡ es
same_ticks f g n [] [] a b is = refl
same_ticks f g n [] (e ∷ es) a b is = absurd (no_mark (g n) n e (ticks_by g (n + 1) es ++ foot) (is ∙ append_assoc (marks_of (g n) n e) (ticks_by g (n + 1) es) foot))
same_ticks f g n (d ∷ ds) [] a b is = absurd (no_mark (f n) n d (ticks_by f (n + 1) ds ++ foot) (sym is ∙ append_assoc (marks_of (f n) n d) (ticks_by f (n + 1) ds) foot))
same_ticks f g n (d ∷ ds) (e ∷ es) a b is =
    let one = same_marks (f n) (g n) n d e (ticks_by f (n + 1) ds ++ foot) (ticks_by g (n + 1) es ++ foot) a.0 b.0
    (sym (append_assoc (marks_of (f n) n d) (ticks_by f (n + 1) ds) foot) ∙ (is ∙ append_assoc (marks_of (g n) n e) (ticks_by g (n + 1) es) foot)) in
    ap₂ (λ x l. x ∷ l) one.entry (same_ticks f g (n + 1) ds es a.1 b.1 one.rest)
