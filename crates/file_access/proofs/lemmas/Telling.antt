-- Texts that were printed one after another are one text.
use Rattle.std.proofs.Common.{Result, Ok, Err, ◌≡◌, ℕ, List, [], ◌++◌, Bool, true, false, refl, sym, ap, subst, ◌∙◌, append_assoc, append-nil}
use Rattle.std.specs.Result.{is_err}
use Rattle.file_access.specs.SinkView.{SinkView, Wrote, Broke, Prints}
use Rattle.file_access.specs.PageView.{PageView, PrintedAs, Printed, Adds, blank}
use Rattle.file_access.proofs.lemmas.Printing.{broke_early, broke_then, wrote_then, wrote_nothing}

printed_along : (start seen : SinkView) (page_view : PageView) {x y : List ℕ} → x ≡ y → Printed start seen page_view x → Printed start seen page_view y
printed_along start seen page_view e h = subst (Printed start seen page_view) e h

pub adds_nothing : (seen : SinkView) (page_view : PageView) → Adds seen page_view seen page_view []
adds_nothing seen page_view = record { printed = λ start before h. printed_along start seen page_view (sym (append-nil before)) h }

pub adds_then : {a b c : SinkView} {p q r : PageView} {x y : List ℕ} → Adds a p b q x → Adds b q c r y → Adds a p c r (x ++ y)
adds_then {a} {b} {c} {p} {q} {r} {x} {y} one two = record {
  printed = λ start before h. printed_along start c r (append_assoc before x y) (two.printed start (before ++ x) (one.printed start before h));
}

-- what waits, and then the piece
pub adds_waiting : (seen : SinkView) (waiting piece : List ℕ) (failed : Bool) → Adds seen (record { waiting = waiting; failed = failed }) seen (record { waiting = waiting ++ piece; failed = failed }) piece
adds_waiting seen waiting piece false = record { printed = λ start before h. (h.0, ap (λ l. l ++ piece) h.1 ∙ append_assoc h.0 waiting piece, h.2) }
adds_waiting seen waiting piece true = record { printed = λ start before h. broke_early piece h }

-- what waited was put
pub adds_sent : {A E : Type 0} (a b : SinkView) (waiting : List ℕ) (failed : Bool) (r : Result A E) → failed ≡ false → Prints a b waiting r → Adds a (record { waiting = waiting; failed = failed }) b (record { waiting = []; failed = is_err r }) []
adds_sent a b waiting failed (Ok x) e p = record {
  printed = λ start before h.
      let h' = subst (λ (f : Bool). PrintedAs f start a waiting before) e h in
      (before, refl, subst (Wrote start b) (sym h'.1) (wrote_then h'.2 p));
}
adds_sent a b waiting failed (Err x) e p = record {
  printed = λ start before h.
      let h' = subst (λ (f : Bool). PrintedAs f start a waiting before) e h in
      subst (Broke start b) (sym h'.1 ∙ sym (append-nil before)) (broke_then h'.2 p);
}

-- the piece was put, with nothing waiting
pub adds_put : {A E : Type 0} (a b : SinkView) (waiting piece : List ℕ) (failed : Bool) (r : Result A E) → failed ≡ false → waiting ≡ [] → Prints a b piece r → Adds a (record { waiting = waiting; failed = failed }) b (record { waiting = waiting; failed = is_err r }) piece
adds_put a b waiting piece failed (Ok x) e none p = record {
  printed = λ start before h.
      let h' = subst (λ (f : Bool). PrintedAs f start a waiting before) e h in
      let whole : before ≡ h'.0 = h'.1 ∙ (ap (λ l. h'.0 ++ l) none ∙ append-nil h'.0) in
      (before ++ piece, sym (ap (λ l. (before ++ piece) ++ l) none ∙ append-nil (before ++ piece)), subst (λ (l : List ℕ). Wrote start b (l ++ piece)) (sym whole) (wrote_then h'.2 p));
}
adds_put a b waiting piece failed (Err x) e none p = record {
  printed = λ start before h.
      let h' = subst (λ (f : Bool). PrintedAs f start a waiting before) e h in
      let whole : before ≡ h'.0 = h'.1 ∙ (ap (λ l. h'.0 ++ l) none ∙ append-nil h'.0) in
      subst (λ (l : List ℕ). Broke start b (l ++ piece)) (sym whole) (broke_then h'.2 p);
}

-- once failed nothing more is printed
pub adds_failed : (a : SinkView) (waiting waiting' : List ℕ) (piece : List ℕ) (failed : Bool) → failed ≡ true → Adds a (record { waiting = waiting; failed = failed }) a (record { waiting = waiting'; failed = failed }) piece
adds_failed a waiting waiting' piece failed e = record {
  printed = λ start before h.
      subst (λ (f : Bool). PrintedAs f start a waiting' (before ++ piece)) (sym e) (broke_early piece (subst (λ (f : Bool). PrintedAs f start a waiting before) e h));
}

-- the same, at values that are known by equations
pub adds_sent_as : {A E : Type 0} (a b b' : SinkView) (p : PageView) (waiting : List ℕ) (failed f : Bool) (r : Result A E) → record { waiting = waiting; failed = failed } ≡ p → failed ≡ false → Prints a b' waiting r → b ≡ b' → f ≡ is_err r → Adds a p b (record { waiting = []; failed = f }) []
adds_sent_as a b b' p waiting failed f r view e prints same is =
    subst (λ (q : PageView). Adds a q b (record { waiting = []; failed = f }) []) view
    (subst (λ (x : SinkView). Adds a (record { waiting = waiting; failed = failed }) x (record { waiting = []; failed = f }) []) (sym same)
    (subst (λ (x : Bool). Adds a (record { waiting = waiting; failed = failed }) b' (record { waiting = []; failed = x }) []) (sym is) (adds_sent a b' waiting failed r e prints)))

pub adds_put_as : {A E : Type 0} (a b : SinkView) (p : PageView) (waiting piece : List ℕ) (failed f : Bool) (r : Result A E) → record { waiting = waiting; failed = failed } ≡ p → failed ≡ false → p.waiting ≡ [] → Prints a b piece r → f ≡ is_err r → Adds a p b (record { waiting = waiting; failed = f }) piece
adds_put_as a b p waiting piece failed f r view e none prints is =
    subst (λ (q : PageView). Adds a q b (record { waiting = waiting; failed = f }) piece) view
    (subst (λ (x : Bool). Adds a (record { waiting = waiting; failed = failed }) b (record { waiting = waiting; failed = x }) piece) (sym is)
    (adds_put a b waiting piece failed r e (ap (λ (q : PageView). q.waiting) view ∙ none) prints))

pub adds_failed_as : (a b : SinkView) (p : PageView) (waiting waiting' piece : List ℕ) (failed f : Bool) → record { waiting = waiting; failed = failed } ≡ p → failed ≡ true → b ≡ a → f ≡ failed → Adds a p b (record { waiting = waiting'; failed = f }) piece
adds_failed_as a b p waiting waiting' piece failed f view e same is =
    subst (λ (q : PageView). Adds a q b (record { waiting = waiting'; failed = f }) piece) view
    (subst (λ (x : SinkView). Adds a (record { waiting = waiting; failed = failed }) x (record { waiting = waiting'; failed = f }) piece) (sym same)
    (subst (λ (x : Bool). Adds a (record { waiting = waiting; failed = failed }) a (record { waiting = waiting'; failed = x }) piece) (sym is) (adds_failed a waiting waiting' piece failed e)))

-- on a page that begins blank the text that was added was printed
pub printed_from_blank : (a b : SinkView) (p q : PageView) (text : List ℕ) → p ≡ blank → Adds a p b q text → Printed a b q text
printed_from_blank a b p q text e adds = adds.printed a [] (subst (λ (r : PageView). Printed a a r []) (sym e) ([], refl, wrote_nothing a))

pub adds_as : {a b : SinkView} {p q : PageView} {x y : List ℕ} → x ≡ y → Adds a p b q x → Adds a p b q y
adds_as {a} {b} {p} {q} e adds = subst (Adds a p b q) e adds
