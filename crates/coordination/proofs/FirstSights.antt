-- What the passes of a service show that was just opened.
use Rattle.std.proofs.Common.{◌≡◌, ℕ, zero, suc, ◌<◌, List, length, get_or, map, refl, sym, ap, ◌∙◌, subst, arith}
use Rattle.std.specs.List.{All}
use Rattle.std.proofs.lemmas.List.{get_or-map, length-map}
use Rattle.std.proofs.lemmas.List.Elements.{All-weaker}
use Rattle.lock_journal.specs.Names.{IsAtRest, BookView}
use Rattle.coordination.specs.Names.{HoldsNothing, PassView, ServiceId, sights_from}
use Rattle.coordination.specs.declared.rule.Sight.{Sight}
use Rattle.worker_notes.proofs.lemmas.Nothing.{owns_nothing, runs_nothing}

first_sights : (w n : ℕ) (book : BookView) → All (λ (s : Sight). s.seen ≡ book) (sights_from w n book)
first_sights w zero book k d lt = absurd (omega arith)
first_sights w (suc n) book zero d lt = refl
first_sights w (suc n) book (suc k) d lt = first_sights (suc w) n book k d (omega arith)

-- each has seen the book
pub all_saw : (ps : List PassView) (n : ℕ) (book : BookView) → map (λ (p : PassView). p.sight) ps ≡ sights_from 0 n book → All (λ (p : PassView). p.sight.seen ≡ book) ps
all_saw ps n book are k d lt =
    let f : PassView → Sight = λ p. p.sight in
    let l : k < length (map f ps) = omega (arith, length-map ps f, lt) in
    ap (λ (s : Sight). s.seen) (sym (get_or-map f ps k d d.sight lt)) ∙ subst (All (λ (s : Sight). s.seen ≡ book)) (sym are) (first_sights 0 n book) k d.sight l

-- and holds nothing where the book is at rest
holds_nothing : (s : Sight) (book : BookView) → IsAtRest book.state → s.seen ≡ book → HoldsNothing s
holds_nothing s book rest is =
    let at_rest : IsAtRest s.seen.state = subst (λ (b : BookView). IsAtRest b.state) (sym is) rest in record {
      locks = owns_nothing s.seen.state s.worker at_rest;
      claimed = runs_nothing s.seen.state s.worker at_rest;
      holding = at_rest.holdings s.worker;
    }

pub all_rest : (ps : List PassView) (book : BookView) → IsAtRest book.state → All (λ (p : PassView). p.sight.seen ≡ book) ps → All (λ (p : PassView). HoldsNothing p.sight) ps
all_rest ps book rest saw = λ k d lt. holds_nothing (get_or ps k d).sight book rest (saw k d lt)

-- passes of one service are of one table
pub of_one_table : (s : ServiceId) (ps : List PassView) → All (λ (p : PassView). p.service ≡ s) ps → All (λ (p : PassView). p.service.table ≡ s.table) ps
of_one_table s ps are = All-weaker (λ (p : PassView). p.service ≡ s) (λ (p : PassView). p.service.table ≡ s.table) (λ p is. ap (λ (t : ServiceId). t.table) is) ps are
