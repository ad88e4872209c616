use Rattle.std.proofs.Common.{◌≡◌, ◌-◌, length, take, ◌++◌, Option, sym, ◌∙◌, ap, subst}
use Rattle.std.specs.Prelude.{IfSome, slice_get}
use Rattle.lock_journal.specs.Names.{Entry, ClosesWithin, HistoryView}
use Rattle.lock_journal.proofs.Behind.{front_behind, last_behind, some_kept}
use Rattle.lock_journal.proofs.histories.History.pop.Goals as goal

pub pop-requires-clause-some_entry : goal.pop-requires-clause-some_entry
pop-requires-clause-some_entry c = some_kept c.self.inside.past c.self.inside.kept c.args.self.now c.self.view_is c.self.invariant.0 c.requires.some_entry

pub pop-requires-clause-closes : goal.pop-requires-clause-closes
pop-requires-clause-closes c =
    let some = some_kept c.self.inside.past c.self.inside.kept c.args.self.now c.self.view_is c.self.invariant.0 c.requires.some_entry in
    let last : slice_get c.args.self.now.entries (length c.args.self.now.entries - 1) ≡ slice_get c.self.inside.kept.entries (length c.self.inside.kept.entries - 1) =
    ap (λ (h : HistoryView). slice_get h.entries (length h.entries - 1)) (sym c.self.view_is) ∙ last_behind c.self.inside.past c.self.inside.kept.entries some in
    subst (λ n. IfSome (slice_get c.self.inside.kept.entries (length c.self.inside.kept.entries - 1)) (λ (e : Entry). ClosesWithin n e.kind)) (sym (ap (λ (h : HistoryView). h.units) c.self.view_is))
    (subst (λ (o : Option Entry). IfSome o (λ (e : Entry). ClosesWithin c.args.self.now.units e.kind)) last c.requires.closes)

pub returns-clause-entries : goal.returns-clause-entries
returns-clause-entries c =
    let some = some_kept c.self.inside.past c.self.inside.kept c.args.self.now c.self.view_is c.self.invariant.0 c.requires.some_entry in
    ap (λ es. c.self.inside.past ++ es) c.pop.ensures.entries
    ∙ front_behind c.self.inside.past c.self.inside.kept.entries some
    ∙ ap (λ (h : HistoryView). take (length h.entries - 1) h.entries) c.self.view_is
