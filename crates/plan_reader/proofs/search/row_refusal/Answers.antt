use Rattle.std.proofs.Common.{◌≡◌, Some, None, refl, ap, sym, ◌∙◌}
use Rattle.plan_document.specs.View.{view}
use Rattle.plan_table.specs.Search.{first_place}
use Rattle.plan_reader.specs.Names.{names_in}
use Rattle.plan_reader.specs.Rows.{holds}
use Rattle.plan_reader.specs.Search.{refusal_of}
use Rattle.plan_reader.proofs.search.row_refusal.Goals as goal

pub returns-in-Some : goal.returns-in-Some
returns-in-Some c =
    let d = view c.args.document.now in
    let found : first_place (holds (names_in d) c.args.row) d ≡ Some c.in-Some.place = ap (λ names. first_place (holds names c.args.row) d) (sym c.requires.names) ∙ sym c.first_place.ensures ∙ c.in-Some.is in
    rw found (ap Some (c.refusal_of.ensures ∙ ap (λ table. refusal_of c.args.row table c.in-Some.place) c.table_at.ensures))

pub returns-in-None : goal.returns-in-None
returns-in-None c =
    let d = view c.args.document.now in
    let found : first_place (holds (names_in d) c.args.row) d ≡ None = ap (λ names. first_place (holds names c.args.row) d) (sym c.requires.names) ∙ sym c.first_place.ensures ∙ c.in-None.is in
    rw found refl
