use Rattle.std.proofs.Common.{ℕ, List, not, sym, ap, ◌∙◌}
use Rattle.std.specs.List.{list_any}
use Rattle.plan_document.specs.View.{view}
use Rattle.plan_table.specs.Values.{text_of}
use Rattle.plan_table.proofs.lemmas.Lists.{any_of_map}
use Rattle.plan_reader.specs.NameNumbers.{has_name}
use Rattle.plan_reader.proofs.rows.lacks_task.Goals as goal

pub returns : goal.returns
returns c =
    let test = λ (name : List ℕ). not (has_name c.args.names.now name) in
    c.lacks_any.ensures ∙ sym (any_of_map test (λ v. text_of (view v)) _) ∙ ap (list_any test) c.after_of.ensures
