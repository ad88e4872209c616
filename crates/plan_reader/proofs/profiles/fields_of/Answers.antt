use Rattle.std.proofs.Common.{◌≡◌, ap, codes, map, string_bytes, sym, refl, ◌∙◌}
use Rattle.plan_document.specs.View.{view}
use Rattle.plan_table.specs.Values.{elements, table_pairs, text_of, text_or}
use Rattle.plan_table.specs.Keys.{executable_of, args_of, properties_of, variables_of, encoding_of}
use Rattle.plan_table.proofs.lemmas.Lists.{map_of_map}
use Rattle.plan_reader.specs.Planned.{pair_of}
use Rattle.plan_reader.proofs.profiles.fields_of.Goals as goal

pub returns-clause-fields : goal.returns-clause-fields
returns-clause-fields c =
    let d = view c.args.requirements in
    let args : c.in_ok-texts_of.field-0.items ≡ args_of d =
    c.in_ok-texts_of.ensures
    ∙ c.take_args.ensures.args
    ∙ ap (λ o. map text_of (elements o)) (c.take_executable.ensures.others (codes "args") refl)
    in
    let properties : c.in_ok-pairs_of.field-0.items ≡ map pair_of (properties_of d) =
    c.in_ok-pairs_of.ensures.pairs
    ∙ sym (map_of_map pair_of (λ e. (string_bytes e.0, text_of (view e.1))) c.take_properties.result.items)
    ∙ ap (map pair_of) (c.take_properties.ensures.properties
    ∙ ap table_pairs (c.take_args.ensures.others (codes "properties") refl ∙ c.take_executable.ensures.others (codes "properties") refl))
    in
    let variables : c.in_ok-pairs_of-2.field-0.items ≡ map pair_of (variables_of d) =
    c.in_ok-pairs_of-2.ensures.pairs
    ∙ sym (map_of_map pair_of (λ e. (string_bytes e.0, text_of (view e.1))) c.take_variables.result.items)
    ∙ ap (map pair_of) (c.take_variables.ensures.variables
    ∙ ap table_pairs (c.take_properties.ensures.others (codes "variables") refl ∙ c.take_args.ensures.others (codes "variables") refl ∙ c.take_executable.ensures.others (codes "variables") refl))
    in
    let encoding : c.in_ok-take_encoding.field-0 ≡ encoding_of d =
    c.in_ok-take_encoding.ensures.encoding
    ∙ ap (text_or (codes "UTF-8"))
    (c.take_variables.ensures.others (codes "encoding") refl
    ∙ c.take_properties.ensures.others (codes "encoding") refl
    ∙ c.take_args.ensures.others (codes "encoding") refl
    ∙ c.take_executable.ensures.others (codes "encoding") refl)
    in
    let executable : c.in_ok-take_executable.field-0 ≡ executable_of d = c.in_ok-take_executable.ensures.executable in
    λ i. record {
      executable = executable i;
      heap_mb = c.heap_mb_of.ensures i;
      args = args i;
      properties = properties i;
      variables = variables i;
      debug = c.debug_of.ensures i;
      assertions = c.assertions_of.ensures i;
      encoding = encoding i;
      keep = c.mode_of.ensures i;
    }
