use Rattle.std.proofs.Common.{◌≡◌, Some, None, ap, sym, not, map, subst, ◌∙◌, false, position, bytes_eq, arith}
use Rattle.std.specs.List.{list_any}
use Rattle.std.proofs.lemmas.List.{take_all}
use Rattle.plan_document.specs.View.{view}
use Rattle.plan_table.specs.Values.{text_of}
use Rattle.plan_reader.specs.NameNumbers.{has_name, number_of}
use Rattle.plan_reader.specs.Names.{once}
use Rattle.plan_reader.proofs.Numbered.{once_more}
use Rattle.plan_reader.proofs.Near.{found_number, found_within, found_name, none_more, no_name, one_of, one_unknown, all_known}
use Rattle.plan_reader.proofs.names.numbers_of.Goals as goal

pub add_number-requires-clause-within : goal.add_number-requires-clause-within
add_number-requires-clause-within c =
    let found : Some c.in-Some.number ≡ position (bytes_eq c.text_of.result.now) c.args.names.now = sym c.in-Some.is ∙ c.in_ok-number.ensures in
    omega (arith, found_within c.args.names.now c.text_of.result.now c.in-Some.number found, c.requires.len)

pub loop-value-preserved : goal.loop-value-preserved
loop-value-preserved c =
    let names = c.args.names.now in
    let t = c.text_of.result.now in
    let found : Some c.in-Some.number ≡ position (bytes_eq t) names = sym c.in-Some.is ∙ c.in_ok-number.ensures in (
      once_more (λ v. number_of names (text_of (view v))) c.args.values.now c.loop-value.value-index c.value-item.result _ _ _ c.loop-value-test.true c.value-item.is
          (found_number names t _ found ∙ ap (number_of names) c.text_of.ensures) c.loop-value.invariant.0 c.in_ok-add_number-in-Some.ensures.added,
      (
        none_more (λ v. not (has_name names (text_of (view v)))) c.args.values.now c.loop-value.value-index c.value-item.result c.loop-value-test.true c.value-item.is
            c.loop-value.invariant.1.0 (sym (ap (λ u. not (has_name names u)) c.text_of.ensures) ∙ found_name names t _ found),
        c.in_ok-add_number-in-Some.ensures.marked,
      ),
    )

pub returns-in-None-clause-numbers : goal.returns-in-None-clause-numbers
returns-in-None-clause-numbers c =
    let names = c.args.names.now in
    let t = c.text_of.result.now in
    let found : None ≡ position (bytes_eq t) names = sym c.in-None.is ∙ c.in_ok-number.ensures in
    one_unknown (λ v. text_of (view v)) names c.args.values.now
    (one_of (λ v. not (has_name names (text_of (view v)))) c.args.values.now c.loop-value.value-index c.value-item.result c.loop-value-test.true c.value-item.is
    (sym (ap (λ u. not (has_name names u)) c.text_of.ensures) ∙ no_name names t found))

pub returns-clause-numbers : goal.returns-clause-numbers
returns-clause-numbers c =
    let names = c.args.names.now in
    let whole = take_all _ c.args.values.now c.loop-value-test.false in
    all_known (λ v. text_of (view v)) names c.args.values.now c.loop-value.numbers.items
    (subst (λ vs. list_any (λ v. not (has_name names (text_of (view v)))) vs ≡ false) whole c.loop-value.invariant.1.0)
    (c.loop-value.invariant.0 ∙ ap (λ vs. once (map (λ v. number_of names (text_of (view v))) vs)) whole)
