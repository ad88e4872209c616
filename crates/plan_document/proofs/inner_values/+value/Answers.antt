use Rattle.std.proofs.Common.{◌≡◌, ◌<◌, ◌-◌, ◌==◌, ◌||◌, true, false, length, le_refl, Some, inl, inr, rules, arith, ◌∙◌}
use Rattle.std.proofs.lemmas.Grind.{common_steps}
use Rattle.toml.proofs.Turns.{items_bad, items_bad_end, items_end, items_more, keyval_no_key, keyval_no_value, keyval_ok}
use Rattle.toml.proofs.Turns.{members_bad, members_bad_end, members_bad_put, members_end, members_more, val_atom, val_deep, val_open_array, val_open_table}
use Rattle.toml.specs.Parse.{key_equals, val}
use Rattle.toml_parser.proofs.StringsLemmas.{gives_err}
use Rattle.toml_parser.specs.Lexical.{first, skip_blank}
use Rattle.toml_parser.specs.Reading.{key_view}
use Rattle.plan_document.proofs.Views.{items_view-push, view-Array, view-Table}
use Rattle.plan_document.proofs.inner_values.+value.Goals as goal
use Rattle.plan_document.proofs.inner_values.+value.Goals.{value-in_default-via-in-91+else-levels-eq0+in_default, value-in_default-via-in_default}

pub items-each-init : goal.items-each-init
items-each-init t c = (search rules, le_refl _, λ n long. (n, long, rw c.new-read.ensures.items))

pub items-returns-then-first-eq93-clause-value : goal.items-returns-then-first-eq93-clause-value
items-returns-then-first-eq93-clause-value t c n long =
    let (left, short, same) = c.each.invariant.2 n long in
    let closes : (first (skip_blank c.each.unread.now) == 93) ≡ true = grind (arith, common_steps) in
    same ∙ items_end (val c.args.levels) left _ c.each.unread.now (omega arith) closes ∙ rw (c.skip.ensures.rest, c.skip_blank-here.ensures.rest)

pub items-returns-in_err-item-clause-value : goal.items-returns-in_err-item-clause-value
items-returns-in_err-item-clause-value t c n long =
    let (left, short, same) = c.each.invariant.2 n long in
    let here = c.skip_blank-here.ensures.rest in
    let goes_on : (first (skip_blank c.each.unread.now) == 93) ≡ false = grind (arith, common_steps) in
    gives_err _ c.from_residual.result _ c.in_err-item.field-0.0 _ c.from_residual.ensures.1 (λ e is. is) λ why.
    same ∙ items_bad (val c.args.levels) left _ c.each.unread.now (omega arith) goes_on (rw here at (c.in_err-item.ensures.value why))

pub items-returns-in_err-unread-clause-value : goal.items-returns-in_err-unread-clause-value
items-returns-in_err-unread-clause-value t c n long =
    let (left, short, same) = c.each.invariant.2 n long in
    let here = c.skip_blank-here.ensures.rest in
    let goes_on : (first (skip_blank c.each.unread.now) == 93) ≡ false = grind (arith, common_steps) in
    let read = rw here at c.in_ok-item.ensures.value in
    gives_err _ c.from_residual-in_err-unread.result _ c.in_err-unread.field-0.0 _ c.from_residual-in_err-unread.ensures.1 (λ e is. is) λ why.
    same ∙ items_bad_end (val c.args.levels) left _ c.each.unread.now _ _ (omega arith) goes_on read (c.in_err-unread.ensures.value why)

pub items-each-preserved : goal.items-each-preserved
items-each-preserved t c =
    let here = c.skip_blank-here.ensures.rest in
    let goes_on : (first (skip_blank c.each.unread.now) == 93) ≡ false = grind (arith, common_steps) in
    let read = rw here at c.in_ok-item.ensures.value in (
      search rules,
      omega (arith, c.each.invariant.1, c.skip_blank-here.ensures.within, c.in_ok-item.ensures.shorter, c.in_ok-unread.ensures.within),
      λ n long.
          let (left, short, same) = c.each.invariant.2 n long in
          let lower : length c.in_ok-unread.unread.now < left - 1 = omega (arith, short, c.skip_blank-here.ensures.within, c.in_ok-item.ensures.shorter, c.in_ok-unread.ensures.within) in
          (left - 1, lower, same ∙ items_more (val c.args.levels) left _ c.each.unread.now _ _ _ (omega arith) goes_on read c.in_ok-unread.ensures.value ∙ rw (c.in_ok-push.ensures.items, items_view-push c.each.read.items c.in_ok-item.item)),
    )

pub entries-each-init : goal.entries-each-init
entries-each-init t c = (search rules, le_refl _, λ n long. (n, long, rw c.new-read.ensures.empty))

pub entries-returns-then-first-eq125-clause-value : goal.entries-returns-then-first-eq125-clause-value
entries-returns-then-first-eq125-clause-value t c n long =
    let (left, short, same) = c.each.invariant.2 n long in
    let closes : (first (skip_blank c.each.unread.now) == 125) ≡ true = grind (arith, common_steps) in
    same ∙ members_end (val c.args.levels) left _ c.each.unread.now (omega arith) closes ∙ rw (c.skip.ensures.rest, c.skip_blank-here.ensures.rest, c.in_ok-close.ensures)

pub entries-returns-in_err-key-clause-value : goal.entries-returns-in_err-key-clause-value
entries-returns-in_err-key-clause-value t c n long =
    let (left, short, same) = c.each.invariant.2 n long in
    let here = c.skip_blank-here.ensures.rest in
    let goes_on : (first (skip_blank c.each.unread.now) == 125) ≡ false = grind (arith, common_steps) in
    gives_err _ c.from_residual-in_err-key.result _ c.in_err-key.field-0.0 _ c.from_residual-in_err-key.ensures.1 (λ e is. is) λ why.
    same ∙ members_bad (val c.args.levels) left _ c.each.unread.now (omega arith) goes_on (keyval_no_key (val c.args.levels) _ (rw here at (c.in_err-key.ensures.value why)))

pub entries-returns-in_err-value-clause-value : goal.entries-returns-in_err-value-clause-value
entries-returns-in_err-value-clause-value t c n long =
    let (left, short, same) = c.each.invariant.2 n long in
    let here = c.skip_blank-here.ensures.rest in
    let goes_on : (first (skip_blank c.each.unread.now) == 125) ≡ false = grind (arith, common_steps) in
    let key : key_equals (skip_blank c.each.unread.now) ≡ Some (key_view c.in_ok-key.key, c.in_ok-key.at_value.now) = rw here at c.in_ok-key.ensures.value in
    gives_err _ c.from_residual-in_err-value.result _ c.in_err-value.field-0.0 _ c.from_residual-in_err-value.ensures.1 (λ e is. is) λ why.
    same ∙ members_bad (val c.args.levels) left _ c.each.unread.now (omega arith) goes_on (keyval_no_value (val c.args.levels) _ _ _ key (c.in_err-value.ensures.value why))

pub entries-returns-in-Err-clause-value : goal.entries-returns-in-Err-clause-value
entries-returns-in-Err-clause-value t c n long why =
    let (left, short, same) = c.each.invariant.2 n long in
    let here = c.skip_blank-here.ensures.rest in
    let goes_on : (first (skip_blank c.each.unread.now) == 125) ≡ false = grind (arith, common_steps) in
    let key : key_equals (skip_blank c.each.unread.now) ≡ Some (key_view c.in_ok-key.key, c.in_ok-key.at_value.now) = rw here at c.in_ok-key.ensures.value in
    let read = keyval_ok (val c.args.levels) _ _ _ _ _ key c.in_ok-value.ensures.value in
    same ∙ members_bad_put (val c.args.levels) left _ c.each.unread.now _ _ _ (omega arith) goes_on read (c.in-Err.ensures (λ memory. why (c.between.ensures.1 memory)))

pub entries-returns-in_err-unread-clause-value : goal.entries-returns-in_err-unread-clause-value
entries-returns-in_err-unread-clause-value t c n long =
    let (left, short, same) = c.each.invariant.2 n long in
    let here = c.skip_blank-here.ensures.rest in
    let goes_on : (first (skip_blank c.each.unread.now) == 125) ≡ false = grind (arith, common_steps) in
    let key : key_equals (skip_blank c.each.unread.now) ≡ Some (key_view c.in_ok-key.key, c.in_ok-key.at_value.now) = rw here at c.in_ok-key.ensures.value in
    let read = keyval_ok (val c.args.levels) _ _ _ _ _ key c.in_ok-value.ensures.value in
    gives_err _ c.from_residual-in_err-unread.result _ c.in_err-unread.field-0.0 _ c.from_residual-in_err-unread.ensures.1 (λ e is. is) λ why.
    same ∙ members_bad_end (val c.args.levels) left _ _ c.each.unread.now _ _ _ (omega arith) goes_on read c.in_default.ensures (c.in_err-unread.ensures.value why)

pub entries-each-preserved : goal.entries-each-preserved
entries-each-preserved t c =
    let here = c.skip_blank-here.ensures.rest in
    let goes_on : (first (skip_blank c.each.unread.now) == 125) ≡ false = grind (arith, common_steps) in
    let key : key_equals (skip_blank c.each.unread.now) ≡ Some (key_view c.in_ok-key.key, c.in_ok-key.at_value.now) = rw here at c.in_ok-key.ensures.value in
    let read = keyval_ok (val c.args.levels) _ _ _ _ _ key c.in_ok-value.ensures.value in (
      search rules,
      omega (arith, c.each.invariant.1, c.skip_blank-here.ensures.within, c.in_ok-key.ensures.shorter, c.in_ok-value.ensures.shorter, c.in_ok-unread.ensures.within),
      λ n long.
          let (left, short, same) = c.each.invariant.2 n long in
          let lower : length c.in_ok-unread.unread.now < left - 1 = omega (arith, short, c.skip_blank-here.ensures.within, c.in_ok-key.ensures.shorter, c.in_ok-value.ensures.shorter, c.in_ok-unread.ensures.within) in
          (left - 1, lower, same ∙ members_more (val c.args.levels) left _ _ c.each.unread.now _ _ _ _ (omega arith) goes_on read c.in_default.ensures c.in_ok-unread.ensures.value),
    )

pub value-returns-in-91-clause-value : goal.value-returns-in-91-clause-value
value-returns-in-91-clause-value t c why =
    let opens : ((first c.args.text.now == 91) || (first c.args.text.now == 123)) ≡ true = elim c.in-91.is [
      | inl square ↦ grind (arith, common_steps)
      | inr curly ↦ grind (arith, common_steps)
    ] in
    rw c.if-levels-eq0.true (val_deep c.args.text.now opens)

pub value-returns-in_err-items-in-91-2-clause-value : goal.value-returns-in_err-items-in-91-2-clause-value
value-returns-in_err-items-in-91-2-clause-value t c =
    let square : (first c.args.text.now == 91) ≡ true = grind (arith, common_steps) in
    gives_err _ c.from_residual.result _ c.in_err-items-in-91-2.field-0.0 _ c.from_residual.ensures.1 (λ e is. is) λ why.
    val_open_array c.args.levels c.args.text.now (omega arith) square
    ∙ rw (← c.skip.ensures.rest, c.in_err-items-in-91-2.ensures.value (length c.args.text.now) c.skip.ensures.shorter why)

pub value-returns-in_err-entries-in-123-clause-value : goal.value-returns-in_err-entries-in-123-clause-value
value-returns-in_err-entries-in-123-clause-value t c =
    let square : (first c.args.text.now == 91) ≡ false = grind (arith, common_steps) in
    let curly : (first c.args.text.now == 123) ≡ true = grind (arith, common_steps) in
    gives_err _ c.from_residual-in_err-entries-in-123.result _ c.in_err-entries-in-123.field-0.0 _ c.from_residual-in_err-entries-in-123.ensures.1 (λ e is. is) λ why.
    val_open_table c.args.levels c.args.text.now (omega arith) square curly
    ∙ rw (← c.skip-in-123.ensures.rest, c.in_err-entries-in-123.ensures.value (length c.args.text.now) c.skip-in-123.ensures.shorter why)

pub value-returns-in_ok-items-in-91-2-clause-value : goal.value-returns-in_ok-items-in-91-2-clause-value
value-returns-in_ok-items-in-91-2-clause-value t c =
    let square : (first c.args.text.now == 91) ≡ true = grind (arith, common_steps) in
    val_open_array c.args.levels c.args.text.now (omega arith) square
    ∙ rw (← c.skip.ensures.rest, c.in_ok-items-in-91-2.ensures.value (length c.args.text.now) c.skip.ensures.shorter, view-Array c.in_ok-items-in-91-2.items)

pub value-returns-in_ok-entries-in-123-clause-value : goal.value-returns-in_ok-entries-in-123-clause-value
value-returns-in_ok-entries-in-123-clause-value t c =
    let square : (first c.args.text.now == 91) ≡ false = grind (arith, common_steps) in
    let curly : (first c.args.text.now == 123) ≡ true = grind (arith, common_steps) in
    val_open_table c.args.levels c.args.text.now (omega arith) square curly
    ∙ rw (← c.skip-in-123.ensures.rest, c.in_ok-entries-in-123.ensures.value (length c.args.text.now) c.skip-in-123.ensures.shorter, view-Table c.in_ok-entries-in-123.entries)

pub value-returns-in_default-clause-value : goal.value-returns-in_default-clause-value
value-returns-in_default-clause-value t c =
    let square : (first c.args.text.now == 91) ≡ false = elim c.in_default.branch [
      | value-in_default-via-in-91+else-levels-eq0+in_default w ↦ grind (arith, common_steps)
      | value-in_default-via-in_default w ↦ grind (arith, common_steps)
    ] in
    let curly : (first c.args.text.now == 123) ≡ false = elim c.in_default.branch [
      | value-in_default-via-in-91+else-levels-eq0+in_default w ↦ grind (arith, common_steps)
      | value-in_default-via-in_default w ↦ grind (arith, common_steps)
    ] in
    rw (val_atom c.args.levels c.args.text.now square curly) c.plain.ensures.value
