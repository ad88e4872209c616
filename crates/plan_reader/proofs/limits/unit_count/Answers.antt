use Rattle.std.proofs.Common.{◌≡◌, ◌+◌, is_some, ap, sym, ◌∙◌, inl, inr}
use Rattle.std.proofs.lemmas.Bool.{cases_Bool}
use Rattle.plan_document.specs.View.{view}
use Rattle.plan_table.specs.Keys.{fetch_of}
use Rattle.plan_reader.proofs.Lists.{length_of_seen, is_some_of_seen}
use Rattle.plan_reader.proofs.limits.unit_count.Goals as goal

pub returns : goal.returns
returns c =
    let long = length_of_seen view _ _ c.items_of.ensures in
    let same : is_some (fetch_of (view c.args.action.now)) ≡ c.is_some.result = sym (c.is_some.ensures ∙ is_some_of_seen (λ s. s.now) c.fetch_of.result _ c.fetch_of.ensures) in
    elim (cases_Bool c.is_some.result) [
      | inl fetches ↦
          let one : c.from.result ≡ 1 = rw fetches at c.from.ensures in
          rw (one, same, fetches) (ap (λ n. n + 1) long)
      | inr idle ↦
          let none : c.from.result ≡ 0 = rw idle at c.from.ensures in
          rw (none, same, idle) (ap (λ n. n + 0) long)
    ]
