-- the range of the list at the place
use Rattle.std.proofs.Common.{◌≡◌, ◌<◌, ℕ, List, [], length, sym, ap, ◌∙◌, arith}
use Rattle.std.specs.List.{slice_index_or, slice_range}
use Rattle.std.proofs.lemmas.List.{get_or_default}
use Rattle.resource_lock.specs.NumberLists.{start_at}
use Rattle.resource_lock.proofs.NumberRanges.{length-lists_from, list_at, range_at}
use Rattle.resource_lock.proofs.number_lists.NumberLists.at.Goals as goal

pub start_at-start-requires : goal.start_at-start-requires
start_at-start-requires c =
    let lt : c.args.place < length c.self.inside.ends.items = omega (arith, c.requires, ap (λ (d : List (List ℕ)). length d) c.self.view_is, length-lists_from c.self.inside.numbers.items 0 c.self.inside.ends.items) in
    omega (arith, lt, ap (λ (es : List ℕ). length es) c.deref.ensures.value)

pub index-end-requires : goal.index-end-requires
index-end-requires c =
    let lt : c.args.place < length c.self.inside.ends.items = omega (arith, c.requires, ap (λ (d : List (List ℕ)). length d) c.self.view_is, length-lists_from c.self.inside.numbers.items 0 c.self.inside.ends.items) in
    omega (arith, lt, c.self.inside.ends.ok.0)

pub part-requires-clause-ordered : goal.part-requires-clause-ordered
part-requires-clause-ordered c =
    let lt : c.args.place < length c.self.inside.ends.items = omega (arith, c.requires, ap (λ (d : List (List ℕ)). length d) c.self.view_is, length-lists_from c.self.inside.numbers.items 0 c.self.inside.ends.items) in
    let read : c.index-end.result.now ≡ slice_index_or c.self.inside.ends.items c.args.place 0 = c.index-end.ensures ∙ get_or_default c.self.inside.ends.items c.args.place c.index-end.result.now 0 lt in
    let first : c.start_at-start.result ≡ start_at 0 c.self.inside.ends.items c.args.place = c.start_at-start.ensures ∙ ap (λ (es : List ℕ). start_at 0 es c.args.place) c.deref.ensures.value in
    let range = range_at (length c.self.inside.numbers.items) 0 c.self.inside.ends.items c.args.place c.self.invariant lt in
    omega (arith, range.0, first, read)

pub part-requires-clause-bounded : goal.part-requires-clause-bounded
part-requires-clause-bounded c =
    let lt : c.args.place < length c.self.inside.ends.items = omega (arith, c.requires, ap (λ (d : List (List ℕ)). length d) c.self.view_is, length-lists_from c.self.inside.numbers.items 0 c.self.inside.ends.items) in
    let read : c.index-end.result.now ≡ slice_index_or c.self.inside.ends.items c.args.place 0 = c.index-end.ensures ∙ get_or_default c.self.inside.ends.items c.args.place c.index-end.result.now 0 lt in
    let first : c.start_at-start.result ≡ start_at 0 c.self.inside.ends.items c.args.place = c.start_at-start.ensures ∙ ap (λ (es : List ℕ). start_at 0 es c.args.place) c.deref.ensures.value in
    let range = range_at (length c.self.inside.numbers.items) 0 c.self.inside.ends.items c.args.place c.self.invariant lt in
    omega (arith, range.1, read, ap (λ (ns : List ℕ). length ns) c.deref-2.ensures.value)

pub returns : goal.returns
returns c =
    let lt : c.args.place < length c.self.inside.ends.items = omega (arith, c.requires, ap (λ (d : List (List ℕ)). length d) c.self.view_is, length-lists_from c.self.inside.numbers.items 0 c.self.inside.ends.items) in
    let read : c.index-end.result.now ≡ slice_index_or c.self.inside.ends.items c.args.place 0 = c.index-end.ensures ∙ get_or_default c.self.inside.ends.items c.args.place c.index-end.result.now 0 lt in
    let first : c.start_at-start.result ≡ start_at 0 c.self.inside.ends.items c.args.place = c.start_at-start.ensures ∙ ap (λ (es : List ℕ). start_at 0 es c.args.place) c.deref.ensures.value in
    c.part.ensures
    ∙ ap (λ (ns : List ℕ). slice_range ns c.start_at-start.result c.index-end.result.now) c.deref-2.ensures.value
    ∙ ap (λ (n : ℕ). slice_range c.self.inside.numbers.items n c.index-end.result.now) first
    ∙ ap (slice_range c.self.inside.numbers.items (start_at 0 c.self.inside.ends.items c.args.place)) read
    ∙ sym (list_at c.self.inside.numbers.items 0 c.self.inside.ends.items c.args.place lt)
    ∙ ap (λ (d : List (List ℕ)). slice_index_or d c.args.place []) c.self.view_is
