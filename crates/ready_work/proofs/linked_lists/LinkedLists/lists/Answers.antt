use Rattle.std.proofs.Common.{◌≡◌, ◌<◌, ℕ, List, [], ◌∷◌, ◌++◌, length, get_or, sym, ap, ap₂, ◌∙◌, subst, arith}
use Rattle.std.proofs.lemmas.List.{map_more, take_all}
use Rattle.ready_work.specs.LinkedLists.{AreNextsBefore, list_from, lists_by}
use Rattle.resource_lock.specs.NumberLists.{AreEnds, lists_from}
use Rattle.ready_work.specs.declared.linked_lists.Link.{Link}
use Rattle.resource_lock.proofs.NumberRanges.{ends_push, lists_push}
use Rattle.ready_work.proofs.linked_lists.LinkedLists.lists.Goals as goal

pub append-requires-clause-within : goal.append-requires-clause-within
append-requires-clause-within c =
    let first : ℕ = get_or c.deref-first-items.result.now c.loop-first.first-index 0 in
    let read : first ≡ get_or c.self.inside.firsts.items c.loop-first.first-index 0 = ap (λ (ns : List ℕ). get_or ns c.loop-first.first-index 0) c.deref-first-items.ensures.value in
    let same = ap (λ (ns : List ℕ). length ns) c.deref-first-items.ensures.value in
    let lt : c.loop-first.first-index < length c.self.inside.firsts.items = omega (arith, same) in
    let low = c.self.invariant.firsts_within c.loop-first.first-index 0 lt in
    omega (arith, low, read, ap (λ (ls : List Link). length ls) c.deref.ensures.value)

pub append-requires-clause-nexts : goal.append-requires-clause-nexts
append-requires-clause-nexts c = subst AreNextsBefore (sym c.deref.ensures.value) c.self.invariant.nexts

pub loop-first-preserved : goal.loop-first-preserved
loop-first-preserved c =
    let links : List Link = c.self.inside.links.items in
    let firsts : List ℕ = c.self.inside.firsts.items in
    let i = c.loop-first.first-index in
    let first : ℕ = get_or c.deref-first-items.result.now i 0 in
    let read : first ≡ get_or firsts i 0 = ap (λ (ns : List ℕ). get_or ns i 0) c.deref-first-items.ensures.value in
    let same = ap (λ (ns : List ℕ). length ns) c.deref-first-items.ensures.value in
    let lt : i < length firsts = omega (arith, same) in
    let ns : List ℕ = c.loop-first.numbers.items in
    let es : List ℕ = c.loop-first.ends.items in
    let row : List ℕ = list_from links (get_or firsts i 0) in
    let numbers : c.append.new.numbers.items ≡ ns ++ row = c.in_ok-append.ensures ∙ ap₂ (λ (ls : List Link) (n : ℕ). ns ++ list_from ls n) c.deref.ensures.value read in
    let end : c.in_ok-number_of.field-0 ≡ length (ns ++ row) = c.in_ok-number_of.ensures ∙ c.len-in-loop-first.ensures ∙ c.append.new.numbers.ok.0 ∙ ap length numbers in
    let ends : c.push.new.self.items ≡ es ++ length (ns ++ row) ∷ [] = c.in_ok-push.ensures.items ∙ ap (λ e. es ++ e ∷ []) end in (
      ap₂ (λ (l e : List ℕ). lists_from l 0 e) numbers ends
          ∙ lists_push ns row 0 es c.loop-first.invariant.1
          ∙ ap (λ ls. ls ++ row ∷ []) c.loop-first.invariant.0
          ∙ sym (map_more (list_from links) firsts i 0 lt),
      subst (λ (l : List ℕ). AreEnds (length l) 0 c.push.new.self.items) (sym numbers) (subst (AreEnds (length (ns ++ row)) 0) (sym ends) (ends_push ns row 0 es c.loop-first.invariant.1)),
    )

pub from_ranges-requires : goal.from_ranges-requires
from_ranges-requires c = c.loop-first.invariant.1

pub returns : goal.returns
returns c =
    c.from_ranges.ensures
    ∙ c.loop-first.invariant.0
    ∙ ap (lists_by c.self.inside.links.items) (take_all c.loop-first.first-index c.self.inside.firsts.items (omega (arith, c.loop-first-test.false)))
    ∙ c.self.view_is
