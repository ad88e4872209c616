use Rattle.std.proofs.Common.{◌≡◌, ◌≤◌, ◌<◌, ℕ, ◌+◌, ◌-◌, List, [], ◌∷◌, ◌++◌, length, get_or, refl, sym, ap, ◌∙◌, append_assoc, arith}
use Rattle.std.proofs.lemmas.List.{append-nil}
use Rattle.ready_work.specs.LinkedLists.{list_from, no_link}
use Rattle.ready_work.specs.declared.linked_lists.Link.{Link}
use Rattle.ready_work.proofs.Links.{first_from, none_from}
use Rattle.ready_work.proofs.linked_lists.append.Goals as goal

pub loop-next-smaller : goal.loop-next-smaller
loop-next-smaller c =
    let lt : c.loop-next.next - 1 < length c.args.links.now = omega (arith, c.loop-next.invariant.0, c.loop-next-test.true) in
    omega (arith, c.requires.nexts (c.loop-next.next - 1) lt, c.loop-next-test.true)

pub loop-next-preserved : goal.loop-next-preserved
loop-next-preserved c =
    let links : List Link = c.args.links.now in
    let i : ℕ = c.loop-next.next - 1 in
    let l : Link = get_or links i no_link in
    let lt : i < length links = omega (arith, c.loop-next.invariant.0, c.loop-next-test.true) in
    let low : l.next ≤ i = c.requires.nexts i lt in
    let here : i + 1 ≡ c.loop-next.next = omega (arith, c.loop-next-test.true) in (
      omega (arith, low, lt),
      ap (λ (ns : List ℕ). ns ++ list_from links l.next) c.in_ok-push.ensures.items
          ∙ append_assoc c.loop-next.numbers.items (l.number ∷ []) (list_from links l.next)
          ∙ ap (λ (ns : List ℕ). c.loop-next.numbers.items ++ ns) (sym (first_from links i l lt refl low) ∙ ap (list_from links) here)
          ∙ c.loop-next.invariant.1,
    )

pub returns : goal.returns
returns c =
    let zero : c.loop-next.next ≡ 0 = omega (arith, c.loop-next-test.false) in
    sym (append-nil c.loop-next.numbers.items)
    ∙ ap (λ (ns : List ℕ). c.loop-next.numbers.items ++ ns) (sym (ap (list_from c.args.links.now) zero ∙ none_from c.args.links.now))
    ∙ c.loop-next.invariant.1
