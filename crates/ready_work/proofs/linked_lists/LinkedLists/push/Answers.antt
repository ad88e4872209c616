use Rattle.std.proofs.Common.{◌≡◌, ◌<◌, ◌+◌, ℕ, List, [], ◌∷◌, ◌++◌, length, get_or, set, sym, ap, ap₂, ◌∙◌, subst, arith}
use Rattle.std.proofs.lemmas.List.{get_or_default, length-map}
use Rattle.ready_work.specs.LinkedLists.{AreLinked, list_from, lists_by}
use Rattle.ready_work.specs.Rank.{Dependencies, after}
use Rattle.ready_work.specs.declared.linked_lists.Link.{Link}
use Rattle.ready_work.proofs.Links.{list_grows, sound_grown}
use Rattle.ready_work.proofs.linked_lists.LinkedLists.push.Goals as goal
use Rattle.ready_work.proofs.linked_lists.LinkedLists.push.Goals.{In_ok-push}

-- the list is one of them
within : (c : In_ok-push) → c.args.list < length c.self.inside.firsts.items
within c = omega (arith, c.requires, ap (λ (d : Dependencies). length d) c.self.view_is, length-map c.self.inside.firsts.items (list_from c.self.inside.links.items))

abbrev link : In_ok-push → Link
link c = record { number = c.args.number; next = c.index-next.result.now }

-- what the first link was
next_is : (c : In_ok-push) → (link c).next ≡ get_or c.self.inside.firsts.items c.args.list 0
next_is c = c.index-next.ensures ∙ get_or_default c.self.inside.firsts.items c.args.list c.index-next.result.now 0 (within c)

-- the first link is now the last of all
first_is : (c : In_ok-push) → c.in_ok-first.first ≡ length c.self.inside.links.items + 1
first_is c = c.in_ok-first.ensures ∙ ap (λ n. n + 1) (c.len.ensures ∙ c.self.inside.links.ok.0)

pub invariant_of-self : goal.invariant_of-self
invariant_of-self c = subst (λ (ls : List Link). AreLinked ls c.self.inside.firsts.items) (sym c.in_err-push.ensures.items) c.self.invariant

pub invariant_of-self-2 : goal.invariant_of-self-2
invariant_of-self-2 c =
    let p = (goal.at.invariant_of-self-2 c).In_ok-push in
    let links : List Link = c.self.inside.links.items in
    let firsts : List ℕ = c.self.inside.firsts.items in
    subst (λ (ls : List Link). AreLinked ls (set firsts c.args.list c.in_ok-first.first)) (sym c.in_ok-push.ensures.items)
    (subst (λ n. AreLinked (links ++ link p ∷ []) (set firsts c.args.list n)) (sym (first_is p)) (sound_grown links firsts c.args.list (link p) c.self.invariant (within p) (next_is p)))

pub returns : goal.returns
returns c =
    let p = (goal.at.returns c).In_ok-push in
    let links : List Link = c.self.inside.links.items in
    let firsts : List ℕ = c.self.inside.firsts.items in
    ap₂ (λ (ls : List Link) (n : ℕ). lists_by ls (set firsts c.args.list n)) c.in_ok-push.ensures.items (first_is p)
    ∙ list_grows links firsts c.args.list (link p) c.self.invariant (within p) (next_is p)
    ∙ ap (λ (d : Dependencies). set d c.args.list (c.args.number ∷ after d c.args.list)) c.self.view_is
