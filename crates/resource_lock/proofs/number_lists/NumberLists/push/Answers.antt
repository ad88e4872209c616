-- one list more
use Rattle.std.proofs.Common.{◌≡◌, ℕ, List, [], ◌∷◌, ◌++◌, length, sym, ap, ap₂, ◌∙◌, subst, arith}
use Rattle.std.proofs.lemmas.List.{length-append}
use Rattle.resource_lock.specs.NumberLists.{AreEnds, lists_from}
use Rattle.resource_lock.proofs.NumberRanges.{ends_push, lists_push}
use Rattle.resource_lock.proofs.number_lists.NumberLists.push.Goals as goal
use Rattle.resource_lock.proofs.number_lists.NumberLists.push.Goals.{After-push_reserved}

-- the numbers, and where each list ends
numbers_are : (c : After-push_reserved) → c.append.new.numbers.items ≡ c.self.inside.numbers.items ++ c.args.list.now
numbers_are c = c.append.ensures.items ∙ ap (λ (ns : List ℕ). ns ++ c.args.list.now) c.in_ok-try_reserve-2.ensures.items

end_is : (c : After-push_reserved) → c.in_ok-end.end ≡ length (c.self.inside.numbers.items ++ c.args.list.now)
end_is c = omega (arith, c.in_ok-end.ensures, c.len.ensures, c.self.inside.numbers.ok.0, length-append c.self.inside.numbers.items c.args.list.now)

ends_are : (c : After-push_reserved) → c.push_reserved.new.self.items ≡ c.self.inside.ends.items ++ length (c.self.inside.numbers.items ++ c.args.list.now) ∷ []
ends_are c = c.push_reserved.ensures.items ∙ ap₂ (λ (es : List ℕ) (e : ℕ). es ++ e ∷ []) c.in_ok-try_reserve.ensures.items (end_is c)

pub invariant_of-self : goal.invariant_of-self
invariant_of-self c = subst (AreEnds (length c.self.inside.numbers.items) 0) (sym c.in_err-try_reserve.ensures.items) c.self.invariant

pub invariant_of-self-2 : goal.invariant_of-self-2
invariant_of-self-2 c =
    let ns : List ℕ = c.self.inside.numbers.items in
    subst (λ (l : List ℕ). AreEnds (length l) 0 c.push_reserved.new.self.items) (sym (numbers_are c))
    (subst (AreEnds (length (ns ++ c.args.list.now)) 0) (sym (ends_are c)) (ends_push ns c.args.list.now 0 c.self.inside.ends.items c.self.invariant))

pub returns-clause-ok : goal.returns-clause-ok
returns-clause-ok c =
    ap₂ (λ (ns es : List ℕ). lists_from ns 0 es) (numbers_are c) (ends_are c)
    ∙ lists_push c.self.inside.numbers.items c.args.list.now 0 c.self.inside.ends.items c.self.invariant
    ∙ ap (λ (d : List (List ℕ)). d ++ c.args.list.now ∷ []) c.self.view_is
