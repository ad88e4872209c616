use Rattle.std.proofs.Common.{ap, subst, length, ◌≤◌, List, arith}
use mathlib.Core.List.{IsPrefix}
use Rattle.lock_journal.specs.BookView.{BookView}
use Rattle.history_views.specs.Growing.{last_book}
use Rattle.history_views.proofs.Chains.{below, not_below, reaches}
use Rattle.history_views.proofs.reaches.Reach.is_behind.Goals as goal

pub returns-clause-behind : goal.returns-clause-behind
returns-clause-behind c = λ is.
    let both : List BookView = c.learn.new.self.log in
    let a : List BookView = c.self.inside.token.log in
    let b : List BookView = c.other.inside.token.log in
    let first : IsPrefix a both = subst (λ (l : List BookView). IsPrefix l both) (ap (λ s. s.log) c.again-both.ensures) c.learn.ensures.2 in
    let less : length (last_book a).history ≤ length (last_book b).history = omega (arith, c.self.invariant.entries, c.other.invariant.entries, below c.self.inside.entries c.other.inside.entries is) in
    rw (← c.self.view_is, ← c.other.view_is) (reaches a b both c.self.invariant.some c.other.invariant.some first c.learn.ensures.3 c.learn.ensures.4.1.chain less)

pub returns-clause-not : goal.returns-clause-not
returns-clause-not c = λ is.
    let both : List BookView = c.learn.new.self.log in
    let a : List BookView = c.self.inside.token.log in
    let b : List BookView = c.other.inside.token.log in
    let first : IsPrefix a both = subst (λ (l : List BookView). IsPrefix l both) (ap (λ s. s.log) c.again-both.ensures) c.learn.ensures.2 in
    let less : length (last_book b).history ≤ length (last_book a).history = omega (arith, c.self.invariant.entries, c.other.invariant.entries, not_below c.self.inside.entries c.other.inside.entries is) in
    rw (← c.self.view_is, ← c.other.view_is) (reaches b a both c.other.invariant.some c.self.invariant.some c.learn.ensures.3 first c.learn.ensures.4.1.chain less)
