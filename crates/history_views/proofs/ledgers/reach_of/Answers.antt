use Rattle.std.proofs.Common.{◌≡◌, ◌≤◌, ◌∙◌, ap, sym, subst, arith, length}
use Rattle.lock_journal.specs.Names.{leases_out, BookView}
use Rattle.history_views.specs.Growing.{IsSound, MayFollow}
use Rattle.history_views.proofs.ledgers.reach_of.Goals as goal

pub invariant_of-result : goal.invariant_of-result
invariant_of-result c =
    let last = sym c.requires.last in
    let out : c.leases_out.result ≡ leases_out c.args.book.now.state = c.leases_out.ensures.out ∙ ap leases_out c.state.ensures.value in
    let few : c.leases_out.result ≤ c.args.book.now.graph.max_leases = omega (arith, out, c.state.ensures.good.few_leases, c.state.ensures.belongs.max_leases) in
    let sound : IsSound c.args.book.now = record { lawful = c.state.ensures.lawful; replays = c.state.ensures.replays } in record {
      entries = c.len.ensures.value ∙ ap (λ (b : BookView). length b.history) last;
      leases = out ∙ ap (λ (b : BookView). leases_out b.state) last;
      few = subst (λ (b : BookView). c.leases_out.result ≤ b.graph.max_leases) last few;
      some = c.requires.some;
      chain = subst (MayFollow c.args.token.log) last c.requires.follows;
      sound = subst IsSound last sound;
    }
