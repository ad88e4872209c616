use Rattle.std.proofs.Common.{List, [], None, refl, sym, subst, arith}
use Rattle.lock_journal.specs.Names.{Fits, GraphTaskView, made_of, GraphAction}
use Rattle.wakhurmi_c.proofs.closing.spare_book.Goals as goal

least_fits : Fits (made_of 0 None 1 1 [] [])
least_fits = record {
  some_worker = omega arith;
  few_workers = omega arith;
  some_lease = omega arith;
  few_leases = omega arith;
  few_locks = omega arith;
  all_within = tt;
  few_tasks = omega arith;
  few_units = omega arith;
  few_actions = λ i d low. absurd (omega (arith, low));
  few_after = λ i d low. absurd (omega (arith, low));
  locks_within = λ i d low. absurd (omega (arith, low));
  after_within = λ i d low. absurd (omega (arith, low));
  actions_follow = refl;
  units_follow = refl;
  own_task = λ a low. absurd (omega (arith, low));
  some_item = λ i d low. absurd (omega (arith, low));
}

pub new-graph-requires : goal.new-graph-requires
new-graph-requires c =
    subst (λ (tasks : List GraphTaskView). Fits (made_of 0 None 1 1 tasks c.new.result.items)) (sym c.none.ensures)
    (subst (λ (actions : List GraphAction). Fits (made_of 0 None 1 1 [] actions)) (sym c.new.ensures.items) least_fits)
