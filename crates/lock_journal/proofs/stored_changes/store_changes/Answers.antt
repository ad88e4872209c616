use Rattle.std.proofs.Common.{◌++◌, List, [], ◌∷◌, length, map, take, sym, ap, ◌∙◌, append_assoc, arith}
use Rattle.std.proofs.lemmas.List.{length-append, length-map, map_more, take_all}
use Rattle.lock_journal.specs.Names.{Change, Lock, stored_change}
use Rattle.lock_journal.specs.declared.stored_changes.StoredChange.{StoredChange}
use Rattle.lock_journal.proofs.stored_changes.store_changes.Goals as goal

pub loop-change-preserved : goal.loop-change-preserved
loop-change-preserved c =
    let cs : List Change = c.args.changes.now in
    let i = c.loop-change.change-index in
    let before : List StoredChange = c.args.stored.now.items in
    let inv = c.loop-change.invariant in (
      c.push_reserved.ensures.items
          ∙ ap (λ (ks : List StoredChange). ks ++ c.stored_change.result ∷ []) inv.0
          ∙ append_assoc before (map stored_change (take i cs)) (c.stored_change.result ∷ [])
          ∙ ap (λ k. before ++ (map stored_change (take i cs) ++ k ∷ [])) c.stored_change.ensures
          ∙ ap (λ ks. before ++ ks) (sym (map_more stored_change cs i (Lock (record { 0 = 0 })) c.loop-change-test.true)),
      omega (arith, inv.1, c.push_reserved.ensures.len),
      c.push_reserved.ensures.capacity ∙ inv.2,
    )

pub returns-clause-items : goal.returns-clause-items
returns-clause-items c =
    c.loop-change.invariant.0
    ∙ ap (λ (cs : List Change). c.args.stored.now.items ++ map stored_change cs) (take_all c.loop-change.change-index c.args.changes.now (omega (arith, c.loop-change-test.false)))

pub returns-clause-len : goal.returns-clause-len
returns-clause-len c =
    let before : List StoredChange = c.args.stored.now.items in
    let cs : List Change = c.args.changes.now in
    omega (
      arith,
      ap (λ (ks : List StoredChange). length ks) (returns-clause-items c),
      length-append before (map stored_change cs),
      length-map cs stored_change,
      c.args.stored.now.ok.0,
      c.loop-change.stored.ok.0,
    )
