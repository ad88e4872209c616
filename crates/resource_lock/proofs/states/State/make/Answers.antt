use Rattle.std.proofs.Common.{◌+◌, map, set, refl, sym, ◌∙◌, ap, subst, arith}
use Rattle.std.proofs.lemmas.List.{length-set}
use Rattle.resource_lock.proofs.lemmas.Lists.{one_if}
use Rattle.resource_lock.proofs.Holding.{has_room, some_owned, Reads, view_made, sound_left, lease_free, some_out, quiet}
use Rattle.resource_lock.specs.StateView.{StateView, holding_of, leases_out, IsMarkOf}
use Rattle.resource_lock.specs.Change.{can, NamesOnly}
use Rattle.resource_lock.specs.Holdings.{holding_from}
use Rattle.resource_lock.specs.State.{state_view}
use Rattle.resource_lock.specs.declared.changes.Change.{Change}
use Rattle.resource_lock.specs.declared.changes.Change.TheVariants.{Lock, Unlock, Take, Give, Move}
use Rattle.resource_lock.proofs.states.State.make.Goals as goal

pub note-requires : goal.note-requires
note-requires c = has_room {a = c.self.inside} c.args.change (record { view_is = c.self.view_is; worker = c.requires.worker_in_range; named = c.requires.change_in_range; possible = c.requires.possible; read = c.index_mut.ensures.value }) c.self.invariant

pub returns-in-Lock : goal.returns-in-Lock
returns-in-Lock c = view_made {a = c.self.inside} (Lock c.in-Lock.lock) (record { reads = record { view_is = c.self.view_is; worker = c.requires.worker_in_range; named = c.requires.change_in_range; possible = c.requires.possible; read = c.index_mut.ensures.value }; after = c.note.ensures; sound = c.self.invariant }) (c.in-Lock.is)

pub invariant_of-self : goal.invariant_of-self
invariant_of-self c = sound_left {a = c.self.inside} {k = Lock c.in-Lock.lock} (record { reads = record { view_is = c.self.view_is; worker = c.requires.worker_in_range; named = c.requires.change_in_range; possible = c.requires.possible; read = c.index_mut.ensures.value }; after = c.note.ensures; sound = c.self.invariant })
    (record { is = c.in-Lock.is; held = refl; owners = length-set _ _ _; owned = omega arith; view = refl; out = refl })

pub returns-in-Unlock : goal.returns-in-Unlock
returns-in-Unlock c = view_made {a = c.self.inside} (Unlock c.in-Unlock.lock) (record { reads = record { view_is = c.self.view_is; worker = c.requires.worker_in_range; named = c.requires.change_in_range; possible = c.requires.possible; read = c.index_mut.ensures.value }; after = c.note.ensures; sound = c.self.invariant }) (c.in-Unlock.is)

pub invariant_of-self-in-Unlock : goal.invariant_of-self-in-Unlock
invariant_of-self-in-Unlock c = sound_left {a = c.self.inside} {k = Unlock c.in-Unlock.lock} (record { reads = record { view_is = c.self.view_is; worker = c.requires.worker_in_range; named = c.requires.change_in_range; possible = c.requires.possible; read = c.index_mut.ensures.value }; after = c.note.ensures; sound = c.self.invariant })
    (record { is = c.in-Unlock.is; held = refl; owners = length-set _ _ _; owned = omega (arith, some_owned c.in-Unlock.lock (subst (λ (x : Change). Reads c.self.inside c.args.self.now c.args.worker x c.index_mut.result.now) c.in-Unlock.is (record { view_is = c.self.view_is; worker = c.requires.worker_in_range; named = c.requires.change_in_range; possible = c.requires.possible; read = c.index_mut.ensures.value })) c.self.invariant); view = refl; out = refl })

pub returns-in-Take : goal.returns-in-Take
returns-in-Take c = view_made {a = c.self.inside} (Take) (record { reads = record { view_is = c.self.view_is; worker = c.requires.worker_in_range; named = c.requires.change_in_range; possible = c.requires.possible; read = c.index_mut.ensures.value }; after = c.note.ensures; sound = c.self.invariant }) (c.in-Take.is)

pub invariant_of-self-in-Take : goal.invariant_of-self-in-Take
invariant_of-self-in-Take c = sound_left {a = c.self.inside} {k = Take} (record { reads = record { view_is = c.self.view_is; worker = c.requires.worker_in_range; named = c.requires.change_in_range; possible = c.requires.possible; read = c.index_mut.ensures.value }; after = c.note.ensures; sound = c.self.invariant })
    (record { is = c.in-Take.is; held = refl; owners = refl; owned = refl; view = refl; out = omega (arith, ap one_if (lease_free c.args.self.now c.args.worker (ap (can c.args.self.now c.args.worker) (sym c.in-Take.is) ∙ c.requires.possible))) })

pub returns-in-Give : goal.returns-in-Give
returns-in-Give c = view_made {a = c.self.inside} (Give) (record { reads = record { view_is = c.self.view_is; worker = c.requires.worker_in_range; named = c.requires.change_in_range; possible = c.requires.possible; read = c.index_mut.ensures.value }; after = c.note.ensures; sound = c.self.invariant }) (c.in-Give.is)

pub invariant_of-self-in-Give : goal.invariant_of-self-in-Give
invariant_of-self-in-Give c = sound_left {a = c.self.inside} {k = Give} (record { reads = record { view_is = c.self.view_is; worker = c.requires.worker_in_range; named = c.requires.change_in_range; possible = c.requires.possible; read = c.index_mut.ensures.value }; after = c.note.ensures; sound = c.self.invariant })
    (record { is = c.in-Give.is; held = refl; owners = refl; owned = refl; view = refl; out = omega (arith, ap one_if (ap (can c.args.self.now c.args.worker) (sym c.in-Give.is) ∙ c.requires.possible), some_out c.args.self.now c.args.worker c.requires.worker_in_range (ap (can c.args.self.now c.args.worker) (sym c.in-Give.is) ∙ c.requires.possible), c.self.invariant.leases, ap leases_out c.self.view_is) })

pub set-requires : goal.set-requires
set-requires c = (
  state_view c.self.inside,
  subst (λ (s : StateView). IsMarkOf s c.in-Move.id) (sym c.self.view_is) (subst (NamesOnly c.args.self.now) c.in-Move.is c.requires.change_in_range),
)

pub returns-in-Move : goal.returns-in-Move
returns-in-Move c = ap (λ (s : StateView). record s { holdings = map holding_from (set c.self.inside.held.items c.args.worker.0 c.note.new.self) }) (c.set.ensures (state_view c.self.inside))
    ∙ view_made {a = c.self.inside} (Move c.in-Move.id c.in-Move.field-1 c.in-Move.to) (record { reads = record { view_is = c.self.view_is; worker = c.requires.worker_in_range; named = c.requires.change_in_range; possible = c.requires.possible; read = c.index_mut.ensures.value }; after = c.note.ensures; sound = c.self.invariant }) c.in-Move.is

pub invariant_of-self-in-Move : goal.invariant_of-self-in-Move
invariant_of-self-in-Move c = sound_left {a = c.self.inside} {k = Move c.in-Move.id c.in-Move.field-1 c.in-Move.to} (record { reads = record { view_is = c.self.view_is; worker = c.requires.worker_in_range; named = c.requires.change_in_range; possible = c.requires.possible; read = c.index_mut.ensures.value }; after = c.note.ensures; sound = c.self.invariant })
    (record {
      is = c.in-Move.is;
      held = refl;
      owners = refl;
      owned = refl;
      view = ap (λ (s : StateView). record s { holdings = map holding_from (set c.self.inside.held.items c.args.worker.0 c.note.new.self) }) (c.set.ensures (state_view c.self.inside));
      out = refl;
    })

pub returns-in-Park : goal.returns-in-Park
returns-in-Park c = ap (λ (s : StateView). record s { holdings = map holding_from (set c.self.inside.held.items c.args.worker.0 c.note.new.self) }) ((quiet c.args.change c.in-Park.is).rest (state_view c.self.inside) c.args.worker)
    ∙ view_made {a = c.self.inside} c.args.change (record { reads = record { view_is = c.self.view_is; worker = c.requires.worker_in_range; named = c.requires.change_in_range; possible = c.requires.possible; read = c.index_mut.ensures.value }; after = c.note.ensures; sound = c.self.invariant }) refl

pub invariant_of-self-in-Park : goal.invariant_of-self-in-Park
invariant_of-self-in-Park c = sound_left {a = c.self.inside} {k = c.args.change} (record { reads = record { view_is = c.self.view_is; worker = c.requires.worker_in_range; named = c.requires.change_in_range; possible = c.requires.possible; read = c.index_mut.ensures.value }; after = c.note.ensures; sound = c.self.invariant })
    (record {
      is = refl;
      held = refl;
      owners = refl;
      owned = ap (λ n. c.self.inside.owned + n) (quiet c.args.change c.in-Park.is).owned;
      view = ap (λ (s : StateView). record s { holdings = map holding_from (set c.self.inside.held.items c.args.worker.0 c.note.new.self) }) ((quiet c.args.change c.in-Park.is).rest (state_view c.self.inside) c.args.worker);
      out = ap (λ b. c.self.inside.out + one_if b) ((quiet c.args.change c.in-Park.is).lease (holding_of c.args.self.now c.args.worker));
    })
