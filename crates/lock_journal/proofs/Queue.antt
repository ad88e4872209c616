-- Only items are queued: Submit queues the items of its action, and no other kind queues a unit.
use Rattle.std.proofs.Common.{◌≡◌, ℕ, ◌<◌, true, List, [], ◌∷◌, Option, None, Some, inl, inr, sym, ◌∙◌}
use Rattle.std.specs.Prelude.{IfSome}
use Rattle.std.proofs.lemmas.Bool.{le-leb}
use Rattle.lock_journal.specs.Names.{Change, WorkerId, Mark, Queued, UnitOf, make_all, Fits, GraphView, action_of, opening_of, first_item, is_item}
use Rattle.lock_journal.specs.Names.{StateView, mark_of, Kind, Skip, Submit, Claim, Close, Block, Unblock, End, Finishes, Lawful, lawful_from, Entry}
use Rattle.lock_journal.specs.Names.{changed, effect, replay, replay_from, mark_from}
use Rattle.resource_lock.specs.Ranges.{IsItem}
use Rattle.resource_lock.proofs.lemmas.Units.{is_item_from}
use Rattle.item_actions.specs.declared.outcomes.Outcome.{Outcome}
use Rattle.item_actions.specs.declared.outcomes.Outcome.TheVariants.{Number, Digest}
use Rattle.lock_journal.proofs.lemmas.Fitting.{apart_of}
use Rattle.lock_journal.proofs.Marks.{StaysOrMoves, stays_or_moves}
use Rattle.lock_journal.proofs.Moves.{MayMove, list_moves}
use Rattle.lock_journal.proofs.Runs.{all_wait}

-- each unit that is queued is an item
record QueuesItems (g : GraphView) (s : StateView) : Type 0 where
  each : (u : ℕ) → mark_of s (UnitOf u) ≡ Queued → IsItem g u

no_outcome_queues : (o : Outcome) → mark_from o ≡ Queued → ⊥
no_outcome_queues (Number n) e = absurd (cc)
no_outcome_queues (Digest d) e = absurd (cc)
no_outcome_queues _ e = absurd (cc)

move_queues : (g : GraphView) (s : StateView) (w : WorkerId) (k : Kind) (u : ℕ) (from to : Mark) → MayMove g s w k (UnitOf u) from to → to ≡ Queued → IsItem g u
move_queues g s w (Submit a) u from to p e = (a, p.0)
move_queues g s w (Skip t) u from to p e = absurd (cc (p.2, e))
move_queues g s w (Claim n) u from to p e = absurd (cc (p.2, e))
move_queues g s w (Close d) u from to p e = absurd (no_outcome_queues d.outcome (sym p.2 ∙ e))
move_queues g s w (Block (Some n)) u from to p e = absurd (cc (p.2, e))
move_queues g s w (Block None) u from to p e = absurd p
move_queues g s w (Unblock (Some d)) u from to p e = absurd (no_outcome_queues d.outcome (sym p.2 ∙ e))
move_queues g s w (Unblock None) u from to p e = absurd p
move_queues g s w (End t) u from to p e = absurd (cc (p.2, e))
move_queues g s w k u from to p e = absurd p

entry_queues : (g : GraphView) (s : StateView) (w : WorkerId) (k : Kind) (o : Option (List Change)) → IfSome o (Finishes g s w k) → QueuesItems g s → QueuesItems g (changed s w o)
entry_queues g s w k None f old = old
entry_queues g s w k (Some cs) f old = record { each = λ u. at u (stays_or_moves (MayMove g s w k) cs s w (list_moves g s w k cs f.list) f.possible (UnitOf u)) }
  where
    at : (u : ℕ) → StaysOrMoves (MayMove g s w k) (UnitOf u) (mark_of s (UnitOf u)) (mark_of (make_all s w cs) (UnitOf u)) → mark_of (make_all s w cs) (UnitOf u) ≡ Queued → IsItem g u
    at u (inl same) e = old.each u (sym same ∙ e)
    at u (inr moved) e = move_queues g s w k u moved.last_from _ moved.last e

entries_queue : (g : GraphView) (h : List Entry) (s : StateView) → lawful_from g s h → QueuesItems g s → QueuesItems g (replay_from s h)
entries_queue g [] s lawful old = old
entries_queue g (e ∷ h) s lawful old = entries_queue g h (effect s e) lawful.1 (entry_queues g s e.worker e.kind e.changes lawful.0.finished old)

none_queued : (g : GraphView) → QueuesItems g (opening_of g)
none_queued g = record { each = λ u e. absurd (cc (all_wait g.units u, e)) }

queued : (g : GraphView) (h : List Entry) (u : ℕ) → Lawful g h → mark_of (replay g h) (UnitOf u) ≡ Queued → IsItem g u
queued g h u lawful = (entries_queue g h (opening_of g) lawful (none_queued g)).each u

pub queued_is_item : (g : GraphView) (h : List Entry) (u : ℕ) → Fits g → Lawful g h → mark_of (replay g h) (UnitOf u) ≡ Queued → is_item g u ≡ true
queued_is_item g h u fits lawful e =
    let item = queued g h u lawful e in
    sym (is_item_from g item.0 u fits (inr item.1)) ∙ le-leb (first_item (action_of g item.0)) u item.1.0

pub queued_within : (g : GraphView) (h : List Entry) (u : ℕ) → Fits g → Lawful g h → mark_of (replay g h) (UnitOf u) ≡ Queued → u < g.units
queued_within g h u fits lawful e =
    let item = queued g h u lawful e in
    ((apart_of g fits).unit_within item.0 u (inr item.1)).1
