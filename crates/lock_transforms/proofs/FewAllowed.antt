-- At most how many changes an entry has that finished.
use Rattle.std.proofs.Common.{◌≡◌, ◌≤◌, ℕ, List, length, sym, ◌∙◌, ap, arith}
use Rattle.std.specs.List.{list_all}
use Rattle.resource_lock.specs.Fits.{Fits}
use Rattle.resource_lock.specs.Good.{Good}
use Rattle.resource_lock.specs.GraphView.{GraphView}
use Rattle.resource_lock.specs.Shape.{BelongsTo}
use Rattle.resource_lock.specs.StateView.{StateView, holding_of}
use Rattle.resource_lock.specs.declared.changes.Change.{Change}
use Rattle.resource_lock.specs.declared.ids.WorkerId.{WorkerId}
use Rattle.lock_transforms.specs.Admitting.{takes_within}
use Rattle.lock_transforms.specs.Allowed.{Finishes}
use Rattle.lock_transforms.specs.MostChanges.{IsRoomFor}
use Rattle.lock_transforms.specs.Table.{list_of}
use Rattle.lock_transforms.specs.declared.entries.Kind.{Kind}
use Rattle.lock_transforms.specs.declared.entries.Kind.TheVariants.{Start, Skip, Submit, Park, Resume, Claim, Close, Block, Unblock, End, Acquire, HandBack}
use Rattle.lock_transforms.proofs.Admitting.{few_acquired, named_within}
use Rattle.lock_transforms.proofs.Most.{few_listed, room_for}

module _ {g : GraphView} {s : StateView} (fits : Fits g) (belongs : BelongsTo g s) (good : Good s) (w : WorkerId) (room : ℕ) (enough : IsRoomFor g room) where
  -- of a kind that fixes its changes
  few_fixed : (k : Kind) (cs : List Change) → cs ≡ list_of g s w k → length cs ≤ room
  few_fixed k cs list = omega (arith, ap (λ (l : List Change). length l) list, few_listed g s w k, room_for fits belongs good w room k enough)

  few_taken : (cs : List Change) → Finishes g s w Acquire cs → length cs ≤ room
  few_taken cs finishes =
      let within = ap (λ n. list_all (takes_within n) cs) (sym belongs.locks) ∙ named_within s cs finishes.named in
      omega (arith, few_acquired g.locks 0 (holding_of s w).lease cs (omega arith) finishes.list within, enough.locks)

  -- there is room for its changes
  pub few_finished : (k : Kind) (cs : List Change) → Finishes g s w k cs → length cs ≤ room
  few_finished (Start t) cs f = few_fixed (Start t) cs f.list
  few_finished (Skip t) cs f = few_fixed (Skip t) cs f.list
  few_finished (Submit a) cs f = few_fixed (Submit a) cs f.list
  few_finished (Park a) cs f = few_fixed (Park a) cs f.list
  few_finished (Resume a) cs f = few_fixed (Resume a) cs f.list
  few_finished (Claim u) cs f = few_fixed (Claim u) cs f.list
  few_finished (Close c) cs f = few_fixed (Close c) cs f.list
  few_finished (Block u) cs f = few_fixed (Block u) cs f.list
  few_finished (Unblock c) cs f = few_fixed (Unblock c) cs f.list
  few_finished (End t) cs f = few_fixed (End t) cs f.list
  few_finished Acquire cs f = few_taken cs f
  few_finished HandBack cs f = few_fixed HandBack cs f.list
