-- Room for any entry.
use Rattle.std.proofs.Common.{◌≡◌, ◌≤◌, ℕ, sym, subst, arith}
use Rattle.resource_lock.specs.GraphView.{GraphView}
use Rattle.lock_transforms.specs.MostChanges.{IsRoomFor}

-- more room is room too
pub more_room : {g h : GraphView} {room more : ℕ} → IsRoomFor g room → h ≡ g → room ≤ more → IsRoomFor h more
more_room {g} {h} {room} {more} enough same larger = subst (λ (x : GraphView). IsRoomFor x more) (sym same) (record {
  few = omega (arith, enough.few, larger);
  locks = omega (arith, enough.locks, larger);
  tasks = λ t within. omega (arith, enough.tasks t within, larger);
})
