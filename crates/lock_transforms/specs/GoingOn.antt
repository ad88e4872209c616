-- What a transform that asks to be run again may wait for.
use Rattle.std.specs.Prelude.{◌≡◌, ◌≢◌, ◌⊎◌, Bool, true, false}
use Rattle.resource_lock.specs.StateView.{StateView, IsWorkerOf}
use Rattle.resource_lock.specs.GraphView.{GraphView}
use Rattle.resource_lock.specs.Shape.{BelongsTo}
use Rattle.resource_lock.specs.Good.{Good}
use Rattle.resource_lock.specs.Change.{can, make, NamesOnly}
use Rattle.resource_lock.specs.declared.ids.WorkerId.{WorkerId}
use Rattle.resource_lock.specs.declared.marks.Mark.{Mark}
use Rattle.resource_lock.specs.declared.marks.Mark.TheVariants.{Running}
use Rattle.resource_lock.specs.declared.changes.Change.{Change}
use Rattle.resource_lock.specs.declared.changes.Change.TheVariants.{Unlock, Give, Move}

-- a mark of what isn't under way: it can be taken up, or has ended
abbrev pub is_news : Mark → Bool
is_news (Running w) = false
is_news _ = true

-- a lock or a lease is given back, or a mark becomes one of what isn't under way
abbrev pub lets_go_on : Change → Bool
lets_go_on (Unlock l) = true
lets_go_on Give = true
lets_go_on (Move m from to) = is_news to
lets_go_on _ = false

-- Where a transform asks to be run again, and another worker makes a change that lets nobody go on, it would ask again, or fail.
abbrev pub WaitsForNews : (GraphView → WorkerId → StateView → Type 0) → (GraphView → WorkerId → StateView → Type 0) → Type 0
WaitsForNews retries fails = (g : GraphView) (s : StateView) (v w : WorkerId) (c : Change)
    → BelongsTo g s → Good s → IsWorkerOf s v → IsWorkerOf s w → v.0 ≢ w.0
    → NamesOnly s c → can s v c ≡ true → lets_go_on c ≡ false
    → retries g w s → retries g w (make s v c) ⊎ fails g w (make s v c)
