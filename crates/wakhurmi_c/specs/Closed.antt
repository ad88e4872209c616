-- When a service isn't ended.
use Rattle.std.specs.Prelude.{◌≡◌, ◌<◌, Bool, true, not, List, length, map, ⊤}
use Rattle.std.specs.List.{All, list_any}
use Rattle.coordination.specs.Sights.{workers_from}
use Rattle.wakhurmi_c.specs.declared.answers.Answer.{Answer}
use Rattle.wakhurmi_c.specs.declared.answers.Answer.TheVariants.{NoMemory, BadNumber, Empty, Full}
use Rattle.wakhurmi_c.specs.declared.handles.Handle.{Handle}

-- As many handles as their service has workers, in order.
pub record AreWhole (handles : List Handle) : Type 0 where
  pub some : 0 < length handles
  pub numbers : map (λ h. h.held.worker.pass.sight.worker.0) handles ≡ workers_from 0 (length handles)
  pub workers : All (λ h. h.held.worker.workers ≡ length handles) handles

-- Why a service isn't ended by these handles, with a book's handle that is full or empty.
abbrev pub WhyUnfinished : List Handle → Bool → Answer → Type 0
WhyUnfinished handles full Full = full ≡ true
WhyUnfinished handles full Empty = list_any (λ h. not h.full) handles ≡ true
WhyUnfinished handles full BadNumber = AreWhole handles → ⊥
WhyUnfinished handles full NoMemory = ⊤
WhyUnfinished handles full _ = ⊥
