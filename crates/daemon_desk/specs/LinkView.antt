-- A link: the requirements that it is made for, the request that waits on it, if one does, and whether a call on it failed.
use Rattle.std.specs.Prelude.{Bool, true, false, Option, None}
use Rattle.daemon_requirements.specs.RequirementsView.{RequirementsView}
use Rattle.daemon_protocol.specs.declared.frames.Request.{Request}

pub record LinkView : Type 0 where
  pub made_for : RequirementsView
  pub waiting : Option Request
  pub broken : Bool

-- no call on the link failed, and no request waits on it
abbrev pub is_settled : Bool → Option Request → Bool
is_settled false None = true
is_settled _ _ = false

-- a link that was just started
abbrev pub new_link : RequirementsView → LinkView
new_link made_for = record { made_for = made_for; waiting = None; broken = false }
