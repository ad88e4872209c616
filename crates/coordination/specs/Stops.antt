-- What a worker knows of a stop.
use Rattle.std.specs.Prelude.{◌≡◌, false, None}
use Rattle.coordination.specs.declared.rule.Sight.{Sight}

-- it hasn't stopped the service, and heard of nobody who did
abbrev pub KnowsNoStop : Sight → Type 0
KnowsNoStop s = (s.stopped ≡ false) × (s.stopped_by ≡ None)
