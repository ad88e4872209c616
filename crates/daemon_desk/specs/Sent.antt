-- The requests that were sent.
use Rattle.std.specs.Prelude.{List, [], ◌∷◌, ◌++◌, Option, option_map}
use Rattle.daemon_requirements.specs.RequirementsView.{RequirementsView}
use Rattle.daemon_protocol.specs.declared.frames.Request.{Request}
use Rattle.daemon_desk.specs.declared.sent.SentRequest.{SentRequest}

-- a request sent over a link that is made for these requirements
abbrev pub sent_over : RequirementsView → Request → SentRequest
sent_over made_for request = record { made_for = made_for; request = request }

-- the requests, where they are known, and one more
abbrev pub and_sent : Option (List SentRequest) → SentRequest → Option (List SentRequest)
and_sent sent one = option_map (λ requests. requests ++ one ∷ []) sent
