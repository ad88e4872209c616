-- What a desk sent, by how many requests and which.
use Rattle.std.proofs.Common.{◌≡◌, ℕ, List, Option}
use Rattle.daemon_desk.specs.declared.sent.SentRequest.{SentRequest}
use Rattle.item_work.specs.Requests.{SentView}

-- so many requests were sent as before, and the same
pub same_view : {a b : ℕ} {x y : Option (List SentRequest)} → a ≡ b → x ≡ y → ◌≡◌ {A = SentView} (record { count = a; requests = x }) (record { count = b; requests = y })
same_view is are = cc
