-- What is known of a worker's desk.
use Rattle.std.specs.Prelude.{ℕ, List, Option}
use Rattle.item_actions.specs.Files.{Folder}
use Rattle.daemon_desk.specs.declared.sent.SentRequest.{SentRequest}
use Rattle.item_work.specs.Requests.{SentView}
use Rattle.build_workers.specs.Sent.{sent_view}

-- the files that a desk knows, the count of its faults, and what it has sent
pub record DeskView : Type 0 where
  pub files : Option Folder
  pub faults : ℕ
  pub sent : SentView

abbrev pub desk_view : {D : Type 0} → (D → Option Folder) → (D → ℕ) → (D → ℕ) → (D → Option (List SentRequest)) → D → DeskView
desk_view files faults sends sent desk = record { files = files desk; faults = faults desk; sent = sent_view sends sent desk }
