-- What is known of a reply by what it tells.
use Rattle.std.proofs.Common.{◌≡◌, ◌≢◌, ℕ, List, Option, Result, Ok, Err, IfOk, IfSome}
use Rattle.item_actions.specs.Files.{Folder}
use Rattle.item_actions.specs.Value.{IsHonest, value_on}
use Rattle.item_actions.specs.declared.outcomes.Outcome.TheVariants.{Fault, Skipped}
use Rattle.daemon_protocol.specs.declared.frames.Frame.TheVariants as frames
use Rattle.daemon_protocol.specs.declared.frames.Reply.{Reply}
use Rattle.daemon_protocol.specs.declared.frames.Request.{Request}
use Rattle.daemon_protocol.specs.StreamStart.{look}
use Rattle.daemon_protocol.specs.declared.starts.StreamStart.TheVariants.{Whole}
use Rattle.file_access.specs.declared.files.DeskFail.{DeskFail}
use Rattle.daemon_desk.specs.Replies.{IsReplyTo}

pub is_reply : (known : Option Folder) (q : Request) (r : Result Reply DeskFail) → IfOk r (λ x. x.unit ≡ q.unit) → IfOk r (λ x. x.keep ≡ q.keep) → IfOk r (λ x. x.outcome ≢ Skipped) → IfOk r (λ x. x.outcome ≢ Fault)
    → IfOk r (λ x. IfSome known (λ files. IsHonest x.outcome (value_on files q.action q.file))) → IfOk r (IsReplyTo known q)
is_reply known q (Ok x) unit keep ran worked honest = record { unit = unit; keep = keep; ran = ran; worked = worked; honest = honest }
is_reply known q (Err fail) unit keep ran worked honest = tt

-- what holds of each reply that the bytes begin with holds of the one that was told
pub told_in : (P : Reply → Type 0) (bytes : List ℕ) (r : Result Reply DeskFail) → IfOk r (λ x. (n : ℕ) × (look bytes ≡ Whole (frames.Reply x) n)) → ((x : Reply) (n : ℕ) → look bytes ≡ Whole (frames.Reply x) n → P x) → IfOk r P
told_in P bytes (Ok x) stands all = all x stands.0 stands.1
told_in P bytes (Err fail) stands all = tt
