-- Less is said of a part of a worker's run that says less: that it may have failed.
use Rattle.std.proofs.Common.{◌≡◌, List, Bool, true, false, inl, refl}
use Rattle.std.proofs.lemmas.Bool.{false≢true}
use Rattle.lock_transforms.specs.declared.entries.Closed.{Closed}
use Rattle.item_work.specs.Requests.{SentView}
use Rattle.plan_reader.specs.Units.{PlannedUnit}
use Rattle.coordination.specs.declared.rule.Sight.{Sight}
use Rattle.build_workers.specs.Desks.{DeskView}
use Rattle.build_workers.specs.Sent.{AreSentAndOneMore, AreSentBy, HasSent}
use Rattle.build_workers.specs.Steps.{Proceeds}

-- what a part sent, whether it was done or not
pub sent_or_more : (done : Bool) (units : List PlannedUnit) (ds : List Closed) (before after : SentView) → AreSentBy done units ds before after → AreSentAndOneMore units ds before after
sent_or_more true units ds before after sent = (after, sent, inl refl)
sent_or_more false units ds before after sent = sent

sent_less : (more less : Bool) (units : List PlannedUnit) (ds : List Closed) (before after : SentView) → (less ≡ true → more ≡ true) → AreSentBy more units ds before after → AreSentBy less units ds before after
sent_less more false units ds before after weaker sent = sent_or_more more units ds before after sent
sent_less true true units ds before after weaker sent = sent
sent_less false true units ds before after weaker sent = absurd (false≢true (weaker refl))

pub sent_weaker : {units : List PlannedUnit} {before after : SentView} {old new : Sight} {more less : Bool} → (less ≡ true → more ≡ true) → HasSent more units before after old new → HasSent less units before after old new
sent_weaker {units} {before} {after} {more = more} {less} weaker k = record { closed = k.closed; closes = k.closes; sent = sent_less more less units k.closed before after weaker k.sent }

pub proceeds_weaker : {units : List PlannedUnit} {a b : DeskView} {old new : Sight} {more less : Bool} → (less ≡ true → more ≡ true) → Proceeds units a b old new more → Proceeds units a b old new less
proceeds_weaker weaker k = record { files = k.files; keeps = k.keeps; sent = sent_weaker weaker k.sent }
