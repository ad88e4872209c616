-- Legal events with more behind them.
use Rattle.std.proofs.Common.{List, [], ◌∷◌, ◌++◌, sym, subst, append_assoc}
use Rattle.std.proofs.lemmas.List.{append-nil}
use Rattle.daemon_manager.specs.declared.events.Event.{Event}
use Rattle.daemon_manager.specs.declared.events.Event.TheVariants.{Started, Reserved, Released, Failed, Stopped}
use Rattle.daemon_manager.specs.Events.{IsFirstEvent, MayStand, AreLegalAfter, IsLegal}

first_longer : (P : Event → Type 0) (later more : List Event) → IsFirstEvent P later → IsFirstEvent P (later ++ more)
first_longer P [] more first = absurd first
first_longer P (e ∷ later) more first = first

stands_longer : (earlier : List Event) (e : Event) (later more : List Event) → MayStand earlier e later → MayStand earlier e (later ++ more)
stands_longer earlier (Started d r) later more stands = (stands.0, first_longer _ later more stands.1)
stands_longer earlier (Reserved d u) later more stands = stands
stands_longer earlier (Released d) later more stands = (stands.0, λ full. first_longer _ later more (stands.1 full))
stands_longer earlier (Failed d) later more stands = stands
stands_longer earlier (Stopped d) later more stands = stands

pub legal_after_more : (earlier events more : List Event) → AreLegalAfter earlier events → AreLegalAfter (earlier ++ events) more → AreLegalAfter earlier (events ++ more)
legal_after_more earlier [] more legal next = subst (λ es. AreLegalAfter es more) (append-nil earlier) next
legal_after_more earlier (e ∷ events) more legal next = (
  stands_longer earlier e events more legal.0,
  legal_after_more (earlier ++ e ∷ []) events more legal.1 (subst (λ es. AreLegalAfter es more) (sym (append_assoc earlier (e ∷ []) events)) next),
)

pub legal_more : (events more : List Event) → IsLegal events → AreLegalAfter events more → IsLegal (events ++ more)
legal_more events more legal next = legal_after_more [] events more legal next
