-- What a reserved daemon ends as, where its link is lent.
use Rattle.std.specs.Borrow.{Lends, Fml, RattleType, MutBor}
use Rattle.daemon_manager.specs.contracts.reserved.Reserved.{the_row}
use Rattle.daemon_manager.specs.declared.reserved.Reserved.{Reserved}

module _ (L : RattleType) (s : MutBor (Reserved L.Denot)) where
  -- once the borrow r ends, it has the link last written through r, and nothing else of it has changed
  abbrev pub lends_link : MutBor L.Denot → Fml
  lends_link r = Lends (the_row L) L s r (λ link. record s.now { link = link })
