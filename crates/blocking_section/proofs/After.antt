-- What changes leave that follow one another.
use Rattle.std.proofs.Common.{◌≡◌, List, [], ◌∷◌, ◌++◌, refl}
use Rattle.lock_journal.specs.Names.{Change, after_all}

pub after_all-append : {X : Type 0} (after : X → Change → X) (x : X) (cs ds : List Change) → after_all after x (cs ++ ds) ≡ after_all after (after_all after x cs) ds
after_all-append after x [] ds = refl
after_all-append after x (c ∷ cs) ds = after_all-append after (after x c) cs ds
