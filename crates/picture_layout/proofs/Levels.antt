-- There are as many levels as entries.
use Rattle.std.proofs.Common.{◌≡◌, List, [], ◌∷◌, length, refl, arith}
use Rattle.lock_transforms.specs.Entry.{Entry}
use Rattle.run_spans.specs.Levels.{levels_of, after_changes}
use Rattle.run_spans.specs.Steps.{changes_in}
use Rattle.run_spans.specs.declared.levels.Level.{Level}

pub levels_long : (v : Level) (es : List Entry) → length (levels_of v es) ≡ length es
levels_long v [] = refl
levels_long v (e ∷ es) =
    let more : length (levels_of (after_changes v (changes_in e.changes)) es) ≡ length es = levels_long (after_changes v (changes_in e.changes)) es in
    omega (arith, more)
