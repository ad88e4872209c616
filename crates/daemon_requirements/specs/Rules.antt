-- What each rule says of a daemon's value and the value asked for. A rule that isn't for a kind of value holds of none.
use Rattle.std.specs.Prelude.{◌≡◌, ◌≤◌, ◌&&◌, ℕ, Bool, List, All, Contains}
use Rattle.std.specs.Str.{bytes_eq}
use Rattle.daemon_requirements.specs.declared.rules.FieldRule.{FieldRule}
use Rattle.daemon_requirements.specs.declared.rules.FieldRule.TheVariants.{Equal, AtLeast, Superset, SameValues}
use Rattle.daemon_requirements.specs.declared.fields.Pair.{Pair}
use Rattle.item_actions.specs.declared.keep_alive.KeepAlive.{KeepAlive}

abbrev pub TextRule : FieldRule → List ℕ → List ℕ → Type 0
TextRule Equal daemon asked = daemon ≡ asked
TextRule _ daemon asked = ⊥

abbrev pub NumberRule : FieldRule → ℕ → ℕ → Type 0
NumberRule Equal daemon asked = daemon ≡ asked
NumberRule AtLeast daemon asked = asked ≤ daemon
NumberRule _ daemon asked = ⊥

abbrev pub SwitchRule : FieldRule → Bool → Bool → Type 0
SwitchRule Equal daemon asked = daemon ≡ asked
SwitchRule _ daemon asked = ⊥

abbrev pub KeepRule : FieldRule → KeepAlive → KeepAlive → Type 0
KeepRule Equal has asked = has ≡ asked
KeepRule _ has asked = ⊥

abbrev pub ArgumentRule : FieldRule → List (List ℕ) → List (List ℕ) → Type 0
ArgumentRule Superset daemon asked = All (Contains daemon) asked
ArgumentRule _ daemon asked = ⊥

abbrev pub PairRule : FieldRule → List Pair → List Pair → Type 0
PairRule SameValues daemon asked = All (Contains daemon) asked
PairRule _ daemon asked = ⊥

abbrev pub is_same_pair : Pair → Pair → Bool
is_same_pair a b = bytes_eq a.name b.name && bytes_eq a.value b.value
