-- Idle daemons in the order of their release, whose numbers a slab keeps.
use Rattle.std.specs.Prelude.{◌≡◌, ◌≢◌, ◌+◌, ◌≤◌, ℕ, List, length, map, AllPairs, All, Option, IsSomeAnd, MatchOption, drop}
use Rattle.std.specs.Prelude.{slice_get, unwrap_or}
use Rattle.slab.specs.Slab.{Slab, get, slab_len, ContainsKey}
use Rattle.daemon_requirements.specs.RequirementsView.{RequirementsView}
use Rattle.daemon_requirements.specs.Covers.{Covers}
use Rattle.daemon_manager.specs.declared.idle.IdleDaemon.{IdleDaemon}
use Rattle.daemon_manager.specs.declared.idle.KeyedLink.{KeyedLink}
use Rattle.daemon_manager.specs.declared.idle.TheConstants.{MAX_IDLE_DAEMONS}

module _ {L : Type 0} where
  -- the daemon of a link, whose number stands under the key; every key of an order has one
  abbrev pub daemon_at : Slab ℕ → KeyedLink L → IdleDaemon L
  daemon_at numbers keyed = record { daemon = unwrap_or (get numbers keyed.key) 0; link = keyed.link }

  abbrev pub in_order : Slab ℕ → List (KeyedLink L) → List (IdleDaemon L)
  in_order numbers order = map (daemon_at numbers) order

  -- the keys are those that have a number, each once, and there is room for as many as can be idle at once
  pub record IsInOrder (numbers : Slab ℕ) (order : List (KeyedLink L)) (capacity : ℕ) : Type 0 where
    pub all : All (λ keyed. ContainsKey numbers keyed.key) order
    pub distinct : AllPairs (λ a b. a.key ≢ b.key) order
    pub count : slab_len numbers ≡ length order
    pub room : MAX_IDLE_DAEMONS + 1 ≤ numbers.capacity
    pub order_room : MAX_IDLE_DAEMONS + 1 ≤ capacity

  -- the place has a daemon that covers what is asked, and no later place has; None, where no place has
  abbrev pub IsLastCovering : (L → RequirementsView) → List (IdleDaemon L) → RequirementsView → Option ℕ → Type 0
  IsLastCovering made_for daemons asked result =
      MatchOption result
      (All (λ i. ¬ Covers (made_for i.link) asked) daemons)
      (λ place. IsSomeAnd (slice_get daemons place) (λ i. Covers (made_for i.link) asked)
      × All (λ i. ¬ Covers (made_for i.link) asked) (drop (place + 1) daemons))
