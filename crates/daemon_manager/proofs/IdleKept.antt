-- Idle daemons, put at the end of the order and taken out of it.
use Rattle.std.proofs.Common.{◌≡◌, ◌≢◌, ◌⊎◌, ℕ, ◌+◌, ◌<◌, ◌≤◌, List, [], ◌∷◌, ◌++◌, length, get_or, Option, Some, None, is_some, sym, ap, ◌∙◌, subst, inl, inr, arith, Contains, remove, IsSome, AllPairs, length-append, option_map, slice_get, unwrap_or}
use Rattle.std.proofs.lemmas.Bool.{true≢false, cases_lt}
use Rattle.std.proofs.lemmas.List.Elements.{All-push}
use Rattle.std.proofs.lemmas.List.{get_or_default, map-append}
use Rattle.std.proofs.lemmas.Option.{slice_get-get_or, slice_get-map}
use Rattle.std.proofs.lemmas.List.Edits.{get_or-remove_below, get_or-remove_above, length-remove}
use Rattle.std.proofs.lemmas.List.Quantifiers.{all_pairs_push, all_pairs_remove}
use Rattle.slab.specs.Slab.{Slab, get, slab_len, ContainsKey, Updates}
use Rattle.daemon_manager.specs.declared.idle.KeyedLink.{KeyedLink}
use Rattle.daemon_manager.specs.IdleOrder.{daemon_at, in_order, IsInOrder}
use Rattle.daemon_manager.proofs.Order.{map-remove, same_map}

-- where an element that is left stood before
pub stood : {X : Type 0} (xs : List X) (i k : ℕ) (d : X) → i < length xs → k < length (remove xs i)
    → (j : ℕ) × (j < length xs) × ((j ≡ i → ⊥) × (get_or (remove xs i) k d ≡ get_or xs j d))
stood xs i k d within left = at (cases_lt k i)
  where
    long : length (remove xs i) + 1 ≡ length xs
    long = length-remove xs i within

    at : (k < i) ⊎ (i ≤ k) → (j : ℕ) × (j < length xs) × ((j ≡ i → ⊥) × (get_or (remove xs i) k d ≡ get_or xs j d))
    at (inl below) = (k, omega (arith, below, within), ((λ e. omega (arith, e, below)), get_or-remove_below xs i d k below within))
    at (inr above) = (k + 1, omega (arith, long, left), ((λ e. omega (arith, e, above)), get_or-remove_above xs i d k above within))

pub differ : {X : Type 0} (f : X → ℕ) (xs : List X) (i j : ℕ) (d : X) → AllPairs (λ a b. f a ≢ f b) xs → i < length xs → j < length xs → (j ≡ i → ⊥) → f (get_or xs j d) ≢ f (get_or xs i d)
differ f xs i j d pairs i_in j_in other same = at (cases_lt i j)
  where
    at : (i < j) ⊎ (j ≤ i) → ⊥
    at (inl below) = pairs i j d below j_in (sym same)
    at (inr above) = pairs j i d (omega (arith, above, other)) i_in same

some : {T : Type 0} (o : Option T) (x : T) → o ≡ Some x → IsSome o
some o x e = ap is_some e

vacant : {T : Type 0} (o : Option T) → o ≡ None → IsSome o → ⊥
vacant o e is = true≢false (sym is ∙ ap is_some e)

module _ {L : Type 0} (old new : Slab ℕ) (order : List (KeyedLink L)) (capacity : ℕ) (kept : IsInOrder old order capacity) where
  module _ (key number : ℕ) (link : L) (free : get old key ≡ None) (updates : Updates old new key (Some number)) where
    abbrev put : KeyedLink L
    put = record { key = key; link = link }

    apart : (k : ℕ) (d : KeyedLink L) → k < length order → (get_or order k d).key ≢ key
    apart k d within e = vacant (get old key) free (subst (λ j. IsSome (get old j)) e (kept.all k d within))

    pub pushed_in_order : (more : ℕ) → slab_len new ≡ slab_len old + 1 → new.capacity ≡ old.capacity → capacity ≤ more → IsInOrder new (order ++ record { key = key; link = link } ∷ []) more
    pushed_in_order more count same grown = record {
      all = All-push (λ (k : KeyedLink L). ContainsKey new k.key) order put (λ k d within. subst IsSome (sym (updates.others _ (apart k d within))) (kept.all k d within)) (some _ number updates.changed);
      distinct = all_pairs_push (λ (a b : KeyedLink L). a.key ≢ b.key) order put kept.distinct (λ k d within e. apart k d within e);
      count = count ∙ ap (λ n. n + 1) kept.count ∙ sym (length-append order (put ∷ []));
      room = omega (arith, kept.room, same);
      order_room = omega (arith, kept.order_room, grown);
    }

    kept_daemon : (k : KeyedLink L) → Contains order k → daemon_at new k ≡ daemon_at old k
    kept_daemon k there =
        ap (λ (o : Option ℕ). record { daemon = unwrap_or o 0; link = k.link }) (updates.others k.key (λ e. apart there.0 k there.1 (ap (λ (x : KeyedLink L). x.key) there.2 ∙ e)))

    pub pushed_view : in_order new (order ++ record { key = key; link = link } ∷ []) ≡ in_order old order ++ record { daemon = number; link = link } ∷ []
    pushed_view =
        map-append (daemon_at new) order (put ∷ [])
        ∙ ap (λ xs. xs ++ daemon_at new put ∷ []) (same_map (daemon_at new) (daemon_at old) order kept_daemon)
        ∙ ap (λ (o : Option ℕ). in_order old order ++ record { daemon = unwrap_or o 0; link = link } ∷ []) updates.changed

  module _ (place : ℕ) (taken : KeyedLink L) (within : place < length order) (taken_is : taken ≡ get_or order place taken) (updates : Updates old new taken.key None) where
    abbrev key_of : KeyedLink L → ℕ
    key_of k = k.key

    others : (k : ℕ) (d : KeyedLink L) → k < length (remove order place) → get new (get_or (remove order place) k d).key ≡ get old (get_or (remove order place) k d).key
    others k d left = updates.others _ (λ e. differ key_of order place from.0 taken kept.distinct within from.1 from.2.0 (ap key_of (sym moved) ∙ e ∙ ap key_of taken_is))
      where
        from : (j : ℕ) × (j < length order) × ((j ≡ place → ⊥) × (get_or (remove order place) k d ≡ get_or order j d))
        from = stood order place k d within left

        moved : get_or (remove order place) k d ≡ get_or order from.0 taken
        moved = from.2.1 ∙ get_or_default order from.0 d taken from.1

    pub removed_in_order : slab_len new + 1 ≡ slab_len old → new.capacity ≡ old.capacity → IsInOrder new (remove order place) capacity
    removed_in_order count same = record {
      all = λ k d left. let from = stood order place k d within left in subst IsSome (sym (others k d left)) (subst (λ (x : KeyedLink L). IsSome (get old x.key)) (sym from.2.1) (kept.all from.0 d from.1));
      distinct = all_pairs_remove (λ (a b : KeyedLink L). a.key ≢ b.key) order place within kept.distinct;
      count = omega (arith, count, kept.count, length-remove order place within);
      room = omega (arith, kept.room, same);
      order_room = kept.order_room;
    }

    left_daemon : (k : KeyedLink L) → Contains (remove order place) k → daemon_at new k ≡ daemon_at old k
    left_daemon k there =
        ap (λ (o : Option ℕ). record { daemon = unwrap_or o 0; link = k.link })
        (subst (λ (x : KeyedLink L). get new x.key ≡ get old x.key) there.2 (others there.0 k there.1))

    pub removed_view : in_order new (remove order place) ≡ remove (in_order old order) place
    removed_view =
        same_map (daemon_at new) (daemon_at old) (remove order place) left_daemon
        ∙ map-remove (daemon_at old) order place

-- the daemon of the link at a place
pub daemon_there : {L : Type 0} (numbers : Slab ℕ) (order : List (KeyedLink L)) (place number : ℕ) (taken : KeyedLink L) → place < length order → taken ≡ get_or order place taken → get numbers taken.key ≡ Some number
    → slice_get (in_order numbers order) place ≡ Some (record { daemon = number; link = taken.link })
daemon_there {L} numbers order place number taken within is there =
    slice_get-map (daemon_at numbers) order place
    ∙ ap (option_map (daemon_at numbers)) (slice_get-get_or order place taken within ∙ ap Some (sym is))
    ∙ ap (λ (o : Option ℕ). Some (record { daemon = unwrap_or o 0; link = taken.link })) there
