-- A front grows by its lowest ready member, and ends as the least order.
use Rattle.std.proofs.Common.{◌≡◌, ◌⊎◌, ◌<◌, ◌≤◌, ℕ, List, [], ◌∷◌, ◌++◌, length, get_or, refl, sym, ap, ◌∙◌, arith, inl, inr, Contains, subst, length-append}
use Rattle.std.proofs.lemmas.Bool.{cases_lt}
use Rattle.std.proofs.lemmas.Grind.{same_number_lists}
use Rattle.std.proofs.lemmas.List.Elements.{Contains-push_cases}
use Rattle.std.proofs.Math.ListN.{get_or-append}
use Rattle.std.proofs.Math.Seq.{get_or-append_seam}
use Rattle.task_ordering.specs.Orders.{HasRank, has_rank, StandsAt, IsOrder, IsLesser, IsLeastOrder}
use Rattle.task_ordering.specs.Placed.{Begins, IsFront, IsReady}
use Rattle.task_ordering.proofs.Stands.{at_contains, contains_at, at_push, at_cases}

-- where one list begins another, both have the same at each place of the first
begun_at : (p ys : List ℕ) (k t : ℕ) → Begins p ys → StandsAt p k t → StandsAt ys k t
begun_at p ys k t begins s = record { within = omega (arith, s.within, begins.shorter); is = sym (begins.same k s.within) ∙ s.is }

begins_at : (p ys : List ℕ) (k t : ℕ) → Begins p ys → k < length p → StandsAt ys k t → StandsAt p k t
begins_at p ys k t begins lt s = record { within = lt; is = begins.same k lt ∙ s.is }

pub no_front : (M : ℕ → Type 0) (B : ℕ → ℕ → Type 0) → IsFront M B []
no_front M B = record {
  only = λ t c. absurd (omega (arith, c.1));
  once = λ t j k a b. absurd (omega (arith, a.within));
  earlier = λ a b k before s. absurd (omega (arith, s.within));
  ranked = λ t c. absurd (omega (arith, c.1));
  least = λ ys o. inl (record { shorter = omega arith; same = λ k lt. absurd (omega (arith, lt)) });
}

module _ (M : ℕ → Type 0) (B : ℕ → ℕ → Type 0) (both : (a b : ℕ) → B a b → M a) (p : List ℕ) (g : ℕ) (f : IsFront M B p) (r : IsReady M B p g) (low : (t : ℕ) → IsReady M B p t → g ≤ t) where
  abbrev longer : List ℕ
  longer = p ++ g ∷ []

  once : (t j k : ℕ) → StandsAt longer j t → StandsAt longer k t → j ≡ k
  once t j k sj sk = elim (at_cases p g j t sj) [
    | inl before ↦ elim (at_cases p g k t sk) [
      | inl other ↦ f.once t j k before other
      | inr last ↦ absurd (r.fresh (subst (λ (u : ℕ). Contains p u) last.1 (at_contains p j t before)))
    ]
    | inr last ↦ elim (at_cases p g k t sk) [
      | inl before ↦ absurd (r.fresh (subst (λ (u : ℕ). Contains p u) last.1 (at_contains p k t before)))
      | inr other ↦ last.0 ∙ sym other.0
    ]
  ]

  earlier : (a b k : ℕ) → B a b → StandsAt longer k b → (j : ℕ) × (j < k) × StandsAt longer j a
  earlier a b k before s = elim (at_cases p g k b s) [
    | inl old ↦ let e = f.earlier a b k before old in (e.0, e.1, at_push p g e.0 a e.2)
    | inr last ↦
        let c = contains_at p a (r.after a (subst (λ (u : ℕ). B a u) last.1 before)) in
        let lt : c.0 < k = omega (arith, last.0, c.1.within) in
        (c.0, lt, at_push p g c.0 a c.1)
  ]

  still_lesser : (ys : List ℕ) → IsLesser p ys → IsLesser longer ys
  still_lesser ys l = record {
    place = l.place;
    within = omega (arith, l.within, length-append p (g ∷ []));
    within_other = l.within_other;
    same = λ k lt. let low_k : k < length p = omega (arith, lt, l.within) in get_or-append p (g ∷ []) 0 k low_k ∙ l.same k lt;
    smaller = let e = get_or-append p (g ∷ []) 0 l.place l.within in omega (arith, e, l.smaller);
  }

  module _ (ys : List ℕ) (o : IsOrder M B ys) (begins : Begins p ys) where
    -- the other order goes on, since it has the ready one too
    goes_on : length p < length ys
    goes_on =
        let c = contains_at ys g (o.all g r.member) in
        elim (cases_lt c.0 (length p)) [
          | inl inside ↦ absurd (r.fresh (at_contains p c.0 g (begins_at p ys c.0 g begins inside c.1)))
          | inr outside ↦ omega (arith, outside, c.1.within)
        ]

    abbrev other : ℕ
    other = get_or ys (length p) 0

    there : StandsAt ys (length p) other
    there = record { within = goes_on; is = refl }

    other_fresh : Contains p other → ⊥
    other_fresh c =
        let at = contains_at p other c in
        let same : at.0 ≡ length p = o.once other at.0 (length p) (begun_at p ys at.0 other begins at.1) there in
        omega (arith, same, at.1.within)

    other_after : (u : ℕ) → B u other → Contains p u
    other_after u before =
        let at = contains_at ys u (o.all u (both u other before)) in
        let lt : at.0 < length p = o.earlier u other at.0 (length p) before at.1 there in
        at_contains p at.0 u (begins_at p ys at.0 u begins lt at.1)

    other_ready : IsReady M B p other
    other_ready = record { member = o.only other (at_contains ys (length p) other there); fresh = other_fresh; after = other_after }

    same_before : (k : ℕ) → k < length p → get_or longer k 0 ≡ get_or ys k 0
    same_before k lt = get_or-append p (g ∷ []) 0 k lt ∙ begins.same k lt

    same_upto : g ≡ other → (k : ℕ) → k < length longer → get_or longer k 0 ≡ get_or ys k 0
    same_upto same k lt = elim (cases_lt k (length p)) [
      | inl inside ↦ same_before k inside
      | inr outside ↦
          let at : k ≡ length p = omega (arith, outside, lt, length-append p (g ∷ [])) in
          ap (λ i. get_or longer i 0) at ∙ get_or-append_seam p g [] 0 ∙ same ∙ sym (ap (λ i. get_or ys i 0) at)
    ]

    next : Begins longer ys ⊎ IsLesser longer ys
    next =
        let lowest : g ≤ other = low other other_ready in
        elim (cases_lt g other) [
          | inl less ↦ inr (record {
            place = length p;
            within = omega (arith, length-append p (g ∷ []));
            within_other = goes_on;
            same = same_before;
            smaller = let e : get_or longer (length p) 0 ≡ g = get_or-append_seam p g [] 0 in omega (arith, e, less);
          })
          | inr more ↦
              let same : g ≡ other = omega (arith, lowest, more) in
              inl (record { shorter = omega (arith, goes_on, length-append p (g ∷ [])); same = same_upto same })
        ]

  pub front_push : IsFront M B longer
  front_push = record {
    only = λ t c. elim (Contains-push_cases p g t c) [ inl before ↦ f.only t before | inr is ↦ subst M is r.member ];
    once = once;
    earlier = earlier;
    ranked = λ t c. elim (Contains-push_cases p g t c) [
      | inl before ↦ f.ranked t before
      | inr is ↦ subst (λ (u : ℕ). HasRank M B u) is (has_rank g r.member (λ u before. f.ranked u (r.after u before)))
    ];
    least = λ ys o. elim (f.least ys o) [ inl begins ↦ next ys o begins | inr lesser ↦ inr (still_lesser ys lesser) ];
  }

module _ (M : ℕ → Type 0) (B : ℕ → ℕ → Type 0) (p : List ℕ) (f : IsFront M B p) where
  -- an order that begins with all members ends with them
  whole : ((t : ℕ) → M t → Contains p t) → (ys : List ℕ) → IsOrder M B ys → Begins p ys → p ≡ ys
  whole all ys o begins = elim (cases_lt (length p) (length ys)) [
    | inl short ↦
        let x : ℕ = get_or ys (length p) 0 in
        let s : StandsAt ys (length p) x = record { within = short; is = refl } in
        let c = contains_at p x (all x (o.only x (at_contains ys (length p) x s))) in
        let same : c.0 ≡ length p = o.once x c.0 (length p) (begun_at p ys c.0 x begins c.1) s in
        absurd (omega (arith, same, c.1.within))
    | inr long ↦ same_number_lists p ys (omega (arith, long, begins.shorter)) begins.same
  ]

  pub least_order : ((t : ℕ) → M t → Contains p t) → IsLeastOrder M B p
  least_order all = record {
    order = record {
      only = f.only;
      all = all;
      once = f.once;
      earlier = λ a b j k before sa sb.
          let e = f.earlier a b k before sb in
          let same : e.0 ≡ j = f.once a e.0 j e.2 sa in
          omega (arith, same, e.1);
    };
    least = λ ys o. elim (f.least ys o) [ inl begins ↦ inl (whole all ys o begins) | inr lesser ↦ inr lesser ];
  }

-- where no member is ready, each with a rank stands in the list
pub ranked_placed : (M : ℕ → Type 0) (B : ℕ → ℕ → Type 0) (p : List ℕ) → ((t : ℕ) → IsReady M B p t → ⊥) → ((t : ℕ) → Contains p t ⊎ (Contains p t → ⊥)) → (t : ℕ) → HasRank M B t → Contains p t
ranked_placed M B p none decide t (has_rank _ member before) = elim (decide t) [
  | inl placed ↦ placed
  | inr fresh ↦ absurd (none t (record { member = member; fresh = fresh; after = λ u is. ranked_placed M B p none decide u (before u is) }))
]
