-- A task with a mark is taken off the stack.
use Rattle.std.proofs.Common.{◌≡◌, ◌<◌, ◌+◌, ◌-◌, take, ℕ, List, [], ◌∷◌, ◌++◌, length, get_or, sym, ap, ◌∙◌, arith, inl, inr, Contains, subst, Vec, Global, length-append}
use Rattle.std.proofs.Math.ListN.{get_or-append}
use Rattle.std.proofs.Math.Seq.{get_or-append_seam}
use Rattle.std.proofs.lemmas.List.Elements.{Contains-get_or, Contains-push_cases}
use Rattle.ready_work.specs.declared.rank_search.Search.{Search}
use Rattle.ready_work.specs.Rank.{Dependencies, after, InRange, MarksRanked}
use Rattle.ready_work.specs.Search.{next_of, awaited, IsSoundSearch, Waits, WaitBelow, WaitOrListed}
use Rattle.ready_work.specs.DependentLists.{ListsDependents}
use Rattle.ready_work.proofs.Listed.{all_marked}

pub nothing_left : (old new : List ℕ) → old ≡ new ++ [] → new ≡ take (0 - 1) old → old ≡ []
nothing_left old new a b = a ∙ ap (λ xs. xs ++ []) b

abbrev pub with_stack : Search → Vec ℕ Global → Search
with_stack s stack = record { ranked = s.ranked; next = s.next; stack = stack }

module _ (d : Dependencies) (s : Search) (stack : Vec ℕ Global) (popped : ℕ) (was : s.stack.items ≡ stack.items ++ popped ∷ []) where
  pub popped_low : IsSoundSearch d s → popped < length d
  popped_low sound =
      let long : length s.stack.items ≡ length stack.items + 1 = rw was (length-append stack.items (popped ∷ [])) in
      let here : get_or s.stack.items (length stack.items) 0 ≡ popped = rw was (get_or-append_seam stack.items popped [] 0) in
      let lt : get_or s.stack.items (length stack.items) 0 < length d = sound.stacked (length stack.items) (omega arith) in
      rw here at lt

  pub popped_sound : IsSoundSearch d s → IsSoundSearch d (with_stack s stack)
  popped_sound sound = record {
    marks = sound.marks;
    places = sound.places;
    stacked = λ k lt.
        let long : length s.stack.items ≡ length stack.items + 1 = rw was (length-append stack.items (popped ∷ [])) in
        let same : get_or s.stack.items k 0 ≡ get_or stack.items k 0 = rw was (get_or-append stack.items (popped ∷ []) 0 k lt) in
        let low : get_or s.stack.items k 0 < length d = sound.stacked k (omega arith) in
        rw same at low;
    sound = sound.sound;
    within = sound.within;
    passed = sound.passed;
  }

  pub popped_waits : (dependents : Dependencies) (n : ℕ) → n ≡ length d → ListsDependents d n dependents → WaitBelow n d s → WaitOrListed d (with_stack s stack) popped (after dependents popped)
  popped_waits dependents n size lists waits = λ t low unmarked.
      let low_n : t < n = rw size low in
      let w : Waits d s t = waits t low_n unmarked in
      elim (w.1) [
        | inl still ↦ inl (w.0, inl still)
        | inr found ↦
            let at : Contains (stack.items ++ popped ∷ []) (awaited d s t) = subst (λ (xs : List ℕ). Contains xs (awaited d s t)) was found in
            elim (Contains-push_cases stack.items popped (awaited d s t) at) [
              | inl before ↦ inl (w.0, inr before)
              | inr now ↦
                  let is : awaited d s t ≡ popped = sym now in
                  inr (record {
                    low = w.0;
                    is = is;
                    listed = subst (λ (u : ℕ). Contains (after dependents u) t) is (lists.complete (awaited d s t) t low_n (Contains-get_or (after d t) (next_of s t) 0 w.0));
                  })
            ]
      ]

-- the list of dependents of a task
pub dependents_low : (d dependents : Dependencies) (n u k : ℕ) → n ≡ length d → ListsDependents d n dependents → k < length (after dependents u) → get_or (after dependents u) k 0 < n
dependents_low d dependents n u k size lists lt = (lists.sound u (get_or (after dependents u) k 0) (Contains-get_or (after dependents u) k 0 lt)).0

pub finished : (d : Dependencies) (s : Search) (n : ℕ) → n ≡ length d → InRange d → IsSoundSearch d s → WaitBelow n d s → s.stack.items ≡ [] → MarksRanked d s.ranked.items
finished d s n size range sound waits empty = record {
  size = sound.marks;
  sound = sound.sound;
  complete = λ t low has. all_marked d s empty (λ u lt unmarked. waits u (rw size lt) unmarked) range t has low;
}
