-- The laws of lists of changes.
use Rattle.std.proofs.Common.{◌≡◌, ℕ, ◌+◌, ◌^◌, ◌<◌, ◌≤◌, suc, zero, List, [], ◌∷◌, ◌++◌, length, length-append, Option, Some, None, Bool, true, false, refl, sym, ap, subst, ◌∙◌, append_assoc, append-nil, arith, decimal, codes}
use Rattle.std.specs.List.{flat_map, AllByRecursion}
use Rattle.history_text.specs.Plain.{LockId, WorkerId, MarkId, TaskOf, ActionOf, UnitOf, Mark, Change, Lock, Unlock, Take, Give, Move, Park, Unpark, Enter, Leave}
use Rattle.history_text.specs.Text.{change_text, further_text, changes_text, effect_text}
use Rattle.history_text.specs.Reading.{◌>>=◌, on, after, branch, plain, change_at, further_at, changes_at, effect_at, begins_with_digit}
use Rattle.history_text.specs.Fitting.{ChangeFits, ChangesFit, EffectFits}
use Rattle.history_text.proofs.Words.{Spelled}
use Rattle.history_text.proofs.Words.{some_is, none_some, bind_some, after_taken, either, plain_spelled}
use Rattle.history_text.proofs.ChangeLaws.{change_taken, change_again}

pub further_taken : (turns : ℕ) (w : WorkerId) (text : List ℕ) (y : List Change × List ℕ) → further_at turns w text ≡ Some y → Spelled (flat_map further_text) (ChangesFit w) text y
further_taken zero w text y e = absurd (none_some e)
further_taken (suc turns) w text y e = at (λ t z. further_taken turns w t z) (after (codes ", ") text) refl
  where
    at : ((t : List ℕ) (z : List Change × List ℕ) → further_at turns w t ≡ Some z → Spelled (flat_map further_text) (ChangesFit w) t z) → (r : Option (List ℕ)) → after (codes ", ") text ≡ r → Spelled (flat_map further_text) (ChangesFit w) text y
    at again None s =
        let k : Some ([], text) ≡ Some y = sym (ap (λ x. on x (λ rest. change_at w rest >>= λ c. further_at turns w c.1 >>= λ cs. Some (c.0 ∷ cs.0, cs.1)) (Some ([], text))) s) ∙ e in
        subst (λ z. Spelled (flat_map further_text) (ChangesFit w) text z) (some_is k) (record { is = refl; fits_it = tt })
    at again (Some rest) s =
        let k : (change_at w rest >>= λ c. further_at turns w c.1 >>= λ cs. Some (c.0 ∷ cs.0, cs.1)) ≡ Some y = sym (ap (λ x. on x (λ rest. change_at w rest >>= λ c. further_at turns w c.1 >>= λ cs. Some (c.0 ∷ cs.0, cs.1)) (Some ([], text))) s) ∙ e in
        let one = bind_some (change_at w rest) _ y k in
        let more = bind_some (further_at turns w one.0.1) _ y one.2 in
        let a = change_taken w rest one.0 one.1 in
        let b = again one.0.1 more.0 more.1 in
        subst (λ z. Spelled (flat_map further_text) (ChangesFit w) text z) (some_is more.2) (record {
          is = after_taken (codes ", ") text rest s ∙ (ap (λ l. codes ", " ++ l) (a.is ∙ ap (λ l. change_text one.0.0 ++ l) b.is) ∙ simp append_assoc);
          fits_it = (a.fits_it, b.fits_it);
        })

ends_line : (cs : List Change) (more : List ℕ) → begins_with_digit (flat_map further_text cs ++ (10 ∷ more)) ≡ false
ends_line [] more = refl
ends_line (c ∷ cs) more = refl

pub further_again : (turns : ℕ) (w : WorkerId) (cs : List Change) (more : List ℕ) → length cs < turns → ChangesFit w cs → further_at turns w (flat_map further_text cs ++ (10 ∷ more)) ≡ Some (cs, 10 ∷ more)
further_again zero w cs more few fits = absurd (omega arith)
further_again (suc turns) w [] more few fits = refl
further_again (suc turns) w (c ∷ cs) more few fits =
    let tail : List ℕ = flat_map further_text cs ++ (10 ∷ more) in
    let regroup : flat_map further_text (c ∷ cs) ++ (10 ∷ more) ≡ codes ", " ++ (change_text c ++ (flat_map further_text cs ++ (10 ∷ more))) = simp append_assoc in
    ap (further_at (suc turns) w) regroup
    ∙ (ap (λ r. r >>= λ d. further_at turns w d.1 >>= λ ds. Some (d.0 ∷ ds.0, ds.1)) (change_again w c (flat_map further_text cs ++ (10 ∷ more)) fits.0 (ends_line cs more))
    ∙ ap (λ r. r >>= λ ds. Some (c ∷ ds.0, ds.1)) (further_again turns w cs more (omega arith) fits.1))

pub few_turns : (cs : List Change) (more : List ℕ) → length cs < length (flat_map further_text cs ++ (10 ∷ more))
few_turns [] more = omega arith
few_turns (c ∷ cs) more =
    let regroup : flat_map further_text (c ∷ cs) ++ (10 ∷ more) ≡ codes ", " ++ (change_text c ++ (flat_map further_text cs ++ (10 ∷ more))) = simp append_assoc in
    subst (λ (l : List ℕ). suc (length cs) < length l) (sym regroup) (omega (arith, few_turns cs more, length-append (change_text c) (flat_map further_text cs ++ (10 ∷ more))))

pub changes_taken : (w : WorkerId) (text : List ℕ) (y : List Change × List ℕ) → changes_at w text ≡ Some y → Spelled changes_text (ChangesFit w) text y
unfolding changes_at
changes_taken w text y e =
    let one = bind_some (change_at w text) _ y e in
    let more = bind_some (further_at (length one.0.1) w one.0.1) _ y one.2 in
    let a = change_taken w text one.0 one.1 in
    let b = further_taken (length one.0.1) w one.0.1 more.0 more.1 in
    subst (λ z. Spelled changes_text (ChangesFit w) text z) (some_is more.2) (record {
      is = a.is ∙ (ap (λ l. change_text one.0.0 ++ l) b.is ∙ sym (append_assoc (change_text one.0.0) (flat_map further_text more.0.0) more.0.1));
      fits_it = (a.fits_it, b.fits_it);
    })

pub changes_again : (w : WorkerId) (c : Change) (cs : List Change) (more : List ℕ) → ChangesFit w (c ∷ cs) → changes_at w (changes_text (c ∷ cs) ++ (10 ∷ more)) ≡ Some (c ∷ cs, 10 ∷ more)
unfolding changes_at
changes_again w c cs more fits =
    ap (λ t. change_at w t >>= λ d. further_at (length d.1) w d.1 >>= λ ds. Some (d.0 ∷ ds.0, ds.1)) (append_assoc (change_text c) (flat_map further_text cs) (10 ∷ more))
    ∙ (ap (λ r. r >>= λ d. further_at (length d.1) w d.1 >>= λ ds. Some (d.0 ∷ ds.0, ds.1)) (change_again w c (flat_map further_text cs ++ (10 ∷ more)) fits.0 (ends_line cs more))
    ∙ ap (λ r. r >>= λ ds. Some (c ∷ ds.0, ds.1)) (further_again (length (flat_map further_text cs ++ (10 ∷ more))) w cs more (few_turns cs more) fits.1))

pub effect_taken : (w : WorkerId) (text : List ℕ) (y : Option (List Change) × List ℕ) → effect_at w text ≡ Some y → Spelled effect_text (EffectFits w) text y
unfolding effect_at
effect_taken w text y e =
    either _ text _ _ y e (λ rest is k. plain_spelled effect_text (EffectFits w) None text rest y tt is k) (λ e.
    either _ text _ _ y e (λ rest is k. plain_spelled effect_text (EffectFits w) (Some []) text rest y tt is k) (λ e.
    let cs = bind_some (changes_at w text) _ y e in
    let a = changes_taken w text cs.0 cs.1 in
    subst (λ z. Spelled effect_text (EffectFits w) text z) (some_is cs.2) (record { is = a.is; fits_it = a.fits_it })))

no_word : (w : WorkerId) (c : Change) (t : List ℕ) → effect_at w (change_text c ++ t) ≡ (changes_at w (change_text c ++ t) >>= λ cs. Some (Some cs.0, cs.1))
unfolding effect_at branch
no_word w (Lock l) t = refl
no_word w (Unlock l) t = refl
no_word w Take t = refl
no_word w Give t = refl
no_word w (Move (TaskOf n) from to) t = refl
no_word w (Move (ActionOf n) from to) t = refl
no_word w (Move (UnitOf n) from to) t = refl
no_word w (Park l) t = refl
no_word w (Unpark l) t = refl
no_word w Enter t = refl
no_word w Leave t = refl

pub effect_again : (w : WorkerId) (r : Option (List Change)) (more : List ℕ) → EffectFits w r → effect_at w (effect_text r ++ (10 ∷ more)) ≡ Some (r, 10 ∷ more)
unfolding effect_at branch
effect_again w None more fits = refl
effect_again w (Some []) more fits = refl
effect_again w (Some (c ∷ cs)) more fits =
    ap (effect_at w) (append_assoc (change_text c) (flat_map further_text cs) (10 ∷ more))
    ∙ (no_word w c (flat_map further_text cs ++ (10 ∷ more))
    ∙ (ap (λ t. changes_at w t >>= λ ds. Some (Some ds.0, ds.1)) (sym (append_assoc (change_text c) (flat_map further_text cs) (10 ∷ more)))
    ∙ ap (λ r. r >>= λ ds. Some (Some ds.0, ds.1)) (changes_again w c cs more fits)))
