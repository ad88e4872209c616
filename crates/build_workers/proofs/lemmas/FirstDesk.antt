-- What is known of the desks, where one call was made with the first of them.
use Rattle.std.proofs.Common.{◌≡◌, ◌≤◌, ℕ, zero, suc, List, [], ◌∷◌, length, get_or, set, drop, refl, sym, ◌∙◌, ap, subst, arith}
use Rattle.std.proofs.lemmas.List.{get_or_default, get_or-set_other, get_or-set_same}

-- what is known of the first desk before and after is known of the desks
pub of_first : {D : Type 0} (P : D → D → Type 0) (desks : List D) (first last d : D) → 1 ≤ length desks → first ≡ get_or desks 0 first → P first last → P (get_or desks 0 d) (get_or (set desks 0 last) 0 d)
of_first P desks first last d some is h =
    let before : first ≡ get_or desks 0 d = is ∙ get_or_default desks 0 first d some in
    subst (λ x. P (get_or desks 0 d) x) (sym (get_or-set_same desks 0 last d some)) (subst (λ x. P x last) before h)

-- and where it is known of each desk with itself, it is known of each
pub of_each : {D : Type 0} (P : D → D → Type 0) (desks : List D) (first last : D) (i : ℕ) (d : D) → 1 ≤ length desks → first ≡ get_or desks 0 first → ((x : D) → P x x) → P first last → P (get_or desks i d) (get_or (set desks 0 last) i d)
of_each P desks first last zero d some is same h = of_first P desks first last d some is h
of_each P desks first last (suc i) d some is same h = subst (λ x. P (get_or desks (suc i) d) x) (sym (get_or-set_other desks 0 (suc i) last d (λ e. cc e))) (same (get_or desks (suc i) d))

drop_behind : {D : Type 0} (n : ℕ) (desks : List D) → drop (suc n) desks ≡ drop n (drop 1 desks)
drop_behind zero [] = refl
drop_behind (suc n) [] = refl
drop_behind n (desk ∷ desks) = refl

-- what stands behind the first n is as before, where it is behind the first
pub drop_more : {D : Type 0} (n : ℕ) (old new : List D) → 1 ≤ n → drop 1 new ≡ drop 1 old → drop n new ≡ drop n old
drop_more zero old new some rest = absurd (omega (arith, some))
drop_more (suc n) old new some rest = drop_behind n new ∙ (ap (drop n) rest ∙ sym (drop_behind n old))
