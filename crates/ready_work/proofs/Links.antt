-- Lists that are linked in one row: with one more number, and gone through from the front.
use Rattle.std.proofs.Common.{◌≡◌, ◌⊎◌, inl, inr, ℕ, zero, suc, ◌+◌, ◌-◌, ◌<◌, ◌≤◌, cond, List, [], ◌∷◌, ◌++◌, length, get_or, reverse, set, refl, sym, ap, ap₂, ◌∙◌, subst, arith}
use Rattle.std.specs.List.{All}
use Rattle.std.proofs.lemmas.Bool.{cases_eq, cases_lt, eq-eqb, ne_eqb}
use Rattle.std.proofs.lemmas.List.{get_or-map, get_or-reverse, get_or-set_other, get_or-set_same, get_or_append_left, get_or_push, length-append, length-reverse, length-set, map-set, reverse-append}
use Rattle.std.proofs.lemmas.List.Elements.{All-head, All-tail}
use Rattle.ready_work.specs.LinkedLists.{AreLinked, linked, list_from, lists_by, no_link}
use Rattle.ready_work.specs.Rank.{after}
use Rattle.ready_work.specs.declared.linked_lists.Link.{Link}

linked_skip : (l : Link) (ls : List Link) (n : ℕ) → n ≤ length ls → linked (l ∷ ls) n ≡ linked ls n
linked_skip l ls n le = ap (λ b. cond b (l.number ∷ linked ls l.next) (linked ls n)) (ne_eqb n (suc (length ls)) (λ e. omega (arith, le, e)))

linked_here : (l : Link) (ls : List Link) → linked (l ∷ ls) (suc (length ls)) ≡ l.number ∷ linked ls l.next
linked_here l ls = ap (λ b. cond b (l.number ∷ linked ls l.next) (linked ls (suc (length ls)))) (eq-eqb (suc (length ls)) (suc (length ls)) refl)

linked_none : (ls : List Link) → linked ls 0 ≡ []
linked_none [] = refl
linked_none (l ∷ ls) = linked_skip l ls 0 (omega arith) ∙ linked_none ls

-- the first number of a list, and the others
linked_first : (ls : List Link) (i : ℕ) (x : Link) → i < length ls → x ≡ get_or ls (length ls - 1 - i) no_link → x.next ≤ i → linked ls (suc i) ≡ x.number ∷ linked ls x.next
linked_first [] i x lt is low = absurd (omega (arith, lt))
linked_first (l ∷ ls) i x lt is low = at (cases_eq i (length ls)) (λ before found. linked_first ls i x before found low)
  where
    at : (i ≡ length ls) ⊎ (i ≡ length ls → ⊥) → (i < length ls → x ≡ get_or ls (length ls - 1 - i) no_link → linked ls (suc i) ≡ x.number ∷ linked ls x.next)
        → linked (l ∷ ls) (suc i) ≡ x.number ∷ linked (l ∷ ls) x.next
    at (inl last) rest =
        let place : length (l ∷ ls) - 1 - i ≡ 0 = omega (arith, last) in
        let same : x ≡ l = is ∙ ap (λ k. get_or (l ∷ ls) k no_link) place in
        ap (λ n. linked (l ∷ ls) (suc n)) last
        ∙ linked_here l ls
        ∙ sym (ap (λ (y : Link). y.number ∷ linked ls y.next) same)
        ∙ ap (λ ns. x.number ∷ ns) (sym (linked_skip l ls x.next (omega (arith, low, last))))
    at (inr other) rest =
        let place : length (l ∷ ls) - 1 - i ≡ suc (length ls - 1 - i) = omega (arith, lt, other) in
        let same : x ≡ get_or ls (length ls - 1 - i) no_link = is ∙ ap (λ k. get_or (l ∷ ls) k no_link) place in
        linked_skip l ls (suc i) (omega (arith, lt, other))
        ∙ rest (omega (arith, lt, other)) same
        ∙ ap (λ ns. x.number ∷ ns) (sym (linked_skip l ls x.next (omega (arith, low, lt))))

-- ---- the same of the links in their order

pub none_from : (links : List Link) → list_from links 0 ≡ []
none_from links = linked_none (reverse links)

pub first_from : (links : List Link) (i : ℕ) (x : Link) → i < length links → x ≡ get_or links i no_link → x.next ≤ i → list_from links (i + 1) ≡ x.number ∷ list_from links x.next
first_from links i x lt is low =
    let long = length-reverse links in
    let place : length links - 1 - (length (reverse links) - 1 - i) ≡ i = omega (arith, lt, long) in
    let read : get_or (reverse links) (length (reverse links) - 1 - i) no_link ≡ get_or links i no_link =
    get_or-reverse links (length (reverse links) - 1 - i) no_link (omega (arith, lt, long)) ∙ ap (λ k. get_or links k no_link) place in
    let next : i + 1 ≡ suc i = omega arith in
    ap (list_from links) next ∙ linked_first (reverse links) i x (omega (arith, lt, long)) (is ∙ sym read) low

-- ---- one more number

pub pushed_front : (links : List Link) (l : Link) → list_from (links ++ l ∷ []) (length links + 1) ≡ l.number ∷ list_from links l.next
pushed_front links l =
    let here : length links + 1 ≡ suc (length (reverse links)) = omega (arith, length-reverse links) in
    ap (λ ls. linked ls (length links + 1)) (reverse-append links (l ∷ []))
    ∙ ap (linked (l ∷ reverse links)) here
    ∙ linked_here l (reverse links)

others_stay : (links : List Link) (l : Link) (n : ℕ) → n ≤ length links → list_from (links ++ l ∷ []) n ≡ list_from links n
others_stay links l n le = ap (λ ls. linked ls n) (reverse-append links (l ∷ [])) ∙ linked_skip l (reverse links) n (omega (arith, le, length-reverse links))

lists_stay : (links : List Link) (l : Link) (firsts : List ℕ) → All (λ n. n ≤ length links) firsts → lists_by (links ++ l ∷ []) firsts ≡ lists_by links firsts
lists_stay links l [] all = refl
lists_stay links l (n ∷ ns) all = ap₂ ◌∷◌ (others_stay links l n (All-head (λ m. m ≤ length links) n ns all)) (lists_stay links l ns (All-tail (λ m. m ≤ length links) n ns all))

module _ (links : List Link) (firsts : List ℕ) (list : ℕ) (l : Link) (sound : AreLinked links firsts) (lt : list < length firsts) (is : l.next ≡ get_or firsts list 0) where
  pub list_grows : lists_by (links ++ l ∷ []) (set firsts list (length links + 1)) ≡ set (lists_by links firsts) list (l.number ∷ after (lists_by links firsts) list)
  list_grows =
      let others : list_from links l.next ≡ after (lists_by links firsts) list = ap (list_from links) is ∙ sym (get_or-map (list_from links) firsts list 0 [] lt) in
      map-set (list_from (links ++ l ∷ [])) firsts list (length links + 1)
      ∙ ap (λ ls. set ls list (list_from (links ++ l ∷ []) (length links + 1))) (lists_stay links l firsts sound.firsts_within)
      ∙ ap (set (lists_by links firsts) list) (pushed_front links l ∙ ap (λ ns. l.number ∷ ns) others)

  low : l.next ≤ length links
  low = subst (λ n. n ≤ length links) (sym is) (sound.firsts_within list 0 lt)

  next_at : (i : ℕ) → i < length (links ++ l ∷ []) → (i < length links) ⊎ (length links ≤ i) → (get_or (links ++ l ∷ []) i no_link).next ≤ i
  next_at i within (inl before) = subst (λ (x : Link). x.next ≤ i) (sym (get_or_append_left links (l ∷ []) no_link i before)) (sound.nexts i before)
  next_at i within (inr past) =
      let last : length links ≡ i = omega (arith, within, past, length-append links (l ∷ [])) in
      subst (λ (x : Link). x.next ≤ i) (sym (get_or_push links l no_link i last)) (omega (arith, low, last))

  first_at : (i d : ℕ) → i < length firsts → (i ≡ list) ⊎ (i ≡ list → ⊥) → get_or (set firsts list (length links + 1)) i d ≤ length (links ++ l ∷ [])
  first_at i d within (inl same) =
      let read = ap (λ k. get_or (set firsts list (length links + 1)) k d) same ∙ get_or-set_same firsts list (length links + 1) d lt in
      omega (arith, read, length-append links (l ∷ []))
  first_at i d within (inr other) =
      omega (arith, get_or-set_other firsts list i (length links + 1) d other, sound.firsts_within i d within, length-append links (l ∷ []))

  pub sound_grown : AreLinked (links ++ l ∷ []) (set firsts list (length links + 1))
  sound_grown = record {
    nexts = λ i within. next_at i within (cases_lt i (length links));
    firsts_within = λ i d within. first_at i d (omega (arith, within, length-set firsts list (length links + 1))) (cases_eq i list);
  }

-- no list has a number where there are no links
pub all_empty : (firsts : List ℕ) (u : ℕ) → after (lists_by [] firsts) u ≡ []
all_empty [] u = refl
all_empty (n ∷ ns) zero = refl
all_empty (n ∷ ns) (suc u) = all_empty ns u
