-- One worker more in a list of workers, and what each of them is made of.
use Rattle.std.proofs.Common.{◌≡◌, List, [], ◌∷◌, ◌++◌, length, map, sym, ap, ◌∙◌, arith, append_assoc}
use Rattle.std.proofs.lemmas.List.{append-nil, map_push}

-- the first of the others is one of those that went over
pub moved : {X : Type 0} (all done : List X) (x : X) {first rest : List X} → all ≡ done ++ first → first ≡ x ∷ rest → all ≡ (done ++ x ∷ []) ++ rest
moved all done x {first} {rest} are begin = are ∙ (ap (λ l. done ++ l) begin ∙ sym (append_assoc done (x ∷ []) rest))

-- none of them is left
pub all_moved : {X : Type 0} (all done rest : List X) → all ≡ done ++ rest → length rest ≡ 0 → all ≡ done
all_moved all done [] are none = are ∙ append-nil done
all_moved all done (x ∷ rest) are none = absurd (omega (arith, none))

-- a list of what each is made of, with one more
pub and_one : {W Y : Type 0} (part : W → Y) (ys : List Y) (ws : List W) (y : Y) (w : W) {new : List Y} → new ≡ ys ++ y ∷ [] → ys ≡ map part ws → y ≡ part w → new ≡ map part (ws ++ w ∷ [])
and_one part ys ws y w {new} are same one = are ∙ (ap (λ l. l ++ y ∷ []) same ∙ (ap (λ v. map part ws ++ v ∷ []) one ∙ sym (map_push part ws w)))

pub and_one_seen : {X Y W : Type 0} (view : X → Y) (part : W → Y) (xs : List X) (ws : List W) (x : X) (w : W) {new : List X} → new ≡ xs ++ x ∷ [] → map view xs ≡ map part ws → view x ≡ part w
    → map view new ≡ map part (ws ++ w ∷ [])
and_one_seen view part xs ws x w {new} are same one = and_one part (map view xs) ws (view x) w (ap (map view) are ∙ map_push view xs x) same one

-- one more has its part, and the others have theirs still to come
pub one_taken : {X Y W : Type 0} (view : X → Y) (part : W → Y) (all : List Y) (ws : List W) (x : X) (w : W) {before after : List X} {new : List W}
    → all ≡ map part ws ++ map view before → before ≡ x ∷ after → new ≡ ws ++ w ∷ [] → part w ≡ view x → all ≡ map part new ++ map view after
one_taken view part all ws x w {before} {after} {new} are begin more one =
    are ∙ (ap (λ l. map part ws ++ map view l) begin ∙ (sym (append_assoc (map part ws) (view x ∷ []) (map view after))
    ∙ ap (λ l. l ++ map view after) (ap (λ y. map part ws ++ y ∷ []) (sym one) ∙ (sym (map_push part ws w) ∙ ap (map part) (sym more)))))

-- each has its part, and none is left
pub all_taken : {X Y W : Type 0} (view : X → Y) (part : W → Y) (all : List Y) (ws : List W) (rest : List X) → all ≡ map part ws ++ map view rest → length rest ≡ 0 → map part ws ≡ all
all_taken view part all ws [] are none = sym (are ∙ append-nil (map part ws))
all_taken view part all ws (x ∷ rest) are none = absurd (omega (arith, none))
