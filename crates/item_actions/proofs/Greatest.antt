-- The longest piece, by places.
use Rattle.std.proofs.Common.{◌≡◌, ◌≢◌, ℕ, zero, suc, ◌+◌, ◌-◌, ◌<◌, ◌≤◌, ◌⊎◌, List, [], ◌∷◌, Bool, true, false, not, eqb, length, get_or, refl, sym, ap, subst, ◌∙◌, arith, ⊎_elim, inl, inr}
use Rattle.std.proofs.lemmas.Bool.{cases_eq, cases_lt, cond-true, false≢true}
use Rattle.std.proofs.lemmas.Bool.Decides.{nat_tests}
use Rattle.std.proofs.lemmas.List.Sums.{prefix_len_passes, prefix_len_stops, prefix_len-le-length}
use Rattle.item_actions.specs.Bytes.{longest, run}
use Rattle.item_actions.specs.Pieces.{HasNoLineEnd, IsPiece}

abbrev other : ℕ → Bool
other b = not (eqb b 10)

passes_no_end : (b : ℕ) → other b ≡ true → b ≢ 10
passes_no_end b passes is = false≢true (sym (ap other is) ∙ passes)

no_end_passes : (b : ℕ) → b ≢ 10 → other b ≡ true
no_end_passes b h = grind (arith, nat_tests)

an_end : (b : ℕ) → other b ≡ false → b ≡ 10
an_end b fails = grind (arith, nat_tests)

-- a run is as long as the bytes from the start on that are no line ends
run_reaches : (bytes : List ℕ) (j : ℕ) → HasNoLineEnd bytes 0 j → j ≤ run bytes
run_reaches bytes zero h = omega arith
run_reaches [] (suc j) h = absurd (omega (arith, h.within))
run_reaches (b ∷ bytes) (suc j) h =
    let later = run_reaches bytes j (record {
      order = omega arith;
      within = omega (arith, h.within);
      none = λ k low high. h.none (suc k) (omega arith) (omega arith);
    }) in
    let more : run (b ∷ bytes) ≡ 1 + run bytes = cond-true _ _ _ (no_end_passes b (h.none 0 (omega arith) (omega arith))) in
    omega arith

pub none_longer : (bytes : List ℕ) (i j : ℕ) → HasNoLineEnd bytes i j → j - i ≤ longest bytes
unfolding longest
none_longer [] i j h = omega (arith, h.within)
none_longer (b ∷ bytes) zero j h = omega (arith, run_reaches (b ∷ bytes) j h)
none_longer (b ∷ bytes) (suc i) zero h = omega arith
none_longer (b ∷ bytes) (suc i) (suc j) h =
    let later = none_longer bytes i j (record {
      order = omega (arith, h.order);
      within = omega (arith, h.within);
      none = λ k low high. h.none (suc k) (omega arith) (omega arith);
    }) in
    omega arith

-- the run at the start is a piece
first_piece : (bytes : List ℕ) → IsPiece bytes 0 (run bytes)
first_piece bytes = record {
  whole = record {
    order = omega arith;
    within = prefix_len-le-length other bytes;
    none = λ k low high. passes_no_end _ (prefix_len_passes other bytes k 0 high);
  };
  begins = inl refl;
  ends = ⊎_elim
      (λ all. inl all)
      (λ before. inr (an_end _ (prefix_len_stops other bytes 0 (omega (arith, prefix_len-le-length other bytes)))))
      (cases_eq (run bytes) (length bytes));
}

later_none : (b : ℕ) (bytes : List ℕ) (i j : ℕ) → HasNoLineEnd bytes i j → (k : ℕ) → suc i ≤ k → k < suc j → get_or (b ∷ bytes) k 0 ≢ 10
later_none b bytes i j h zero low high = absurd (omega arith)
later_none b bytes i j h (suc k) low high = h.none k (omega arith) (omega arith)

later_begins : (b : ℕ) (bytes : List ℕ) (i : ℕ) → (i ≡ 0) ⊎ (get_or bytes (i - 1) 0 ≡ 10) → (i ≡ 0 → b ≡ 10) → get_or (b ∷ bytes) (suc i - 1) 0 ≡ 10
later_begins b bytes zero begins start = start refl
later_begins b bytes (suc i) begins start =
    let here : suc (suc i) - 1 ≡ suc i = omega arith in
    let there : i ≡ suc i - 1 = omega arith in
    ap (λ k. get_or (b ∷ bytes) k 0) here ∙ ap (λ k. get_or bytes k 0) there ∙ ⊎_elim (λ first. absurd (omega arith)) (λ behind. behind) begins

-- a piece goes on being one behind one byte more, unless it begins right behind a byte that is no line end
later_piece : (b : ℕ) (bytes : List ℕ) (i j : ℕ) → IsPiece bytes i j → (i ≡ 0 → b ≡ 10) → IsPiece (b ∷ bytes) (suc i) (suc j)
later_piece b bytes i j piece start = record {
  whole = record {
    order = omega (arith, piece.whole.order);
    within = omega (arith, piece.whole.within);
    none = later_none b bytes i j piece.whole;
  };
  begins = inr (later_begins b bytes i piece.begins start);
  ends = ⊎_elim (λ all. inl (ap suc all)) (λ before. inr before) piece.ends;
}

-- what is longer than the run from the byte before it on begins behind a line end
starts_behind : (b : ℕ) (bytes : List ℕ) (i j : ℕ) → HasNoLineEnd bytes i j → run (b ∷ bytes) < j - i → i ≡ 0 → b ≡ 10
starts_behind b bytes i j whole short first = ⊎_elim
    (λ is. is)
    (λ differs.
    let more : run (b ∷ bytes) ≡ 1 + run bytes = cond-true _ _ _ (no_end_passes b differs) in
    let reach = run_reaches bytes j (subst (λ k. HasNoLineEnd bytes k j) first whole) in
    absurd (omega arith))
    (cases_eq b 10)

pub one_of_them : (bytes : List ℕ) → (i : ℕ) × (j : ℕ) × IsPiece bytes i j × (longest bytes ≡ j - i)
unfolding longest
one_of_them [] = (0, 0, first_piece [], refl)
one_of_them (b ∷ bytes) =
    let rest = one_of_them bytes in
    let i = rest.0 in
    let j = rest.1 in
    let long : longest bytes ≡ j - i = rest.3 in
    ⊎_elim
    (λ shorter. (suc i, suc j, later_piece b bytes i j rest.2 (starts_behind b bytes i j rest.2.whole (omega arith)), omega arith))
    (λ enough. (0, run (b ∷ bytes), first_piece (b ∷ bytes), omega arith))
    (cases_lt (run (b ∷ bytes)) (longest bytes))
