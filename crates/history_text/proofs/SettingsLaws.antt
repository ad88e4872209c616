-- The laws of the second line.
use Rattle.std.proofs.Common.{◌≡◌, ◌≢◌, ℕ, ◌+◌, ◌^◌, ◌<◌, ◌≤◌, List, [], ◌∷◌, ◌++◌, Option, Some, None, IfSome, Bool, true, false, refl, sym, ap, subst, ◌∙◌, append_assoc, append-nil, arith, decimal, codes, nat_eq, cond}
use Rattle.std.proofs.lemmas.Bool.{ne_eqb, eqb-false}
use Rattle.plan_reader.specs.declared.limits.TheConstants.{MAX_LEASES, MAX_WORKERS}
use Rattle.history_text.specs.Text.{parallel_text, locks_text}
use Rattle.history_text.specs.Fitting.{HeadFits}
use Rattle.history_text.specs.declared.heads.Settings.{Settings}
use Rattle.history_text.specs.declared.heads.Version.{Version}
use Rattle.history_text.specs.declared.heads.Version.TheVariants.{One, Two}
use Rattle.history_text.specs.Lines.{second_line, version_of, IsSaidBy, OpensNone}
use Rattle.history_text.specs.Reading.{◌>>=◌, on, after, branch, plain, number_at, count_at, parallel_at, locks_at, settings_at, begins_with_digit}
use Rattle.history_text.proofs.Numbers.{number_again, number_taken}
use Rattle.history_text.proofs.Words.{Spelled, some_is, none_some, bind_some, after_taken, either, plain_spelled}

record CountRead (most : ℕ) (text : List ℕ) (y : ℕ × List ℕ) : Type 0 where
  is : text ≡ decimal y.0 ++ y.1
  some : 1 ≤ y.0
  few : y.0 ≤ most

count_taken : (most : ℕ) (text : List ℕ) (y : ℕ × List ℕ) → 9 ≤ most → most < 2 ^ 32 → count_at most text ≡ Some y → CountRead most text y
unfolding count_at
count_taken most text y least few_enough e =
    let n = bind_some (number_at (most + 1) text) _ y e in
    let a = number_taken (most + 1) text n.0 (omega (arith, least)) (omega (arith, few_enough)) n.1 in
    at n.0 a.0 a.1 (nat_eq n.0.0 0) refl n.2
  where
    at : (n : ℕ × List ℕ) → n.0 < most + 1 → text ≡ decimal n.0 ++ n.1 → (b : Bool) → nat_eq n.0 0 ≡ b → cond (nat_eq n.0 0) None (Some n) ≡ Some y → CountRead most text y
    at n few is true s h = absurd (none_some (sym (ap (λ b. cond b None (Some n)) s) ∙ h))
    at n few is false s h =
        let ne : n.0 ≢ 0 = eqb-false n.0 0 s in
        subst (λ z. CountRead most text z) (some_is (sym (ap (λ b. cond b None (Some n)) s) ∙ h)) (record { is = is; some = omega arith; few = omega (arith, few) })

count_again : (most n : ℕ) (rest : List ℕ) → 9 ≤ most → most < 2 ^ 32 → 1 ≤ n → n ≤ most → begins_with_digit rest ≡ false → count_at most (decimal n ++ rest) ≡ Some (n, rest)
unfolding count_at
count_again most n rest least few_enough some few nd =
    let ne : n ≢ 0 = omega arith in
    ap (λ r. r >>= λ k. cond (nat_eq k.0 0) None (Some k)) (number_again (most + 1) n rest (omega (arith, few)) (omega (arith, few_enough)) nd)
    ∙ ap (λ b. cond b None (Some (n, rest))) (ne_eqb n 0 ne)

abbrev Any : Bool → Type 0
Any p = Unit {0}

parallel_taken : (text : List ℕ) (y : Bool × List ℕ) → parallel_at text ≡ Some y → Spelled parallel_text Any text y
unfolding parallel_at
parallel_taken text y e =
    either _ text _ _ y e (λ rest is k. plain_spelled parallel_text Any true text rest y tt is k) (λ e.
    either _ text _ _ y e (λ rest is k. plain_spelled parallel_text Any false text rest y tt is k) (λ e. absurd (none_some e)))

parallel_again : (p : Bool) (rest : List ℕ) → parallel_at (parallel_text p ++ rest) ≡ Some (p, rest)
unfolding parallel_at branch
parallel_again true rest = refl
parallel_again false rest = refl

record LocksRead (v : Version) (text : List ℕ) (y : Option ℕ × List ℕ) : Type 0 where
  is : text ≡ locks_text y.0 ++ y.1
  few : IfSome y.0 (λ l. l < 2 ^ 32)
  version : version_of y.0 ≡ v

locks_taken : (v : Version) (text : List ℕ) (y : Option ℕ × List ℕ) → locks_at v text ≡ Some y → LocksRead v text y
unfolding locks_at
locks_taken One text y e = subst (λ z. LocksRead One text z) (some_is e) (record { is = refl; few = tt; version = refl })
locks_taken Two text y e =
    let front = bind_some (after (codes " locks ") text) _ y e in
    let read = bind_some (number_at (2 ^ 32) front.0) _ y front.2 in
    let number = number_taken (2 ^ 32) front.0 read.0 (omega arith) (omega arith) read.1 in
    subst (λ z. LocksRead Two text z) (some_is read.2) (record {
      is = after_taken (codes " locks ") text front.0 front.1 ∙ (ap (λ l. codes " locks " ++ l) number.1 ∙ sym (append_assoc (codes " locks ") (decimal read.0.0) read.0.1));
      few = number.0;
      version = refl;
    })

locks_again : (locks : Option ℕ) (rest : List ℕ) → IfSome locks (λ l. l < 2 ^ 32) → begins_with_digit rest ≡ false → locks_at (version_of locks) (locks_text locks ++ rest) ≡ Some (locks, rest)
unfolding locks_at
locks_again None rest few nd = refl
locks_again (Some l) rest few nd =
    ap (λ t. after (codes " locks ") t >>= λ r. number_at (2 ^ 32) r >>= λ n. Some (Some n.0, n.1)) (append_assoc (codes " locks ") (decimal l) rest)
    ∙ ap (λ r. r >>= λ n. Some (Some n.0, n.1)) (number_again (2 ^ 32) l rest few (omega arith) nd)

pub record SettingsRead (v : Version) (text : List ℕ) (y : Settings × List ℕ) : Type 0 where
  pub is : text ≡ second_line y.0.workers y.0.max y.0.parallel y.0.locks ++ y.1
  pub fits : HeadFits y.0.workers y.0.max y.0.locks
  pub version : version_of y.0.locks ≡ v

eight : (a b c d e f g h rest : List ℕ) → a ++ (b ++ (c ++ (d ++ (e ++ (f ++ (g ++ (h ++ rest))))))) ≡ (a ++ b ++ c ++ d ++ e ++ f ++ g ++ h) ++ rest
eight a b c d e f g h rest = simp append_assoc

pub settings_taken : (v : Version) (text : List ℕ) (y : Settings × List ℕ) → settings_at v text ≡ Some y → SettingsRead v text y
unfolding settings_at
settings_taken v text y e =
    let front = bind_some (after (codes "workers ") text) _ y e in
    let w = bind_some (count_at MAX_WORKERS front.0) _ y front.2 in
    let gap = bind_some (after (codes " max ") w.0.1) _ y w.2 in
    let m = bind_some (count_at MAX_LEASES gap.0) _ y gap.2 in
    let gap' = bind_some (after (codes " parallel ") m.0.1) _ y m.2 in
    let p = bind_some (parallel_at gap'.0) _ y gap'.2 in
    let k = bind_some (locks_at v p.0.1) _ y p.2 in
    let end = bind_some (after (codes "\n") k.0.1) _ y k.2 in
    let a = count_taken MAX_WORKERS front.0 w.0 (omega arith) (omega arith) w.1 in
    let b = count_taken MAX_LEASES gap.0 m.0 (omega arith) (omega arith) m.1 in
    let c = parallel_taken gap'.0 p.0 p.1 in
    let d = locks_taken v p.0.1 k.0 k.1 in
    let whole : text ≡ codes "workers " ++ (decimal w.0.0 ++ (codes " max " ++ (decimal m.0.0 ++ (codes " parallel " ++ (parallel_text p.0.0 ++ (locks_text k.0.0 ++ (codes "\n" ++ end.0))))))) =
    after_taken (codes "workers ") text front.0 front.1 ∙ ap (λ l. codes "workers " ++ l) (a.is ∙ ap (λ l. decimal w.0.0 ++ l) (after_taken (codes " max ") w.0.1 gap.0 gap.1
    ∙ ap (λ l. codes " max " ++ l) (b.is ∙ ap (λ l. decimal m.0.0 ++ l) (after_taken (codes " parallel ") m.0.1 gap'.0 gap'.1
    ∙ ap (λ l. codes " parallel " ++ l) (c.is ∙ ap (λ l. parallel_text p.0.0 ++ l) (d.is ∙ ap (λ l. locks_text k.0.0 ++ l) (after_taken (codes "\n") k.0.1 end.0 end.1))))))) in
    subst (λ z. SettingsRead v text z) (some_is end.2) (record {
      is = whole ∙ eight (codes "workers ") (decimal w.0.0) (codes " max ") (decimal m.0.0) (codes " parallel ") (parallel_text p.0.0) (locks_text k.0.0) (codes "\n") end.0;
      fits = record { some_worker = a.some; few_workers = a.few; some_lease = b.some; few_leases = b.few; few_locks = d.few };
      version = d.version;
    })

abbrev pub said : ℕ → ℕ → Bool → Option ℕ → Settings
said w m p l = record { workers = w; max = m; parallel = p; locks = l }

pub settings_again : (w m : ℕ) (p : Bool) (l : Option ℕ) (rest : List ℕ) → HeadFits w m l → settings_at (version_of l) (second_line w m p l ++ rest) ≡ Some (said w m p l, rest)
unfolding settings_at
settings_again w m p l rest fits =
    let behind : List ℕ = locks_text l ++ (codes "\n" ++ rest) in
    let regroup : second_line w m p l ++ rest ≡ codes "workers " ++ (decimal w ++ (codes " max " ++ (decimal m ++ (codes " parallel " ++ (parallel_text p ++ (locks_text l ++ (codes "\n" ++ rest))))))) =
    sym (eight (codes "workers ") (decimal w) (codes " max ") (decimal m) (codes " parallel ") (parallel_text p) (locks_text l) (codes "\n") rest) in
    ap (settings_at (version_of l)) regroup
    ∙ (ap (λ r. r >>= λ w. after (codes " max ") w.1 >>= λ r'. count_at MAX_LEASES r' >>= λ m. after (codes " parallel ") m.1 >>= λ r''. parallel_at r'' >>= λ p. locks_at (version_of l) p.1 >>= λ k. after (codes "\n") k.1 >>= λ rest. Some (said w.0 m.0 p.0 k.0, rest))
    (count_again MAX_WORKERS w (codes " max " ++ (decimal m ++ (codes " parallel " ++ (parallel_text p ++ behind)))) (omega arith) (omega arith) fits.some_worker fits.few_workers refl)
    ∙ (ap (λ r. r >>= λ m. after (codes " parallel ") m.1 >>= λ r''. parallel_at r'' >>= λ p. locks_at (version_of l) p.1 >>= λ k. after (codes "\n") k.1 >>= λ rest. Some (said w m.0 p.0 k.0, rest))
    (count_again MAX_LEASES m (codes " parallel " ++ (parallel_text p ++ behind)) (omega arith) (omega arith) fits.some_lease fits.few_leases refl)
    ∙ (ap (λ r. r >>= λ p. locks_at (version_of l) p.1 >>= λ k. after (codes "\n") k.1 >>= λ rest. Some (said w m p.0 k.0, rest)) (parallel_again p behind)
    ∙ ap (λ r. r >>= λ k. after (codes "\n") k.1 >>= λ rest. Some (said w m p k.0, rest)) (locks_again l (codes "\n" ++ rest) fits.few_locks refl))))

pub whole_settings : (v : Version) (line rest : List ℕ) (s : Settings) → Some (s, rest) ≡ settings_at v line → rest ≡ [] → IsSaidBy v line s
whole_settings v line rest s read none =
    let a = settings_taken v line (s, rest) (sym read) in
    let second : List ℕ = second_line s.workers s.max s.parallel s.locks in
    record { spelled = a.is ∙ (ap (λ r. second ++ r) none ∙ append-nil second); fits = a.fits; version = a.version }

reads_whole : (v : Version) (line : List ℕ) (w m : ℕ) (p : Bool) (l : Option ℕ) → HeadFits w m l → version_of l ≡ v → line ≡ second_line w m p l → settings_at v line ≡ Some (said w m p l, [])
reads_whole v line w m p l fits version is =
    subst (λ (u : Version). settings_at u line ≡ Some (said w m p l, [])) version
    (ap (settings_at (version_of l)) (is ∙ sym (append-nil (second_line w m p l))) ∙ settings_again w m p l [] fits)

abbrev found : Settings → List ℕ → Option (Settings × List ℕ)
found x rest = Some (x, rest)

rest_is : {e f : Settings} {r s : List ℕ} → found e r ≡ found f s → r ≡ s
rest_is e = ap (λ x. x.1) (some_is e)

pub more_than_settings : (v : Version) (line rest : List ℕ) (s : Settings) → Some (s, rest) ≡ settings_at v line → (rest ≡ [] → ⊥) → OpensNone v line
more_than_settings v line rest s read some w m p l fits version is = some (rest_is (read ∙ reads_whole v line w m p l fits version is))

pub no_settings : (v : Version) (line : List ℕ) → None ≡ settings_at v line → OpensNone v line
no_settings v line read w m p l fits version is = none_some (read ∙ reads_whole v line w m p l fits version is)
