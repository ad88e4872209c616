-- The parsers are ones whose matches are known from their words.
use Rattle.std.proofs.Common.{◌≡◌, ◌∙◌, ◌⊎◌, inl, inr, Bool, false, true, refl, sym, subst, ap, arith, length, Result, Ok, Err, List, [], ◌∷◌, if◌then◌else◌, Option, None, Some}
use Rattle.std.specs.Prelude.{IfErr, IfOk, IsErrAnd}
use Rattle.std.proofs.lemmas.Bool.{and_parts, ne_eqb}
use Rattle.clap.specs.Walk.{Row, Text, is_empty, rows_of}
use Rattle.clap.specs.Matches.{found_of}
use Rattle.clap.specs.Kinds.{Kinds, IsAmong}
use Rattle.clap.specs.declared.error.kind.ErrorKind.{ErrorKind}
use Rattle.clap.specs.declared.error.kind.ErrorKind.TheVariants as kind
use Rattle.clap.specs.declared.parser.matches.ArgMatches.{ArgMatches}
use Rattle.clap.specs.Simple.{App, HasMatchesOf, is_simple, matches_of}
use Rattle.clap.specs.Faults.{fault_of, is_simple_and_free}
use Rattle.command_words.specs.Failing.{NoMemoryOr}
use Rattle.command_words.specs.Matching.{asked_of, is_faultless}
use Rattle.command_words.specs.declared.commands.WordsFail.{WordsFail}
use Rattle.command_words.specs.declared.commands.WordsFail.TheVariants.{NoCommand, NoMemory}

rows_taken : (a : App) (words : List Text) (m : ArgMatches) → is_simple_and_free a ≡ true → HasMatchesOf a words m → rows_of (found_of m) ≡ matches_of a words
rows_taken a words m free h = (h (and_parts (is_simple a) _ free).0).0

some_fault : (a : App) (words : List Text) (k : ErrorKind) → is_simple_and_free a ≡ true → (is_simple_and_free a ≡ true → (k ≡ kind.OutOfMemory) ⊎ IsAmong k (fault_of a words))
    → (k ≡ kind.OutOfMemory → ⊥) → fault_of a words ≡ [] → ⊥
some_fault a words k free h other none =
    elim (h free) [
      | inl memory ↦ other memory
      | inr among ↦ subst (λ (ks : Kinds). IsAmong k ks) none among
    ]

no_fault : (ks : Kinds) → ks ≡ [] → is_empty ks ≡ true
no_fault ks none = ap is_empty none

a_fault : (ks : Kinds) → (ks ≡ [] → ⊥) → is_empty ks ≡ false
a_fault [] fault = absurd (fault refl)
a_fault (k ∷ ks) fault = ne_eqb (length (k ∷ ks)) 0 (λ e. omega (arith, e))

-- the parser a, which is that of app, took the words
pub words_taken : (a app : App) (words : List Text) (m : ArgMatches) → a ≡ app → is_simple_and_free app ≡ true → (is_simple_and_free a ≡ true → fault_of a words ≡ []) → HasMatchesOf a words m
    → (is_faultless app words ≡ true) × (rows_of (found_of m) ≡ matches_of app words)
words_taken a app words m same free none has =
    let at_a = subst (λ (x : App). is_simple_and_free x ≡ true) (sym same) free in
    subst (λ (x : App). (is_faultless x words ≡ true) × (rows_of (found_of m) ≡ matches_of x words)) same
    (no_fault (fault_of a words) (none at_a), rows_taken a words m at_a has)

-- it didn't, and memory wasn't wanting
pub words_refused : (a app : App) (words : List Text) (k : ErrorKind) → a ≡ app → is_simple_and_free app ≡ true → (is_simple_and_free a ≡ true → (k ≡ kind.OutOfMemory) ⊎ IsAmong k (fault_of a words))
    → (k ≡ kind.OutOfMemory → ⊥) → is_faultless app words ≡ false
words_refused a app words k same free h other =
    let at_a = subst (λ (x : App). is_simple_and_free x ≡ true) (sym same) free in
    subst (λ (x : App). is_faultless x words ≡ false) same (a_fault (fault_of a words) (some_fault a words k at_a h other))

module _ {X : Type 0} (app : App) (of_rows : List Row → Option X) (words : List Text) where
  -- what words ask for is what the matches give, where the parser took the words
  pub asked_by_rows : (rows : List Row) → (is_faultless app words ≡ true) × (rows ≡ matches_of app words) → of_rows rows ≡ asked_of app of_rows words
  asked_by_rows rows (faultless, are) = ap of_rows are ∙ sym (ap (λ (b : Bool). if b then of_rows (matches_of app words) else None) faultless)

  -- it is nothing, where the parser didn't
  pub nothing_asked : (f : WordsFail) → NoMemoryOr (is_faultless app words ≡ false) f → NoMemoryOr (asked_of app of_rows words ≡ None) f
  nothing_asked NoMemory h = tt
  nothing_asked NoCommand fault = ap (λ (b : Bool). if b then of_rows (matches_of app words) else None) fault

module _ {X : Type 0} (asked : Option X) where
  -- what is known of an answer, told of an equal answer
  pub answered : (given : Option X) (r : Result X WordsFail) → given ≡ asked → IfOk r (λ x. given ≡ Some x) → IfOk r (λ x. asked ≡ Some x)
  answered given r same ok = subst (λ (o : Option X). IfOk r (λ x. o ≡ Some x)) same ok

  pub refused : (given : Option X) (r : Result X WordsFail) → given ≡ asked → IfErr r (NoMemoryOr (given ≡ None)) → IfErr r (NoMemoryOr (asked ≡ None))
  refused given r same err = subst (λ (o : Option X). IfErr r (NoMemoryOr (o ≡ None))) same err

-- what is known of an error is known of the same error, handed on
pub handed_on : {T : Type 0} (P : WordsFail → Type 0) (r : Result T WordsFail) (f : WordsFail) → IsErrAnd r (λ e. e ≡ f) → P f → IfErr r P
handed_on P (Ok x) f same h = tt
handed_on P (Err e) f same h = subst P (sym same) h
