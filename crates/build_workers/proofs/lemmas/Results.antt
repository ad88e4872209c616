-- What clauses on a result say, where it is known whether it is a value or an error.
use Rattle.std.proofs.Common.{◌≡◌, Result, Ok, Err, subst}
use Rattle.std.specs.Prelude.{IfOk, OnErr, OnOk}

-- a fact of each value is one of any value
pub ok_any : {T E : Type 0} (P : Type 0) (r : Result T E) → IfOk r (λ _. P) → OnOk r P
ok_any P (Ok x) p = p
ok_any P (Err e) p = tt

pub of_ok : {T E P : Type 0} (r : Result T E) (x : T) → r ≡ Ok x → OnOk r P → P
of_ok (Ok y) x is p = p
of_ok (Err e) x is p = absurd (cc)

-- what holds anyway holds at an error
pub at_err : {T E P : Type 0} (r : Result T E) → P → OnErr r P
at_err (Ok x) p = tt
at_err (Err e) p = p

pub of_err : {T E P : Type 0} (r : Result T E) (x : E) → r ≡ Err x → OnErr r P → P
of_err (Ok y) x is p = absurd (cc)
of_err (Err e) x is p = p

pub if_ok : {T E : Type 0} (P : T → Type 0) (r : Result T E) (x : T) → r ≡ Ok x → IfOk r P → P x
if_ok P (Ok y) x is p = subst P (cc) p
if_ok P (Err e) x is p = absurd (cc)

pub on_ok : {T E P Q : Type 0} (r : Result T E) → (P → Q) → OnOk r P → OnOk r Q
on_ok (Ok x) f p = f p
on_ok (Err e) f p = tt
