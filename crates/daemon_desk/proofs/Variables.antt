-- A command gets one variable more.
use Rattle.std.proofs.Common.{◌≡◌, ℕ, inl, inr, List, [], ◌∷◌, ◌++◌, Option, Some, cond, ap, sym, subst, ◌∙◌}
use Rattle.std.proofs.lemmas.Bool.{cases_Bool}
use Rattle.std.proofs.lemmas.List.Sums.{fold-append}
use Rattle.std.proofs.lemmas.Slice.Eq.{bytes_eq-Decides}
use Rattle.std.specs.Process.{command_var, clears_env, SameProgramAndArgs, SameOtherVars}
use Rattle.std.specs.Str.{bytes_eq}
use Rattle.std.specs.declared.process.command.Command.{Command}
use Rattle.daemon_requirements.specs.declared.fields.Pair.{Pair}
use Rattle.daemon_desk.specs.Commands.{set_by, SetsVariables}

-- the last pair of a name counts
set_more : (pairs : List Pair) (p : Pair) (name : List ℕ) (before : Option (Option (List ℕ))) → set_by (pairs ++ p ∷ []) name before ≡ cond (bytes_eq p.name name) (Some (Some p.value)) (set_by pairs name before)
set_more pairs p name before = fold-append (λ (said : Option (Option (List ℕ))) (x : Pair). cond (bytes_eq x.name name) (Some (Some x.value)) said) before pairs (p ∷ [])

pub sets_more : {A : Type 0} (old mid new : Command A) (pairs : List Pair) (p : Pair) → SetsVariables pairs old mid → command_var new p.name ≡ Some (Some p.value) → SameOtherVars mid new p.name
    → SameProgramAndArgs mid new → clears_env new ≡ clears_env mid → SetsVariables (pairs ++ p ∷ []) old new
sets_more {A} old mid new pairs p was set others call clears =
    let variable : (name : List ℕ) → command_var new name ≡ set_by (pairs ++ p ∷ []) name (command_var old name) = λ name.
    let decides = bytes_eq-Decides p.name name in
    let before = set_by pairs name (command_var old name) in
    let more = set_more pairs p name (command_var old name) in
    elim (cases_Bool (bytes_eq p.name name)) [
      | inl is ↦ subst (λ (k : List ℕ). command_var new k ≡ Some (Some p.value)) (decides.0 is) set ∙ sym (more ∙ ap (λ b. cond b (Some (Some p.value)) before) is)
      | inr isnt ↦ others name (λ same. let is = decides.1 (sym same) in cc) ∙ was.2 name ∙ sym (more ∙ ap (λ b. cond b (Some (Some p.value)) before) isnt)
    ] in
    ((call.0 ∙ was.0.0, call.1 ∙ was.0.1), clears ∙ was.1, variable)
