-- A history that is checked whole has the answer that its text has.
use Rattle.std.proofs.Common.{◌≡◌, ℕ, ◌-◌, ◌≤◌, List, ◌++◌, length, take, Option, Some, Ok, refl, sym, subst, ◌∙◌, inl}
use Rattle.std.specs.Io.KnownBytes.{Consumes}
use Rattle.file_access.specs.SourceView.{SourceView}
use Rattle.resource_lock.specs.GraphView.{GraphView}
use Rattle.plan_reader.specs.PlanView.{PlanView}
use Rattle.plan_reader.specs.Graph.{graph_of}
use Rattle.history_text.specs.HistoryView.{HistoryView}
use Rattle.history_check.specs.CheckView.{CheckView, IsCheckOf}
use Rattle.history_check.specs.Verdict.{IsAnswerTo, IsVerdict}
use Rattle.history_check.specs.Naming.{Names}
use Rattle.history_check.specs.Checking.{HasChecked, IsAnswer, all_given, still_given}
use Rattle.history_check.specs.declared.checks.Checked.{Checked}
use Rattle.history_check.specs.declared.inputs.TheConstants.{MAX_INPUT_BYTES}
use Rattle.history_check.proofs.Given.{first_bytes}
use Rattle.history_check.proofs.OneAnswer.{one_verdict, one_answer}

pub same_by_lines : (p : PlanView) (h : HistoryView) (c : CheckView) (whole by_line : Checked) → IsAnswerTo p h whole → IsCheckOf p h c → IsVerdict c.graph h.locks h.entries by_line → whole ≡ by_line
same_by_lines p h c whole by_line answer is verdict =
    one_verdict (graph_of p h.workers h.max h.parallel) h.locks h.entries whole by_line answer (subst (λ (g : GraphView). IsVerdict g h.locks h.entries by_line) is.graph verdict)

same_of_bytes : (p : PlanView) (h : HistoryView) (bytes more came : List ℕ) (left : Option (List ℕ)) (whole by_line : Checked) → IsAnswerTo p h whole → Names bytes h → length bytes ≤ MAX_INPUT_BYTES → length came ≤ MAX_INPUT_BYTES
    → Consumes (Some (bytes ++ more)) left came → IsAnswer p came (all_given came left) by_line → whole ≡ by_line
same_of_bytes p h bytes more came left whole by_line answer names long few taken given =
    let known : all_given came left ≡ bytes ++ take (MAX_INPUT_BYTES - length bytes) more =
    first_bytes (bytes ++ more) came left taken few ∙ sym (first_bytes (bytes ++ more) bytes (Some more) refl long) in
    one_answer p (all_given came left) bytes (take (MAX_INPUT_BYTES - length bytes) more) came (still_given (MAX_INPUT_BYTES - length came) left) whole by_line known refl
    (inl (record { history = h; names = names; verdict = answer })) given

pub same_of_input : (p : PlanView) (h : HistoryView) (bytes more : List ℕ) (old new : SourceView) (whole by_line : Checked) → IsAnswerTo p h whole → Names bytes h → length bytes ≤ MAX_INPUT_BYTES → old.left ≡ Some (bytes ++ more)
    → HasChecked p old new (Ok by_line) → whole ≡ by_line
same_of_input p h bytes more old new whole by_line answer names long known checked =
    same_of_bytes p h bytes more checked.0 new.left whole by_line answer names long checked.1.few
    (subst (λ (left : Option (List ℕ)). Consumes left new.left checked.0) known checked.1.taken) checked.2
