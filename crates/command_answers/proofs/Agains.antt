-- What is known of a run that was driven again.
use Rattle.std.proofs.Common.{◌≡◌, ◌≤◌, ◌-◌, ◌^◌, Bool, true, false, nat_lt, ℕ, List, [], ◌∷◌, Option, Result, Ok, Err, refl, ◌∙◌, ap, inl, inr, arith}
use Rattle.item_actions.specs.Files.{Folder}
use Rattle.lock_journal.specs.Names.{Entry, Closed, GraphView}
use Rattle.file_access.specs.Calls.{next}
use Rattle.file_access.specs.SourceView.{SourceView}
use Rattle.plan_reader.specs.PlanView.{PlanView}
use Rattle.plan_reader.specs.Graph.{graph_of}
use Rattle.daemon_desk.specs.declared.sent.SentRequest.{SentRequest}
use Rattle.build_workers.specs.Sent.{sent_view}
use Rattle.history_check.specs.declared.fails.CheckFail.{CheckFail}
use Rattle.history_check.specs.declared.fails.CheckFail.TheVariants as fails
use Rattle.history_check.specs.Driving.{DrivesInput, HasDriven, IsAgain, IsAgainCounted, ReadsFor}
use Rattle.history_check.specs.declared.again.Again.{Again}
use Rattle.history_check.specs.declared.again.Again.TheVariants as again
use Rattle.command_answers.specs.Again.{AnyRead, HasOnlyRead}
use Rattle.build_workers.proofs.lemmas.SentViews.{same_view}

-- ---- its files were read; here it isn't told which

module _ (Read : List Closed → Type 0) (p : PlanView) (known : Option Folder) where
  any_entries : (g : GraphView) (locks : Option ℕ) (es : List Entry) (a : Again) → IsAgain p g locks es known Read a → IsAgain p g locks es known AnyRead a
  any_entries g locks es (again.Same b) h = (h.0, h.1, h.2, h.3, tt)
  any_entries g locks es (again.NotLawful n) h = (h.0, tt)
  any_entries g locks es (again.Differs n o) h = (
    h.0,
    h.1,
    record {
      before = h.2.before;
      closed = h.2.closed;
      there = h.2.there;
      number = h.2.number;
      earlier = h.2.earlier;
      untrue = h.2.untrue;
      value = h.2.value;
      read = tt;
    },
  )
  any_entries g locks es (again.ReadFault u) h = (h.0, h.1, record { before = h.2.before; closed = h.2.closed; there = h.2.there; unit = h.2.unit; earlier = h.2.earlier; read = tt })

  any_input : (old new : SourceView) (a : Again) → DrivesInput p old new known Read a → DrivesInput p old new known AnyRead a
  any_input old new a (came, takes, inl drives, just) = (
    came,
    takes,
    inl (record {
      history = drives.history;
      names = drives.names;
      again = any_entries (graph_of p drives.history.workers drives.history.max drives.history.parallel) drives.history.locks drives.history.entries a drives.again;
    }),
    just,
  )
  any_input old new a (came, takes, inr none, just) = (came, takes, inr (record { number = none.number; breaks = none.breaks; answer = none.answer; read = tt }), just)

  pub any_driven : (old new : SourceView) (found : Result Again CheckFail) → HasDriven p old new known Read found → HasDriven p old new known AnyRead found
  any_driven old new (Ok a) h = any_input old new a h
  any_driven old new (Err fail) h = (h.0, ([], tt))

-- the source's count of faults has not gone down
pub source_kept : (p : PlanView) (old new : SourceView) (known : Option Folder) (Read : List Closed → Type 0) (found : Result Again CheckFail) → HasDriven p old new known Read found → old.faults ≤ new.faults
source_kept p old new known Read (Ok a) h = h.1.faults
source_kept p old new known Read (Err fails.SourceFault) h = h.0.1.faults
source_kept p old new known Read (Err fails.NoMemory) h = h.0.1.faults

next_after : (n : ℕ) → n ≤ next n
next_after n = by (nat_lt n (2 ^ 64 - 1)) refl
  where
    by : (b : Bool) → nat_lt n (2 ^ 64 - 1) ≡ b → n ≤ next n
    by true is = rw is (omega arith)
    by false is = rw is (omega arith)

-- nor has that of the files
pub faults_kept : (before after : ℕ) (found : Result Again CheckFail) → IsAgainCounted before after found → before ≤ after
faults_kept before after (Ok (again.Same b)) same = omega (arith, same)
faults_kept before after (Ok (again.NotLawful n)) same = omega (arith, same)
faults_kept before after (Ok (again.Differs n o)) same = omega (arith, same)
faults_kept before after (Ok (again.ReadFault u)) rose = let more = next_after before in omega (arith, rose, more)
faults_kept before after (Err fail) same = omega (arith, same)

-- files were read one after the other
pub only_read : {F : Type 0} (keeps : F → F → Type 0) (before old new : F) (p : PlanView) (known : Option Folder) (seen seen' : SourceView) (found : Result Again CheckFail) → keeps before old → HasDriven p seen seen' known (ReadsFor keeps old new) found → HasOnlyRead keeps before new
only_read keeps before old new p known seen seen' (Ok a) first (came, takes, inl drives, just) =
    let r = reads_of (graph_of p drives.history.workers drives.history.max drives.history.parallel) drives.history.locks drives.history.entries a drives.again in
    (old, first, r.0, r.1)
  where
    reads_of : (g : GraphView) (locks : Option ℕ) (es : List Entry) (a : Again) → IsAgain p g locks es known (ReadsFor keeps old new) a → (ds : List Closed) × ReadsFor keeps old new ds
    reads_of g locks es (again.Same b) h = (_, h.4)
    reads_of g locks es (again.NotLawful n) h = ([], h.1)
    reads_of g locks es (again.Differs n o) h = (_, h.2.read)
    reads_of g locks es (again.ReadFault u) h = (_, h.2.read)
only_read keeps before old new p known seen seen' (Ok a) first (came, takes, inr none, just) = (old, first, [], none.read)
only_read keeps before old new p known seen seen' (Err fail) first h = (old, first, h.1.0, h.1.1)

-- ---- reading sends nothing

module _ {D : Type 0} (keeps : D → D → Type 0) (sends : D → ℕ) (sent : D → Option (List SentRequest)) (none : (old new : D) → keeps old new → (sends new ≡ sends old) × (sent new ≡ sent old)) where
  reads_send_nothing : (old new : D) (ds : List Closed) → ReadsFor keeps old new ds → sent_view sends sent new ≡ sent_view sends sent old
  reads_send_nothing old new [] same = ap (sent_view sends sent) same
  reads_send_nothing old new (d ∷ ds) r =
      let first = none old r.0 r.1 in
      reads_send_nothing r.0 new ds r.2 ∙ same_view first.0 first.1

  pub only_reads_send_nothing : (old new : D) → HasOnlyRead keeps old new → sent_view sends sent new ≡ sent_view sends sent old
  only_reads_send_nothing old new r =
      let first = none old r.0 r.1 in
      reads_send_nothing r.0 new r.2 r.3 ∙ same_view first.0 first.1
