-- Workers, each with a pass and a desk, before and after their work.
use Rattle.std.specs.Prelude.{ℕ, ◌≡◌, ◌≤◌, ◌<◌, Bool, true, List, [], flat_map, get_or, length, Option}
use Rattle.item_actions.specs.Files.{Folder}
use Rattle.coordination.specs.Passes.{PassView}
use Rattle.shared_services.specs.Worked.{HasRun}
use Rattle.shared_services.specs.declared.jobs.Job.{Job}
use Rattle.shared_services.specs.declared.jobs.JobDone.{JobDone}

-- The pass is of the same service and worker, the desk knows the same files, and it counts no fewer faults.
pub record HasComeBack {D : Type 0} (files : D → Option Folder) (faults : D → ℕ) (old new : PassView) (before after : D) : Type 0 where
  pub service : new.service ≡ old.service
  pub worker : new.sight.worker ≡ old.sight.worker
  pub known : files after ≡ files before
  pub count : faults before ≤ faults after

-- The worker has come back. Where it has ended, it has run its jobs.
pub record HasWorked {D : Type 0} (maxima : List ℕ) (files : D → Option Folder) (faults : D → ℕ) (jobs : List Job) (old new : PassView)
    (before after : D) (list : List JobDone) (ended : Bool) : Type 0 where
  pub back : HasComeBack files faults old new before after
  pub ran : ended ≡ true → HasRun maxima (files before) (faults before) (faults after) old.sight jobs new.sight list

-- Each worker has run its jobs, and what they gave stands one worker's behind the other's.
pub record HaveRun {D : Type 0} (maxima : List ℕ) (files : D → Option Folder) (faults : D → ℕ) (jobs : ℕ → List Job) (old new : List PassView)
    (before after : List D) (ran : List JobDone) : Type 0 where
  pub lists : List (List JobDone)
  pub joined : ran ≡ flat_map (λ list. list) lists
  pub count : length lists ≡ length old
  pub each : (i : ℕ) (p : PassView) (d : D) → i < length old
      → HasRun maxima (files (get_or before i d)) (faults (get_or before i d)) (faults (get_or after i d))
      (get_or old i p).sight (jobs i) (get_or new i p).sight (get_or lists i [])
