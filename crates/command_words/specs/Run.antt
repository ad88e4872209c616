-- What the words behind `run` ask for.
use Rattle.std.specs.Prelude.{codes, ℕ, ◌≤◌, Bool, not, ◌&&◌, ◌==◌, if◌then◌else◌, nat_le, List, length, Option, Some, None}
use Rattle.std.specs.Prelude.{option_map, option_and_then}
use Rattle.std.specs.List.{list_any}
use Rattle.clap.specs.Walk.{Row, Text, first_of}
use Rattle.command_words.specs.Matching.{asked_of, given, is_on}
use Rattle.command_words.specs.Numbers.{parsed_count}
use Rattle.command_words.specs.Rules.{run_app}
use Rattle.command_words.specs.declared.numbers.TheConstants.{MAX_COUNT}
use Rattle.command_words.specs.declared.run.TheConstants.{MAX_PLAN_NAME_BYTES, DEFAULT_MAX_LEASES}
use Rattle.command_words.specs.declared.commands.RunWords.{RunWords}

-- the number that an option gives, or the default where it isn't there
abbrev pub count_or : Option Text → ℕ → Option ℕ
count_or None default = Some default
count_or (Some t) default = parsed_count t

-- at least one byte, not too many, and none of them zero
abbrev pub is_plan_name : Text → Bool
is_plan_name t = (nat_le 1 (length t) && nat_le (length t) MAX_PLAN_NAME_BYTES) && not (list_any (λ b. b == 0) t)

abbrev pub asked : List Row → ℕ → ℕ → RunWords
asked rows max_leases threads = record {
  plan = given (codes "PLAN") rows;
  threads = threads;
  max_leases = max_leases;
  parallel = is_on (codes "parallel") rows;
  history = is_on (codes "history") rows;
  daemons = is_on (codes "daemons") rows;
  watch = is_on (codes "watch") rows;
  summary = is_on (codes "summary") rows;
}

-- the default where the words don't say how many leases may be out, and then as many threads
abbrev pub run_of_rows : List Row → Option RunWords
run_of_rows rows =
    if is_plan_name (given (codes "PLAN") rows)
    then option_and_then (λ max_leases. option_map (asked rows max_leases) (count_or (first_of (codes "threads") rows) max_leases))
    (count_or (first_of (codes "max-workers") rows) DEFAULT_MAX_LEASES)
    else None

abbrev pub run_of : List Text → Option RunWords
run_of words = asked_of run_app run_of_rows words

-- the numbers that it may have
pub record HasBounds (run : RunWords) : Type 0 where
  pub some_thread : 1 ≤ run.threads
  pub few_threads : run.threads ≤ MAX_COUNT
  pub some_lease : 1 ≤ run.max_leases
  pub few_leases : run.max_leases ≤ MAX_COUNT
