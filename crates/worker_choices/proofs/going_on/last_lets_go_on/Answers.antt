use Rattle.std.proofs.Common.{◌≡◌, ◌-◌, List, length, Option, None, Some, refl, ◌∙◌, ap}
use Rattle.std.specs.Prelude.{slice_get}
use Rattle.std.specs.List.{list_any}
use Rattle.lock_journal.specs.Names.{Change, Entry, last_changes, made_by, lets_go_on}
use Rattle.lock_journal.specs.LastChanges.{made_where_finished}
use Rattle.worker_choices.specs.GoingOn.{any_lets_go_on, entry_lets_go_on, last_lets_go_on}
use Rattle.worker_choices.proofs.going_on.last_lets_go_on.Goals as goal

of_changes : (made : Option (List Change)) → list_any lets_go_on (made_where_finished made) ≡ any_lets_go_on made
of_changes None = refl
of_changes (Some changes) = refl

of_entry : (e : Option Entry) → list_any lets_go_on (made_by e) ≡ entry_lets_go_on e
of_entry None = refl
of_entry (Some e) = of_changes e.changes

of_last : (h : List Entry) → list_any lets_go_on (last_changes h) ≡ last_lets_go_on h
of_last h = of_entry (slice_get h (length h - 1))

pub returns : goal.returns
returns c = c.any_lets_go_on.ensures ∙ ap (list_any lets_go_on) c.last_changes.ensures ∙ of_last c.args.book.now.history
