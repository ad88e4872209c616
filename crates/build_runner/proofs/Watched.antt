-- What a worker looks with, while it works.
use Rattle.std.proofs.Common.{◌≡◌, ℕ, Bool, true, false, List, [], map, arith, Option, None, Some, refl, sym, subst, ◌∙◌}
use Rattle.std.specs.Prelude.{IfSome}
use Rattle.std.specs.List.{All}
use Rattle.std.proofs.lemmas.List.{get_or-map, length-map}
use Rattle.std.proofs.lemmas.List.Elements.{All-contains}
use Rattle.lock_journal.specs.BookView.{BookView}
use Rattle.history_views.specs.Growing.{IsLater}
use Rattle.coordination.specs.Passes.{PassView}
use Rattle.run_watch.specs.Looks.{BoardView}
use Rattle.run_watch.specs.Watches.{AreWatchesOf}
use Rattle.run_watch.specs.declared.boards.Watch.{Watch}
use Rattle.build_runner.specs.Watching.{HasRoomToLook, IsBoardFor, IsSeenBy}
use Rattle.build_workers.specs.RunWatching.{IsWatchedRun}
use Rattle.build_workers.specs.declared.options.RunOptions.{RunOptions}

-- a fact of the parts, said of what each is made of
pub of_map : {X Y : Type 0} (f : X → Y) (P : Y → Type 0) (xs : List X) → All P (map f xs) → All (λ x. P (f x)) xs
of_map f P xs each = λ i x low. subst P (get_or-map f xs i x (f x) low) (each i (f x) (omega (arith, low, length-map xs f)))

-- where there is room for looks, there is room for those of so many units
room_is : (watch : Bool) (room : Option ℕ) (u n : ℕ) → (watch ≡ true → room ≡ Some u) → (watch ≡ false → room ≡ None) → u ≡ n → IfSome room (λ m. m ≡ n)
room_is true room u n some none same = subst (λ (r : Option ℕ). IfSome r (λ m. m ≡ n)) (sym (some refl)) same
room_is false room u n some none same = subst (λ (r : Option ℕ). IfSome r (λ m. m ≡ n)) (sym (none refl)) tt

-- the book goes on from what the board's pass had seen
seen_by : (ps : List PassView) (room : Option ℕ) (board : Option BoardView) (b : BookView)
    → IsBoardFor ps room board → IfSome room (λ n. n ≡ b.graph.units) → All (λ p. IsLater p.sight.seen b) ps → IfSome board (IsSeenBy b)
seen_by ps None None b is units later = tt
seen_by ps None (Some board) b is units later = absurd is
seen_by ps (Some n) None b is units later = tt
seen_by ps (Some n) (Some board) b is units later = record {
  later = subst (λ (s : BookView). IsLater s b) (sym is.seen) (All-contains (λ (p : PassView). IsLater p.sight.seen b) ps is.pass later is.among);
  units = is.units ∙ units;
}

pub board_is_seen : (options : RunOptions) (ps : List PassView) (room : Option ℕ) (board : Option BoardView) (b : BookView) (u : ℕ)
    → HasRoomToLook options.watch u room → u ≡ b.graph.units → IsBoardFor ps room board → All (λ p. IsLater p.sight.seen b) ps → IfSome board (IsSeenBy b)
board_is_seen options ps room board b u looks same is later = seen_by ps room board b is (room_is options.watch room u b.graph.units looks.some looks.none same) later

-- a run is watched where there is room for looks
watched_where : (watch : Bool) (ps : List PassView) (room : Option ℕ) (board : Option BoardView) (b : BookView) (ws : List Watch) (u : ℕ)
    → (watch ≡ true → room ≡ Some u) → (watch ≡ false → room ≡ None) → IsBoardFor ps room board → IfSome board (λ _. AreWatchesOf b ws) → (board ≡ None → ws ≡ [])
    → (watch ≡ true → AreWatchesOf b ws) × (watch ≡ false → ws ≡ [])
watched_where watch ps None None b ws u some none is seen rest = (λ on. let e : None ≡ Some u = some on in absurd (cc e), λ _. rest refl)
watched_where watch ps None (Some board) b ws u some none is seen rest = absurd is
watched_where watch ps (Some n) None b ws u some none is seen rest = absurd is
watched_where watch ps (Some n) (Some board) b ws u some none is seen rest = (λ _. seen, λ off. let e : Some n ≡ None = none off in absurd (cc e))

pub run_is_watched : (options : RunOptions) (ps : List PassView) (room : Option ℕ) (board : Option BoardView) (b : BookView) (ws : List Watch) (u : ℕ)
    → HasRoomToLook options.watch u room → IsBoardFor ps room board → IfSome board (λ _. AreWatchesOf b ws) → (board ≡ None → ws ≡ []) → IsWatchedRun options b ws
run_is_watched options ps room board b ws u looks is seen rest = watched_where options.watch ps room board b ws u looks.some looks.none is seen rest
