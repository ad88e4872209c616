use Rattle.std.proofs.Common.{rules, ◌≡◌, ◌+◌, ◌++◌, ◌∷◌, [], suc, length, get_or, length-append, map, List, ap, ◌∙◌, subst, arith}
use Rattle.std.specs.List.{All}
use Rattle.std.proofs.Math.Seq.{get_or-append_seam}
use Rattle.std.proofs.lemmas.Grind.{common_steps}
use Rattle.coordination.specs.Names.{PassView, view_in, all_of, one, sight_of, M}
use Rattle.coordination.proofs.PassSteps.{lone_at}
use Rattle.coordination.proofs.Seating.{sits_it, joins_it}
use Rattle.coordination.proofs.slots.Slot.join.Goals as goal

pub load_new_seat-seat-requires : goal.load_new_seat-seat-requires
load_new_seat-seat-requires g c = (search rules, sits_it c.args.self.now.table.shared.key.kept.value.book.graph c.args.self.now.table.shared.table_id.slots)

among : (P : PassView → Type 0) (ys zs xs : List PassView) (p : PassView) → xs ≡ ys ++ p ∷ zs → All P xs → P p
among P ys zs xs p is all =
    let long : length xs ≡ length ys + suc (length zs) = ap (λ (l : List PassView). length l) is ∙ length-append ys (p ∷ zs) in
    subst P (ap (λ (l : List PassView). get_or l (length ys) p) is ∙ get_or-append_seam ys p zs p) (all (length ys) p (omega arith))

pub into_seat-requires : goal.into_seat-requires
into_seat-requires g c = (view_in c.pass.inside.badge.views, c.pass.invariant.3)

pub join_seat-requires : goal.join_seat-requires
join_seat-requires g c =
    let e = c.into_seat.ensures in
    let badge : c.pass.inside.badge.views ≡ c.into_seat.result.me.0 ∷ [] = e.2 in
    let lone : c.into_seat.result.me ≡ (one c.into_seat.result.me.0.ledger (sight_of c.into_seat.result.me.0), []) = lone_at c.pass.inside.badge.views c.into_seat.result.me badge e.3 c.pass.invariant.0.lone in
    let inv = c.loop-pass.invariant in
    let id = among (λ p. p.service.table ≡ c.args.self.now.table.shared.table_id) c.loop-pass.yielded _ c.args.passes.items c.in-Some.pass (inv.0 ∙ ap (λ (rest : List PassView). c.loop-pass.yielded ++ rest) c.in-Some.ensures.steps.0)
    c.requires in (
      search rules,
      e.0 ∙ (ap (λ (p : PassView). p.service.table) c.pass.view_is ∙ id),
      e.3,
      search rules,
      joins_it c.args.self.now.table.shared.key.kept.value.book.graph c.loop-pass.seat.id c.into_seat.result.id c.loop-pass.seat.me.0 c.into_seat.result.me.0 (ap (λ (m : M). m.0.out) lone)
          (let has = ap (λ (m : M). length m.0.sights) lone in omega arith),
    )

pub returns-clause-view : goal.returns-clause-view
returns-clause-view g c =
    let all : c.loop-pass.yielded ≡ c.args.passes.items = first_of (search rules, grind (arith, common_steps)) in
    c.loop-pass.invariant.2 ∙ ap (λ (l : List PassView). (all_of c.loop-pass.seat.me.0.ledger (map (λ p. p.sight) l), [])) all
