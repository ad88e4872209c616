-- The machine values of a `HeldPlanned`. Assumes `Logic`.
use Rattle.std.proofs.Common.{◌≡◌, ℕ, List, [], ◌∷◌, ◌++◌, refl, subst}
use mathlib.Core.Bool.{Bool, true, false, ◌&&◌}
use lib.Dec.{T}
use seplogic.Ra.Ura.{Ura}
use mir.Raw.{raw as bare}
use mir.Val.{Val, vptr, vstruct, vcons, vnil, of_list, has_ty, WT}
use base.Logic.{never, fst∗}
use types.Logic.{Logic, sem}
use types.Kit.{Item, Goal, Seq, Step, step, ‵, ◌$◌, move, drop, fsplit, fjoin, fpick, fpack, feq_i, feq_l, rewrite}
use denote.RattleType.{RattleType, Valss}
use denote.Builtin.{RawPtr}
use denote.Memory.{lone}
use denote.RawPtr.{Ptr, block_ptr, null_ptr, ptr_val, in_a_block}
use denote.Param.{layout}
use denote.Param.Laws.{Laws}
use denote.Steps.{nothing}
use denote.Struct.Struct.{within}
use denote.Struct.Owning.{shape}
use Rattle.libc.specs.Heap.{chunk}
use Rattle.std.specs.Box.Ownership.{box_owns}
use Rattle.wakhurmi_c.specs.contracts.held_planned.HeldPlanned as held
use Rattle.planned_work.specs.contracts.workers.PlanWorker.{the_row as R}
use Rattle.wakhurmi_c.specs.Owned.{owned_if}
use Rattle.core.proofs.cell.Inside.{Good}
use Rattle.std_alloc.proofs.ResultValues.{and_tt}
use Rattle.wakhurmi_c.proofs.Values.{both}

abbrev pub single : Val → Val
single v = vstruct (vcons v vnil)

abbrev pub Held : RattleType
Held = held.the_row

-- an empty one beside a loose box
pub pair_good : (Z : RattleType) (L : Laws Z) (b o : ℕ) (h : Val) → Good (layout Z) h
    → T ((has_ty (layout Z) h && true) && true) × WT (both (single (vptr b o)) (both (vptr b o) h))
pair_good Z L b o h fits = (and_tt (has_ty (layout Z) h && true) (and_tt (has_ty (layout Z) h) fits.0), ((tt, tt), ((tt, (fits.1, tt)), tt)))

module _ {M : Type 1} {𝓤 : Ura M} {𝓛 : Logic 𝓤} {K : Type 0} {Γ : List (Item 𝓤)} {G : Goal 𝓤 𝓛.H} where
  -- a full one is its pointer, and what is owned there
  pub held_out : K → (d : Held.Denot) (vs : List Val) → d.full ≡ true
      → ((b o : ℕ) → d.at ≡ block_ptr b o → vs ≡ single (vptr b o) ∷ [] → Seq K 𝓛 (‵ (box_owns chunk R (block_ptr b o) d.worker) ∷ Γ) G)
      → Seq K 𝓛 (‵ (Held.own_val d vs) ∷ Γ) G
  held_out t d vs is k =
      fsplit t $ fpick t (λ vss. fsplit t $ feq_l t (λ ev. fsplit t $ feq_l t (λ ep. drop t $ rewrite t 0 (λ (x : Bool). ‵ (owned_if x (box_owns chunk R d.at d.worker))) is refl $
      in_a_block t d.at (λ p. box_owns chunk R p d.worker) (fst∗ 𝓤 (never 𝓤) (sem 𝓛 (chunk (bare (lone R.mir)) null_ptr))) (λ b o e. k b o e
      (subst (λ (p : Ptr). vs ≡ single (ptr_val p) ∷ []) e
      (subst (λ (ps : List Val). vs ≡ vstruct (of_list (ps ++ [])) ∷ []) ep ev))))))

  pub held_in : K → (b o : ℕ) (x : R.Denot)
      → Step K 𝓛 (‵ (Held.own_val (record { at = block_ptr b o; full = true; worker = x }) (single (vptr b o) ∷ [])) ∷ Γ) G (‵ (box_owns chunk R (block_ptr b o) x) ∷ Γ) G
  held_in t b o x = step (λ s. let v : Val = single (vptr b o) in
      nothing t $ feq_i t (List Val) (vptr b o ∷ []) (vptr b o ∷ []) refl $ fjoin t $ feq_i t (List Val) (v ∷ []) (v ∷ []) refl $ fjoin t $
      fpack t (Valss (RawPtr ∷ [])) (within (shape held.the_type) (block_ptr b o, tt) (v ∷ [])) (vptr b o ∷ [], tt) $ fjoin t $ s)

  -- an empty one owns nothing
  pub empty_in : K → (b o : ℕ) (x : R.Denot)
      → Step K 𝓛 (‵ (Held.own_val (record { at = block_ptr b o; full = false; worker = x }) (single (vptr b o) ∷ [])) ∷ Γ) G Γ G
  empty_in t b o x = step (λ s. let v : Val = single (vptr b o) in
      nothing t $ nothing t $ feq_i t (List Val) (vptr b o ∷ []) (vptr b o ∷ []) refl $ fjoin t $ feq_i t (List Val) (v ∷ []) (v ∷ []) refl $ fjoin t $
      fpack t (Valss (RawPtr ∷ [])) (within (shape held.the_type) (block_ptr b o, tt) (v ∷ [])) (vptr b o ∷ [], tt) $ fjoin t $ s)
