use Rattle.std.proofs.Common.{◌+◌, drop, get_or, sym, ap, ◌∙◌, arith, ⊎_elim}
use Rattle.std.proofs.lemmas.Bool.Decides.{nat_tests}
use Rattle.std.proofs.lemmas.List.{at_drop_more}
use Rattle.item_actions.specs.declared.forms.NamePart.TheVariants.{Empty, OneDot, TwoDots, Name}
use Rattle.item_actions.proofs.FileNames.{goes_on, from_start, step, one_dot, two_dots, three_dots, dot_in_name, next_part, letter, named}
use Rattle.item_actions.proofs.forms.is_file_name.Goals as goal
use Rattle.item_actions.proofs.forms.is_file_name.Goals.{then-is_ascii_lowercase, else-is_ascii_lowercase+in-46+in-Empty, else-is_ascii_lowercase+in-46+in-OneDot, else-is_ascii_lowercase+in-46+in-TwoDots, else-is_ascii_lowercase+in-47+in-Name, else-is_ascii_lowercase+in_default-2}

pub loop-byte-init : goal.loop-byte-init
loop-byte-init c = from_start c.args.bytes.now (omega arith)

pub loop-byte-preserved : goal.loop-byte-preserved
loop-byte-preserved c =
    let rest = drop (c.loop-byte.byte-index + 1) c.args.bytes.now in
    let byte = get_or c.args.bytes.now c.loop-byte.byte-index 0 in
    c.loop-byte.invariant
    ∙ at_drop_more (goes_on c.loop-byte.part) c.args.bytes.now c.loop-byte.byte-index 0 (omega arith)
    ∙ elim c.if-is_ascii_lowercase.branch [
      | then-is_ascii_lowercase w ↦ letter c.loop-byte.part byte rest (sym c.is_ascii_lowercase.ensures.value ∙ w.if-is_ascii_lowercase.true) ∙ ap (λ p. goes_on p rest) (sym w.part-is)
      | else-is_ascii_lowercase+in-46+in-Empty w ↦ step _ Empty _ 46 _ OneDot rest w.in-Empty.is w.in-46.is w.part-is (one_dot rest)
      | else-is_ascii_lowercase+in-46+in-OneDot w ↦ step _ OneDot _ 46 _ TwoDots rest w.in-OneDot.is w.in-46.is w.part-is (two_dots rest)
      | else-is_ascii_lowercase+in-46+in-TwoDots w ↦ ⊎_elim
          (λ two. step _ TwoDots _ 46 _ Name rest two w.in-46.is w.part-is (three_dots rest))
          (λ name. step _ Name _ 46 _ Name rest name w.in-46.is w.part-is (dot_in_name rest))
          w.in-TwoDots.is
      | else-is_ascii_lowercase+in-47+in-Name w ↦ step _ Name _ 47 _ Empty rest w.in-Name.is w.in-47.is w.part-is (next_part rest)
      | else-is_ascii_lowercase+in_default-2 w ↦ named c.loop-byte.part byte rest (grind (arith, nat_tests)) (grind (arith, nat_tests)) (sym w.is_file_byte.ensures ∙ w.if-is_file_byte.true)
          ∙ ap (λ p. goes_on p rest) (sym w.part-is)
    ]
