-- `is_inconsistent` meets its contract: after c turns the flags of the first c index pairs are counted (`Flags`). Assumes nothing.
use Rattle.std.proofs.Common.{◌≡◌, refl, ◌∙◌, ◌<◌, arith}
use Rattle.layout.specs.Layout.{frame_indices}
use Rattle.consistency.specs.Consistency.{flags}
use Rattle.consistency.proofs.Codebook.{frame_in_codebook}
use Rattle.consistency.proofs.Flags.{one_more, no_more, judged}
use Rattle.consistency.proofs.is_inconsistent.Goals as goal
use Rattle.consistency.proofs.is_inconsistent.Goals.{then-is_flagged, else-is_flagged}

pub loop-c-init : goal.loop-c-init
unfolding flags
loop-c-init c = (omega arith, refl)

pub is_flagged-requires : goal.is_flagged-requires
is_flagged-requires c =
    let small : c.loop-c.c < frame_indices = omega arith in record {
      counted = small;
      inside = (
        frame_in_codebook c.args.first.now c.loop-c.c c.from.ensures small (c.type_inv.first c.loop-c.c).fits c.requires.in_range.0,
        frame_in_codebook c.args.second.now c.loop-c.c c.from-in-loop-c.ensures small (c.type_inv.second c.loop-c.c).fits c.requires.in_range.1,
      );
    }

pub loop-c-preserved : goal.loop-c-preserved
loop-c-preserved c =
    elim c.if-is_flagged.branch [
      | then-is_flagged w ↦
          (omega (arith, w.flags-is, c.loop-c.invariant.0), w.flags-is ∙ one_more _ _ _ c.loop-c.c _ _ c.loop-c.flags c.loop-c.invariant.1 c.from.ensures c.from-in-loop-c.ensures c.is_flagged.ensures w.if-is_flagged.true)
      | else-is_flagged w ↦
          (omega (arith, w.flags-is, c.loop-c.invariant.0), w.flags-is ∙ no_more _ _ _ c.loop-c.c _ _ c.loop-c.flags c.loop-c.invariant.1 c.from.ensures c.from-in-loop-c.ensures c.is_flagged.ensures w.if-is_flagged.false)
    ]

pub returns : goal.returns
returns c =
    let e : c.loop-c.c ≡ frame_indices = omega arith in
    judged _ _ _ c.loop-c.flags (rw e at c.loop-c.invariant.1)
