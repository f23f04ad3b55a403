-- The chain says whether one of the part's indices is too large, which is what the definition's search says of their places. Assumes nothing.
use Rattle.std.specs.List.{list_any}
use Rattle.std.proofs.Common.{rules, arith, ◌+◌, ◌*◌, ◌-◌, ◌∙◌, take, drop, ap}
use Rattle.std.specs.Prelude.{ltb}
use borrow.Author.Tests.{tests}
use Rattle.std.proofs.lemmas.Iterator.{YieldsList-from_slice}
use Rattle.std.proofs.lemmas.Iterator.Search.{any_from_yields_List}
use Rattle.lists.specs.Parts.{lent}
use Rattle.layout.specs.Layout.{frame_indices, most_narrow}
use Rattle.wrong_frames.proofs.Steps.{any_is}
use Rattle.wrong_frames.proofs.is_wide.Goals as goal

pub returns : goal.returns
returns c =
    let at = frame_indices * c.args.frame.0 in
    let l = take (at + 6 - at) (drop at c.args.indices.now) in
    any_from_yields_List (λ x. ltb most_narrow x) _ _ c.any.result c.any.ensures.ran (YieldsList-from_slice l cc) (λ x b q k. search (rules, tests))
    ∙ ap (list_any (λ x. ltb most_narrow x)) (lent c.args.indices.now at 6) ∙ any_is (λ x. ltb most_narrow x) c.args.indices.now at 6 (omega (arith, c.requires))
