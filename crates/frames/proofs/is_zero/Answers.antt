-- `is_zero` meets its contract: the chain says whether all of the part's octets are 0, which is looked at index by index.
-- Assumes nothing.
use Rattle.std.proofs.Common.{rules, ◌+◌, ◌*◌, ◌-◌, ◌∙◌, eqb, take, drop, ap}
use borrow.Author.Tests.{tests}
use Rattle.std.specs.List.{list_all}
use Rattle.std.proofs.lemmas.Iterator.{YieldsList-from_slice}
use Rattle.std.proofs.lemmas.Iterator.Search.{all_from_yields_List}
use Rattle.lists.specs.Parts.{lent}
use Rattle.layout.specs.Layout.{frame_indices}
use Rattle.frames.specs.Frames.{zero_frame}
use Rattle.frames.proofs.Steps.{looked_at}
use Rattle.frames.proofs.is_zero.Goals as goal

pub returns : goal.returns
unfolding zero_frame
returns c =
    let at = frame_indices * c.args.frame.0 in
    let l = take (at + frame_indices - at) (drop at c.args.index.now) in
    all_from_yields_List (λ x. eqb x 0) _ _ c.all.result c.all.ensures.ran (YieldsList-from_slice l cc) (λ x b q k. search (rules, tests))
    ∙ ap (list_all (λ x. eqb x 0)) (lent c.args.index.now at frame_indices) ∙ looked_at c.args.index.now at c.requires
