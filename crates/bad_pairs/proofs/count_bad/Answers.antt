-- `count_bad` meets its contract: the chain counts the notes that are not 0.
-- Assumes nothing.
use Rattle.std.proofs.Common.{rules, ◌≡◌, ◌∙◌}
use Rattle.std.proofs.iter.runs.Made.{chains}
use Rattle.std.specs.List.{count_by}
use Rattle.bad_pairs.specs.BadPairs.{bad}
use Rattle.bad_pairs.proofs.Steps.{bad_pairs_is}
use Rattle.bad_pairs.proofs.count_bad.Goals as goal

pub returns : goal.returns
returns c =
    let e : c.count.result ≡ count_by bad c.args.notes.now = search (rules, chains) in
    e ∙ bad_pairs_is c.args.notes.now
