-- Each field is masked to its width and shifted behind the ones before it. Assumes nothing.
use Rattle.message.specs.Message.Laws.{packed}
use Rattle.message.proofs.U16FromFields.from.Goals as goal

pub returns : goal.returns
returns c = packed c.args.f.settings c.args.f.count c.args.f.exp
