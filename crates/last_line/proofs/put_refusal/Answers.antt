-- `put_refusal` meets its contract: number and place behind their words, and a line feed. Assumes nothing.
use Rattle.std.proofs.Common.{arith}
use Rattle.text.proofs.Steps.{adds_on}
use Rattle.last_line.proofs.Steps.{refusal_done}
use Rattle.last_line.proofs.put_refusal.Goals as goal

pub returns : goal.returns
returns c =
    let fields = adds_on c.put_field.ensures.put c.put_field-2.ensures.put in
    let line = adds_on fields c.put_words.ensures in
    record {
      put = refusal_done c.args.r _ _ _ _ _ _ _ _ c.requires c.number.ensures c.place.ensures fields.put (omega arith) c.put_words.ensures.put;
      within = line.within;
      same_length = line.same_length;
      same_room = line.same_room;
    }
