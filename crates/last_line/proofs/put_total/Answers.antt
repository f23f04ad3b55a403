-- `put_total` meets its contract: its fields two by two, each two behind those before. Assumes nothing.
use Rattle.std.proofs.Common.{arith}
use Rattle.text.proofs.Steps.{adds_on}
use Rattle.last_line.proofs.Steps.{total_done}
use Rattle.last_line.proofs.put_total.Goals as goal

pub returns : goal.returns
returns c =
    let rate = rw c.from.ensures at c.put_field.ensures.put in
    let kind = rw c.from-2.ensures at c.put_field-2.ensures.put in
    let end = rw c.from-3.ensures at c.put_field-6.ensures.put in
    let settings = adds_on rate kind in
    let sizes = adds_on c.put_field-3.ensures.put c.put_field-4.ensures.put in
    let bad = adds_on c.put_field-5.ensures.put end in
    let line = adds_on settings (adds_on sizes (adds_on bad c.put_words.ensures)) in
    record {
      put = total_done c.args.s _ _ _ _ _ _ _ _ _ _ c.requires settings.put (omega arith) sizes.put (omega arith) bad.put (omega arith) c.put_words.ensures.put;
      within = line.within;
      same_length = line.same_length;
      same_room = line.same_room;
    }
