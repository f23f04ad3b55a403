-- `bits::store` meets its contract: what is copied over the part is the word's low octets.
-- Assumes nothing.
use Rattle.std.proofs.Common.{◌≡◌, ◌∙◌, ap, arith, rules, take}
use Rattle.std.specs.Int.{w64, to_le_bytes}
use Rattle.lists.specs.Parts.{over, came_back}
use Rattle.bits.proofs.Places.{word_octets}
use Rattle.bits.proofs.store.Goals as goal

pub returns : goal.returns
returns c =
    let e : c.copy_from_slice.new.self ≡ take c.args.n (to_le_bytes w64 c.args.w) = search rules in
    came_back c.args.i c.args.n c.args.s.now c.copy_from_slice.new.self
    ∙ ap (over c.args.s.now c.args.i c.args.n) (e ∙ word_octets c.args.n c.args.w (omega arith))
