-- Sync, header and stream are stored one behind the other; the counter is masked to its four bits. Assumes nothing.
use mathlib.Core.Path.{◌≡◌, ap, ◌∙◌}
use Prim.Native.Nat.{ℕ, ◌+◌}
use lib.Bits.{and_mask}
use Rattle.header_code.specs.Code.{codeword}
use Rattle.message.specs.Message.{message}
use Rattle.message.specs.Message.Laws.{count_mod}
use Rattle.image.proofs.Steps.{laid_multiframe_lem}
use Rattle.image.proofs.put_multiframe.Goals as goal

pub returns : goal.returns
returns c =
    let m : c.from-message.result ≡ message c.args.settings (c.args.k.0 + 1) 0 =
    c.from-message.ensures ∙ ap (λ (n : ℕ). message c.args.settings n 0) (and_mask (c.args.k.0 + 1) 4) ∙ count_mod c.args.settings (c.args.k.0 + 1) 0 in
    laid_multiframe_lem c.args.settings c.args.frames.octets.now c.args.k.0 c.encode-word.result _ c.args.out.now _ _ _ c.requires.multiframe_octets_in_bounds
    (c.encode-word.ensures ∙ ap codeword m) c.first_pair.ensures c.store.ensures c.store-2.ensures c.put_stream.ensures
