-- `packing::Frames::pack` meets its contract: the first word is the leading bits, one frame and the front of the other, the second number what is left
-- and the CRC.
-- Assumes nothing.
use Rattle.std.proofs.Common.{◌≡◌, ℕ, ap, ◌∙◌, ◌++◌}
use Rattle.layout.specs.Layout.{widths, frame_bits, first_frame, second_frame}
use Rattle.bits.specs.Bits.{value, field}
use Rattle.crc.specs.Crc.{crc}
use Rattle.packet.specs.Packet.{frame, frame_at}
use Rattle.packing.proofs.Steps.{word_small, pack_law, low_small, high_small}
use Rattle.packing.proofs.Frames.pack.Goals as goal

pub crc_of-c-requires : goal.crc_of-c-requires
crc_of-c-requires c = word_small (frame_at c.args.self.octets.now c.first.result.0) c.word-a.result c.word-a.ensures

pub returns : goal.returns
returns c =
    let idx = c.args.self.octets.now in
    let q = c.args.q.0 in
    let lead = c.args.lead in
    let n = c.args.n in
    let x = c.word-a.result in
    let y = c.word-b.result in
    let z = c.crc_of-c.result in
    let hn = c.requires.n_le_half_bits.0 in
    let hl = c.requires.n_le_half_bits.1 in
    let ea : x ≡ value (frame widths (frame_at idx (first_frame q))) =
    c.word-a.ensures ∙ ap (λ (k : ℕ). value (frame widths (frame_at idx k))) c.first.ensures in
    let eb : y ≡ value (frame widths (frame_at idx (second_frame q))) =
    c.word-b.ensures ∙ ap (λ (k : ℕ). value (frame widths (frame_at idx k))) c.second.ensures in
    record {
      bits = pack_law idx q x y z lead n hn hl ea eb c.crc_of-c.ensures;
      fits = (
        low_small idx q x y z lead n hn hl ea eb,
        high_small idx q x y z lead n hn hl ea eb (crc (field frame_bits x ++ field frame_bits y)) c.crc_of-c.ensures,
      );
    }
