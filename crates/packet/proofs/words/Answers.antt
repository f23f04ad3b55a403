-- `packet::words` meets its contract: 44 bits of the word in which the packet starts, and 48 of the word four octets on.
-- Assumes nothing.
use Rattle.std.proofs.Common.{◌≡◌, ◌+◌, ◌*◌, ◌/◌, ◌%◌, arith}
use Rattle.layout.specs.Layout.{frame_bits, packet_start}
use Rattle.packet.specs.Packet.{second_bits}
use Rattle.packet.proofs.Steps.{masked_word}
use Rattle.packet.proofs.words.Goals as goal

pub returns-clause-first : goal.returns-clause-first
returns-clause-first c =
    let at = c.start-at.result in
    let e : 8 * (at / 8) + at % 8 ≡ packet_start c.args.p.0 = omega (arith, c.start-at.ensures) in
    masked_word c.args.s.now (at / 8) (at % 8) frame_bits _ (packet_start c.args.p.0) (omega arith) (omega arith) e c.word.ensures

pub returns-clause-second : goal.returns-clause-second
returns-clause-second c =
    let at = c.start-at.result in
    let e : 8 * (at / 8 + 4) + (12 + at % 8) ≡ packet_start c.args.p.0 + frame_bits = omega (arith, c.start-at.ensures) in
    masked_word c.args.s.now (at / 8 + 4) (12 + at % 8) second_bits _ (packet_start c.args.p.0 + frame_bits) (omega arith) (omega arith) e c.word-2.ensures
