-- `crc::Crc::octets` meets its contract: after so many octets the register was fed their bits.
-- Assumes nothing.
use Rattle.std.proofs.Common.{ℕ, Bool, ◌≡◌, ◌<◌, ◌*◌, List, take, sym, ap, ◌∙◌, subst, arith, bit_and, take_all}
use lib.Bits.{mask_lt}
use Rattle.bits.specs.Bits.{field, fields, bits, octets}
use Rattle.bits.proofs.Laws.{bits_octets, length_field}
use Rattle.bits.proofs.Places.{word_octets}
use Rattle.crc.specs.Crc.{Rem, code, coded, fed_all}
use Rattle.crc.proofs.Register.{code_lt, kept, fed_none, fed_octet, coded_masked}
use Rattle.crc.proofs.Crc.octets.Goals as goal

pub loop-octet-init : goal.loop-octet-init
unfolding field fields
loop-octet-init c =
    let m = bit_and c.args.self.0 15 in
    kept m (mask_lt c.args.self.0 4) ∙ fed_none m c.args.w

pub octet-r-requires : goal.octet-r-requires
octet-r-requires c =
    subst (λ (n : ℕ). n < 16) (sym c.loop-octet.invariant)
    (code_lt (fed_all (coded (bit_and c.args.self.0 15)) (bits (take c.loop-octet.octet-index (take c.args.n c.to_le_bytes.result)))))

pub loop-octet-preserved : goal.loop-octet-preserved
loop-octet-preserved c =
    c.octet-r.ensures
    ∙ fed_octet (bit_and c.args.self.0 15) c.loop-octet.octet-index c.loop-octet.r.0 (take c.args.n c.to_le_bytes.result) (omega arith) c.loop-octet.invariant

pub returns : goal.returns
returns c =
    let s = take c.args.n c.to_le_bytes.result in
    let w : take c.loop-octet.octet-index s ≡ s = take_all c.loop-octet.octet-index s (omega arith) in
    let o : s ≡ octets c.args.n (field (8 * c.args.n) c.args.w) = ap (take c.args.n) c.to_le_bytes.ensures ∙ word_octets c.args.n c.args.w c.requires in
    let b : bits s ≡ field (8 * c.args.n) c.args.w =
    ap bits o ∙ bits_octets c.args.n (field (8 * c.args.n) c.args.w) (length_field (8 * c.args.n) c.args.w) in
    c.loop-octet.invariant ∙ ap (λ (l : List ℕ). code (fed_all (coded (bit_and c.args.self.0 15)) (bits l))) w
    ∙ ap (λ (r : Rem). code (fed_all r (bits s))) (coded_masked c.args.self.0) ∙ ap (λ (l : List Bool). code (fed_all (coded c.args.self.0) l)) b
