-- `read_headers` meets its contract: each turn stores one reading behind those before it. Assumes nothing.
use Rattle.std.proofs.Common.{◌≡◌, ℕ, ap, ◌∙◌, arith, length}
use Rattle.lists.specs.Parts.{over, over_none}
use Rattle.lists.specs.Rows.{each_more}
use Rattle.carrier.specs.Carrier.{word_at, in_places}
use Rattle.header.specs.Reading.{reading}
use Rattle.header_readings.specs.Stored.{packed, pack_all}
use Rattle.header_readings.proofs.read_headers.Goals as goal

pub loop-k-init : goal.loop-k-init
loop-k-init c = over_none _ 0

pub loop-k-preserved : goal.loop-k-preserved
loop-k-preserved c =
    let m = c.args.multiframes.now in
    let read = c.read_word.ensures ∙ ap (λ (n : ℕ). packed (reading n)) c.header_word.ensures in
    each_more c.args.headers.now c.loop-k.headers c.loop-k.k (λ k. packed (reading (word_at m.octets (in_places m.places) k))) c.read_word.result (omega arith) read c.loop-k.auto.headers c.loop-k.invariant

pub returns : goal.returns
returns c =
    let m = c.args.multiframes.now in
    let e : c.loop-k.k ≡ length m.places = omega arith in
    c.loop-k.invariant ∙ ap (λ (n : ℕ). over c.args.headers.now 0 n (pack_all m.octets m.places n)) e
