-- The steps by which the code writes: a multiframe laid down in three stores, and the image one multiframe more.
-- Assumes nothing.
use mathlib.Core.Path.{◌≡◌, refl, sym, ap, ap₂, ◌∙◌}
use mathlib.Core.List.{List, ◌++◌, append_assoc}
use Prim.Native.Nat.{ℕ, suc, ◌+◌, ◌*◌, ◌≤◌}
use native.Mathlib.Numerals.{add-one}
use native.Mathlib.Omega.{arith}
use lib.ListN.{length}
use Rattle.lists.specs.Parts.{over, over_none, behind}
use Rattle.settings.specs.declared.Settings.{Settings}
use Rattle.layout.specs.Layout.{multiframe_pairs, multiframe_octets, sync_octets, header_octets, stream_octets, first_pair, sync, sync_word}
use Rattle.bits.specs.Bits.{field, octets, numbers, value}
use Rattle.bits.proofs.Laws.{length_octets}
use Rattle.packet.specs.Packet.{stream}
use Rattle.header_code.specs.Code.{codeword}
use Rattle.message.specs.Message.{message}
use Rattle.image.specs.Image.{multiframe, image}
use Rattle.image.proofs.Laws.{length_image}

-- ---- a multiframe laid down in three stores: sync, header, stream
sync_octets_lem : octets sync_octets (field (8 * sync_octets) sync_word) ≡ sync
unfolding field numbers value
sync_octets_lem = refl

pub laid_multiframe_lem : (settings : Settings) (idx : List ℕ) (k word q : ℕ) (out synced headed done : List ℕ)
    → multiframe_octets * k + multiframe_octets ≤ length out → word ≡ codeword (message settings (k + 1) 0) → q ≡ first_pair k
    → synced ≡ over out (multiframe_octets * k) sync_octets (octets sync_octets (field (8 * sync_octets) sync_word))
    → headed ≡ over synced (multiframe_octets * k + sync_octets) header_octets (octets header_octets (field 32 word))
    → done ≡ over headed (multiframe_octets * k + sync_octets + header_octets) stream_octets (octets stream_octets (stream idx q multiframe_pairs))
    → done ≡ over out (multiframe_octets * k) multiframe_octets (multiframe settings idx k)
unfolding multiframe
laid_multiframe_lem settings idx k word q out synced headed done room ew eq es eh ed =
    let at = multiframe_octets * k in
    let head = octets header_octets (field 32 (codeword (message settings (k + 1) 0))) in
    let body = octets stream_octets (stream idx (first_pair k) multiframe_pairs) in
    let r₁ : at + sync_octets ≤ length out = omega arith in
    let r₂ : at + (sync_octets + header_octets) ≤ length out = omega arith in
    let e₁ : synced ≡ over out at sync_octets sync = es ∙ ap (over out at sync_octets) sync_octets_lem in
    let e₂ : headed ≡ over synced (at + sync_octets) header_octets head = eh ∙ ap (λ (w : ℕ). over synced (at + sync_octets) header_octets (octets header_octets (field 32 w))) ew in
    let f : headed ≡ over out at (sync_octets + header_octets) (sync ++ head) = behind out at sync_octets header_octets sync head r₁ refl e₁ e₂ in
    let p : at + sync_octets + header_octets ≡ at + (sync_octets + header_octets) = omega arith in
    let e₃ : done ≡ over headed (at + (sync_octets + header_octets)) stream_octets body =
    ed ∙ ap₂ (λ (x y : ℕ). over headed x stream_octets (octets stream_octets (stream idx y multiframe_pairs))) p eq in
    let size : length (sync ++ head) ≡ sync_octets + header_octets = ap (λ (n : ℕ). suc (suc n)) (length_octets header_octets (field 32 (codeword (message settings (k + 1) 0)))) in
    behind out at (sync_octets + header_octets) stream_octets (sync ++ head) body r₂ size f e₃ ∙ ap (over out at multiframe_octets) (append_assoc sync head body)

-- ---- the image, one multiframe more
pub image_none : (settings : Settings) (idx out : List ℕ) → out ≡ over out 0 (multiframe_octets * 0) (image settings idx 0)
unfolding image
image_none settings idx out = over_none out 0

pub image_more : (settings : Settings) (idx out : List ℕ) (k : ℕ) (was done : List ℕ) → multiframe_octets * k ≤ length out
    → was ≡ over out 0 (multiframe_octets * k) (image settings idx k)
    → done ≡ over was (multiframe_octets * k) multiframe_octets (multiframe settings idx k)
    → done ≡ over out 0 (multiframe_octets * (k + 1)) (image settings idx (k + 1))
unfolding image
image_more settings idx out k was done room ew ed =
    let e : multiframe_octets * k + multiframe_octets ≡ multiframe_octets * (k + 1) = omega arith in
    let z : multiframe_octets * k ≡ 0 + multiframe_octets * k = omega arith in
    behind out 0 (multiframe_octets * k) multiframe_octets (image settings idx k) (multiframe settings idx k) (omega arith) (length_image settings idx k) ew
    (ed ∙ ap (λ (x : ℕ). over was x multiframe_octets (multiframe settings idx k)) z)
    ∙ ap₂ (λ (n : ℕ) (l : List ℕ). over out 0 n l) e (ap (image settings idx) (sym (add-one k)))
