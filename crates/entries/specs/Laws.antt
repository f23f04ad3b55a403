-- The entries' ends as facts over lists: each refusal leaves all as it came. Assumes nothing.
use Rattle.std.specs.Prelude.{◌≡◌, refl, Bool, true, false, List, [], ℕ, ◌≤◌, ◌<◌, ltb, length, Some, None}
use Rattle.std.proofs.Common.{sym, ap, ap₂, ◌∙◌, arith}
use borrow.Author.Tests.{eq-eqb, ne_eqb, lt-ltb, le-ltb, ltb-false}
use Rattle.choices.specs.declared.Choices.{Choices}
use Rattle.choices.specs.Types.{Asked}
use Rattle.lists.specs.Tests.{when, true_false}
use Rattle.lists.specs.Parts.{over}
use Rattle.lists.specs.Search.{at, nowhere}
use Rattle.layout.specs.Layout.{stream_octets, index_octets, multiframe_pairs}
use Rattle.settings.specs.Settings.{settings, settings_right, rate_right, kind_right}
use Rattle.bits.specs.Bits.{bits, octets}
use Rattle.carrier.specs.Carrier.{stream_packet}
use Rattle.packet.specs.Packet.{stream}
use Rattle.refusals.specs.Refusals.{success, no_such_choice, wrong_length, no_room, writing_number, writing_place}
use Rattle.refusals.specs.declared.Writing.TheVariants.{WideIndex, WrongSettings}
use Rattle.notes.specs.Notes.{all_frames, crc_notes}
use Rattle.notes.specs.Laws.{over_all}
use Rattle.wrong_frames.specs.WrongFrames.{first_wide}
use Rattle.writer.specs.Writing.{verdict, writing}
use Rattle.entries.specs.Entries.{packed, narrow_packing, packing, unpacked, unpacking, Told, numbers, refusal, Given, given, Returned, returned, answered, returning, unchosen, choosing, write_returned, dsr_write}

-- ---- packing
module _ (idx s : List ℕ) where
  pub packs_no_length : (length idx ≡ index_octets → ⊥) → packed wrong_length s ≡ packing idx s
  unfolding packing
  packs_no_length n = rw (ne_eqb (length idx) index_octets n)

  pub packs_no_room : length idx ≡ index_octets → (length s ≡ stream_octets → ⊥) → packed wrong_length s ≡ packing idx s
  unfolding packing
  packs_no_room e n = rw (eq-eqb (length idx) index_octets e, ne_eqb (length s) stream_octets n)

  narrow : length idx ≡ index_octets → length s ≡ stream_octets → packing idx s ≡ narrow_packing idx s (first_wide idx)
  unfolding packing
  narrow e g = rw (eq-eqb (length idx) index_octets e, eq-eqb (length s) stream_octets g)

  pub packs_no_wide : length idx ≡ index_octets → length s ≡ stream_octets → (k : ℕ) → first_wide idx ≡ at k → (n : ℕ) → n ≡ writing_number (WideIndex (record { 0 = k })) → packed n s ≡ packing idx s
  packs_no_wide e g k w n en = ap (λ (m : ℕ). packed m s) en ∙ sym (narrow e g ∙ ap (narrow_packing idx s) w)

  pub packs : length idx ≡ index_octets → length s ≡ stream_octets → first_wide idx ≡ nowhere → (s' : List ℕ)
      → s' ≡ over s 0 stream_octets (octets stream_octets (stream idx 0 multiframe_pairs)) → packed success s' ≡ packing idx s
  packs e g w s' es = ap (packed success) (es ∙ over_all s (octets stream_octets (stream idx 0 multiframe_pairs)) stream_octets g) ∙ sym (narrow e g ∙ ap (narrow_packing idx s) w)

-- ---- unpacking
module _ (s i n : List ℕ) where
  pub unpacks_no_stream : (length s ≡ stream_octets → ⊥) → unpacked wrong_length i n ≡ unpacking s i n
  unfolding unpacking
  unpacks_no_stream h = rw (ne_eqb (length s) stream_octets h)

  pub unpacks_no_indices : length s ≡ stream_octets → (length i ≡ index_octets → ⊥) → unpacked wrong_length i n ≡ unpacking s i n
  unfolding unpacking
  unpacks_no_indices e h = rw (eq-eqb (length s) stream_octets e, ne_eqb (length i) index_octets h)

  pub unpacks_no_notes : length s ≡ stream_octets → length i ≡ index_octets → (length n ≡ multiframe_pairs → ⊥) → unpacked wrong_length i n ≡ unpacking s i n
  unfolding unpacking
  unpacks_no_notes e g h = rw (eq-eqb (length s) stream_octets e, eq-eqb (length i) index_octets g, ne_eqb (length n) multiframe_pairs h)

  pub unpacks : length s ≡ stream_octets → length i ≡ index_octets → length n ≡ multiframe_pairs → (i' n' : List ℕ)
      → i' ≡ over i 0 index_octets (all_frames (stream_packet (bits s)) multiframe_pairs) → n' ≡ over n 0 multiframe_pairs (crc_notes (stream_packet (bits s)) multiframe_pairs)
      → unpacked success i' n' ≡ unpacking s i n
  unfolding unpacking
  unpacks e g h i' n' ei en =
      rw (eq-eqb (length s) stream_octets e, eq-eqb (length i) index_octets g, eq-eqb (length n) multiframe_pairs h)
      (ap₂ (unpacked success) (ei ∙ over_all i (all_frames (stream_packet (bits s)) multiframe_pairs) index_octets g) (en ∙ over_all n (crc_notes (stream_packet (bits s)) multiframe_pairs) multiframe_pairs h))

-- ---- a reading's answer
-- what was asked for, of w numbers; g is what each choice gives
module _ (w : ℕ) (a : List ℕ) (p : ℕ) (i r : List ℕ) (g : Choices → Given) where
  pub returns_no_room : length a < w → (q : Asked) → returned no_room i r a p ≡ choosing w a p i r g q
  unfolding returning unchosen
  returns_no_room h (Some ch) = rw (lt-ltb (length a) w h)
  returns_no_room h None = rw (lt-ltb (length a) w h)

  pub returns_unchosen : w ≤ length a → (q : Asked) → q ≡ None → returned no_such_choice i r a p ≡ choosing w a p i r g q
  unfolding unchosen
  returns_unchosen h q e = rw (e, le-ltb (length a) w h)

  pub returns_chosen : (q : Asked) (ch : Choices) → q ≡ Some ch → (x : Returned) → x ≡ returning w a p i r (g ch) → x ≡ choosing w a p i r g q
  returns_chosen q ch e x ex = ex ∙ ap (choosing w a p i r g) (sym e)

-- an answer told of w numbers, once it is known what it tells; a refusal has its number and its place
module _ (w : ℕ) (a : List ℕ) (p : ℕ) (t : Told) where
  pub tells_numbers : (l a' : List ℕ) → numbers l ≡ t → a' ≡ over a 0 w l → returned success [] [] a' p ≡ answered w a p [] [] t
  tells_numbers l a' e ea = ap (λ (x : List ℕ). returned success [] [] x p) ea ∙ ap (answered w a p [] []) e

  pub tells_refusal : (n q m k : ℕ) → refusal m k ≡ t → n ≡ m → q ≡ k → returned n [] [] a q ≡ answered w a p [] [] t
  tells_refusal n q m k e en eq = ap₂ (λ (x y : ℕ). returned x [] [] a y) en eq ∙ ap (answered w a p [] []) e

-- the ends of both readings, of w numbers
module _ (w : ℕ) (a : List ℕ) (p : ℕ) (i r : List ℕ) (g : Given) where
  answer : w ≤ length a → (t : Told) (i' r' : List ℕ) → given t i' r' ≡ g → answered w a p i' r' t ≡ returning w a p i r g
  unfolding returning
  answer h t i' r' e = rw (le-ltb (length a) w h) (ap (λ (q : Given). answered w a p q.index q.report q.told) e)

  -- the answer is told without the buffers, which are the reader's
  told : (t : Told) (i' r' : List ℕ) → let x = answered w a p [] [] t in returned x.number i' r' x.answer x.place ≡ answered w a p i' r' t
  told (numbers l) i' r' = refl
  told (refusal n q) i' r' = refl

  pub returns_told : w ≤ length a → (t : Told) (i' r' a' : List ℕ) (n q : ℕ) → given t i' r' ≡ g → returned n [] [] a' q ≡ answered w a p [] [] t
      → returned n i' r' a' q ≡ returning w a p i r g
  returns_told h t i' r' a' n q e et = ap (λ (x : Returned). returned x.number i' r' x.answer x.place) et ∙ (told t i' r' ∙ answer h t i' r' e)

-- ---- settings that are no octets
abbrev pub settings_fit : ℕ → ℕ → Bool
settings_fit rate kind = when (ltb 255 rate) false (when (ltb 255 kind) false true)

module _ (rate kind : ℕ) where
  pub octets_fit : rate ≤ 255 → kind ≤ 255 → settings_fit rate kind ≡ true
  octets_fit h g = rw (le-ltb 255 rate h, le-ltb 255 kind g)

  pub fit_octets : settings_fit rate kind ≡ true → (rate ≤ 255) × (kind ≤ 255)
  fit_octets e = by (ltb 255 rate) (ltb 255 kind) refl refl e
    where
      by : (a b : Bool) → ltb 255 rate ≡ a → ltb 255 kind ≡ b → when a false (when b false true) ≡ true → (rate ≤ 255) × (kind ≤ 255)
      by true b x y z = absurd (true_false (sym z))
      by false true x y z = absurd (true_false (sym z))
      by false false x y z = (ltb-false 255 rate x, ltb-false 255 kind y)

  -- they are wrong
  unfit_wrong : settings_fit rate kind ≡ false → settings_right (settings rate kind) ≡ false
  unfit_wrong e = by (settings_right (settings rate kind)) refl
    where
      by : (b : Bool) → settings_right (settings rate kind) ≡ b → settings_right (settings rate kind) ≡ false
      by false h = h
      by true h =
          let r = rate_right (settings rate kind) h in
          let k = kind_right (settings rate kind) h in absurd (true_false (sym (octets_fit (omega arith) (omega arith)) ∙ e))

  -- so the writer refuses them with 1
  pub unfit_refused : settings_fit rate kind ≡ false → (indices out : List ℕ) (n p : ℕ) → n ≡ writing_number WrongSettings → p ≡ writing_place WrongSettings
      → write_returned n out p ≡ dsr_write rate kind indices out
  unfolding writing verdict
  unfit_refused e indices out n p en ep = rw (unfit_wrong e) (ap₂ (λ (x y : ℕ). write_returned x out y) en ep)

-- ---- dsr_write's three, put together
pub written_as : {n m p q : ℕ} {o w : List ℕ} → n ≡ m → o ≡ w → p ≡ q → write_returned n o p ≡ write_returned m w q
written_as {n} {m} {p} {q} {o} {w} en eo ep = ap₂ (λ (x : ℕ) (y : List ℕ). write_returned x y p) en eo ∙ ap (write_returned m w) ep
