-- The image of an accepted utterance is the image of no other (01, "Writing").
-- Assumes nothing.
use Rattle.std.specs.Prelude.{◌≡◌, refl, true, List, ℕ, zero, suc, ◌+◌, ◌-◌, ◌*◌, ◌/◌, ◌%◌, ◌^◌, ◌≤◌, ◌<◌, length, get_or, Ok, Err}
use Rattle.std.proofs.Common.{sym, ap, ◌∙◌, subst, arith, pow_pos, ext_get_or}
use Rattle.std.proofs.Math.Decide.{ℕ_discrete, dec_lt}
use Rattle.std.proofs.Math.ListN.{get_or-eq_default}
use Rattle.lists.specs.Parts.{over}
use Rattle.settings.specs.declared.Settings.{Settings}
use Rattle.settings.specs.Settings.{settings_right, rate_right, kind_right, right_not_2}
use Rattle.layout.specs.Layout.{widths, frame_indices, multiframe_frames, first_frame, second_frame}
use Rattle.bits.specs.Bits.{Fits}
use Rattle.packet.specs.Packet.{packet_of, frame_at}
use Rattle.packet.proofs.Laws.{fits_frame, get_or_row, packet_of_same}
use Rattle.header_code.specs.Code.Distance.{codeword_low}
use Rattle.message.specs.Message.{message, settings_of}
use Rattle.message.specs.Message.Laws.{message_lt, settings_back}
use Rattle.image.specs.Image.{image}
use Rattle.image.specs.Made.{word_in, packet_in, Small}
use Rattle.image.proofs.Laws.{length_image, image_word, image_packet}
use Rattle.wrong_frames.specs.WrongFrames.{frame_count}
use Rattle.writer.specs.Writing.{multiframes_for, needed, verdict, outcome, finished, writing}
use Rattle.writer.specs.Laws.{Accepted}
use Rattle.writer.proofs.Accepted.{narrow, last_speaks}
use Rattle.writer.proofs.Laws.{accepted, accepts}
use Rattle.writer.specs.Types.{Answer}
use Rattle.refusals.specs.declared.Writing.{Writing as Refusal}
use Rattle.writer.specs.Utterance.{Utterance, image_of, multiframes_of, pairs_of}

module _ (settings : Settings) (idx : List ℕ) (out n : ℕ) (a : Accepted settings idx out n) where
  -- so every frame, padding too, fits its widths, if each index is an octet
  pub fits : Small idx → (k : ℕ) → Fits widths (frame_at idx k)
  fits small k = fits_frame idx k (λ i h. each i h (dec_lt k (frame_count idx)))
    where
      whole : length idx ≡ frame_indices * frame_count idx
      whole = omega (arith, a.sizes.whole)

      six : (i : ℕ) → i < 6 → get_or widths i 0 ≡ 6
      six zero h = refl
      six (suc zero) h = refl
      six (suc (suc zero)) h = refl
      six (suc (suc (suc zero))) h = refl
      six (suc (suc (suc (suc zero)))) h = refl
      six (suc (suc (suc (suc (suc zero))))) h = refl
      six (suc (suc (suc (suc (suc (suc i)))))) h = absurd (omega arith)

      each : (i : ℕ) → i < frame_indices → Dec (k < frame_count idx) → get_or idx (frame_indices * k + i) 0 < 2 ^ get_or widths i 0
      each i h (no d) =
          let e : get_or idx (frame_indices * k + i) 0 ≡ 0 = get_or-eq_default idx 0 (omega (arith, whole)) in
          subst (λ (x : ℕ). x < 2 ^ get_or widths i 0) (sym e) (pow_pos (get_or widths i 0))
      each i h (yes l) =
          elim (dec_lt i 6) [
            | yes s ↦
                let b : get_or idx (frame_indices * k + i) 0 < 2 ^ 6 = omega (arith, narrow settings idx out n a k i l s) in
                subst (λ (w : ℕ). get_or idx (frame_indices * k + i) 0 < 2 ^ w) (sym (six i s)) b
            | no d ↦
                let e : i ≡ 6 = omega arith in
                subst (λ (x : ℕ). get_or idx (frame_indices * k + i) 0 < 2 ^ get_or widths x 0) (sym e) (small (frame_indices * k + i))
          ]

module _ (u : Utterance) where
  pub is_accepted : Accepted u.settings u.indices (needed u.indices) (needed u.indices)
  is_accepted = accepted u.settings u.indices (needed u.indices) (needed u.indices) u.written

  -- the writer's answer and output, whatever is lent, if it is enough
  pub writes : (out : List ℕ) → needed u.indices ≤ length out
      → writing u.settings u.indices out ≡ outcome (Ok (needed u.indices)) (over out 0 (needed u.indices) (image_of u))
  unfolding writing
  writes out room =
      let a = is_accepted in
      rw (accepts u.settings u.indices (length out) a.sizes a.narrow_indices a.speaks room)

  -- the settings are right, so they fit their fields
  pub settings_right_lem : settings_right u.settings ≡ true
  settings_right_lem = is_accepted.sizes.right

  pub rate_small : u.settings.rate < 4
  rate_small = rate_right u.settings settings_right_lem

  pub kind_small : u.settings.kind < 2
  kind_small = kind_right u.settings settings_right_lem

  pub rate_not_2 : u.settings.rate ≡ 2 → ⊥
  rate_not_2 = right_not_2 u.settings settings_right_lem

  pub whole_frames : length u.indices ≡ frame_indices * frame_count u.indices
  whole_frames = omega (arith, is_accepted.sizes.whole)

  pub fits_each_frame : (k : ℕ) → Fits widths (frame_at u.indices k)
  fits_each_frame = fits u.settings u.indices (needed u.indices) (needed u.indices) is_accepted u.small

-- what the writer answered with some room, it would with just enough
pub utterance : (settings : Settings) (indices : List ℕ) (out n : ℕ) → Small indices → verdict settings indices out ≡ Ok n → Utterance
utterance settings indices out n small e =
    let a = accepted settings indices out n e in
    record {
      settings = settings;
      indices = indices;
      small = small;
      written = accepts settings indices (needed indices) a.sizes a.narrow_indices a.speaks (omega arith);
    }

-- ---- TWO ACCEPTED UTTERANCES WITH THE SAME IMAGE ARE THE SAME UTTERANCE
-- settings of one codeword
pub same_settings : (u v : Utterance) (c : ℕ) → message u.settings c 0 ≡ message v.settings c 0 → u.settings ≡ v.settings
same_settings u v c e = sym (settings_back u.settings c 0 (settings_right_lem u)) ∙ ap settings_of e ∙ settings_back v.settings c 0 (settings_right_lem v)

-- frames of one packet
pub same_pair : (u v : Utterance) (q : ℕ) → packet_of u.indices q ≡ packet_of v.indices q
    → (frame_at u.indices (first_frame q) ≡ frame_at v.indices (first_frame q)) × (frame_at u.indices (second_frame q) ≡ frame_at v.indices (second_frame q))
same_pair u v q =
    packet_of_same u.indices v.indices q q (fits_each_frame u (first_frame q)) (fits_each_frame u (second_frame q)) (fits_each_frame v (first_frame q))
    (fits_each_frame v (second_frame q))

module _ (u v : Utterance) (same : (i : ℕ) → get_or u.indices i 0 ≡ get_or v.indices i 0) where
  -- a last frame that is not zero cannot stand past the other's end
  no_more : frame_count v.indices ≤ frame_count u.indices
  no_more = by (dec_lt (frame_count u.indices) (frame_count v.indices))
    where
      by : Dec (frame_count u.indices < frame_count v.indices) → frame_count v.indices ≤ frame_count u.indices
      by (no d) = omega arith
      by (yes h) =
          let k = frame_count v.indices - 1 in
          let l = last_speaks v.settings v.indices (needed v.indices) (needed v.indices) (is_accepted v) k (omega arith) in
          absurd (l.nonzero (sym (same (frame_indices * k + l.place)) ∙ get_or-eq_default u.indices 0 (omega (arith, whole_frames u))))

module _ (u v : Utterance) (count : multiframes_of u ≡ multiframes_of v) (packets : (q : ℕ) → q < pairs_of u → packet_of u.indices q ≡ packet_of v.indices q) where
  same_frame : (k : ℕ) → k < multiframe_frames * multiframes_of u → frame_at u.indices k ≡ frame_at v.indices k
  same_frame k h =
      let p = same_pair u v (k / 2) (packets (k / 2) (omega arith)) in
      elim (ℕ_discrete (2 * (k / 2)) k) [
        | yes e ↦ subst (λ (j : ℕ). frame_at u.indices j ≡ frame_at v.indices j) e p.0
        | no d ↦ let e : 2 * (k / 2) + 1 ≡ k = omega arith in subst (λ (j : ℕ). frame_at u.indices j ≡ frame_at v.indices j) e p.1
      ]

  same_index : (i : ℕ) → get_or u.indices i 0 ≡ get_or v.indices i 0
  same_index i =
      elim (dec_lt i (frame_indices * (multiframe_frames * multiframes_of u))) [
        | yes h ↦
            let e : frame_indices * (i / frame_indices) + i % frame_indices ≡ i = omega arith in
            let l : i % frame_indices < frame_indices = omega arith in
            subst (λ (j : ℕ). get_or u.indices j 0 ≡ get_or v.indices j 0) e
            (sym (get_or_row u.indices (frame_indices * (i / frame_indices)) frame_indices (i % frame_indices) l) ∙ ap (λ (f : List ℕ). get_or f (i % frame_indices) 0) (same_frame (i / frame_indices) (omega arith))
            ∙ get_or_row v.indices (frame_indices * (i / frame_indices)) frame_indices (i % frame_indices) l)
        | no d ↦
            get_or-eq_default u.indices 0 (omega (arith, whole_frames u)) ∙ sym (get_or-eq_default v.indices 0 (omega (arith, whole_frames v, count)))
      ]

  pub same_indices : u.indices ≡ v.indices
  same_indices =
      let a = no_more u v same_index in
      let b = no_more v u (λ i. sym (same_index i)) in
      ext_get_or 0 u.indices v.indices (omega (arith, whole_frames u, whole_frames v)) (λ i h. same_index i)

pub same_image : (u v : Utterance) → image_of u ≡ image_of v → (u.settings ≡ v.settings) × (u.indices ≡ v.indices)
same_image u v e = (s, same_indices u v count packets)
  where
    count : multiframes_of u ≡ multiframes_of v
    count =
        omega (arith, length_image u.settings u.indices (multiframes_of u), length_image v.settings v.indices (multiframes_of v), ap length e)

    message_of : (w : Utterance) → word_in (image_of w) 0 % 2 ^ 16 ≡ message w.settings 1 0
    message_of w =
        ap (λ (x : ℕ). x % 2 ^ 16) (image_word w.settings w.indices (multiframes_of w) 0 (omega arith))
        ∙ codeword_low (message w.settings 1 0) (message_lt w.settings 1 0)

    s : u.settings ≡ v.settings
    s = same_settings u v 1 (sym (message_of u) ∙ ap (λ (l : List ℕ). word_in l 0 % 2 ^ 16) e ∙ message_of v)

    packets : (q : ℕ) → q < pairs_of u → packet_of u.indices q ≡ packet_of v.indices q
    packets q h =
        sym (image_packet u.settings u.indices (multiframes_of u) q h) ∙ ap (λ (l : List ℕ). packet_in l q) e
        ∙ image_packet v.settings v.indices (multiframes_of v) q (omega (arith, count))

-- ---- what success says: the octets needed, and the image over the output's front
pub success : (settings : Settings) (idx out : List ℕ) (n : ℕ) → (writing settings idx out).answer ≡ Ok n
    → (n ≡ needed idx) × ((writing settings idx out).output ≡ over out 0 n (image settings idx (multiframes_for (frame_count idx))))
unfolding writing
success settings idx out n e = by (verdict settings idx (length out)) refl e
  where
    by : (v : Answer) → verdict settings idx (length out) ≡ v → (finished settings idx out v).answer ≡ Ok n
        → (n ≡ needed idx) × ((finished settings idx out (verdict settings idx (length out))).output ≡ over out 0 n (image settings idx (multiframes_for (frame_count idx))))
    by (Err r) f e = absurd (other r e)
      where
        other : (r : Refusal) → Err r ≡ Ok n → ⊥
        other r e = let z : ◌≡◌ {A = ℕ} 0 1 = cc in omega arith
    by (Ok k) f e =
        let g : verdict settings idx (length out) ≡ Ok n = f ∙ e in
        ((accepted settings idx (length out) n g).octets_needed, ap (λ (v : Answer). (finished settings idx out v).output) g)
