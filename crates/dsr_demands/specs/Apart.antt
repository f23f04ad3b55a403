-- TOLD APART AT dsr_write (demand 3): two outputs that can be damaged into the same octets have the same settings, length and undamaged pairs.
-- One header is enough, whose flips in the two add up to at most five.
-- Assumes nothing.
use Rattle.std.specs.Prelude.{◌≡◌, refl, List, ◌↔◌, ℕ, ◌+◌, ◌*◌, ◌≤◌, ◌<◌, get_or}
use Rattle.std.proofs.Common.{sym, ap, ◌∙◌, subst}
use Rattle.layout.specs.Layout.{frame_indices, multiframe_pairs, multiframe_octets, first_frame, second_frame}
use Rattle.settings.specs.declared.Settings.{Settings}
use Rattle.packet.specs.Packet.{frame_at}
use Rattle.packet.proofs.Laws.{get_or_row}
use Rattle.writer.specs.Utterance.{image_of}
use Rattle.entries.specs.Entries.{dsr_write}
use Rattle.damage.specs.Damage.{DamageUpTo, header_bits, header_flips, Touched}
use Rattle.damage.specs.ToldApart.{Alike}
use Rattle.damage.proofs.ToldApart.{told_by_one}
use Rattle.dsr_demands.specs.Called.{Call, octets_of, count_of, called, place_is, octets_are}

-- two calls, and octets that both outputs can be damaged into
module _ (rate kind : ℕ) (indices out : List ℕ) (rate' kind' : ℕ) (indices' out' s : List ℕ) where
  abbrev one : List ℕ
  one = octets_of rate kind indices out

  abbrev other : List ℕ
  other = octets_of rate' kind' indices' out'

  pub record Meet : Type 0 where
    pub call : Call rate kind indices out
    pub call' : Call rate' kind' indices' out'
    pub damage : DamageUpTo header_bits (count_of indices) (octets_of rate kind indices out) s
    pub damage' : DamageUpTo header_bits (count_of indices') (octets_of rate' kind' indices' out') s
    pub header : ℕ
    pub within : header < count_of indices
    pub five : header_flips (octets_of rate kind indices out) s header + header_flips (octets_of rate' kind' indices' out') s header ≤ 5

  pub record Same : Type 0 where
    pub rates : rate ≡ rate'
    pub kinds : kind ≡ kind'
    pub places : (dsr_write rate kind indices out).place ≡ (dsr_write rate' kind' indices' out').place
    pub damaged : (q : ℕ) → q < multiframe_pairs * count_of indices → Touched (octets_of rate kind indices out) s q ↔ Touched (octets_of rate' kind' indices' out') s q
    -- the frames of an undamaged pair, octet for octet; past the last frame stand zeros
    pub firsts : (q i : ℕ) → q < multiframe_pairs * count_of indices → (Touched (octets_of rate kind indices out) s q → ⊥) → i < frame_indices
        → get_or indices (frame_indices * first_frame q + i) 0 ≡ get_or indices' (frame_indices * first_frame q + i) 0
    pub seconds : (q i : ℕ) → q < multiframe_pairs * count_of indices → (Touched (octets_of rate kind indices out) s q → ⊥) → i < frame_indices
        → get_or indices (frame_indices * second_frame q + i) 0 ≡ get_or indices' (frame_indices * second_frame q + i) 0

  frame_octet : (f i : ℕ) → i < frame_indices → frame_at indices f ≡ frame_at indices' f → get_or indices (frame_indices * f + i) 0 ≡ get_or indices' (frame_indices * f + i) 0
  frame_octet f i h e = sym (get_or_row indices (frame_indices * f) frame_indices i h) ∙ ap (λ (l : List ℕ). get_or l i 0) e ∙ get_or_row indices' (frame_indices * f) frame_indices i h

  pub c_told_apart : Meet → Same
  c_told_apart x =
      let u = called rate kind indices out x.call in
      let v = called rate' kind' indices' out' x.call' in
      let eu = octets_are rate kind indices out x.call in
      let ev = octets_are rate' kind' indices' out' x.call' in
      let a : Alike u v s s =
      told_by_one u v s s
      (record {
        one = subst (λ (l : List ℕ). DamageUpTo header_bits (count_of indices) l s) eu x.damage;
        other = subst (λ (l : List ℕ). DamageUpTo header_bits (count_of indices') l s) ev x.damage';
        equal = refl;
        header = x.header;
        within = x.within;
        flips = subst (λ (l : List ℕ). header_flips (image_of u) s x.header + header_flips l s x.header ≤ 5) ev
            (subst (λ (l : List ℕ). header_flips l s x.header + header_flips other s x.header ≤ 5) eu x.five);
      }) in
      let back : (q : ℕ) → (Touched one s q → ⊥) → Touched (image_of u) s q → ⊥ = λ q n. subst (λ (l : List ℕ). Touched l s q → ⊥) eu n in
      record {
        rates = ap (λ (x : Settings). x.rate) a.settings;
        kinds = ap (λ (x : Settings). x.kind) a.settings;
        places = place_is rate kind indices out x.call ∙ ap (λ (k : ℕ). multiframe_octets * k) a.counts ∙ sym (place_is rate' kind' indices' out' x.call');
        damaged = λ q h.
            subst (λ (l : List ℕ). Touched one s q ↔ Touched l s q) (sym ev) (subst (λ (l : List ℕ). Touched l s q ↔ Touched (image_of v) s q) (sym eu) (a.damaged q h));
        firsts = λ q i h n l. frame_octet (first_frame q) i l (a.firsts q h (back q n));
        seconds = λ q i h n l. frame_octet (second_frame q) i l (a.seconds q h (back q n));
      }
