-- FROM CALL TO CALL: what dsr_write wrote, damaged on its way, and read by dsr_read. The sentences of the yards with nothing between them and the two
-- entries: what a caller of dsr_read is told of what a caller of dsr_write said.
-- Assumes nothing.
use Rattle.std.specs.Prelude.{◌≡◌, List, ℕ, ◌*◌, ◌≤◌, ◌<◌, length, get_or, Some}
use Rattle.std.proofs.Common.{sym, ap, ◌∙◌, subst, ⊎_elim, inl, inr}
use Rattle.layout.specs.Layout.{report_octets}
use Rattle.choices.specs.declared.Choices.{Choices}
use Rattle.tables.specs.Tables.{Tables}
use Rattle.image.specs.Made.{sync_in}
use Rattle.writer.specs.Utterance.{Utterance, image_of}
use Rattle.entries.specs.Entries.{Returned, dsr_read}
use Rattle.damage.specs.Damage.{DamageUpTo, header_bits, header_flips}
use Rattle.dsr_demands.specs.Called.{Call, octets_of, count_of, called, octets_are}
use Rattle.dsr_demands.specs.Named.{Tells, HearsAll}
use Rattle.dsr_demands.proofs.Named.{c_names_if_read, c_trusted, c_never_misled}
use Rattle.dsr_demands.specs.Linked as Stated

module _ (rate kind : ℕ) (indices out : List ℕ) (call : Call rate kind indices out) (s : List ℕ) (tables : Tables) (index report answer : List ℕ) (place : ℕ) where
  abbrev sent : List ℕ
  sent = octets_of rate kind indices out

  abbrev u : Utterance
  u = called rate kind indices out call

  abbrev c : (ch : Choices) → Returned
  c ch = dsr_read s (Some ch) tables index report answer place

  abbrev Spared : Type 0
  Spared = Stated.Spared rate kind indices out call s tables index report answer place

  e : octets_of rate kind indices out ≡ image_of (called rate kind indices out call)
  e = octets_are rate kind indices out call

  -- NAMES THE DAMAGE: at most three flips in each header, demand 3's damage to packets, and dsr_read answers 0
  pub c_link_names : (ch : Choices) → DamageUpTo 3 (count_of indices) (octets_of rate kind indices out) s → (c ch).number ≡ 0
      → Tells (called rate kind indices out call) s tables (c ch).number (c ch).answer (c ch).index (c ch).report
  c_link_names ch d = c_names_if_read ch u s tables index report answer place (subst (λ (l : List ℕ). DamageUpTo 3 (count_of indices) l s) e d)

  -- A LIST WITHOUT A WARNING: any damage to headers but for one, which has at most five flips, demand 3's damage to packets; dsr_read answers 0, and
  -- every note is 0. Then the octets are those written, and all of it is heard
  pub c_link_trusted : (ch : Choices) → DamageUpTo header_bits (count_of indices) (octets_of rate kind indices out) s → (k : ℕ) → k < count_of indices
      → header_flips (octets_of rate kind indices out) s k ≤ 5 → (c ch).number ≡ 0 → ((i : ℕ) → i < report_octets * get_or (c ch).answer 2 0 → get_or (c ch).report i 0 ≡ 0)
      → (s ≡ octets_of rate kind indices out) × HearsAll ch (called rate kind indices out call) s tables index report answer place
  c_link_trusted ch d k h five zero clean =
      let t = c_trusted ch u s tables index report answer place
      (record {
        damage = subst (λ (l : List ℕ). DamageUpTo header_bits (count_of indices) l s) e d;
        header = k;
        within = h;
        five = subst (λ (l : List ℕ). header_flips l s k ≤ 5) e five;
      }) zero clean in
      (t.0 ∙ sym e, t.1)

  pub c_link_never_misled : (ch : Choices) → Spared → (c ch).number ≡ 0
      → (get_or (c ch).answer 0 0 ≡ rate) × ((get_or (c ch).answer 1 0 ≡ kind) × (get_or (c ch).answer 2 0 ≡ count_of indices))
  c_link_never_misled ch p =
      c_never_misled ch u s tables index report answer place
      (record {
        size = p.size ∙ ap length e;
        syncs = λ k h. p.syncs k h ∙ ap (λ (l : List ℕ). sync_in l k) e;
        headers = ⊎_elim
            (λ x. inl
            (record { two = x.1.0; but = x.0; others = λ k h n. subst (λ (l : List ℕ). header_flips l s k ≤ 3) e (x.1.1 k h n) }))
            (λ x. inr (record { single = x.0; five = subst (λ (l : List ℕ). header_flips l s 0 ≤ 5) e x.1 })) p.headers;
      })
