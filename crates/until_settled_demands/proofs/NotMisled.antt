-- Settings that are given of damaged octets are those written, unless two headers have four flips or more each (02, C-11).
-- Assumes nothing.
use Rattle.std.specs.Prelude.{ℕ, ◌*◌, ◌≤◌, ◌<◌, ◌≡◌, refl, List, [], length, Some, None, Ok, Err}
use Rattle.std.proofs.Common.{ap, ◌∙◌, subst, arith}
use Rattle.std.proofs.Math.Path.{sym}
use Rattle.layout.specs.Layout.{multiframe_octets, sync}
use Rattle.choices.specs.declared.Choices.{Choices}
use Rattle.message.specs.Message.{settings_of}
use Rattle.cutting.specs.Cutting.{Cutting}
use Rattle.settling.specs.Settling.{first_agreeing}
use Rattle.unfit.specs.Laws.{Usable}
use Rattle.settling.specs.Types.{Settlement}
use Rattle.image.specs.Made.{sync_in}
use Rattle.refusals.specs.declared.Reading.TheVariants.{Unsettled}
use Rattle.writer.specs.Utterance.{Utterance, multiframes_of, image_of}
use Rattle.damage.specs.Damage.{header_flips}
use Rattle.demands.proofs.HeadersLaws.{settings_sent}
use Rattle.until_settled.specs.Types.{Answer}
use Rattle.until_settled.specs.declared.Beginning.{Beginning}
use Rattle.until_settled.specs.UntilSettled.{until_settled}
use Rattle.until_settled.specs.Laws.{headers, multiframes_read}
use Rattle.until_settled.proofs.Laws.{settled_read, whole_settles}
use Rattle.until_settled_demands.proofs.WrittenLaws.{usable}
use Rattle.until_settled_demands.proofs.Sent.{cut_so, count, settled_so, agreed_sent}

-- ---- NOBODY IS MISLED: of octets as long as a written utterance of two multiframes or more, with whole syncs, whatever happened to the pairs: settings that
-- are given are those written, unless two headers have four flips or more each. Header j may have any
module _ (ch : Choices) (u : Utterance) (s : List ℕ) (two : 2 ≤ multiframes_of u) (size : length s ≡ multiframe_octets * multiframes_of u)
    (syncs : (k : ℕ) → k < multiframes_of u → sync_in s k ≡ sync) (j : ℕ)
    (others : (k : ℕ) → k < multiframes_of u → (k ≡ j → ⊥) → header_flips (image_of u) s k ≤ 3) where
  pub not_misled : (b : Beginning) → until_settled ch s ≡ Ok b → b.settings ≡ u.settings
  not_misled b e = by (first_agreeing [] (headers s)) refl
    where
      by : (x : Settlement) → first_agreeing [] (headers s) ≡ x → b.settings ≡ u.settings
      by (Some c) a =
          let sent = agreed_sent ch u s two size syncs j others c a in
          let z : ◌≡◌ {A = Answer} (Ok (record { settings = settings_of c; multiframes = multiframes_read s })) (Ok b) = sym (settled_read s c a ch (subst Usable (sym sent) (usable u))) ∙ e in
          let y : ◌≡◌ {A = Beginning} (record { settings = settings_of c; multiframes = multiframes_read s }) b = cc in
          sym (ap (λ (g : Beginning). g.settings) y) ∙ ap settings_of sent ∙ settings_sent u
      by None a =
          let z : Err Unsettled ≡ Ok b =
          sym (whole_settles ch s a (ap (λ (w : Cutting). w.ending) (cut_so ch u s two size syncs j others)) (λ z. omega (arith, count ch u s two size syncs j others, z)) None (settled_so ch u s two size syncs j others ∙ a)) ∙ e in
          let y : ◌≡◌ {A = ℕ} 0 1 = cc in absurd (omega arith)
