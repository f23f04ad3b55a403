-- Settings that are given of what came so far of damaged octets are those written, unless two headers have four flips or more each (02, C-11).
-- Assumes nothing.
use Rattle.std.specs.Prelude.{ℕ, ◌*◌, ◌≤◌, ◌<◌, ◌≡◌, List, length, take, drop, Ok}
use Rattle.std.proofs.Common.{ap, ◌∙◌, subst, take-append-drop}
use Rattle.std.proofs.Math.Path.{sym}
use Rattle.layout.specs.Layout.{multiframe_octets, sync}
use Rattle.choices.specs.declared.Choices.{Choices}
use Rattle.image.specs.Made.{sync_in}
use Rattle.writer.specs.Utterance.{Utterance, multiframes_of, image_of}
use Rattle.damage.specs.Damage.{header_flips}
use Rattle.until_settled.specs.declared.Beginning.{Beginning}
use Rattle.until_settled.specs.UntilSettled.{until_settled}
use Rattle.until_settled.specs.Lasting.{OfTwo}
use Rattle.until_settled.proofs.Lasting.{stays_longer}
use Rattle.until_settled_demands.proofs.NotMisled.{not_misled}

module _ (ch : Choices) (u : Utterance) (s : List ℕ) (two : 2 ≤ multiframes_of u) (size : length s ≡ multiframe_octets * multiframes_of u)
    (syncs : (k : ℕ) → k < multiframes_of u → sync_in s k ≡ sync) (j : ℕ)
    (others : (k : ℕ) → k < multiframes_of u → (k ≡ j → ⊥) → header_flips (image_of u) s k ≤ 3) where
  -- AND NOT BY A RECORDING THAT IS STILL GROWING: settings of its octets so far, of two multiframes or more, are those written; by default all that are given
  pub not_misled_so_far : (k : ℕ) (b : Beginning) → OfTwo ch (Ok b) → until_settled ch (take k s) ≡ Ok b → b.settings ≡ u.settings
  not_misled_so_far k b t e =
      not_misled ch u s two size syncs j others b
      (ap (until_settled ch) (sym (take-append-drop k s)) ∙ stays_longer ch (take k s) (subst (OfTwo ch) (sym e) t) (drop k s) ∙ e)
