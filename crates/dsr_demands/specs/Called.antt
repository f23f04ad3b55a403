-- A call of dsr_write that answered 0 is of an accepted utterance, and what it wrote is the utterance's image.
-- Assumes nothing.
use Rattle.std.specs.Prelude.{◌≡◌, List, ℕ, ◌+◌, ◌*◌, length, take, drop, Ok, Err}
use Rattle.std.proofs.Common.{sym, ap, ◌∙◌, arith, take_at}
use Rattle.layout.specs.Layout.{multiframe_octets}
use Rattle.settings.specs.Settings.{settings}
use Rattle.writer.specs.Writing as W
use Rattle.image.specs.Made.{Small}
use Rattle.image.proofs.Laws.{length_image}
use Rattle.wrong_frames.specs.WrongFrames.{frame_count}
use Rattle.writer.specs.Writing.{multiframes_for, needed, writing, verdict}
use Rattle.writer.specs.Laws.{Accepted}
use Rattle.writer.proofs.Laws.{accepts}
use Rattle.writer.proofs.Laws as L
use Rattle.writer.specs.Utterance.{Utterance, image_of}
use Rattle.writer.proofs.Utterance.{success}
use Rattle.writer.specs.Types as WA
use Rattle.entries.specs.Entries.{dsr_write}
use Rattle.dsr_demands.specs.Calls.{beyond, write_zero}

-- dsr_write's success is the writer's
accepted : (rate kind : ℕ) (indices out : List ℕ) (n : ℕ) → (writing (settings rate kind) indices out).answer ≡ Ok n → verdict (settings rate kind) indices (length out) ≡ Ok n
unfolding writing
accepted rate kind indices out n e = by (verdict (settings rate kind) indices (length out)) e
  where
    by : (v : WA.Answer) → (W.finished (settings rate kind) indices out v).answer ≡ Ok n → v ≡ Ok n
    by (Ok k) e = e
    by (Err r) e = e

-- a call of dsr_write that answered 0, of octets
pub record Call (rate kind : ℕ) (indices out : List ℕ) : Type 0 where
  pub small : Small indices
  pub written : (dsr_write rate kind indices out).number ≡ 0

-- the octets written
abbrev pub octets_of : ℕ → ℕ → List ℕ → List ℕ → List ℕ
octets_of rate kind indices out = take (dsr_write rate kind indices out).place (dsr_write rate kind indices out).output

abbrev pub count_of : List ℕ → ℕ
count_of indices = multiframes_for (frame_count indices)

module _ (rate kind : ℕ) (indices out : List ℕ) (c : Call rate kind indices out) where
  abbrev n : ℕ
  n = (dsr_write rate kind indices out).place

  ok : (writing (settings rate kind) indices out).answer ≡ Ok n
  ok = write_zero rate kind indices out c.written

  pub took : Accepted (settings rate kind) indices (length out) n
  took = L.accepted (settings rate kind) indices (length out) n (accepted rate kind indices out n ok)

  abbrev pub called : Utterance
  called = record {
    settings = settings rate kind;
    indices = indices;
    small = c.small;
    written = accepts (settings rate kind) indices (needed indices) took.sizes took.narrow_indices took.speaks (omega arith);
  }

  pub place_is : (dsr_write rate kind indices out).place ≡ multiframe_octets * count_of indices
  place_is = (success (settings rate kind) indices out n ok).0

  pub octets_are : octets_of rate kind indices out ≡ image_of called
  octets_are =
      ap (take n) (success (settings rate kind) indices out n ok).1
      ∙ take_at (image_of called) (drop (0 + n) out) n (length_image (settings rate kind) indices (count_of indices) ∙ sym place_is)

  -- octets beyond them are as they came
  pub output_beyond_is : drop (dsr_write rate kind indices out).place (dsr_write rate kind indices out).output ≡ drop (dsr_write rate kind indices out).place out
  output_beyond_is =
      ap (drop n) (success (settings rate kind) indices out n ok).1
      ∙ beyond out (image_of called) n (omega (arith, place_is, took.room)) (length_image (settings rate kind) indices (count_of indices) ∙ sym place_is)
