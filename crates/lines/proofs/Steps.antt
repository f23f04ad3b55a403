-- The pair notes as the code takes them, and the last step of each function: its texts, one behind the other.
-- Assumes nothing.
use Rattle.std.specs.Prelude.{◌≡◌, List, ◌++◌, ℕ, ◌+◌, ◌*◌, ◌-◌, ◌<◌, length, get_or, take, drop}
use Rattle.std.proofs.Common.{arith, sym, ap, ◌∙◌, length-take, length-drop, get_or-take, get_or-drop, take_at, drop_at, drop-drop}
use Rattle.lists.specs.Parts.{part}
use Rattle.layout.specs.Layout.{multiframe_pairs, report_octets}

-- what stands behind the header note
module _ (notes : List ℕ) (size : length notes ≡ report_octets) where
  abbrev behind : List ℕ
  behind = take (length notes - 1) (drop 1 notes)

  pub length_behind : length behind ≡ multiframe_pairs
  length_behind = simp (length-take, length-drop) (omega arith)

  pub behind_at : (p : ℕ) → p < multiframe_pairs → get_or behind p 0 ≡ get_or notes (p + 1) 0
  behind_at p h =
      get_or-take (length notes - 1) (drop 1 notes) p 0 (omega arith) ∙ get_or-drop 1 notes p 0 ∙ ap (λ (i : ℕ). get_or notes i 0) (omega arith)

-- the part of the report that is taken next, and what is left behind it
module _ (report notes rest : List ℕ) (k : ℕ) (e : drop (report_octets * k) report ≡ notes ++ rest) (size : length notes ≡ report_octets) where
  pub next_part : notes ≡ part (report_octets * k) report_octets report
  next_part = sym (ap (take report_octets) e ∙ take_at notes rest report_octets size)

  pub next_rest : rest ≡ drop (report_octets * (k + 1)) report
  next_rest =
      let n : report_octets * k + report_octets ≡ report_octets * (k + 1) = omega arith in
      sym (drop_at notes rest report_octets size) ∙ ap (drop report_octets) (sym e) ∙ drop-drop report_octets (report_octets * k) report
      ∙ ap (λ (i : ℕ). drop i report) n
