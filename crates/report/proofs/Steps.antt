-- Each turn of the report's loops lays what is next behind what is there, over lists and numbers alone.
-- Assumes nothing.
use Prim.Native.Nat.{ℕ, suc, ◌+◌, ◌*◌, ◌≤◌}
use mathlib.Core.Path.{◌≡◌, refl, ap, ◌∙◌}
use mathlib.Core.List.{List, [], ◌∷◌}
use native.Mathlib.Omega.{arith}
use lib.ListN.{length, get_or, set}
use Rattle.lists.specs.Parts.{part, over, length_part, set_over, behind}
use Rattle.lists.specs.Rows.{joined_more}
use Rattle.layout.specs.Layout.{multiframe_pairs, report_octets, first_pair}
use Rattle.header_notes.specs.HeaderNotes.{header_note}
use Rattle.header_readings.specs.Stored.{opened}
use Rattle.report.specs.Sections.{section, sections}

-- a header note and the twelve notes behind it
pub section_is : (headers ns l m : List ℕ) (c k x first : ℕ) → report_octets * k + report_octets ≤ length l → x ≡ header_note c k (opened (get_or headers k 0))
    → first ≡ first_pair k → m ≡ over (set l (report_octets * k) x) (report_octets * k + 1) multiframe_pairs (part first multiframe_pairs ns)
    → m ≡ over l (report_octets * k) report_octets (section headers ns c k)
unfolding section
section_is headers ns l m c k x first room e ef em =
    let h = header_note c k (opened (get_or headers k 0)) in
    let s : set l (13 * k) x ≡ over l (13 * k) 1 (h ∷ []) = set_over l (13 * k) x (omega arith) ∙ ap (λ (y : ℕ). over l (13 * k) 1 (y ∷ [])) e in
    behind l (13 * k) 1 12 (h ∷ []) (part (12 * k) 12 ns) (omega arith) refl s
    (em ∙ ap (λ (f : ℕ). over (set l (13 * k) x) (13 * k + 1) 12 (part f 12 ns)) ef)

length_section : (headers ns : List ℕ) (c k : ℕ) → first_pair k + multiframe_pairs ≤ length ns → length (section headers ns c k) ≡ report_octets
unfolding section
length_section headers ns c k h = ap suc (length_part ns (first_pair k) multiframe_pairs h)

-- one multiframe more
pub section_on : (headers ns l m n : List ℕ) (c k : ℕ) → report_octets * k + report_octets ≤ length l → first_pair k + multiframe_pairs ≤ length ns
    → m ≡ over l 0 (report_octets * k) (sections headers ns c k) → n ≡ over m (report_octets * k) report_octets (section headers ns c k)
    → n ≡ over l 0 (report_octets * (k + 1)) (sections headers ns c (k + 1))
section_on headers ns l m n c k room fits em en =
    joined_more l m k (section headers ns c) report_octets n (λ i h. length_section headers ns c i (omega arith)) room em en
