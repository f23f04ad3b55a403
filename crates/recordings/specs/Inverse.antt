-- INVERSE SYNCS CHANGE NOTHING (01, "Multiframe": "any number of them may stand before, between and after multiframes"). The whole outcome, the answer
-- and both buffers, is that of the same multiframes without them. It needs a multiframe, and at most 255: a refusal's place counts octets.
-- Syncs anywhere in an image, and that the premises are met and needed: proofs/Spaced.antt. Assumes nothing.
use Rattle.std.specs.Prelude.{◌≡◌, refl, get_or, replicate, Ok}
use Rattle.std.proofs.Math.Path.{sym, ap}
use Rattle.std.proofs.Common.{ap₂, ◌∙◌, subst, length-append, take_at}
use mathlib.Core.List.{List, [], ◌∷◌, ◌++◌, append_assoc}
use Prim.Native.Nat.{ℕ, zero, suc, ◌+◌, ◌*◌, ◌≤◌, ◌<◌}
use native.Mathlib.Omega.{arith}
use Rattle.std.proofs.Math.ListN.{length}
use Rattle.lists.specs.Parts.{part, part_right}
use Rattle.layout.specs.Layout.{multiframe_octets, header_octets, stream_octets, most_multiframes, sync_first, sync_second, inverse_first, inverse_second}
use Rattle.choices.specs.declared.Choices.{Choices}
use Rattle.tables.specs.Tables.{Tables, zero_tables}
use Rattle.cutting.specs.Cutting.{Cutting, whole, cutting}
use Rattle.cutting.specs.Laws.{Chunk, multiframe, inverse, octets_of, places_of, Proper}
use Rattle.cutting.proofs.Laws.{cut_chunks, places_placed}
use Rattle.reader.specs.Reading.{reading}
use Rattle.reader.specs.declared.Summary.{Summary}
use Rattle.demands_met.specs.Met.{hurt_image, says24}
use Rattle.recordings.specs.Same.{same_read}
use Rattle.recordings.specs.Chunks.{multiframes_in, multiframe_count, places_count}

-- ---- chunks without their inverse syncs
abbrev pub plain : List Chunk → List Chunk
plain [] = []
plain (multiframe f ∷ cs) = multiframe f ∷ plain cs
plain (inverse ∷ cs) = plain cs

same_multiframes : (cs : List Chunk) → multiframes_in (plain cs) ≡ multiframes_in cs
same_multiframes [] = refl
same_multiframes (multiframe f ∷ cs) = ap (λ (l : List (List ℕ)). f ∷ l) (same_multiframes cs)
same_multiframes (inverse ∷ cs) = same_multiframes cs

-- they are as whole as they were
pub plain_proper : (cs : List Chunk) → Proper cs → Proper (plain cs)
plain_proper [] ok = ok
plain_proper (multiframe f ∷ cs) ok = (ok.0, ok.1, ok.2, plain_proper cs ok.3)
plain_proper (inverse ∷ cs) ok = plain_proper cs ok

-- at the k-th place stands the k-th multiframe
at_places : (cs : List Chunk) (pre : List ℕ) (k : ℕ) → Proper cs → k < length (places_of (length pre) cs)
    → part (get_or (places_of (length pre) cs) k 0) multiframe_octets (pre ++ octets_of cs) ≡ get_or (multiframes_in cs) k []
at_places [] pre k ok h = absurd (omega arith)
at_places (multiframe f ∷ cs) pre zero ok h =
    part_right pre (f ++ octets_of cs) (length pre) multiframe_octets refl ∙ take_at f (octets_of cs) multiframe_octets ok.0
at_places (multiframe f ∷ cs) pre (suc k) ok h =
    let l : length (pre ++ f) ≡ length pre + multiframe_octets = length-append pre f ∙ ap (λ (n : ℕ). length pre + n) ok.0 in
    let x = at_places cs (pre ++ f) k ok.3 (subst (λ (n : ℕ). k < length (places_of n cs)) (sym l) (omega arith)) in
    ap₂ (λ (n : ℕ) (o : List ℕ). part (get_or (places_of n cs) k 0) multiframe_octets o) (sym l) (sym (append_assoc pre f (octets_of cs))) ∙ x
at_places (inverse ∷ cs) pre k ok h =
    let i : List ℕ = inverse_first ∷ inverse_second ∷ [] in
    let l : length (pre ++ i) ≡ length pre + 2 = length-append pre i in
    let x = at_places cs (pre ++ i) k ok (subst (λ (n : ℕ). k < length (places_of n cs)) (sym l) h) in
    ap₂ (λ (n : ℕ) (o : List ℕ). part (get_or (places_of n cs) k 0) multiframe_octets o) (sym l) (sym (append_assoc pre i (octets_of cs))) ∙ x

-- ---- THE THEOREM: whole multiframes, 1 to 255 of them, with any inverse syncs anywhere among them, are read as without them
pub inverses_change_nothing : (ch : Choices) (cs : List Chunk) → Proper cs → 0 < multiframe_count cs → multiframe_count cs ≤ most_multiframes
    → (tables : Tables) (index report : List ℕ)
    → reading ch (octets_of cs) tables index report ≡ reading ch (octets_of (plain cs)) tables index report
inverses_change_nothing ch cs ok some few tables index report =
    same_read ch (octets_of cs) (places_of 0 cs) (octets_of (plain cs)) (places_of 0 (plain cs)) count
    (λ k h. at_places cs [] k ok h ∙ sym (ap (λ (l : List (List ℕ)). get_or l k []) (same_multiframes cs))
    ∙ sym (at_places (plain cs) [] k (plain_proper cs ok) (omega (arith, count))))
    (λ k h. subst (λ (w : Cutting). k < length w.places → get_or w.places k 0 + multiframe_octets ≤ length (octets_of cs)) c₁ (places_placed (octets_of cs) k) h)
    (λ k h. subst (λ (w : Cutting). k < length w.places → get_or w.places k 0 + multiframe_octets ≤ length (octets_of (plain cs))) c₂ (places_placed (octets_of (plain cs)) k) h)
    tables index report c₁ c₂ (omega (arith, places_count cs 0))
  where
    count : length (places_of 0 cs) ≡ length (places_of 0 (plain cs))
    count = places_count cs 0 ∙ sym (ap length (same_multiframes cs)) ∙ sym (places_count (plain cs) 0)

    c₁ : cutting (octets_of cs) ≡ record { places = places_of 0 cs; ending = whole }
    c₁ = cut_chunks cs ok (omega (arith, places_count cs 0))

    c₂ : cutting (octets_of (plain cs)) ≡ record { places = places_of 0 (plain cs); ending = whole }
    c₂ = cut_chunks (plain cs) (plain_proper cs ok) (omega (arith, count, places_count cs 0))

-- how many multiframes cutting finds
abbrev pub found : List ℕ → ℕ
found s = length (cutting s).places

-- ---- ANY NUMBER BEFORE, BETWEEN AND BEHIND the multiframes of an image: g k inverse syncs before multiframe k, and g m behind the last
-- n inverse syncs
abbrev pub inverses : ℕ → List ℕ
inverses zero = []
inverses (suc n) = inverse_first ∷ inverse_second ∷ inverses n

-- of octets s, the n multiframes from number k on
abbrev pub spaced_from : (ℕ → ℕ) → List ℕ → ℕ → ℕ → List ℕ
spaced_from g s k zero = inverses (g k)
spaced_from g s k (suc n) = inverses (g k) ++ (part (multiframe_octets * k) multiframe_octets s ++ spaced_from g s (suc k) n)

abbrev pub spaced : (ℕ → ℕ) → List ℕ → ℕ → List ℕ
spaced g s m = spaced_from g s 0 m

-- ---- the premises are met: a damaged image of two multiframes, one inverse sync before it, two between and three behind. It is read, as the image alone is
abbrev pub apart24 : List ℕ
apart24 =
    let s = hurt_image says24 in
    0x78 ∷ 0x4D ∷ (part 0 multiframe_octets s ++ (0x78 ∷ 0x4D ∷ 0x78 ∷ 0x4D ∷ (part multiframe_octets multiframe_octets s ++ (0x78 ∷ 0x4D ∷ 0x78 ∷ 0x4D ∷ 0x78 ∷ 0x4D ∷ []))))

pub record Apart24 (ch : Choices) (index report : List ℕ) : Type 0 where
  pub longer : length apart24 ≡ length (hurt_image says24) + 12
  pub same : reading ch apart24 zero_tables index report ≡ reading ch (hurt_image says24) zero_tables index report
  pub given : Summary
  pub is_read : (reading ch apart24 zero_tables index report).answer ≡ Ok given
  pub multiframes_2 : given.multiframes ≡ 2

-- n multiframes of a sync and zeros
abbrev pub blanks : ℕ → List Chunk
blanks zero = []
blanks (suc n) = multiframe (sync_first ∷ sync_second ∷ replicate (header_octets + stream_octets) 0) ∷ blanks n
