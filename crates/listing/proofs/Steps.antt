-- What the reading answers is what is listed, and the last step of each way through `put_listing`.
-- Assumes nothing.
use Rattle.std.specs.Prelude.{Ok, Err}
use mathlib.Core.Path.{◌≡◌, refl, sym, ap, subst, ◌∙◌}
use mathlib.Core.List.{List}
use Prim.Native.Nat.{ℕ, ◌*◌, ◌≤◌}
use native.Mathlib.Omega.{arith}
use lib.ListN.{length, replicate, length-replicate}
use Rattle.lists.specs.Rows.{joined}
use Rattle.choices.specs.Choices.{by_one_header}
use Rattle.choices.specs.declared.Choices.{Choices}
use Rattle.tables.specs.Tables.{Tables, zero_tables}
use Rattle.layout.specs.Layout.{most_multiframes, index_octets, report_octets}
use Rattle.refusals.specs.declared.Reading.{Reading}
use Rattle.cutting.specs.Cutting.{cutting}
use Rattle.deciding.specs.Deciding.{received_notes}
use Rattle.reader.specs.Reading.{Outcome, outcome, reading, finished, verdict, summary}
use Rattle.reader.proofs.ReadingLaws.{accepted}
use Rattle.reader.specs.declared.Summary.{Summary}
use Rattle.deciding.specs.Types.{Verdict}
use Rattle.reader.specs.Types.{Answer}
use Rattle.text.specs.Text.{Put}
use Rattle.text.specs.Adds.{Adds}
use Rattle.text.specs.declared.Text.{Text}
use Rattle.text.proofs.Steps.{adds_on}
use Rattle.lines.specs.Lines.{line_of}
use Rattle.last_line.specs.LastLine.{total, refusal}
use Rattle.listing.specs.Listing.{listed, reading_of, listing}

module _ (ch : Choices) (octets : List ℕ) (tables : Tables) (index report : List ℕ) where
  -- a reading that succeeds has room in the report for each of its multiframes
  pub read_fits : (s : Summary) (i r : List ℕ) → outcome (Ok s) i r ≡ reading ch octets tables index report
      → report_octets * s.multiframes ≤ length report
  unfolding reading
  read_fits s i r e = go (verdict ch octets tables (length index) (length report)) refl e
    where
      go : (v : Verdict) → verdict ch octets tables (length index) (length report) ≡ v
          → outcome (Ok s) i r ≡ finished octets tables index report (cutting octets).places v → report_octets * s.multiframes ≤ length report
      go (Err x) ev eo = let y : ◌≡◌ {A = Answer} (Ok s) (Err x) = ap (λ (o : Outcome). o.answer) eo in let z : ◌≡◌ {A = ℕ} 0 1 = cc in absurd (omega arith)
      go (Ok c) ev eo =
          let y : ◌≡◌ {A = Answer} (Ok s) (Ok (summary octets (cutting octets).places (received_notes octets (cutting octets).places tables) c))
          = ap (λ (o : Outcome). o.answer) eo in
          let w : s ≡ summary octets (cutting octets).places (received_notes octets (cutting octets).places tables) c = cc in
          let f = (accepted ch octets tables (length index) (length report) c ev).fitting in
          rw (ap (λ (q : Summary). q.multiframes) w) f.roomy.report_room

-- the report's octets of every multiframe lie in the report that is lent
pub lines_fit : (octets i r : List ℕ) (x : Answer) (s : Summary) → outcome x i r ≡ reading_of octets → x ≡ Ok s → s.multiframes ≤ most_multiframes
lines_fit octets i r x s e ex =
    let f = read_fits by_one_header octets zero_tables (replicate (index_octets * most_multiframes) 0)
    (replicate (report_octets * most_multiframes) 0) s i r (ap (λ (y : Answer). outcome y i r) (sym ex) ∙ e) in
    omega (arith, f, length-replicate {A = ℕ} (report_octets * most_multiframes) 0)

-- and its listing is that of its answer and report
pub listed_is : (octets i r : List ℕ) (x : Answer) → outcome x i r ≡ reading_of octets → listed r x ≡ listing octets
unfolding listing
listed_is octets i r x e = ap (λ (o : Outcome). listed o.report o.answer) e

-- text put into an empty one, which lies in the buffer n and ends at e
front : {f : List ℕ} {a b : Text} (n : List ℕ) (e : ℕ) → Adds f a b → a.end ≡ 0 → n ≡ b.room.now → e ≡ b.end → Put f a.room.now 0 n e
front n e p z en ee = rw (← z, en, ee) p.put

pub listing_done : (octets i r : List ℕ) (x : Answer) (s : Summary) {a b c : Text} (n : List ℕ) (e : ℕ) → outcome x i r ≡ reading_of octets → x ≡ Ok s
    → Adds (joined (line_of r) s.multiframes) a b → Adds (total s) b c → a.end ≡ 0 → n ≡ c.room.now → e ≡ c.end → Put (listing octets) a.room.now 0 n e
listing_done octets i r x s {a} n e eo ex p q z en ee =
    subst (λ (y : List ℕ). Put y a.room.now 0 n e) (ap (listed r) (sym ex) ∙ listed_is octets i r x eo) (front n e (adds_on p q) z en ee)

pub refused_done : (octets i r : List ℕ) (x : Answer) (y : Reading) {a b : Text} (n : List ℕ) (e : ℕ) → outcome x i r ≡ reading_of octets → x ≡ Err y
    → Adds (refusal y) a b → a.end ≡ 0 → n ≡ b.room.now → e ≡ b.end → Put (listing octets) a.room.now 0 n e
refused_done octets i r x y {a} n e eo ex p z en ee =
    subst (λ (l : List ℕ). Put l a.room.now 0 n e) (ap (listed r) (sym ex) ∙ listed_is octets i r x eo) (front n e p z en ee)
