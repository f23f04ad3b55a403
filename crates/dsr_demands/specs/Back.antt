-- DEMAND 2 AT THE ENTRIES: what dsr_write wrote, dsr_read reads back, and what dsr_read read without a note, dsr_write writes again octet for
-- octet. Said in the numbers, octets and buffers that a caller in C has, of any octets that dsr_write answers with 0.
-- Assumes nothing.
use Rattle.std.specs.Prelude.{◌≡◌, List, ◌∷◌, [], ℕ, ◌*◌, ◌≤◌, ◌<◌, length, take, drop, get_or, replicate, Some, Ok}
use Rattle.std.proofs.Common.{sym, ap₂, ◌∙◌, subst, arith}
use Rattle.std.proofs.Math.Path.{ap}
use Rattle.std.proofs.lemmas.List.{length-replicate}
use Rattle.std.proofs.Math.ListN.{get_or-eq_default}
use Rattle.lists.specs.Parts.{over}
use Rattle.layout.specs.Layout.{frame_indices, multiframe_octets, index_octets, report_octets}
use Rattle.choices.specs.declared.Choices.{Choices}
use Rattle.tables.specs.Tables.{Tables}
use Rattle.image.specs.Made.{Small}
use Rattle.wrong_frames.specs.WrongFrames.{frame_count}
use Rattle.writer.specs.Writing.{multiframes_for}
use Rattle.writer.specs.Utterance.{Utterance}
use Rattle.writer.proofs.Utterance.{whole_frames}
use Rattle.reader.specs.Reading.{Outcome, reading}
use Rattle.reader.specs.declared.Summary.{Summary}
use Rattle.settling.specs.Laws.{Enough}
use Rattle.entries.specs.Entries.{answer_numbers, summary_numbers, Returned, returned, WriteReturned, dsr_write, dsr_read}
use Rattle.demands.specs.Whole.{Lent}
use Rattle.demands.proofs.WholeLaws.{front_at}
use Rattle.demands.specs.ReadsBack.{spoken, padded}
use Rattle.demands.proofs.ReadsBackLaws.{no_more, length_padded, padded_at}
use Rattle.demands.specs.ReadsBack as R
use Rattle.demands.proofs.ReadsBackLaws as RL
use Rattle.demands.specs.WritesAgain as A
use Rattle.demands.proofs.WritesAgainLaws as AL
use Rattle.dsr_demands.specs.Called.{Call, called, took, place_is, output_beyond_is}
use Rattle.dsr_demands.specs.Calls.{beyond, write_zero, read_success, read_zero}

-- ---- READS BACK
module _ (ch : Choices) (rate kind : ℕ) (indices out : List ℕ) (tables : Tables) (index report answer : List ℕ) (place : ℕ) where
  abbrev pub wrote : WriteReturned
  wrote = dsr_write rate kind indices out

  -- the octets written are read
  abbrev pub back : Returned
  back = dsr_read (take wrote.place wrote.output) (Some ch) tables index report answer place

  pub record BackPremises : Type 0 where
    -- what a caller lends are octets
    pub small : Small indices
    pub written : wrote.number ≡ 0
    -- two multiframes or more, or the old rule is asked for (02, C-20)
    pub headers : Enough ch (multiframes_for (frame_count indices))
    -- 01's tables and room, and room for six numbers
    pub lent : Lent (multiframes_for (frame_count indices)) tables index report
    pub numbers : answer_numbers ≤ length answer

  pub record ReadBack : Type 0 where
    pub octets : wrote.place ≡ multiframe_octets * multiframes_for (frame_count indices)
    pub output_beyond : drop wrote.place wrote.output ≡ drop wrote.place out
    pub number : back.number ≡ 0
    pub place_stays : back.place ≡ place
    -- rate, type, multiframes, speech, bad, end
    pub numbers : back.answer ≡ over answer 0 answer_numbers (rate ∷ kind ∷ multiframes_for (frame_count indices) ∷ frame_count indices ∷ 0 ∷ 1 ∷ [])
    -- every frame octet for octet, zeros where it was padding, and octets beyond as they came
    pub frames : (i : ℕ) → i < length indices → get_or back.index i 0 ≡ get_or indices i 0
    pub padding : (i : ℕ) → length indices ≤ i → i < index_octets * multiframes_for (frame_count indices) → get_or back.index i 0 ≡ 0
    pub index_beyond : drop (index_octets * multiframes_for (frame_count indices)) back.index ≡ drop (index_octets * multiframes_for (frame_count indices)) index
    -- no note, and octets beyond as they came
    pub notes : (i : ℕ) → i < report_octets * multiframes_for (frame_count indices) → get_or back.report i 0 ≡ 0
    pub report_beyond : drop (report_octets * multiframes_for (frame_count indices)) back.report ≡ drop (report_octets * multiframes_for (frame_count indices)) report

  module _ (p : BackPremises) where
    abbrev n : ℕ
    n = wrote.place

    call : Call rate kind indices out
    call = record { small = p.small; written = p.written }

    abbrev u : Utterance
    u = called rate kind indices out call

    abbrev m : ℕ
    m = multiframes_for (frame_count indices)

    b : R.Back ch u tables out index report
    b = RL.reads_back ch u tables out index report (record { headers = p.headers; output_room = (took rate kind indices out call).room; lent = p.lent })

    -- reading the octets written
    abbrev o : Outcome
    o = reading ch (take n wrote.output) tables index report

    o_is : R.result ch u tables out index report ≡ o
    o_is = ap (λ (k : ℕ). reading ch (take k wrote.output) tables index report) (sym (place_is rate kind indices out call))

    back_is : back ≡ returned 0 o.index o.report (over answer 0 answer_numbers (summary_numbers (spoken u))) place
    back_is = read_success answer place index report o p.numbers (spoken u) (ap (λ (x : Outcome). x.answer) (sym o_is) ∙ b.succeeds)

    index_is : back.index ≡ over index 0 (index_octets * m) (padded u)
    index_is = ap (λ (x : Returned). x.index) back_is ∙ ap (λ (x : Outcome). x.index) (sym o_is) ∙ b.frames

    report_is : back.report ≡ over report 0 (report_octets * m) (replicate (report_octets * m) 0)
    report_is = ap (λ (x : Returned). x.report) back_is ∙ ap (λ (x : Outcome). x.report) (sym o_is) ∙ b.notes

    index_octet : (i : ℕ) → i < index_octets * m → get_or back.index i 0 ≡ get_or indices i 0
    index_octet i h =
        ap (λ (l : List ℕ). get_or l i 0) index_is ∙ front_at index (padded u) (index_octets * m) i (omega (arith, length_padded u)) ∙ padded_at u i

    proof : ReadBack
    proof = record {
      octets = place_is rate kind indices out call;
      output_beyond = output_beyond_is rate kind indices out call;
      number = ap (λ (x : Returned). x.number) back_is;
      place_stays = ap (λ (x : Returned). x.place) back_is;
      numbers = ap (λ (x : Returned). x.answer) back_is;
      frames = λ i h. index_octet i (omega (arith, whole_frames u));
      padding = λ i l h. index_octet i h ∙ get_or-eq_default indices 0 l;
      index_beyond = ap (drop (index_octets * m)) index_is ∙ beyond index (padded u) (index_octets * m) p.lent.index_room (length_padded u);
      notes = λ i h.
          ap (λ (l : List ℕ). get_or l i 0) report_is
          ∙ front_at report (replicate (report_octets * m) 0) (report_octets * m) i (subst (λ (k : ℕ). i < k) (sym (length-replicate (report_octets * m) 0)) h) ∙ no_more (report_octets * m) i;
      report_beyond =
          ap (drop (report_octets * m)) report_is
          ∙ beyond report (replicate (report_octets * m) 0) (report_octets * m) p.lent.report_room (length-replicate (report_octets * m) 0);
    }

pub c_reads_back : (ch : Choices) (rate kind : ℕ) (indices out : List ℕ) (tables : Tables) (index report answer : List ℕ) (place : ℕ)
    → BackPremises ch rate kind indices out tables index report answer place → ReadBack ch rate kind indices out tables index report answer place
c_reads_back ch = proof ch

-- ---- WRITES AGAIN
module _ (ch : Choices) (s : List ℕ) (tables : Tables) (index report answer : List ℕ) (place : ℕ) (output : List ℕ) where
  abbrev pub got : Returned
  got = dsr_read s (Some ch) tables index report answer place

  -- the settings and the first `speech` frames of the index buffer, written
  abbrev pub again : WriteReturned
  again = dsr_write (get_or got.answer 0 0) (get_or got.answer 1 0) (take (frame_indices * get_or got.answer 3 0) got.index) output

  pub record AgainPremises : Type 0 where
    pub small : Small s
    pub number : got.number ≡ 0
    -- read without a note: all notes 0, end 1, no inverse sync
    pub notes_0 : (i : ℕ) → i < report_octets * get_or got.answer 2 0 → get_or got.report i 0 ≡ 0
    pub ended : get_or got.answer 5 0 ≡ 1
    pub no_inverses : length s ≡ multiframe_octets * get_or got.answer 2 0
    pub accepts : again.number ≡ 0

  pub record WrittenAgain : Type 0 where
    pub same_length : again.place ≡ length s
    pub same_octets : again.output ≡ over output 0 (length s) s

  module _ (p : AgainPremises) where
    z : (answer_numbers ≤ length answer) × ((g : Summary) × ((reading ch s tables index report).answer ≡ Ok g))
    z = read_zero answer place index report (reading ch s tables index report) p.number

    abbrev g : Summary
    g = z.1.0

    got_is : got ≡ returned 0 (reading ch s tables index report).index (reading ch s tables index report).report (over answer 0 answer_numbers (summary_numbers g)) place
    got_is = read_success answer place index report (reading ch s tables index report) z.0 g z.1.1

    at : (k : ℕ) → get_or got.answer k 0 ≡ get_or (over answer 0 answer_numbers (summary_numbers g)) k 0
    at k = ap (λ (x : Returned). get_or x.answer k 0) got_is

    again_is : again ≡ dsr_write g.settings.rate g.settings.kind (take (frame_indices * g.speech) (reading ch s tables index report).index) output
    again_is =
        ap₂ (λ (a b : ℕ). dsr_write a b (take (frame_indices * get_or got.answer 3 0) got.index) output) (at 0) (at 1)
        ∙ ap₂ (λ (n : ℕ) (l : List ℕ). dsr_write g.settings.rate g.settings.kind (take (frame_indices * n) l) output) (at 3) (ap (λ (x : Returned). x.index) got_is)

    premises : A.Premises ch s tables index report output g
    premises = record {
      small = p.small;
      succeeds = z.1.1;
      notes_0 = λ i h.
          ap (λ (x : Returned). get_or x.report i 0) (sym got_is) ∙ p.notes_0 i (subst (λ (n : ℕ). i < report_octets * n) (sym (at 2)) h);
      ended = sym (at 5) ∙ p.ended;
      no_inverses = p.no_inverses ∙ ap (λ (n : ℕ). multiframe_octets * n) (at 2);
      octets = (dsr_write g.settings.rate g.settings.kind (take (frame_indices * g.speech) (reading ch s tables index report).index) output).place;
      accepts =
          write_zero g.settings.rate g.settings.kind (take (frame_indices * g.speech) (reading ch s tables index report).index) output
          (ap (λ (w : WriteReturned). w.number) (sym again_is) ∙ p.accepts);
    }

    a : A.Again ch s tables index report output g premises
    a = AL.writes_again ch s tables index report output g premises

    written_again : WrittenAgain
    unfolding premises
    written_again = record {
      same_length = ap (λ (w : WriteReturned). w.place) again_is ∙ a.same_length;
      same_octets = ap (λ (w : WriteReturned). w.output) again_is ∙ a.same_octets;
    }

pub c_writes_again : (ch : Choices) (s : List ℕ) (tables : Tables) (index report answer : List ℕ) (place : ℕ) (output : List ℕ)
    → AgainPremises ch s tables index report answer place output → WrittenAgain ch s tables index report answer place output
c_writes_again ch = written_again ch
