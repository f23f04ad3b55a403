-- `put_listing` meets its contract: what the reader answers and leaves in the report is listed. Assumes nothing.
use Rattle.std.proofs.Common.{ℕ, ◌*◌, arith, rules, refl, ap}
use Rattle.std.proofs.lemmas.List.{length-replicate}
use Rattle.layout.specs.Layout.{most_multiframes, report_octets}
use Rattle.listing.proofs.Steps.{lines_fit, listing_done, refused_done}
use Rattle.listing.proofs.put_listing.Goals as goal
use Rattle.listing.proofs.put_listing.Goals.{in-Ok, in-Err}

pub put_lines-requires : goal.put_lines-requires
put_lines-requires c =
    let f = lines_fit c.args.octets.now _ _ _ _ c.read-answer.ensures.all c.in-Ok.is in
    (omega (arith, f, c.read-answer.auto.report, length-replicate {A = ℕ} (report_octets * most_multiframes) 0), omega (arith, f, c.requires))

pub put_total-requires : goal.put_total-requires
put_total-requires c =
    let f = lines_fit c.args.octets.now _ _ _ _ c.read-answer.ensures.all c.in-Ok.is in
    omega (arith, f, c.requires, c.put_lines.ensures.upper_bound, c.put_lines.ensures.put.same_length)

pub returns : goal.returns
returns c =
    elim c.match-answer.branch [
      | in-Ok w ↦
          listing_done c.args.octets.now _ _ _ _ _ _ c.read-answer.ensures.all w.in-Ok.is w.put_lines.ensures.put w.put_total.ensures refl
          (search (rules, w.put_total.ensures.same_room, w.put_lines.ensures.put.same_room)) (ap (λ t. t.end) w.listing-is)
      | in-Err w ↦
          refused_done c.args.octets.now _ _ _ _ _ _ c.read-answer.ensures.all w.in-Err.is w.put_refusal.ensures refl
          (search (rules, w.put_refusal.ensures.same_room)) (ap (λ t. t.end) w.listing-is)
    ]
