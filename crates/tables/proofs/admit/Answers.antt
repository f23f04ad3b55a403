-- `admit` meets its contract: 11 by the sizes, then 10 by the first negative threshold, if there is one. Assumes nothing.
use Rattle.std.proofs.Common.{ℕ, ◌≡◌, ◌<◌, sym, ap, ◌∙◌, arith, length, List, None, false, Ok}
use Rattle.std.proofs.Math.IntN.{ℤ, pos}
use Rattle.std.specs.List.{position}
use Rattle.std.proofs.lemmas.List.Sums.{fails_before_first}
use Rattle.std.proofs.lemmas.List.Quantifiers.{position-Some}
use Rattle.lists.specs.Tests.{true_false}
use Rattle.tables.specs.Tables.{tables_of, at, negative}
use Rattle.tables.proofs.AdmittedLaws.{sizes_pass, pass_sizes, wrong_sizes, negative_refused, right_passes}
use Rattle.tables.proofs.admit.Goals as goal

-- where no place is found the test fails at each
nowhere : (xs : List ℤ) → position negative xs ≡ None → (k : ℕ) → k < length xs → negative (at xs k) ≡ false
nowhere xs e k h = grind (arith, fails_before_first {X = ℤ} negative xs k (pos 0))

pub returns-then-not-are_sized : goal.returns-then-not-are_sized
returns-then-not-are_sized c =
    let tables = tables_of c.args.codebook.now c.args.thresholds.now in
    sym (wrong_sizes tables (λ h. true_false (sym (sizes_pass tables h) ∙ sym c.are_sized.ensures ∙ c.if-not-are_sized.true)))

pub new-requires : goal.new-requires
new-requires c = pass_sizes (tables_of c.args.codebook.now c.args.thresholds.now) (sym c.are_sized.ensures ∙ c.if-not-are_sized.false)

pub returns-in-Some : goal.returns-in-Some
returns-in-Some c =
    let tables = tables_of c.args.codebook.now c.args.thresholds.now in
    let sizes = pass_sizes tables (sym c.are_sized.ensures ∙ c.if-not-are_sized.false) in
    let found = position-Some negative tables.thresholds c.in-Some.threshold (pos 0) (sym c.first_negative.ensures ∙ c.in-Some.is) in
    sym (negative_refused tables c.in-Some.threshold sizes (omega (arith, found.0, sizes.1), found.1, found.2))

pub returns : goal.returns
returns c =
    let tables = tables_of c.args.codebook.now c.args.thresholds.now in
    let sizes = pass_sizes tables (sym c.are_sized.ensures ∙ c.if-not-are_sized.false) in
    ap Ok c.new.ensures ∙ sym (right_passes tables (sizes, λ k h. nowhere tables.thresholds (sym c.first_negative.ensures ∙ c.in_default.is) k (omega (arith, sizes.1))))
