-- `read_into` meets its contract: each turn does what the piece that it meets asks for (`Going`). Assumes nothing.
use Prim.Native.Nat.{ℕ, ◌+◌, ◌-◌, ◌≤◌, ◌<◌}
use mathlib.Core.Path.{◌≡◌, refl, ap, sym, ◌∙◌}
use mathlib.Core.List.{List}
use lib.ListN.{length, take, drop, length-set}
use native.Mathlib.Omega.{arith}
use Rattle.layout.specs.Layout.{multiframe_octets, most_multiframes}
use Rattle.refusals.specs.declared.Reading.TheVariants as R
use Rattle.cutting.specs.declared.Piece.{Piece}
use Rattle.cutting.specs.declared.Piece.TheVariants.{End, Multiframe, Inverse, Unknown, CutShort, TooMany}
use Rattle.cutting.specs.Cutting.{piece_of, whole, refused}
use Rattle.cutting.proofs.Laws.{rest_of}
use Rattle.beginning.proofs.Steps.{begun, ends, steps, below, inside, room_for_it, settles, goes_on, front_length, last_inside}
use Rattle.beginning.proofs.read_into.Goals as goal

-- the piece that was met
met : (s : List ℕ) (p m : ℕ) (q : Piece) → q ≡ piece_of (take (length s - p) (drop p s)) m → piece_of (drop p s) m ≡ q
met s p m q e = ap (λ (l : List ℕ). piece_of l m) (sym (rest_of s p)) ∙ sym e

pub loop-headers-init : goal.loop-headers-init
loop-headers-init c = (begun _ _ c.requires, refl)

pub reading_at-requires : goal.reading_at-requires
reading_at-requires c =
    inside c.args.choices c.args.octets.now c.loop-headers.headers c.loop-headers.p c.loop-headers.m c.loop-headers.invariant.0 (met c.args.octets.now c.loop-headers.p c.loop-headers.m Multiframe c.in-Multiframe.ensures)

pub offset_bounds-headers-m : goal.offset_bounds-headers-m
offset_bounds-headers-m c =
    let few : c.loop-headers.m < most_multiframes = below c.args.choices c.args.octets.now c.loop-headers.headers c.loop-headers.p c.loop-headers.m c.loop-headers.invariant.0 (met c.args.octets.now c.loop-headers.p c.loop-headers.m Multiframe c.in-Multiframe.ensures) in omega arith

pub bounds-headers-m : goal.bounds-headers-m
bounds-headers-m c =
    let few : c.loop-headers.m < most_multiframes = below c.args.choices c.args.octets.now c.loop-headers.headers c.loop-headers.p c.loop-headers.m c.loop-headers.invariant.0 (met c.args.octets.now c.loop-headers.p c.loop-headers.m Multiframe c.in-Multiframe.ensures) in
    omega (arith, c.loop-headers.invariant.0.room)

pub overflow_add-m : goal.overflow_add-m
overflow_add-m c =
    let few : c.loop-headers.m < most_multiframes = below c.args.choices c.args.octets.now c.loop-headers.headers c.loop-headers.p c.loop-headers.m c.loop-headers.invariant.0 (met c.args.octets.now c.loop-headers.p c.loop-headers.m Multiframe c.in-Multiframe.ensures) in omega arith

pub slice_bounds-agreed-end : goal.slice_bounds-agreed-end
slice_bounds-agreed-end c =
    room_for_it c.args.choices c.args.octets.now c.loop-headers.headers c.loop-headers.p c.loop-headers.m c.loop-headers.invariant.0 (met c.args.octets.now c.loop-headers.p c.loop-headers.m Multiframe c.in-Multiframe.ensures) c.reading_at.result c.reading_at.ensures

pub slice_bounds-agreed-end-in-Multiframe : goal.slice_bounds-agreed-end-in-Multiframe
slice_bounds-agreed-end-in-Multiframe c =
    front_length _ _ (room_for_it c.args.choices c.args.octets.now c.loop-headers.headers c.loop-headers.p c.loop-headers.m c.loop-headers.invariant.0 (met c.args.octets.now c.loop-headers.p c.loop-headers.m Multiframe c.in-Multiframe.ensures) c.reading_at.result c.reading_at.ensures)

pub agreed-requires : goal.agreed-requires
agreed-requires c =
    last_inside _ _ (room_for_it c.args.choices c.args.octets.now c.loop-headers.headers c.loop-headers.p c.loop-headers.m c.loop-headers.invariant.0 (met c.args.octets.now c.loop-headers.p c.loop-headers.m Multiframe c.in-Multiframe.ensures) c.reading_at.result c.reading_at.ensures)

pub overflow_add-m-in-Some : goal.overflow_add-m-in-Some
overflow_add-m-in-Some c =
    let few : c.loop-headers.m < most_multiframes = below c.args.choices c.args.octets.now c.loop-headers.headers c.loop-headers.p c.loop-headers.m c.loop-headers.invariant.0 (met c.args.octets.now c.loop-headers.p c.loop-headers.m Multiframe c.in-Multiframe.ensures) in omega arith

pub returns-in-Some : goal.returns-in-Some
returns-in-Some c =
    c.settled.ensures
    ∙ settles c.args.choices c.args.octets.now c.loop-headers.headers c.loop-headers.p c.loop-headers.m c.loop-headers.invariant.0 (met c.args.octets.now c.loop-headers.p c.loop-headers.m Multiframe c.in-Multiframe.ensures) c.reading_at.result c.reading_at.ensures c.agreed.result c.agreed.ensures _ c.in-Some.is

pub overflow_add-p : goal.overflow_add-p
overflow_add-p c =
    let fits : c.loop-headers.p + multiframe_octets ≤ length c.args.octets.now = inside c.args.choices c.args.octets.now c.loop-headers.headers c.loop-headers.p c.loop-headers.m c.loop-headers.invariant.0 (met c.args.octets.now c.loop-headers.p c.loop-headers.m Multiframe c.in-Multiframe.ensures) in
    omega arith

pub overflow_add-m-in-Multiframe : goal.overflow_add-m-in-Multiframe
overflow_add-m-in-Multiframe c =
    let few : c.loop-headers.m < most_multiframes = below c.args.choices c.args.octets.now c.loop-headers.headers c.loop-headers.p c.loop-headers.m c.loop-headers.invariant.0 (met c.args.octets.now c.loop-headers.p c.loop-headers.m Multiframe c.in-Multiframe.ensures) in omega arith

pub loop-headers-smaller-in-Multiframe : goal.loop-headers-smaller-in-Multiframe
loop-headers-smaller-in-Multiframe c =
    let fits : c.loop-headers.p + multiframe_octets ≤ length c.args.octets.now = inside c.args.choices c.args.octets.now c.loop-headers.headers c.loop-headers.p c.loop-headers.m c.loop-headers.invariant.0 (met c.args.octets.now c.loop-headers.p c.loop-headers.m Multiframe c.in-Multiframe.ensures) in
    omega arith

pub loop-headers-preserved-in-Multiframe : goal.loop-headers-preserved-in-Multiframe
loop-headers-preserved-in-Multiframe c = (
  goes_on c.args.choices c.args.octets.now c.loop-headers.headers c.loop-headers.p c.loop-headers.m c.loop-headers.invariant.0 (met c.args.octets.now c.loop-headers.p c.loop-headers.m Multiframe c.in-Multiframe.ensures) c.reading_at.result c.reading_at.ensures c.agreed.result c.agreed.ensures c.in_default.is,
  simp length-set c.loop-headers.invariant.1,
)

pub overflow_add-p-in-Inverse : goal.overflow_add-p-in-Inverse
overflow_add-p-in-Inverse c =
    let h = steps c.args.choices c.args.octets.now c.loop-headers.headers c.loop-headers.p c.loop-headers.m c.loop-headers.invariant.0 (met c.args.octets.now c.loop-headers.p c.loop-headers.m Inverse c.in-Inverse.ensures) in omega (arith, h.0)

pub loop-headers-smaller : goal.loop-headers-smaller
loop-headers-smaller c =
    let h = steps c.args.choices c.args.octets.now c.loop-headers.headers c.loop-headers.p c.loop-headers.m c.loop-headers.invariant.0 (met c.args.octets.now c.loop-headers.p c.loop-headers.m Inverse c.in-Inverse.ensures) in omega (arith, h.0)

pub loop-headers-preserved : goal.loop-headers-preserved
loop-headers-preserved c =
    ((steps c.args.choices c.args.octets.now c.loop-headers.headers c.loop-headers.p c.loop-headers.m c.loop-headers.invariant.0 (met c.args.octets.now c.loop-headers.p c.loop-headers.m Inverse c.in-Inverse.ensures)).1, c.loop-headers.invariant.1)

pub returns-in-End : goal.returns-in-End
returns-in-End c =
    c.at_end.ensures
    ∙ ends c.args.choices c.args.octets.now c.loop-headers.headers c.loop-headers.p c.loop-headers.m c.loop-headers.invariant.0 End whole (met c.args.octets.now c.loop-headers.p c.loop-headers.m End c.in-End.ensures) (λ u v. refl)

pub returns-in-Unknown : goal.returns-in-Unknown
returns-in-Unknown c =
    ends c.args.choices c.args.octets.now c.loop-headers.headers c.loop-headers.p c.loop-headers.m c.loop-headers.invariant.0 Unknown (refused (R.Unknown c.loop-headers.p)) (met c.args.octets.now c.loop-headers.p c.loop-headers.m Unknown c.in-Unknown.ensures) (λ u v. refl)

pub returns-in-CutShort : goal.returns-in-CutShort
returns-in-CutShort c =
    ends c.args.choices c.args.octets.now c.loop-headers.headers c.loop-headers.p c.loop-headers.m c.loop-headers.invariant.0 CutShort (refused (R.CutShort c.loop-headers.p)) (met c.args.octets.now c.loop-headers.p c.loop-headers.m CutShort c.in-CutShort.ensures) (λ u v. refl)

pub returns-in-TooMany : goal.returns-in-TooMany
returns-in-TooMany c =
    ends c.args.choices c.args.octets.now c.loop-headers.headers c.loop-headers.p c.loop-headers.m c.loop-headers.invariant.0 TooMany (refused (R.TooMany c.loop-headers.p)) (met c.args.octets.now c.loop-headers.p c.loop-headers.m TooMany c.in-TooMany.ensures) (λ u v. refl)
