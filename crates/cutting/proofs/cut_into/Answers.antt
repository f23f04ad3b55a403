-- `cut_into` meets its contract: each turn does what the piece that it meets asks for (`Turns`).
-- Assumes nothing.
use native.Mathlib.Omega.{arith}
use Prim.Native.Nat.{ℕ, ◌-◌}
use mathlib.Core.Path.{◌≡◌, ap, sym, ◌∙◌}
use mathlib.Core.List.{List}
use lib.ListN.{length, take, drop}
use Rattle.cutting.specs.declared.Piece.{Piece}
use Rattle.cutting.specs.declared.Piece.TheVariants.{End, Multiframe, Inverse, Unknown, CutShort, TooMany}
use Rattle.cutting.specs.Cutting.{piece_of}
use Rattle.cutting.proofs.Laws.{rest_of}
use Rattle.cutting.proofs.Steps.{Going, Next, begun, next}
use Rattle.cutting.proofs.cut_into.Goals as goal

-- the turn that the piece met asks for
turn : (s b₀ b : List ℕ) (p m : ℕ) → Going s b₀ b p m → (q : Piece) → q ≡ piece_of (take (length s - p) (drop p s)) m → Next s b₀ b p m q
turn s b₀ b p m g q e = next s b₀ b p m g q (ap (λ (l : List ℕ). piece_of l m) (sym (rest_of s p)) ∙ sym e)

pub loop-places-init : goal.loop-places-init
loop-places-init c = begun _ _ c.requires

pub offset_bounds-places-m : goal.offset_bounds-places-m
offset_bounds-places-m c = let h = turn _ _ _ _ _ c.loop-places.invariant Multiframe c.in-Multiframe.ensures in omega arith

pub bounds-places-m : goal.bounds-places-m
bounds-places-m c = let h = turn _ _ _ _ _ c.loop-places.invariant Multiframe c.in-Multiframe.ensures in omega arith

pub overflow_add-p : goal.overflow_add-p
overflow_add-p c = let h = turn _ _ _ _ _ c.loop-places.invariant Multiframe c.in-Multiframe.ensures in omega arith

pub overflow_add-m : goal.overflow_add-m
overflow_add-m c = let h = turn _ _ _ _ _ c.loop-places.invariant Multiframe c.in-Multiframe.ensures in omega arith

pub loop-places-smaller-in-Multiframe : goal.loop-places-smaller-in-Multiframe
loop-places-smaller-in-Multiframe c = let h = turn _ _ _ _ _ c.loop-places.invariant Multiframe c.in-Multiframe.ensures in omega arith

pub loop-places-preserved-in-Multiframe : goal.loop-places-preserved-in-Multiframe
loop-places-preserved-in-Multiframe c = (turn _ _ _ _ _ c.loop-places.invariant Multiframe c.in-Multiframe.ensures).2

pub overflow_add-p-in-Inverse : goal.overflow_add-p-in-Inverse
overflow_add-p-in-Inverse c = let h = turn _ _ _ _ _ c.loop-places.invariant Inverse c.in-Inverse.ensures in omega arith

pub loop-places-smaller : goal.loop-places-smaller
loop-places-smaller c = let h = turn _ _ _ _ _ c.loop-places.invariant Inverse c.in-Inverse.ensures in omega arith

pub loop-places-preserved : goal.loop-places-preserved
loop-places-preserved c = (turn _ _ _ _ _ c.loop-places.invariant Inverse c.in-Inverse.ensures).1

pub returns-in-End : goal.returns-in-End
returns-in-End c =
    let h = turn _ _ _ _ _ c.loop-places.invariant End c.in-End.ensures in
    record { answer = h.0; places = h.1 }

pub returns-in-Unknown : goal.returns-in-Unknown
returns-in-Unknown c =
    let h = turn _ _ _ _ _ c.loop-places.invariant Unknown c.in-Unknown.ensures in
    record { answer = h.0; places = h.1 }

pub returns-in-CutShort : goal.returns-in-CutShort
returns-in-CutShort c =
    let h = turn _ _ _ _ _ c.loop-places.invariant CutShort c.in-CutShort.ensures in
    record { answer = h.0; places = h.1 }

pub returns-in-TooMany : goal.returns-in-TooMany
returns-in-TooMany c =
    let h = turn _ _ _ _ _ c.loop-places.invariant TooMany c.in-TooMany.ensures in
    record { answer = h.0; places = h.1 }
