use Prim.Native.Nat.{ℕ}
use mathlib.Core.Path.{◌∙◌, ap}
use native.Mathlib.Omega.{arith}
use Rattle.std.specs.Prelude.{Option, unwrap_or}
use Rattle.classname.specs.Name.{classes}
use Rattle.infotag.proofs.Words.{nothing_there, no_zero, zero_within, class_named}
use Rattle.infotag.proofs.tag.class_at.Goals as goal

pub returns-then-stop-from : goal.returns-then-stop-from
returns-then-stop-from c = nothing_there _ _ _ c.min-stop.ensures c.if-stop-from.true

pub returns-in_err-last : goal.returns-in_err-last
returns-in_err-last c = rw c.from_residual.ensures (no_zero _ _ _ c.min-stop.ensures c.first_byte.ensures c.in_err-last.was)

pub overflow_add-last : goal.overflow_add-last
overflow_add-last c = omega (arith, zero_within _ _ _ c.min-stop.ensures c.first_byte.ensures c.in_ok-last.was)

pub slice_bounds-class_of-end : goal.slice_bounds-class_of-end
slice_bounds-class_of-end c = omega (arith, zero_within _ _ _ c.min-stop.ensures c.first_byte.ensures c.in_ok-last.was)

pub returns : goal.returns
returns c = class_named _ _ _ c.min-stop.ensures c.first_byte.ensures c.in_ok-last.was (c.unwrap_or.ensures ∙ ap (λ (x : Option ℕ). unwrap_or x classes) c.class_of.ensures)
