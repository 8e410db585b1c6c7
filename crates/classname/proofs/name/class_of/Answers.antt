use mathlib.Core.Path.{refl}
use Rattle.wire.specs.Equal.{eq_bytes}
use Rattle.classname.specs.Name.{name_of}
use Rattle.classname.proofs.Tables.{none_named, part_within, rest_same, rest_other}
use Rattle.classname.proofs.name.class_of.Goals as goal

pub returns-in_err-class : goal.returns-in_err-class
returns-in_err-class c = rw c.from_residual.ensures (none_named _ c.be8.ensures c.in_err-class.ensures)

pub slice_bounds-same-end : goal.slice_bounds-same-end
unfolding name_of
slice_bounds-same-end c = part_within c.args.name.now c.be8.ensures c.in_ok-class.ensures _ c.be8-from.ensures _ refl

pub returns-then-same : goal.returns-then-same
unfolding name_of eq_bytes
returns-then-same c = rest_same _ c.be8.ensures c.in_ok-class.ensures _ c.be8-from.ensures _ refl c.same.ensures c.if-same.true

pub returns : goal.returns
unfolding name_of eq_bytes
returns c = rest_other _ c.be8.ensures c.in_ok-class.ensures _ c.be8-from.ensures _ refl c.same.ensures c.if-same.false
